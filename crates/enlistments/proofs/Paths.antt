-- What a path names has numbers that a path can name.
use Rattle.std.specs.Prelude.{ℕ, List, Option, Some, None, Bool, true, false, nat_lt, ◌&&◌, ◌^◌, if◌then◌else◌, bytes_eq, codes, decimal, option_map, option_and_then, ◌≡◌, ◌≤◌, ◌<◌, refl}
use Rattle.std.proofs.Common.{arith}
use Rattle.std.proofs.lemmas.Bool.{ltb-true}
use Rattle.at_base.specs.Numbers.{Numbers}
use Rattle.at_base.specs.IdText.{IsId, hyphen}
use Rattle.at_base.specs.declared.notice.Kind.{Kind}
use Rattle.at_base.specs.declared.notice.Kind.TheVariants as kinds
use Rattle.at_base.specs.declared.target.Target.{Target}
use Rattle.at_base.specs.declared.target.Target.TheVariants as targets
use Rattle.endpoints.specs.Addresses.{after_prefix, behind, digits_value, id_of, number_of, or_else, seat_of, slash, split_at, target_of, target_at}
use Rattle.model_laws.proofs.DecisionLaws.{IfThere}
use Rattle.agreement.specs.Places.{HasPath}

or_there : {A : Type 0} (P : A → Type 0) (a b : Option A) → IfThere P a → IfThere P b → IfThere P (or_else a b)
or_there P None b h k = k
or_there P (Some x) b h k = h

then_there : {A B : Type 0} (P : B → Type 0) (f : A → Option B) (o : Option A) → ((a : A) → o ≡ Some a → IfThere P (f a)) → IfThere P (option_and_then f o)
then_there P f None h = tt
then_there P f (Some a) h = h a refl

map_there : {A B : Type 0} (P : B → Type 0) (f : A → B) (o : Option A) → ((a : A) → o ≡ Some a → P (f a)) → IfThere P (option_map f o)
map_there P f None h = tt
map_there P f (Some a) h = h a refl

either_there : {A : Type 0} (P : A → Type 0) (b : Bool) (x y : Option A) → IfThere P x → IfThere P y → IfThere P (if b then x else y)
either_there P true x y h k = h
either_there P false x y h k = k

there : {A : Type 0} (P : A → Type 0) (o : Option A) (a : A) → IfThere P o → o ≡ Some a → P a
there P None a h e = absurd cc
there P (Some x) a h e = let same : x ≡ a = cc in rw (← same) h

abbrev IsWithin : ℕ → ℕ → Type 0
IsWithin bound n = (1 ≤ n) × (n < bound)

number_within : (bound : ℕ) (bytes : List ℕ) → IfThere (IsWithin bound) (number_of bound bytes)
number_within bound bytes = then_there (IsWithin bound) _ (digits_value 0 bytes) (λ n e. by_tests n (nat_lt 0 n) (nat_lt n bound) (bytes_eq (decimal n) bytes) refl refl)
  where
    by_tests : (n : ℕ) (a b c : Bool) → nat_lt 0 n ≡ a → nat_lt n bound ≡ b → IfThere (IsWithin bound) (if a && b && c then Some n else None)
    by_tests n true true true e f = (omega (arith, ltb-true 0 n e), ltb-true n bound f)
    by_tests n true true false e f = tt
    by_tests n true false c e f = tt
    by_tests n false b c e f = tt

id_within : (bytes : List ℕ) → IfThere IsId (id_of bytes)
id_within bytes =
    then_there IsId _ (split_at hyphen bytes)
    (λ p e. then_there IsId _ (number_of (2 ^ 32) p.0)
    (λ i f. map_there IsId _ (number_of (2 ^ 32) p.1)
    (λ c g.
    let (a, b) = there (IsWithin (2 ^ 32)) (number_of (2 ^ 32) p.0) i (number_within (2 ^ 32) p.0) f in
    let (h, k) = there (IsWithin (2 ^ 32)) (number_of (2 ^ 32) p.1) c (number_within (2 ^ 32) p.1) g in
    record { incarnation_least = a; incarnation_most = b; counter_least = h; counter_most = k })))

seat_within : (kind : Kind) (bytes : List ℕ) → IfThere HasPath (seat_of kind bytes)
seat_within kind bytes =
    then_there HasPath _ (split_at slash bytes)
    (λ p e. then_there HasPath _ (id_of p.0)
    (λ id f. map_there HasPath _ (number_of (2 ^ 16) p.1)
    (λ n g.
    let (a, b) = there (IsWithin (2 ^ 16)) (number_of (2 ^ 16) p.1) n (number_within (2 ^ 16) p.1) g in
    (there IsId (id_of p.0) id (id_within p.0) f, a, b))))

behind_there : (prefix bytes : List ℕ) (rest : List ℕ → Option Target) → ((more : List ℕ) → IfThere HasPath (rest more)) → IfThere HasPath (behind prefix rest bytes)
behind_there prefix bytes rest h = then_there HasPath rest (after_prefix prefix bytes) (λ more e. h more)

named : (f : Numbers → Target) (bytes : List ℕ) → ((id : Numbers) → IsId id → HasPath (f id)) → IfThere HasPath (option_map f (id_of bytes))
named f bytes h = map_there HasPath f (id_of bytes) (λ id e. h id (there IsId (id_of bytes) id (id_within bytes) e))

-- what follows each prefix, in turn
abbrev Part : Type 0
Part = List ℕ → Option Target

abbrev from_volatile : Part
from_volatile path = behind (codes "/p/v/") (λ r. option_map (λ id. targets.Participant id kinds.Volatile) (id_of r)) path

volatile_within : (path : List ℕ) → IfThere HasPath (from_volatile path)
volatile_within path = behind_there (codes "/p/v/") path (λ r. option_map (λ id. targets.Participant id kinds.Volatile) (id_of r)) (λ more. named (λ id. targets.Participant id kinds.Volatile) more (λ id k. k))

abbrev from_durable : Part
from_durable path = or_else (behind (codes "/p/d/") (λ r. option_map (λ id. targets.Participant id kinds.Durable) (id_of r)) path) (from_volatile path)

durable_within : (path : List ℕ) → IfThere HasPath (from_durable path)
durable_within path = or_there HasPath (behind (codes "/p/d/") (λ r. option_map (λ id. targets.Participant id kinds.Durable) (id_of r)) path) (from_volatile path) (behind_there (codes "/p/d/") path (λ r. option_map (λ id. targets.Participant id kinds.Durable) (id_of r)) (λ more. named (λ id. targets.Participant id kinds.Durable) more (λ id k. k))) (volatile_within path)

abbrev from_volatile_seat : Part
from_volatile_seat path = or_else (behind (codes "/c/v/") (seat_of kinds.Volatile) path) (from_durable path)

volatile_seat_within : (path : List ℕ) → IfThere HasPath (from_volatile_seat path)
volatile_seat_within path = or_there HasPath (behind (codes "/c/v/") (seat_of kinds.Volatile) path) (from_durable path) (behind_there (codes "/c/v/") path (seat_of kinds.Volatile) (λ more. seat_within kinds.Volatile more)) (durable_within path)

abbrev from_durable_seat : Part
from_durable_seat path = or_else (behind (codes "/c/d/") (seat_of kinds.Durable) path) (from_volatile_seat path)

durable_seat_within : (path : List ℕ) → IfThere HasPath (from_durable_seat path)
durable_seat_within path = or_there HasPath (behind (codes "/c/d/") (seat_of kinds.Durable) path) (from_volatile_seat path) (behind_there (codes "/c/d/") path (seat_of kinds.Durable) (λ more. seat_within kinds.Durable more)) (volatile_seat_within path)

abbrev from_initiator : Part
from_initiator path = or_else (behind (codes "/i/") (λ r. option_map targets.Initiator (id_of r)) path) (from_durable_seat path)

initiator_within : (path : List ℕ) → IfThere HasPath (from_initiator path)
initiator_within path = or_there HasPath (behind (codes "/i/") (λ r. option_map targets.Initiator (id_of r)) path) (from_durable_seat path) (behind_there (codes "/i/") path (λ r. option_map targets.Initiator (id_of r)) (λ more. named targets.Initiator more (λ id k. k))) (durable_seat_within path)

abbrev from_completion : Part
from_completion path = or_else (behind (codes "/completion/") (λ r. option_map targets.Completion (id_of r)) path) (from_initiator path)

completion_within : (path : List ℕ) → IfThere HasPath (from_completion path)
completion_within path = or_there HasPath (behind (codes "/completion/") (λ r. option_map targets.Completion (id_of r)) path) (from_initiator path) (behind_there (codes "/completion/") path (λ r. option_map targets.Completion (id_of r)) (λ more. named targets.Completion more (λ id k. k))) (initiator_within path)

abbrev from_registration : Part
from_registration path = or_else (behind (codes "/registration/") (λ r. option_map targets.Registration (id_of r)) path) (from_completion path)

registration_within : (path : List ℕ) → IfThere HasPath (from_registration path)
registration_within path = or_there HasPath (behind (codes "/registration/") (λ r. option_map targets.Registration (id_of r)) path) (from_completion path) (behind_there (codes "/registration/") path (λ r. option_map targets.Registration (id_of r)) (λ more. named targets.Registration more (λ id k. k))) (completion_within path)

path_within : (path : List ℕ) → IfThere HasPath (target_of path)
path_within path =
    either_there HasPath (bytes_eq path (codes "/activation")) (Some targets.Activation) (if bytes_eq path (codes "/work") then Some targets.Work else from_registration path) tt
    (either_there HasPath (bytes_eq path (codes "/work")) (Some targets.Work) (from_registration path) tt (registration_within path))

pub target_within : (base address : List ℕ) (T : Target) → target_at base address ≡ Some T → HasPath T
target_within base address T e = there HasPath (target_at base address) T (then_there HasPath target_of (after_prefix base address) (λ path f. path_within path)) e
