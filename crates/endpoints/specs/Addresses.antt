-- The addresses of a node's endpoints, the targets that they name, and the names from which message ids are made.
use Rattle.std.specs.Prelude.{ℕ, List, [], ◌∷◌, ◌++◌, Option, Some, None, codes, nat_eq, nat_lt, nat_le, ◌&&◌, ◌+◌, ◌-◌, ◌*◌, ◌^◌, if◌then◌else◌, bytes_eq, length, take, drop, option_map, option_and_then, ◌≡◌, ◌≤◌, ◌<◌, refl}
use Rattle.std.specs.Fmt.{decimal, digits}
use Rattle.at_base.specs.Names.{kind_letter}
use Rattle.at_base.specs.Numbers.{Numbers}
use Rattle.at_base.specs.IdText.{IsId, id_text, hyphen}
use Rattle.at_base.specs.MessageId.{message_id_of}
use Rattle.at_base.specs.declared.epr.Epr.{Epr}
use Rattle.at_base.specs.declared.notice.Kind.{Kind}
use Rattle.at_base.specs.declared.notice.Kind.TheVariants as kinds
use Rattle.at_base.specs.declared.target.Target.{Target}
use Rattle.at_base.specs.declared.target.Target.TheVariants as targets

-- the code of `/`
abbrev pub slash : ℕ
slash = 47

-- The path of each endpoint (this project's profile).
abbrev pub path_of : Target → List ℕ
path_of targets.Activation = codes "/activation"
path_of (targets.Registration id) = codes "/registration/" ++ id_text id
path_of (targets.Completion id) = codes "/completion/" ++ id_text id
path_of (targets.Coordinator id seat) =
    codes "/c/" ++ (kind_letter seat.kind ++ (codes "/" ++ (id_text id ++ (codes "/" ++ decimal seat.number))))
path_of (targets.Participant id kind) = codes "/p/" ++ (kind_letter kind ++ (codes "/" ++ id_text id))
path_of (targets.Initiator id) = codes "/i/" ++ id_text id
path_of targets.Work = codes "/work"

-- the endpoint of a target on the node at this base
abbrev pub endpoint_of : List ℕ → Target → Epr
endpoint_of base target = record { address = base ++ path_of target; params = [] }

-- what follows the prefix
abbrev pub after_prefix : List ℕ → List ℕ → Option (List ℕ)
after_prefix prefix bytes = if bytes_eq (take (length prefix) bytes) prefix then Some (drop (length prefix) bytes) else None

-- what stands before and behind the first of this byte
abbrev pub split_at : ℕ → List ℕ → Option (List ℕ × List ℕ)
split_at c [] = None
split_at c (b ∷ bytes) =
    if nat_eq b c then Some ([], bytes) else option_map (λ p. (b ∷ p.0, p.1)) (split_at c bytes)

-- the value of decimal digits behind a number
abbrev pub digits_value : ℕ → List ℕ → Option ℕ
digits_value n [] = Some n
digits_value n (b ∷ bytes) =
    if nat_le 48 b && nat_le b 57 then digits_value (n * 10 + (b - 48)) bytes else None

-- a number of 1 up to below this bound, in decimal as it is printed
abbrev pub number_of : ℕ → List ℕ → Option ℕ
number_of bound bytes =
    option_and_then (λ n. if nat_lt 0 n && nat_lt n bound && bytes_eq (decimal n) bytes then Some n else None)
    (digits_value 0 bytes)

-- the id that these bytes are the text of
abbrev pub id_of : List ℕ → Option Numbers
id_of bytes =
    option_and_then
    (λ p. option_and_then
    (λ i. option_map (λ c. record { incarnation = i; counter = c }) (number_of (2 ^ 32) p.1))
    (number_of (2 ^ 32) p.0))
    (split_at hyphen bytes)

-- an id, a slash and a seat's number
abbrev pub seat_of : Kind → List ℕ → Option Target
seat_of kind bytes =
    option_and_then
    (λ p. option_and_then
    (λ id. option_map (λ n. targets.Coordinator id (record { number = n; kind = kind })) (number_of (2 ^ 16) p.1))
    (id_of p.0))
    (split_at slash bytes)

abbrev pub or_else : {A : Type 0} → Option A → Option A → Option A
or_else (Some a) other = Some a
or_else None other = other

-- what the rest behind this text gives
abbrev pub behind : List ℕ → (List ℕ → Option Target) → List ℕ → Option Target
behind prefix rest bytes = option_and_then rest (after_prefix prefix bytes)

-- the target that a path names: the inverse of path_of
abbrev pub target_of : List ℕ → Option Target
target_of path =
    if bytes_eq path (codes "/activation") then Some targets.Activation
    else if bytes_eq path (codes "/work") then Some targets.Work
    else or_else (behind (codes "/registration/") (λ r. option_map targets.Registration (id_of r)) path)
    (or_else (behind (codes "/completion/") (λ r. option_map targets.Completion (id_of r)) path)
    (or_else (behind (codes "/i/") (λ r. option_map targets.Initiator (id_of r)) path)
    (or_else (behind (codes "/c/d/") (seat_of kinds.Durable) path)
    (or_else (behind (codes "/c/v/") (seat_of kinds.Volatile) path)
    (or_else (behind (codes "/p/d/") (λ r. option_map (λ id. targets.Participant id kinds.Durable) (id_of r)) path)
    (behind (codes "/p/v/") (λ r. option_map (λ id. targets.Participant id kinds.Volatile) (id_of r)) path))))))

-- the target on the node at this base that an address names
abbrev pub target_at : List ℕ → List ℕ → Option Target
target_at base address = option_and_then target_of (after_prefix base address)

-- Its numbers are those that a path can name.
abbrev pub IsWritten : Target → Type 0
IsWritten targets.Activation = Unit {0}
IsWritten targets.Work = Unit {0}
IsWritten (targets.Registration id) = IsId id
IsWritten (targets.Completion id) = IsId id
IsWritten (targets.Coordinator id seat) = IsId id × (1 ≤ seat.number) × (seat.number < 2 ^ 16)
IsWritten (targets.Participant id kind) = IsId id
IsWritten (targets.Initiator id) = IsId id

-- The path of a target names it, and no other path does.
pub record PathsNameTargets : Type 0 where
  pub named : (target : Target) → IsWritten target → target_of (path_of target) ≡ Some target
  pub alone : (path : List ℕ) (target : Target) → target_of path ≡ Some target → IsWritten target × (path ≡ path_of target)

-- The names of requests that wait for an answer (this project's profile): the sender's own address, and what is asked.
abbrev pub create_id : List ℕ → Target → List ℕ
create_id base own = message_id_of (base ++ (path_of own ++ codes "#create"))

abbrev pub register_id : List ℕ → Target → List ℕ
register_id base own = message_id_of (base ++ (path_of own ++ codes "#register"))

-- of the n-th Work of an activity
abbrev pub work_id : List ℕ → Target → ℕ → List ℕ
work_id base own n = message_id_of (base ++ (path_of own ++ (codes "#work-" ++ decimal n)))

-- The URIs of WS-AtomicTransaction 1.2: the coordination type (section 3.1), and the protocols (sections 3.2 and 3.3).
abbrev pub atomic : List ℕ
atomic = codes "http://docs.oasis-open.org/ws-tx/wsat/2006/06"

abbrev pub completion_protocol : List ℕ
completion_protocol = atomic ++ codes "/Completion"

abbrev pub protocol_of : Kind → List ℕ
protocol_of kinds.Volatile = atomic ++ codes "/Volatile2PC"
protocol_of kinds.Durable = atomic ++ codes "/Durable2PC"

-- A base with or without a slash at its end, without it.
abbrev pub without_slash : List ℕ → List ℕ
without_slash [] = []
without_slash (b ∷ []) = if nat_eq b slash then [] else b ∷ []
without_slash (b ∷ (c ∷ rest)) = b ∷ without_slash (c ∷ rest)

pub reads_a_seat :
    target_of (codes "/c/d/1-1/2")
    ≡ Some (targets.Coordinator (record { incarnation = 1; counter = 1 }) (record { number = 2; kind = kinds.Durable }))
unfolding digits
reads_a_seat = refl

pub reads_no_leading_zero : target_of (codes "/p/d/1-01") ≡ None
unfolding digits
reads_no_leading_zero = refl
