-- The address of a durable seat names its transaction, by the base of its node.
use Rattle.std.specs.Prelude.{codes, decimal, option_and_then, option_map}
use Rattle.std.proofs.Common.{ℕ, suc, List, [], ◌∷◌, ◌++◌, ◌≡◌, ◌<◌, ◌+◌, ◌^◌, Bool, true, false, Option, Some, None, nat_eq, cond, sym, ap, subst, ◌∙◌, arith, refl}
use Rattle.std.proofs.lemmas.Bool.{eqb-true}
use Rattle.std.proofs.lemmas.List.{append_assoc, append-nil}
use Rattle.at_base.specs.IdText.{IsId, hyphen, id_text}
use Rattle.at_base.specs.Numbers.{Numbers}
use Rattle.at_base.specs.declared.notice.Kind.{Kind}
use Rattle.at_base.specs.declared.notice.Kind.TheVariants as kinds
use Rattle.at_base.specs.declared.target.Target.{Target}
use Rattle.at_base.specs.declared.target.Target.TheVariants as targets
use Rattle.endpoints.specs.Addresses.{IsWritten, after_prefix, or_else, path_of, slash, target_at, target_of}
use Rattle.endpoints.proofs.Inverses.{behind_prefix, no_digit, paths_name_targets}
use Rattle.endpoints.proofs.TextSplits.{Lacks}
use Rattle.audit_at.specs.Superiors.{durable_seat, item_at, named, named_at, named_from, of_kind}
use Rattle.audit_at.specs.declared.item.Item.{Item}

-- how many slashes there are
abbrev slashes : List ℕ → ℕ
slashes [] = 0
slashes (b ∷ bytes) = cond (nat_eq b slash) (suc (slashes bytes)) (slashes bytes)

joined : (xs ys : List ℕ) → slashes (xs ++ ys) ≡ slashes xs + slashes ys
joined [] ys = omega arith
joined (x ∷ xs) ys = by_test (nat_eq x slash) (joined xs ys)
  where
    by_test : (c : Bool) → slashes (xs ++ ys) ≡ slashes xs + slashes ys → cond c (suc (slashes (xs ++ ys))) (slashes (xs ++ ys)) ≡ cond c (suc (slashes xs)) (slashes xs) + slashes ys
    by_test true e = omega (arith, e)
    by_test false e = e

without : (xs : List ℕ) → Lacks slash xs → slashes xs ≡ 0
without [] h = refl
without (x ∷ xs) h = by_test (nat_eq x slash) refl (without xs (λ i l. h (suc i) (omega (arith, l))))
  where
    by_test : (c : Bool) → nat_eq x slash ≡ c → slashes xs ≡ 0 → cond c (suc (slashes xs)) (slashes xs) ≡ 0
    by_test true f e = absurd (h 0 (omega arith) (eqb-true x slash f))
    by_test false f e = e

in_number : (n : ℕ) → n < 2 ^ 64 → slashes (decimal n) ≡ 0
in_number n small = without (decimal n) (no_digit slash n (omega arith) small)

in_id : (id : Numbers) → IsId id → slashes (id_text id) ≡ 0
in_id id h =
    let whole : slashes (id_text id) ≡ slashes (decimal id.incarnation) + slashes (decimal id.counter) = joined (decimal id.incarnation) (hyphen ∷ decimal id.counter) in
    let front : slashes (decimal id.incarnation) ≡ 0 = in_number id.incarnation (omega (arith, h.incarnation_most)) in
    let back : slashes (decimal id.counter) ≡ 0 = in_number id.counter (omega (arith, h.counter_most)) in
    omega (arith, whole, front, back)

abbrev seat_at : Numbers → ℕ → Target
seat_at id k = targets.Coordinator id (record { number = k; kind = kinds.Durable })

-- behind the slash with which a seat's path begins
abbrev seat_rest : Numbers → ℕ → List ℕ
seat_rest id k = codes "c/d/" ++ (id_text id ++ slash ∷ decimal k)

in_seat : (id : Numbers) (k : ℕ) → IsWritten (seat_at id k) → slashes (slash ∷ seat_rest id k) ≡ 4
in_seat id k (written, least, most) =
    let whole : slashes (slash ∷ seat_rest id k) ≡ suc (suc (suc (slashes (id_text id ++ slash ∷ decimal k)))) = refl in
    let parts : slashes (id_text id ++ slash ∷ decimal k) ≡ slashes (id_text id) + suc (slashes (decimal k)) = joined (id_text id) (slash ∷ decimal k) in
    let front : slashes (id_text id) ≡ 0 = in_id id written in
    let back : slashes (decimal k) ≡ 0 = in_number k (omega (arith, most)) in
    omega (arith, whole, parts, front, back)

-- texts that end in as many slashes, from a slash on, begin alike
same_front : (xs ys p q : List ℕ) → slashes p ≡ slashes q → xs ++ slash ∷ p ≡ ys ++ slash ∷ q → xs ≡ ys
same_front [] [] p q c e = refl
same_front [] (y ∷ ys) p q c e =
    let f : p ≡ ys ++ slash ∷ q = cc in
    let parts : slashes (ys ++ slash ∷ q) ≡ slashes ys + suc (slashes q) = joined ys (slash ∷ q) in
    let same : slashes p ≡ slashes (ys ++ slash ∷ q) = ap slashes f in
    absurd (omega (arith, c, parts, same))
same_front (x ∷ xs) [] p q c e =
    let f : xs ++ slash ∷ p ≡ q = cc in
    let parts : slashes (xs ++ slash ∷ p) ≡ slashes xs + suc (slashes p) = joined xs (slash ∷ p) in
    let same : slashes (xs ++ slash ∷ p) ≡ slashes q = ap slashes f in
    absurd (omega (arith, c, parts, same))
same_front (x ∷ xs) (y ∷ ys) p q c e =
    let f : x ≡ y = cc in
    let g : xs ++ slash ∷ p ≡ ys ++ slash ∷ q = cc in
    λ i. f i ∷ same_front xs ys p q c g i

-- an address is its base and the path of its target
at_target : (address base : List ℕ) (T : Target) → target_at base address ≡ Some T → IsWritten T × (address ≡ base ++ path_of T)
at_target address base T e = by_rest (after_prefix base address) refl e
  where
    by_rest : (o : Option (List ℕ)) → after_prefix base address ≡ o → option_and_then target_of o ≡ Some T → IsWritten T × (address ≡ base ++ path_of T)
    by_rest None f g = absurd cc
    by_rest (Some rest) f g =
        let (written, text) = paths_name_targets.alone rest T g in
        (written, behind_prefix base address rest f ∙ ap (λ r. base ++ r) text)

same_base : (address base other : List ℕ) (id j : Numbers) (k l : ℕ) → target_at base address ≡ Some (seat_at id k) → target_at other address ≡ Some (seat_at j l) → base ≡ other
same_base address base other id j k l e f =
    let (one, here) = at_target address base (seat_at id k) e in
    let (two, there) = at_target address other (seat_at j l) f in
    let first : slashes (slash ∷ seat_rest id k) ≡ 4 = in_seat id k one in
    let second : slashes (slash ∷ seat_rest j l) ≡ 4 = in_seat j l two in
    let left : slashes (slash ∷ seat_rest id k) ≡ suc (slashes (seat_rest id k)) = refl in
    let right : slashes (slash ∷ seat_rest j l) ≡ suc (slashes (seat_rest j l)) = refl in
    same_front base other (seat_rest id k) (seat_rest j l) (omega (arith, first, second, left, right)) (sym here ∙ there)

same_id_at : (o : Option Target) (id j : Numbers) (k l : ℕ) → o ≡ Some (seat_at id k) → o ≡ Some (seat_at j l) → j ≡ id
same_id_at o id j k l e f = let g : Some (seat_at j l) ≡ Some (seat_at id k) = sym f ∙ e in cc

-- what is named behind a base
record SeatAt (address base : List ℕ) (item : Item) : Type 0 where
  id : Numbers
  number : ℕ
  target : target_at base address ≡ Some (seat_at id number)
  is : item ≡ item_at base id

seat_named : (address base : List ℕ) (item : Item) → named_at address base ≡ Some item → SeatAt address base item
seat_named address base item e = by_target (target_at base address) refl e
  where
    by_kind : (id : Numbers) (number : ℕ) (kind : Kind) → target_at base address ≡ Some (targets.Coordinator id (record { number = number; kind = kind }))
        → option_map (item_at base) (of_kind id kind) ≡ Some item → SeatAt address base item
    by_kind id number kinds.Durable f g =
        let same : item_at base id ≡ item = cc in
        record { id = id; number = number; target = f; is = sym same }
    by_kind id number kinds.Volatile f g = absurd cc

    by_target : (o : Option Target) → target_at base address ≡ o → option_map (item_at base) (durable_seat o) ≡ Some item → SeatAt address base item
    by_target None f g = absurd cc
    by_target (Some (targets.Coordinator id seat)) f g = by_kind id seat.number seat.kind f g
    by_target (Some targets.Activation) f g = absurd cc
    by_target (Some targets.Work) f g = absurd cc
    by_target (Some (targets.Registration id)) f g = absurd cc
    by_target (Some (targets.Completion id)) f g = absurd cc
    by_target (Some (targets.Participant id kind)) f g = absurd cc
    by_target (Some (targets.Initiator id)) f g = absurd cc

-- whatever is named at a slash is this item, and it is named at one
named_there : (address base : List ℕ) (item : Item) → ((front : List ℕ) (it : Item) → named_at address front ≡ Some it → it ≡ item) → named_at address base ≡ Some item
    → (front r more : List ℕ) → front ++ r ≡ base → named_from address front (r ++ slash ∷ more) ≡ Some item
named_there address base item only there front [] more e =
    ap (λ o. or_else o (named_from address (front ++ slash ∷ []) more)) (ap (named_at address) (sym (append-nil front) ∙ e) ∙ there)
named_there address base item only there front (b ∷ r) more e =
    by_hit (cond (nat_eq b slash) (named_at address front) None) (λ it f. hit it (nat_eq b slash) f)
    (named_there address base item only there (front ++ b ∷ []) r more (append_assoc front (b ∷ []) r ∙ e))
  where
    hit : (it : Item) (c : Bool) → cond c (named_at address front) None ≡ Some it → it ≡ item
    hit it true f = only front it f
    hit it false f = absurd cc

    by_hit : (o : Option Item) → ((it : Item) → o ≡ Some it → it ≡ item) → named_from address (front ++ b ∷ []) (r ++ slash ∷ more) ≡ Some item
        → or_else o (named_from address (front ++ b ∷ []) (r ++ slash ∷ more)) ≡ Some item
    by_hit None h k = k
    by_hit (Some it) h k = ap Some (h it refl)

pub names_seat : (address base : List ℕ) (id : Numbers) (k : ℕ) → target_at base address ≡ Some (targets.Coordinator id (record { number = k; kind = kinds.Durable }))
    → named address ≡ Some (item_at base id)
names_seat address base id k e = ap (named_from address []) whole ∙ named_there address base (item_at base id) only (ap (λ o. option_map (item_at base) (durable_seat o)) e) [] base (seat_rest id k) refl
  where
    whole : address ≡ base ++ slash ∷ seat_rest id k
    whole = (at_target address base (seat_at id k) e).1

    only : (front : List ℕ) (it : Item) → named_at address front ≡ Some it → it ≡ item_at base id
    only front it h =
        let s : SeatAt address front it = seat_named address front it h in
        let same : base ≡ front = same_base address base front id s.id k s.number e s.target in
        let own : s.id ≡ id = same_id_at (target_at base address) id s.id k s.number e (subst (λ f. target_at f address ≡ Some (seat_at s.id s.number)) (sym same) s.target) in
        s.is ∙ (λ i. item_at (sym same i) (own i))
