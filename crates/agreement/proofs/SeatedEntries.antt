-- Registrations by their seats: what a step accepts, and that seats in order have a number each.
use Rattle.std.specs.Prelude.{ℕ, List, [], ◌∷◌, ◌++◌, Option, Some, None, length, map, take, drop, ◌+◌, ◌≡◌, ◌<◌, ◌⊎◌, refl}
use Rattle.std.specs.List.{AllByRecursion}
use Rattle.std.proofs.Common.{inl, inr, sym, subst, ap, arith, ◌∙◌}
use Rattle.std.proofs.lemmas.List.{map-append, take-append-drop}
use Rattle.at_base.specs.Numbers.{Numbers}
use Rattle.at_base.specs.declared.target.Seat.{Seat}
use Rattle.at_model.specs.Book.{Book, Completion, Enlistment, Transaction}
use Rattle.at_model.specs.Step.{transaction_at}
use Rattle.at_model.specs.World.{Accepted, Node, accepted_by, accepted_completion, accepted_in, accepted_seat, who_of, Hosts}
use Rattle.model_laws.specs.Agreement.{IsIn}
use Rattle.model_laws.specs.PhaseAnswers.{Accepted as Seating, accepted_as}
use Rattle.model_laws.specs.BookBounds.{AreNumbered}
use Rattle.model_laws.proofs.DecisionLaws.{all_more, in_front}
use Rattle.model_laws.proofs.Registrations.{nodes_of}
use Rattle.model_laws.proofs.SeatRegistrations.{in_back}

-- lists
pub all_mapped : {A B : Type 0} (P : B → Type 0) (f : A → B) (xs : List A) → AllByRecursion P (map f xs) → AllByRecursion (λ x. P (f x)) xs
all_mapped P f [] h = tt
all_mapped P f (x ∷ xs) (h, k) = (h, all_mapped P f xs k)

pub each_is_in : {A : Type 0} (xs : List A) → AllByRecursion (λ x. IsIn x xs) xs
each_is_in [] = tt
each_is_in {A = A} (x ∷ xs) = (inl refl, all_more (λ y. IsIn y xs) (λ y. IsIn y (x ∷ xs)) xs (λ y i. inr i) (each_is_in xs))

pub one_of : {A : Type 0} (P : A → Type 0) (xs : List A) (x : A) → AllByRecursion P xs → IsIn x xs → P x
one_of P [] x h i = absurd i
one_of P (y ∷ ys) x (h, k) (inl e) = subst P (sym e) h
one_of P (y ∷ ys) x (h, k) (inr i) = one_of P ys x k i

pub all_of : {A : Type 0} (P : A → Type 0) (xs : List A) → ((x : A) → IsIn x xs → P x) → AllByRecursion P xs
all_of P [] f = tt
all_of P (x ∷ xs) f = (f x (inl refl), all_of P xs (λ y i. f y (inr i)))

pub in_either : {A : Type 0} (x : A) (xs ys : List A) → IsIn x (xs ++ ys) → IsIn x xs ⊎ IsIn x ys
in_either x [] ys h = inr h
in_either x (y ∷ xs) ys (inl e) = inl (inl e)
in_either x (y ∷ xs) ys (inr h) = further (in_either x xs ys h)
  where
    further : IsIn x xs ⊎ IsIn x ys → IsIn x (y ∷ xs) ⊎ IsIn x ys
    further (inl i) = inl (inr i)
    further (inr i) = inr i

-- a seat as it was accepted
abbrev pub entry : Hosts → ℕ → Numbers → Seating → Accepted
entry hosts n id a = record {
  transaction = record { node = n; id = id };
  seat = Some (record { number = a.number; kind = a.kind });
  participant = who_of (nodes_of hosts) a.participant;
}

abbrev pub entries : Hosts → ℕ → Numbers → List Enlistment → List Accepted
entries hosts n id seats = map (entry hosts n id) (map accepted_as seats)

pub are_entries : (hosts : Hosts) (n : ℕ) (id : Numbers) (seats : List Enlistment) → map (accepted_seat n (nodes_of hosts) id) seats ≡ entries hosts n id seats
are_entries hosts n id [] = refl
are_entries hosts n id (s ∷ seats) = ap (λ k. entry hosts n id (accepted_as s) ∷ k) (are_entries hosts n id seats)

-- those of a transaction that has grown
pub grown_entries : (hosts : Hosts) (n : ℕ) (id : Numbers) (old t : List Enlistment) → map accepted_as (take (length old) t) ≡ map accepted_as old
    → entries hosts n id t ≡ entries hosts n id old ++ entries hosts n id (drop (length old) t)
grown_entries hosts n id old t e =
    ap (entries hosts n id) (sym (take-append-drop (length old) t)) ∙ ap (map (entry hosts n id)) (map-append accepted_as (take (length old) t) (drop (length old) t))
    ∙ map-append (entry hosts n id) (map accepted_as (take (length old) t)) (map accepted_as (drop (length old) t))
    ∙ ap (λ k. map (entry hosts n id) k ++ entries hosts n id (drop (length old) t)) e

-- numbers
later : (hosts : Hosts) (n : ℕ) (id : Numbers) (last : ℕ) (seats : List Enlistment) (a : Accepted) (s : Seat) → AreNumbered last seats → IsIn a (entries hosts n id seats) → a.seat ≡ Some s → last < s.number
later hosts n id last [] a s h i e = absurd i
later hosts n id last (x ∷ seats) a s (h, k) (inl f) e =
    let same : x.number ≡ s.number = numbers (record { number = x.number; kind = x.kind }) s (sym (ap (λ (y : Accepted). y.seat) f) ∙ e) in
    omega (arith, h, same)
  where
    numbers : (p q : Seat) → Some p ≡ Some q → p.number ≡ q.number
    numbers p q e = cc
later hosts n id last (x ∷ seats) a s (h, k) (inr i) e = omega (arith, later hosts n id (last + 1) seats a s k i e)

pub numbered_once : (hosts : Hosts) (n : ℕ) (id : Numbers) (last : ℕ) (seats : List Enlistment) (a c : Accepted) (s r : Seat) → AreNumbered last seats → IsIn a (entries hosts n id seats)
    → IsIn c (entries hosts n id seats) → a.seat ≡ Some s → c.seat ≡ Some r → s.number ≡ r.number → a ≡ c
numbered_once hosts n id last [] a c s r h i j e f g = absurd i
numbered_once hosts n id last (x ∷ seats) a c s r (h, k) (inl i) (inl j) e f g = i ∙ sym j
numbered_once hosts n id last (x ∷ seats) a c s r (h, k) (inl i) (inr j) e f g =
    let same : x.number ≡ s.number = numbers (record { number = x.number; kind = x.kind }) s (sym (ap (λ (y : Accepted). y.seat) i) ∙ e) in
    absurd (omega (arith, h, same, g, later hosts n id (last + 1) seats c r k j f))
  where
    numbers : (p q : Seat) → Some p ≡ Some q → p.number ≡ q.number
    numbers p q e = cc
numbered_once hosts n id last (x ∷ seats) a c s r (h, k) (inr i) (inl j) e f g =
    let same : x.number ≡ r.number = numbers (record { number = x.number; kind = x.kind }) r (sym (ap (λ (y : Accepted). y.seat) j) ∙ f) in
    absurd (omega (arith, h, same, g, later hosts n id (last + 1) seats a s k i e))
  where
    numbers : (p q : Seat) → Some p ≡ Some q → p.number ≡ q.number
    numbers p q e = cc
numbered_once hosts n id last (x ∷ seats) a c s r (h, k) (inr i) (inr j) e f g = numbered_once hosts n id (last + 1) seats a c s r k i j e f g

-- what a step accepts is accepted by a transaction of its book
pub record IsNew (n : ℕ) (nodes : List Node) (b : Book) (new : List Transaction) (a : Accepted) : Type 0 where
  pub by : Transaction
  pub among : IsIn by new
  pub there : IsIn a (accepted_by n nodes (transaction_at b by.id) by)

pub is_new : (n : ℕ) (nodes : List Node) (b : Book) (new : List Transaction) (a : Accepted) → IsIn a (accepted_in n nodes b new) → IsNew n nodes b new a
is_new n nodes b [] a h = absurd h
is_new n nodes b (t ∷ ts) a h = either_one (is_new n nodes b ts a) (in_either a (accepted_by n nodes (transaction_at b t.id) t) (accepted_in n nodes b ts) h)
  where
    further : IsNew n nodes b ts a → IsNew n nodes b (t ∷ ts) a
    further x = record { by = x.by; among = inr x.among; there = x.there }

    either_one : (IsIn a (accepted_in n nodes b ts) → IsNew n nodes b ts a) → IsIn a (accepted_by n nodes (transaction_at b t.id) t) ⊎ IsIn a (accepted_in n nodes b ts)
        → IsNew n nodes b (t ∷ ts) a
    either_one rest (inl i) = record { by = t; among = inl refl; there = i }
    either_one rest (inr i) = further (rest i)

pub new_in : (n : ℕ) (nodes : List Node) (b : Book) (new : List Transaction) (t : Transaction) (a : Accepted) → IsIn t new → IsIn a (accepted_by n nodes (transaction_at b t.id) t)
    → IsIn a (accepted_in n nodes b new)
new_in n nodes b [] t a i h = absurd i
new_in n nodes b (y ∷ ys) t a (inl e) h =
    in_front a (accepted_by n nodes (transaction_at b y.id) y) (accepted_in n nodes b ys) (subst (λ z. IsIn a (accepted_by n nodes (transaction_at b z.id) z)) e h)
new_in n nodes b (y ∷ ys) t a (inr i) h = in_back a (accepted_by n nodes (transaction_at b y.id) y) (accepted_in n nodes b ys) (new_in n nodes b ys t a i h)

-- by this transaction
of_completion : (n : ℕ) (nodes : List Node) (id : Numbers) (before after : Option Completion) (a : Accepted) → IsIn a (accepted_completion n nodes id before after)
    → (a.transaction ≡ record { node = n; id = id }) × (a.seat ≡ None)
of_completion n nodes id None None a h = absurd h
of_completion n nodes id None (Some c) a (inl e) = (ap (λ (y : Accepted). y.transaction) e, ap (λ (y : Accepted). y.seat) e)
of_completion n nodes id None (Some c) a (inr h) = absurd h
of_completion n nodes id (Some c) None a h = absurd h
of_completion n nodes id (Some c) (Some d) a h = absurd h

of_seat : (n : ℕ) (nodes : List Node) (id : Numbers) (seats : List Enlistment) (a : Accepted) → IsIn a (map (accepted_seat n nodes id) seats) → a.transaction ≡ record { node = n; id = id }
of_seat n nodes id [] a h = absurd h
of_seat n nodes id (s ∷ seats) a (inl e) = ap (λ (y : Accepted). y.transaction) e
of_seat n nodes id (s ∷ seats) a (inr h) = of_seat n nodes id seats a h

pub of_transaction : (n : ℕ) (nodes : List Node) (o : Option Transaction) (t : Transaction) (a : Accepted) → IsIn a (accepted_by n nodes o t) → a.transaction ≡ record { node = n; id = t.id }
of_transaction n nodes None t a h = absurd h
of_transaction n nodes (Some old) t a h =
    either_one (in_either a (map (accepted_seat n nodes t.id) (drop (length old.seats) t.seats)) (accepted_completion n nodes t.id old.completion t.completion) h)
  where
    either_one : IsIn a (map (accepted_seat n nodes t.id) (drop (length old.seats) t.seats)) ⊎ IsIn a (accepted_completion n nodes t.id old.completion t.completion)
        → a.transaction ≡ record { node = n; id = t.id }
    either_one (inl i) = of_seat n nodes t.id (drop (length old.seats) t.seats) a i
    either_one (inr i) = (of_completion n nodes t.id old.completion t.completion a i).0

-- a seat's registration is one of the further seats
pub at_further_seat : (hosts : Hosts) (n : ℕ) (old t : Transaction) (a : Accepted) (s : Seat) → IsIn a (accepted_by n (nodes_of hosts) (Some old) t) → a.seat ≡ Some s
    → IsIn a (entries hosts n t.id (drop (length old.seats) t.seats))
at_further_seat hosts n old t a s h e =
    either_one (in_either a (map (accepted_seat n (nodes_of hosts) t.id) (drop (length old.seats) t.seats)) (accepted_completion n (nodes_of hosts) t.id old.completion t.completion) h)
  where
    no_seat : (o : Option Seat) → o ≡ None → o ≡ Some s → ⊥
    no_seat o f g = cc

    either_one : IsIn a (map (accepted_seat n (nodes_of hosts) t.id) (drop (length old.seats) t.seats)) ⊎ IsIn a (accepted_completion n (nodes_of hosts) t.id old.completion t.completion)
        → IsIn a (entries hosts n t.id (drop (length old.seats) t.seats))
    either_one (inl i) = subst (IsIn a) (are_entries hosts n t.id (drop (length old.seats) t.seats)) i
    either_one (inr i) = absurd (no_seat a.seat (of_completion n (nodes_of hosts) t.id old.completion t.completion a i).1 e)

pub further_seat_in : (hosts : Hosts) (n : ℕ) (old t : Transaction) (a : Accepted) → IsIn a (entries hosts n t.id (drop (length old.seats) t.seats)) → IsIn a (accepted_by n (nodes_of hosts) (Some old) t)
further_seat_in hosts n old t a i =
    in_front a (map (accepted_seat n (nodes_of hosts) t.id) (drop (length old.seats) t.seats)) (accepted_completion n (nodes_of hosts) t.id old.completion t.completion)
    (subst (IsIn a) (sym (are_entries hosts n t.id (drop (length old.seats) t.seats))) i)
