-- The nodes of a world, by number; where an address leads depends on their bases alone.
use Rattle.std.specs.Prelude.{ℕ, List, [], ◌∷◌, ◌++◌, Option, Some, None, Bool, true, false, nat_eq, ◌-◌, if◌then◌else◌, drop, length, map, option_map, ◌≡◌, refl}
use Rattle.std.proofs.Common.{sym, subst, ap, ◌∙◌}
use Rattle.std.proofs.lemmas.Bool.{eqb-true, eqb-false}
use Rattle.at_base.specs.Numbers.{Numbers}
use Rattle.at_base.specs.declared.epr.Epr.{Epr}
use Rattle.at_model.specs.Book.{Book, Transaction, Enlistment, Completion}
use Rattle.at_model.specs.Step.{transaction_at}
use Rattle.at_model.specs.World.{Node, nth, put_nth, receiver_of, who_at, who_of, accepted_seat, accepted_completion, accepted_by, accepted_in}
use Rattle.model_laws.proofs.Addresses.{HaveBases, same_place}
use Rattle.model_laws.proofs.NodeLives.{put_this, put_other}

pub put_put : (n : ℕ) (y z : Node) (xs : List Node) → put_nth n z (put_nth n y xs) ≡ put_nth n z xs
put_put n y z [] = refl
put_put n y z (x ∷ xs) = by_number (put_put (n - 1) y z xs) (nat_eq n 1) refl
  where
    by_number : put_nth (n - 1) z (put_nth (n - 1) y xs) ≡ put_nth (n - 1) z xs → (c : Bool) → nat_eq n 1 ≡ c
        → put_nth n z (if c then y ∷ xs else x ∷ put_nth (n - 1) y xs) ≡ (if c then z ∷ xs else x ∷ put_nth (n - 1) z xs)
    by_number rest true c = ap (λ t. if t then z ∷ xs else y ∷ put_nth (n - 1) z xs) c
    by_number rest false c = ap (λ t. if t then z ∷ put_nth (n - 1) y xs else x ∷ put_nth (n - 1) z (put_nth (n - 1) y xs)) c ∙ ap (λ ys. x ∷ ys) rest

pub put_same : (n : ℕ) (x : Node) (xs : List Node) → nth n xs ≡ Some x → put_nth n x xs ≡ xs
put_same n x [] e = refl
put_same n x (y ∷ xs) e = by_number (put_same (n - 1) x xs) (nat_eq n 1) e
  where
    by_number : (nth (n - 1) xs ≡ Some x → put_nth (n - 1) x xs ≡ xs) → (c : Bool) → (if c then Some y else nth (n - 1) xs) ≡ Some x
        → (if c then x ∷ xs else y ∷ put_nth (n - 1) x xs) ≡ y ∷ xs
    by_number rest true e = let same : y ≡ x = cc in ap (λ z. z ∷ xs) (sym same)
    by_number rest false e = ap (λ ys. y ∷ ys) (rest e)

-- what holds of each other node holds where one is put
pub each_put : (P : ℕ → Node → Type 0) (xs : List Node) (n : ℕ) (x z : Node) → nth n xs ≡ Some x → P n z → ((m : ℕ) (y : Node) → (m ≡ n → ⊥) → nth m xs ≡ Some y → P m y)
    → (m : ℕ) (y : Node) → nth m (put_nth n z xs) ≡ Some y → P m y
each_put P xs n x z found h others m y f = by_number (nat_eq m n) refl
  where
    same_node : (o : Option Node) → o ≡ Some z → o ≡ Some y → z ≡ y
    same_node o i j = cc

    by_number : (c : Bool) → nat_eq m n ≡ c → P m y
    by_number true c =
        subst (P m) (same_node (nth m (put_nth n z xs)) (ap (λ k. nth k (put_nth n z xs)) (eqb-true m n c) ∙ put_this xs n x z found) f)
        (subst (λ k. P k z) (sym (eqb-true m n c)) h)
    by_number false c = others m y (eqb-false m n c) (sym (put_other xs m n z (eqb-false m n c)) ∙ f)

-- bases
pub same_bases : (xs : List Node) → HaveBases xs xs
same_bases [] = tt
same_bases (x ∷ xs) = (refl, same_bases xs)

pub bases_back : (xs ys : List Node) → HaveBases xs ys → HaveBases ys xs
bases_back [] [] h = tt
bases_back [] (y ∷ ys) h = absurd h
bases_back (x ∷ xs) [] h = absurd h
bases_back (x ∷ xs) (y ∷ ys) (h, k) = (sym h, bases_back xs ys k)

pub bases_put : (xs ys : List Node) (n : ℕ) (x z : Node) → nth n xs ≡ Some x → z.base ≡ x.base → HaveBases xs ys → HaveBases (put_nth n z xs) ys
bases_put [] ys n x z e f h = h
bases_put (y ∷ xs) [] n x z e f h = absurd h
bases_put (y ∷ xs) (v ∷ ys) n x z e f (g, h) = by_number (λ i. bases_put xs ys (n - 1) x z i f h) (nat_eq n 1) e
  where
    by_number : (nth (n - 1) xs ≡ Some x → HaveBases (put_nth (n - 1) z xs) ys) → (c : Bool) → (if c then Some y else nth (n - 1) xs) ≡ Some x
        → HaveBases (if c then z ∷ xs else y ∷ put_nth (n - 1) z xs) (v ∷ ys)
    by_number rest true e = let same : y ≡ x = cc in (f ∙ ap (λ (u : Node). u.base) (sym same) ∙ g, h)
    by_number rest false e = (g, rest e)

pub receiver_same : (xs ys : List Node) (to : Option Epr) → HaveBases xs ys → receiver_of xs to ≡ receiver_of ys to
receiver_same xs ys None h = refl
receiver_same xs ys (Some to) h = ap (option_map (λ p. p.0)) (same_place 1 xs ys to.address h)

pub who_same : (xs ys : List Node) (e : Epr) → HaveBases xs ys → who_of xs e ≡ who_of ys e
who_same xs ys e h = ap who_at (same_place 1 xs ys e.address h)

pub seats_same : (n : ℕ) (xs ys : List Node) (id : Numbers) (seats : List Enlistment) → HaveBases xs ys → map (accepted_seat n xs id) seats ≡ map (accepted_seat n ys id) seats
seats_same n xs ys id [] h = refl
seats_same n xs ys id (s ∷ seats) h = λ i.
    record {
      transaction = record { node = n; id = id };
      seat = Some (record { number = s.number; kind = s.kind });
      participant = who_same xs ys s.participant h i;
    } ∷ seats_same n xs ys id seats h i

pub completion_same : (n : ℕ) (xs ys : List Node) (id : Numbers) (before after : Option Completion) → HaveBases xs ys
    → accepted_completion n xs id before after ≡ accepted_completion n ys id before after
completion_same n xs ys id None None h = refl
completion_same n xs ys id None (Some c) h = λ i. record { transaction = record { node = n; id = id }; seat = None; participant = who_same xs ys c.initiator h i } ∷ []
completion_same n xs ys id (Some c) None h = refl
completion_same n xs ys id (Some c) (Some d) h = refl

by_same : (n : ℕ) (xs ys : List Node) (before : Option Transaction) (t : Transaction) → HaveBases xs ys → accepted_by n xs before t ≡ accepted_by n ys before t
by_same n xs ys None t h = refl
by_same n xs ys (Some before) t h = λ i.
    seats_same n xs ys t.id (drop (length before.seats) t.seats) h i ++ completion_same n xs ys t.id before.completion t.completion h i

pub accepted_same : (n : ℕ) (xs ys : List Node) (b : Book) (ts : List Transaction) → HaveBases xs ys → accepted_in n xs b ts ≡ accepted_in n ys b ts
accepted_same n xs ys b [] h = refl
accepted_same n xs ys b (t ∷ ts) h = λ i. by_same n xs ys (transaction_at b t.id) t h i ++ accepted_same n xs ys b ts h i
