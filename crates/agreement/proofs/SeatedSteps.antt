-- What a step accepts is of seats of its book, which have a number each.
use Rattle.std.specs.Prelude.{ℕ, List, ◌++◌, Option, Some, None, Bool, true, false, length, map, drop, ◌≡◌, ◌⊎◌, refl}
use Rattle.std.specs.List.{AllByRecursion}
use Rattle.std.proofs.Common.{inl, inr, sym, subst, ap, ◌∙◌}
use Rattle.at_base.specs.Numbers.{Numbers}
use Rattle.at_base.specs.declared.target.Seat.{Seat}
use Rattle.at_model.specs.Book.{Book, Completion, Enlistment, Transaction, transaction_id}
use Rattle.at_model.specs.Due.{may_expire}
use Rattle.at_model.specs.Step.{transaction_at}
use Rattle.at_model.specs.World.{Accepted, Node, Who, accepted_by, accepted_completion, accepted_in, accepted_seat, who_of, Hosts}
use Rattle.model_laws.specs.Agreement.{IsIn}
use Rattle.model_laws.specs.PhaseAnswers.{accepted_as}
use Rattle.model_laws.specs.Laws.{IsDrawn}
use Rattle.model_laws.specs.Order.{IsInOrder}
use Rattle.model_laws.specs.BookBounds.{AreNumbered, SeatsRise}
use Rattle.model_laws.proofs.DecisionLaws.{all_find, all_join, all_map, all_more, found_id, in_front}
use Rattle.model_laws.proofs.StepRegistrations.{AreGrown, Grown, HasInitiator, dropped}
use Rattle.model_laws.proofs.Registrations.{nodes_of}
use Rattle.model_laws.proofs.SeatRegistrations.{in_back}
use Rattle.agreement.specs.FinishedTransactions.{IsFinished}
use Rattle.agreement.proofs.SeatedBooks.{Came, fresh, stood}
use Rattle.agreement.proofs.SeatedEntries.{IsNew, all_mapped, all_of, at_further_seat, entries, entry, further_seat_in, grown_entries, in_either, is_new, new_in, numbered_once, of_transaction, one_of}
use Rattle.agreement.proofs.SeatedNames.{AreEntered, IsEntered, entered_on}

-- each registration of the transaction has its seat
abbrev pub HasAll : Hosts → List Accepted → ℕ → Transaction → Type 0
HasAll hosts all n t =
    (a : Accepted) (s : Seat) → IsIn a all → a.transaction ≡ record { node = n; id = t.id } → a.seat ≡ Some s → IsIn a (entries hosts n t.id t.seats)

-- its initiator was accepted
abbrev pub HasBegun : Hosts → List Accepted → ℕ → Transaction → Type 0
HasBegun hosts all n t = AllByRecursion (λ a. IsIn a all) (accepted_completion n (nodes_of hosts) t.id None t.completion)

abbrev pub IsHeld : Hosts → List Accepted → ℕ → Transaction → Type 0
IsHeld hosts all n t = IsEntered hosts all n t × ((may_expire t.phase ≡ true → HasAll hosts all n t) × HasBegun hosts all n t)

abbrev pub HasOneEach : List Accepted → Type 0
HasOneEach all = (a c : Accepted) (s r : Seat) → IsIn a all → IsIn c all → a.transaction ≡ c.transaction → a.seat ≡ Some s → c.seat ≡ Some r → s.number ≡ r.number → a ≡ c

-- what is known of the book before a step, and of the transactions behind it
pub record Steps (hosts : Hosts) (n : ℕ) (all : List Accepted) (b : Book) (new : List Transaction) : Type 0 where
  pub order : IsInOrder b
  pub same : (s t : Transaction) → IsIn s new → IsIn t new → s.id ≡ t.id → s ≡ t
  pub came : AllByRecursion (Came b) new
  pub grown : AreGrown b new
  pub finished : AllByRecursion IsFinished new
  pub held : AllByRecursion (IsHeld hosts all n) b.transactions
  pub drawn : (a : Accepted) → IsIn a all → a.transaction.node ≡ n → IsDrawn b a.transaction.id

abbrev pub with_new : Hosts → ℕ → List Accepted → Book → List Transaction → List Accepted
with_new hosts n all b new = all ++ accepted_in n (nodes_of hosts) b new

-- what stood was drawn
stood_drawn : (b : Book) (id : Numbers) (old : Transaction) → IsInOrder b → transaction_at b id ≡ Some old → IsDrawn b id
stood_drawn b id old h e =
    subst (IsDrawn b) (found_id transaction_id id b.transactions old e) (all_find (λ (y : Transaction). IsDrawn b y.id) transaction_id id b.transactions old h.drawn.transactions e)

-- ids of registrations
pub id_of : (n : ℕ) (id i : Numbers) (w : Who) → w ≡ record { node = n; id = id } → w ≡ record { node = n; id = i } → id ≡ i
id_of n id i w e f = ap (λ (y : Who). y.id) (sym e ∙ f)

-- each seat is accepted
pub step_entered : (hosts : Hosts) (n : ℕ) (all : List Accepted) (b : Book) (new : List Transaction) (t : Transaction) → Steps hosts n all b new → IsIn t new
    → IsEntered hosts (with_new hosts n all b new) n t
step_entered hosts n all b new t p i = by_old (transaction_at b t.id) refl (one_of (λ (y : Transaction). Grown (transaction_at b y.id) y) new t p.grown i)
  where
    now : List Accepted
    now = with_new hosts n all b new

    further : (old : Transaction) → transaction_at b t.id ≡ Some old → AllByRecursion (λ y. IsIn y now) (entries hosts n t.id (drop (length old.seats) t.seats))
    further old e =
        all_of (λ y. IsIn y now) (entries hosts n t.id (drop (length old.seats) t.seats))
        (λ a j. in_back a all (accepted_in n (nodes_of hosts) b new)
        (new_in n (nodes_of hosts) b new t a i (subst (λ o. IsIn a (accepted_by n (nodes_of hosts) o t)) (sym e) (further_seat_in hosts n old t a j))))

    before : (old : Transaction) → transaction_at b t.id ≡ Some old → AllByRecursion (λ y. IsIn y now) (entries hosts n t.id old.seats)
    before old e =
        all_map (λ y. IsIn y now) (entry hosts n t.id) (map accepted_as old.seats)
        (entered_on hosts all now n t.id (map accepted_as old.seats) (λ a j. in_front a all (accepted_in n (nodes_of hosts) b new) j)
        (subst (λ id. AreEntered hosts all n id (map accepted_as old.seats)) (found_id transaction_id t.id b.transactions old e)
        (all_find (IsHeld hosts all n) transaction_id t.id b.transactions old p.held e).0))

    by_old : (o : Option Transaction) → transaction_at b t.id ≡ o → Grown o t → IsEntered hosts now n t
    by_old None e (no_seats, c) = subst (λ (ss : List Enlistment). AreEntered hosts now n t.id (map accepted_as ss)) (sym no_seats) tt
    by_old (Some old) e (g, c) =
        all_mapped (λ y. IsIn y now) (entry hosts n t.id) (map accepted_as t.seats)
        (subst (AllByRecursion (λ y. IsIn y now)) (sym (grown_entries hosts n t.id old.seats t.seats g))
        (all_join (λ y. IsIn y now) (entries hosts n t.id old.seats) (entries hosts n t.id (drop (length old.seats) t.seats)) (before old e) (further old e)))

-- its initiator is accepted
initiator_stays : (all : List Accepted) (n : ℕ) (nodes : List Node) (id : Numbers) (old new : Option Completion) → HasInitiator old new
    → AllByRecursion (λ a. IsIn a all) (accepted_completion n nodes id None old) → AllByRecursion (λ a. IsIn a all) (accepted_completion n nodes id old new)
    → AllByRecursion (λ a. IsIn a all) (accepted_completion n nodes id None new)
initiator_stays all n nodes id None new f h k = k
initiator_stays all n nodes id (Some c) None f h k = absurd cc
initiator_stays all n nodes id (Some c) (Some d) f (h, i) k =
    let same : d.initiator ≡ c.initiator = cc in
    (subst (λ e. IsIn (record { transaction = record { node = n; id = id }; seat = None; participant = who_of nodes e }) all) (sym same) h, tt)

pub step_begun : (hosts : Hosts) (n : ℕ) (all : List Accepted) (b : Book) (new : List Transaction) (t : Transaction) → Steps hosts n all b new → IsIn t new
    → HasBegun hosts (with_new hosts n all b new) n t
step_begun hosts n all b new t p i = by_old (transaction_at b t.id) refl (one_of (λ (y : Transaction). Grown (transaction_at b y.id) y) new t p.grown i)
  where
    now : List Accepted
    now = with_new hosts n all b new

    before : (old : Transaction) → transaction_at b t.id ≡ Some old → AllByRecursion (λ a. IsIn a now) (accepted_completion n (nodes_of hosts) t.id None old.completion)
    before old e =
        all_more (λ a. IsIn a all) (λ a. IsIn a now) (accepted_completion n (nodes_of hosts) t.id None old.completion) (λ a j. in_front a all (accepted_in n (nodes_of hosts) b new) j)
        (subst (λ id. AllByRecursion (λ a. IsIn a all) (accepted_completion n (nodes_of hosts) id None old.completion)) (found_id transaction_id t.id b.transactions old e)
        (all_find (IsHeld hosts all n) transaction_id t.id b.transactions old p.held e).1.1)

    further : (old : Transaction) → transaction_at b t.id ≡ Some old → AllByRecursion (λ a. IsIn a now) (accepted_completion n (nodes_of hosts) t.id old.completion t.completion)
    further old e =
        all_of (λ a. IsIn a now) (accepted_completion n (nodes_of hosts) t.id old.completion t.completion)
        (λ a j. in_back a all (accepted_in n (nodes_of hosts) b new)
        (new_in n (nodes_of hosts) b new t a i
        (subst (λ o. IsIn a (accepted_by n (nodes_of hosts) o t)) (sym e)
        (in_back a (map (accepted_seat n (nodes_of hosts) t.id) (drop (length old.seats) t.seats)) (accepted_completion n (nodes_of hosts) t.id old.completion t.completion) j))))

    by_old : (o : Option Transaction) → transaction_at b t.id ≡ o → Grown o t → HasBegun hosts now n t
    by_old None e (no_seats, none) = subst (λ c. AllByRecursion (λ a. IsIn a now) (accepted_completion n (nodes_of hosts) t.id None c)) (sym none) tt
    by_old (Some old) e (g, keeps) = initiator_stays now n (nodes_of hosts) t.id old.completion t.completion keeps (before old e) (further old e)

-- what is accepted is accepted by the transaction that it is of
by_this : (hosts : Hosts) (n : ℕ) (all : List Accepted) (b : Book) (new : List Transaction) (t : Transaction) (a : Accepted) → Steps hosts n all b new → IsIn t new
    → IsIn a (accepted_in n (nodes_of hosts) b new) → a.transaction ≡ record { node = n; id = t.id } → IsIn a (accepted_by n (nodes_of hosts) (transaction_at b t.id) t)
by_this hosts n all b new t a p i k f =
    let x : IsNew n (nodes_of hosts) b new a = is_new n (nodes_of hosts) b new a k in
    subst (λ (y : Transaction). IsIn a (accepted_by n (nodes_of hosts) (transaction_at b y.id) y))
    (p.same x.by t x.among i (id_of n x.by.id t.id a.transaction (of_transaction n (nodes_of hosts) (transaction_at b x.by.id) x.by a x.there) f)) x.there

-- an id that is new has no registration
none_fresh : (hosts : Hosts) (n : ℕ) (all : List Accepted) (b : Book) (new : List Transaction) (t : Transaction) (a : Accepted) → Steps hosts n all b new → IsIn t new → (IsDrawn b t.id → ⊥)
    → IsIn a (with_new hosts n all b new) → a.transaction ≡ record { node = n; id = t.id } → ⊥
none_fresh hosts n all b new t a p i never j f = either_one (in_either a all (accepted_in n (nodes_of hosts) b new) j)
  where
    by_old : (o : Option Transaction) → transaction_at b t.id ≡ o → IsIn a (accepted_by n (nodes_of hosts) o t) → ⊥
    by_old None e h = h
    by_old (Some old) e h = never (stood_drawn b t.id old p.order e)

    either_one : IsIn a all ⊎ IsIn a (accepted_in n (nodes_of hosts) b new) → ⊥
    either_one (inl k) = never (subst (IsDrawn b) (ap (λ (y : Who). y.id) f) (p.drawn a k (ap (λ (y : Who). y.node) f)))
    either_one (inr k) = by_old (transaction_at b t.id) refl (by_this hosts n all b new t a p i k f)

-- an undecided transaction has a seat for each registration
pub step_complete : (hosts : Hosts) (n : ℕ) (all : List Accepted) (b : Book) (new : List Transaction) (t : Transaction) → Steps hosts n all b new → IsIn t new → may_expire t.phase ≡ true
    → HasAll hosts (with_new hosts n all b new) n t
step_complete hosts n all b new t p i undecided a s j f g = by_came (one_of (Came b) new t p.came i)
  where
    by_old : (old : Transaction) → transaction_at b t.id ≡ Some old → may_expire old.phase ≡ true → Grown (Some old) t → IsIn a all ⊎ IsIn a (accepted_in n (nodes_of hosts) b new)
        → IsIn a (entries hosts n t.id t.seats)
    by_old old e was (seats, c) (inl k) =
        let same : old.id ≡ t.id = found_id transaction_id t.id b.transactions old e in
        subst (IsIn a) (sym (grown_entries hosts n t.id old.seats t.seats seats))
        (in_front a (entries hosts n t.id old.seats) (entries hosts n t.id (drop (length old.seats) t.seats))
        (subst (λ id. IsIn a (entries hosts n id old.seats)) same
        ((all_find (IsHeld hosts all n) transaction_id t.id b.transactions old p.held e).1.0 was a s k (f ∙ ap (λ id. record { node = n; id = id }) (sym same)) g)))
    by_old old e was (seats, c) (inr k) =
        subst (IsIn a) (sym (grown_entries hosts n t.id old.seats t.seats seats))
        (in_back a (entries hosts n t.id old.seats) (entries hosts n t.id (drop (length old.seats) t.seats))
        (at_further_seat hosts n old t a s (subst (λ o. IsIn a (accepted_by n (nodes_of hosts) o t)) e (by_this hosts n all b new t a p i k f)) g))

    by_came : Came b t → IsIn a (entries hosts n t.id t.seats)
    by_came (stood old e was grew) =
        by_old old e (was undecided) (subst (λ o. Grown o t) e (one_of (λ (y : Transaction). Grown (transaction_at b y.id) y) new t p.grown i))
        (in_either a all (accepted_in n (nodes_of hosts) b new) j)
    by_came (fresh never) = absurd (none_fresh hosts n all b new t a p i never j f)

-- a seat is given by an undecided transaction
gives_open : (hosts : Hosts) (n : ℕ) (all : List Accepted) (b : Book) (new : List Transaction) (t : Transaction) (a : Accepted) (s : Seat) → Steps hosts n all b new → IsIn t new
    → IsIn a (accepted_by n (nodes_of hosts) (transaction_at b t.id) t) → a.seat ≡ Some s → may_expire t.phase ≡ true
gives_open hosts n all b new t a s p i k g = by_came (one_of (Came b) new t p.came i)
  where
    none_further : (old : Transaction) → length t.seats ≡ length old.seats → IsIn a (entries hosts n t.id (drop (length old.seats) t.seats)) → ⊥
    none_further old e h = subst (λ (ss : List Enlistment). IsIn a (entries hosts n t.id ss)) (dropped t.seats (length old.seats) e) h

    by_growth : (old : Transaction) → transaction_at b t.id ≡ Some old → (length t.seats ≡ length old.seats) ⊎ (may_expire t.phase ≡ true) → may_expire t.phase ≡ true
    by_growth old e (inl same) = absurd (none_further old same (at_further_seat hosts n old t a s (subst (λ o. IsIn a (accepted_by n (nodes_of hosts) o t)) e k) g))
    by_growth old e (inr undecided) = undecided

    by_came : Came b t → may_expire t.phase ≡ true
    by_came (stood old e was grew) = by_growth old e grew
    by_came (fresh never) =
        absurd (none_fresh hosts n all b new t a p i never (in_back a all (accepted_in n (nodes_of hosts) b new) (new_in n (nodes_of hosts) b new t a i k))
        (of_transaction n (nodes_of hosts) (transaction_at b t.id) t a k))

undecided_numbered : (t : Transaction) → IsFinished t → may_expire t.phase ≡ true → AreNumbered 0 t.seats
undecided_numbered t h undecided = either_one h.numbers
  where
    either_one : AreNumbered 0 t.seats ⊎ ((may_expire t.phase ≡ false) × SeatsRise 0 t.seats) → AreNumbered 0 t.seats
    either_one (inl k) = k
    either_one (inr (closed, k)) = absurd (both (may_expire t.phase) undecided closed)
      where
        both : (b : Bool) → b ≡ true → b ≡ false → ⊥
        both b e f = cc

-- a number has one registration
new_one : (hosts : Hosts) (n : ℕ) (all : List Accepted) (b : Book) (new : List Transaction) → Steps hosts n all b new → (a c : Accepted) (s r : Seat)
    → IsIn a (accepted_in n (nodes_of hosts) b new) → IsIn c (with_new hosts n all b new) → a.transaction ≡ c.transaction → a.seat ≡ Some s → c.seat ≡ Some r → s.number ≡ r.number → a ≡ c
new_one hosts n all b new p a c s r k j same f g numbers =
    let x : IsNew n (nodes_of hosts) b new a = is_new n (nodes_of hosts) b new a k in
    let undecided : may_expire x.by.phase ≡ true = gives_open hosts n all b new x.by a s p x.among x.there f in
    let of : a.transaction ≡ record { node = n; id = x.by.id } = of_transaction n (nodes_of hosts) (transaction_at b x.by.id) x.by a x.there in
    numbered_once hosts n x.by.id 0 x.by.seats a c s r (undecided_numbered x.by (one_of IsFinished new x.by p.finished x.among) undecided)
    (step_complete hosts n all b new x.by p x.among undecided a s (in_back a all (accepted_in n (nodes_of hosts) b new) k) of f)
    (step_complete hosts n all b new x.by p x.among undecided c r j (sym same ∙ of) g) f g numbers

pub step_one_each : (hosts : Hosts) (n : ℕ) (all : List Accepted) (b : Book) (new : List Transaction) → Steps hosts n all b new → HasOneEach all → HasOneEach (with_new hosts n all b new)
step_one_each hosts n all b new p h a c s r i j same f g numbers =
    either_one (in_either a all (accepted_in n (nodes_of hosts) b new) i) (in_either c all (accepted_in n (nodes_of hosts) b new) j)
  where
    either_one : IsIn a all ⊎ IsIn a (accepted_in n (nodes_of hosts) b new) → IsIn c all ⊎ IsIn c (accepted_in n (nodes_of hosts) b new) → a ≡ c
    either_one (inr k) l = new_one hosts n all b new p a c s r k j same f g numbers
    either_one (inl k) (inr l) = sym (new_one hosts n all b new p c a r s l i (sym same) g f (sym numbers))
    either_one (inl k) (inl l) = h a c s r k l same f g numbers
