-- A registration that a step accepts at a seat is one of a transaction that is undecided, before the step and behind it.
use Rattle.std.specs.Prelude.{ℕ, List, [], Option, Some, None, Bool, true, length, drop, ◌≡◌, ◌⊎◌, refl}
use Rattle.std.specs.List.{AllByRecursion}
use Rattle.std.proofs.Common.{inl, inr, sym, subst}
use Rattle.at_base.specs.Numbers.{Numbers}
use Rattle.at_base.specs.declared.notice.Kind.{Kind}
use Rattle.at_base.specs.declared.event.Event.{Event}
use Rattle.at_base.specs.declared.target.Seat.{Seat}
use Rattle.at_model.specs.Book.{Book, Enlistment, Transaction, transaction_id}
use Rattle.at_model.specs.Due.{may_expire}
use Rattle.at_model.specs.Step.{step, transaction_at}
use Rattle.at_model.specs.World.{Accepted, Node, Who, World, accepted_by, accepted_in, Hosts}
use Rattle.model_laws.specs.Agreement.{IsIn}
use Rattle.model_laws.specs.Laws.{IsDrawn}
use Rattle.model_laws.specs.Order.{IsInOrder}
use Rattle.model_laws.specs.ReachedWorlds.{counts, stepped}
use Rattle.model_laws.proofs.DecisionLaws.{all_find, found_id}
use Rattle.model_laws.proofs.StepRegistrations.{dropped}
use Rattle.model_laws.proofs.Registrations.{nodes_of}
use Rattle.model_laws.proofs.Nodes.{accepted_same}
use Rattle.model_laws.proofs.Order.{ids_rise}
use Rattle.agreement.proofs.SeatedBooks.{Came, finds_each, fresh, step_came, stood}
use Rattle.agreement.proofs.SeatedEntries.{IsNew, at_further_seat, entries, in_either, is_new, of_transaction, one_of}
use Rattle.votes.specs.NamedParticipants.{HasSeat, registration}
use Rattle.votes.proofs.Lives.{world_laws}
use Rattle.votes.proofs.Premises.{StepPremises, WorldLaws}

-- the transaction is undecided in both books
pub record JoinsOpen (n : ℕ) (b after : Book) (t : Who) : Type 0 where
  pub node : t.node ≡ n
  pub old : Transaction
  pub stood : transaction_at b t.id ≡ Some old
  pub was : may_expire old.phase ≡ true
  pub new : Transaction
  pub stands : transaction_at after t.id ≡ Some new
  pub undecided : may_expire new.phase ≡ true

-- what stands in a book was drawn
found_drawn : (b : Book) (id : Numbers) (old : Transaction) → IsInOrder b → transaction_at b id ≡ Some old → IsDrawn b id
found_drawn b id old h e =
    subst (IsDrawn b) (found_id transaction_id id b.transactions old e) (all_find (λ (y : Transaction). IsDrawn b y.id) transaction_id id b.transactions old h.drawn.transactions e)

-- it is found by its id
pub finds : (b : Book) → IsInOrder b → (t : Transaction) → IsIn t b.transactions → transaction_at b t.id ≡ Some t
finds b h t i = one_of (λ (y : Transaction). transaction_at b y.id ≡ Some y) b.transactions t (finds_each transaction_id b.transactions h.rising.transactions) i

none_further : (hosts : Hosts) (n : ℕ) (old t : Transaction) (a : Accepted) → length t.seats ≡ length old.seats → IsIn a (entries hosts n t.id (drop (length old.seats) t.seats)) → ⊥
none_further hosts n old t a e h = subst (λ (ss : List Enlistment). IsIn a (entries hosts n t.id ss)) (dropped t.seats (length old.seats) e) h

new_joins : (hosts : Hosts) (n : ℕ) (b after : Book) → IsInOrder b → IsInOrder after → AllByRecursion (Came b) after.transactions → (a : Accepted) (s : Seat)
    → IsIn a (accepted_in n (nodes_of hosts) b after.transactions) → a.seat ≡ Some s → JoinsOpen n b after a.transaction
new_joins hosts n b after order later came a s i e = joins (is_new n (nodes_of hosts) b after.transactions a i)
  where
    joins : IsNew n (nodes_of hosts) b after.transactions a → JoinsOpen n b after a.transaction
    joins x = subst (JoinsOpen n b after) (sym (of_transaction n (nodes_of hosts) (transaction_at b x.by.id) x.by a x.there)) (by_came (one_of (Came b) after.transactions x.by came x.among))
      where
        further : (old : Transaction) → transaction_at b x.by.id ≡ Some old → IsIn a (entries hosts n x.by.id (drop (length old.seats) x.by.seats))
        further old f = at_further_seat hosts n old x.by a s (subst (λ o. IsIn a (accepted_by n (nodes_of hosts) o x.by)) f x.there) e

        undecided : (old : Transaction) → transaction_at b x.by.id ≡ Some old → (length x.by.seats ≡ length old.seats) ⊎ (may_expire x.by.phase ≡ true) → may_expire x.by.phase ≡ true
        undecided old f (inl same) = absurd (none_further hosts n old x.by a same (further old f))
        undecided old f (inr u) = u

        none_there : (o : Option Transaction) → transaction_at b x.by.id ≡ o → (IsDrawn b x.by.id → ⊥) → IsIn a (accepted_by n (nodes_of hosts) o x.by) → ⊥
        none_there None f never h = h
        none_there (Some old) f never h = never (found_drawn b x.by.id old order f)

        by_came : Came b x.by → JoinsOpen n b after (record { node = n; id = x.by.id })
        by_came (stood old f was grew) = record {
          node = refl;
          old = old;
          stood = f;
          was = was (undecided old f grew);
          new = x.by;
          stands = finds after later x.by x.among;
          undecided = undecided old f grew;
        }
        by_came (fresh never) = absurd (none_there (transaction_at b x.by.id) refl never x.there)

-- the world behind a step is a reached one
pub behind : (hosts : Hosts) (u : World) (n : ℕ) (x : Node) (b : Book) (e : Event) (now : ℕ) (landed : Bool) → StepPremises hosts u n x b e → WorldLaws hosts (counts u n x b e now landed)
behind hosts u n x b e now landed p =
    world_laws hosts (counts u n x b e now landed) p.world.laws.distinct (stepped u n x b e now landed [] p.world.laws.reached p.found p.up p.heard tt refl)

-- a seat's registration stood before the step, or its transaction is undecided
pub seat_joins : (hosts : Hosts) (u : World) (n : ℕ) (x : Node) (b : Book) (e : Event) (now : ℕ) (landed : Bool) → StepPremises hosts u n x b e → (t : Who) (number : ℕ) (kind : Kind) (y : Who)
    → HasSeat (counts u n x b e now landed) t number kind y → HasSeat u t number kind y ⊎ JoinsOpen n b (step b e now landed).book t
seat_joins hosts u n x b e now landed p t number kind y i =
    either_one (in_either (registration t number kind y) u.accepted (accepted_in n u.nodes b (step b e now landed).book.transactions) i)
  where
    either_one : IsIn (registration t number kind y) u.accepted ⊎ IsIn (registration t number kind y) (accepted_in n u.nodes b (step b e now landed).book.transactions)
        → HasSeat u t number kind y ⊎ JoinsOpen n b (step b e now landed).book t
    either_one (inl k) = inl k
    either_one (inr k) =
        inr (new_joins hosts n b (step b e now landed).book p.ready.order (ids_rise.stays b e now landed p.ready.order)
        (step_came b e now landed p.ready.phases p.ready.finished p.ready.order) (registration t number kind y) (record { number = number; kind = kind })
        (subst (IsIn (registration t number kind y)) (accepted_same n u.nodes (nodes_of hosts) b (step b e now landed).book.transactions p.world.laws.bases) k) refl)
