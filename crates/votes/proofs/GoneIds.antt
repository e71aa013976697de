-- A step doesn't touch an id that was drawn and of which nothing is held.
use Rattle.std.specs.Prelude.{ℕ, List, [], ◌∷◌, Option, Some, None, Bool, true, false, length, ◌≡◌, ◌⊎◌, refl}
use Rattle.std.proofs.Common.{inl, inr, sym, subst, ap, ◌∙◌}
use Rattle.at_base.specs.Numbers.{Numbers}
use Rattle.at_base.specs.declared.event.Event.{Event}
use Rattle.at_base.specs.declared.event.Arrived.{Arrived}
use Rattle.at_base.specs.declared.event.Moment.{Moment}
use Rattle.at_base.specs.declared.message.Register.{Register}
use Rattle.at_base.specs.declared.outs.Ending.{Ending}
use Rattle.at_base.specs.declared.outs.Ending.TheVariants as endings
use Rattle.at_base.specs.declared.record.Record.{Record}
use Rattle.at_model.specs.Book.{Activity, Book, Leaf, Transaction, find_by, is_id, leaf_id, transaction_id}
use Rattle.at_model.specs.Create.{on_create}
use Rattle.at_model.specs.Leaves.{leaf_ended, on_work}
use Rattle.at_model.specs.Moves.{Change}
use Rattle.at_model.specs.Register.{Registration}
use Rattle.at_model.specs.Seats.{ending}
use Rattle.at_model.specs.Step.{Outcome, at_time, leaf_at, moment_of, transaction_at}
use Rattle.model_laws.specs.Laws.{HasId, HasLeafId, IsDrawn}
use Rattle.model_laws.proofs.DecisionLaws.{IfThere}
use Rattle.model_laws.proofs.NextIds.{makes_under_the_next_id}
use Rattle.model_laws.proofs.RecoveryLaws.{same_id}
use Rattle.agreement.specs.ActivityDeeds.{ActivityDeed, tells, idles as activity_idles}
use Rattle.agreement.specs.Deeds.{How, IsSameIfLeft, happens}
use Rattle.agreement.specs.LeafDeeds.{LeafDeed, LeafIdles, aborts, commits, dropped, idles, leaves, prepares, registered as leaf_registered, registers_again, rests, rolls_back, votes_again}
use Rattle.agreement.specs.Lives.{ends}
use Rattle.agreement.proofs.OtherIds.{ending_as, ends_one, find_other, joined_other}
use Rattle.enlistments.specs.Registrations.{Enrolls, has_completion, has_seat, refuses, takes_completion, takes_seat}
use Rattle.enlistments.specs.Moves.{Moved, activity_did, activity_made, answered, leaf_did, leaf_made, registered, rested, transaction_did, transaction_made}
use Rattle.enlistments.proofs.Registrations.{register_enrolls}

-- nothing is held of it, and it doesn't end
pub record IsAway (o : Outcome) (id : Numbers) : Type 0 where
  pub transaction : transaction_at o.book id ≡ None
  pub leaf : leaf_at o.book id ≡ None
  pub ended : ends id o.effects ≡ []

none_some : {A : Type 0} (o : Option A) (x : A) → o ≡ None → o ≡ Some x → ⊥
none_some o x e f = cc

-- what is found is another's
apart : {A : Type 0} (key : A → Numbers) (xs : List A) (i id : Numbers) (x : A) → find_by key i xs ≡ Some x → find_by key id xs ≡ None → is_id i id ≡ false
apart key xs i id x found none = by_case (is_id i id) refl
  where
    by_case : (c : Bool) → is_id i id ≡ c → is_id i id ≡ false
    by_case true e = absurd (none_some (find_by key id xs) x none (ap (λ k. find_by key k xs) (sym (same_id i id e)) ∙ found))
    by_case false e = e

undrawn_apart : (b : Book) (i id : Numbers) → (IsDrawn b i → ⊥) → IsDrawn b id → is_id i id ≡ false
undrawn_apart b i id never drawn = by_case (is_id i id) refl
  where
    by_case : (c : Bool) → is_id i id ≡ c → is_id i id ≡ false
    by_case true e = absurd (never (subst (IsDrawn b) (sym (same_id i id e)) drawn))
    by_case false e = e

-- what ends
end_apart : (t : Transaction) (what : Ending) (id : Numbers) → is_id t.id id ≡ false → ends id (ending t what ∷ []) ≡ []
end_apart t what id e = ends_one id (ending t what) false (ending_as t.id id t.superior what ∙ e)

happens_apart : (how : How) (t : Transaction) (id : Numbers) → is_id t.id id ≡ false → ends id (happens how t) ≡ []
happens_apart How.Aborts t id e = end_apart t endings.Aborted id e
happens_apart How.RollsBack t id e = end_apart t endings.Aborted id e
happens_apart How.Decides t id e = end_apart t endings.Committed id e
happens_apart How.DecidesAlone t id e = end_apart t endings.Committed id e
happens_apart How.Commits t id e = end_apart t endings.Committed id e
happens_apart other t id e = refl

leaf_apart : (l : Leaf) (what : Ending) (id : Numbers) → is_id l.id id ≡ false → ends id (leaf_ended l what ∷ []) ≡ []
leaf_apart l what id e = ends_one id (leaf_ended l what) false e

leaf_ends : (m : Moment) (e : Event) (l : Leaf) (entry : Option Record) (c : Change Leaf) (id : Numbers) → is_id l.id id ≡ false → LeafDeed m e l entry c → ends id c.effects ≡ []
leaf_ends m e l entry c id f (idles left why none item effects) = ap (ends id) effects
leaf_ends m e l entry c id f (aborts state why none item effects) = ap (ends id) effects ∙ leaf_apart l endings.Aborted id f
leaf_ends m e l entry c id f (prepares to came state vote knows is item effects says) = ap (ends id) effects
leaf_ends m e l entry c id f (leaves to came state vote knows none item effects says) = ap (ends id) effects
leaf_ends m e l entry c id f (dropped came kind none item effects says) = ap (ends id) effects
leaf_ends m e l entry c id f (commits to came state knows is item effects says) = ap (ends id) effects ∙ leaf_apart l endings.Committed id f
leaf_ends m e l entry c id f (rolls_back to came state knows is item effects says) = ap (ends id) effects ∙ leaf_apart l endings.Aborted id f

activity_ends : (m : Moment) (e : Event) (a : Activity) (entry : Option Record) (c : Change Activity) (id : Numbers) → ActivityDeed m e a entry c → ends id c.effects ≡ []
activity_ends m e a entry c id (activity_idles left why none item effects) = ap (ends id) effects
activity_ends m e a entry c id (tells what why none item effects says) = ap (ends id) effects

-- what is left keeps its id
pub keeps_id : (t : Transaction) (left : Option Transaction) → IsSameIfLeft t left → IfThere (λ y. y.id ≡ t.id) left
keeps_id t None s = tt
keeps_id t (Some new) s = s.id

pub leaf_keeps_id : (m : Moment) (e : Event) (l : Leaf) (entry : Option Record) (c : Change Leaf) → LeafDeed m e l entry c → IfThere (λ x. x.id ≡ l.id) c.item
leaf_keeps_id m e l entry c (idles left why none item effects) = subst (IfThere (λ x. x.id ≡ l.id)) (sym item) (idle why)
  where
    idle : LeafIdles m e l left c.posts → left.id ≡ l.id
    idle (rests same says) = ap (λ (x : Leaf). x.id) same
    idle (leaf_registered coordinator r came answers state request same says) = ap (λ (x : Leaf). x.id) same
    idle (registers_again r due state request same says) = ap (λ (x : Leaf). x.id) same
    idle (votes_again to why state knows same says) = ap (λ (x : Leaf). x.id) same
leaf_keeps_id m e l entry c (aborts state why none item effects) = subst (IfThere (λ x. x.id ≡ l.id)) (sym item) tt
leaf_keeps_id m e l entry c (prepares to came state vote knows is item effects says) = subst (IfThere (λ x. x.id ≡ l.id)) (sym item) refl
leaf_keeps_id m e l entry c (leaves to came state vote knows none item effects says) = subst (IfThere (λ x. x.id ≡ l.id)) (sym item) tt
leaf_keeps_id m e l entry c (dropped came kind none item effects says) = subst (IfThere (λ x. x.id ≡ l.id)) (sym item) tt
leaf_keeps_id m e l entry c (commits to came state knows is item effects says) = subst (IfThere (λ x. x.id ≡ l.id)) (sym item) tt
leaf_keeps_id m e l entry c (rolls_back to came state knows is item effects says) = subst (IfThere (λ x. x.id ≡ l.id)) (sym item) tt

enrolled_id : (m : Moment) (a : Arrived) (r : Register) (t : Transaction) (g : Registration) → Enrolls m a r t g → g.transaction.id ≡ t.id
enrolled_id m a r t g (takes_seat kind asks may is) = ap (λ (y : Registration). y.transaction.id) is
enrolled_id m a r t g (takes_completion asks may is) = ap (λ (y : Registration). y.transaction.id) is
enrolled_id m a r t g (has_seat kind s asks i k p is) = ap (λ (y : Registration). y.transaction.id) is
enrolled_id m a r t g (has_completion c asks i p is) = ap (λ (y : Registration). y.transaction.id) is
enrolled_id m a r t g (refuses name is) = ap (λ (y : Registration). y.transaction.id) is

some_id : (id : Numbers) (o : Option Transaction) (t : Transaction) → o ≡ Some t → HasId id o → t.id ≡ id
some_id id o t e h = subst (HasId id) e h

some_leaf_id : (id : Numbers) (o : Option Leaf) (l : Leaf) → o ≡ Some l → HasLeafId id o → l.id ≡ id
some_leaf_id id o l e h = subst (HasLeafId id) e h

-- so over each step
away_still : (b : Book) (id : Numbers) (o : Outcome) → transaction_at b id ≡ None → leaf_at b id ≡ None → o.book.transactions ≡ b.transactions → o.book.leaves ≡ b.leaves → ends id o.effects ≡ []
    → IsAway o id
away_still b id o none gone same leaves_same quiet =
    record { transaction = ap (find_by transaction_id id) same ∙ none; leaf = ap (find_by leaf_id id) leaves_same ∙ gone; ended = quiet }

pub stays_away : (b : Book) (e : Event) (now : ℕ) (entry : Option Record) (o : Outcome) (id : Numbers) → IsDrawn b id → transaction_at b id ≡ None → leaf_at b id ≡ None → Moved b e now entry o
    → IsAway o id
stays_away b e now entry o id drawn none gone (transaction_did d) =
    let other : is_id d.old.id id ≡ false = apart transaction_id b.transactions d.old.id id d.old d.found none in
    record {
      transaction = ap (find_by transaction_id id) d.items.transactions_are
          ∙ find_other transaction_id d.old.id id d.change.item b.transactions (keeps_id d.old d.change.item d.deed.same) other ∙ none;
      leaf = ap (find_by leaf_id id) d.items.leaves_are ∙ gone;
      ended = ap (ends id) (d.effects_are ∙ d.deed.happened) ∙ happens_apart d.deed.how d.old id other;
    }
stays_away b e now entry o id drawn none gone (leaf_did d) =
    let other : is_id d.old.id id ≡ false = apart leaf_id b.leaves d.old.id id d.old d.found gone in
    record {
      transaction = ap (find_by transaction_id id) d.items.transactions_are ∙ none;
      leaf = ap (find_by leaf_id id) d.items.leaves_are
          ∙ find_other leaf_id d.old.id id d.change.item b.leaves (leaf_keeps_id (moment_of b now) e d.old entry d.change d.deed) other ∙ gone;
      ended = ap (ends id) d.effects_are ∙ leaf_ends (moment_of b now) e d.old entry d.change id other d.deed;
    }
stays_away b e now entry o id drawn none gone (activity_did d) =
    away_still b id o none gone d.items.transactions_are d.items.leaves_are (ap (ends id) d.effects_are ∙ activity_ends (moment_of b now) e d.old entry d.change id d.deed)
stays_away b e now entry o id drawn none gone (registered d) =
    let same : d.gives.transaction.id ≡ d.old.id =
    enrolled_id (moment_of b now) d.arrived d.request d.old d.gives
    (subst (Enrolls (moment_of b now) d.arrived d.request d.old) (sym d.given) (register_enrolls (moment_of b now) d.arrived d.request d.old)) in
    record {
      transaction = ap (λ (y : Outcome). transaction_at y.book id) d.is
          ∙ find_other transaction_id d.gives.transaction.id id (Some d.gives.transaction) b.transactions refl
          (apart transaction_id b.transactions d.gives.transaction.id id d.old (ap (transaction_at b) same ∙ d.found) none) ∙ none;
      leaf = ap (λ (y : Outcome). leaf_at y.book id) d.is ∙ gone;
      ended = ap (λ (y : Outcome). ends id y.effects) d.is;
    }
stays_away b e now entry o id drawn none gone (transaction_made d) =
    let own : d.new.id ≡ d.id =
    some_id d.id (on_create (moment_of b now) (length b.transactions) d.arrived d.request (Some d.id)).transaction d.new d.makes
    (makes_under_the_next_id.transaction (moment_of b now) (length b.transactions) d.arrived d.request d.id) in
    record {
      transaction = ap (λ (y : Outcome). transaction_at y.book id) d.is
          ∙ joined_other transaction_id id d.new b.transactions (ap (λ i. is_id i id) own ∙ undrawn_apart b d.id id (makes_under_the_next_id.next b d.id d.next) drawn) ∙ none;
      leaf = ap (λ (y : Outcome). leaf_at y.book id) d.is ∙ gone;
      ended = ap (λ (y : Outcome). ends id y.effects) d.is;
    }
stays_away b e now entry o id drawn none gone (leaf_made d) =
    let own : d.new.id ≡ d.id =
    some_leaf_id d.id (on_work (moment_of b now) (length b.leaves) d.arrived d.request (Some d.id)).leaf d.new d.makes
    (makes_under_the_next_id.leaf (moment_of b now) (length b.leaves) d.arrived d.request d.id) in
    record {
      transaction = ap (λ (y : Outcome). transaction_at y.book id) d.is ∙ none;
      leaf = ap (λ (y : Outcome). leaf_at y.book id) d.is
          ∙ joined_other leaf_id id d.new b.leaves (ap (λ i. is_id i id) own ∙ undrawn_apart b d.id id (makes_under_the_next_id.next b d.id d.next) drawn) ∙ gone;
      ended = ap (λ (y : Outcome). ends id y.effects) d.is;
    }
stays_away b e now entry o id drawn none gone (activity_made d) =
    away_still b id o none gone (ap (λ (y : Outcome). y.book.transactions) d.is) (ap (λ (y : Outcome). y.book.leaves) d.is) (ap (λ (y : Outcome). ends id y.effects) d.is)
stays_away b e now entry o id drawn none gone (answered d) =
    away_still b id o none gone (ap (λ (y : Outcome). y.book.transactions) d.is) (ap (λ (y : Outcome). y.book.leaves) d.is) (ap (λ (y : Outcome). ends id y.effects) d.is)
stays_away b e now entry o id drawn none gone (rested d) = by_book d.book
  where
    by_book : (o.book ≡ b) ⊎ (o.book ≡ at_time now b) → IsAway o id
    by_book (inl is) = away_still b id o none gone (ap (λ (y : Book). y.transactions) is) (ap (λ (y : Book). y.leaves) is) (ap (ends id) d.effects_are)
    by_book (inr is) = away_still b id o none gone (ap (λ (y : Book). y.transactions) is) (ap (λ (y : Book). y.leaves) is) (ap (ends id) d.effects_are)
