-- What a part does to a book is what its plan of the whole book says.
use Rattle.std.proofs.Common.{ℕ, Bool, true, false, ◌≡◌, refl, sym, ◌∙◌, ap, subst}
use Rattle.at_base.specs.declared.event.Event.{Event}
use Rattle.at_base.specs.declared.outs.Outs.{Outs}
use Rattle.at_model.specs.Book.{Activity, Book, Leaf, Transaction}
use Rattle.at_model.specs.Outcomes.{noted as recorded}
use Rattle.at_model.specs.Step.{Plan as Planned, branch, plan}
use Rattle.by_id.specs.Plans.{branch_of, entry_of}
use Rattle.by_id.specs.Wholes.{whole_by}
use Rattle.by_id.specs.declared.list.Alteration.{Alteration}
use Rattle.by_id.specs.declared.plan.Plan.{Plan as ListPlan}
use Rattle.by_id.specs.declared.plan.Plan.TheVariants as plans
use Rattle.participant_at.specs.LeafPlans.{with_leaves}
use Rattle.transaction_at.specs.declared.moves.Move.{Move}
use Rattle.coordinator_at.specs.TransactionPlans.{with_transactions}
use Rattle.completion_at.specs.ActivityPlans.{with_activities}
use Rattle.interposition.specs.declared.plan.Part.{Part}
use Rattle.interposition.specs.declared.plan.Part.TheVariants as parts
use Rattle.interposition.specs.PlanResults.{done, gone, noted, part_entry, part_outs, whole}
use Rattle.interposition.specs.ModelSteps.{IsStep, KeepsBounds}
use Rattle.model_laws.specs.BookBounds.{IsSound, RecordsAreWellFormed}

-- one list of the book, where `put` takes over what becomes of it
module _ {A M : Type 0} (put : Alteration A M → Book → Book) (noting_after : (r : _) (c : Alteration A M) (b : Book) → put c (recorded r b) ≡ recorded r (put c b)) where
  does : (now : ℕ) (b : Book) (p : ListPlan A M) (landed : Bool) → put (branch_of p landed).change (gone p now landed b) ≡ (branch (whole_by put b now p) landed).book
  does now b (plans.Plain x) true = refl
  does now b (plans.Plain x) false = refl
  does now b (plans.Recorded entry x absent undone) true = noting_after entry x.change _
  does now b (plans.Recorded entry x absent true) false = refl
  does now b (plans.Recorded entry x absent false) false = refl

pub still_done : (now : ℕ) (b : Book) (holds : Bool) (outs : Outs) (landed : Bool) → noted holds now b ≡ done (record { now = now; part = parts.Still holds outs }) landed b
still_done now b holds outs true = refl
still_done now b holds outs false = refl

pub transactions_done : (now : ℕ) (b k : Book) (p : ListPlan Transaction Move) (landed : Bool) → k ≡ with_transactions (branch_of p landed).change (gone p now landed b)
    → k ≡ done (record { now = now; part = parts.Transactions p }) landed b
transactions_done now b k p landed is = is ∙ does with_transactions (λ r c x. refl) now b p landed

pub leaves_done : (now : ℕ) (b k : Book) (p : ListPlan Leaf (Unit {0})) (landed : Bool) → k ≡ with_leaves (branch_of p landed).change (gone p now landed b)
    → k ≡ done (record { now = now; part = parts.Leaves p }) landed b
leaves_done now b k p landed is = is ∙ does with_leaves (λ r c x. refl) now b p landed

pub activities_done : (now : ℕ) (b k : Book) (p : ListPlan Activity (Unit {0})) (landed : Bool) → k ≡ with_activities (branch_of p landed).change (gone p now landed b)
    → k ≡ done (record { now = now; part = parts.Activities p }) landed b
activities_done now b k p landed is = is ∙ does with_activities (λ r c x. refl) now b p landed

-- its record, and what it sends
abbrev Sends : Planned → Outs → Bool → Type 0
Sends q outs landed = (outs.outs ≡ (branch q landed).outs) × (outs.effects ≡ (branch q landed).effects)

listed : {A M : Type 0} (put : Alteration A M → Book → Book) (b : Book) (now : ℕ) (p : ListPlan A M) (landed : Bool) → Sends (whole_by put b now p) (branch_of p landed).outs landed
listed put b now (plans.Plain x) true = (refl, refl)
listed put b now (plans.Plain x) false = (refl, refl)
listed put b now (plans.Recorded entry x absent undone) true = (refl, refl)
listed put b now (plans.Recorded entry x absent undone) false = (refl, refl)

sends : (now : ℕ) (b : Book) (part : Part) (landed : Bool) → Sends (whole b now part) (part_outs part landed) landed
sends now b (parts.Still holds outs) true = (refl, refl)
sends now b (parts.Still holds outs) false = (refl, refl)
sends now b (parts.Transactions p) landed = listed with_transactions b now p landed
sends now b (parts.Leaves p) landed = listed with_leaves b now p landed
sends now b (parts.Activities p) landed = listed with_activities b now p landed

entered : {A M : Type 0} (put : Alteration A M → Book → Book) (b : Book) (now : ℕ) (p : ListPlan A M) → entry_of p ≡ (whole_by put b now p).entry
entered put b now (plans.Plain x) = refl
entered put b now (plans.Recorded entry x absent undone) = refl

records : (now : ℕ) (b : Book) (part : Part) → part_entry part ≡ (whole b now part).entry
records now b (parts.Still holds outs) = refl
records now b (parts.Transactions p) = entered with_transactions b now p
records now b (parts.Leaves p) = entered with_leaves b now p
records now b (parts.Activities p) = entered with_activities b now p

pub steps_so : (b : Book) (e : Event) (now : ℕ) (part : Part) → whole b now part ≡ plan b e now → IsStep (record { now = now; part = part }) b e now
steps_so b e now part same =
    record {
      entry = records now b part ∙ ap (λ (p : Planned). p.entry) same;
      book = λ landed. ap (λ p. (branch p landed).book) same;
      outs = λ landed. (sends now b part landed).0 ∙ ap (λ p. (branch p landed).outs) same;
      effects = λ landed. (sends now b part landed).1 ∙ ap (λ p. (branch p landed).effects) same;
    }

pub keeps_bounds : RecordsAreWellFormed → KeepsBounds
keeps_bounds law =
    record {
      entry = λ p b e now r is s h made. law.entry b e now r s h (sym is.entry ∙ made);
      book = λ p b e now landed is s h. subst IsSound (sym (is.book landed)) (law.book b e now landed s h);
    }
