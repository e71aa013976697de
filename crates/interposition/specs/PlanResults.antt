-- What a plan does to a book, where its record landed, and where it didn't.
use Rattle.std.specs.Prelude.{ℕ, List, Option, None, Bool, if◌then◌else◌}
use Rattle.at_base.specs.Numbers.{Numbers}
use Rattle.at_base.specs.declared.record.Record.{Record}
use Rattle.at_base.specs.declared.outs.Outs.{Outs}
use Rattle.at_model.specs.Book.{Book}
use Rattle.at_model.specs.Outcomes.{with_outcome}
use Rattle.at_model.specs.Step.{Plan as Planned, at_time, branch, plain}
use Rattle.by_id.specs.Plans.{branch_of, draws, entry_of, notes_time}
use Rattle.by_id.specs.Wholes.{drawn}
use Rattle.by_id.specs.declared.plan.Plan.{Plan as ListPlan}
use Rattle.by_id.specs.declared.plan.Plan.TheVariants as plans
use Rattle.participant_at.specs.LeafPlans.{whole as of_leaves}
use Rattle.coordinator_at.specs.TransactionPlans.{whole as of_transactions}
use Rattle.completion_at.specs.ActivityPlans.{whole as of_activities}
use Rattle.interposition.specs.declared.plan.Part.{Part}
use Rattle.interposition.specs.declared.plan.Part.TheVariants as parts
use Rattle.interposition.specs.declared.plan.Plan.{Plan}

abbrev pub noted : Bool → ℕ → Book → Book
noted holds now b = if holds then at_time now b else b

-- the outcomes behind it: a record that stands may add one
abbrev pub outcomes_by : {A M : Type 0} → ListPlan A M → Bool → List Numbers → List Numbers
outcomes_by (plans.Plain branch) landed ids = ids
outcomes_by (plans.Recorded entry stands absent undone) landed ids = if landed then with_outcome entry ids else ids

abbrev pub kept : List Numbers → Book → Book
kept ids b = record b { outcomes = ids }

-- what a plan of a list does to the book beside the list
abbrev pub gone : {A M : Type 0} → ListPlan A M → ℕ → Bool → Book → Book
gone p now landed b = kept (outcomes_by p landed b.outcomes) (drawn (draws p landed) (noted (notes_time p landed) now b))

-- a part, as the model's plan of the book
abbrev pub whole : Book → ℕ → Part → Planned
whole b now (parts.Still holds outs) = plain (record { book = noted holds now b; outs = outs.outs; effects = outs.effects })
whole b now (parts.Transactions p) = of_transactions b now p
whole b now (parts.Leaves p) = of_leaves b now p
whole b now (parts.Activities p) = of_activities b now p

abbrev pub part_entry : Part → Option Record
part_entry (parts.Still holds outs) = None
part_entry (parts.Transactions p) = entry_of p
part_entry (parts.Leaves p) = entry_of p
part_entry (parts.Activities p) = entry_of p

abbrev pub part_outs : Part → Bool → Outs
part_outs (parts.Still holds outs) landed = outs
part_outs (parts.Transactions p) landed = (branch_of p landed).outs
part_outs (parts.Leaves p) landed = (branch_of p landed).outs
part_outs (parts.Activities p) landed = (branch_of p landed).outs

-- the book after it
abbrev pub done : Plan → Bool → Book → Book
done p landed b = (branch (whole b p.now p.part) landed).book

-- what is sent and happened
abbrev pub sent : Plan → Bool → Outs
sent p landed = part_outs p.part landed

-- the record that is appended before
abbrev pub recorded : Plan → Option Record
recorded p = part_entry p.part
