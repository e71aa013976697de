-- The plan of one list of a book, as a plan of the whole book.
use Rattle.std.specs.Prelude.{ℕ, Bool, Option, Some, None, ◌+◌, if◌then◌else◌, nat_lt}
use Rattle.at_model.specs.Book.{Book, last_counter}
use Rattle.at_model.specs.Step.{Outcome, Plan, plain, noting, at_time}
use Rattle.by_id.specs.Lists.{is_addition}
use Rattle.by_id.specs.declared.list.Alteration.{Alteration}
use Rattle.by_id.specs.declared.plan.Branch.{Branch}
use Rattle.by_id.specs.declared.plan.Plan.{Plan as Planned}
use Rattle.by_id.specs.declared.plan.Plan.TheVariants as plans

-- an item that is made draws an id, as long as there is one
abbrev pub drawn : Bool → Book → Book
drawn holds b = record b { counter = if holds then (if nat_lt b.counter last_counter then b.counter + 1 else b.counter) else b.counter }

-- the book with what becomes of the list, where `put` takes it over
abbrev pub outcome_in : {A M : Type 0} → (Alteration A M → Book → Book) → Book → Branch A M → Outcome
outcome_in put b branch = record {
  book = put branch.change (drawn (is_addition branch.change) b);
  outs = branch.outs.outs;
  effects = branch.outs.effects;
}

-- The plan of the list, as a plan of the book that holds it. A step that is undone doesn't note the time.
abbrev pub whole_by : {A M : Type 0} → (Alteration A M → Book → Book) → Book → ℕ → Planned A M → Plan
whole_by put b now (plans.Plain branch) = plain (outcome_in put (at_time now b) branch)
whole_by put b now (plans.Recorded entry landed absent undone) = record {
  entry = Some entry;
  landed = noting entry (outcome_in put (at_time now b) landed);
  absent = outcome_in put (if undone then b else at_time now b) absent;
}

-- Where the list has nothing to do with the event, this is done.
abbrev pub whole_or : {A M : Type 0} → (Alteration A M → Book → Book) → Book → ℕ → Plan → Option (Planned A M) → Plan
whole_or put b now other None = other
whole_or put b now other (Some p) = whole_by put b now p
