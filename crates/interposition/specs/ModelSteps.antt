-- The plan of a book is the model's, and doing it is the model's step.
use Rattle.std.specs.Prelude.{ℕ, Some, Bool, map, ◌++◌, ◌≡◌}
use Rattle.at_base.specs.WellFormed.{IsWellFormed}
use Rattle.at_base.specs.declared.record.Record.{Record}
use Rattle.at_base.specs.declared.event.Event.{Event}
use Rattle.at_model.specs.Book.{Book}
use Rattle.model_laws.specs.BookBounds.{IsSound, IsSoundEvent}
use Rattle.at_model.specs.Step.{plan, step}
use Rattle.at_model.specs.World.{happened_at, lost_in}
use Rattle.coordinator_at.specs.TransactionPlans.{transactions_lost}
use Rattle.participant_at.specs.LeafPlans.{leaves_lost}
use Rattle.interposition.specs.PlanResults.{done, recorded, sent}
use Rattle.interposition.specs.declared.plan.Plan.{Plan}

-- The model's step of an event, and the record that it is made behind, are what this plan does and has.
pub record IsStep (p : Plan) (b : Book) (e : Event) (now : ℕ) : Type 0 where
  pub entry : recorded p ≡ (plan b e now).entry
  pub book : (landed : Bool) → done p landed b ≡ (step b e now landed).book
  pub outs : (landed : Bool) → (sent p landed).outs ≡ (step b e now landed).outs
  pub effects : (landed : Bool) → (sent p landed).effects ≡ (step b e now landed).effects

-- Over events within the bounds that decoding keeps, a plan of a book within its bounds has well-formed records alone,
-- and the book stays within them.
pub record KeepsBounds : Type 0 where
  pub entry : (p : Plan) (b : Book) (e : Event) (now : ℕ) (r : Record) → IsStep p b e now → IsSound b → IsSoundEvent e → recorded p ≡ Some r → IsWellFormed r
  pub book : (p : Plan) (b : Book) (e : Event) (now : ℕ) (landed : Bool) → IsStep p b e now → IsSound b → IsSoundEvent e → IsSound (done p landed b)

-- What a book loses where its node goes down is what the model says that the node loses.
abbrev pub LosesAsTheModel : Type 0
LosesAsTheModel = (n : ℕ) (b : Book) → map (happened_at n) (transactions_lost b.transactions ++ leaves_lost b.leaves) ≡ lost_in n b
