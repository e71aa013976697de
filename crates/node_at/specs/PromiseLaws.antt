-- What holds of a step of a book whose promises are live, and behind it.
use Rattle.std.specs.Prelude.{ℕ, List, Bool, option_map}
use Rattle.std.specs.List.{AllByRecursion}
use Rattle.at_base.specs.WellFormed.{IsWellFormed}
use Rattle.at_base.specs.declared.event.Event.{Event}
use Rattle.at_base.specs.declared.record.Record.{Record}
use Rattle.at_model.specs.Book.{Book}
use Rattle.at_model.specs.Recovery.{recover}
use Rattle.at_model.specs.Step.{plan, step}
use Rattle.decision_log.specs.KeptRecords.{Known, kept_of}
use Rattle.decision_log.specs.Tokens.{token_of}
use Rattle.enlistments.specs.Moves.{IsReady}
use Rattle.journal_at.specs.declared.version.Version.TheVariants.{Two}
use Rattle.model_laws.specs.Order.{IsInOrder}
use Rattle.node_at.specs.Promises.{ArePromised, PromisesStand}
use Rattle.node_at.specs.Sends.{MayLeave, given}
use Rattle.node_at.specs.Steps.{if_landed, kept_by}

-- Every out of a step of a book whose promises are live may leave behind the step's record.
abbrev pub OutsMayLeave : Type 0
OutsMayLeave =
    (b : Book) (k : Known) (e : Event) (now : ℕ) (landed : Bool) → IsReady b → ArePromised b k
    → AllByRecursion (MayLeave (given (option_map token_of (if_landed landed (plan b e now).entry)) k) k.done) (step b e now landed).outs

-- Promises that are live are so behind each step, with what is kept behind its record; and those of a recovered book are.
pub record PromisesStay : Type 0 where
  pub steps : (b : Book) (k : Known) (e : Event) (now : ℕ) (landed : Bool) → PromisesStand b k
      → PromisesStand (step b e now landed).book (kept_by (if_landed landed (plan b e now).entry) k)
  pub recovered : (base : List ℕ) (rs : List Record) → AllByRecursion IsWellFormed rs → IsInOrder (recover base rs) → PromisesStand (recover base rs) (kept_of Two rs)
