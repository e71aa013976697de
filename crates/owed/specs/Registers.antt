-- Every Register is answered.
use Rattle.std.specs.Prelude.{ℕ, List, Option, Some, true, ◌≡◌}
use Rattle.at_base.specs.Numbers.{Numbers}
use Rattle.at_base.specs.declared.epr.Epr.{Epr}
use Rattle.at_base.specs.declared.epr.Reply.TheVariants as replies
use Rattle.at_base.specs.declared.event.Arrived.{Arrived}
use Rattle.at_base.specs.declared.event.Event.TheVariants as events
use Rattle.at_base.specs.declared.message.Message.TheVariants as messages
use Rattle.at_base.specs.declared.message.Register.{Register}
use Rattle.at_base.specs.declared.outs.Post.{Post}
use Rattle.at_base.specs.declared.target.Target.TheVariants as targets
use Rattle.at_model.specs.Book.{Book}
use Rattle.at_model.specs.Step.{step}
use Rattle.model_laws.specs.Agreement.{IsIn}
use Rattle.owed.specs.Leaves.{AnswersRegister}
use Rattle.owed.specs.Seats.{posts_of}

-- an answer to a Register of this id goes to this endpoint
abbrev pub TellsRegistered : Epr → Option (List ℕ) → List Post → Type 0
TellsRegistered to id ps = (p : Post) × IsIn p ps × (p.to ≡ Some to) × (p.relates ≡ id) × AnswersRegister p.message

-- A Register that comes for any transaction, known or not, with an endpoint to answer to, is answered there with a
-- RegisterResponse or a fault that relates to it (WS-Coordination 1.2, section 3.2).
pub record RegistersAreAnswered : Type 0 where
  pub answered : (b : Book) (a : Arrived) (now : ℕ) (id : Numbers) (r : Register) (to : Epr) → a.target ≡ targets.Registration id → a.message ≡ messages.Register r → a.reply ≡ replies.At to
      → a.fault ≡ replies.At to → TellsRegistered to a.id (posts_of (step b (events.Arrived a) now true).outs)
