-- A Register is answered, in each state of the transaction, also where it is unknown (WS-Coordination 1.2, section 3.2).
use Rattle.std.specs.Prelude.{ℕ, List, Some, Bool, ◌≡◌}
use Rattle.at_base.specs.Numbers.{Numbers}
use Rattle.at_base.specs.declared.epr.Epr.{Epr}
use Rattle.at_base.specs.declared.epr.Reply.TheVariants as replies
use Rattle.at_base.specs.declared.event.Arrived.{Arrived}
use Rattle.at_base.specs.declared.event.Event.TheVariants as events
use Rattle.at_base.specs.declared.message.Message.{Message}
use Rattle.at_base.specs.declared.message.Message.TheVariants as messages
use Rattle.at_base.specs.declared.message.Register.{Register}
use Rattle.at_base.specs.declared.outs.Post.{Post}
use Rattle.at_base.specs.declared.target.Target.TheVariants as targets
use Rattle.at_model.specs.Book.{Book}
use Rattle.at_model.specs.Step.{step}
use Rattle.model_laws.specs.Agreement.{IsIn}
use Rattle.settling.specs.Load.{posts_in}

-- a RegisterResponse, or a fault
abbrev pub EndsRegister : Message → Type 0
EndsRegister (messages.RegisterResponse coordinator) = Unit {0}
EndsRegister (messages.Fault name) = Unit {0}
EndsRegister other = ⊥

-- an answer goes to this endpoint, and relates to the request
pub record IsAnswered (a : Arrived) (to : Epr) (ps : List Post) : Type 0 where
  pub post : Post
  pub posted : IsIn post ps
  pub sent : post.to ≡ Some to
  pub relates : post.relates ≡ a.id
  pub ends : EndsRegister post.message

pub record RegistersAreAnswered : Type 0 where
  pub answered : (b : Book) (a : Arrived) (now : ℕ) (landed : Bool) (id : Numbers) (r : Register) (to : Epr) → a.target ≡ targets.Registration id → a.message ≡ messages.Register r
      → a.reply ≡ replies.At to → a.fault ≡ replies.At to → IsAnswered a to (posts_in (step b (events.Arrived a) now landed).outs)
