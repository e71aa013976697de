-- How a step answers on the connection (SOAP 1.1, section 6.2; WS-Addressing 1.0 SOAP Binding, section 5.1).
use Rattle.std.specs.Prelude.{ℕ, List, [], ◌∷◌, ◌≡◌, ◌⊎◌, Bool}
use Rattle.at_base.specs.declared.event.Arrived.{Arrived}
use Rattle.at_base.specs.declared.event.Event.TheVariants as events
use Rattle.at_base.specs.declared.event.Item.{Item}
use Rattle.at_base.specs.declared.outs.Out.{Out}
use Rattle.at_base.specs.declared.outs.Out.TheVariants as outs
use Rattle.at_model.specs.Book.{Book}
use Rattle.at_model.specs.Step.{step}
use Rattle.model_laws.specs.Laws.{ArePosts}

-- with a reply, accepted, or with a fault
abbrev pub IsReplied : ℕ → Type 0
IsReplied status = (status ≡ 200) ⊎ ((status ≡ 202) ⊎ (status ≡ 500))

-- one answer, and then posts
abbrev pub IsReply : List Out → Type 0
IsReply [] = ⊥
IsReply (outs.Post post ∷ os) = ⊥
IsReply (outs.Answer status reply ∷ os) = IsReplied status × ArePosts os

-- A message is answered once, whatever becomes of its record, and so is a tick. An item that is due answers nobody.
pub record StepsReply : Type 0 where
  pub arrived : (b : Book) (a : Arrived) (now : ℕ) (landed : Bool) → IsReply (step b (events.Arrived a) now landed).outs
  pub ticks : (b : Book) (now : ℕ) (landed : Bool) → IsReply (step b events.Tick now landed).outs
  pub due : (b : Book) (item : Item) (now : ℕ) (landed : Bool) → ArePosts (step b (events.Due item) now landed).outs
