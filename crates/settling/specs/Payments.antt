-- A book pays for what it posts.
use Rattle.std.specs.Prelude.{ℕ, List, Some, Bool, ◌+◌, ◌≡◌, ◌≤◌}
use Rattle.at_base.specs.declared.message.Message.{Message}
use Rattle.at_base.specs.declared.message.Message.TheVariants as messages
use Rattle.at_base.specs.declared.event.Arrived.{Arrived}
use Rattle.at_base.specs.declared.event.Event.{Event}
use Rattle.at_base.specs.declared.event.Event.TheVariants as events
use Rattle.at_base.specs.declared.event.Item.{Item}
use Rattle.at_model.specs.Book.{Book}
use Rattle.at_model.specs.Step.{Outcome, step}
use Rattle.at_model.specs.World.{Node, WorldEvent, nth, run_of, Hosts}
use Rattle.model_laws.specs.PhaseAnswers.{IsInPhase}
use Rattle.model_laws.specs.Order.{IsInOrder}
use Rattle.agreement.specs.FinishedTransactions.{AreFinished}
use Rattle.settling.specs.Load.{Prices, load, posts_in, weight, weights}

-- a message that makes nothing
abbrev pub MakesNothing : Message → Type 0
MakesNothing (messages.Create c) = ⊥
MakesNothing (messages.Work w) = ⊥
MakesNothing other = Unit {0}

-- Links follow their phases, behind the answers that these want, seats have numbers of their own, and items ids of their own.
pub record IsSteady (b : Book) : Type 0 where
  pub order : IsInOrder b
  pub phases : IsInPhase b
  pub finished : AreFinished b

-- what is posted, and the load that is left
abbrev pub after : Prices → ℕ → Outcome → ℕ
after P now o = weights P (posts_in o.outs) + load P now o.book

-- A message that makes nothing pays 1 for itself; what is due pays for itself, and so does what isn't.
pub record Pays : Type 0 where
  pub arrival : (P : Prices) (b : Book) (a : Arrived) (now : ℕ) (landed : Bool) → IsSteady b → MakesNothing a.message
      → after P now (step b (events.Arrived a) now landed) + 1 ≤ load P now b + weight P a.message
  pub due : (P : Prices) (b : Book) (item : Item) (now : ℕ) (landed : Bool) → IsSteady b → after P now (step b (events.Due item) now landed) ≤ load P now b
  -- each step leaves such a book behind, and such is each book of each run
  pub stays : (b : Book) (e : Event) (now : ℕ) (landed : Bool) → IsSteady b → IsSteady (step b e now landed).book
  pub books : (hosts : Hosts) (es : List WorldEvent) (n : ℕ) (x : Node) (b : Book) → nth n (run_of hosts es).nodes ≡ Some x → x.book ≡ Some b → IsSteady b
