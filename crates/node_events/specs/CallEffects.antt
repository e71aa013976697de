-- The effects of what a node does in one call, and those of its event in the world.
use Rattle.std.specs.Prelude.{ℕ, List, [], ◌∷◌, ◌++◌, ◌≡◌, Bool, Option, Some, length}
use Rattle.at_base.specs.declared.event.Event.TheVariants as events
use Rattle.at_base.specs.declared.event.Local.{Local}
use Rattle.at_base.specs.declared.outs.Effect.{Effect}
use Rattle.at_model.specs.Activities.{Refusal}
use Rattle.at_model.specs.Step.{plan, refuses}
use Rattle.at_model.specs.World.{Hosts, Input, Node, World, WorldEvent, Ask, Turn}
use Rattle.fated_walks.specs.Fated.{Fated, IsBeyond, IsPlanned, StartsWith, all_fates, fates_of}
use Rattle.node_at.specs.Doings.{Doing, came_of}
use Rattle.node_at.specs.Meanings.{Meaning}
use Rattle.node_at.specs.State.{State}
use Rattle.node_at.specs.TurnText.{TurnStep}
use Rattle.node_worlds.specs.Nets.{Net, Place}
use Rattle.world_laws.specs.Moves.{losses_of, steps_of}
use Rattle.world_laws.specs.declared.posts.Counted.{Counted}
use Rattle.node_events.specs.Fares.{AreFared, IsFared}
use Rattle.node_events.specs.NodeEvents.{AreStepsOf, IsAt, IsInput}

-- the effects of these steps, one after another
abbrev pub effects_in : List Counted → List Effect
effects_in [] = []
effects_in (step ∷ rest) = step.effects ++ effects_in rest

-- The effects of an event: those of its steps, and then what going down lost.
abbrev pub effects_of : World → WorldEvent → List Effect
effects_of w e = effects_in (steps_of w e) ++ losses_of w e

-- What a node's steps brought about is, in order, what their event does, whatever became of the calls for them.
pub record EffectsAgree : Type 0 where
  -- in a turn that goes to its end
  pub turned : (hosts : Hosts) (net : Net) (w : World) (i : ℕ) (p : Place) (x : Node) (n : State) (input : Input) (meaning : Meaning) (now : ℕ) (steps : List TurnStep) (doings : List Doing) (fated : List Fated)
      → IsAt hosts net w i p x n → IsInput w i x input meaning now → AreStepsOf w i x n.book input now fated → AreFared steps doings fated
      → (all : List Bool) (until : Option ℕ) → StartsWith (all_fates fated) all → IsBeyond until (length (all_fates fated))
      → came_of steps ≡ effects_of w (Turn i input all until)
  -- in a request that is done
  pub asked : (hosts : Hosts) (net : Net) (w : World) (i : ℕ) (p : Place) (x : Node) (n : State) (l : Local) (step : TurnStep) (doing : Doing) (fated : Fated)
      → IsAt hosts net w i p x n → IsPlanned (plan n.book (events.Local l) x.clock) fated → IsFared step doing fated
      → (all : List Bool) (until : Option ℕ) → StartsWith (fates_of fated) all → IsBeyond until (length (fates_of fated))
      → step.came ≡ effects_of w (Ask i l all until)
  -- one that is refused brings nothing about
  pub refused : (hosts : Hosts) (net : Net) (w : World) (i : ℕ) (p : Place) (x : Node) (n : State) (l : Local) (why : Refusal) (fates : List Bool) (until : Option ℕ)
      → IsAt hosts net w i p x n → refuses n.book l ≡ Some why → (until ≡ Some 0 → ⊥) → effects_of w (Ask i l fates until) ≡ []
