-- What a turn did in which its node went down, as its event says it.
use Rattle.std.specs.Prelude.{ℕ, List, [], ◌∷◌, ◌++◌, ◌+◌, ◌<◌, ◌⊎◌, ◌≡◌, Bool, true, Some, length, map}
use Rattle.at_base.specs.declared.event.Event.TheVariants as events
use Rattle.at_base.specs.declared.event.Local.{Local}
use Rattle.at_base.specs.declared.record.Record.{Record}
use Rattle.at_model.specs.Step.{plan}
use Rattle.at_model.specs.World.{Ask, Hosts, Input, Node, World, WorldEvent, Turn}
use Rattle.fated_walks.specs.Fated.{AllLeft, AreCut, Fated, IsPlanned, all_fates, fates_of, taken_of}
use Rattle.node_at.specs.Doings.{Doing, book_behind, came_of}
use Rattle.node_at.specs.Meanings.{Meaning}
use Rattle.node_at.specs.State.{State}
use Rattle.node_at.specs.TurnText.{IsFirst, IsStep, Steppings, TurnStep}
use Rattle.node_events.specs.CallEffects.{effects_of}
use Rattle.node_events.specs.Fares.{AreFared, IsFared}
use Rattle.node_events.specs.NodeEvents.{AreStepsOf, IsAt, IsInput, IsStruck, front_by, struck}
use Rattle.node_worlds.specs.Nets.{Net, Place}
use Rattle.world_laws.specs.Moves.{losses_of, lost_of, numbered, steps_of}

-- a step of the event brings about what the node's does
abbrev pub HaveCome : List TurnStep → List Fated → Type 0
HaveCome [] [] = Unit {0}
HaveCome [] (f ∷ fs) = ⊥
HaveCome (s ∷ ss) [] = ⊥
HaveCome (s ∷ ss) (f ∷ fs) = (f.outcome.effects ≡ s.came) × HaveCome ss fs

-- These steps of the node are those of the event that counted, with these fates, the last one cut off; then what was in its book behind them is lost.
pub record Tells (w : World) (event : WorldEvent) (n : State) (front : List TurnStep) (fates : List Bool) : Type 0 where
  pub fated : List Fated
  pub cut : (fated ≡ []) ⊎ (AreCut fated × (all_fates fated ≡ fates))
  pub came : HaveCome front fated
  pub steps : steps_of w event ≡ numbered (length w.posted) (map taken_of fated)
  pub losses : losses_of w event ≡ lost_of (book_behind n.book front)
  -- and so its effects are those of the steps and what is lost
  pub effects : effects_of w event ≡ came_of front ++ lost_of (book_behind n.book front)

-- One that is cut off at one of its calls, with the steps up to that.
pub record TellsStruck (hosts : Hosts) (net : Net) (w : World) (i : ℕ) (p : Place) (n : State) (event : WorldEvent) (now before : ℕ) (last : Bool) (steps : List TurnStep) (doings : List Doing) : Type 0 where
  pub is : IsStruck hosts net w i p n event now before last steps doings
  pub tells : Tells w event n is.front (struck before last)

abbrev pub StopsTell : Type 0
StopsTell =
    (hosts : Hosts) (net : Net) (w : World) (i : ℕ) (p : Place) (x : Node) (n : State) (input : Input) (meaning : Meaning) (now status : ℕ) (steps : List TurnStep) (doings : List Doing) (fated : List Fated)
    → IsAt hosts net w i p x n → IsInput w i x input meaning now → Steppings now n.book [] meaning steps status → AreStepsOf w i x n.book input now fated → AreFared steps doings fated → AllLeft fated
    → (before : ℕ) (last : Bool) → before < length (all_fates fated) → TellsStruck hosts net w i p n (Turn i input (struck before last) (Some (before + 1))) now before last steps doings

-- One that halts at its first step's record.
abbrev pub HaltsTell : Type 0
HaltsTell =
    (hosts : Hosts) (net : Net) (w : World) (i : ℕ) (p : Place) (x : Node) (n : State) (input : Input) (meaning : Meaning) (now status : ℕ) (step : TurnStep) (entry : Record) (stands : Bool)
    → IsAt hosts net w i p x n → IsInput w i x input meaning now → IsFirst n.book now meaning step status → step.entry ≡ Some entry → step.landed ≡ true
    → Tells w (Turn i input (stands ∷ []) (Some 1)) n (front_by stands step) (stands ∷ [])

-- One that is cut off before its first step.
abbrev pub UnbegunTell : Type 0
UnbegunTell =
    (hosts : Hosts) (net : Net) (w : World) (i : ℕ) (p : Place) (x : Node) (n : State) (input : Input) (meaning : Meaning) (now : ℕ) → IsAt hosts net w i p x n → IsInput w i x input meaning now
    → Tells w (Turn i input [] (Some 0)) n [] []

-- The same of a request, at the clock of its node.
pub record RequestsTell : Type 0 where
  pub stopped : (hosts : Hosts) (net : Net) (w : World) (i : ℕ) (p : Place) (x : Node) (n : State) (l : Local) (step : TurnStep) (doing : Doing) (fated : Fated)
      → IsAt hosts net w i p x n → IsStep n.book (events.Local l) x.clock step → IsPlanned (plan n.book (events.Local l) x.clock) fated → IsFared step doing fated → AllLeft (fated ∷ [])
      → (before : ℕ) (last : Bool) → before < length (fates_of fated)
      → TellsStruck hosts net w i p n (Ask i l (struck before last) (Some (before + 1))) x.clock before last (step ∷ []) (doing ∷ [])
  pub halted : (hosts : Hosts) (net : Net) (w : World) (i : ℕ) (p : Place) (x : Node) (n : State) (l : Local) (step : TurnStep) (entry : Record) (stands : Bool)
      → IsAt hosts net w i p x n → IsStep n.book (events.Local l) x.clock step → step.entry ≡ Some entry → step.landed ≡ true
      → Tells w (Ask i l (stands ∷ []) (Some 1)) n (front_by stands step) (stands ∷ [])
