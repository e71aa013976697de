-- What a node's steps brought about is what their event does.
use Rattle.std.specs.Prelude.{ℕ, List, [], ◌∷◌, ◌≡◌, Bool, None, Option, Some, false, length}
use Rattle.std.proofs.Common.{sym, subst, ◌∙◌}
use Rattle.std.proofs.lemmas.List.{append-nil}
use Rattle.at_base.specs.declared.event.Event.TheVariants as events
use Rattle.at_base.specs.declared.event.Local.{Local}
use Rattle.at_model.specs.Activities.{Refusal}
use Rattle.at_model.specs.Step.{plan, refuses}
use Rattle.at_model.specs.World.{Ask, Hosts, Input, Node, Turn, World, stops}
use Rattle.fated_walks.specs.Fated.{AreWhole, Fated, IsBeyond, IsPlanned, StartsWith, all_fates, fates_of, left_before}
use Rattle.fated_walks.specs.WalksByFates.{WalksByFates, behind}
use Rattle.node_at.specs.Doings.{Doing, came_of}
use Rattle.node_at.specs.Meanings.{Meaning}
use Rattle.node_at.specs.State.{State}
use Rattle.node_at.specs.TurnText.{TurnStep}
use Rattle.node_events.specs.CallEffects.{EffectsAgree, effects_of}
use Rattle.node_events.specs.Fares.{AreFared, IsFared}
use Rattle.node_events.specs.NodeEvents.{AreStepsOf, IsAt, IsInput}
use Rattle.node_events.proofs.FatedSteps.{all_whole}
use Rattle.node_events.proofs.GivenSteps.{alike_effects, effects_gave, turn_runs, turn_walk, turn_walks}
use Rattle.node_events.proofs.HeardInputs.{Heard, heard}
use Rattle.node_events.proofs.MovedWorlds.{same_some}
use Rattle.node_events.proofs.RequestEvents.{left_runs, moved, refused_walk, runs_on, walk_of}
use Rattle.node_events.proofs.WalkedSteps.{fared_alike}
use Rattle.node_worlds.specs.Nets.{Net, Place}
use Rattle.world_laws.specs.Moves.{ChangesByMoves, later_at, luck_of}
use Rattle.world_laws.specs.Walks.{Walk}

module _ (walks : WalksByFates) (moves : ChangesByMoves) (hosts : Hosts) (net : Net) (w : World) (i : ℕ) (p : Place) (x : Node) (n : State) (at : IsAt hosts net w i p x n) where
  -- a turn
  turned : (input : Input) (meaning : Meaning) (now : ℕ) (steps : List TurnStep) (doings : List Doing) (fated : List Fated) → IsInput w i x input meaning now → AreStepsOf w i x n.book input now fated
      → AreFared steps doings fated → (all : List Bool) (until : Option ℕ) → StartsWith (all_fates fated) all → IsBeyond until (length (all_fates fated)) → came_of steps ≡ effects_of w (Turn i input all until)
  turned input meaning now steps doings fated is row fared all until starts beyond =
      sym
      (effects_gave moves w (Turn i input all until) x at.node (later_at now x) (turn_walk walks hosts net w i p x n at input meaning now h all until row.first row.rest planned row.due whole begins ends)
      (turn_walks walks hosts net w i p x n at input meaning now h all until row.first row.rest planned row.due whole begins ends)
      (turn_runs walks hosts net w i p x n at input meaning now h all until row.first row.rest planned row.due whole begins ends)
      ∙ alike_effects (length w.posted) steps (row.first ∷ row.rest) (fared_alike steps doings (row.first ∷ row.rest) are))
    where
      h : Heard w i x n.book input meaning now
      h = heard w i x n.book input meaning now is

      planned : IsPlanned h.begun row.first
      planned = subst (λ q. IsPlanned q row.first) (same_some row.begun h.begun (sym row.is ∙ h.is)) row.planned

      are : AreFared steps doings (row.first ∷ row.rest)
      are = subst (AreFared steps doings) row.all fared

      whole : AreWhole (row.first ∷ row.rest)
      whole = all_whole steps doings (row.first ∷ row.rest) are

      begins : StartsWith (all_fates (row.first ∷ row.rest)) all
      begins = subst (λ fs. StartsWith (all_fates fs) all) row.all starts

      ends : IsBeyond until (length (all_fates (row.first ∷ row.rest)))
      ends = subst (λ fs. IsBeyond until (length (all_fates fs))) row.all beyond

  -- a request
  module _ (l : Local) where
    asked : (step : TurnStep) (doing : Doing) (f : Fated) → IsPlanned (plan n.book (events.Local l) x.clock) f → IsFared step doing f → (all : List Bool) (until : Option ℕ) → StartsWith (fates_of f) all
        → IsBeyond until (length (fates_of f)) → step.came ≡ effects_of w (Ask i l all until)
    asked step doing f planned fared all until starts beyond =
        sym
        (effects_gave moves w (Ask i l all until) x at.node x walk
        (moved walks moves hosts net w i p x n l at all until walk (walks.whole_step (plan n.book (events.Local l) x.clock) n.book x.journal f all until planned fared.whole starts beyond))
        (left_runs until (length (fates_of f)) beyond) ∙ append-nil f.outcome.effects ∙ fared.came)
      where
        walk : Walk
        walk = behind n.book x.journal all (left_before until (length (fates_of f))) (f ∷ [])

    refused : (why : Refusal) (fates : List Bool) (until : Option ℕ) → refuses n.book l ≡ Some why → (until ≡ Some 0 → ⊥) → effects_of w (Ask i l fates until) ≡ []
    refused why fates until e later =
        effects_gave moves w (Ask i l fates until) x at.node x walk
        (moved walks moves hosts net w i p x n l at fates until walk (refused_walk walks moves hosts net w i p x n l at (refuses n.book l) fates until why e runs)) runs
      where
        runs : stops until ≡ false
        runs = runs_on walks moves hosts net w i p x n l at until later

        walk : Walk
        walk = walk_of n.book x.journal (luck_of fates until) (record { effects = []; answer = None; posts = [] } ∷ [])

pub effects_agree : WalksByFates → ChangesByMoves → EffectsAgree
effects_agree walks moves = record {
  turned = λ hosts net w i p x n input meaning now steps doings fated at is row fared. turned walks moves hosts net w i p x n at input meaning now steps doings fated is row fared;
  asked = λ hosts net w i p x n l step doing fated at. asked walks moves hosts net w i p x n at l step doing fated;
  refused = λ hosts net w i p x n l why fates until at. refused walks moves hosts net w i p x n at l why fates until;
}
