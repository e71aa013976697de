-- What the steps of an event give in the world, where its node goes on behind them.
use Rattle.std.specs.Prelude.{ℕ, List, [], ◌∷◌, ◌++◌, ◌+◌, ◌≡◌, Bool, false, Option, Some, length, map, refl}
use Rattle.std.proofs.Common.{ap, ◌∙◌}
use Rattle.std.proofs.lemmas.List.{append-nil}
use Rattle.at_model.specs.World.{Hosts, Input, Node, Turn, World, WorldEvent, node_of, nth}
use Rattle.fated_walks.specs.Fated.{AreFirstDue, AreWhole, Fated, IsBeyond, IsPlanned, StartsWith, all_fates, left_before, posts_of, taken_of}
use Rattle.fated_walks.specs.WalksByFates.{WalksByFates, behind}
use Rattle.node_at.specs.Doings.{came_of}
use Rattle.node_at.specs.Meanings.{Meaning}
use Rattle.node_at.specs.State.{State}
use Rattle.node_at.specs.TurnText.{TurnStep}
use Rattle.node_events.specs.CallEffects.{effects_in, effects_of}
use Rattle.node_events.specs.NodeEvents.{IsAt}
use Rattle.node_events.proofs.HeardInputs.{Heard}
use Rattle.node_events.proofs.TurnEvents.{turn_moves}
use Rattle.node_events.proofs.WalkedSteps.{AreAlike, book_up, goes_on, gone_on, runs_on}
use Rattle.node_worlds.specs.Nets.{Net, Place}
use Rattle.world_laws.specs.Moves.{ChangesByMoves, Move, ended, later_at, losses_of, move_of, moved_by, moved_in, numbered, seen, steps_of}
use Rattle.world_laws.specs.Walks.{Walk, is_over}
use Rattle.world_laws.specs.declared.step_outs.Moved.{Moved}

module _ (moves : ChangesByMoves) (w : World) (e : WorldEvent) (x : Node) (here : nth (node_of e) w.nodes ≡ Some x) where
  moved_so : (m : Move) → move_of e w.posted x ≡ m → moved_in (seen w) e ≡ m.moved
  unfolding moved_in
  moved_so m is = ap (moved_by e w.posted) here ∙ ap (λ (z : Move). z.moved) is

  steps_by : (m : Move) → move_of e w.posted x ≡ m → steps_of w e ≡ numbered (length w.posted) m.moved.taken
  steps_by m is = moves.told w e ∙ ap (λ (z : Moved). numbered (length w.posted) z.taken) (moved_so m is)

  losses_by : (m : Move) → move_of e w.posted x ≡ m → losses_of w e ≡ m.moved.lost
  losses_by m is = ap (λ (z : Moved). z.lost) (moved_so m is)

  -- a walk behind which its node goes on
  module _ (y : Node) (v : Walk) (is : move_of e w.posted x ≡ ended y v) (runs : is_over v.luck ≡ false) where
    pub steps_gave : steps_of w e ≡ numbered (length w.posted) v.taken
    steps_gave = steps_by (gone_on y v) (is ∙ goes_on y v runs)

    none_lost : losses_of w e ≡ []
    none_lost = losses_by (gone_on y v) (is ∙ goes_on y v runs)

    pub effects_gave : effects_of w e ≡ effects_in (numbered (length w.posted) v.taken)
    effects_gave = (λ j. effects_in (steps_gave j) ++ none_lost j) ∙ append-nil (effects_in (numbered (length w.posted) v.taken))

-- the walk of a turn that goes to its end
module _ (walks : WalksByFates) (hosts : Hosts) (net : Net) (w : World) (i : ℕ) (p : Place) (x : Node) (n : State) (at : IsAt hosts net w i p x n) (input : Input) (meaning : Meaning) (now : ℕ)
    (h : Heard w i x n.book input meaning now) (all : List Bool) (until : Option ℕ) (f : Fated) (fs : List Fated) (planned : IsPlanned h.begun f) (due : AreFirstDue now f.outcome.book [] fs)
    (whole : AreWhole (f ∷ fs)) (starts : StartsWith (all_fates (f ∷ fs)) all) (beyond : IsBeyond until (length (all_fates (f ∷ fs)))) where
  abbrev pub turn_walk : Walk
  turn_walk = behind n.book x.journal all (left_before until (length (all_fates (f ∷ fs)))) (f ∷ fs)

  pub turn_walks : move_of (Turn i input all until) w.posted x ≡ ended (later_at now x) turn_walk
  turn_walks =
      turn_moves w i x n.book input meaning now h (book_up hosts net w i p x n at) all until
      ∙ ap (ended (later_at now x)) (walks.whole now h.begun n.book x.journal f fs all until planned due whole starts beyond)

  pub turn_runs : is_over turn_walk.luck ≡ false
  turn_runs = runs_on until (length (all_fates (f ∷ fs))) beyond

-- steps that are like those of a node give its effects
pub alike_effects : (k : ℕ) (ss : List TurnStep) (fs : List Fated) → AreAlike ss fs → effects_in (numbered k (map taken_of fs)) ≡ came_of ss
alike_effects k [] [] h = refl
alike_effects k [] (f ∷ fs) h = absurd h
alike_effects k (s ∷ ss) [] h = absurd h
alike_effects k (s ∷ ss) (f ∷ fs) (h, more) = λ j. h.came j ++ alike_effects (k + length (posts_of f.ways)) ss fs more j
