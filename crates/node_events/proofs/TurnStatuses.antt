-- A turn that goes to its end is answered as the world's steps of its event say.
use Rattle.std.specs.Prelude.{ℕ, List, [], ◌∷◌, ◌≡◌, Bool, Option, None, Some, length, map, refl}
use Rattle.std.proofs.Common.{sym, subst, ap, ◌∙◌}
use Rattle.at_base.specs.declared.outs.Out.{Out}
use Rattle.at_base.specs.declared.outs.Out.TheVariants as outs
use Rattle.at_model.specs.Book.{Book}
use Rattle.at_model.specs.Step.{Outcome}
use Rattle.at_model.specs.World.{Deliver, Hosts, Input, Node, Raw, Tick, Turn, World}
use Rattle.fated_walks.specs.Fated.{AreFirstDue, AreWhole, Fated, IsBeyond, IsPlanned, StartsWith, Way, all_fates, answer_in, answered_by, out_of, taken_of}
use Rattle.fated_walks.specs.WalksByFates.{WalksByFates}
use Rattle.node_at.specs.Doings.{Doing}
use Rattle.node_at.specs.Meanings.{Meaning}
use Rattle.node_at.specs.Meanings.Meaning.{Refused}
use Rattle.node_at.specs.State.{State}
use Rattle.node_at.specs.Steps.{status_in as sent_status}
use Rattle.node_at.specs.TurnText.{IsFirst, Steppings, TurnStep}
use Rattle.node_at.specs.TurnText.Steppings.{asked, unasked}
use Rattle.node_events.specs.AnsweredTurns.{SaysStatus, TurnsAnswerSo}
use Rattle.node_events.specs.Fares.{AreFared}
use Rattle.node_events.specs.NodeEvents.{AreStepsOf, IsAt, IsInput}
use Rattle.node_events.proofs.FatedSteps.{all_whole}
use Rattle.node_events.proofs.GivenSteps.{steps_gave, turn_runs, turn_walk, turn_walks}
use Rattle.node_events.proofs.HeardInputs.{Heard, IsTold, heard}
use Rattle.node_events.proofs.MovedWorlds.{same_some}
use Rattle.node_events.proofs.PlannedSteps.{outcome_fated}
use Rattle.node_worlds.specs.Nets.{Net, Place}
use Rattle.world_laws.specs.Moves.{ChangesByMoves, later_at, numbered, steps_of}
use Rattle.fated_walks.specs.Statuses.{status_in, status_of}
use Rattle.world_laws.specs.declared.step_outs.Answer.{Answer}

-- the first answer stays
first_stays : (a : Answer) (ws : List Way) → answer_in (Some a) ws ≡ Some a
first_stays a [] = refl
first_stays a (w ∷ ws) = by w.out ∙ first_stays a ws
  where
    by : (out : Out) → answer_in (answered_by (Some a) out) ws ≡ answer_in (Some a) ws
    by (outs.Post p) = refl
    by (outs.Answer status reply) = refl

-- and its status is that of the outs
ways_status : (ws : List Way) → status_of (answer_in None ws) ≡ sent_status (map out_of ws)
ways_status [] = refl
ways_status (w ∷ ws) = by (ways_status ws) w.out
  where
    by : status_of (answer_in None ws) ≡ sent_status (map out_of ws) → (out : Out) → status_of (answer_in (answered_by None out) ws) ≡ sent_status (out ∷ map out_of ws)
    by later (outs.Post p) = later
    by later (outs.Answer status reply) = ap status_of (first_stays (record { status = status; reply = reply }) ws)

module _ (walks : WalksByFates) (moves : ChangesByMoves) (hosts : Hosts) (net : Net) (w : World) (i : ℕ) (p : Place) (x : Node) (n : State) (at : IsAt hosts net w i p x n) (input : Input) (meaning : Meaning)
    (now : ℕ) (h : Heard w i x n.book input meaning now) (all : List Bool) (until : Option ℕ) where
  -- what the world's steps of the event gave
  turn_gave : (f : Fated) (fs : List Fated) → IsPlanned h.begun f → AreFirstDue now f.outcome.book [] fs → AreWhole (f ∷ fs) → StartsWith (all_fates (f ∷ fs)) all → IsBeyond until (length (all_fates (f ∷ fs)))
      → steps_of w (Turn i input all until) ≡ numbered (length w.posted) (map taken_of (f ∷ fs))
  turn_gave f fs planned due whole starts beyond =
      steps_gave moves w (Turn i input all until) x at.node (later_at now x) (turn_walk walks hosts net w i p x n at input meaning now h all until f fs planned due whole starts beyond)
      (turn_walks walks hosts net w i p x n at input meaning now h all until f fs planned due whole starts beyond)
      (turn_runs walks hosts net w i p x n at input meaning now h all until f fs planned due whole starts beyond)

  asked_status : IsTold input → (status : ℕ) (first : TurnStep) (rest : List TurnStep) (ds : List Doing) (f : Fated) (fs : List Fated) → IsFirst n.book now meaning first status → IsPlanned h.begun f
      → AreFirstDue now f.outcome.book [] fs → AreFared (first ∷ rest) ds (f ∷ fs) → StartsWith (all_fates (f ∷ fs)) all → IsBeyond until (length (all_fates (f ∷ fs)))
      → status_in (steps_of w (Turn i input all until)) ≡ status
  asked_status told status first rest [] f fs is planned due fared starts beyond = absurd fared
  asked_status told status first rest (d ∷ ds) f fs is planned due fared starts beyond =
      ap status_in (turn_gave f fs planned due (all_whole (first ∷ rest) (d ∷ ds) (f ∷ fs) fared) starts beyond)
      ∙ ways_status f.ways
      ∙ ap sent_status fared.0.whole
      ∙ ap (λ (o : Outcome). sent_status o.outs) (outcome_fated h.begun first f (h.first first status is) planned fared.0.records)
      ∙ sym (h.answers told first status is)

stepped_status : (walks : WalksByFates) (moves : ChangesByMoves) (hosts : Hosts) (net : Net) (w : World) (i : ℕ) (p : Place) (x : Node) (n : State) → IsAt hosts net w i p x n → (input : Input) (meaning : Meaning)
    (now : ℕ) → Heard w i x n.book input meaning now → IsTold input → (status : ℕ) (steps : List TurnStep) (ds : List Doing) (fated : List Fated) → Steppings now n.book [] meaning steps status
    → AreStepsOf w i x n.book input now fated → AreFared steps ds fated → (all : List Bool) (until : Option ℕ) → StartsWith (all_fates fated) all → IsBeyond until (length (all_fates fated))
    → status_in (steps_of w (Turn i input all until)) ≡ status
stepped_status walks moves hosts net w i p x n at input meaning now h told status steps ds fated (unasked due) row fared all until starts beyond = absurd (h.told refl)
stepped_status walks moves hosts net w i p x n at input meaning now h told status steps ds fated (asked first rest is due e) row fared all until starts beyond =
    asked_status walks moves hosts net w i p x n at input meaning now h all until told status first rest ds row.first row.rest is
    (subst (λ q. IsPlanned q row.first) (same_some row.begun h.begun (sym row.is ∙ h.is)) row.planned) row.due
    (subst (λ ss. AreFared ss ds (row.first ∷ row.rest)) e (subst (AreFared steps ds) row.all fared)) (subst (λ fs. StartsWith (all_fates fs) all) row.all starts)
    (subst (λ fs. IsBeyond until (length (all_fates fs))) row.all beyond)

-- bytes that are refused
refused_so : (b : Book) (now : ℕ) (answer : ℕ) (text : Option (List ℕ)) (meaning : Meaning) (status : ℕ) (steps : List TurnStep) → meaning ≡ Refused answer text → Steppings now b [] meaning steps status
    → meaning ≡ Refused status text
refused_so b now answer text _ _ steps e (unasked due) = absurd cc
refused_so b now answer text meaning status steps e (asked first rest is due f) =
    let so : IsFirst b now (Refused answer text) first status = subst (λ z. IsFirst b now z first status) e is in
    e ∙ ap (λ k. Refused k text) (sym so.1)

pub turns_answer_so : WalksByFates → ChangesByMoves → TurnsAnswerSo
turns_answer_so walks moves hosts net w i p x n input meaning now status steps doings fated at is turns row fared all until starts beyond = by input is row
  where
    by : (input : Input) → IsInput w i x input meaning now → AreStepsOf w i x n.book input now fated → SaysStatus w (Turn i input all until) input meaning status
    by (Deliver k) is row =
        stepped_status walks moves hosts net w i p x n at (Deliver k) meaning now (heard w i x n.book (Deliver k) meaning now is) tt status steps doings fated turns row fared all until starts beyond
    by (Tick ms) is row =
        stepped_status walks moves hosts net w i p x n at (Tick ms) meaning now (heard w i x n.book (Tick ms) meaning now is) tt status steps doings fated turns row fared all until starts beyond
    by Raw (answer, text, says, same) row = (text, refused_so n.book now answer text meaning status steps says turns)
