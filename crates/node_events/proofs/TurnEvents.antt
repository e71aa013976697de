-- A turn that went to its end is an event.
use Rattle.std.specs.Prelude.{ℕ, List, [], ◌∷◌, ◌++◌, ◌≡◌, Bool, Option, Some, drop, length, refl}
use Rattle.std.proofs.Common.{sym, subst, ap, ◌∙◌}
use Rattle.std.proofs.lemmas.List.{length-map}
use Rattle.at_model.specs.Book.{Book}
use Rattle.at_model.specs.World.{Hosts, Input, Node, Turn, World, world_step}
use Rattle.fated_walks.specs.Fated.{AreFirstDue, Fated, all_fates, left_before, taken_of}
use Rattle.fated_walks.specs.WalksByFates.{WalksByFates}
use Rattle.node_at.specs.Doings.{AreDoings, Doing, book_behind, came_of}
use Rattle.node_at.specs.Meanings.{Meaning}
use Rattle.node_at.specs.State.{State}
use Rattle.node_at.specs.Steps.{if_landed, kept_by}
use Rattle.node_at.specs.TurnText.{DueSteps, IsFirst, Steppings, TurnStep}
use Rattle.node_at.specs.TurnText.Steppings.{asked, unasked}
use Rattle.node_events.specs.NodeEvents.{IsAt, IsTurn, TurnsAreEvents}
use Rattle.node_events.proofs.Acceptances.{IsRow, accepted_by_all, outcomes_of, planned_first}
use Rattle.node_events.proofs.EventAcceptances.{turn_adds}
use Rattle.node_events.proofs.FatedSteps.{DueFated, OneFated, all_whole, due_fated, first_due, one_fated}
use Rattle.node_events.proofs.HeardInputs.{Heard, heard}
use Rattle.node_events.proofs.WalkedSteps.{book_up, end_leads, ended_taken, fared_alike, runs_on, walked}
use Rattle.node_worlds.specs.Nets.{Net, Place}
use Rattle.world_laws.specs.Moves.{ChangesByMoves, ended, input_move, later_at, luck_of, move_of}
use Rattle.world_laws.specs.Walks.{Walk, begin, turned}

-- the walk of a turn
pub turn_moves : (w : World) (i : ℕ) (x : Node) (b : Book) (input : Input) (meaning : Meaning) (now : ℕ) (h : Heard w i x b input meaning now) → x.book ≡ Some b → (fates : List Bool) (until : Option ℕ)
    → move_of (Turn i input fates until) w.posted x ≡ ended (later_at now x) (turned now h.begun (begin b x.journal (luck_of fates until)))
turn_moves w i x b input meaning now h up fates until = ap (input_move i input (luck_of fates until) w.posted x) up ∙ h.moves (luck_of fates until)

-- what a turn of these steps accepts
pub turn_row : ChangesByMoves → (hosts : Hosts) (net : Net) (w : World) (i : ℕ) (p : Place) (x : Node) (n : State) → IsAt hosts net w i p x n → (input : Input)
    (meaning : Meaning) (now : ℕ)
    (h : Heard w i x n.book input meaning now) (all : List Bool) (until : Option ℕ) (fs : List Fated) (v : Walk) → turned now h.begun (begin n.book x.journal (luck_of all until)) ≡ v
    → length v.taken ≡ length fs → IsRow now h.begun all fs → (world_step w (Turn i input all until)).accepted ≡ w.accepted ++ accepted_by_all i w.nodes n.book (outcomes_of fs)
turn_row moves hosts net w i p x n at input meaning now h all until fs v is count row =
    turn_adds moves w i x n.book input meaning now h at.node (book_up hosts net w i p x n at) all until (ended (later_at now x) v) fs
    (turn_moves w i x n.book input meaning now h (book_up hosts net w i p x n at) all until ∙ ap (ended (later_at now x)) is) (ended_taken (later_at now x) v ∙ count) row

-- the step of what is asked, and those that are due
module _ (walks : WalksByFates) (moves : ChangesByMoves) (hosts : Hosts) (net : Net) (w : World) (i : ℕ) (p : Place) (x : Node) (n m : State) (at : IsAt hosts net w i p x n) where
  asked_turn : (input : Input) (meaning : Meaning) (now status : ℕ) (first : TurnStep) (rest : List TurnStep) (ds : List Doing) → Heard w i x n.book input meaning now → IsFirst n.book now meaning first status
      → DueSteps now first.behind [] rest → AreDoings n.kept (first ∷ rest) ds → m.book ≡ book_behind n.book (first ∷ rest) → m.effects ≡ came_of (first ∷ rest)
      → IsTurn hosts net w i p x n m input now (first ∷ rest) ds
  asked_turn input meaning now status first rest [] h is due does book came = absurd does
  asked_turn input meaning now status first rest (d ∷ ds) h is due (does, more) book came = record {
    fated = row;
    are = record { begun = h.begun; is = h.is; first = one.fated; rest = others.fated; all = refl; planned = one.planned; due = next };
    fared = (one.fared, others.fared);
    sent = (_, _, one.sent, others.sent, refl);
    leads = λ all until starts beyond.
        end_leads moves hosts net w (Turn i input all until) p x n now at m (turned now h.begun (begin n.book x.journal (luck_of all until))) (drop (length (all_fates row)) all)
        (left_before until (length (all_fates row))) (first ∷ rest) row (turn_moves w i x n.book input meaning now h (book_up hosts net w i p x n at) all until)
        (walks.whole now h.begun n.book x.journal one.fated others.fated all until one.planned next (all_whole (first ∷ rest) (d ∷ ds) row (one.fared, others.fared)) starts beyond)
        (runs_on until (length (all_fates row)) beyond) (fared_alike (first ∷ rest) (d ∷ ds) row (one.fared, others.fared)) book came
        (turn_row moves hosts net w i p x n at input meaning now h all until row (walked n.book x (drop (length (all_fates row)) all) (left_before until (length (all_fates row))) row)
        (walks.whole now h.begun n.book x.journal one.fated others.fated all until one.planned next (all_whole (first ∷ rest) (d ∷ ds) row (one.fared, others.fared)) starts beyond)
        (length-map row taken_of) (planned_first h.begun one.fated others.fated all one.planned starts, ([], next)));
  }
    where
      one : OneFated h.begun first d
      one = one_fated h.begun first d n.kept (h.first first status is) does

      others : DueFated due.done rest ds
      others = due_fated (kept_by (if_landed first.landed first.entry) n.kept) due.done rest ds due.are more

      row : List Fated
      row = one.fated ∷ others.fated

      next : AreFirstDue now one.fated.outcome.book [] others.fated
      next = first_due now first.behind one.fated.outcome.book [] rest ds due (sym one.fared.behind) others

  stepped_turn : (input : Input) (meaning : Meaning) (now status : ℕ) (steps : List TurnStep) (ds : List Doing) → Heard w i x n.book input meaning now → Steppings now n.book [] meaning steps status
      → AreDoings n.kept steps ds → m.book ≡ book_behind n.book steps → m.effects ≡ came_of steps → IsTurn hosts net w i p x n m input now steps ds
  stepped_turn input meaning now status steps ds h (unasked due) does book came = absurd (h.told refl)
  stepped_turn input meaning now status steps ds h (asked first rest is due e) does book came =
      subst (λ ss. IsTurn hosts net w i p x n m input now ss ds) (sym e)
      (asked_turn input meaning now status first rest ds h is due (subst (λ ss. AreDoings n.kept ss ds) e does) (book ∙ ap (book_behind n.book) e) (came ∙ ap came_of e))

pub turns_are_events : WalksByFates → ChangesByMoves → TurnsAreEvents
turns_are_events walks moves hosts net w i p x n m input meaning now status steps doings at is turns does book came =
    stepped_turn walks moves hosts net w i p x n m at input meaning now status steps doings (heard w i x n.book input meaning now is) turns does book came
