-- A cell's next state, and the state in which the item is behind the step (WS-AtomicTransaction 1.2, section 10).
use Rattle.std.specs.Prelude.{ℕ, List, Option, Some, None, ◌≡◌, nat_eq}
use Rattle.std.specs.List.{find}
use Rattle.at_base.specs.declared.epr.Epr.{Epr}
use Rattle.at_base.specs.declared.event.Moment.{Moment}
use Rattle.at_base.specs.declared.notice.Kind.{Kind}
use Rattle.at_base.specs.declared.notice.Kind.TheVariants as kinds
use Rattle.at_base.specs.declared.notice.Notice.{Notice}
use Rattle.at_tables.specs.declared.cells.State.{State}
use Rattle.at_tables.specs.declared.cells.State.TheVariants as states
use Rattle.at_tables.specs.declared.cells.Cell.{Cell}
use Rattle.at_tables.specs.Tables.{completion_of, coordinator_of, initiator_of, participant_of}
use Rattle.at_model.specs.Book.{Activity, Completion, Enlistment, Leaf, Superior, Transaction}
use Rattle.at_model.specs.Moves.{Decision, Goes, Records}
use Rattle.at_model.specs.Activities.{activity_notice, activity_state}
use Rattle.at_model.specs.Arrivals.{completion_notice, link_notice, seat_notice}
use Rattle.at_model.specs.Leaves.{leaf_notice}
use Rattle.at_model.specs.Seats.{link_of}

-- what becomes of an item, in each branch that isn't undone
abbrev pub Ends : {A : Type 0} → (Option A → Type 0) → Decision A → Type 0
Ends P (Goes c) = P c.item
Ends P (Records r c None) = P c.item
Ends P (Records r c (Some d)) = P c.item × P d.item

-- From a participant's next state to its state behind the step, in which its own resource may have answered already: asked
-- to prepare it voted Prepared, or it is gone with ReadOnly or Aborted; told to commit it is gone once it has.
pub data ParticipantGoes : State → State → Type 0 where
  same : (s : State) → ParticipantGoes s s
  votes : ParticipantGoes states.Preparing states.PreparedSuccess
  leaves : ParticipantGoes states.Preparing states.None
  ends : ParticipantGoes states.Committing states.None

-- an item that is gone is in state None
abbrev pub leaf_state : Option Leaf → State
leaf_state None = states.None
leaf_state (Some l) = l.state

abbrev pub state_of_activity : Option Activity → State
state_of_activity None = states.None
state_of_activity (Some a) = activity_state a.progress

abbrev pub LeavesGoOn : Type 0
LeavesGoOn =
    (m : Moment) (from : Option Epr) (id : Option (List ℕ)) (l : Leaf) (n : Notice) (c : Cell) → participant_of l.kind l.state n ≡ Some c
    → Ends (λ i. ParticipantGoes c.next (leaf_state i)) (leaf_notice m from id l (Some c))

abbrev pub ActivitiesGoOn : Type 0
ActivitiesGoOn =
    (m : Moment) (from : Option Epr) (id : Option (List ℕ)) (a : Activity) (n : Notice) (c : Cell) → initiator_of (activity_state a.progress) n ≡ Some c
    → Ends (λ i. c.next ≡ state_of_activity i) (activity_notice m from id a (Some c))

-- The same of a coordinator's seat, whose transaction may go on in the same step: a seat that voted Prepared is told the
-- outcome, or is gone where nobody waits for it.
pub data SeatGoes : State → State → Type 0 where
  same : (s : State) → SeatGoes s s
  commits : SeatGoes states.Prepared states.Committing
  aborts : SeatGoes states.Prepared states.Aborting
  leaves : SeatGoes states.Prepared states.None

abbrev pub seat_of : ℕ → List Enlistment → Option Enlistment
seat_of number seats = find (λ s. nat_eq s.number number) seats

abbrev pub state_in : Option Enlistment → State
state_in None = states.None
state_in (Some s) = s.state

abbrev pub seat_state : ℕ → Option Transaction → State
seat_state number None = states.None
seat_state number (Some t) = state_in (seat_of number t.seats)

abbrev pub SeatsGoOn : Type 0
SeatsGoOn =
    (m : Moment) (id : Option (List ℕ)) (t : Transaction) (s : Enlistment) (n : Notice) (c : Cell) → seat_of s.number t.seats ≡ Some s
    → coordinator_of s.kind s.state n ≡ Some c → Ends (λ i. SeatGoes c.next (seat_state s.number i)) (seat_notice m id t s (Some c))

-- The same of a completion seat: where it was asked to commit, the transaction may be decided in the same step.
pub data CompletionGoes : State → State → Type 0 where
  same : (s : State) → CompletionGoes s s
  commits : CompletionGoes states.Completing states.Done
  leaves : CompletionGoes states.Completing states.None

abbrev pub state_of_completion : Option Completion → State
state_of_completion None = states.None
state_of_completion (Some c) = c.state

abbrev pub completion_state : Option Transaction → State
completion_state None = states.None
completion_state (Some t) = state_of_completion t.completion

abbrev pub CompletionsGoOn : Type 0
CompletionsGoOn =
    (m : Moment) (from : Option Epr) (id : Option (List ℕ)) (x : Completion) (t : Transaction) (n : Notice) (c : Cell) → t.completion ≡ Some x
    → completion_of x.state n ≡ Some c → Ends (λ i. CompletionGoes c.next (completion_state i)) (completion_notice m from id x t (Some c))

-- The same of a subordinate's link, which is a participant of its superior. A volatile link never votes Prepared.
abbrev pub state_under : Kind → Option Superior → State
state_under kind None = states.None
state_under kind (Some s) = (link_of kind s).state

abbrev pub link_state : Kind → Option Transaction → State
link_state kind None = states.None
link_state kind (Some t) = state_under kind t.superior

abbrev pub MayVote : Kind → State → Type 0
MayVote kinds.Volatile state = state ≡ states.PreparedSuccess → ⊥
MayVote kinds.Durable state = Unit {0}

abbrev pub LinksGoOn : Type 0
LinksGoOn =
    (m : Moment) (from : Option Epr) (id : Option (List ℕ)) (kind : Kind) (s : Superior) (t : Transaction) (n : Notice) (c : Cell)
    → t.superior ≡ Some s → MayVote kind (link_of kind s).state → participant_of kind (link_of kind s).state n ≡ Some c
    → Ends (λ i. ParticipantGoes c.next (link_state kind i)) (link_notice m from id kind s t (Some c))
