-- What answers a message that finds nothing is what the model does where nothing is known.
use Rattle.std.proofs.Common.{ℕ, ◌≡◌, Option, Some, None, refl, sym, ◌∙◌, ap}
use Rattle.at_base.specs.Numbers.{Numbers}
use Rattle.at_base.specs.declared.notice.Kind.{Kind}
use Rattle.at_base.specs.declared.notice.Notice.{Notice}
use Rattle.at_base.specs.declared.message.Message.{Message}
use Rattle.at_base.specs.declared.message.Message.TheVariants as messages
use Rattle.at_base.specs.declared.target.Seat.{Seat}
use Rattle.at_base.specs.declared.target.Target.{Target}
use Rattle.at_base.specs.declared.target.Target.TheVariants as targets
use Rattle.at_base.specs.declared.event.Arrived.{Arrived}
use Rattle.at_base.specs.declared.event.Moment.{Moment}
use Rattle.at_tables.specs.declared.cells.Cell.{Cell}
use Rattle.at_tables.specs.declared.cells.State.TheVariants as states
use Rattle.at_tables.specs.Tables.{completion_of, coordinator_of, initiator_of, participant_of}
use Rattle.at_model.specs.Book.{Book, Transaction}
use Rattle.at_model.specs.Step.{Plan, leaf_at, leaf_or_stranger_plan, link_plan, moment_of, outcome_plan, participant_plan, stranger_plan, transaction_at}
use Rattle.interposition.specs.declared.plan.Part.{Part}
use Rattle.interposition.specs.PlanResults.{whole}
use Rattle.interposition.specs.Strangers.{cell_of_none, committed, stranger}

strange : (b : Book) (now : ℕ) (a : Arrived) (t : Target) (table : Notice → Option Cell) → ((n : Notice) → cell_of_none t n ≡ table n)
    → (message : Message) → whole b now (stranger (moment_of b now) a t message) ≡ stranger_plan b now a table message
strange b now a t table same (messages.Notice n) = rw (same n) refl
strange b now a t table same (messages.Create c) = refl
strange b now a t table same (messages.CreateResponse c) = refl
strange b now a t table same (messages.Register r) = refl
strange b now a t table same (messages.RegisterResponse c) = refl
strange b now a t table same (messages.Work w) = refl
strange b now a t table same messages.WorkDone = refl
strange b now a t table same messages.WorkRefused = refl
strange b now a t table same (messages.Fault name) = refl

kept_outcome : (b : Book) (now : ℕ) (a : Arrived) (t : Target) (message : Message) → whole b now (committed (moment_of b now) a t message) ≡ outcome_plan b now a message
kept_outcome b now a t (messages.Notice n) = refl
kept_outcome b now a t (messages.Create c) = refl
kept_outcome b now a t (messages.CreateResponse c) = refl
kept_outcome b now a t (messages.Register r) = refl
kept_outcome b now a t (messages.RegisterResponse c) = refl
kept_outcome b now a t (messages.Work w) = refl
kept_outcome b now a t messages.WorkDone = refl
kept_outcome b now a t messages.WorkRefused = refl
kept_outcome b now a t (messages.Fault name) = refl

-- at the completion seat of a root that committed
pub outcome : (b : Book) (now : ℕ) (m : Moment) (a : Arrived) (part : Part) → m ≡ moment_of b now → part ≡ committed m a a.target a.message → whole b now part ≡ outcome_plan b now a a.message
outcome b now m a part time is = ap (whole b now) (is ∙ ap (λ k. committed k a a.target a.message) time) ∙ kept_outcome b now a a.target a.message

-- where a stranger is answered so, it is what the model does there
strange_at : (b : Book) (now : ℕ) (m : Moment) (a : Arrived) (t : Target) (table : Notice → Option Cell) (part : Part) → ((n : Notice) → cell_of_none t n ≡ table n) → m ≡ moment_of b now → a.target ≡ t
    → part ≡ stranger m a a.target a.message → whole b now part ≡ stranger_plan b now a table a.message
strange_at b now m a t table part same time target is =
    ap (whole b now) (is ∙ λ i. stranger (time i) a (target i) a.message) ∙ strange b now a t table same a.message

pub at_completion : (b : Book) (now : ℕ) (m : Moment) (a : Arrived) (id : Numbers) (part : Part) → m ≡ moment_of b now → a.target ≡ targets.Completion id → part ≡ stranger m a a.target a.message
    → whole b now part ≡ stranger_plan b now a (completion_of states.None) a.message
at_completion b now m a id part time target is = strange_at b now m a (targets.Completion id) (completion_of states.None) part (λ n. refl) time target is

pub at_seat : (b : Book) (now : ℕ) (m : Moment) (a : Arrived) (id : Numbers) (seat : Seat) (part : Part) (p : Plan) → m ≡ moment_of b now → a.target ≡ targets.Coordinator id seat → part ≡ stranger m a a.target a.message
    → stranger_plan b now a (coordinator_of seat.kind states.None) a.message ≡ p → whole b now part ≡ p
at_seat b now m a id seat part p time target is other = strange_at b now m a (targets.Coordinator id seat) (coordinator_of seat.kind states.None) part (λ n. refl) time target is ∙ other

pub at_participant : (b : Book) (now : ℕ) (m : Moment) (a : Arrived) (id : Numbers) (kind : Kind) (part : Part) (p : Plan) → m ≡ moment_of b now → a.target ≡ targets.Participant id kind
    → part ≡ stranger m a a.target a.message → stranger_plan b now a (participant_of kind states.None) a.message ≡ p → whole b now part ≡ p
at_participant b now m a id kind part p time target is other = strange_at b now m a (targets.Participant id kind) (participant_of kind states.None) part (λ n. refl) time target is ∙ other

-- at a subordinate's link, or else at a leaf
pub at_a_link : (b : Book) (now : ℕ) (a : Arrived) (id : Numbers) (kind : Kind) (t : Transaction) (p : Plan) → transaction_at b id ≡ Some t → p ≡ link_plan b now a kind t t.superior
    → p ≡ participant_plan b now a kind (transaction_at b id) (leaf_at b id)
unfolding participant_plan
at_a_link b now a id kind t p found is = is ∙ λ i. participant_plan b now a kind (sym found i) (leaf_at b id)

pub at_a_leaf : (b : Book) (now : ℕ) (a : Arrived) (id : Numbers) (kind : Kind) (p : Plan) → transaction_at b id ≡ None → p ≡ leaf_or_stranger_plan b now a kind (leaf_at b id)
    → p ≡ participant_plan b now a kind (transaction_at b id) (leaf_at b id)
unfolding participant_plan
at_a_leaf b now a id kind p found is = is ∙ λ i. participant_plan b now a kind (sym found i) (leaf_at b id)

pub at_activity : (b : Book) (now : ℕ) (m : Moment) (a : Arrived) (id : Numbers) (part : Part) (p : Plan) → m ≡ moment_of b now → a.target ≡ targets.Initiator id → part ≡ stranger m a a.target a.message
    → stranger_plan b now a (initiator_of states.None) a.message ≡ p → whole b now part ≡ p
at_activity b now m a id part p time target is other = strange_at b now m a (targets.Initiator id) (initiator_of states.None) part (λ n. refl) time target is ∙ other
