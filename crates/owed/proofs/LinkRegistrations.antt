-- A link that registers goes on to, until its Register is answered.
use Rattle.std.specs.Prelude.{ℕ, List, Option, Some, None, Bool, true, false, if◌then◌else◌, ◌≡◌, refl}
use Rattle.std.proofs.Common.{sym, subst}
use Rattle.at_base.specs.declared.fault.Fault.TheVariants.{InvalidState}
use Rattle.at_base.specs.declared.epr.Epr.{Epr}
use Rattle.at_base.specs.declared.notice.Kind.{Kind}
use Rattle.at_base.specs.declared.notice.Kind.TheVariants as kinds
use Rattle.at_base.specs.declared.notice.Notice.TheVariants as notices
use Rattle.at_base.specs.declared.message.Message.{Message}
use Rattle.at_base.specs.declared.message.Message.TheVariants as messages
use Rattle.at_base.specs.declared.event.Arrived.{Arrived}
use Rattle.at_base.specs.declared.event.Moment.{Moment}
use Rattle.at_tables.specs.declared.cells.State.{State}
use Rattle.at_tables.specs.declared.cells.State.TheVariants as states
use Rattle.at_tables.specs.declared.cells.Act.{Act}
use Rattle.at_tables.specs.declared.cells.Act.TheVariants as acts
use Rattle.at_tables.specs.declared.cells.Cell.{Cell}
use Rattle.at_tables.specs.Names.{is_state}
use Rattle.at_model.specs.Book.{Enlistment, Phase, Superior, Transaction}
use Rattle.at_model.specs.Moves.{Change, Decision, Goes, begin, forgotten, post, posts, stays}
use Rattle.at_model.specs.Posts.{fault_post, stored_or, to_each}
use Rattle.at_model.specs.Seats.{link_in, link_of, under}
use Rattle.at_model.specs.Abort.{Reason, Alone, Asked, Faulted, abort}
use Rattle.at_model.specs.Phases.{go_volatile, upwards}
use Rattle.at_model.specs.Arrivals.{asked, commit_voted, link_act, link_notice, on_seat, seat_act, seat_notice}
use Rattle.model_laws.proofs.DecisionLaws.{DecisionSays, either_says}
use Rattle.owed.specs.Links.{superior_left}
use Rattle.owed.proofs.LinkActs.{says_more}
use Rattle.owed.proofs.LinkRules.{differs}
use Rattle.at_model.specs.Due.{Reached, Expired, Over, Unanswered, Nothing, transaction_reached}
use Rattle.at_model.specs.Seats.{in_state, seat_in}
use Rattle.at_tables.specs.Tables.{coordinator_of}
use Rattle.at_model.specs.Abort.{without_links}
use Rattle.at_model.specs.Moves.{Moving, become}
use Rattle.at_model.specs.Phases.{advance_in, all_committed, durable_answered, go_durable, if_durable_answered, prepare_seats, sub_answered, volatile_answered, voted}
use Rattle.at_model.specs.Seats.{all_left, answered, in_phase, is_prepared_durable}
use Rattle.model_laws.proofs.DecisionLaws.{either_left}
use Rattle.owed.proofs.Rules.{rolling}
use Rattle.std.specs.List.{list_any}

-- what is left registers no more than before
abbrev pub Since : Superior → Option Superior → Type 0
Since s None = Unit {0}
Since s (Some x) = (x.request ≡ s.request) × ((kind : Kind) → (link_of kind x).state ≡ states.Registering → (link_of kind s).state ≡ states.Registering)

abbrev pub SinceLeft : Superior → Change Transaction → Type 0
SinceLeft s c = Since s (superior_left c.item)

abbrev pub AllSince : Superior → Decision Transaction → Type 0
AllSince s d = DecisionSays (SinceLeft s) (λ r c. Unit {0}) d

either : (s : Superior) (b : Bool) (c d : Decision Transaction) → (b ≡ true → AllSince s c) → (b ≡ false → AllSince s d) → AllSince s (if b then c else d)
either s b c d h k = either_says (SinceLeft s) (λ r x. Unit {0}) b c d h k

pub same_since : (s : Superior) (o : Option Superior) → o ≡ Some s → Since s o
same_since s o e = subst (Since s) (sym e) (refl, λ kind d. d)

no_links : (s : Superior) (kind : Kind) → (link_of kind (link_in kinds.Volatile states.None (link_in kinds.Durable states.None s))).state ≡ states.Registering → (link_of kind s).state ≡ states.Registering
no_links s kinds.Volatile d = absurd cc
no_links s kinds.Durable d = absurd cc

pub abort_since : (m : Moment) (s : Superior) (reason : Reason) (g : Moving Transaction) → g.item.superior ≡ Some s → SinceLeft s (abort m reason g)
unfolding abort
abort_since m s reason g e =
    either_left (SinceLeft s) (list_any (in_state states.Aborting) (rolling m reason g).item.seats) (stays (rolling m reason g)) (forgotten (rolling m reason g))
    (subst (λ o. Since s (without_links o)) (sym e) (refl, no_links s)) tt

link_goes : (s : Superior) (own kind : Kind) (state : State) → is_state state states.Registering ≡ false → (link_of kind (link_in own state s)).state ≡ states.Registering → (link_of kind s).state ≡ states.Registering
link_goes s kinds.Volatile kinds.Volatile state f d = absurd (differs state state states.Registering refl f d)
link_goes s kinds.Volatile kinds.Durable state f d = d
link_goes s kinds.Durable kinds.Volatile state f d = d
link_goes s kinds.Durable kinds.Durable state f d = absurd (differs state state states.Registering refl f d)

voted_since : (m : Moment) (s : Superior) (g : Moving Transaction) → SinceLeft s (stays (voted m s g))
unfolding voted
voted_since m s g = (refl, λ kind d. link_goes s kinds.Durable kind states.PreparedSuccess refl d)

sub_since : (m : Moment) (s : Superior) (o : Option Epr) (g : Moving Transaction) → g.item.superior ≡ Some s → AllSince s (sub_answered m s o g)
unfolding sub_answered
sub_since m s None g e = abort_since m s Alone g e
sub_since m s (Some c) g e =
    either s (list_any is_prepared_durable g.item.seats) _ _ (λ w. record { entry = tt; landed = voted_since m s g; otherwise = abort_since m s Alone g e }) (λ w. tt)

durable_since : (m : Moment) (s : Superior) (o : Option Superior) (g : Moving Transaction) → g.item.superior ≡ Some s → o ≡ Some s → AllSince s (durable_answered m o g)
durable_since m s None g e f = absurd cc
durable_since m s (Some z) g e f =
    let same : z ≡ s = cc in
    subst (λ x. AllSince s (sub_answered m x x.durable.coordinator g)) (sym same) (sub_since m s s.durable.coordinator g e)

if_durable_since : (m : Moment) (s : Superior) (g : Moving Transaction) → g.item.superior ≡ Some s → AllSince s (if_durable_answered m g)
if_durable_since m s g e = either s (answered kinds.Durable g.item.seats) _ _ (λ a. durable_since m s g.item.superior g e e) (λ a. same_since s g.item.superior e)

go_durable_since : (m : Moment) (s : Superior) (g : Moving Transaction) → g.item.superior ≡ Some s → AllSince s (go_durable m g)
unfolding go_durable
go_durable_since m s g e = if_durable_since m s (prepare_seats m kinds.Durable (become (in_phase Phase.Durable g.item) g)) e

volatile_since : (m : Moment) (s : Superior) (o : Option Superior) (g : Moving Transaction) → g.item.superior ≡ Some s → o ≡ Some s → AllSince s (volatile_answered m o g)
unfolding volatile_answered
volatile_since m s None g e f = absurd cc
volatile_since m s (Some z) g e f =
    let same : z ≡ s = cc in
    subst (λ x. AllSince s (if is_state x.volatile.state states.Preparing
    then Goes (stays
    (posts (upwards m.base g.item.id kinds.Volatile notices.ReadOnly x.volatile)
    (become (record g.item { superior = Some (link_in kinds.Volatile states.None x); phase = Phase.Active }) g)))
    else if is_state x.durable.state states.Preparing then go_durable m g
    else Goes (stays g))) (sym same)
    (either s (is_state s.volatile.state states.Preparing) _ _ (λ x. (refl, λ kind d. link_goes s kinds.Volatile kind states.None refl d))
    (λ x. either s (is_state s.durable.state states.Preparing) _ _ (λ y. go_durable_since m s g e) (λ y. same_since s g.item.superior e)))

all_committed_since : (m : Moment) (s : Superior) (g : Moving Transaction) → AllSince s (all_committed m g)
unfolding all_committed
all_committed_since m s g = record { entry = tt; landed = tt; otherwise = tt }

advance_since : (m : Moment) (s : Superior) (phase : Phase) (g : Moving Transaction) → g.item.superior ≡ Some s → AllSince s (advance_in m phase g)
unfolding advance_in
advance_since m s Phase.Registering g e = same_since s g.item.superior e
advance_since m s Phase.Active g e = same_since s g.item.superior e
advance_since m s Phase.Volatile g e = either s (answered kinds.Volatile g.item.seats) _ _ (λ a. volatile_since m s g.item.superior g e e) (λ a. same_since s g.item.superior e)
advance_since m s Phase.Durable g e = if_durable_since m s g e
advance_since m s Phase.Voted g e = same_since s g.item.superior e
advance_since m s Phase.Committing g e = either s (all_left g.item.seats) _ _ (λ a. all_committed_since m s g) (λ a. same_since s g.item.superior e)
advance_since m s Phase.Aborting g e = either_left (SinceLeft s) (list_any (in_state states.Aborting) g.item.seats) (stays g) (forgotten g) (same_since s g.item.superior e) tt

go_volatile_since : (m : Moment) (s : Superior) (g : Moving Transaction) → g.item.superior ≡ Some s → AllSince s (go_volatile m g)
unfolding go_volatile
go_volatile_since m s g e = advance_since m s Phase.Volatile (prepare_seats m kinds.Volatile (become (in_phase Phase.Volatile g.item) g)) e

-- from the links as they were asked
asked_since : (kind : Kind) (s : Superior) (o : Option Superior) → Since (asked kind s) o → Since s o
asked_since kind s None h = tt
asked_since kinds.Volatile s (Some x) (r, h) = (r, λ j d. link_goes s kinds.Volatile j states.Preparing refl (h j d))
asked_since kinds.Durable s (Some x) (r, h) = (r, λ j d. link_goes s kinds.Durable j states.Preparing refl (link_goes (link_in kinds.Durable states.Preparing s) kinds.Volatile j states.None refl (h j d)))

seat_act_since : (m : Moment) (i : Option (List ℕ)) (t : Transaction) (s : Superior) (x : Enlistment) (act : Act) → t.superior ≡ Some s → AllSince s (seat_act m i t x act)
unfolding seat_act
seat_act_since m i t s x acts.Vote u = advance_since m s t.phase (begin (seat_in x.number states.Prepared t)) u
seat_act_since m i t s x acts.Leave u = advance_since m s t.phase (begin (seat_in x.number states.None t)) u
seat_act_since m i t s x acts.LeaveAndAbort u = abort_since m s Alone (begin (seat_in x.number states.None t)) u
seat_act_since m i t s x acts.FaultInvalidStateAndAbort u = abort_since m s Alone (post (fault_post (Some x.participant) i InvalidState) (begin t)) u
seat_act_since m i t s x acts.SendRollback u = either s (in_state states.None x) _ _ (λ f. same_since s t.superior u) (λ f. same_since s t.superior u)
seat_act_since m i t s x acts.SendCommit u = same_since s t.superior u
seat_act_since m i t s x acts.FaultUnknownTransaction u = same_since s t.superior u
seat_act_since m i t s x acts.FaultInvalidState u = same_since s t.superior u
seat_act_since m i t s x other u = same_since s t.superior u

seat_notice_since : (m : Moment) (i : Option (List ℕ)) (t : Transaction) (s : Superior) (x : Enlistment) (c : Option Cell) → t.superior ≡ Some s → AllSince s (seat_notice m i t x c)
unfolding seat_notice
seat_notice_since m i t s x None u = same_since s t.superior u
seat_notice_since m i t s x (Some c) u = seat_act_since m i t s x c.act u

pub seat_since : (m : Moment) (a : Arrived) (t : Transaction) (s : Superior) (x : Enlistment) (y : Message) → t.superior ≡ Some s → AllSince s (on_seat m a t x y)
unfolding on_seat
seat_since m a t s x (messages.Notice n) u = seat_notice_since m a.id t s x (coordinator_of x.kind x.state n) u
seat_since m a t s x other u = same_since s t.superior u

commit_since : (m : Moment) (s : Superior) (t : Transaction) → AllSince s (commit_voted m s t)
unfolding commit_voted
commit_since m s t = record { entry = tt; landed = (refl, λ kind d. link_goes s kinds.Durable kind states.Committing refl d); otherwise = tt }

link_act_since : (m : Moment) (from : Option Epr) (i : Option (List ℕ)) (kind : Kind) (s : Superior) (t : Transaction) (act : Act) → t.superior ≡ Some s → AllSince s (link_act m from i kind s t act)
unfolding link_act
link_act_since m from i kind s t acts.Gather u =
    says_more (SinceLeft (asked kind s)) (SinceLeft s) (go_volatile m (begin (under (asked kind s) t))) (λ c k. asked_since kind s (superior_left c.item) k)
    (go_volatile_since m (asked kind s) (begin (under (asked kind s) t)) refl)
link_act_since m from i kind s t acts.Commit u = commit_since m s t
link_act_since m from i kind s t acts.AbortAndSendAborted u = abort_since m s (Asked kind from) (begin t) u
link_act_since m from i kind s t acts.RecordAndSendAborted u = record { entry = tt; landed = abort_since m s (Asked kind from) (begin t) u; otherwise = tt }
link_act_since m from i kind s t acts.FaultInvalidStateAndAbort u =
    abort_since m s (Faulted kind) (posts (to_each (stored_or (link_of kind s).coordinator from) (λ to. fault_post (Some to) i InvalidState)) (begin t)) u
link_act_since m from i kind s t acts.SendPrepared u = same_since s t.superior u
link_act_since m from i kind s t acts.SendCommitted u = same_since s t.superior u
link_act_since m from i kind s t acts.SendAborted u = same_since s t.superior u
link_act_since m from i kind s t acts.FaultInvalidState u = same_since s t.superior u
link_act_since m from i kind s t other u = same_since s t.superior u

pub link_notice_since : (m : Moment) (from : Option Epr) (i : Option (List ℕ)) (kind : Kind) (s : Superior) (t : Transaction) (c : Option Cell) → t.superior ≡ Some s
    → AllSince s (link_notice m from i kind s t c)
unfolding link_notice
link_notice_since m from i kind s t None u = same_since s t.superior u
link_notice_since m from i kind s t (Some c) u = link_act_since m from i kind s t c.act u

pub reached_since : (m : Moment) (t : Transaction) (s : Superior) (reached : Reached) → t.superior ≡ Some s → AllSince s (transaction_reached m t reached)
unfolding transaction_reached
reached_since m t s Expired u = abort_since m s Alone (begin t) u
reached_since m t s Over u = tt
reached_since m t s Unanswered u = same_since s t.superior u
reached_since m t s Nothing u = same_since s t.superior u
