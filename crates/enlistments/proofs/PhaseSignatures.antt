-- What a transaction posts on its way through its phases is signed by its senders' own endpoints, and goes where it should.
use Rattle.std.specs.Prelude.{List, Option, Some, None, Bool, true, false, if◌then◌else◌, ◌||◌, filter, ◌≡◌, ◌⊎◌, refl}
use Rattle.std.specs.List.{list_any, AllByRecursion}
use Rattle.std.proofs.Common.{inl, inr, sym, ap, ◌∙◌}
use Rattle.at_base.specs.Numbers.{Numbers}
use Rattle.at_base.specs.declared.epr.Epr.{Epr}
use Rattle.at_base.specs.declared.notice.Kind.{Kind}
use Rattle.at_base.specs.declared.notice.Kind.TheVariants as kinds
use Rattle.at_base.specs.declared.notice.Notice.{Notice}
use Rattle.at_base.specs.declared.notice.Notice.TheVariants as notices
use Rattle.at_base.specs.declared.event.Arrived.{Arrived}
use Rattle.at_base.specs.declared.event.Event.{Event}
use Rattle.at_base.specs.declared.event.Event.TheVariants as events
use Rattle.at_base.specs.declared.event.Moment.{Moment}
use Rattle.at_base.specs.declared.outs.Post.{Post}
use Rattle.at_base.specs.declared.outs.Ending.TheVariants as endings
use Rattle.at_base.specs.declared.target.Target.{Target}
use Rattle.at_base.specs.declared.target.Target.TheVariants as targets
use Rattle.at_tables.specs.declared.cells.State.{State}
use Rattle.at_tables.specs.declared.cells.State.TheVariants as states
use Rattle.at_tables.specs.Names.{is_state}
use Rattle.at_base.specs.Names.{is_kind}
use Rattle.at_model.specs.Abort.{Alone, Asked, Faulted, Reason, abort, from_of, is_silent, link_aborted, links_aborted, until_rolled_back, without_links}
use Rattle.at_model.specs.Book.{Completion, Enlistment, Link, Phase, Superior, Transaction}
use Rattle.at_model.specs.Moves.{Decision, Moving, become, begin, forgotten, posts, effect, stays}
use Rattle.at_model.specs.Phases.{advance_in, all_committed, committed, decided, durable_answered, ended_posts, go_durable, go_volatile, if_durable_answered, prepare_seats, root_answered, sub_answered, upwards, volatile_answered, voted}
use Rattle.at_model.specs.Posts.{notice_post, stored_or}
use Rattle.at_model.specs.Seats.{all_left, answered, completion_in, ending, in_phase, in_state, initiator_posts, is_open, is_prepared_durable, notices_to, seat_target, send_each}
use Rattle.model_laws.proofs.DecisionLaws.{DecisionSays, all_join, all_map, either_left, either_says, same_kind}
use Rattle.model_laws.proofs.OtherEnds.{Anything}
use Rattle.agreement.specs.Deeds.{coordinator_at}
use Rattle.agreement.proofs.Posts.{if_none, to_each_all}
use Rattle.agreement.proofs.SeatedEntries.{all_of}
use Rattle.enlistments.specs.Moves.{IsNotified, IsUpwards, Signed}

abbrev pub AllSigned : Moment → Event → Transaction → Target → List Post → Type 0
AllSigned m e t T ps = AllByRecursion (Signed m.base e t T) ps

abbrev pub Signs : Moment → Event → Transaction → Target → Decision Transaction → Type 0
Signs m e t T d = DecisionSays (λ c. AllSigned m e t T c.posts) Anything d

-- a transaction on its way through a step
pub record Passing (m : Moment) (e : Event) (t : Transaction) (T : Target) (g : Moving Transaction) : Type 0 where
  pub above : (kind : Kind) → coordinator_at kind g.item.superior ≡ coordinator_at kind t.superior
  pub sent : AllSigned m e t T g.posts

pub either : (m : Moment) (e : Event) (t : Transaction) (T : Target) (b : Bool) (c d : Decision Transaction) → Signs m e t T c → Signs m e t T d → Signs m e t T (if b then c else d)
either m e t T b c d h k = either_says (λ x. AllSigned m e t T x.posts) Anything b c d (λ f. h) (λ f. k)

pub begun : (m : Moment) (e : Event) (t x : Transaction) (T : Target) → ((kind : Kind) → coordinator_at kind x.superior ≡ coordinator_at kind t.superior) → Passing m e t T (begin x)
begun m e t x T h = record { above = h; sent = tt }

with_posts : (m : Moment) (e : Event) (t : Transaction) (T : Target) (ps : List Post) (g : Moving Transaction) → AllSigned m e t T ps → Passing m e t T g → Passing m e t T (posts ps g)
with_posts m e t T ps g h k = record { above = k.above; sent = all_join (Signed m.base e t T) g.posts ps k.sent h }

-- to seats and to the initiator
pub seats_signed : (m : Moment) (e : Event) (t : Transaction) (T : Target) (id : Numbers) (n : Notice) (seats : List Enlistment) (test : Enlistment → Bool)
    → AllSigned m e t T (notices_to m.base id n seats test)
seats_signed m e t T id n seats test =
    all_map (Signed m.base e t T) (λ s. notice_post m.base (seat_target id s) s.participant n) (filter test seats)
    (all_of (λ s. Signed m.base e t T (notice_post m.base (seat_target id s) s.participant n)) (filter test seats) (λ s i. record { from = refl; goes = tt }))

initiator_signed : (m : Moment) (e : Event) (t : Transaction) (T : Target) (id : Numbers) (n : Notice) (c : Option Completion) → AllSigned m e t T (initiator_posts m.base id n c)
initiator_signed m e t T id n None = tt
initiator_signed m e t T id n (Some c) = if_none (Signed m.base e t T) (is_state c.state states.None) _ (record { from = refl; goes = tt }, tt)

-- upwards
pub upwards_signed : (m : Moment) (e : Event) (t : Transaction) (T : Target) (id : Numbers) (kind : Kind) (n : Notice) (link : Link) → link.coordinator ≡ coordinator_at kind t.superior
    → AllSigned m e t T (upwards m.base id kind n link)
upwards_signed m e t T id kind n link h = to_each_all (Signed m.base e t T) link.coordinator _ (λ to f. record { from = refl; goes = inl (sym f ∙ h) })

pub known_or_from : (o from : Option Epr) (to : Epr) → stored_or o from ≡ Some to → (o ≡ Some to) ⊎ (from ≡ Some to)
known_or_from None from to h = inr h
known_or_from (Some x) from to h = inl h

-- the From that an abort answers to is that of the message that came
abbrev pub CameOn : Event → Transaction → Kind → Option Epr → Type 0
CameOn e t kind from = (a : Arrived) × (e ≡ events.Arrived a) × (a.target ≡ targets.Participant t.id kind) × (from ≡ a.from) × IsNotified a.message

abbrev pub IsReason : Event → Transaction → Reason → Type 0
IsReason e t Alone = Unit {0}
IsReason e t (Asked kind from) = CameOn e t kind from
IsReason e t (Faulted kind) = Unit {0}

reason_from : (e : Event) (t : Transaction) (reason : Reason) (kind : Kind) (to : Epr) → IsReason e t reason → from_of reason kind ≡ Some to → CameOn e t kind (Some to)
reason_from e t Alone kind to h f = absurd cc
reason_from e t (Faulted k) kind to h f = absurd cc
reason_from e t (Asked k from) kind to (a, came, target, is, said) f = by_kind (is_kind k kind) refl f
  where
    by_kind : (b : Bool) → is_kind k kind ≡ b → (if b then from else None) ≡ Some to → CameOn e t kind (Some to)
    by_kind true g f = (a, came, target ∙ ap (targets.Participant t.id) (same_kind k kind g), sym f ∙ is, said)
    by_kind false g f = absurd cc

link_aborted_signed : (m : Moment) (e : Event) (t : Transaction) (T : Target) (id : Numbers) (reason : Reason) (kind : Kind) (link : Link) → IsReason e t reason
    → link.coordinator ≡ coordinator_at kind t.superior → AllSigned m e t T (link_aborted m.base id reason kind link)
link_aborted_signed m e t T id reason kind link r h =
    if_none (Signed m.base e t T) (is_state link.state states.None || is_silent reason kind) _
    (to_each_all (Signed m.base e t T) (stored_or link.coordinator (from_of reason kind)) _
    (λ to f. record { from = refl; goes = out to (known_or_from link.coordinator (from_of reason kind) to f) }))
  where
    out : (to : Epr) → (link.coordinator ≡ Some to) ⊎ (from_of reason kind ≡ Some to) → IsUpwards e t kind (Some to)
    out to (inl g) = inl (sym g ∙ h)
    out to (inr g) = inr (reason_from e t reason kind to r g)

links_aborted_signed : (m : Moment) (e : Event) (t : Transaction) (T : Target) (id : Numbers) (reason : Reason) (s : Option Superior) → IsReason e t reason
    → ((kind : Kind) → coordinator_at kind s ≡ coordinator_at kind t.superior) → AllSigned m e t T (links_aborted m.base id reason s)
links_aborted_signed m e t T id reason None r h = tt
links_aborted_signed m e t T id reason (Some s) r h =
    all_join (Signed m.base e t T) (link_aborted m.base id reason kinds.Volatile s.volatile) (link_aborted m.base id reason kinds.Durable s.durable)
    (link_aborted_signed m e t T id reason kinds.Volatile s.volatile r (h kinds.Volatile)) (link_aborted_signed m e t T id reason kinds.Durable s.durable r (h kinds.Durable))

-- abort
until_signed : (m : Moment) (e : Event) (t : Transaction) (T : Target) (g : Moving Transaction) → AllSigned m e t T g.posts → AllSigned m e t T (until_rolled_back g).posts
until_signed m e t T g h = either_left (λ c. AllSigned m e t T c.posts) (list_any (in_state states.Aborting) g.item.seats) (stays g) (forgotten g) h h

pub abort_signed : (m : Moment) (e : Event) (t : Transaction) (T : Target) (reason : Reason) (g : Moving Transaction) → IsReason e t reason → Passing m e t T g
    → AllSigned m e t T (abort m reason g).posts
unfolding abort
abort_signed m e t T reason g r h =
    let y : Moving Transaction =
    posts (initiator_posts m.base g.item.id notices.Aborted g.item.completion)
    (send_each m notices.Rollback states.Aborting is_open
    (become (record g.item {
      superior = without_links g.item.superior;
      phase = Phase.Aborting;
      aborted = Some m.now;
      completion = completion_in states.None g.item.completion;
    })
    (posts (links_aborted m.base g.item.id reason g.item.superior) (effect (ending g.item endings.Aborted) g)))) in
    until_signed m e t T y
    (all_join (Signed m.base e t T) _ _
    (all_join (Signed m.base e t T) _ _
    (all_join (Signed m.base e t T) g.posts _ h.sent (links_aborted_signed m e t T g.item.id reason g.item.superior r h.above))
    (seats_signed m e t T g.item.id notices.Rollback g.item.seats is_open))
    (initiator_signed m e t T g.item.id notices.Aborted g.item.completion))

-- phases
send_signed : (m : Moment) (e : Event) (t : Transaction) (T : Target) (n : Notice) (state : State) (test : Enlistment → Bool) (g : Moving Transaction) → Passing m e t T g
    → Passing m e t T (send_each m n state test g)
send_signed m e t T n state test g h =
    record { above = h.above; sent = all_join (Signed m.base e t T) g.posts _ h.sent (seats_signed m e t T g.item.id n g.item.seats test) }

committed_signed : (m : Moment) (e : Event) (t : Transaction) (T : Target) (g : Moving Transaction) → Passing m e t T g → AllSigned m e t T (committed m g).posts
unfolding committed decided
committed_signed m e t T g h =
    either_left (λ c. AllSigned m e t T c.posts) (list_any is_prepared_durable g.item.seats) (stays (decided m g)) (forgotten (decided m g)) told told
  where
    told : AllSigned m e t T (decided m g).posts
    told =
        all_join (Signed m.base e t T) (send_each m notices.Commit states.Committing (in_state states.Prepared) g).posts _
        (send_signed m e t T notices.Commit states.Committing (in_state states.Prepared) g h).sent (initiator_signed m e t T g.item.id notices.Committed g.item.completion)

root_signed : (m : Moment) (e : Event) (t : Transaction) (T : Target) (g : Moving Transaction) → Passing m e t T g → Signs m e t T (root_answered m g)
unfolding root_answered
root_signed m e t T g h = record { entry = tt; landed = committed_signed m e t T g h; otherwise = abort_signed m e t T Alone g tt h }

sub_signed : (m : Moment) (e : Event) (t : Transaction) (T : Target) (s : Superior) (superior : Option Epr) (g : Moving Transaction) → g.item.superior ≡ Some s → Passing m e t T g
    → Signs m e t T (sub_answered m s superior g)
unfolding sub_answered voted
sub_signed m e t T s None g u h = abort_signed m e t T Alone g tt h
sub_signed m e t T s (Some superior) g u h =
    either m e t T (list_any is_prepared_durable g.item.seats) _ _
    (record { entry = tt; landed = all_join (Signed m.base e t T) g.posts _ h.sent (above notices.Prepared); otherwise = abort_signed m e t T Alone g tt h })
    (all_join (Signed m.base e t T) g.posts _ h.sent (above notices.ReadOnly))
  where
    above : (n : Notice) → AllSigned m e t T (upwards m.base g.item.id kinds.Durable n s.durable)
    above n = upwards_signed m e t T g.item.id kinds.Durable n s.durable (sym (ap (coordinator_at kinds.Durable) u) ∙ h.above kinds.Durable)

durable_signed : (m : Moment) (e : Event) (t : Transaction) (T : Target) (s : Option Superior) (g : Moving Transaction) → g.item.superior ≡ s → Passing m e t T g
    → Signs m e t T (durable_answered m s g)
durable_signed m e t T None g u h = root_signed m e t T g h
durable_signed m e t T (Some s) g u h = sub_signed m e t T s s.durable.coordinator g u h

if_durable_signed : (m : Moment) (e : Event) (t : Transaction) (T : Target) (g : Moving Transaction) → Passing m e t T g → Signs m e t T (if_durable_answered m g)
if_durable_signed m e t T g h = either m e t T (answered kinds.Durable g.item.seats) _ _ (durable_signed m e t T g.item.superior g refl h) h.sent

prepare_signed : (m : Moment) (e : Event) (t : Transaction) (T : Target) (kind : Kind) (phase : Phase) (g : Moving Transaction) → Passing m e t T g
    → Passing m e t T (prepare_seats m kind (become (in_phase phase g.item) g))
prepare_signed m e t T kind phase g h = send_signed m e t T notices.Prepare states.Preparing _ (become (in_phase phase g.item) g) (record { above = h.above; sent = h.sent })

go_durable_signed : (m : Moment) (e : Event) (t : Transaction) (T : Target) (g : Moving Transaction) → Passing m e t T g → Signs m e t T (go_durable m g)
unfolding go_durable
go_durable_signed m e t T g h =
    if_durable_signed m e t T (prepare_seats m kinds.Durable (become (in_phase Phase.Durable g.item) g)) (prepare_signed m e t T kinds.Durable Phase.Durable g h)

volatile_signed : (m : Moment) (e : Event) (t : Transaction) (T : Target) (s : Option Superior) (g : Moving Transaction) → g.item.superior ≡ s → Passing m e t T g
    → Signs m e t T (volatile_answered m s g)
unfolding volatile_answered
volatile_signed m e t T None g u h = go_durable_signed m e t T g h
volatile_signed m e t T (Some s) g u h =
    either m e t T (is_state s.volatile.state states.Preparing) _ _
    (all_join (Signed m.base e t T) g.posts _ h.sent
    (upwards_signed m e t T g.item.id kinds.Volatile notices.ReadOnly s.volatile (sym (ap (coordinator_at kinds.Volatile) u) ∙ h.above kinds.Volatile)))
    (either m e t T (is_state s.durable.state states.Preparing) _ _ (go_durable_signed m e t T g h) h.sent)

ended_signed : (m : Moment) (e : Event) (t : Transaction) (T : Target) (id : Numbers) (s : Option Superior) → ((kind : Kind) → coordinator_at kind s ≡ coordinator_at kind t.superior)
    → AllSigned m e t T (ended_posts m.base id s)
ended_signed m e t T id None h = tt
ended_signed m e t T id (Some s) h = upwards_signed m e t T id kinds.Durable notices.Committed s.durable (h kinds.Durable)

all_committed_signed : (m : Moment) (e : Event) (t : Transaction) (T : Target) (g : Moving Transaction) → Passing m e t T g → Signs m e t T (all_committed m g)
unfolding all_committed
all_committed_signed m e t T g h =
    record { entry = tt; landed = all_join (Signed m.base e t T) g.posts _ h.sent (ended_signed m e t T g.item.id g.item.superior h.above); otherwise = tt }

pub advance_signed : (m : Moment) (e : Event) (t : Transaction) (T : Target) (phase : Phase) (g : Moving Transaction) → Passing m e t T g → Signs m e t T (advance_in m phase g)
unfolding advance_in
advance_signed m e t T Phase.Registering g h = h.sent
advance_signed m e t T Phase.Active g h = h.sent
advance_signed m e t T Phase.Volatile g h = either m e t T (answered kinds.Volatile g.item.seats) _ _ (volatile_signed m e t T g.item.superior g refl h) h.sent
advance_signed m e t T Phase.Durable g h = if_durable_signed m e t T g h
advance_signed m e t T Phase.Voted g h = h.sent
advance_signed m e t T Phase.Committing g h = either m e t T (all_left g.item.seats) _ _ (all_committed_signed m e t T g h) h.sent
advance_signed m e t T Phase.Aborting g h = until_signed m e t T g h.sent

pub go_volatile_signed : (m : Moment) (e : Event) (t : Transaction) (T : Target) (g : Moving Transaction) → Passing m e t T g → Signs m e t T (go_volatile m g)
unfolding go_volatile
go_volatile_signed m e t T g h =
    advance_signed m e t T Phase.Volatile (prepare_seats m kinds.Volatile (become (in_phase Phase.Volatile g.item) g)) (prepare_signed m e t T kinds.Volatile Phase.Volatile g h)
