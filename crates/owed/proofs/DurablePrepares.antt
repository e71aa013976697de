-- Once a transaction has asked its durable participants, it doesn't go back.
use Rattle.std.specs.Prelude.{ℕ, List, [], ◌∷◌, ◌++◌, Option, Some, None, Bool, true, false, ◌||◌, if◌then◌else◌, filter, map, ◌≡◌, refl}
use Rattle.std.specs.List.{list_any, AllByRecursion}
use Rattle.std.proofs.Common.{inl, inr, ap, sym, subst, ◌∙◌}
use Rattle.at_base.specs.Numbers.{Numbers}
use Rattle.at_base.specs.declared.epr.Epr.{Epr}
use Rattle.at_base.specs.declared.notice.Kind.{Kind}
use Rattle.at_base.specs.declared.notice.Kind.TheVariants as kinds
use Rattle.at_base.specs.declared.notice.Notice.{Notice}
use Rattle.at_base.specs.declared.notice.Notice.TheVariants as notices
use Rattle.at_base.specs.declared.message.Message.TheVariants as messages
use Rattle.at_base.specs.declared.target.Target.{Target}
use Rattle.at_base.specs.declared.target.Target.TheVariants as targets
use Rattle.at_base.specs.declared.event.Moment.{Moment}
use Rattle.at_base.specs.declared.outs.Post.{Post}
use Rattle.at_tables.specs.declared.cells.State.TheVariants as states
use Rattle.at_tables.specs.Names.{is_state}
use Rattle.at_base.specs.Names.{is_kind}
use Rattle.at_model.specs.Book.{Completion, Enlistment, Link, Phase, Superior, Transaction}
use Rattle.at_model.specs.Moves.{Moving, Decision, become, forgotten, stays}
use Rattle.at_model.specs.Posts.{notice_post, stored_or, to_each}
use Rattle.at_model.specs.Seats.{all_left, answered, in_phase, in_state, initiator_posts, is_of, is_open, is_prepared_durable, notices_to, seat_target}
use Rattle.at_model.specs.Abort.{Reason, Alone, abort, from_of, is_silent, link_aborted, links_aborted}
use Rattle.at_model.specs.Phases.{advance_in, all_committed, committed, decided, durable_answered, ended_posts, go_durable, go_volatile, if_durable_answered, prepare_seats, root_answered, sub_answered, upwards, volatile_answered, voted}
use Rattle.model_laws.proofs.DecisionLaws.{DecisionSays, all_join, all_map, all_more, either_left, either_says, first_true}
use Rattle.owed.specs.DurablePrepares.{GoesOn, NoAsk, Own, has_asked}
use Rattle.owed.proofs.Rules.{rolling}

-- no Prepare of a durable seat
abbrev pub Clean : List Post → Type 0
Clean ps = AllByRecursion NoAsk ps

-- each one is of this transaction
abbrev pub Mine : Numbers → List Post → Type 0
Mine id ps = AllByRecursion (Own id) ps

pub clean_mine : (id : Numbers) (ps : List Post) → Clean ps → Mine id ps
clean_mine id ps h = all_more NoAsk (Own id) ps (λ p f i k. absurd (f i k)) h

pub more_mine : (id : Numbers) (ps qs : List Post) → Mine id ps → Clean qs → Mine id (ps ++ qs)
more_mine id ps qs h k = all_join (Own id) ps qs h (clean_mine id qs k)

pub more_clean : (ps qs : List Post) → Clean ps → Clean qs → Clean (ps ++ qs)
more_clean ps qs h k = all_join NoAsk ps qs h k

-- posts that are none
pub other_notice : (n : Notice) (p : Post) → p.message ≡ messages.Notice n → (n ≡ notices.Prepare → ⊥) → NoAsk p
other_notice n p e f i h = let g : messages.Notice n ≡ messages.Notice notices.Prepare = sym e ∙ h.says in f cc

abbrev IsSeat : Target → Type 0
IsSeat (targets.Coordinator id seat) = Unit {0}
IsSeat other = ⊥

pub other_own : (T : Target) (p : Post) → p.own ≡ Some T → (IsSeat T → ⊥) → NoAsk p
other_own T p e f i h =
    let g : Some (targets.Coordinator i (record { number = h.number; kind = kinds.Durable })) ≡ Some T = sym h.owned ∙ e in
    let k : targets.Coordinator i (record { number = h.number; kind = kinds.Durable }) ≡ T = cc in
    f (subst IsSeat k tt)

pub no_own : (p : Post) → p.own ≡ None → NoAsk p
no_own p e i h = let g : None ≡ Some (targets.Coordinator i (record { number = h.number; kind = kinds.Durable })) = sym e ∙ h.owned in cc

pub each_clean : (o : Option Epr) (f : Epr → Post) → ((to : Epr) → NoAsk (f to)) → Clean (to_each o f)
each_clean None f h = tt
each_clean (Some to) f h = (h to, tt)

pub notices_clean : (base : List ℕ) (id : Numbers) (n : Notice) (seats : List Enlistment) (test : Enlistment → Bool) → (n ≡ notices.Prepare → ⊥) → Clean (notices_to base id n seats test)
notices_clean base id n seats test f = all_map NoAsk (λ s. notice_post base (seat_target id s) s.participant n) (filter test seats) (any_all (filter test seats))
  where
    any_all : (xs : List Enlistment) → AllByRecursion (λ s. NoAsk (notice_post base (seat_target id s) s.participant n)) xs
    any_all [] = tt
    any_all (x ∷ xs) = (other_notice n (notice_post base (seat_target id x) x.participant n) refl f, any_all xs)

notices_mine : (base : List ℕ) (id : Numbers) (n : Notice) (seats : List Enlistment) (test : Enlistment → Bool) → Mine id (notices_to base id n seats test)
notices_mine base id n seats test = all_map (Own id) (λ s. notice_post base (seat_target id s) s.participant n) (filter test seats) (any_all (filter test seats))
  where
    any_all : (xs : List Enlistment) → AllByRecursion (λ s. Own id (notice_post base (seat_target id s) s.participant n)) xs
    any_all [] = tt
    any_all (x ∷ xs) = ((λ i h. let g : Some (seat_target id x) ≡ Some (targets.Coordinator i (record { number = h.number; kind = kinds.Durable })) = h.owned in cc), any_all xs)

-- from a volatile seat
abbrev own_kind : Option Target → Kind
own_kind (Some (targets.Coordinator id seat)) = seat.kind
own_kind other = kinds.Volatile

pub volatile_post : (base : List ℕ) (id : Numbers) (s : Enlistment) (n : Notice) → is_kind s.kind kinds.Volatile ≡ true → NoAsk (notice_post base (seat_target id s) s.participant n)
volatile_post base id s n f i h =
    let k : s.kind ≡ kinds.Durable = ap own_kind h.owned in
    let z : is_kind kinds.Durable kinds.Volatile ≡ true = subst (λ x. is_kind x kinds.Volatile ≡ true) k f in
    cc

volatile_clean : (base : List ℕ) (id : Numbers) (n : Notice) (seats : List Enlistment) → Clean (notices_to base id n seats (is_of kinds.Volatile states.Active))
volatile_clean base id n [] = tt
volatile_clean base id n (s ∷ ss) = by_test (volatile_clean base id n ss) (is_of kinds.Volatile states.Active s) refl
  where
    by_test : Clean (notices_to base id n ss (is_of kinds.Volatile states.Active)) → (b : Bool) → is_of kinds.Volatile states.Active s ≡ b
        → Clean (map (λ y. notice_post base (targets.Coordinator id (record { number = y.number; kind = y.kind })) y.participant n)
        (if b then s ∷ filter (is_of kinds.Volatile states.Active) ss else filter (is_of kinds.Volatile states.Active) ss))
    by_test rest true f = (volatile_post base id s n (first_true (is_kind s.kind kinds.Volatile) (is_state s.state states.Active) f), rest)
    by_test rest false f = rest

pub upwards_clean : (base : List ℕ) (id : Numbers) (kind : Kind) (n : Notice) (link : Link) → Clean (upwards base id kind n link)
upwards_clean base id kind n link = each_clean link.coordinator (λ to. notice_post base (targets.Participant id kind) to n) (λ to. other_own (targets.Participant id kind) _ refl (λ x. x))

ended_clean : (base : List ℕ) (id : Numbers) (s : Option Superior) → Clean (ended_posts base id s)
ended_clean base id None = tt
ended_clean base id (Some s) = upwards_clean base id kinds.Durable notices.Committed s.durable

initiator_clean : (base : List ℕ) (id : Numbers) (n : Notice) (c : Option Completion) → Clean (initiator_posts base id n c)
initiator_clean base id n None = tt
initiator_clean base id n (Some c) = by_test (is_state c.state states.None)
  where
    by_test : (b : Bool) → Clean (if b then [] else notice_post base (targets.Completion id) c.initiator n ∷ [])
    by_test true = tt
    by_test false = (other_own (targets.Completion id) _ refl (λ x. x), tt)

link_clean : (base : List ℕ) (id : Numbers) (reason : Reason) (kind : Kind) (link : Link) → Clean (link_aborted base id reason kind link)
link_clean base id reason kind link = by_test (is_state link.state states.None || is_silent reason kind)
  where
    by_test : (b : Bool) → Clean (if b then [] else to_each (stored_or link.coordinator (from_of reason kind)) (λ to. notice_post base (targets.Participant id kind) to notices.Aborted))
    by_test true = tt
    by_test false = each_clean (stored_or link.coordinator (from_of reason kind)) (λ to. notice_post base (targets.Participant id kind) to notices.Aborted)
        (λ to. other_own (targets.Participant id kind) _ refl (λ x. x))

links_clean : (base : List ℕ) (id : Numbers) (reason : Reason) (s : Option Superior) → Clean (links_aborted base id reason s)
links_clean base id reason None = tt
links_clean base id reason (Some s) = more_clean _ _ (link_clean base id reason kinds.Volatile s.volatile) (link_clean base id reason kinds.Durable s.durable)

-- either it has asked, or it hadn't
abbrev pub AllGo : Bool → Numbers → Decision Transaction → Type 0
AllGo late id d = DecisionSays (GoesOn late id) (λ r c. Unit {0}) d

pub either : (late : Bool) (id : Numbers) (b : Bool) (c d : Decision Transaction) → (b ≡ true → AllGo late id c) → (b ≡ false → AllGo late id d) → AllGo late id (if b then c else d)
either late id b c d h k = either_says (GoesOn late id) (λ r x. Unit {0}) b c d h k

pub abort_goes : (late : Bool) (id : Numbers) (m : Moment) (reason : Reason) (g : Moving Transaction) → g.item.id ≡ id → Mine id g.posts → GoesOn late id (abort m reason g)
unfolding abort
abort_goes late id m reason g e h =
    either_left (GoesOn late id) (list_any (in_state states.Aborting) (rolling m reason g).item.seats) (stays (rolling m reason g)) (forgotten (rolling m reason g))
    (inl (refl, all)) (inl (tt, all))
  where
    all : Mine id (rolling m reason g).posts
    all = more_mine id _ (initiator_posts m.base g.item.id notices.Aborted g.item.completion)
        (more_mine id _ (notices_to m.base g.item.id notices.Rollback g.item.seats is_open)
        (more_mine id g.posts (links_aborted m.base g.item.id reason g.item.superior) h (links_clean m.base g.item.id reason g.item.superior))
        (notices_clean m.base g.item.id notices.Rollback g.item.seats is_open (λ f. cc)))
        (initiator_clean m.base g.item.id notices.Aborted g.item.completion)

decided_mine : (id : Numbers) (m : Moment) (g : Moving Transaction) → Mine id g.posts → (has_asked (decided m g).item.phase ≡ true) × Mine id (decided m g).posts
unfolding decided
decided_mine id m g h = (
  refl,
  more_mine id _ (initiator_posts m.base g.item.id notices.Committed g.item.completion)
      (more_mine id g.posts (notices_to m.base g.item.id notices.Commit g.item.seats (in_state states.Prepared)) h
      (notices_clean m.base g.item.id notices.Commit g.item.seats (in_state states.Prepared) (λ f. cc)))
      (initiator_clean m.base g.item.id notices.Committed g.item.completion),
)

committed_goes : (late : Bool) (id : Numbers) (m : Moment) (g : Moving Transaction) → Mine id g.posts → GoesOn late id (committed m g)
unfolding committed
committed_goes late id m g h =
    either_left (GoesOn late id) (list_any is_prepared_durable g.item.seats) (stays (decided m g)) (forgotten (decided m g)) (inl (decided_mine id m g h)) (inl (tt, (decided_mine id m g h).1))

root_goes : (late : Bool) (id : Numbers) (m : Moment) (g : Moving Transaction) → g.item.id ≡ id → Mine id g.posts → AllGo late id (root_answered m g)
unfolding root_answered
root_goes late id m g e h = record { entry = tt; landed = committed_goes late id m g h; otherwise = abort_goes late id m Alone g e h }

voted_goes : (late : Bool) (id : Numbers) (m : Moment) (s : Superior) (g : Moving Transaction) → Mine id g.posts → GoesOn late id (stays (voted m s g))
unfolding voted
voted_goes late id m s g h = inl (refl, more_mine id g.posts (upwards m.base g.item.id kinds.Durable notices.Prepared s.durable) h (upwards_clean m.base g.item.id kinds.Durable notices.Prepared s.durable))

sub_goes : (late : Bool) (id : Numbers) (m : Moment) (s : Superior) (o : Option Epr) (g : Moving Transaction) → g.item.id ≡ id → Mine id g.posts → AllGo late id (sub_answered m s o g)
unfolding sub_answered
sub_goes late id m s None g e h = abort_goes late id m Alone g e h
sub_goes late id m s (Some c) g e h =
    either late id (list_any is_prepared_durable g.item.seats) _ _ (λ w. record { entry = tt; landed = voted_goes late id m s g h; otherwise = abort_goes late id m Alone g e h })
    (λ w. inl (tt, more_mine id g.posts (upwards m.base g.item.id kinds.Durable notices.ReadOnly s.durable) h (upwards_clean m.base g.item.id kinds.Durable notices.ReadOnly s.durable)))

durable_goes : (late : Bool) (id : Numbers) (m : Moment) (o : Option Superior) (g : Moving Transaction) → g.item.id ≡ id → Mine id g.posts → AllGo late id (durable_answered m o g)
durable_goes late id m None g e h = root_goes late id m g e h
durable_goes late id m (Some s) g e h = sub_goes late id m s s.durable.coordinator g e h

if_durable_goes : (late : Bool) (id : Numbers) (m : Moment) (g : Moving Transaction) → g.item.phase ≡ Phase.Durable → g.item.id ≡ id → Mine id g.posts → AllGo late id (if_durable_answered m g)
if_durable_goes late id m g f e h =
    either late id (answered kinds.Durable g.item.seats) _ _ (λ a. durable_goes late id m g.item.superior g e h) (λ a. inl (subst (λ p. has_asked p ≡ true) (sym f) refl, h))

go_durable_goes : (late : Bool) (id : Numbers) (m : Moment) (g : Moving Transaction) → g.item.id ≡ id → Mine id g.posts → AllGo late id (go_durable m g)
unfolding go_durable
go_durable_goes late id m g e h =
    if_durable_goes late id m (prepare_seats m kinds.Durable (become (in_phase Phase.Durable g.item) g)) refl e
    (all_join (Own id) g.posts (notices_to m.base g.item.id notices.Prepare g.item.seats (is_of kinds.Durable states.Active)) h
    (subst (λ i. Mine i (notices_to m.base g.item.id notices.Prepare g.item.seats (is_of kinds.Durable states.Active))) e
    (notices_mine m.base g.item.id notices.Prepare g.item.seats (is_of kinds.Durable states.Active))))

-- before the durable ones are asked
volatile_goes : (id : Numbers) (m : Moment) (o : Option Superior) (g : Moving Transaction) → g.item.id ≡ id → Clean g.posts → AllGo false id (volatile_answered m o g)
unfolding volatile_answered
volatile_goes id m None g e h = go_durable_goes false id m g e (clean_mine id g.posts h)
volatile_goes id m (Some s) g e h =
    either false id (is_state s.volatile.state states.Preparing) _ _
    (λ x. inr (refl, more_clean g.posts (upwards m.base g.item.id kinds.Volatile notices.ReadOnly s.volatile) h (upwards_clean m.base g.item.id kinds.Volatile notices.ReadOnly s.volatile)))
    (λ x. either false id (is_state s.durable.state states.Preparing) _ _ (λ y. go_durable_goes false id m g e (clean_mine id g.posts h)) (λ y. inr (refl, h)))

all_committed_goes : (late : Bool) (id : Numbers) (m : Moment) (g : Moving Transaction) → Mine id g.posts → AllGo late id (all_committed m g)
unfolding all_committed
all_committed_goes late id m g h = record {
  entry = tt;
  landed = inl (tt, more_mine id g.posts (ended_posts m.base g.item.id g.item.superior) h (ended_clean m.base g.item.id g.item.superior));
  otherwise = tt;
}

pub advance_goes : (id : Numbers) (m : Moment) (phase : Phase) (g : Moving Transaction) → g.item.phase ≡ phase → g.item.id ≡ id → Clean g.posts → AllGo (has_asked phase) id (advance_in m phase g)
unfolding advance_in
advance_goes id m Phase.Registering g f e h = inr (refl, h)
advance_goes id m Phase.Active g f e h = inr (refl, h)
advance_goes id m Phase.Volatile g f e h = either false id (answered kinds.Volatile g.item.seats) _ _ (λ a. volatile_goes id m g.item.superior g e h) (λ a. inr (refl, h))
advance_goes id m Phase.Durable g f e h = if_durable_goes true id m g f e (clean_mine id g.posts h)
advance_goes id m Phase.Voted g f e h = inl (subst (λ p. has_asked p ≡ true) (sym f) refl, clean_mine id g.posts h)
advance_goes id m Phase.Committing g f e h =
    either true id (all_left g.item.seats) _ _ (λ a. all_committed_goes true id m g (clean_mine id g.posts h)) (λ a. inl (subst (λ p. has_asked p ≡ true) (sym f) refl, clean_mine id g.posts h))
advance_goes id m Phase.Aborting g f e h =
    either_left (GoesOn true id) (list_any (in_state states.Aborting) g.item.seats) (stays g) (forgotten g) (inl (subst (λ p. has_asked p ≡ true) (sym f) refl, clean_mine id g.posts h))
    (inl (tt, clean_mine id g.posts h))

pub go_volatile_goes : (id : Numbers) (m : Moment) (g : Moving Transaction) → g.item.id ≡ id → Clean g.posts → AllGo false id (go_volatile m g)
unfolding go_volatile
go_volatile_goes id m g e h =
    advance_goes id m Phase.Volatile (prepare_seats m kinds.Volatile (become (in_phase Phase.Volatile g.item) g)) refl e
    (more_clean g.posts (notices_to m.base g.item.id notices.Prepare g.item.seats (is_of kinds.Volatile states.Active)) h (volatile_clean m.base g.item.id notices.Prepare g.item.seats))
