-- The rules of a subordinate leave its links busy, or answer its coordinator.
use Rattle.std.specs.Prelude.{ℕ, List, [], ◌++◌, Option, Some, None, Bool, true, false, ◌||◌, if◌then◌else◌, ◌≡◌, ◌⊎◌, refl}
use Rattle.std.specs.List.{list_any}
use Rattle.std.proofs.Common.{inl, inr, ap, sym, subst, ◌∙◌}
use Rattle.at_base.specs.Numbers.{Numbers}
use Rattle.at_base.specs.declared.epr.Epr.{Epr}
use Rattle.at_base.specs.declared.notice.Kind.{Kind}
use Rattle.at_base.specs.declared.notice.Kind.TheVariants as kinds
use Rattle.at_base.specs.declared.notice.Notice.{Notice}
use Rattle.at_base.specs.declared.notice.Notice.TheVariants as notices
use Rattle.at_base.specs.declared.target.Target.TheVariants as targets
use Rattle.at_base.specs.declared.event.Moment.{Moment}
use Rattle.at_base.specs.declared.outs.Post.{Post}
use Rattle.at_tables.specs.declared.cells.State.{State}
use Rattle.at_tables.specs.declared.cells.State.TheVariants as states
use Rattle.at_tables.specs.Names.{is_state}
use Rattle.at_model.specs.Book.{Link, Phase, Superior, Transaction}
use Rattle.at_model.specs.Moves.{Moving, Change, Decision, Goes, become, posts, stays, forgotten}
use Rattle.at_model.specs.Posts.{notice_post, stored_or, to_each}
use Rattle.at_model.specs.Seats.{answered, all_left, in_phase, in_state, initiator_posts, is_open, is_prepared_durable, link_in, link_of, notices_to}
use Rattle.at_model.specs.Abort.{Reason, Alone, abort, from_of, is_silent, link_aborted, links_aborted, without_links}
use Rattle.at_model.specs.Phases.{advance_in, all_committed, durable_answered, ended_posts, go_durable, go_volatile, if_durable_answered, prepare_seats, sub_answered, upwards, volatile_answered, voted}
use Rattle.model_laws.specs.Agreement.{IsIn}
use Rattle.model_laws.specs.Links.{AreIn}
use Rattle.model_laws.proofs.DecisionLaws.{DecisionSays, either_left, either_says, in_front}
use Rattle.owed.specs.Seats.{AnswersSeat, Tells}
use Rattle.owed.specs.Links.{HasVotedSo, IsBusy, StaysBusy, StaysCommitting, TellsAnswer, superior_left}
use Rattle.owed.proofs.StepSeats.{in_back}
use Rattle.owed.proofs.Rules.{rolling}

-- from the superior as it stood, what is posted and what is left of it
abbrev pub Rel : List ℕ → Numbers → Superior → List Post → Option Superior → Type 0
Rel base id s ps o =
    ((kind : Kind) (to : Epr) → IsBusy (link_of kind s).state → (link_of kind s).coordinator ≡ Some to → StaysBusy kind to ps o)
    × (((to : Epr) → s.durable.state ≡ states.Committing → s.durable.coordinator ≡ Some to → StaysCommitting to ps o) × HasVotedSo base id s ps o)

abbrev pub Keeps : List ℕ → Numbers → Superior → Change Transaction → Type 0
Keeps base id s c = Rel base id s c.posts (superior_left c.item)

abbrev pub KeepsAll : List ℕ → Numbers → Superior → Decision Transaction → Type 0
KeepsAll base id s d = DecisionSays (Keeps base id s) (λ r c. Unit {0}) d

pub either : (base : List ℕ) (id : Numbers) (s : Superior) (b : Bool) (c d : Decision Transaction) → (b ≡ true → KeepsAll base id s c) → (b ≡ false → KeepsAll base id s d)
    → KeepsAll base id s (if b then c else d)
either base id s b c d h k = either_says (Keeps base id s) (λ r x. Unit {0}) b c d h k

pub same_rel : (base : List ℕ) (id : Numbers) (s : Superior) (ps : List Post) (o : Option Superior) → o ≡ Some s → Rel base id s ps o
same_rel base id s ps o e = subst (Rel base id s ps) (sym e) ((λ kind to b c. inl (b, c)), ((λ to d c. inl (d, c)), (λ d. inl (d, refl))))

-- what goes up
pub up_in : (base : List ℕ) (id : Numbers) (kind : Kind) (n : Notice) (link : Link) (to : Epr) → link.coordinator ≡ Some to
    → IsIn (notice_post base (targets.Participant id kind) to n) (upwards base id kind n link)
up_in base id kind n link to e =
    subst (λ c. IsIn (notice_post base (targets.Participant id kind) to n) (to_each c (λ x. notice_post base (targets.Participant id kind) x n))) (sym e) (inl refl)

up_tells : (base : List ℕ) (id : Numbers) (kind : Kind) (n : Notice) (link : Link) (to : Epr) (ps : List Post) → link.coordinator ≡ Some to → Tells (Some to) n (ps ++ upwards base id kind n link)
up_tells base id kind n link to ps e =
    (notice_post base (targets.Participant id kind) to n, in_back _ ps (upwards base id kind n link) (up_in base id kind n link to e), refl, refl)

pub idle : (x y : State) → x ≡ y → (IsBusy y → ⊥) → IsBusy x → ⊥
idle x y e f b = f (subst IsBusy e b)

-- Abort: a link that is busy says Aborted, unless it just drew a fault.
aborted_in : (base : List ℕ) (id : Numbers) (reason : Reason) (kind : Kind) (link : Link) (to : Epr) → IsBusy link.state → is_silent reason kind ≡ false → link.coordinator ≡ Some to
    → IsIn (notice_post base (targets.Participant id kind) to notices.Aborted) (link_aborted base id reason kind link)
aborted_in base id reason kind link to b f e = by_test (is_state link.state states.None) (is_silent reason kind) (awake link.state b) f
  where
    awake : (x : State) → IsBusy x → is_state x states.None ≡ false
    awake states.Preparing h = refl
    awake states.Committing h = refl
    awake other h = absurd h

    by_test : (c d : Bool) → c ≡ false → d ≡ false → IsIn (notice_post base (targets.Participant id kind) to notices.Aborted)
        (if c || d then [] else to_each (stored_or link.coordinator (from_of reason kind)) (λ x. notice_post base (targets.Participant id kind) x notices.Aborted))
    by_test true d g h = absurd cc
    by_test false true g h = absurd cc
    by_test false false g h =
        subst (λ c. IsIn (notice_post base (targets.Participant id kind) to notices.Aborted) (to_each (stored_or c (from_of reason kind)) (λ x. notice_post base (targets.Participant id kind) x notices.Aborted)))
        (sym e) (inl refl)

links_in : (base : List ℕ) (id : Numbers) (reason : Reason) (s : Superior) (kind : Kind) (to : Epr) → IsBusy (link_of kind s).state → is_silent reason kind ≡ false
    → (link_of kind s).coordinator ≡ Some to → IsIn (notice_post base (targets.Participant id kind) to notices.Aborted) (links_aborted base id reason (Some s))
links_in base id reason s kinds.Volatile to b f e = in_front _ _ _ (aborted_in base id reason kinds.Volatile s.volatile to b f e)
links_in base id reason s kinds.Durable to b f e = in_back _ (link_aborted base id reason kinds.Volatile s.volatile) _ (aborted_in base id reason kinds.Durable s.durable to b f e)

-- no link has voted
abbrev pub NeverVoted : Option Superior → Type 0
NeverVoted None = Unit {0}
NeverVoted (Some s) = s.durable.state ≡ states.PreparedSuccess → ⊥

abbrev pub Aborted : Superior → Reason → List Post → Option Superior → Type 0
Aborted s reason ps o =
    ((kind : Kind) (to : Epr) → is_silent reason kind ≡ false → IsBusy (link_of kind s).state → (link_of kind s).coordinator ≡ Some to → StaysBusy kind to ps o) × NeverVoted o

rolling_rel : (m : Moment) (s : Superior) (reason : Reason) (g : Moving Transaction) (o : Option Superior) → g.item.superior ≡ Some s → (o ≡ None) ⊎ (o ≡ without_links g.item.superior)
    → Aborted s reason (rolling m reason g).posts o
rolling_rel m s reason g o e left = ((λ kind to f b c. by_left kind to (tells kind to f b c) left), by_vote left)
  where
    tells : (kind : Kind) (to : Epr) → is_silent reason kind ≡ false → IsBusy (link_of kind s).state → (link_of kind s).coordinator ≡ Some to → TellsAnswer to (rolling m reason g).posts
    tells kind to f b c = (
      notices.Aborted,
      tt,
      (
        notice_post m.base (targets.Participant g.item.id kind) to notices.Aborted,
        in_front _ _ (initiator_posts m.base g.item.id notices.Aborted g.item.completion)
            (in_front _ _ (notices_to m.base g.item.id notices.Rollback g.item.seats is_open)
            (in_back _ g.posts (links_aborted m.base g.item.id reason g.item.superior)
            (subst (λ x. IsIn (notice_post m.base (targets.Participant g.item.id kind) to notices.Aborted) (links_aborted m.base g.item.id reason x)) (sym e)
            (links_in m.base g.item.id reason s kind to b f c)))),
        refl,
        refl,
      ),
    )

    by_left : (kind : Kind) (to : Epr) → TellsAnswer to (rolling m reason g).posts → (o ≡ None) ⊎ (o ≡ without_links g.item.superior) → StaysBusy kind to (rolling m reason g).posts o
    by_left kind to h (inl k) = subst (StaysBusy kind to (rolling m reason g).posts) (sym k) h
    by_left kind to h (inr k) = subst (StaysBusy kind to (rolling m reason g).posts) (sym (k ∙ ap without_links e)) (inr h)

    by_vote : (o ≡ None) ⊎ (o ≡ without_links g.item.superior) → NeverVoted o
    by_vote (inl k) = subst NeverVoted (sym k) tt
    by_vote (inr k) = subst NeverVoted (sym (k ∙ ap without_links e)) (λ d. absurd cc)

pub aborts_up : (m : Moment) (s : Superior) (reason : Reason) (g : Moving Transaction) → g.item.superior ≡ Some s → Aborted s reason (abort m reason g).posts (superior_left (abort m reason g).item)
unfolding abort
aborts_up m s reason g e =
    either_left (λ c. Aborted s reason c.posts (superior_left c.item)) (list_any (in_state states.Aborting) (rolling m reason g).item.seats) (stays (rolling m reason g)) (forgotten (rolling m reason g))
    (rolling_rel m s reason g (without_links g.item.superior) e (inr refl)) (rolling_rel m s reason g None e (inl refl))

voted_never : (base : List ℕ) (id : Numbers) (s : Superior) (ps : List Post) (o : Option Superior) → NeverVoted o → HasVotedSo base id s ps o
voted_never base id s ps None h = tt
voted_never base id s ps (Some x) h = λ d. absurd (h d)

pub abort_keeps : (m : Moment) (id : Numbers) (s : Superior) (reason : Reason) (g : Moving Transaction) → g.item.superior ≡ Some s
    → ((kind : Kind) → IsBusy (link_of kind s).state → is_silent reason kind ≡ false) → (s.durable.state ≡ states.Committing → ⊥) → Keeps m.base id s (abort m reason g)
abort_keeps m id s reason g e quiet f =
    let (busy, never) = aborts_up m s reason g e in
    ((λ kind to b c. busy kind to (quiet kind b) b c), ((λ to d c. absurd (f d)), voted_never m.base id s (abort m reason g).posts (superior_left (abort m reason g).item) never))

-- where the durable link was asked
pub differs : (x y z : State) → x ≡ y → is_state y z ≡ false → x ≡ z → ⊥
differs x y z e f g = let h : is_state z z ≡ false = subst (λ w. is_state w z ≡ false) (sym e ∙ g) f in itself z h
  where
    itself : (w : State) → is_state w w ≡ false → ⊥
    itself states.None h = cc
    itself states.Registering h = cc
    itself states.Active h = cc
    itself states.Preparing h = cc
    itself states.Prepared h = cc
    itself states.PreparedSuccess h = cc
    itself states.Committing h = cc
    itself states.Aborting h = cc
    itself states.Completing h = cc
    itself states.Done h = cc

alone_speaks : (kind : Kind) → is_silent Alone kind ≡ false
alone_speaks kind = refl

abort_alone : (m : Moment) (id : Numbers) (s : Superior) (g : Moving Transaction) → g.item.superior ≡ Some s → AreIn Phase.Durable s.volatile.state s.durable.state
    → Keeps m.base id s (abort m Alone g)
abort_alone m id s g e (v, d) = abort_keeps m id s Alone g e (λ kind b. alone_speaks kind) (differs s.durable.state states.Preparing states.Committing d refl)

-- an answer upwards where only the durable link is busy
durable_tells : (base : List ℕ) (id : Numbers) (s : Superior) (n : Notice) (kind : Kind) (to : Epr) (ps : List Post) → s.volatile.state ≡ states.None → AnswersSeat n → IsBusy (link_of kind s).state
    → (link_of kind s).coordinator ≡ Some to → TellsAnswer to (ps ++ upwards base id kinds.Durable n s.durable)
durable_tells base id s n kinds.Volatile to ps v h b c = absurd (idle s.volatile.state states.None v (λ x. x) b)
durable_tells base id s n kinds.Durable to ps v h b c = (n, h, up_tells base id kinds.Durable n s.durable to ps c)

voted_keeps : (m : Moment) (id : Numbers) (s : Superior) (g : Moving Transaction) → g.item.id ≡ id → (c : Epr) → s.durable.coordinator ≡ Some c → AreIn Phase.Durable s.volatile.state s.durable.state
    → Keeps m.base id s (stays (voted m s g))
unfolding voted
voted_keeps m id s g i c e (v, d) = (
  (λ kind to b f. inr (durable_tells m.base g.item.id s notices.Prepared kind to g.posts v tt b f)),
  (
    (λ to x f. absurd (differs s.durable.state states.Preparing states.Committing d refl x)),
    (λ x. inr (
      c,
      e,
      in_back _ g.posts (upwards m.base g.item.id kinds.Durable notices.Prepared s.durable)
          (subst (λ j. IsIn (notice_post m.base (targets.Participant j kinds.Durable) c notices.Prepared) (upwards m.base g.item.id kinds.Durable notices.Prepared s.durable)) i
          (up_in m.base g.item.id kinds.Durable notices.Prepared s.durable c e)),
    )),
  ),
)

sub_keeps : (m : Moment) (id : Numbers) (s : Superior) (o : Option Epr) (g : Moving Transaction) → g.item.id ≡ id → g.item.superior ≡ Some s → s.durable.coordinator ≡ o
    → AreIn Phase.Durable s.volatile.state s.durable.state → KeepsAll m.base id s (sub_answered m s o g)
unfolding sub_answered
sub_keeps m id s None g i e f h = abort_alone m id s g e h
sub_keeps m id s (Some c) g i e f h =
    either m.base id s (list_any is_prepared_durable g.item.seats) _ _
    (λ w. record { entry = tt; landed = voted_keeps m id s g i c f h; otherwise = abort_alone m id s g e h })
    (λ w. (
      (λ kind to b k. durable_tells m.base g.item.id s notices.ReadOnly kind to g.posts h.0 tt b k),
      ((λ to x k. absurd (differs s.durable.state states.Preparing states.Committing h.1 refl x)), tt),
    ))

durable_keeps : (m : Moment) (id : Numbers) (s : Superior) (o : Option Superior) (g : Moving Transaction) → g.item.id ≡ id → g.item.superior ≡ Some s → o ≡ Some s
    → AreIn Phase.Durable s.volatile.state s.durable.state → KeepsAll m.base id s (durable_answered m o g)
durable_keeps m id s None g i e f h = absurd cc
durable_keeps m id s (Some z) g i e f h =
    let same : z ≡ s = cc in
    subst (λ x. KeepsAll m.base id s (sub_answered m x x.durable.coordinator g)) (sym same) (sub_keeps m id s s.durable.coordinator g i e refl h)

if_durable_keeps : (m : Moment) (id : Numbers) (s : Superior) (g : Moving Transaction) → g.item.id ≡ id → g.item.superior ≡ Some s → AreIn Phase.Durable s.volatile.state s.durable.state
    → KeepsAll m.base id s (if_durable_answered m g)
if_durable_keeps m id s g i e h =
    either m.base id s (answered kinds.Durable g.item.seats) _ _ (λ a. durable_keeps m id s g.item.superior g i e e h) (λ a. same_rel m.base id s g.posts g.item.superior e)

go_durable_keeps : (m : Moment) (id : Numbers) (s : Superior) (g : Moving Transaction) → g.item.id ≡ id → g.item.superior ≡ Some s → AreIn Phase.Durable s.volatile.state s.durable.state
    → KeepsAll m.base id s (go_durable m g)
unfolding go_durable
go_durable_keeps m id s g i e h = if_durable_keeps m id s (prepare_seats m kinds.Durable (become (in_phase Phase.Durable g.item) g)) i e h

read_only_keeps : (m : Moment) (id own : Numbers) (s : Superior) (ps : List Post) → AreIn Phase.Volatile s.volatile.state s.durable.state → is_state s.volatile.state states.Preparing ≡ true
    → Rel m.base id s (ps ++ upwards m.base own kinds.Volatile notices.ReadOnly s.volatile) (Some (link_in kinds.Volatile states.None s))
read_only_keeps m id own s ps h x = (busy, ((λ to d c. inl (d, c)), (λ d. inl (d, refl))))
  where
    busy : (kind : Kind) (to : Epr) → IsBusy (link_of kind s).state → (link_of kind s).coordinator ≡ Some to
        → StaysBusy kind to (ps ++ upwards m.base own kinds.Volatile notices.ReadOnly s.volatile) (Some (link_in kinds.Volatile states.None s))
    busy kinds.Volatile to b c = inr (notices.ReadOnly, tt, up_tells m.base own kinds.Volatile notices.ReadOnly s.volatile to ps c)
    busy kinds.Durable to b c = inl (b, c)

durable_asked : (s : Superior) → AreIn Phase.Volatile s.volatile.state s.durable.state → is_state s.volatile.state states.Preparing ≡ false → AreIn Phase.Durable s.volatile.state s.durable.state
durable_asked s (inl (v, d)) f = let z : is_state states.Preparing states.Preparing ≡ false = subst (λ x. is_state x states.Preparing ≡ false) v f in absurd cc
durable_asked s (inr h) f = h

volatile_keeps : (m : Moment) (id : Numbers) (s : Superior) (o : Option Superior) (g : Moving Transaction) → g.item.id ≡ id → g.item.superior ≡ Some s → o ≡ Some s
    → AreIn Phase.Volatile s.volatile.state s.durable.state → KeepsAll m.base id s (volatile_answered m o g)
unfolding volatile_answered
volatile_keeps m id s None g i e f h = absurd cc
volatile_keeps m id s (Some z) g i e f h =
    let same : z ≡ s = cc in
    subst (λ x. KeepsAll m.base id s (if is_state x.volatile.state states.Preparing
    then Goes (stays
    (posts (upwards m.base g.item.id kinds.Volatile notices.ReadOnly x.volatile)
    (become (record g.item { superior = Some (link_in kinds.Volatile states.None x); phase = Phase.Active }) g)))
    else if is_state x.durable.state states.Preparing then go_durable m g
    else Goes (stays g))) (sym same)
    (either m.base id s (is_state s.volatile.state states.Preparing) _ _ (λ x. read_only_keeps m id g.item.id s g.posts h x)
    (λ x. either m.base id s (is_state s.durable.state states.Preparing) _ _ (λ y. go_durable_keeps m id s g i e (durable_asked s h x)) (λ y. same_rel m.base id s g.posts g.item.superior e)))

all_committed_keeps : (m : Moment) (id : Numbers) (s : Superior) (g : Moving Transaction) → g.item.superior ≡ Some s → AreIn Phase.Committing s.volatile.state s.durable.state
    → KeepsAll m.base id s (all_committed m g)
unfolding all_committed
all_committed_keeps m id s g e (v, d) = record {
  entry = tt;
  landed = subst (λ o. Rel m.base id s (g.posts ++ ended_posts m.base g.item.id o) None) (sym e) (
    (λ kind to b c. durable_tells m.base g.item.id s notices.Committed kind to g.posts v tt b c),
    ((λ to x c. up_tells m.base g.item.id kinds.Durable notices.Committed s.durable to g.posts c), tt),
  );
  otherwise = tt;
}

pub advance_keeps : (m : Moment) (id : Numbers) (s : Superior) (phase : Phase) (g : Moving Transaction) → g.item.id ≡ id → g.item.superior ≡ Some s → AreIn phase s.volatile.state s.durable.state
    → KeepsAll m.base id s (advance_in m phase g)
unfolding advance_in
advance_keeps m id s Phase.Registering g i e h = same_rel m.base id s g.posts g.item.superior e
advance_keeps m id s Phase.Active g i e h = same_rel m.base id s g.posts g.item.superior e
advance_keeps m id s Phase.Volatile g i e h =
    either m.base id s (answered kinds.Volatile g.item.seats) _ _ (λ a. volatile_keeps m id s g.item.superior g i e e h) (λ a. same_rel m.base id s g.posts g.item.superior e)
advance_keeps m id s Phase.Durable g i e h = if_durable_keeps m id s g i e h
advance_keeps m id s Phase.Voted g i e h = same_rel m.base id s g.posts g.item.superior e
advance_keeps m id s Phase.Committing g i e h =
    either m.base id s (all_left g.item.seats) _ _ (λ a. all_committed_keeps m id s g e h) (λ a. same_rel m.base id s g.posts g.item.superior e)
advance_keeps m id s Phase.Aborting g i e (v, d) =
    either_left (Keeps m.base id s) (list_any (in_state states.Aborting) g.item.seats) (stays g) (forgotten g) (same_rel m.base id s g.posts g.item.superior e)
    ((λ kind to b c. absurd (none_busy kind b)), ((λ to x c. absurd (differs s.durable.state states.None states.Committing d refl x)), tt))
  where
    none_busy : (kind : Kind) → IsBusy (link_of kind s).state → ⊥
    none_busy kinds.Volatile b = idle s.volatile.state states.None v (λ x. x) b
    none_busy kinds.Durable b = idle s.durable.state states.None d (λ x. x) b

pub go_volatile_keeps : (m : Moment) (id : Numbers) (s : Superior) (g : Moving Transaction) → g.item.id ≡ id → g.item.superior ≡ Some s → AreIn Phase.Volatile s.volatile.state s.durable.state
    → KeepsAll m.base id s (go_volatile m g)
unfolding go_volatile
go_volatile_keeps m id s g i e h = advance_keeps m id s Phase.Volatile (prepare_seats m kinds.Volatile (become (in_phase Phase.Volatile g.item) g)) i e h
