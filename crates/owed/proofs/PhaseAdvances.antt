-- What a phase waits for, and what follows: the transaction stands as its phase wants, and owes nothing that isn't posted.
use Rattle.std.specs.Prelude.{List, [], ◌∷◌, ◌++◌, Option, Some, None, Bool, true, false, not, ◌&&◌, ◌||◌, if◌then◌else◌, filter, map, is_none, ◌≡◌, refl}
use Rattle.std.specs.List.{list_any}
use Rattle.std.proofs.Common.{inl, inr, ap, sym, subst}
use Rattle.at_base.specs.Numbers.{Numbers}
use Rattle.at_base.specs.declared.epr.Epr.{Epr}
use Rattle.at_base.specs.declared.notice.Kind.{Kind}
use Rattle.at_base.specs.declared.notice.Kind.TheVariants as kinds
use Rattle.at_base.specs.declared.notice.Notice.TheVariants as notices
use Rattle.at_base.specs.declared.event.Event.{Event}
use Rattle.at_base.specs.declared.event.Moment.{Moment}
use Rattle.at_base.specs.declared.outs.Post.{Post}
use Rattle.at_tables.specs.declared.cells.State.{State}
use Rattle.at_tables.specs.declared.cells.State.TheVariants as states
use Rattle.at_tables.specs.Names.{is_state}
use Rattle.at_base.specs.Names.{is_kind}
use Rattle.at_model.specs.Book.{Completion, Enlistment, Phase, Superior, Transaction}
use Rattle.at_model.specs.Moves.{Moving, become, posts, stays, forgotten}
use Rattle.at_model.specs.Seats.{answered, all_left, completion_in, in_phase, in_state, initiator_posts, is_of, is_prepared_durable, link_in, moved, notices_to, prepared, seated}
use Rattle.at_model.specs.Abort.{Alone}
use Rattle.at_model.specs.Phases.{advance_in, all_committed, committed, decided, durable_answered, ended_posts, go_durable, go_volatile, if_durable_answered, prepare_seats, root_answered, sub_answered, upwards, volatile_answered, voted}
use Rattle.at_model.specs.Recovery.{no_seats}
use Rattle.model_laws.specs.Links.{AreIn, AreLinked}
use Rattle.owed.specs.Shape.{AreSuited, IsSeatIn, IsShaped, LinksKnow, StandsUnder, Waits, suits}
use Rattle.owed.proofs.StepSeats.{asked_kept, asked_on, asked_sent, commit_kept, commit_sent, kept_on}
use Rattle.owed.proofs.Rules.{From, Along, On, Left, Owes, aborts, all_told, either, none_left, rolled_back, stays_so, waits_on}
use Rattle.owed.proofs.Tables.{Are, are_both, are_more, are_moved, every_seat, none_is, some_more, some_moved}

-- more is posted
posted_from : (e : Event) (old : Transaction) (p : Kind → State → Bool) (id : Numbers) (seats : List Enlistment) (ps qs : List Post) → From e old p id seats ps → From e old p id seats (ps ++ qs)
posted_from e old p id seats ps qs (i, (a, k)) = (i, (a, kept_on e old ps qs old.seats seats k))

posted_along : (m : Moment) (e : Event) (old : Transaction) (p : Kind → State → Bool) (id : Numbers) (seats : List Enlistment) (ps qs : List Post) → Along m e old p id seats ps
    → Along m e old p id seats (ps ++ qs)
posted_along m e old p id seats ps qs (h, q) = (posted_from e old p id seats ps qs h, asked_on m.base e old ps qs old.seats seats q)

-- the same seats, known to be of more kinds and states
known_as : (m : Moment) (e : Event) (old : Transaction) (p q : Kind → State → Bool) (id : Numbers) (seats : List Enlistment) (ps : List Post) → Are q seats → Along m e old p id seats ps
    → Along m e old q id seats ps
known_as m e old p q id seats ps b ((i, (a, k)), r) = ((i, (b, k)), r)

-- a decision
abbrev is_ready : Kind → State → Bool
is_ready k s = is_state s states.Prepared

pub commits : (m : Moment) (e : Event) (old : Transaction) (id : Numbers) (seats : List Enlistment) (ps : List Post) → Along m e old (suits Phase.Voted) id seats ps
    → Along m e old (suits Phase.Committing) id (moved (in_state states.Prepared) states.Committing seats) (ps ++ notices_to m.base id notices.Commit seats (in_state states.Prepared))
commits m e old id seats ps ((i, (a, k)), q) = (
  (
    i,
    (
      are_moved (suits Phase.Voted) (suits Phase.Committing) is_ready states.Committing refl seats a,
      commit_kept m.base id e old ps (in_state states.Prepared) old.seats seats k,
    ),
  ),
  commit_sent m.base id e old ps (in_state states.Prepared) old.seats seats i k q,
)

abbrev is_committing_seat : Kind → State → Bool
is_committing_seat k s = is_kind k kinds.Durable && is_state s states.Committing

pub commit_waits : (seats : List Enlistment) → list_any is_prepared_durable seats ≡ true → Waits Phase.Committing (moved (in_state states.Prepared) states.Committing seats)
commit_waits seats h = some_moved waits_on is_ready is_committing_seat states.Committing refl seats h

done_seat : (c : Option Completion) → IsSeatIn states.Done (completion_in states.Done c)
done_seat None = tt
done_seat (Some c) = refl

root_only : (s : Option Superior) (c : Option Completion) → s ≡ None → IsSeatIn states.Done c → StandsUnder Phase.Committing s c
root_only s c e h = subst (λ x. StandsUnder Phase.Committing x c) (sym e) h

decided_on : (m : Moment) (e : Event) (old : Transaction) (g : Moving Transaction) → On m e old (suits Phase.Voted) g → On m e old (suits Phase.Committing) (decided m g)
unfolding decided
decided_on m e old g h =
    posted_along m e old (suits Phase.Committing) g.item.id _ _ (initiator_posts m.base g.item.id notices.Committed g.item.completion) (commits m e old g.item.id g.item.seats g.posts h)

decided_shaped : (m : Moment) (e : Event) (old : Transaction) (g : Moving Transaction) → On m e old (suits Phase.Voted) g → g.item.superior ≡ None → list_any is_prepared_durable g.item.seats ≡ true
    → IsShaped (decided m g).item
unfolding decided
decided_shaped m e old g h r w =
    ((commits m e old g.item.id g.item.seats g.posts h).0.1.0, (commit_waits g.item.seats w, root_only g.item.superior (completion_in states.Done g.item.completion) r (done_seat g.item.completion)))

committed_left : (m : Moment) (e : Event) (old : Transaction) (g : Moving Transaction) → On m e old (suits Phase.Voted) g → g.item.superior ≡ None → Left m e old (committed m g)
unfolding committed
committed_left m e old g h r = by_test (list_any is_prepared_durable g.item.seats) refl
  where
    by_test : (b : Bool) → list_any is_prepared_durable g.item.seats ≡ b → Left m e old (if b then stays (decided m g) else forgotten (decided m g))
    by_test true w = stays_so m e old (suits Phase.Committing) (decided m g) (decided_on m e old g h) (decided_shaped m e old g h r w)
    by_test false w = none_left e old (suits Phase.Committing) (decided m g).item.id (decided m g).item.seats (decided m g).posts refl (decided_on m e old g h).0

root_owes : (m : Moment) (e : Event) (old : Transaction) (g : Moving Transaction) → On m e old (suits Phase.Voted) g → g.item.superior ≡ None → Owes m e old (root_answered m g)
unfolding root_answered
root_owes m e old g h r = record { entry = tt; landed = committed_left m e old g h r; otherwise = aborts m e old (suits Phase.Voted) Alone g refl h.0 }

-- a vote
voted_left : (m : Moment) (e : Event) (old : Transaction) (s : Superior) (g : Moving Transaction) → On m e old (suits Phase.Voted) g → LinksKnow s → is_none s.durable.coordinator ≡ false
    → list_any is_prepared_durable g.item.seats ≡ true → Left m e old (stays (voted m s g))
unfolding voted
voted_left m e old s g h l c w =
    stays_so m e old (suits Phase.Voted) (voted m s g) (posted_along m e old (suits Phase.Voted) g.item.id g.item.seats g.posts (upwards m.base g.item.id kinds.Durable notices.Prepared s.durable) h)
    (h.0.1.0, (w, (l.0, c)))

names_some : (seats : List Enlistment) → list_any is_prepared_durable seats ≡ true → no_seats (prepared seats) ≡ false
names_some [] e = absurd cc
names_some (s ∷ ss) e = by_test (names_some ss) (is_prepared_durable s) e
  where
    by_test : (list_any is_prepared_durable ss ≡ true → no_seats (prepared ss) ≡ false) → (b : Bool) → (b || list_any is_prepared_durable ss) ≡ true
        → no_seats (map seated (if b then s ∷ filter is_prepared_durable ss else filter is_prepared_durable ss)) ≡ false
    by_test rest true f = refl
    by_test rest false f = rest f

sub_owes : (m : Moment) (e : Event) (old : Transaction) (s : Superior) (c : Option Epr) (g : Moving Transaction) → On m e old (suits Phase.Voted) g → LinksKnow s → s.durable.coordinator ≡ c
    → Owes m e old (sub_answered m s c g)
unfolding sub_answered
sub_owes m e old s None g h l f = aborts m e old (suits Phase.Voted) Alone g refl h.0
sub_owes m e old s (Some c) g h l f =
    either m e old (list_any is_prepared_durable g.item.seats) _ _
    (λ w. record {
      entry = names_some g.item.seats w;
      landed = voted_left m e old s g h l (ap (λ x. is_none x) f) w;
      otherwise = aborts m e old (suits Phase.Voted) Alone g refl h.0;
    })
    (λ w. all_told e old (suits Phase.Voted) g.item.id g.item.seats (g.posts ++ upwards m.base g.item.id kinds.Durable notices.ReadOnly s.durable)
    (posted_from e old (suits Phase.Voted) g.item.id g.item.seats g.posts (upwards m.base g.item.id kinds.Durable notices.ReadOnly s.durable) h.0) (none_is waits_on g.item.seats w))

durable_owes : (m : Moment) (e : Event) (old : Transaction) (s : Option Superior) (c : Option Completion) (g : Moving Transaction) → On m e old (suits Phase.Voted) g → g.item.superior ≡ s
    → StandsUnder Phase.Durable s c → Owes m e old (durable_answered m s g)
durable_owes m e old None c g h f k = root_owes m e old g h f
durable_owes m e old (Some s) c g h f k = sub_owes m e old s s.durable.coordinator g h k refl

-- it hasn't answered
abbrev asks : Kind → Kind → State → Bool
asks kind k s = (is_kind k kind && is_state s states.Active) || (is_kind k kind && is_state s states.Preparing)

was_not : (b : Bool) → not b ≡ true → b ≡ false
was_not true e = absurd cc
was_not false e = refl

was : (b : Bool) → not b ≡ false → b ≡ true
was true e = refl
was false e = absurd cc

all_answered : (kind : Kind) (p q : Kind → State → Bool) → every_seat (λ k s. not (p k s && not (asks kind k s)) || q k s) ≡ true → (seats : List Enlistment) → answered kind seats ≡ true → Are p seats
    → Are q seats
all_answered kind p q c seats e a =
    are_more (λ k s. p k s && not (asks kind k s)) q c seats
    (are_both p (λ k s. not (asks kind k s)) seats a (none_is (asks kind) seats (was_not (list_any (λ s. asks kind s.kind s.state) seats) e)))

abbrev is_asked : Kind → Kind → State → Bool
is_asked kind k s = is_kind k kind && is_state s states.Preparing

some_asked : (kind : Kind) (p : Kind → State → Bool) → every_seat (λ k s. not (p k s && asks kind k s) || is_asked kind k s) ≡ true → (seats : List Enlistment) → answered kind seats ≡ false → Are p seats
    → list_any (is_of kind states.Preparing) seats ≡ true
some_asked kind p c seats e a = some_more p (asks kind) (is_asked kind) c seats a (was (list_any (λ s. asks kind s.kind s.state) seats) e)

-- it stays in its phase
in_its_phase : (m : Moment) (e : Event) (old : Transaction) (phase : Phase) (g : Moving Transaction) → g.item.phase ≡ phase → On m e old (suits phase) g → Waits phase g.item.seats
    → StandsUnder phase g.item.superior g.item.completion → Left m e old (stays g)
in_its_phase m e old phase g f h w k =
    stays_so m e old (suits phase) g h
    (subst (λ p. AreSuited p g.item.seats × (Waits p g.item.seats × StandsUnder p g.item.superior g.item.completion)) (sym f) (h.0.1.0, (w, k)))

if_durable_owes : (m : Moment) (e : Event) (old : Transaction) (g : Moving Transaction) → g.item.phase ≡ Phase.Durable → On m e old (suits Phase.Durable) g
    → StandsUnder Phase.Durable g.item.superior g.item.completion → Owes m e old (if_durable_answered m g)
if_durable_owes m e old g f h k =
    either m e old (answered kinds.Durable g.item.seats) _ _
    (λ a. durable_owes m e old g.item.superior g.item.completion g
    (known_as m e old (suits Phase.Durable) (suits Phase.Voted) g.item.id g.item.seats g.posts (all_answered kinds.Durable (suits Phase.Durable) (suits Phase.Voted) refl g.item.seats a h.0.1.0) h) refl k)
    (λ a. in_its_phase m e old Phase.Durable g f h (some_asked kinds.Durable (suits Phase.Durable) refl g.item.seats a h.0.1.0) k)

-- asking
abbrev is_to_ask : Kind → Kind → State → Bool
is_to_ask kind k s = is_kind k kind && is_state s states.Active

not_ready : (kind : Kind) → every_seat (λ k s. not (is_to_ask kind k s && is_state s states.Prepared)) ≡ true
not_ready kinds.Volatile = refl
not_ready kinds.Durable = refl

prepares : (m : Moment) (e : Event) (old : Transaction) (kind : Kind) (p q : Kind → State → Bool) → every_seat (λ k s. not (p k s) || q k (if is_to_ask kind k s then states.Preparing else s)) ≡ true
    → (id : Numbers) (seats : List Enlistment) (ps : List Post) → Along m e old p id seats ps
    → Along m e old q id (moved (is_of kind states.Active) states.Preparing seats) (ps ++ notices_to m.base id notices.Prepare seats (is_of kind states.Active))
prepares m e old kind p q c id seats ps ((i, (a, k)), r) = (
  (
    i,
    (
      are_moved p q (is_to_ask kind) states.Preparing c seats a,
      kept_on e old ps (notices_to m.base id notices.Prepare seats (is_of kind states.Active)) old.seats (moved (is_of kind states.Active) states.Preparing seats)
          (asked_kept e old ps (is_to_ask kind) old.seats seats (not_ready kind) k),
    ),
  ),
  asked_sent m.base id e old ps (is_of kind states.Active) old.seats seats i k r,
)

-- the volatile ones have answered
abbrev is_volatile_answered : Kind → State → Bool
is_volatile_answered k s = suits Phase.Volatile k s && not (asks kinds.Volatile k s)

go_durable_owes : (m : Moment) (e : Event) (old : Transaction) (g : Moving Transaction) → On m e old is_volatile_answered g → StandsUnder Phase.Durable g.item.superior g.item.completion
    → Owes m e old (go_durable m g)
unfolding go_durable
go_durable_owes m e old g h k =
    if_durable_owes m e old (prepare_seats m kinds.Durable (become (in_phase Phase.Durable g.item) g)) refl
    (prepares m e old kinds.Durable is_volatile_answered (suits Phase.Durable) refl g.item.id g.item.seats g.posts h) k

still_under : (s : Option Superior) (c : Option Completion) → StandsUnder Phase.Volatile s c → StandsUnder Phase.Durable s c
still_under None c h = h
still_under (Some s) c h = h

neither_asked : (v d : State) → AreIn Phase.Volatile v d → is_state v states.Preparing ≡ false → is_state d states.Preparing ≡ false → ⊥
neither_asked v d (inl (x, y)) e f = let z : is_state states.Preparing states.Preparing ≡ false = subst (λ s. is_state s states.Preparing ≡ false) x e in cc
neither_asked v d (inr (x, y)) e f = let z : is_state states.Preparing states.Preparing ≡ false = subst (λ s. is_state s states.Preparing ≡ false) y f in cc

volatile_owes : (m : Moment) (e : Event) (old : Transaction) (s : Option Superior) (g : Moving Transaction) → g.item.superior ≡ s → On m e old is_volatile_answered g
    → StandsUnder Phase.Volatile s g.item.completion → AreLinked Phase.Volatile s g.item.completion → Owes m e old (volatile_answered m s g)
unfolding volatile_answered
volatile_owes m e old None g f h k l = go_durable_owes m e old g h (subst (λ x. StandsUnder Phase.Durable x g.item.completion) (sym f) k)
volatile_owes m e old (Some s) g f h k l =
    either m e old (is_state s.volatile.state states.Preparing) _ _
    (λ x. stays_so m e old (suits Phase.Active)
    (posts (upwards m.base g.item.id kinds.Volatile notices.ReadOnly s.volatile) (become (record g.item { superior = Some (link_in kinds.Volatile states.None s); phase = Phase.Active }) g))
    (known_as m e old is_volatile_answered (suits Phase.Active) g.item.id g.item.seats (g.posts ++ upwards m.base g.item.id kinds.Volatile notices.ReadOnly s.volatile)
    (are_more is_volatile_answered (suits Phase.Active) refl g.item.seats h.0.1.0)
    (posted_along m e old is_volatile_answered g.item.id g.item.seats g.posts (upwards m.base g.item.id kinds.Volatile notices.ReadOnly s.volatile) h))
    (are_more is_volatile_answered (suits Phase.Active) refl g.item.seats h.0.1.0, (tt, (tt, k.1))))
    (λ x. either m e old (is_state s.durable.state states.Preparing) _ _
    (λ y. go_durable_owes m e old g h (subst (λ z. StandsUnder Phase.Durable z g.item.completion) (sym f) k))
    (λ y. absurd (neither_asked s.volatile.state s.durable.state l.0 x y)))

all_committed_owes : (m : Moment) (e : Event) (old : Transaction) (g : Moving Transaction) → On m e old (suits Phase.Committing) g → Owes m e old (all_committed m g)
unfolding all_committed
all_committed_owes m e old g h = record {
  entry = tt;
  landed = none_left e old (suits Phase.Committing) g.item.id g.item.seats (g.posts ++ ended_posts m.base g.item.id g.item.superior) refl
      (posted_from e old (suits Phase.Committing) g.item.id g.item.seats g.posts (ended_posts m.base g.item.id g.item.superior) h.0);
  otherwise = tt;
}

abbrev is_there : Kind → State → Bool
is_there k s = is_kind k kinds.Durable && not (is_state s states.None)

pub advance_owes : (m : Moment) (e : Event) (old : Transaction) (phase : Phase) (g : Moving Transaction) → g.item.phase ≡ phase → (phase ≡ Phase.Voted → ⊥) → On m e old (suits phase) g
    → StandsUnder phase g.item.superior g.item.completion → AreLinked phase g.item.superior g.item.completion → Owes m e old (advance_in m phase g)
unfolding advance_in
advance_owes m e old Phase.Registering g f x h k l = in_its_phase m e old Phase.Registering g f h tt k
advance_owes m e old Phase.Active g f x h k l = in_its_phase m e old Phase.Active g f h tt k
advance_owes m e old Phase.Volatile g f x h k l =
    either m e old (answered kinds.Volatile g.item.seats) _ _
    (λ a. volatile_owes m e old g.item.superior g refl
    (known_as m e old (suits Phase.Volatile) is_volatile_answered g.item.id g.item.seats g.posts (all_answered kinds.Volatile (suits Phase.Volatile) is_volatile_answered refl g.item.seats a h.0.1.0) h) k l)
    (λ a. in_its_phase m e old Phase.Volatile g f h (some_asked kinds.Volatile (suits Phase.Volatile) refl g.item.seats a h.0.1.0) k)
advance_owes m e old Phase.Durable g f x h k l = if_durable_owes m e old g f h k
advance_owes m e old Phase.Voted g f x h k l = absurd (x refl)
advance_owes m e old Phase.Committing g f x h k l =
    either m e old (all_left g.item.seats) _ _ (λ a. all_committed_owes m e old g h)
    (λ a. in_its_phase m e old Phase.Committing g f h
    (some_more (suits Phase.Committing) is_there is_committing_seat refl g.item.seats h.0.1.0 (was (list_any (λ s. is_there s.kind s.state) g.item.seats) a)) k)
advance_owes m e old Phase.Aborting g f x h k l = rolled_back m e old g f h.0 k

-- seats of a transaction that asks its volatile ones
abbrev pub Askable : (Kind → State → Bool) → Type 0
Askable p = every_seat (λ k s. not (p k s) || suits Phase.Volatile k (if is_to_ask kinds.Volatile k s then states.Preparing else s)) ≡ true

pub go_volatile_owes : (m : Moment) (e : Event) (old : Transaction) (p : Kind → State → Bool) (g : Moving Transaction) → Askable p → On m e old p g
    → StandsUnder Phase.Volatile g.item.superior g.item.completion → AreLinked Phase.Volatile g.item.superior g.item.completion → Owes m e old (go_volatile m g)
unfolding go_volatile
go_volatile_owes m e old p g c h k l =
    advance_owes m e old Phase.Volatile (prepare_seats m kinds.Volatile (become (in_phase Phase.Volatile g.item) g)) refl (λ f. absurd cc)
    (prepares m e old kinds.Volatile p (suits Phase.Volatile) c g.item.id g.item.seats g.posts h) k l
