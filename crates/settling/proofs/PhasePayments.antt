-- A transaction pays for what it posts in each phase, from the end to the first Prepare.
use Rattle.std.specs.Prelude.{ℕ, List, [], ◌∷◌, Option, Some, None, Bool, true, false, ◌+◌, if◌then◌else◌, ◌≡◌, ◌≤◌, refl}
use Rattle.std.specs.List.{list_any}
use Rattle.std.proofs.Common.{arith, sym, subst, ap, inl, inr, ◌∙◌}
use Rattle.at_base.specs.Numbers.{Numbers}
use Rattle.at_base.specs.declared.epr.Epr.{Epr}
use Rattle.at_base.specs.declared.event.Moment.{Moment}
use Rattle.at_base.specs.declared.notice.Kind.{Kind}
use Rattle.at_base.specs.declared.notice.Kind.TheVariants as kinds
use Rattle.at_base.specs.declared.notice.Notice.TheVariants as notices
use Rattle.at_base.specs.declared.outs.Ending.TheVariants as endings
use Rattle.at_base.specs.declared.outs.Post.{Post}
use Rattle.at_base.specs.declared.target.Target.TheVariants as targets
use Rattle.at_tables.specs.declared.cells.State.{State}
use Rattle.at_tables.specs.declared.cells.State.TheVariants as states
use Rattle.at_tables.specs.Names.{is_state}
use Rattle.at_model.specs.Abort.{Alone}
use Rattle.at_model.specs.Arrivals.{request_of}
use Rattle.at_model.specs.Book.{Completion, Link, Phase, Request, Superior, Transaction}
use Rattle.at_model.specs.Due.{is_quiet}
use Rattle.at_model.specs.Moves.{Decision, Moving, become, effect, forgotten, posts, stays}
use Rattle.at_model.specs.Phases.{advance_in, all_committed, commit_seats, committed, decided, durable_answered, ended_posts, go_durable, go_volatile, if_durable_answered, prepare_seats, root_answered, sub_answered, upwards, volatile_answered, voted}
use Rattle.at_model.specs.Posts.{notice_post}
use Rattle.at_model.specs.Seats.{all_left, answered, completion_in, ending, in_phase, in_state, initiator_posts, is_of, is_prepared_durable, link_in}
use Rattle.model_laws.specs.Links.{AreIn, AreLinked}
use Rattle.model_laws.proofs.DecisionLaws.{either_left, either_says}
use Rattle.model_laws.proofs.LinkDecisions.{Linked}
use Rattle.settling.specs.Load.{Prices, again, completion_load, held, link_repeats, link_load, link_rest, links_load, seats_load, weights}
use Rattle.settling.proofs.AbortPayments.{abort_paid, commit_price, prepare_price, until_paid, upwards_weighs}
use Rattle.settling.proofs.Entries.{state_is}
use Rattle.settling.proofs.Weights.{Affordably, Affords, AnyEntry, Asks, forgotten_paid, less_again, none_again, not_quiet, seats_less, stays_paid, weights_one, worth, worth_become, worth_effect, worth_posts, worth_sent}

pub either : (P : Prices) (now limit : ℕ) (r : Option Request) (b : Bool) (d e : Decision Transaction)
    → (b ≡ true → Affordably P now limit r d) → (b ≡ false → Affordably P now limit r e) → Affordably P now limit r (if b then d else e)
either P now limit r b d e h k = either_says (Affords P now limit r) AnyEntry b d e h k

-- one state isn't another
is_other : (a b c : State) → a ≡ b → is_state b c ≡ false → is_state a c ≡ true → ⊥
is_other a b c e f h = let k : is_state b c ≡ true = subst (λ x. is_state x c ≡ true) e h in cc

-- a decision
committed_paid : (P : Prices) (base : List ℕ) (id : Numbers) (c : Option Completion)
    → weights P (initiator_posts base id notices.Committed c) + completion_load P Phase.Committing (completion_in states.Done c) ≤ completion_load P Phase.Durable c
committed_paid P base id None = omega arith
committed_paid P base id (Some c) = by_test (is_state c.state states.None)
  where
    by_test : (b : Bool) → weights P (if b then [] else notice_post base (targets.Completion id) c.initiator notices.Committed ∷ []) + (P.seat + 2) ≤ P.seat + 4
    by_test true = omega arith
    by_test false = omega (arith, weights_one P (notice_post base (targets.Completion id) c.initiator notices.Committed))

decided_worth : (P : Prices) (m : Moment) (g : Moving Transaction) → g.item.phase ≡ Phase.Durable → worth P m.now (decided m g) ≤ worth P m.now g
unfolding decided
decided_worth P m g e =
    let I : List Post = initiator_posts m.base g.item.id notices.Committed g.item.completion in
    let g1 : Moving Transaction = effect (ending g.item endings.Committed) g in
    let g2 : Moving Transaction = commit_seats m g1 in
    let t : Transaction = record (commit_seats m g).item { phase = Phase.Committing; completion = completion_in states.Done g.item.completion } in
    let e1 : worth P m.now g1 ≡ worth P m.now g = worth_effect P m.now (ending g.item endings.Committed) g in
    let e2 : worth P m.now g2 ≤ worth P m.now g1 = worth_sent P m notices.Commit states.Committing (in_state states.Prepared) g1 (commit_price (is_quiet m.now g.item.sent)) in
    let e3 : worth P m.now (become t g2) + held P m.now g2.item ≡ worth P m.now g2 + held P m.now t = worth_become P m.now t g2 in
    let e4 : worth P m.now (posts I (become t g2)) ≡ worth P m.now (become t g2) + weights P I = worth_posts P m.now I (become t g2) in
    let c : weights P I + completion_load P Phase.Committing (completion_in states.Done g.item.completion) ≤ completion_load P g.item.phase g.item.completion =
    subst (λ p. weights P I + completion_load P Phase.Committing (completion_in states.Done g.item.completion) ≤ completion_load P p g.item.completion) (sym e)
    (committed_paid P m.base g.item.id g.item.completion) in
    omega (arith, e1, e2, e3, e4, c)

root_paid : (P : Prices) (m : Moment) (limit : ℕ) (r : Option Request) (g : Moving Transaction) → g.item.phase ≡ Phase.Durable → worth P m.now g ≤ limit → Asks r g.item
    → Affordably P m.now limit r (root_answered m g)
unfolding root_answered committed decided
root_paid P m limit r g e h k =
    let d : worth P m.now (decided m g) ≤ limit = omega (arith, decided_worth P m g e, h) in
    record {
      entry = tt;
      landed = either_left (Affords P m.now limit r) (list_any is_prepared_durable g.item.seats) (stays (decided m g)) (forgotten (decided m g))
          (stays_paid P m.now limit r (decided m g) d k) (forgotten_paid P m.now limit r (decided m g) d);
      otherwise = abort_paid P m Alone limit r g h k;
    }

-- a vote
superior_asks : (r : Option Request) (s : Superior) (t : Transaction) → t.superior ≡ Some s → Asks r t → s.request ≡ r
superior_asks r s t e k = subst (λ x. request_of x ≡ r) e k

pub no_completion : (P : Prices) (phase : Phase) (c : Option Completion) → c ≡ None → completion_load P phase c ≡ 0
no_completion P phase c e = ap (completion_load P phase) e

pub link_at : (P : Prices) (q : Bool) (x : Link) (state : State) → x.state ≡ state → link_load P q x ≡ P.other + (link_rest state + again q (link_repeats P state))
link_at P q x state e = ap (λ y. P.other + (link_rest y + again q (link_repeats P y))) e

voted_worth : (P : Prices) (m : Moment) (s : Superior) (g : Moving Transaction) → g.item.superior ≡ Some s → s.durable.state ≡ states.Preparing → g.item.completion ≡ None
    → worth P m.now (voted m s g) ≤ worth P m.now g
unfolding voted
voted_worth P m s g e d c =
    let q : Bool = is_quiet m.now g.item.sent in
    let U : List Post = upwards m.base g.item.id kinds.Durable notices.Prepared s.durable in
    let t : Transaction = record g.item { superior = Some (link_in kinds.Durable states.PreparedSuccess s); phase = Phase.Voted; sent = Some m.now } in
    let e1 : worth P m.now (become t g) + held P m.now g.item ≡ worth P m.now g + held P m.now t = worth_become P m.now t g in
    let e2 : worth P m.now (posts U (become t g)) ≡ worth P m.now (become t g) + weights P U = worth_posts P m.now U (become t g) in
    let u : weights P U ≤ 4 = upwards_weighs P m.base g.item.id kinds.Durable notices.Prepared s.durable in
    let new : held P m.now t ≡ seats_load P false g.item.seats + (link_load P false s.volatile + (P.other + (2 + 0)) + completion_load P Phase.Voted g.item.completion) =
    ap (λ b. seats_load P b g.item.seats + (link_load P b s.volatile + (P.other + (2 + again b 4)) + completion_load P Phase.Voted g.item.completion)) (not_quiet m.now) in
    let old : links_load P q g.item.superior ≡ link_load P q s.volatile + link_load P q s.durable = ap (links_load P q) e in
    omega (
      arith,
      e1,
      e2,
      u,
      new,
      old,
      seats_less P q g.item.seats,
      link_at P q s.durable states.Preparing d,
      less_again q (link_repeats P s.volatile.state),
      no_completion P Phase.Voted g.item.completion c,
    )

sub_paid : (P : Prices) (m : Moment) (s : Superior) (superior : Option Epr) (limit : ℕ) (r : Option Request) (g : Moving Transaction) → g.item.superior ≡ Some s
    → s.durable.state ≡ states.Preparing → g.item.completion ≡ None → worth P m.now g ≤ limit → Asks r g.item → Affordably P m.now limit r (sub_answered m s superior g)
unfolding sub_answered voted worth
sub_paid P m s None limit r g e d c h k = abort_paid P m Alone limit r g h k
sub_paid P m s (Some superior) limit r g e d c h k =
    let v : worth P m.now (voted m s g) ≤ limit = omega (arith, voted_worth P m s g e d c, h) in
    let q : Bool = is_quiet m.now g.item.sent in
    let U : List Post = upwards m.base g.item.id kinds.Durable notices.ReadOnly s.durable in
    let old : links_load P q g.item.superior ≡ link_load P q s.volatile + link_load P q s.durable = ap (links_load P q) e in
    let f : weights P (posts U g).posts ≤ limit =
    omega (arith, worth_posts P m.now U g, upwards_weighs P m.base g.item.id kinds.Durable notices.ReadOnly s.durable, old, link_at P q s.durable states.Preparing d, h) in
    either P m.now limit r (list_any is_prepared_durable g.item.seats) _ _
    (λ i. record { entry = tt; landed = stays_paid P m.now limit r (voted m s g) v (superior_asks r s g.item e k); otherwise = abort_paid P m Alone limit r g h k })
    (λ i. record { paid = omega (arith, f); asks = tt })

durable_paid : (P : Prices) (m : Moment) (s : Option Superior) (limit : ℕ) (r : Option Request) (g : Moving Transaction) → g.item.superior ≡ s → g.item.phase ≡ Phase.Durable
    → AreLinked Phase.Durable s g.item.completion → worth P m.now g ≤ limit → Asks r g.item → Affordably P m.now limit r (durable_answered m s g)
durable_paid P m None limit r g e p l h k = root_paid P m limit r g p h k
durable_paid P m (Some s) limit r g e p l h k = sub_paid P m s s.durable.coordinator limit r g e l.0.1 l.1 h k

if_durable_paid : (P : Prices) (m : Moment) (limit : ℕ) (r : Option Request) (g : Moving Transaction) → g.item.phase ≡ Phase.Durable
    → AreLinked Phase.Durable g.item.superior g.item.completion → worth P m.now g ≤ limit → Asks r g.item → Affordably P m.now limit r (if_durable_answered m g)
if_durable_paid P m limit r g p l h k =
    either P m.now limit r (answered kinds.Durable g.item.seats) _ _ (λ i. durable_paid P m g.item.superior limit r g refl p l h k) (λ i. stays_paid P m.now limit r g h k)

prepare_worth : (P : Prices) (m : Moment) (kind : Kind) (g : Moving Transaction) → worth P m.now (prepare_seats m kind g) ≤ worth P m.now g
prepare_worth P m kind g = worth_sent P m notices.Prepare states.Preparing (is_of kind states.Active) g (prepare_price kind (is_quiet m.now g.item.sent))

same_initiator : (P : Prices) (c : Option Completion) → completion_load P Phase.Durable c ≡ completion_load P Phase.Volatile c
same_initiator P None = refl
same_initiator P (Some c) = refl

go_durable_paid : (P : Prices) (m : Moment) (limit : ℕ) (r : Option Request) (g : Moving Transaction) → g.item.phase ≡ Phase.Volatile
    → AreLinked Phase.Durable g.item.superior g.item.completion → worth P m.now g ≤ limit → Asks r g.item → Affordably P m.now limit r (go_durable m g)
unfolding go_durable
go_durable_paid P m limit r g p l h k =
    let g1 : Moving Transaction = become (in_phase Phase.Durable g.item) g in
    let e1 : worth P m.now g1 + held P m.now g.item ≡ worth P m.now g + held P m.now (in_phase Phase.Durable g.item) = worth_become P m.now (in_phase Phase.Durable g.item) g in
    let c : completion_load P Phase.Durable g.item.completion ≡ completion_load P g.item.phase g.item.completion =
    same_initiator P g.item.completion ∙ ap (λ x. completion_load P x g.item.completion) (sym p) in
    if_durable_paid P m limit r (prepare_seats m kinds.Durable g1) refl l (omega (arith, prepare_worth P m kinds.Durable g1, e1, c, h)) k

-- which link was asked
durable_asked : (s : Superior) → AreIn Phase.Volatile s.volatile.state s.durable.state → is_state s.volatile.state states.Preparing ≡ false
    → AreIn Phase.Durable s.volatile.state s.durable.state
durable_asked s (inl (v, d)) e = let k : is_state states.Preparing states.Preparing ≡ false = subst (λ x. is_state x states.Preparing ≡ false) v e in absurd cc
durable_asked s (inr h) e = h

answered_worth : (P : Prices) (m : Moment) (s : Superior) (g : Moving Transaction) → g.item.superior ≡ Some s → s.volatile.state ≡ states.Preparing → g.item.completion ≡ None
    → worth P m.now (posts (upwards m.base g.item.id kinds.Volatile notices.ReadOnly s.volatile)
    (become (record g.item { superior = Some (link_in kinds.Volatile states.None s); phase = Phase.Active }) g)) ≤ worth P m.now g
answered_worth P m s g e v c =
    let q : Bool = is_quiet m.now g.item.sent in
    let U : List Post = upwards m.base g.item.id kinds.Volatile notices.ReadOnly s.volatile in
    let t : Transaction = record g.item { superior = Some (link_in kinds.Volatile states.None s); phase = Phase.Active } in
    let e1 : worth P m.now (become t g) + held P m.now g.item ≡ worth P m.now g + held P m.now t = worth_become P m.now t g in
    let e2 : worth P m.now (posts U (become t g)) ≡ worth P m.now (become t g) + weights P U = worth_posts P m.now U (become t g) in
    let u : weights P U ≤ 2 = upwards_weighs P m.base g.item.id kinds.Volatile notices.ReadOnly s.volatile in
    let old : links_load P q g.item.superior ≡ link_load P q s.volatile + link_load P q s.durable = ap (links_load P q) e in
    let none : again q 0 ≤ 0 = none_again q in
    omega (arith, e1, e2, u, old, none, link_at P q s.volatile states.Preparing v, no_completion P Phase.Active g.item.completion c)

volatile_paid : (P : Prices) (m : Moment) (s : Option Superior) (limit : ℕ) (r : Option Request) (g : Moving Transaction) → g.item.superior ≡ s → g.item.phase ≡ Phase.Volatile
    → AreLinked Phase.Volatile s g.item.completion → worth P m.now g ≤ limit → Asks r g.item → Affordably P m.now limit r (volatile_answered m s g)
unfolding volatile_answered
volatile_paid P m None limit r g e p l h k =
    go_durable_paid P m limit r g p (subst (λ x. AreLinked Phase.Durable x g.item.completion) (sym e) tt) h k
volatile_paid P m (Some s) limit r g e p l h k =
    either P m.now limit r (is_state s.volatile.state states.Preparing) _ _
    (λ i. stays_paid P m.now limit r
    (posts (upwards m.base g.item.id kinds.Volatile notices.ReadOnly s.volatile)
    (become (record g.item { superior = Some (link_in kinds.Volatile states.None s); phase = Phase.Active }) g))
    (omega (arith, answered_worth P m s g e (state_is s.volatile.state states.Preparing i) l.1, h)) (superior_asks r s g.item e k))
    (λ i. either P m.now limit r (is_state s.durable.state states.Preparing) _ _
    (λ j. go_durable_paid P m limit r g p (subst (λ x. AreLinked Phase.Durable x g.item.completion) (sym e) (durable_asked s l.0 i, l.1)) h k)
    (λ j. stays_paid P m.now limit r g h k))

-- the end
ended_weighs : (P : Prices) (base : List ℕ) (id : Numbers) (q : Bool) (s : Option Superior) (c : Option Completion) → AreLinked Phase.Committing s c
    → weights P (ended_posts base id s) ≤ links_load P q s
ended_weighs P base id q None c l = omega arith
ended_weighs P base id q (Some s) c l =
    omega (arith, upwards_weighs P base id kinds.Durable notices.Committed s.durable, link_at P q s.durable states.Committing l.0.1)

all_committed_paid : (P : Prices) (m : Moment) (limit : ℕ) (r : Option Request) (g : Moving Transaction) → AreLinked Phase.Committing g.item.superior g.item.completion
    → worth P m.now g ≤ limit → Affordably P m.now limit r (all_committed m g)
unfolding all_committed worth
all_committed_paid P m limit r g l h =
    let E : List Post = ended_posts m.base g.item.id g.item.superior in
    let f : weights P (posts E g).posts ≤ limit =
    omega (arith, worth_posts P m.now E g, ended_weighs P m.base g.item.id (is_quiet m.now g.item.sent) g.item.superior g.item.completion l, h) in
    record { entry = tt; landed = record { paid = omega (arith, f); asks = tt }; otherwise = tt }

pub advance_paid : (P : Prices) (m : Moment) (phase : Phase) (limit : ℕ) (r : Option Request) (g : Moving Transaction) → g.item.phase ≡ phase → Linked g.item
    → worth P m.now g ≤ limit → Asks r g.item → Affordably P m.now limit r (advance_in m phase g)
unfolding advance_in
advance_paid P m Phase.Registering limit r g e l h k = stays_paid P m.now limit r g h k
advance_paid P m Phase.Active limit r g e l h k = stays_paid P m.now limit r g h k
advance_paid P m Phase.Volatile limit r g e l h k =
    either P m.now limit r (answered kinds.Volatile g.item.seats) _ _
    (λ i. volatile_paid P m g.item.superior limit r g refl e (subst (λ p. AreLinked p g.item.superior g.item.completion) e l) h k) (λ i. stays_paid P m.now limit r g h k)
advance_paid P m Phase.Durable limit r g e l h k = if_durable_paid P m limit r g e (subst (λ p. AreLinked p g.item.superior g.item.completion) e l) h k
advance_paid P m Phase.Voted limit r g e l h k = stays_paid P m.now limit r g h k
advance_paid P m Phase.Committing limit r g e l h k =
    either P m.now limit r (all_left g.item.seats) _ _
    (λ i. all_committed_paid P m limit r g (subst (λ p. AreLinked p g.item.superior g.item.completion) e l) h) (λ i. stays_paid P m.now limit r g h k)
advance_paid P m Phase.Aborting limit r g e l h k = until_paid P m.now limit r g h k

pub go_volatile_paid : (P : Prices) (m : Moment) (limit : ℕ) (r : Option Request) (g : Moving Transaction) → AreLinked Phase.Volatile g.item.superior g.item.completion
    → worth P m.now (become (in_phase Phase.Volatile g.item) g) ≤ limit → Asks r g.item → Affordably P m.now limit r (go_volatile m g)
unfolding go_volatile
go_volatile_paid P m limit r g l h k =
    let g1 : Moving Transaction = become (in_phase Phase.Volatile g.item) g in
    advance_paid P m Phase.Volatile limit r (prepare_seats m kinds.Volatile g1) refl l (omega (arith, prepare_worth P m kinds.Volatile g1, h)) k
