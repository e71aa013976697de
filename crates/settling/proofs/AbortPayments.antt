-- A transaction that aborts pays for what it posts.
use Rattle.std.specs.Prelude.{ℕ, List, [], ◌∷◌, Option, Some, None, Bool, true, false, ◌+◌, ◌||◌, if◌then◌else◌, ◌≡◌, ◌≤◌, refl}
use Rattle.std.specs.List.{list_any}
use Rattle.std.proofs.Common.{arith, sym, subst, ◌∙◌}
use Rattle.at_base.specs.Numbers.{Numbers}
use Rattle.at_base.specs.declared.epr.Epr.{Epr}
use Rattle.at_base.specs.declared.event.Moment.{Moment}
use Rattle.at_base.specs.declared.notice.Kind.{Kind}
use Rattle.at_base.specs.declared.notice.Kind.TheVariants as kinds
use Rattle.at_base.specs.declared.notice.Notice.{Notice}
use Rattle.at_base.specs.declared.notice.Notice.TheVariants as notices
use Rattle.at_base.specs.declared.outs.Ending.TheVariants as endings
use Rattle.at_base.specs.declared.outs.Post.{Post}
use Rattle.at_base.specs.declared.target.Target.TheVariants as targets
use Rattle.at_tables.specs.declared.cells.State.{State}
use Rattle.at_tables.specs.declared.cells.State.TheVariants as states
use Rattle.at_tables.specs.Names.{is_state}
use Rattle.at_base.specs.Names.{is_kind}
use Rattle.settling.proofs.Entries.{state_is}
use Rattle.at_model.specs.Abort.{Reason, abort, is_silent, from_of, link_aborted, links_aborted, until_rolled_back, without_links}
use Rattle.at_model.specs.Arrivals.{request_of}
use Rattle.at_model.specs.Book.{Completion, Link, Phase, Request, Superior, Transaction}
use Rattle.at_model.specs.Due.{is_quiet}
use Rattle.at_model.specs.Moves.{Moving, become, effect, forgotten, posts, stays}
use Rattle.at_model.specs.Phases.{upwards}
use Rattle.at_model.specs.Posts.{notice_post, stored_or, to_each}
use Rattle.at_model.specs.Seats.{completion_in, ending, in_state, initiator_posts, is_of, is_open, send_each}
use Rattle.model_laws.proofs.DecisionLaws.{either_left, second_true}
use Rattle.settling.specs.Load.{Prices, again, completion_load, held, initiator_rest, link_rest, links_load, notice_weight, post_weight, seat_repeats, seat_rest, weights}
use Rattle.settling.proofs.Weights.{Affordable, Affords, Asks, forgotten_paid, stays_paid, weights_join, weights_one, worth, worth_become, worth_effect, worth_posts, worth_sent}

-- one message at most
pub to_each_weighs : (P : Prices) (to : Option Epr) (f : Epr → Post) (n : ℕ) → ((x : Epr) → post_weight P (f x) ≤ n) → weights P (to_each to f) ≤ n
to_each_weighs P None f n h = omega arith
to_each_weighs P (Some x) f n h = omega (arith, weights_one P (f x), h x)

pub upwards_weighs : (P : Prices) (base : List ℕ) (id : Numbers) (kind : Kind) (n : Notice) (link : Link) → weights P (upwards base id kind n link) ≤ notice_weight n
upwards_weighs P base id kind n link =
    to_each_weighs P link.coordinator (λ to. notice_post base (targets.Participant id kind) to n) (notice_weight n) (λ x. omega arith)

-- which seats
open_price : (q : Bool) (s : State) → (is_state s states.Active || is_state s states.Preparing || is_state s states.Prepared) ≡ true → 3 ≤ seat_rest s + again q (seat_repeats s)
open_price q states.Active h = omega arith
open_price q states.Preparing h = omega arith
open_price q states.Prepared h = omega arith
open_price q other h = absurd cc

roll_back_price : (q : Bool) → Affordable notices.Rollback states.Aborting is_open q
unfolding Affordable
roll_back_price q s h = open_price q s.state h

pub prepare_price : (kind : Kind) (q : Bool) → Affordable notices.Prepare states.Preparing (is_of kind states.Active) q
unfolding Affordable
prepare_price kind q s h =
    let e : s.state ≡ states.Active = state_is s.state states.Active (second_true (is_kind s.kind kind) (is_state s.state states.Active) h) in
    subst (λ x. 8 ≤ seat_rest x + again q (seat_repeats x)) (sym e) (omega arith)

pub commit_price : (q : Bool) → Affordable notices.Commit states.Committing (in_state states.Prepared) q
unfolding Affordable
commit_price q s h =
    let e : s.state ≡ states.Prepared = state_is s.state states.Prepared h in
    subst (λ x. 3 ≤ seat_rest x + again q (seat_repeats x)) (sym e) (omega arith)

-- An abort: each link that isn't None pays for its Aborted, and the completion seat for its own.
aborted_weighs : (P : Prices) (base : List ℕ) (id : Numbers) (reason : Reason) (kind : Kind) (link : Link) → weights P (link_aborted base id reason kind link) ≤ 2
aborted_weighs P base id reason kind link = by_test (is_state link.state states.None || is_silent reason kind)
  where
    by_test : (b : Bool) → weights P (if b then [] else to_each (stored_or link.coordinator (from_of reason kind)) (λ to. notice_post base (targets.Participant id kind) to notices.Aborted)) ≤ 2
    by_test true = omega arith
    by_test false = to_each_weighs P (stored_or link.coordinator (from_of reason kind)) (λ to. notice_post base (targets.Participant id kind) to notices.Aborted) 2 (λ x. omega arith)

link_paid : (P : Prices) (base : List ℕ) (id : Numbers) (reason : Reason) (kind : Kind) (state : State) (c : Option Epr)
    → weights P (link_aborted base id reason kind (record { state = state; coordinator = c })) ≤ link_rest state
link_paid P base id reason kind states.None c = omega arith
link_paid P base id reason kind states.Preparing c = omega (arith, aborted_weighs P base id reason kind (record { state = states.Preparing; coordinator = c }))
link_paid P base id reason kind other c = aborted_weighs P base id reason kind (record { state = other; coordinator = c })

links_paid : (P : Prices) (base : List ℕ) (id : Numbers) (reason : Reason) (q : Bool) (s : Option Superior)
    → weights P (links_aborted base id reason s) + links_load P q (without_links s) ≤ links_load P q s
links_paid P base id reason q None = omega arith
links_paid P base id reason q (Some s) =
    omega (
      arith,
      weights_join P (link_aborted base id reason kinds.Volatile s.volatile) (link_aborted base id reason kinds.Durable s.durable),
      link_paid P base id reason kinds.Volatile s.volatile.state s.volatile.coordinator,
      link_paid P base id reason kinds.Durable s.durable.state s.durable.coordinator,
      none_again q,
    )
  where
    none_again : (b : Bool) → again b 0 ≡ 0
    none_again true = refl
    none_again false = refl

pub some_rest : (phase : Phase) (state : State) → is_state state states.None ≡ false → 2 ≤ initiator_rest phase state
some_rest Phase.Aborting states.None e = absurd cc
some_rest Phase.Aborting other e = omega arith
some_rest Phase.Committing state e = omega arith
some_rest Phase.Registering state e = omega arith
some_rest Phase.Active state e = omega arith
some_rest Phase.Volatile state e = omega arith
some_rest Phase.Durable state e = omega arith
some_rest Phase.Voted state e = omega arith

initiator_paid : (P : Prices) (base : List ℕ) (id : Numbers) (phase : Phase) (c : Option Completion)
    → weights P (initiator_posts base id notices.Aborted c) + completion_load P Phase.Aborting (completion_in states.None c) ≤ completion_load P phase c
initiator_paid P base id phase None = omega arith
initiator_paid P base id phase (Some c) = by_test (is_state c.state states.None) (some_rest phase c.state)
  where
    by_test : (b : Bool) → (b ≡ false → 2 ≤ initiator_rest phase c.state)
        → weights P (if b then [] else notice_post base (targets.Completion id) c.initiator notices.Aborted ∷ []) + (P.seat + 0) ≤ P.seat + initiator_rest phase c.state
    by_test true h = omega arith
    by_test false h = omega (arith, h refl, weights_one P (notice_post base (targets.Completion id) c.initiator notices.Aborted))

pub same_request : (s : Option Superior) → request_of (without_links s) ≡ request_of s
same_request None = refl
same_request (Some s) = refl

pub until_paid : (P : Prices) (now limit : ℕ) (r : Option Request) (g : Moving Transaction) → worth P now g ≤ limit → Asks r g.item → Affords P now limit r (until_rolled_back g)
until_paid P now limit r g h k =
    either_left (Affords P now limit r) (list_any (in_state states.Aborting) g.item.seats) (stays g) (forgotten g) (stays_paid P now limit r g h k) (forgotten_paid P now limit r g h)

-- as an abort finds it
abbrev aborting : Moment → Transaction → Transaction
aborting m t = record t {
  superior = without_links t.superior;
  phase = Phase.Aborting;
  aborted = Some m.now;
  completion = completion_in states.None t.completion;
}

pub abort_paid : (P : Prices) (m : Moment) (reason : Reason) (limit : ℕ) (r : Option Request) (g : Moving Transaction) → worth P m.now g ≤ limit → Asks r g.item
    → Affords P m.now limit r (abort m reason g)
unfolding abort
abort_paid P m reason limit r g h k =
    let L : List Post = links_aborted m.base g.item.id reason g.item.superior in
    let I : List Post = initiator_posts m.base g.item.id notices.Aborted g.item.completion in
    let g1 : Moving Transaction = effect (ending g.item endings.Aborted) g in
    let g2 : Moving Transaction = posts L g1 in
    let g3 : Moving Transaction = become (aborting m g.item) g2 in
    let g4 : Moving Transaction = send_each m notices.Rollback states.Aborting is_open g3 in
    let e1 : worth P m.now g1 ≡ worth P m.now g = worth_effect P m.now (ending g.item endings.Aborted) g in
    let e2 : worth P m.now g2 ≡ worth P m.now g1 + weights P L = worth_posts P m.now L g1 in
    let e3 : worth P m.now g3 + held P m.now g.item ≡ worth P m.now g2 + held P m.now (aborting m g.item) = worth_become P m.now (aborting m g.item) g2 in
    let e4 : worth P m.now g4 ≤ worth P m.now g3 = worth_sent P m notices.Rollback states.Aborting is_open g3 (roll_back_price (is_quiet m.now g.item.sent)) in
    let e5 : worth P m.now (posts I g4) ≡ worth P m.now g4 + weights P I = worth_posts P m.now I g4 in
    let l : weights P L + links_load P (is_quiet m.now g.item.sent) (without_links g.item.superior) ≤ links_load P (is_quiet m.now g.item.sent) g.item.superior =
    links_paid P m.base g.item.id reason (is_quiet m.now g.item.sent) g.item.superior in
    let i : weights P I + completion_load P Phase.Aborting (completion_in states.None g.item.completion) ≤ completion_load P g.item.phase g.item.completion =
    initiator_paid P m.base g.item.id g.item.phase g.item.completion in
    until_paid P m.now limit r (posts I g4) (omega (arith, h, e1, e2, e3, e4, e5, l, i)) (same_request g.item.superior ∙ k)
