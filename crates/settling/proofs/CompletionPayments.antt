-- A transaction pays for what it posts at its completion seat and when it is due, and for the answer to its request.
use Rattle.std.specs.Prelude.{ℕ, List, [], ◌∷◌, ◌++◌, Option, Some, None, Bool, true, false, ◌+◌, ◌&&◌, if◌then◌else◌, ◌≡◌, ◌≤◌, refl}
use Rattle.std.proofs.Common.{arith, sym, subst, ap}
use Rattle.std.proofs.lemmas.List.Sums.{sum_by-cons}
use Rattle.at_base.specs.declared.fault.Fault.TheVariants.{CannotCreateContext, InvalidState, UnknownTransaction}
use Rattle.at_base.specs.Numbers.{Numbers}
use Rattle.at_base.specs.declared.epr.Epr.{Epr}
use Rattle.at_base.specs.declared.event.Arrived.{Arrived}
use Rattle.at_base.specs.declared.event.Moment.{Moment}
use Rattle.at_base.specs.declared.message.Message.{Message}
use Rattle.at_base.specs.declared.message.Message.TheVariants as messages
use Rattle.at_base.specs.declared.notice.Kind.{Kind}
use Rattle.at_base.specs.declared.notice.Kind.TheVariants as kinds
use Rattle.at_base.specs.declared.notice.Notice.{Notice}
use Rattle.at_base.specs.declared.notice.Notice.TheVariants as notices
use Rattle.at_base.specs.declared.outs.Post.{Post}
use Rattle.at_base.specs.declared.target.Target.TheVariants as targets
use Rattle.at_tables.specs.declared.cells.Act.{Act}
use Rattle.at_tables.specs.declared.cells.Act.TheVariants as acts
use Rattle.at_tables.specs.declared.cells.Cell.{Cell}
use Rattle.at_tables.specs.declared.cells.State.{State}
use Rattle.at_tables.specs.declared.cells.State.TheVariants as states
use Rattle.at_tables.specs.Names.{is_state}
use Rattle.at_tables.specs.Tables.{completion_of}
use Rattle.at_model.specs.Abort.{Alone}
use Rattle.at_model.specs.Arrivals.{completion_act, completion_notice, on_completion, request_of}
use Rattle.at_model.specs.Book.{Completion, Enlistment, Phase, Request, Superior, Transaction}
use Rattle.at_model.specs.Due.{is_quiet}
use Rattle.at_model.specs.Moves.{Decision, Goes, become, begin, posts, stays}
use Rattle.at_model.specs.Phases.{go_volatile}
use Rattle.at_model.specs.Posts.{fault_post, notice_post, to_each}
use Rattle.at_model.specs.Seats.{in_phase, seat_target, sent_now, under}
use Rattle.model_laws.specs.Links.{AreLinked}
use Rattle.model_laws.proofs.LinkDecisions.{Linked}
use Rattle.settling.specs.Load.{Prices, completion_load, held, initiator_rest, link_repeats, links_load, seat_load, seat_repeats, seats_load, weights}
use Rattle.settling.proofs.AbortPayments.{some_rest, to_each_weighs, upwards_weighs}
use Rattle.settling.proofs.Costs.{CompletesAt, CompletesWhere, Within, completion_within, cost, seat_completes, spare}
use Rattle.settling.proofs.PhasePayments.{go_volatile_paid}
use Rattle.settling.proofs.Weights.{Affords, AnyEntry, Asks, forgotten_paid, not_quiet, stays_paid, weights_one, worth, worth_become, worth_begin, worth_posts}
use Rattle.settling.proofs.SeatPayments.{Acted, fault_paid, ignored_paid, posted_paid, spends}
use Rattle.at_model.specs.Arrivals.{answer_request, context_of, is_registering, refused_at, refused_request, request_answered, request_left, request_stands, request_under, with_answer}
use Rattle.at_model.specs.Due.{Expired, Nothing, Over, Reached, Unanswered, link_again, links_again, register_again_at, seat_again, seats_again, transaction_again, transaction_due, transaction_reached, unanswered_seat}
use Rattle.at_model.specs.Moves.{Change, Records, in_both}
use Rattle.at_model.specs.Create.{link_register}
use Rattle.at_model.specs.Posts.{reply_post}
use Rattle.at_base.specs.declared.epr.Reply.{Reply}
use Rattle.at_base.specs.declared.epr.Reply.TheVariants as replies
use Rattle.model_laws.proofs.DecisionLaws.{DecisionSays, IfThere, either_left}
use Rattle.settling.specs.Load.{request_load, transaction_load}
use Rattle.settling.proofs.Links.{aborts_alone}
use Rattle.settling.proofs.Weights.{left_held, weights_join}

-- the initiator's Commit
root_alone : (phase : Phase) (s : Option Superior) (c : Option Completion) (initiator : Completion) → AreLinked phase s c → c ≡ Some initiator → s ≡ None
root_alone phase None c initiator h e = refl
root_alone phase (Some s) c initiator h e = let f : c ≡ None = h.1 in cc

complete_paid : (P : Prices) (m : Moment) (free : ℕ) (c : Completion) (t : Transaction) → t.completion ≡ Some c → Linked t → is_state c.state states.None ≡ false → 2 ≤ free
    → Acted P m free t (go_volatile m (begin (record t { completion = Some (record c { state = states.Completing }) })))
complete_paid P m free c t e l k h =
    let t1 : Transaction = record t { completion = Some (record c { state = states.Completing }) } in
    let t2 : Transaction = in_phase Phase.Volatile t1 in
    let e1 : worth P m.now (become t2 (begin t1)) + held P m.now t1 ≡ worth P m.now (begin t1) + held P m.now t2 = worth_become P m.now t2 (begin t1) in
    let old : completion_load P t.phase t.completion ≡ P.seat + initiator_rest t.phase c.state = ap (completion_load P t.phase) e in
    go_volatile_paid P m (held P m.now t + free) (request_of t.superior) (begin t1)
    (subst (λ x. AreLinked Phase.Volatile x (Some (record c { state = states.Completing }))) (sym (root_alone t.phase t.superior t.completion c l e)) tt)
    (omega (arith, h, e1, old, worth_begin P m.now t1, some_rest t.phase c.state k)) refl

completion_act_paid : (P : Prices) (m : Moment) (free : ℕ) (from : Option Epr) (i : Option (List ℕ)) (c : Completion) (t : Transaction) (act : Act) → t.completion ≡ Some c → Linked t
    → CompletesAt c.state act → cost act ≤ free → Acted P m free t (completion_act m from i c t act)
unfolding completion_act
completion_act_paid P m free from i c t acts.SendCommitted e l k h =
    posted_paid P m free t (to_each from (λ to. notice_post m.base (targets.Completion t.id) to notices.Committed))
    (to_each_weighs P from (λ to. notice_post m.base (targets.Completion t.id) to notices.Committed) free (λ x. h))
completion_act_paid P m free from i c t acts.FaultUnknownTransaction e l k h = fault_paid P m free t (Some c.initiator) i UnknownTransaction h
completion_act_paid P m free from i c t acts.FaultInvalidState e l k h = fault_paid P m free t (Some c.initiator) i InvalidState h
completion_act_paid P m free from i c t acts.Complete e l k h = complete_paid P m free c t e l k h
completion_act_paid P m free from i c t acts.AbortAndSendAborted e l k h = aborts_alone P m free Alone t
completion_act_paid P m free from i c t other e l k h = ignored_paid P m free t

completion_notice_paid : (P : Prices) (m : Moment) (n : Notice) (from : Option Epr) (i : Option (List ℕ)) (c : Completion) (t : Transaction) (cell : Option Cell) → t.completion ≡ Some c → Linked t
    → CompletesWhere c.state cell → Within n cell → Acted P m (spare n) t (completion_notice m from i c t cell)
unfolding completion_notice
completion_notice_paid P m n from i c t None e l k h = ignored_paid P m (spare n) t
completion_notice_paid P m n from i c t (Some cell) e l k h = completion_act_paid P m (spare n) from i c t cell.act e l k h

pub completion_paid : (P : Prices) (m : Moment) (a : Arrived) (t : Transaction) (c : Completion) (x : Message) → t.completion ≡ Some c → Linked t
    → Acted P m (spends x) t (on_completion m a t c x)
unfolding on_completion
completion_paid P m a t c (messages.Notice n) e l =
    completion_notice_paid P m n a.from a.id c t (completion_of c.state n) e l (seat_completes c.state n) (completion_within c.state n)
completion_paid P m a t c other e l = ignored_paid P m 0 t

-- what is sent again was kept for it
link_again_weighs : (P : Prices) (base : List ℕ) (id : Numbers) (kind : Kind) (r : Option Request) (state : State) (c : Option Epr)
    → weights P (link_again base id kind r (record { state = state; coordinator = c })) ≤ link_repeats P state
link_again_weighs P base id kind r states.Registering c = register_weighs r
  where
    register_weighs : (x : Option Request) → weights P (register_again_at base id kind x) ≤ 10 + P.seat
    register_weighs None = omega arith
    register_weighs (Some x) = omega (arith, weights_one P (link_register base id kind x.registration))
link_again_weighs P base id kind r states.PreparedSuccess c = upwards_weighs P base id kind notices.Prepared (record { state = states.PreparedSuccess; coordinator = c })
link_again_weighs P base id kind r other c = omega arith

links_again_weigh : (P : Prices) (base : List ℕ) (id : Numbers) (s : Option Superior) → weights P (links_again base id s) + links_load P false s ≤ links_load P true s
links_again_weigh P base id None = omega arith
links_again_weigh P base id (Some s) =
    omega (
      arith,
      weights_join P (link_again base id kinds.Volatile s.request s.volatile) (link_again base id kinds.Durable s.request s.durable),
      link_again_weighs P base id kinds.Volatile s.request s.volatile.state s.volatile.coordinator,
      link_again_weighs P base id kinds.Durable s.request s.durable.state s.durable.coordinator,
    )

seat_again_weighs : (P : Prices) (base : List ℕ) (id : Numbers) (s : Enlistment) (state : State) → weights P (seat_again base id s (unanswered_seat state)) ≤ seat_repeats state
seat_again_weighs P base id s states.Preparing = omega (arith, weights_one P (notice_post base (seat_target id s) s.participant notices.Prepare))
seat_again_weighs P base id s states.Committing = omega (arith, weights_one P (notice_post base (seat_target id s) s.participant notices.Commit))
seat_again_weighs P base id s states.Aborting = omega (arith, weights_one P (notice_post base (seat_target id s) s.participant notices.Rollback))
seat_again_weighs P base id s other = omega arith

seats_again_weigh : (P : Prices) (base : List ℕ) (id : Numbers) (seats : List Enlistment) → weights P (seats_again base id seats) + seats_load P false seats ≤ seats_load P true seats
seats_again_weigh P base id [] = omega arith
seats_again_weigh P base id (s ∷ ss) =
    omega (
      arith,
      weights_join P (seat_again base id s (unanswered_seat s.state)) (seats_again base id ss),
      seat_again_weighs P base id s s.state,
      seats_again_weigh P base id ss,
      sum_by-cons (seat_load P false) s ss,
      sum_by-cons (seat_load P true) s ss,
    )

again_paid : (P : Prices) (m : Moment) (t : Transaction) → is_quiet m.now t.sent ≡ true → Acted P m 0 t (Goes (stays (posts (transaction_again m.base t) (begin (sent_now m t)))))
again_paid P m t e =
    let now : held P m.now (sent_now m t) ≡ seats_load P false t.seats + (links_load P false t.superior + completion_load P t.phase t.completion) =
    ap (λ b. seats_load P b t.seats + (links_load P b t.superior + completion_load P t.phase t.completion)) (not_quiet m.now) in
    let old : held P m.now t ≡ seats_load P true t.seats + (links_load P true t.superior + completion_load P t.phase t.completion) =
    ap (λ b. seats_load P b t.seats + (links_load P b t.superior + completion_load P t.phase t.completion)) e in
    stays_paid P m.now (held P m.now t + 0) (request_of t.superior) (posts (transaction_again m.base t) (begin (sent_now m t)))
    (omega (
      arith,
      now,
      old,
      worth_posts P m.now (transaction_again m.base t) (begin (sent_now m t)),
      worth_begin P m.now (sent_now m t),
      weights_join P (links_again m.base t.id t.superior) (seats_again m.base t.id t.seats),
      links_again_weigh P m.base t.id t.superior,
      seats_again_weigh P m.base t.id t.seats,
    )) refl

due_quiet : (a b q s : Bool) → (if a then Expired else if b then Over else if q && s then Unanswered else Nothing) ≡ Unanswered → q ≡ true
due_quiet true b q s e = absurd cc
due_quiet false true q s e = absurd cc
due_quiet false false true s e = refl
due_quiet false false false s e = absurd cc

reached_paid : (P : Prices) (m : Moment) (t : Transaction) (reached : Reached) → (reached ≡ Unanswered → is_quiet m.now t.sent ≡ true) → Acted P m 0 t (transaction_reached m t reached)
unfolding transaction_reached
reached_paid P m t Expired h = aborts_alone P m 0 Alone t
reached_paid P m t Over h = forgotten_paid P m.now (held P m.now t + 0) (request_of t.superior) (begin t) (omega (arith, worth_begin P m.now t))
reached_paid P m t Unanswered h = again_paid P m t (h refl)
reached_paid P m t Nothing h = ignored_paid P m 0 t

pub due_paid : (P : Prices) (m : Moment) (t : Transaction) → Acted P m 0 t (transaction_reached m t (transaction_due m t))
due_paid P m t = reached_paid P m t (transaction_due m t) (due_quiet _ _ _ _)

-- the answer to its request
abbrev pub left_load : Prices → ℕ → Option Transaction → ℕ
left_load P now None = 0
left_load P now (Some t) = transaction_load P now t

pub record Covers (P : Prices) (now limit : ℕ) (c : Change Transaction) : Type 0 where
  pub paid : weights P c.posts + left_load P now c.item ≤ limit

refused_weighs : (P : Prices) (to : Reply) (id : Option (List ℕ)) → weights P (refused_at to id) ≤ 1
refused_weighs P replies.Anonymous id = omega arith
refused_weighs P replies.Nobody id = omega arith
refused_weighs P (replies.At to) id = omega (arith, weights_one P (fault_post (Some to) id CannotCreateContext))

kept_load : (P : Prices) (now limit : ℕ) (r : Option Request) (c : Change Transaction) (o : Option Transaction) → weights P c.posts + left_held P now o ≤ limit → IfThere (Asks r) o
    → weights P c.posts + left_load P now o ≤ limit + request_load r
kept_load P now limit r c None h k = omega (arith, h)
kept_load P now limit r c (Some t) h k = let e : request_load (request_of t.superior) ≡ request_load r = ap request_load k in omega (arith, h, e)

answered_load : (P : Prices) (now : ℕ) (s : Superior) (t : Transaction) → t.superior ≡ Some s → transaction_load P now (under (request_answered s) t) ≡ held P now t
answered_load P now s t e =
    let q : Bool = is_quiet now t.sent in
    let old : links_load P q t.superior ≡ links_load P q (Some s) = ap (links_load P q) e in
    omega (arith, old)

stands_covered : (P : Prices) (m : Moment) (limit : ℕ) (r : Request) (t : Transaction) (s : Superior) (phase : Phase) (c : Change Transaction) → t.superior ≡ Some s
    → weights P c.posts + held P m.now t ≤ limit → weights P c.posts + left_load P m.now c.item ≤ limit + 1 → Covers P m.now (limit + 1) (request_stands m r t s phase c)
stands_covered P m limit r t s Phase.Aborting c e h k =
    record { paid = omega (arith, h, weights_join P c.posts (refused_request r), refused_weighs P r.fault r.id, answered_load P m.now s t e) }
stands_covered P m limit r t s other c e h k =
    let p : Post = reply_post (Some r.reply) r.id (messages.CreateResponse (context_of m.base t r.expires)) in
    either_left (Covers P m.now (limit + 1)) (is_registering s) c (record { item = Some (under (request_answered s) t); posts = c.posts ++ p ∷ []; effects = c.effects })
    (record { paid = k }) (record { paid = omega (arith, h, weights_join P c.posts (p ∷ []), weights_one P p, answered_load P m.now s t e) })

under_covered : (P : Prices) (m : Moment) (limit : ℕ) (r : Request) (t : Transaction) (s : Option Superior) (c : Change Transaction) → t.superior ≡ s
    → weights P c.posts + held P m.now t ≤ limit → weights P c.posts + left_load P m.now c.item ≤ limit + 1 → Covers P m.now (limit + 1) (request_under m r t s c)
under_covered P m limit r t None c e h k = record { paid = k }
under_covered P m limit r t (Some s) c e h k = stands_covered P m limit r t s t.phase c e h k

left_covered : (P : Prices) (m : Moment) (limit : ℕ) (r : Request) (o : Option Transaction) (c : Change Transaction) → weights P c.posts + left_held P m.now o ≤ limit
    → weights P c.posts + left_load P m.now c.item ≤ limit + 1 → Covers P m.now (limit + 1) (request_left m r o c)
left_covered P m limit r None c h k = record { paid = omega (arith, h, weights_join P c.posts (refused_request r), refused_weighs P r.fault r.id) }
left_covered P m limit r (Some t) c h k = under_covered P m limit r t t.superior c refl h k

answer_covered : (P : Prices) (m : Moment) (limit : ℕ) (r : Option Request) (c : Change Transaction) → Affords P m.now limit r c → Covers P m.now (limit + request_load r) (answer_request m r c)
answer_covered P m limit None c h = record { paid = kept_load P m.now limit None c c.item h.paid h.asks }
answer_covered P m limit (Some r) c h = left_covered P m limit r c.item c h.paid (kept_load P m.now limit (Some r) c c.item h.paid h.asks)

pub with_answer_covered : (P : Prices) (m : Moment) (free : ℕ) (t : Transaction) (d : Decision Transaction) → Acted P m free t d
    → DecisionSays (Covers P m.now (transaction_load P m.now t + free)) AnyEntry (with_answer m t d)
with_answer_covered P m free t d h =
    let all : held P m.now t + free + request_load (request_of t.superior) ≡ transaction_load P m.now t + free = omega arith in
    subst (λ n. DecisionSays (Covers P m.now n) AnyEntry (with_answer m t d)) all
    (lifted d h)
  where
    lifted : (x : Decision Transaction) → Acted P m free t x → DecisionSays (Covers P m.now (held P m.now t + free + request_load (request_of t.superior))) AnyEntry (in_both (answer_request m (request_of t.superior)) x)
    lifted (Goes c) k = answer_covered P m (held P m.now t + free) (request_of t.superior) c k
    lifted (Records x c None) k = record { entry = tt; landed = answer_covered P m (held P m.now t + free) (request_of t.superior) c k.landed; otherwise = tt }
    lifted (Records x c (Some z)) k =
        record { entry = tt; landed = answer_covered P m (held P m.now t + free) (request_of t.superior) c k.landed; otherwise = answer_covered P m (held P m.now t + free) (request_of t.superior) z k.otherwise }
