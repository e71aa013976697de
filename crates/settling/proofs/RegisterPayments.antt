-- A Register pays for its answer and for the seat that it takes; and a message pays for what is answered where nothing moves.
use Rattle.std.specs.Prelude.{ℕ, List, [], ◌∷◌, ◌++◌, Option, Some, None, Bool, true, false, not, ◌+◌, if◌then◌else◌, map, length, ◌≡◌, ◌≤◌, refl}
use Rattle.std.proofs.Common.{arith, ap, inl, inr, ◌∙◌}
use Rattle.std.proofs.lemmas.List.Sums.{sum_by_push}
use Rattle.at_base.specs.declared.fault.Fault.{Fault}
use Rattle.at_base.specs.declared.fault.Fault.TheVariants.{CannotRegisterParticipant, InvalidParameters, InvalidProtocol, InvalidState, UnknownTransaction}
use Rattle.at_base.specs.declared.epr.Epr.{Epr}
use Rattle.at_base.specs.declared.epr.Reply.{Reply}
use Rattle.at_base.specs.declared.epr.Reply.TheVariants as replies
use Rattle.at_base.specs.declared.event.Arrived.{Arrived}
use Rattle.at_base.specs.declared.event.Moment.{Moment}
use Rattle.at_base.specs.declared.message.Message.TheVariants as messages
use Rattle.at_base.specs.declared.message.Register.{Register}
use Rattle.at_base.specs.declared.notice.Kind.{Kind}
use Rattle.at_base.specs.declared.notice.Notice.{Notice}
use Rattle.at_base.specs.declared.notice.Notice.TheVariants as notices
use Rattle.at_base.specs.declared.outs.Out.{Out}
use Rattle.at_base.specs.declared.outs.Out.TheVariants as outs
use Rattle.at_base.specs.declared.outs.Post.{Post}
use Rattle.at_base.specs.declared.target.Target.{Target}
use Rattle.at_base.specs.declared.target.Target.TheVariants as targets
use Rattle.at_tables.specs.declared.cells.Act.{Act}
use Rattle.at_tables.specs.declared.cells.Act.TheVariants as acts
use Rattle.at_tables.specs.declared.cells.Cell.{Cell}
use Rattle.at_tables.specs.declared.cells.State.TheVariants as states
use Rattle.at_model.specs.Book.{Enlistment, Phase, Transaction}
use Rattle.at_model.specs.Due.{is_quiet}
use Rattle.at_model.specs.Posts.{accepted, fault_post, faulted, notice_post, replied, reply_post, stranger_post}
use Rattle.at_model.specs.Register.{Registration, accept, completion_endpoint, held_seat, is_late, late_prepare, may_register, on_register, protocol_named, refuse_register, register_again, register_new, register_unknown, registered_reply, seat_endpoint}
use Rattle.at_model.specs.Seats.{seat_target}
use Rattle.at_model.specs.Step.{outcome_act, outcome_cell, stranger_act, stranger_cell}
use Rattle.model_laws.proofs.DecisionLaws.{either_of}
use Rattle.model_laws.specs.Shapes.{IsAnswer, unknown_cell}
use Rattle.settling.specs.Load.{Prices, completion_load, held, initiator_rest, links_load, posts_in, seat_load, seats_load, transaction_load, weights}
use Rattle.settling.proofs.AbortPayments.{to_each_weighs}
use Rattle.settling.proofs.Costs.{Within, completion_within, coordinator_within, cost, initiator_within, participant_within, spare}
use Rattle.settling.proofs.Weights.{links_less, none_again, not_quiet, seats_less, weights_join, weights_one}

-- what of the outs is posted
pub posts_join : (xs ys : List Out) → posts_in (xs ++ ys) ≡ posts_in xs ++ posts_in ys
posts_join [] ys = refl
posts_join (outs.Post p ∷ xs) ys = ap (λ l. p ∷ l) (posts_join xs ys)
posts_join (outs.Answer status reply ∷ xs) ys = posts_join xs ys

pub posts_of : (ps : List Post) → posts_in (map outs.Post ps) ≡ ps
posts_of [] = refl
posts_of (p ∷ ps) = ap (λ l. p ∷ l) (posts_of ps)

pub answer_posts : (answer : List Out) → IsAnswer answer → posts_in answer ≡ []
answer_posts answer (inl e) = ap posts_in e
answer_posts answer (inr e) = ap posts_in e

pub answer_weighs : (P : Prices) (answer : List Out) (ps : List Post) → IsAnswer answer → weights P (posts_in (answer ++ map outs.Post ps)) ≡ weights P ps
answer_weighs P answer ps h =
    ap (weights P) (posts_join answer (map outs.Post ps)) ∙ ap (λ l. weights P (l ++ posts_in (map outs.Post ps))) (answer_posts answer h) ∙ ap (weights P) (posts_of ps)

replied_weighs : (P : Prices) (to : Reply) (i : Option (List ℕ)) (coordinator : Epr) → weights P (posts_in (replied to i (messages.RegisterResponse coordinator))) ≤ 1
replied_weighs P replies.Anonymous i coordinator = omega arith
replied_weighs P replies.Nobody i coordinator = omega arith
replied_weighs P (replies.At to) i coordinator = omega (arith, weights_one P (reply_post (Some to) i (messages.RegisterResponse coordinator)))

faulted_weighs : (P : Prices) (to : Reply) (i : Option (List ℕ)) (drawn : Fault) → weights P (posts_in (faulted to i drawn)) ≤ 1
faulted_weighs P replies.Anonymous i drawn = omega arith
faulted_weighs P replies.Nobody i drawn = omega arith
faulted_weighs P (replies.At to) i drawn = omega (arith, weights_one P (fault_post (Some to) i drawn))

-- what a Register gives is within the limit
pub record RegisterCovers (P : Prices) (now limit : ℕ) (g : Registration) : Type 0 where
  pub paid : weights P (posts_in g.outs) + transaction_load P now g.transaction ≤ limit

abbrev pub Enrolled : Prices → Moment → Transaction → Registration → Type 0
Enrolled P m t g = RegisterCovers P m.now (transaction_load P m.now t + (9 + P.seat)) g

refused_paid : (P : Prices) (m : Moment) (a : Arrived) (t : Transaction) (drawn : Fault) → Enrolled P m t (refuse_register a t drawn)
refused_paid P m a t drawn = record { paid = omega (arith, faulted_weighs P a.fault a.id drawn) }

repeated_paid : (P : Prices) (m : Moment) (a : Arrived) (t : Transaction) (coordinator : Epr) → Enrolled P m t (record { transaction = t; outs = registered_reply a coordinator })
repeated_paid P m a t coordinator = record { paid = omega (arith, replied_weighs P a.reply a.id coordinator) }

-- a new seat is Active, or asked at once
seat_paid : (P : Prices) (m : Moment) (a : Arrived) (t : Transaction) (number : ℕ) (kind : Kind) (participant : Epr) (late : Bool)
    → let s : Enlistment = record { number = number; kind = kind; participant = participant; state = if late then states.Preparing else states.Active } in
    weights P (posts_in (registered_reply a (seat_endpoint m.base t.id s) ++ late_prepare m t.id late s))
    + transaction_load P m.now (record t { seats = t.seats ++ s ∷ []; sent = if late then Some m.now else t.sent }) ≤ transaction_load P m.now t + (9 + P.seat)
seat_paid P m a t number kind participant true =
    let q : Bool = is_quiet m.now t.sent in
    let s : Enlistment = record { number = number; kind = kind; participant = participant; state = states.Preparing } in
    let reply : List Out = registered_reply a (seat_endpoint m.base t.id s) in
    let p : Post = notice_post m.base (seat_target t.id s) s.participant notices.Prepare in
    let new : held P m.now (record t { seats = t.seats ++ s ∷ []; sent = Some m.now })
    ≡ seats_load P false (t.seats ++ s ∷ []) + (links_load P false t.superior + completion_load P t.phase t.completion) =
    ap (λ b. seats_load P b (t.seats ++ s ∷ []) + (links_load P b t.superior + completion_load P t.phase t.completion)) (not_quiet m.now) in
    let out : weights P (posts_in (reply ++ outs.Post p ∷ [])) ≡ weights P (posts_in reply ++ p ∷ []) = ap (weights P) (posts_join reply (outs.Post p ∷ [])) in
    omega (
      arith,
      new,
      out,
      weights_join P (posts_in reply) (p ∷ []),
      weights_one P p,
      replied_weighs P a.reply a.id (seat_endpoint m.base t.id s),
      sum_by_push (seat_load P false) t.seats s,
      seats_less P q t.seats,
      links_less P q t.superior,
    )
seat_paid P m a t number kind participant false =
    let q : Bool = is_quiet m.now t.sent in
    let s : Enlistment = record { number = number; kind = kind; participant = participant; state = states.Active } in
    let reply : List Out = registered_reply a (seat_endpoint m.base t.id s) in
    let out : weights P (posts_in (reply ++ [])) ≡ weights P (posts_in reply ++ []) = ap (weights P) (posts_join reply []) in
    omega (arith, out, weights_join P (posts_in reply) [], replied_weighs P a.reply a.id (seat_endpoint m.base t.id s), sum_by_push (seat_load P q) t.seats s, none_again q)

initiator_most : (phase : Phase) → initiator_rest phase states.Active ≤ 4
initiator_most Phase.Aborting = omega arith
initiator_most Phase.Committing = omega arith
initiator_most other = omega arith

accept_paid : (P : Prices) (m : Moment) (a : Arrived) (t : Transaction) (participant : Epr) (kind : Option Kind) → Enrolled P m t (accept m a t participant kind)
unfolding accept
accept_paid P m a t participant (Some kind) = record { paid = seat_paid P m a t (length t.seats + 1) kind participant (is_late t.phase kind) }
accept_paid P m a t participant None =
    record { paid = omega (arith, replied_weighs P a.reply a.id (completion_endpoint m.base t.id), initiator_most t.phase) }

new_paid : (P : Prices) (m : Moment) (a : Arrived) (r : Register) (t : Transaction) (kind : Option (Option Kind)) → Enrolled P m t (register_new m a r t kind)
unfolding register_new
new_paid P m a r t None = refused_paid P m a t InvalidProtocol
new_paid P m a r t (Some kind) =
    either_of (Enrolled P m t) (not a.postable) (refuse_register a t InvalidParameters) (if may_register t kind then accept m a t r.participant kind else refuse_register a t CannotRegisterParticipant)
    (λ k. refused_paid P m a t InvalidParameters)
    (λ k. either_of (Enrolled P m t) (may_register t kind) (accept m a t r.participant kind) (refuse_register a t CannotRegisterParticipant)
    (λ j. accept_paid P m a t r.participant kind) (λ j. refused_paid P m a t CannotRegisterParticipant))

again_paid : (P : Prices) (m : Moment) (a : Arrived) (r : Register) (t : Transaction) (kind : Option (Option Kind)) (o : Option Epr) → Enrolled P m t (register_again m a r t kind o)
unfolding register_again
again_paid P m a r t kind (Some coordinator) = repeated_paid P m a t coordinator
again_paid P m a r t kind None = new_paid P m a r t kind

pub register_paid : (P : Prices) (m : Moment) (a : Arrived) (r : Register) (t : Transaction) → Enrolled P m t (on_register m a r t)
unfolding on_register
register_paid P m a r t = again_paid P m a r t (protocol_named r.protocol) (held_seat m r t (protocol_named r.protocol))

pub unknown_weighs : (P : Prices) (a : Arrived) (r : Register) (kind : Option (Option Kind)) → weights P (posts_in (register_unknown a r kind)) ≤ 1
unfolding register_unknown
unknown_weighs P a r None = faulted_weighs P a.fault a.id InvalidProtocol
unknown_weighs P a r (Some kind) = faulted_weighs P a.fault a.id (if a.postable then CannotRegisterParticipant else InvalidParameters)

-- what is answered where nothing is known
stranger_weighs : (P : Prices) (base : List ℕ) (own : Target) (from : Option Epr) (i : Option (List ℕ)) (act : Act) → weights P (stranger_act base own from i act) ≤ cost act
stranger_weighs P base own from i acts.SendRollback = to_each_weighs P from (λ to. stranger_post base own to notices.Rollback) 3 (λ x. omega arith)
stranger_weighs P base own from i acts.SendCommitted = to_each_weighs P from (λ to. stranger_post base own to notices.Committed) 2 (λ x. omega arith)
stranger_weighs P base own from i acts.SendAborted = to_each_weighs P from (λ to. stranger_post base own to notices.Aborted) 2 (λ x. omega arith)
stranger_weighs P base own from i acts.FaultUnknownTransaction = to_each_weighs P from (λ to. fault_post (Some to) i UnknownTransaction) 1 (λ x. omega arith)
stranger_weighs P base own from i other = omega arith

strangers_weigh : (P : Prices) (base : List ℕ) (own : Target) (from : Option Epr) (i : Option (List ℕ)) (n : Notice) (c : Option Cell) → Within n c
    → weights P (stranger_cell base own from i c) ≤ spare n
strangers_weigh P base own from i n None h = omega arith
strangers_weigh P base own from i n (Some c) h = omega (arith, h, stranger_weighs P base own from i c.act)

unknown_within : (own : Target) (n : Notice) → Within n (unknown_cell own n)
unknown_within (targets.Completion id) n = completion_within states.None n
unknown_within (targets.Coordinator id seat) n = coordinator_within seat.kind states.None n
unknown_within (targets.Participant id kind) n = participant_within kind states.None n
unknown_within (targets.Initiator id) n = initiator_within states.None n
unknown_within other n = tt

pub unknown_paid : (P : Prices) (base : List ℕ) (own : Target) (from : Option Epr) (i : Option (List ℕ)) (n : Notice)
    → weights P (posts_in (accepted ++ map outs.Post (stranger_cell base own from i (unknown_cell own n)))) ≤ spare n
unknown_paid P base own from i n =
    omega (arith, answer_weighs P accepted (stranger_cell base own from i (unknown_cell own n)) (inr refl), strangers_weigh P base own from i n (unknown_cell own n) (unknown_within own n))

-- what is answered where a root has committed
outcome_weighs : (P : Prices) (base : List ℕ) (own : Target) (from : Option Epr) (i : Option (List ℕ)) (act : Act) → weights P (outcome_act base own from i act) ≤ cost act
outcome_weighs P base own from i acts.SendCommitted = to_each_weighs P from (λ to. notice_post base own to notices.Committed) 2 (λ x. omega arith)
outcome_weighs P base own from i acts.FaultInvalidState = to_each_weighs P from (λ to. fault_post (Some to) i InvalidState) 1 (λ x. omega arith)
outcome_weighs P base own from i other = omega arith

outcomes_weigh : (P : Prices) (base : List ℕ) (own : Target) (from : Option Epr) (i : Option (List ℕ)) (n : Notice) (c : Option Cell) → Within n c
    → weights P (outcome_cell base own from i c) ≤ spare n
outcomes_weigh P base own from i n None h = omega arith
outcomes_weigh P base own from i n (Some c) h = omega (arith, h, outcome_weighs P base own from i c.act)

pub outcome_paid : (P : Prices) (base : List ℕ) (own : Target) (from : Option Epr) (i : Option (List ℕ)) (n : Notice) (c : Option Cell) → Within n c
    → weights P (posts_in (accepted ++ map outs.Post (outcome_cell base own from i c))) ≤ spare n
outcome_paid P base own from i n c h = omega (arith, answer_weighs P accepted (outcome_cell base own from i c) (inr refl), outcomes_weigh P base own from i n c h)
