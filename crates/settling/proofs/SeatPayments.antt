-- A transaction pays for what it posts at a message, and when it is due.
use Rattle.std.specs.Prelude.{ℕ, List, [], ◌∷◌, Option, Some, None, Bool, true, false, nat_eq, ◌+◌, if◌then◌else◌, ◌≡◌, ◌≤◌, refl}
use Rattle.std.specs.List.{AllByRecursion}
use Rattle.std.proofs.Common.{arith, ap, ◌∙◌}
use Rattle.std.proofs.lemmas.Bool.{eqb-true}
use Rattle.std.proofs.lemmas.List.Sums.{sum_by-cons}
use Rattle.at_base.specs.declared.fault.Fault.{Fault}
use Rattle.at_base.specs.declared.fault.Fault.TheVariants.{InvalidState, UnknownTransaction}
use Rattle.at_base.specs.declared.epr.Epr.{Epr}
use Rattle.at_base.specs.declared.event.Arrived.{Arrived}
use Rattle.at_base.specs.declared.event.Moment.{Moment}
use Rattle.at_base.specs.declared.message.Message.{Message}
use Rattle.at_base.specs.declared.message.Message.TheVariants as messages
use Rattle.at_base.specs.declared.notice.Notice.{Notice}
use Rattle.at_base.specs.declared.notice.Notice.TheVariants as notices
use Rattle.at_base.specs.declared.outs.Post.{Post}
use Rattle.at_tables.specs.declared.cells.Act.{Act}
use Rattle.at_tables.specs.declared.cells.Act.TheVariants as acts
use Rattle.at_tables.specs.declared.cells.Cell.{Cell}
use Rattle.at_tables.specs.declared.cells.State.{State}
use Rattle.at_tables.specs.declared.cells.State.TheVariants as states
use Rattle.at_tables.specs.Tables.{coordinator_of}
use Rattle.at_model.specs.Abort.{Alone, abort}
use Rattle.at_model.specs.Arrivals.{on_seat, request_of, seat_act, seat_notice}
use Rattle.at_model.specs.Book.{Enlistment, Transaction}
use Rattle.at_model.specs.Due.{is_quiet}
use Rattle.at_model.specs.Moves.{Decision, Goes, become, begin, ignored, post, posts, stays}
use Rattle.at_model.specs.Phases.{advance}
use Rattle.at_model.specs.Posts.{fault_post, notice_post, stranger_post}
use Rattle.at_model.specs.Seats.{in_state, moved, seat_in, seat_target, sent_now}
use Rattle.model_laws.proofs.LinkDecisions.{Linked}
use Rattle.settling.specs.Load.{Prices, again, completion_load, held, links_load, seat_load, seat_repeats, seat_rest, seats_load, weights}
use Rattle.settling.proofs.AbortPayments.{abort_paid}
use Rattle.settling.proofs.Costs.{VotesAt, VotesWhere, Within, coordinator_within, cost, seat_votes, spare}
use Rattle.settling.proofs.PhasePayments.{advance_paid, either}
use Rattle.settling.proofs.Weights.{Affordably, links_less, none_again, not_quiet, seats_less, stays_paid, weights_one, worth_become, worth_begin, worth_post, worth_posts}

-- what the step may come to
abbrev pub Acted : Prices → Moment → ℕ → Transaction → Decision Transaction → Type 0
Acted P m free t d = Affordably P m.now (held P m.now t + free) (request_of t.superior) d

pub ignored_paid : (P : Prices) (m : Moment) (free : ℕ) (t : Transaction) → Acted P m free t (ignored t)
ignored_paid P m free t = stays_paid P m.now (held P m.now t + free) (request_of t.superior) (begin t) (omega (arith, worth_begin P m.now t)) refl

pub sent_less : (P : Prices) (m : Moment) (t : Transaction) → held P m.now (sent_now m t) ≤ held P m.now t
sent_less P m t =
    let q : Bool = is_quiet m.now t.sent in
    let now : held P m.now (sent_now m t) ≡ seats_load P false t.seats + (links_load P false t.superior + completion_load P t.phase t.completion) =
    ap (λ b. seats_load P b t.seats + (links_load P b t.superior + completion_load P t.phase t.completion)) (not_quiet m.now) in
    omega (arith, now, seats_less P q t.seats, links_less P q t.superior)

-- a message that leaves the transaction as it is
pub posted_paid : (P : Prices) (m : Moment) (free : ℕ) (t : Transaction) (ps : List Post) → weights P ps ≤ free → Acted P m free t (Goes (stays (posts ps (begin t))))
posted_paid P m free t ps h =
    stays_paid P m.now (held P m.now t + free) (request_of t.superior) (posts ps (begin t)) (omega (arith, worth_posts P m.now ps (begin t), worth_begin P m.now t, h)) refl

pub fault_paid : (P : Prices) (m : Moment) (free : ℕ) (t : Transaction) (to : Option Epr) (id : Option (List ℕ)) (drawn : Fault) → 1 ≤ free
    → Acted P m free t (Goes (stays (post (fault_post to id drawn) (begin t))))
fault_paid P m free t to id drawn h =
    stays_paid P m.now (held P m.now t + free) (request_of t.superior) (post (fault_post to id drawn) (begin t))
    (omega (arith, worth_post P m.now (fault_post to id drawn) (begin t), worth_begin P m.now t, h)) refl

-- seats
seats_leave : (P : Prices) (q : Bool) (number : ℕ) (seats : List Enlistment) → seats_load P q (moved (λ s. nat_eq s.number number) states.None seats) ≤ seats_load P q seats
seats_leave P q number [] = omega arith
seats_leave P q number (s ∷ ss) = by_test (nat_eq s.number number) (seats_leave P q number ss)
  where
    by_test : (b : Bool) → seats_load P q (moved (λ x. nat_eq x.number number) states.None ss) ≤ seats_load P q ss
        → seats_load P q (record s { state = if b then states.None else s.state } ∷ moved (λ x. nat_eq x.number number) states.None ss) ≤ seats_load P q (s ∷ ss)
    by_test true rest =
        omega (arith, rest, none_again q, sum_by-cons (seat_load P q) (record s { state = states.None }) (moved (λ x. nat_eq x.number number) states.None ss), sum_by-cons (seat_load P q) s ss)
    by_test false rest =
        omega (arith, rest, sum_by-cons (seat_load P q) s (moved (λ x. nat_eq x.number number) states.None ss), sum_by-cons (seat_load P q) s ss)

-- the seats of this number are asked
abbrev pub OnlyOne : Enlistment → List Enlistment → Type 0
OnlyOne s seats = AllByRecursion (λ x. x.number ≡ s.number → x ≡ s) seats

seats_vote : (P : Prices) (q : Bool) (s : Enlistment) (seats : List Enlistment) → OnlyOne s seats → s.state ≡ states.Preparing
    → seats_load P q (moved (λ x. nat_eq x.number s.number) states.Prepared seats) ≤ seats_load P q seats
seats_vote P q s [] only e = omega arith
seats_vote P q s (x ∷ xs) (one, only) e = by_test (nat_eq x.number s.number) refl (seats_vote P q s xs only e)
  where
    by_test : (b : Bool) → nat_eq x.number s.number ≡ b → seats_load P q (moved (λ y. nat_eq y.number s.number) states.Prepared xs) ≤ seats_load P q xs
        → seats_load P q (record x { state = if b then states.Prepared else x.state } ∷ moved (λ y. nat_eq y.number s.number) states.Prepared xs) ≤ seats_load P q (x ∷ xs)
    by_test true f rest =
        let same : x.state ≡ states.Preparing = ap (λ y. y.state) (one (eqb-true x.number s.number f)) ∙ e in
        let asked : seat_load P q x ≡ P.seat + (3 + again q 5) = ap (λ y. P.seat + (seat_rest y + again q (seat_repeats y))) same in
        omega (
          arith,
          rest,
          asked,
          none_again q,
          sum_by-cons (seat_load P q) (record x { state = states.Prepared }) (moved (λ y. nat_eq y.number s.number) states.Prepared xs),
          sum_by-cons (seat_load P q) x xs,
        )
    by_test false f rest =
        omega (arith, rest, sum_by-cons (seat_load P q) x (moved (λ y. nat_eq y.number s.number) states.Prepared xs), sum_by-cons (seat_load P q) x xs)

seat_advances : (P : Prices) (m : Moment) (free number : ℕ) (state : State) (t : Transaction) → Linked t
    → seats_load P (is_quiet m.now t.sent) (moved (λ s. nat_eq s.number number) state t.seats) ≤ seats_load P (is_quiet m.now t.sent) t.seats
    → Acted P m free t (advance m (begin (seat_in number state t)))
seat_advances P m free number state t l h =
    advance_paid P m t.phase (held P m.now t + free) (request_of t.superior) (begin (seat_in number state t)) refl l (omega (arith, worth_begin P m.now (seat_in number state t), h)) refl

seat_aborts : (P : Prices) (m : Moment) (free number : ℕ) (t : Transaction) → Acted P m free t (Goes (abort m Alone (begin (seat_in number states.None t))))
seat_aborts P m free number t =
    abort_paid P m Alone (held P m.now t + free) (request_of t.superior) (begin (seat_in number states.None t))
    (omega (arith, worth_begin P m.now (seat_in number states.None t), seats_leave P (is_quiet m.now t.sent) number t.seats)) refl

-- an answer on behalf of a seat
answered_paid : (P : Prices) (m : Moment) (free : ℕ) (t : Transaction) (s : Enlistment) (n : Notice) → weights P (notice_post m.base (seat_target t.id s) s.participant n ∷ []) ≤ free
    → Acted P m free t (Goes (stays (post (notice_post m.base (seat_target t.id s) s.participant n) (become (sent_now m t) (begin t)))))
answered_paid P m free t s n h =
    let p : Post = notice_post m.base (seat_target t.id s) s.participant n in
    stays_paid P m.now (held P m.now t + free) (request_of t.superior) (post p (become (sent_now m t) (begin t)))
    (omega (arith, h, weights_one P p, worth_post P m.now p (become (sent_now m t) (begin t)), worth_become P m.now (sent_now m t) (begin t), worth_begin P m.now t, sent_less P m t)) refl

stranger_paid : (P : Prices) (m : Moment) (free : ℕ) (t : Transaction) (s : Enlistment) → 3 ≤ free
    → Acted P m free t (Goes (stays (post (stranger_post m.base (seat_target t.id s) s.participant notices.Rollback) (begin t))))
stranger_paid P m free t s h =
    let p : Post = stranger_post m.base (seat_target t.id s) s.participant notices.Rollback in
    stays_paid P m.now (held P m.now t + free) (request_of t.superior) (post p (begin t)) (omega (arith, h, worth_post P m.now p (begin t), worth_begin P m.now t)) refl

seat_act_paid : (P : Prices) (m : Moment) (free : ℕ) (i : Option (List ℕ)) (t : Transaction) (s : Enlistment) (act : Act) → Linked t → OnlyOne s t.seats → VotesAt s.state act
    → cost act ≤ free → Acted P m free t (seat_act m i t s act)
unfolding seat_act
seat_act_paid P m free i t s acts.SendCommit l only v h = answered_paid P m free t s notices.Commit (omega (arith, h, weights_one P (notice_post m.base (seat_target t.id s) s.participant notices.Commit)))
seat_act_paid P m free i t s acts.SendRollback l only v h =
    either P m.now (held P m.now t + free) (request_of t.superior) (in_state states.None s) _ _ (λ k. stranger_paid P m free t s h)
    (λ k. answered_paid P m free t s notices.Rollback (omega (arith, h, weights_one P (notice_post m.base (seat_target t.id s) s.participant notices.Rollback))))
seat_act_paid P m free i t s acts.FaultUnknownTransaction l only v h = fault_paid P m free t (Some s.participant) i UnknownTransaction h
seat_act_paid P m free i t s acts.FaultInvalidState l only v h = fault_paid P m free t (Some s.participant) i InvalidState h
seat_act_paid P m free i t s acts.FaultInvalidStateAndAbort l only v h =
    let p : Post = fault_post (Some s.participant) i InvalidState in
    abort_paid P m Alone (held P m.now t + free) (request_of t.superior) (post p (begin t)) (omega (arith, h, worth_post P m.now p (begin t), worth_begin P m.now t)) refl
seat_act_paid P m free i t s acts.Leave l only v h = seat_advances P m free s.number states.None t l (seats_leave P (is_quiet m.now t.sent) s.number t.seats)
seat_act_paid P m free i t s acts.LeaveAndAbort l only v h = seat_aborts P m free s.number t
seat_act_paid P m free i t s acts.Vote l only v h = seat_advances P m free s.number states.Prepared t l (seats_vote P (is_quiet m.now t.sent) s t.seats only v)
seat_act_paid P m free i t s other l only v h = ignored_paid P m free t

seat_notice_paid : (P : Prices) (m : Moment) (n : Notice) (i : Option (List ℕ)) (t : Transaction) (s : Enlistment) (c : Option Cell) → Linked t → OnlyOne s t.seats
    → VotesWhere s.state c → Within n c → Acted P m (spare n) t (seat_notice m i t s c)
unfolding seat_notice
seat_notice_paid P m n i t s None l only v h = ignored_paid P m (spare n) t
seat_notice_paid P m n i t s (Some c) l only v h = seat_act_paid P m (spare n) i t s c.act l only v h

-- what a message may spend
abbrev pub spends : Message → ℕ
spends (messages.Notice n) = spare n
spends other = 0

pub seat_paid : (P : Prices) (m : Moment) (a : Arrived) (t : Transaction) (s : Enlistment) (x : Message) → Linked t → OnlyOne s t.seats → Acted P m (spends x) t (on_seat m a t s x)
unfolding on_seat
seat_paid P m a t s (messages.Notice n) l only =
    seat_notice_paid P m n a.id t s (coordinator_of s.kind s.state n) l only (seat_votes s.kind s.state n) (coordinator_within s.kind s.state n)
seat_paid P m a t s other l only = ignored_paid P m 0 t
