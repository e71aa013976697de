-- A subordinate pays for what it posts at a message on one of its links.
use Rattle.std.specs.Prelude.{ℕ, List, [], ◌∷◌, Option, Some, None, Bool, ◌+◌, ◌&&◌, ◌≡◌, ◌≤◌, refl}
use Rattle.std.proofs.Common.{arith, sym, subst, ap, inl, inr, ◌∙◌}
use Rattle.at_base.specs.declared.fault.Fault.TheVariants.{InvalidState}
use Rattle.at_base.specs.declared.epr.Epr.{Epr}
use Rattle.at_base.specs.declared.event.Arrived.{Arrived}
use Rattle.at_base.specs.declared.event.Moment.{Moment}
use Rattle.at_base.specs.declared.message.Message.{Message}
use Rattle.at_base.specs.declared.message.Message.TheVariants as messages
use Rattle.at_base.specs.declared.notice.Kind.{Kind}
use Rattle.at_base.specs.declared.notice.Kind.TheVariants as kinds
use Rattle.at_base.specs.declared.notice.Notice.{Notice}
use Rattle.at_base.specs.declared.notice.Notice.TheVariants as notices
use Rattle.at_base.specs.declared.outs.Ending.TheVariants as endings
use Rattle.at_base.specs.declared.outs.Post.{Post}
use Rattle.at_base.specs.declared.target.Target.TheVariants as targets
use Rattle.at_tables.specs.declared.cells.Act.{Act}
use Rattle.at_tables.specs.declared.cells.Act.TheVariants as acts
use Rattle.at_tables.specs.declared.cells.Cell.{Cell}
use Rattle.at_tables.specs.declared.cells.State.TheVariants as states
use Rattle.at_tables.specs.Names.{is_state}
use Rattle.at_tables.specs.Tables.{participant_of}
use Rattle.at_model.specs.Abort.{Alone, Asked, Faulted, Reason, abort}
use Rattle.endpoints.specs.Addresses.{register_id}
use Rattle.at_model.specs.Arrivals.{asked, commit_voted, link_act, link_fault, link_notice, link_registered, on_link, registered, relates_to, request_of}
use Rattle.at_model.specs.Book.{Link, Phase, Request, Superior, Transaction}
use Rattle.at_model.specs.Due.{is_quiet}
use Rattle.at_model.specs.Moves.{Goes, Moving, become, begin, effect, ignored, posts, stays}
use Rattle.at_model.specs.Phases.{commit_seats, go_volatile, upwards}
use Rattle.at_model.specs.Posts.{fault_post, stored_or, stranger_post, to_each}
use Rattle.at_model.specs.Seats.{ending, in_phase, in_state, link_in, link_of, sent_now, set_link, under}
use Rattle.model_laws.specs.Links.{AreIn, IsJoining}
use Rattle.model_laws.proofs.ParticipantTable.{ActsAt, CellAt, table_acts}
use Rattle.model_laws.proofs.DecisionLaws.{first_true}
use Rattle.model_laws.proofs.LinkDecisions.{Linked, has_voted, known}
use Rattle.settling.specs.Load.{Prices, completion_load, held, link_load, links_load, weights}
use Rattle.settling.proofs.AbortPayments.{abort_paid, commit_price, to_each_weighs, upwards_weighs}
use Rattle.settling.proofs.Costs.{Within, cost, participant_within, spare}
use Rattle.settling.proofs.Entries.{state_is}
use Rattle.settling.proofs.PhasePayments.{either, go_volatile_paid, link_at, no_completion}
use Rattle.settling.proofs.Weights.{less_again, none_again, stays_paid, weights_one, worth, worth_become, worth_begin, worth_effect, worth_posts, worth_sent}
use Rattle.settling.proofs.SeatPayments.{Acted, ignored_paid, posted_paid, sent_less, spends}

-- what goes to the superior, or to the From of its message
pub told_weighs : (P : Prices) (link : Link) (from : Option Epr) (f : Epr → Post) (n : ℕ) → ((x : Epr) → weights P (f x ∷ []) ≤ n) → weights P (to_each (stored_or link.coordinator from) f) ≤ n
told_weighs P link from f n h = to_each_weighs P (stored_or link.coordinator from) f n (λ x. omega (arith, h x, weights_one P (f x)))

asks_on : (r : Option Request) (s : Superior) (t : Transaction) → t.superior ≡ Some s → r ≡ request_of t.superior → s.request ≡ r
asks_on r s t e k = sym (k ∙ ap request_of e)

-- a subordinate that was told to commit
commit_paid : (P : Prices) (m : Moment) (free : ℕ) (s : Superior) (t : Transaction) → t.superior ≡ Some s → s.durable.state ≡ states.PreparedSuccess → t.completion ≡ None
    → Acted P m free t (commit_voted m s t)
unfolding commit_voted
commit_paid P m free s t e d c =
    let q : Bool = is_quiet m.now t.sent in
    let new : Transaction = record t { superior = Some (link_in kinds.Durable states.Committing s); phase = Phase.Committing } in
    let g1 : Moving Transaction = effect (ending t endings.Committed) (begin t) in
    let g2 : Moving Transaction = become new g1 in
    let e1 : worth P m.now g1 ≡ worth P m.now (begin t) = worth_effect P m.now (ending t endings.Committed) (begin t) in
    let e2 : worth P m.now g2 + held P m.now t ≡ worth P m.now g1 + held P m.now new = worth_become P m.now new g1 in
    let e3 : worth P m.now (commit_seats m g2) ≤ worth P m.now g2 = worth_sent P m notices.Commit states.Committing (in_state states.Prepared) g2 (commit_price q) in
    let old : links_load P q t.superior ≡ link_load P q s.volatile + link_load P q s.durable = ap (links_load P q) e in
    record {
      entry = tt;
      landed = stays_paid P m.now (held P m.now t + free) (request_of t.superior) (commit_seats m g2)
          (omega (arith, e1, e2, e3, old, worth_begin P m.now t, link_at P q s.durable states.PreparedSuccess d, less_again q 4, none_again q, no_completion P Phase.Committing t.completion c))
          (asks_on (request_of t.superior) s t e refl);
      otherwise = tt;
    }

-- a link that asks
asked_load : (P : Prices) (q : Bool) (kind : Kind) (s : Superior) → (link_of kind s).state ≡ states.Active → links_load P q (Some (asked kind s)) ≤ links_load P q (Some s) + 4
asked_load P q kinds.Volatile s e = omega (arith, link_at P q s.volatile states.Active e, none_again q)
asked_load P q kinds.Durable s e = omega (arith, link_at P q s.durable states.Active e, none_again q)

asked_request : (kind : Kind) (s : Superior) → (asked kind s).request ≡ s.request
asked_request kinds.Volatile s = refl
asked_request kinds.Durable s = refl

-- it asks its own participants in turn, with its links in the phase of asking
gather_paid : (P : Prices) (m : Moment) (free : ℕ) (kind : Kind) (s : Superior) (t : Transaction) → t.superior ≡ Some s → t.completion ≡ None → (link_of kind s).state ≡ states.Active
    → AreIn Phase.Volatile (asked kind s).volatile.state (asked kind s).durable.state → 4 ≤ free → Acted P m free t (go_volatile m (begin (under (asked kind s) t)))
gather_paid P m free kind s t e c k a h =
    let q : Bool = is_quiet m.now t.sent in
    let t1 : Transaction = under (asked kind s) t in
    let t2 : Transaction = in_phase Phase.Volatile t1 in
    let e1 : worth P m.now (become t2 (begin t1)) + held P m.now t1 ≡ worth P m.now (begin t1) + held P m.now t2 = worth_become P m.now t2 (begin t1) in
    let old : links_load P q t.superior ≡ links_load P q (Some s) = ap (links_load P q) e in
    let no : completion_load P Phase.Volatile t.completion ≡ 0 = no_completion P Phase.Volatile t.completion c in
    go_volatile_paid P m (held P m.now t + free) (request_of t.superior) (begin t1) (a, c)
    (omega (arith, h, e1, old, no, worth_begin P m.now t1, asked_load P q kind s k)) (asked_request kind s ∙ asks_on (request_of t.superior) s t e refl)

-- While a volatile link is Active, the durable one isn't asked.
unasked : (phase : Phase) (s : Superior) → AreIn phase s.volatile.state s.durable.state → s.volatile.state ≡ states.Active → IsJoining s.durable.state
unasked Phase.Registering s (v, d) e = d
unasked Phase.Active s (v, d) e = d
unasked Phase.Volatile s (inl (v, d)) e = d
unasked Phase.Volatile s (inr (v, d)) e = absurd cc
unasked Phase.Durable s (v, d) e = absurd cc
unasked Phase.Voted s (v, d) e = absurd cc
unasked Phase.Committing s (v, d) e = absurd cc
unasked Phase.Aborting s (v, d) e = absurd cc

asked_in : (phase : Phase) (kind : Kind) (s : Superior) → AreIn phase s.volatile.state s.durable.state → (link_of kind s).state ≡ states.Active
    → AreIn Phase.Volatile (asked kind s).volatile.state (asked kind s).durable.state
asked_in phase kinds.Volatile s h e = inl (refl, unasked phase s h e)
asked_in phase kinds.Durable s h e = inr (refl, refl)

-- where a link is PreparedSuccess, the durable one is
durable_voted : (phase : Phase) (kind : Kind) (s : Superior) → AreIn phase s.volatile.state s.durable.state → (link_of kind s).state ≡ states.PreparedSuccess
    → s.durable.state ≡ states.PreparedSuccess
durable_voted phase kind s h e =
    let k : AreIn Phase.Voted s.volatile.state s.durable.state = subst (λ p. AreIn p s.volatile.state s.durable.state) (has_voted phase kind s h e) h in
    k.1

link_aborts : (P : Prices) (m : Moment) (free : ℕ) (reason : Reason) (t : Transaction) (ps : List Post) → weights P ps ≤ free → Acted P m free t (Goes (abort m reason (posts ps (begin t))))
link_aborts P m free reason t ps h =
    abort_paid P m reason (held P m.now t + free) (request_of t.superior) (posts ps (begin t)) (omega (arith, h, worth_posts P m.now ps (begin t), worth_begin P m.now t)) refl

pub aborts_alone : (P : Prices) (m : Moment) (free : ℕ) (reason : Reason) (t : Transaction) → Acted P m free t (Goes (abort m reason (begin t)))
aborts_alone P m free reason t = abort_paid P m reason (held P m.now t + free) (request_of t.superior) (begin t) (omega (arith, worth_begin P m.now t)) refl

-- it says again that it has voted
prepared_again : (P : Prices) (m : Moment) (free : ℕ) (t : Transaction) (ps : List Post) → weights P ps ≤ free → Acted P m free t (Goes (stays (posts ps (become (sent_now m t) (begin t)))))
prepared_again P m free t ps h =
    stays_paid P m.now (held P m.now t + free) (request_of t.superior) (posts ps (become (sent_now m t) (begin t)))
    (omega (arith, h, worth_posts P m.now ps (become (sent_now m t) (begin t)), worth_become P m.now (sent_now m t) (begin t), worth_begin P m.now t, sent_less P m t)) refl

-- notifications and faults that go to the superior
told_paid : (P : Prices) (m : Moment) (free : ℕ) (t : Transaction) (link : Link) (from : Option Epr) (f : Epr → Post) → ((x : Epr) → weights P (f x ∷ []) ≤ free)
    → Acted P m free t (Goes (stays (posts (to_each (stored_or link.coordinator from) f) (begin t))))
told_paid P m free t link from f h = posted_paid P m free t (to_each (stored_or link.coordinator from) f) (told_weighs P link from f free h)

link_act_paid : (P : Prices) (m : Moment) (free : ℕ) (from : Option Epr) (i : Option (List ℕ)) (kind : Kind) (s : Superior) (t : Transaction) (act : Act) → t.superior ≡ Some s → Linked t
    → ActsAt (link_of kind s).state act → cost act ≤ free → Acted P m free t (link_act m from i kind s t act)
unfolding link_act
link_act_paid P m free from i kind s t acts.SendPrepared e l k h =
    prepared_again P m free t (upwards m.base t.id kind notices.Prepared (link_of kind s)) (omega (arith, h, upwards_weighs P m.base t.id kind notices.Prepared (link_of kind s)))
link_act_paid P m free from i kind s t acts.SendCommitted e l k h =
    told_paid P m free t (link_of kind s) from (λ to. stranger_post m.base (targets.Participant t.id kind) to notices.Committed)
    (λ x. omega (arith, h, weights_one P (stranger_post m.base (targets.Participant t.id kind) x notices.Committed)))
link_act_paid P m free from i kind s t acts.SendAborted e l k h =
    told_paid P m free t (link_of kind s) from (λ to. stranger_post m.base (targets.Participant t.id kind) to notices.Aborted)
    (λ x. omega (arith, h, weights_one P (stranger_post m.base (targets.Participant t.id kind) x notices.Aborted)))
link_act_paid P m free from i kind s t acts.FaultInvalidState e l k h =
    told_paid P m free t (link_of kind s) from (λ to. fault_post (Some to) i InvalidState) (λ x. omega (arith, h, weights_one P (fault_post (Some x) i InvalidState)))
link_act_paid P m free from i kind s t acts.FaultInvalidStateAndAbort e l k h =
    link_aborts P m free (Faulted kind) t (to_each (stored_or (link_of kind s).coordinator from) (λ to. fault_post (Some to) i InvalidState))
    (told_weighs P (link_of kind s) from (λ to. fault_post (Some to) i InvalidState) free (λ x. omega (arith, h, weights_one P (fault_post (Some x) i InvalidState))))
link_act_paid P m free from i kind s t acts.Gather e l k h = gather_paid P m free kind s t e (known t s e l).1 k (asked_in t.phase kind s (known t s e l).0 k) h
link_act_paid P m free from i kind s t acts.Commit e l k h = commit_paid P m free s t e (durable_voted t.phase kind s (known t s e l).0 k) (known t s e l).1
link_act_paid P m free from i kind s t acts.AbortAndSendAborted e l k h = aborts_alone P m free (Asked kind from) t
link_act_paid P m free from i kind s t acts.RecordAndSendAborted e l k h = record { entry = tt; landed = aborts_alone P m free (Asked kind from) t; otherwise = tt }
link_act_paid P m free from i kind s t other e l k h = ignored_paid P m free t

link_notice_paid : (P : Prices) (m : Moment) (n : Notice) (from : Option Epr) (i : Option (List ℕ)) (kind : Kind) (s : Superior) (t : Transaction) (c : Option Cell) → t.superior ≡ Some s → Linked t
    → CellAt (link_of kind s).state c → Within n c → Acted P m (spare n) t (link_notice m from i kind s t c)
unfolding link_notice
link_notice_paid P m n from i kind s t None e l k h = ignored_paid P m (spare n) t
link_notice_paid P m n from i kind s t (Some c) e l k h = link_act_paid P m (spare n) from i kind s t c.act e l k h

-- a link that is registered
abbrev joined : Kind → Epr → Superior → Superior
joined kind coordinator s = set_link kind (record { state = states.Active; coordinator = Some coordinator }) s

joined_load : (P : Prices) (q : Bool) (kind : Kind) (coordinator : Epr) (s : Superior) → (link_of kind s).state ≡ states.Registering
    → links_load P q (Some (joined kind coordinator s)) ≤ links_load P q (Some s)
joined_load P q kinds.Volatile coordinator s e = omega (arith, link_at P q s.volatile states.Registering e, none_again q)
joined_load P q kinds.Durable coordinator s e = omega (arith, link_at P q s.durable states.Registering e, none_again q)

joined_request : (kind : Kind) (coordinator : Epr) (s : Superior) → (joined kind coordinator s).request ≡ s.request
joined_request kinds.Volatile coordinator s = refl
joined_request kinds.Durable coordinator s = refl

joined_paid : (P : Prices) (m : Moment) (kind : Kind) (coordinator : Epr) (s : Superior) (t : Transaction) (phase : Phase) → t.superior ≡ Some s → t.completion ≡ None
    → (link_of kind s).state ≡ states.Registering → Acted P m 0 t (Goes (stays (begin (record t { superior = Some (joined kind coordinator s); phase = phase }))))
joined_paid P m kind coordinator s t phase e c k =
    let q : Bool = is_quiet m.now t.sent in
    let new : Transaction = record t { superior = Some (joined kind coordinator s); phase = phase } in
    let old : links_load P q t.superior ≡ links_load P q (Some s) = ap (links_load P q) e in
    stays_paid P m.now (held P m.now t + 0) (request_of t.superior) (begin new)
    (omega (arith, old, worth_begin P m.now new, joined_load P q kind coordinator s k, no_completion P phase t.completion c)) (joined_request kind coordinator s ∙ asks_on (request_of t.superior) s t e refl)

link_registered_paid : (P : Prices) (m : Moment) (relates : Option (List ℕ)) (coordinator : Epr) (kind : Kind) (s : Superior) (t : Transaction) → t.superior ≡ Some s → Linked t
    → Acted P m 0 t (link_registered m relates coordinator kind s t)
unfolding link_registered
link_registered_paid P m relates coordinator kind s t e l =
    let waits : Bool = is_state (link_of kind s).state states.Registering in
    let answers : Bool = relates_to relates (register_id m.base (targets.Participant t.id kind)) in
    either P m.now (held P m.now t + 0) (request_of t.superior) (waits && answers)
    (Goes (stays (begin (record t { superior = Some (joined kind coordinator s); phase = registered (joined kind coordinator s) t.phase })))) (ignored t)
    (λ k. joined_paid P m kind coordinator s t (registered (joined kind coordinator s) t.phase) e (known t s e l).1 (state_is (link_of kind s).state states.Registering (first_true waits answers k)))
    (λ k. ignored_paid P m 0 t)

link_fault_paid : (P : Prices) (m : Moment) (relates : Option (List ℕ)) (kind : Kind) (s : Superior) (t : Transaction) → Acted P m 0 t (link_fault m relates kind s t)
unfolding link_fault
link_fault_paid P m relates kind s t =
    either P m.now (held P m.now t + 0) (request_of t.superior)
    (is_state (link_of kind s).state states.Registering && relates_to relates (register_id m.base (targets.Participant t.id kind))) (Goes (abort m Alone (begin t))) (ignored t)
    (λ k. aborts_alone P m 0 Alone t) (λ k. ignored_paid P m 0 t)

pub link_paid : (P : Prices) (m : Moment) (a : Arrived) (kind : Kind) (t : Transaction) (s : Superior) (x : Message) → t.superior ≡ Some s → Linked t
    → Acted P m (spends x) t (on_link m a kind t s x)
unfolding on_link
link_paid P m a kind t s (messages.Notice n) e l =
    link_notice_paid P m n a.from a.id kind s t (participant_of kind (link_of kind s).state n) e l (table_acts kind (link_of kind s).state n) (participant_within kind (link_of kind s).state n)
link_paid P m a kind t s (messages.RegisterResponse coordinator) e l = link_registered_paid P m a.relates coordinator kind s t e l
link_paid P m a kind t s (messages.Fault name) e l = link_fault_paid P m a.relates kind s t
link_paid P m a kind t s other e l = ignored_paid P m 0 t
