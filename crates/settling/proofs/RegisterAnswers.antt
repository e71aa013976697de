-- A Register is answered, in each state of the transaction, also where it is unknown.
use Rattle.std.specs.Prelude.{ℕ, List, ◌++◌, Option, Some, None, Bool, true, false, not, if◌then◌else◌, ◌≡◌, refl}
use Rattle.std.proofs.Common.{sym, subst, inl}
use Rattle.at_base.specs.declared.fault.Fault.{Fault}
use Rattle.at_base.specs.declared.fault.Fault.TheVariants.{CannotRegisterParticipant, InvalidParameters, InvalidProtocol}
use Rattle.at_base.specs.Numbers.{Numbers}
use Rattle.at_base.specs.declared.epr.Epr.{Epr}
use Rattle.at_base.specs.declared.epr.Reply.{Reply}
use Rattle.at_base.specs.declared.epr.Reply.TheVariants as replies
use Rattle.at_base.specs.declared.event.Arrived.{Arrived}
use Rattle.at_base.specs.declared.event.Event.TheVariants as events
use Rattle.at_base.specs.declared.event.Moment.{Moment}
use Rattle.at_base.specs.declared.message.Message.TheVariants as messages
use Rattle.at_base.specs.declared.message.Register.{Register}
use Rattle.at_base.specs.declared.notice.Kind.{Kind}
use Rattle.at_base.specs.declared.outs.Out.{Out}
use Rattle.at_base.specs.declared.outs.Post.{Post}
use Rattle.at_base.specs.declared.target.Target.TheVariants as targets
use Rattle.at_model.specs.Book.{Book, Transaction}
use Rattle.at_model.specs.Posts.{fault_post, faulted, replied, reply_post}
use Rattle.at_model.specs.Register.{Registration, accept, completion_endpoint, held_seat, is_late, late_prepare, may_register, new_seat, on_register, protocol_named, refuse_register, register_again, register_new, register_unknown, registered_reply, seat_endpoint}
use Rattle.at_model.specs.Step.{arrived_plan, branch, moment_of, registration_plan, step, transaction_at}
use Rattle.model_laws.proofs.DecisionLaws.{either_of}
use Rattle.settling.specs.Load.{posts_in}
use Rattle.settling.specs.Replies.{IsAnswered, RegistersAreAnswered}
use Rattle.settling.proofs.RegisterPayments.{posts_join}

-- an answer, and what is posted behind it
replied_here : (a : Arrived) (to : Epr) (reply : Reply) (coordinator : Epr) (more : List Post) → reply ≡ replies.At to
    → IsAnswered a to (posts_in (replied reply a.id (messages.RegisterResponse coordinator)) ++ more)
replied_here a to reply coordinator more e =
    subst (λ x. IsAnswered a to (posts_in (replied x a.id (messages.RegisterResponse coordinator)) ++ more)) (sym e)
    (record { post = reply_post (Some to) a.id (messages.RegisterResponse coordinator); posted = inl refl; sent = refl; relates = refl; ends = tt })

faulted_here : (a : Arrived) (to : Epr) (fault : Reply) (drawn : Fault) → fault ≡ replies.At to → IsAnswered a to (posts_in (faulted fault a.id drawn))
faulted_here a to fault drawn e =
    subst (λ x. IsAnswered a to (posts_in (faulted x a.id drawn))) (sym e) (record { post = fault_post (Some to) a.id drawn; posted = inl refl; sent = refl; relates = refl; ends = tt })

-- what a Register gives
abbrev Answers : Arrived → Epr → Registration → Type 0
Answers a to g = IsAnswered a to (posts_in g.outs)

reply_answers : (a : Arrived) (to : Epr) (t : Transaction) (coordinator : Epr) (more : List Out) → a.reply ≡ replies.At to
    → IsAnswered a to (posts_in (registered_reply a coordinator ++ more))
reply_answers a to t coordinator more e = subst (IsAnswered a to) (sym (posts_join (registered_reply a coordinator) more)) (replied_here a to a.reply coordinator (posts_in more) e)

only_answers : (a : Arrived) (to : Epr) (t : Transaction) (coordinator : Epr) → a.reply ≡ replies.At to → IsAnswered a to (posts_in (registered_reply a coordinator))
only_answers a to t coordinator e =
    subst (λ x. IsAnswered a to (posts_in (replied x a.id (messages.RegisterResponse coordinator)))) (sym e)
    (record { post = reply_post (Some to) a.id (messages.RegisterResponse coordinator); posted = inl refl; sent = refl; relates = refl; ends = tt })

accept_answers : (m : Moment) (a : Arrived) (to : Epr) (t : Transaction) (participant : Epr) (kind : Option Kind) → a.reply ≡ replies.At to → Answers a to (accept m a t participant kind)
unfolding accept
accept_answers m a to t participant (Some kind) e =
    reply_answers a to t (seat_endpoint m.base t.id (new_seat t participant kind)) (late_prepare m t.id (is_late t.phase kind) (new_seat t participant kind)) e
accept_answers m a to t participant None e = only_answers a to t (completion_endpoint m.base t.id) e

new_answers : (m : Moment) (a : Arrived) (to : Epr) (r : Register) (t : Transaction) (kind : Option (Option Kind)) → a.reply ≡ replies.At to → a.fault ≡ replies.At to
    → Answers a to (register_new m a r t kind)
unfolding register_new
new_answers m a to r t None e f = faulted_here a to a.fault InvalidProtocol f
new_answers m a to r t (Some kind) e f =
    either_of (Answers a to) (not a.postable) (refuse_register a t InvalidParameters) (if may_register t kind then accept m a t r.participant kind else refuse_register a t CannotRegisterParticipant)
    (λ k. faulted_here a to a.fault InvalidParameters f)
    (λ k. either_of (Answers a to) (may_register t kind) (accept m a t r.participant kind) (refuse_register a t CannotRegisterParticipant)
    (λ j. accept_answers m a to t r.participant kind e) (λ j. faulted_here a to a.fault CannotRegisterParticipant f))

again_answers : (m : Moment) (a : Arrived) (to : Epr) (r : Register) (t : Transaction) (kind : Option (Option Kind)) (o : Option Epr) → a.reply ≡ replies.At to → a.fault ≡ replies.At to
    → Answers a to (register_again m a r t kind o)
unfolding register_again
again_answers m a to r t kind (Some coordinator) e f = only_answers a to t coordinator e
again_answers m a to r t kind None e f = new_answers m a to r t kind e f

register_answers : (m : Moment) (a : Arrived) (to : Epr) (r : Register) (t : Transaction) → a.reply ≡ replies.At to → a.fault ≡ replies.At to → Answers a to (on_register m a r t)
unfolding on_register
register_answers m a to r t e f = again_answers m a to r t (protocol_named r.protocol) (held_seat m r t (protocol_named r.protocol)) e f

unknown_answers : (a : Arrived) (to : Epr) (r : Register) (kind : Option (Option Kind)) → a.fault ≡ replies.At to → IsAnswered a to (posts_in (register_unknown a r kind))
unfolding register_unknown
unknown_answers a to r None f = faulted_here a to a.fault InvalidProtocol f
unknown_answers a to r (Some kind) f = faulted_here a to a.fault (if a.postable then CannotRegisterParticipant else InvalidParameters) f

-- a step
plan_answers : (b : Book) (now : ℕ) (a : Arrived) (to : Epr) (r : Register) (o : Option Transaction) (landed : Bool) → a.reply ≡ replies.At to → a.fault ≡ replies.At to
    → IsAnswered a to (posts_in (branch (registration_plan b now a (messages.Register r) o) landed).outs)
unfolding registration_plan
plan_answers b now a to r None true e f = unknown_answers a to r (protocol_named r.protocol) f
plan_answers b now a to r None false e f = unknown_answers a to r (protocol_named r.protocol) f
plan_answers b now a to r (Some t) true e f = register_answers (moment_of b now) a to r t e f
plan_answers b now a to r (Some t) false e f = register_answers (moment_of b now) a to r t e f

step_answers : (b : Book) (a : Arrived) (now : ℕ) (landed : Bool) (id : Numbers) (r : Register) (to : Epr) → a.target ≡ targets.Registration id → a.message ≡ messages.Register r
    → a.reply ≡ replies.At to → a.fault ≡ replies.At to → IsAnswered a to (posts_in (step b (events.Arrived a) now landed).outs)
unfolding arrived_plan
step_answers b a now landed id r to at says e f =
    subst (λ T. IsAnswered a to (posts_in (branch (arrived_plan b now a T) landed).outs)) (sym at)
    (subst (λ x. IsAnswered a to (posts_in (branch (registration_plan b now a x (transaction_at b id)) landed).outs)) (sym says) (plan_answers b now a to r (transaction_at b id) landed e f))

pub registers_are_answered : RegistersAreAnswered
registers_are_answered = record { answered = step_answers }
