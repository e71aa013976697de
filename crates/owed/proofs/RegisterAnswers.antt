-- Every Register is answered; and each step answers for its leaves.
use Rattle.std.specs.Prelude.{ℕ, List, ◌++◌, Option, Some, None, Bool, true, false, if◌then◌else◌, ◌&&◌, ◌≡◌, refl}
use Rattle.std.proofs.Common.{inl, ap, sym, subst, ◌∙◌}
use Rattle.at_base.specs.declared.fault.Fault.{Fault}
use Rattle.at_base.specs.declared.fault.Fault.TheVariants.{CannotRegisterParticipant, InvalidParameters, InvalidProtocol}
use Rattle.at_base.specs.Numbers.{Numbers}
use Rattle.at_base.specs.declared.epr.Epr.{Epr}
use Rattle.at_base.specs.declared.epr.Reply.{Reply}
use Rattle.at_base.specs.declared.epr.Reply.TheVariants as replies
use Rattle.at_base.specs.declared.notice.Kind.{Kind}
use Rattle.at_base.specs.declared.notice.Kind.TheVariants as kinds
use Rattle.at_base.specs.declared.event.Arrived.{Arrived}
use Rattle.at_base.specs.declared.event.Event.{Event}
use Rattle.at_base.specs.declared.event.Event.TheVariants as events
use Rattle.at_base.specs.declared.event.Moment.{Moment}
use Rattle.at_base.specs.declared.message.Message.TheVariants as messages
use Rattle.at_base.specs.declared.message.Register.{Register}
use Rattle.at_base.specs.declared.outs.Out.{Out}
use Rattle.at_base.specs.declared.target.Target.{Target}
use Rattle.at_base.specs.declared.target.Target.TheVariants as targets
use Rattle.at_base.specs.Names.{is_kind}
use Rattle.at_model.specs.Book.{Book, Leaf, Transaction, is_id}
use Rattle.at_model.specs.Leaves.{leaf_target}
use Rattle.at_model.specs.Posts.{fault_post, faulted, replied, reply_post}
use Rattle.at_model.specs.Register.{Registration, completion_endpoint, late_prepare, is_late, new_seat, on_register, protocol_named, register_unknown, seat_endpoint}
use Rattle.at_model.specs.Step.{Plan, arrived_plan, leaf_at, moment_of, plan, registration_plan, transaction_at}
use Rattle.model_laws.proofs.DecisionLaws.{same_kind}
use Rattle.model_laws.proofs.RecoveryLaws.{same_id, self_id}
use Rattle.model_laws.proofs.StepShapes.{steps_touch_one}
use Rattle.enlistments.specs.Registrations.{Enrolls, has_completion, has_seat, refuses, takes_completion, takes_seat}
use Rattle.enlistments.specs.Moves.{IsReady}
use Rattle.enlistments.proofs.Registrations.{register_enrolls}
use Rattle.owed.specs.Leaves.{LeafOwed, StepsOweLeaves}
use Rattle.owed.specs.Registers.{RegistersAreAnswered, TellsRegistered}
use Rattle.owed.specs.Seats.{posts_of}
use Rattle.owed.proofs.LeafSteps.{at_target, quiet_fine}

-- an answer, and more behind it
replies_to : (reply : Reply) (id : Option (List ℕ)) (c to : Epr) (more : List Out) → reply ≡ replies.At to → TellsRegistered to id (posts_of (replied reply id (messages.RegisterResponse c) ++ more))
replies_to reply id c to more e =
    subst (λ r. TellsRegistered to id (posts_of (replied r id (messages.RegisterResponse c) ++ more))) (sym e) (reply_post (Some to) id (messages.RegisterResponse c), inl refl, refl, refl, tt)

replies_alone : (reply : Reply) (id : Option (List ℕ)) (c to : Epr) → reply ≡ replies.At to → TellsRegistered to id (posts_of (replied reply id (messages.RegisterResponse c)))
replies_alone reply id c to e =
    subst (λ r. TellsRegistered to id (posts_of (replied r id (messages.RegisterResponse c)))) (sym e) (reply_post (Some to) id (messages.RegisterResponse c), inl refl, refl, refl, tt)

faults_to : (reply : Reply) (id : Option (List ℕ)) (drawn : Fault) (to : Epr) → reply ≡ replies.At to → TellsRegistered to id (posts_of (faulted reply id drawn))
faults_to reply id drawn to e = subst (λ r. TellsRegistered to id (posts_of (faulted r id drawn))) (sym e) (fault_post (Some to) id drawn, inl refl, refl, refl, tt)

enrolls_replies : (m : Moment) (a : Arrived) (r : Register) (t : Transaction) (g : Registration) (to : Epr) → a.reply ≡ replies.At to → a.fault ≡ replies.At to → Enrolls m a r t g
    → TellsRegistered to a.id (posts_of g.outs)
enrolls_replies m a r t g to e f (takes_seat kind p may is) =
    subst (λ x. TellsRegistered to a.id (posts_of x.outs)) (sym is)
    (replies_to a.reply a.id (seat_endpoint m.base t.id (new_seat t r.participant kind)) to (late_prepare m t.id (is_late t.phase kind) (new_seat t r.participant kind)) e)
enrolls_replies m a r t g to e f (takes_completion p may is) = subst (λ x. TellsRegistered to a.id (posts_of x.outs)) (sym is) (replies_alone a.reply a.id (completion_endpoint m.base t.id) to e)
enrolls_replies m a r t g to e f (has_seat kind s p i k j is) = subst (λ x. TellsRegistered to a.id (posts_of x.outs)) (sym is) (replies_alone a.reply a.id (seat_endpoint m.base t.id s) to e)
enrolls_replies m a r t g to e f (has_completion c p there j is) =
    subst (λ x. TellsRegistered to a.id (posts_of x.outs)) (sym is) (replies_alone a.reply a.id (completion_endpoint m.base t.id) to e)
enrolls_replies m a r t g to e f (refuses name is) = subst (λ x. TellsRegistered to a.id (posts_of x.outs)) (sym is) (faults_to a.fault a.id name to f)

unknown_replies : (a : Arrived) (r : Register) (kind : Option (Option Kind)) (to : Epr) → a.fault ≡ replies.At to → TellsRegistered to a.id (posts_of (register_unknown a r kind))
unfolding register_unknown
unknown_replies a r None to f = faults_to a.fault a.id InvalidProtocol to f
unknown_replies a r (Some kind) to f = faults_to a.fault a.id (if a.postable then CannotRegisterParticipant else InvalidParameters) to f

plan_replies : (b : Book) (now : ℕ) (a : Arrived) (r : Register) (o : Option Transaction) (to : Epr) → a.reply ≡ replies.At to → a.fault ≡ replies.At to
    → TellsRegistered to a.id (posts_of (registration_plan b now a (messages.Register r) o).landed.outs)
unfolding registration_plan
plan_replies b now a r None to e f = unknown_replies a r (protocol_named r.protocol) to f
plan_replies b now a r (Some t) to e f =
    enrolls_replies (moment_of b now) a r t (on_register (moment_of b now) a r t) to e f (register_enrolls (moment_of b now) a r t)

arrived_replies : (b : Book) (now : ℕ) (a : Arrived) (id : Numbers) (r : Register) (to : Epr) → a.message ≡ messages.Register r → a.reply ≡ replies.At to → a.fault ≡ replies.At to
    → TellsRegistered to a.id (posts_of (arrived_plan b now a (targets.Registration id)).landed.outs)
unfolding arrived_plan
arrived_replies b now a id r to x e f =
    subst (λ y. TellsRegistered to a.id (posts_of (registration_plan b now a y (transaction_at b id)).landed.outs)) (sym x) (plan_replies b now a r (transaction_at b id) to e f)

pub registers_are_answered : RegistersAreAnswered
registers_are_answered = record {
  answered = λ b a now id r to at x e f. subst (λ T. TellsRegistered to a.id (posts_of (arrived_plan b now a T).landed.outs)) (sym at) (arrived_replies b now a id r to x e f);
}

-- leaves
abbrev Fine : Book → Event → Leaf → Plan → Type 0
Fine b e u p = LeafOwed b.base e u (posts_of p.landed.outs) (leaf_at p.landed.book u.id)

abbrev IsOf : Leaf → Target → Bool
IsOf l (targets.Participant id kind) = is_id id l.id && is_kind kind l.kind
IsOf l other = false

itself : (l : Leaf) → IsOf l (leaf_target l) ≡ true
itself l = both (is_id l.id l.id) (is_kind l.kind l.kind) (self_id l.id) (own l.kind)
  where
    own : (k : Kind) → is_kind k k ≡ true
    own kinds.Volatile = refl
    own kinds.Durable = refl

    both : (p q : Bool) → p ≡ true → q ≡ true → (p && q) ≡ true
    both true q e f = f
    both false q e f = absurd cc

targets_it : (l : Leaf) (T : Target) → IsOf l T ≡ true → T ≡ leaf_target l
targets_it l (targets.Participant id kind) e = by_tests (is_id id l.id) (is_kind kind l.kind) refl refl e
  where
    by_tests : (p q : Bool) → is_id id l.id ≡ p → is_kind kind l.kind ≡ q → (p && q) ≡ true → targets.Participant id kind ≡ leaf_target l
    by_tests true true f g h = λ i. targets.Participant (same_id id l.id f i) (same_kind kind l.kind g i)
    by_tests true false f g h = absurd cc
    by_tests false q f g h = absurd cc
targets_it l other e = absurd cc

not_it : (l : Leaf) (T S : Target) → T ≡ leaf_target l → S ≡ T → IsOf l S ≡ false → ⊥
not_it l T S e f g = let h : IsOf l (leaf_target l) ≡ false = subst (λ x. IsOf l x ≡ false) (f ∙ e) g in let k : IsOf l (leaf_target l) ≡ true = itself l in cc

arrived_fine : (b : Book) (a : Arrived) (now : ℕ) (l : Leaf) (c : Bool) → IsOf l a.target ≡ c → IsReady b → leaf_at b l.id ≡ Some l → transaction_at b l.id ≡ None
    → Fine b (events.Arrived a) l (plan b (events.Arrived a) now)
arrived_fine b a now l true f ready found none =
    let at : a.target ≡ leaf_target l = targets_it l a.target f in
    subst (λ T. Fine b (events.Arrived a) l (arrived_plan b now a T)) (sym at) (at_target b a now l at ready found none)
arrived_fine b a now l false f ready found none =
    quiet_fine b (events.Arrived a) now (plan b (events.Arrived a) now) l ready
    (λ n h. let came : events.Arrived a ≡ events.Arrived h.arrived = h.event in let same : a ≡ h.arrived = cc in not_it l h.arrived.target a.target h.target (ap (λ (x : Arrived). x.target) same) f)
    (λ h. let came : events.Arrived a ≡ events.Arrived h.message = h.came in let same : a ≡ h.message = cc in not_it l h.message.target a.target h.target (ap (λ (x : Arrived). x.target) same) f)
    found (steps_touch_one b (events.Arrived a) now)

steps_fine : (b : Book) (e : Event) (now : ℕ) → IsReady b → (l : Leaf) → leaf_at b l.id ≡ Some l → transaction_at b l.id ≡ None → Fine b e l (plan b e now)
steps_fine b (events.Arrived a) now ready l found none = arrived_fine b a now l (IsOf l a.target) refl ready found none
steps_fine b (events.Local x) now ready l found none =
    quiet_fine b (events.Local x) now (plan b (events.Local x) now) l ready (λ n h. let f : events.Local x ≡ events.Arrived h.arrived = h.event in absurd cc)
    (λ h. let f : events.Local x ≡ events.Arrived h.message = h.came in absurd cc) found (steps_touch_one b (events.Local x) now)
steps_fine b (events.Due item) now ready l found none =
    quiet_fine b (events.Due item) now (plan b (events.Due item) now) l ready (λ n h. let f : events.Due item ≡ events.Arrived h.arrived = h.event in absurd cc)
    (λ h. let f : events.Due item ≡ events.Arrived h.message = h.came in absurd cc) found (steps_touch_one b (events.Due item) now)
steps_fine b events.Tick now ready l found none =
    quiet_fine b events.Tick now (plan b events.Tick now) l ready (λ n h. let f : events.Tick ≡ events.Arrived h.arrived = h.event in absurd cc)
    (λ h. let f : events.Tick ≡ events.Arrived h.message = h.came in absurd cc) found (steps_touch_one b events.Tick now)

pub steps_owe_leaves : StepsOweLeaves
steps_owe_leaves = record { leaves = λ b e now ready l found none. steps_fine b e now ready l found none }
