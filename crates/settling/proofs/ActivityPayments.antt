-- An activity pays for what it posts.
use Rattle.std.specs.Prelude.{ℕ, List, Option, Some, None, true, false, ◌+◌, bytes_eq, ◌≡◌, ◌≤◌, refl}
use Rattle.std.proofs.Common.{arith, ap}
use Rattle.at_base.specs.declared.fault.Fault.TheVariants.{InvalidState, UnknownTransaction}
use Rattle.at_base.specs.Names.{fault_name}
use Rattle.at_base.specs.declared.epr.Epr.{Epr}
use Rattle.at_base.specs.declared.event.Arrived.{Arrived}
use Rattle.at_base.specs.declared.event.Moment.{Moment}
use Rattle.at_base.specs.declared.message.Context.{Context}
use Rattle.at_base.specs.declared.message.Message.{Message}
use Rattle.at_base.specs.declared.message.Message.TheVariants as messages
use Rattle.at_base.specs.declared.notice.Notice.{Notice}
use Rattle.at_base.specs.declared.outs.Told.{Told}
use Rattle.at_base.specs.declared.outs.Told.TheVariants as tellings
use Rattle.at_tables.specs.declared.cells.Act.{Act}
use Rattle.at_tables.specs.declared.cells.Act.TheVariants as acts
use Rattle.at_tables.specs.declared.cells.Cell.{Cell}
use Rattle.at_tables.specs.Tables.{initiator_of}
use Rattle.at_model.specs.Activities.{activity_act, activity_created, activity_fault, activity_notice, activity_registered, activity_state, activity_target, completion_register, is_begun, on_activity, told, with_context}
use Rattle.endpoints.specs.Addresses.{create_id, register_id}
use Rattle.at_model.specs.Arrivals.{relates_to}
use Rattle.at_model.specs.Book.{Activity, Progress}
use Rattle.at_model.specs.Due.{Expired, Nothing, Over, Reached, Unanswered, activity_again, activity_due, activity_reached, completion_register_again, is_quiet}
use Rattle.at_model.specs.Moves.{Change, Decision, ignored}
use Rattle.at_model.specs.Posts.{fault_post, notice_post, stored_or}
use Rattle.model_laws.proofs.DecisionLaws.{DecisionSays, either_says}
use Rattle.settling.specs.Load.{Prices, activity_load, notice_weight, progress_load, weights}
use Rattle.settling.proofs.SeatPayments.{spends}
use Rattle.settling.proofs.AbortPayments.{to_each_weighs}
use Rattle.settling.proofs.Costs.{Within, cost, initiator_within, spare}
use Rattle.settling.proofs.LeafPayments.{unanswered_why}
use Rattle.settling.proofs.Weights.{AnyEntry, not_quiet, weights_one}

abbrev pub left_activity : Prices → ℕ → Option Activity → ℕ
left_activity P now None = 0
left_activity P now (Some a) = activity_load P now a

-- what is left of an activity is within the limit
pub record ActivityCovers (P : Prices) (now limit : ℕ) (c : Change Activity) : Type 0 where
  pub paid : weights P c.posts + left_activity P now c.item ≤ limit

abbrev pub ActivityActed : Prices → Moment → ℕ → Activity → Decision Activity → Type 0
ActivityActed P m free a d = DecisionSays (ActivityCovers P m.now (activity_load P m.now a + free)) AnyEntry d

activity_ignored : (P : Prices) (m : Moment) (free : ℕ) (a : Activity) → ActivityActed P m free a (ignored a)
activity_ignored P m free a = record { paid = omega arith }

told_paid : (P : Prices) (m : Moment) (free : ℕ) (what : Told) (a : Activity) → ActivityActed P m free a (told what a)
told_paid P m free what a = record { paid = omega arith }

activity_act_paid : (P : Prices) (m : Moment) (free : ℕ) (from : Option Epr) (i : Option (List ℕ)) (a : Activity) (act : Act) → cost act ≤ free → ActivityActed P m free a (activity_act m from i a act)
unfolding activity_act
activity_act_paid P m free from i a acts.TellCommitted h = told_paid P m free tellings.Committed a
activity_act_paid P m free from i a acts.TellAborted h = told_paid P m free tellings.Aborted a
activity_act_paid P m free from i a acts.FaultInvalidState h =
    record { paid = omega (arith, h, to_each_weighs P (stored_or a.coordinator from) (λ to. fault_post (Some to) i InvalidState) 1 (λ x. omega arith)) }
activity_act_paid P m free from i a other h = activity_ignored P m free a

activity_notice_paid : (P : Prices) (m : Moment) (n : Notice) (from : Option Epr) (i : Option (List ℕ)) (a : Activity) (c : Option Cell) → Within n c
    → ActivityActed P m (spare n) a (activity_notice m from i a c)
unfolding activity_notice
activity_notice_paid P m n from i a None h = activity_ignored P m (spare n) a
activity_notice_paid P m n from i a (Some c) h = activity_act_paid P m (spare n) from i a c.act h

-- an activity that has come so far
load_at : (P : Prices) (m : Moment) (a : Activity) (p : Progress) → a.progress ≡ p → activity_load P m.now a ≡ P.other + progress_load P (is_quiet m.now a.sent) p
load_at P m a p e = ap (λ x. P.other + progress_load P (is_quiet m.now a.sent) x) e

sent_progress : (P : Prices) (m : Moment) (p : Progress) → progress_load P (is_quiet m.now (Some m.now)) p ≡ progress_load P false p
sent_progress P m p = ap (λ b. progress_load P b p) (not_quiet m.now)

with_context_paid : (P : Prices) (m : Moment) (context : Context) (a : Activity) → a.progress ≡ Progress.Creating → ActivityActed P m 0 a (with_context m context a)
with_context_paid P m context a e =
    either_says (ActivityCovers P m.now (activity_load P m.now a + 0)) AnyEntry (is_begun a) _ _
    (λ k. record { paid = omega (arith, load_at P m a Progress.Creating e, sent_progress P m Progress.Registering, weights_one P (completion_register m.base a context.registration)) })
    (λ k. record { paid = omega (arith, load_at P m a Progress.Creating e) })

activity_created_paid : (P : Prices) (m : Moment) (relates : Option (List ℕ)) (context : Context) (a : Activity) (p : Progress) → a.progress ≡ p
    → ActivityActed P m 0 a (activity_created m relates context a p)
unfolding activity_created
activity_created_paid P m relates context a Progress.Creating e =
    either_says (ActivityCovers P m.now (activity_load P m.now a + 0)) AnyEntry (relates_to relates (create_id m.base (activity_target a))) _ _
    (λ k. with_context_paid P m context a e) (λ k. activity_ignored P m 0 a)
activity_created_paid P m relates context a other e = activity_ignored P m 0 a

activity_registered_paid : (P : Prices) (m : Moment) (relates : Option (List ℕ)) (coordinator : Epr) (a : Activity) (p : Progress) → a.progress ≡ p
    → ActivityActed P m 0 a (activity_registered m relates coordinator a p)
unfolding activity_registered
activity_registered_paid P m relates coordinator a Progress.Registering e =
    either_says (ActivityCovers P m.now (activity_load P m.now a + 0)) AnyEntry (relates_to relates (register_id m.base (activity_target a))) _ _
    (λ k. record { paid = omega (arith, load_at P m a Progress.Registering e) }) (λ k. activity_ignored P m 0 a)
activity_registered_paid P m relates coordinator a other e = activity_ignored P m 0 a

activity_fault_paid : (P : Prices) (m : Moment) (relates : Option (List ℕ)) (name : List ℕ) (a : Activity) (p : Progress) → ActivityActed P m 0 a (activity_fault m relates name a p)
unfolding activity_fault
activity_fault_paid P m relates name a Progress.Creating =
    either_says (ActivityCovers P m.now (activity_load P m.now a + 0)) AnyEntry (relates_to relates (create_id m.base (activity_target a))) _ _
    (λ k. told_paid P m 0 tellings.Refused a) (λ k. activity_ignored P m 0 a)
activity_fault_paid P m relates name a Progress.Registering =
    either_says (ActivityCovers P m.now (activity_load P m.now a + 0)) AnyEntry (relates_to relates (register_id m.base (activity_target a))) _ _
    (λ k. told_paid P m 0 tellings.Refused a) (λ k. activity_ignored P m 0 a)
activity_fault_paid P m relates name a Progress.Active = activity_ignored P m 0 a
activity_fault_paid P m relates name a (Progress.Completing n) =
    either_says (ActivityCovers P m.now (activity_load P m.now a + 0)) AnyEntry (bytes_eq name (fault_name UnknownTransaction)) _ _
    (λ k. told_paid P m 0 tellings.Unknown a) (λ k. activity_ignored P m 0 a)

pub activity_paid : (P : Prices) (m : Moment) (r : Arrived) (a : Activity) (x : Message) → ActivityActed P m (spends x) a (on_activity m r a x)
unfolding on_activity
activity_paid P m r a (messages.Notice n) = activity_notice_paid P m n r.from r.id a (initiator_of (activity_state a.progress) n) (initiator_within (activity_state a.progress) n)
activity_paid P m r a (messages.CreateResponse context) = activity_created_paid P m r.relates context a a.progress refl
activity_paid P m r a (messages.RegisterResponse coordinator) = activity_registered_paid P m r.relates coordinator a a.progress refl
activity_paid P m r a (messages.Fault name) = activity_fault_paid P m r.relates name a a.progress
activity_paid P m r a other = activity_ignored P m 0 a

-- when it is due
again_weighs : (P : Prices) (base : List ℕ) (a : Activity) (p : Progress) → weights P (activity_again base a p) + progress_load P false p ≤ progress_load P true p
again_weighs P base a Progress.Creating = omega arith
again_weighs P base a Progress.Registering = register_weighs a.context
  where
    register_weighs : (c : Option Context) → weights P (completion_register_again base a c) + 0 ≤ 10 + P.seat
    register_weighs None = omega arith
    register_weighs (Some c) = omega (arith, weights_one P (completion_register base a c.registration))
again_weighs P base a Progress.Active = omega arith
again_weighs P base a (Progress.Completing n) =
    omega (arith, to_each_weighs P a.coordinator (λ to. notice_post base (activity_target a) to n) (notice_weight n) (λ x. omega arith))

activity_reached_paid : (P : Prices) (m : Moment) (a : Activity) (reached : Reached) → (reached ≡ Unanswered → is_quiet m.now a.sent ≡ true) → ActivityActed P m 0 a (activity_reached m a reached)
unfolding activity_reached
activity_reached_paid P m a Expired h = told_paid P m 0 tellings.Unknown a
activity_reached_paid P m a Over h = activity_ignored P m 0 a
activity_reached_paid P m a Unanswered h =
    let old : activity_load P m.now a ≡ P.other + progress_load P true a.progress = ap (λ b. P.other + progress_load P b a.progress) (h refl) in
    record { paid = omega (arith, old, sent_progress P m a.progress, again_weighs P m.base a a.progress) }
activity_reached_paid P m a Nothing h = activity_ignored P m 0 a

pub activity_due_paid : (P : Prices) (m : Moment) (a : Activity) → ActivityActed P m 0 a (activity_reached m a (activity_due m a))
activity_due_paid P m a = activity_reached_paid P m a (activity_due m a) (unanswered_why _ _ _)
