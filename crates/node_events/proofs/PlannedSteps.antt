-- A step that a node did, against the plan of the model that it is the step of.
use Rattle.std.specs.Prelude.{ℕ, List, ◌≡◌, Option, None, Some, Bool, true, false, if◌then◌else◌, refl}
use Rattle.std.proofs.Common.{sym, subst, ap, ◌∙◌}
use Rattle.at_base.specs.declared.event.Event.{Event}
use Rattle.at_base.specs.declared.outs.Out.{Out}
use Rattle.at_base.specs.declared.record.Record.{Record}
use Rattle.at_model.specs.Arrivals.{with_answer}
use Rattle.at_model.specs.Book.{Book}
use Rattle.at_model.specs.Moves.{Decision, Goes, Records}
use Rattle.at_model.specs.Step.{Outcome, Plan, at_time, moment_of, plan, plan_of, put_activity, put_leaf, put_transaction}
use Rattle.at_model.specs.World.{answer_plan}
use Rattle.fated_walks.specs.Fated.{Fated, IsPlanned, Way, stands_by}
use Rattle.model_laws.specs.Shapes.{Shape, nothing_moves, time_moves, time_passes, transaction_moves, leaf_moves, activity_moves, transaction_registers, transaction_made, leaf_made, activity_made}
use Rattle.model_laws.proofs.StepShapes.{steps_touch_one}
use Rattle.node_at.specs.Steps.{if_landed}
use Rattle.node_at.specs.TurnText.{IsOutcome, IsStep, TurnStep, refusing}
use Rattle.node_events.proofs.LeavingOuts.{answer_goes, leaving_goes}
use Rattle.node_events.proofs.LeavingOuts.{Goes as Leaves}
use Rattle.node_worlds.specs.SentPosts.{records_by}

-- a plan without a record comes to the same where it stands and where it doesn't
abbrev pub IsPlain : Plan → Type 0
IsPlain p = p.entry ≡ None → p.absent ≡ p.landed

decided_plain : {A : Type 0} (b : Book) (put : Option A → Book) (answer : List Out) (d : Decision A) → IsPlain (plan_of b put answer d)
decided_plain b put answer (Goes c) e = refl
decided_plain b put answer (Records r c absent) e = absurd cc

as_plain : (p q : Plan) → p ≡ q → IsPlain q → IsPlain p
as_plain p q e h = subst IsPlain (sym e) h

shape_plain : (b : Book) (e : Event) (now : ℕ) (p : Plan) → Shape b e now p → IsPlain p
shape_plain b e now p (nothing_moves f) = as_plain p _ f (λ k. refl)
shape_plain b e now p (time_moves a os came why o f) = as_plain p _ f (λ k. refl)
shape_plain b e now p (time_passes came f) = as_plain p _ f (λ k. refl)
shape_plain b e now p (transaction_moves id t answer d stands how o f) =
    as_plain p _ f (decided_plain b (put_transaction t.id (at_time now b)) answer (with_answer (moment_of b now) t d))
shape_plain b e now p (leaf_moves id l answer d stands how o f) = as_plain p _ f (decided_plain b (put_leaf l.id (at_time now b)) answer d)
shape_plain b e now p (activity_moves id a answer d stands how o f) = as_plain p _ f (decided_plain b (put_activity a.id (at_time now b)) answer d)
shape_plain b e now p (transaction_registers id a r t stands came at says o f) = as_plain p _ f (λ k. refl)
shape_plain b e now p (transaction_made a c id t os came at says next made sent o f) = as_plain p _ f (λ k. refl)
shape_plain b e now p (leaf_made a w id l os came at says next made sent o f) = as_plain p _ f (λ k. refl)
shape_plain b e now p (activity_made id a os next made o f) = as_plain p _ f (λ k. refl)

-- what a plan comes to
abbrev pub outcome_by : Plan → Bool → Outcome
outcome_by p landed = if landed then p.landed else p.absent

-- the step came to this, and its outs are those of the model
pub record ComesTo (o : Outcome) (s : TurnStep) : Type 0 where
  pub leaves : Leaves o.outs s.leaving
  pub behind : s.behind ≡ o.book
  pub came : s.came ≡ o.effects

-- it is the step of this plan
pub record IsStepOf (p : Plan) (s : TurnStep) : Type 0 where
  pub entry : s.entry ≡ p.entry
  pub comes : ComesTo (outcome_by p s.landed) s
  pub is_plain : IsPlain p

pub comes_to : (o : Outcome) (s : TurnStep) → IsOutcome o s → ComesTo o s
comes_to o s is = record { leaves = leaving_goes is.leaving; behind = is.behind; came = is.came }

pub step_of : (b : Book) (e : Event) (now : ℕ) (s : TurnStep) → IsStep b e now s → IsStepOf (plan b e now) s
step_of b e now s is = record {
  entry = is.entry;
  comes = comes_to (outcome_by (plan b e now) s.landed) s is.outcome;
  is_plain = shape_plain b e now (plan b e now) (steps_touch_one b e now);
}

-- a refusal is an answer of the model, maybe another one
pub refusal_of : (b : Book) (told status : ℕ) (text : Option (List ℕ)) (s : TurnStep) → s ≡ refusing b status text → IsStepOf (answer_plan b told) s
refusal_of b told status text s e =
    subst (IsStepOf (answer_plan b told)) (sym e)
    (record { entry = refl; comes = record { leaves = answer_goes told status text; behind = refl; came = refl }; is_plain = λ k. refl })

-- A step without a record counts as one whose record stands.
abbrev pub counts_as : Option Record → Bool → Bool
counts_as None landed = true
counts_as (Some r) landed = landed

pub same_records : (entry : Option Record) (landed : Bool) → stands_by entry (counts_as entry landed) ≡ records_by (if_landed landed entry)
same_records None true = refl
same_records None false = refl
same_records (Some r) true = refl
same_records (Some r) false = refl

sure_counts : (entry : Option Record) (landed : Bool) → entry ≡ None → counts_as entry landed ≡ true
sure_counts None landed e = refl
sure_counts (Some r) landed e = absurd cc

same_outcome : (p : Plan) (entry : Option Record) (landed : Bool) → p.entry ≡ entry → IsPlain p → outcome_by p landed ≡ outcome_by p (counts_as entry landed)
same_outcome p None true e h = refl
same_outcome p None false e h = h e
same_outcome p (Some r) landed e h = refl

-- what the model takes it as
abbrev pub fated_by : TurnStep → Plan → List Way → Fated
fated_by s p ways = record { entry = s.entry; landed = counts_as s.entry s.landed; outcome = outcome_by p (counts_as s.entry s.landed); ways = ways }

pub planned_by : (p : Plan) (s : TurnStep) (ways : List Way) → IsStepOf p s → IsPlanned p (fated_by s p ways)
planned_by p s ways is = record { entry = is.entry; sure = sure_counts s.entry s.landed; outcome = refl }

pub comes_planned : (p : Plan) (s : TurnStep) → IsStepOf p s → ComesTo (outcome_by p (counts_as s.entry s.landed)) s
comes_planned p s is = subst (λ o. ComesTo o s) (same_outcome p s.entry s.landed (sym is.entry) is.is_plain) is.comes

-- So it comes to what the model's does, whenever that has the same records.
one_fate : (entry : Option Record) (landed counts : Bool) → (entry ≡ None → counts ≡ true) → stands_by entry counts ≡ records_by (if_landed landed entry) → counts ≡ counts_as entry landed
one_fate None landed counts sure e = sure refl
one_fate (Some r) true true sure e = refl
one_fate (Some r) true false sure e = absurd cc
one_fate (Some r) false true sure e = absurd cc
one_fate (Some r) false false sure e = refl

pub outcome_fated : (p : Plan) (s : TurnStep) (f : Fated) → IsStepOf p s → IsPlanned p f → stands_by f.entry f.landed ≡ records_by (if_landed s.landed s.entry) → f.outcome ≡ outcome_by p s.landed
outcome_fated p s f is planned records = planned.outcome ∙ ap (outcome_by p) counts ∙ sym (same_outcome p s.entry s.landed (sym is.entry) is.is_plain)
  where
    same : f.entry ≡ s.entry
    same = planned.entry ∙ sym is.entry

    counts : f.landed ≡ counts_as s.entry s.landed
    counts = one_fate s.entry s.landed f.landed (λ e. planned.sure (same ∙ e)) (ap (λ o. stands_by o f.landed) (sym same) ∙ records)

pub comes_fated : (p : Plan) (s : TurnStep) (f : Fated) → IsStepOf p s → IsPlanned p f → stands_by f.entry f.landed ≡ records_by (if_landed s.landed s.entry) → ComesTo f.outcome s
comes_fated p s f is planned records = subst (λ o. ComesTo o s) (sym (outcome_fated p s f is planned records)) is.comes
