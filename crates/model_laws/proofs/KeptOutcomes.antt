-- A node's book keeps the outcomes of its journal.
use Rattle.std.specs.Prelude.{ℕ, List, [], ◌∷◌, ◌++◌, Option, Some, None, Bool, true, false, ◌≡◌, refl}
use Rattle.std.proofs.Common.{sym, subst, ap, ◌∙◌}
use Rattle.at_base.specs.Numbers.{Numbers}
use Rattle.at_base.specs.declared.record.Record.{Record}
use Rattle.at_base.specs.declared.event.Event.{Event}
use Rattle.at_base.specs.declared.outs.Out.{Out}
use Rattle.at_model.specs.Book.{Book}
use Rattle.at_model.specs.Moves.{Decision, Goes, Records}
use Rattle.at_model.specs.Outcomes.{outcomes_after, with_outcome}
use Rattle.at_model.specs.Step.{Plan, plain, plan, plan_of, step, at_time, moment_of, put_transaction, put_leaf, put_activity}
use Rattle.at_model.specs.Arrivals.{with_answer}
use Rattle.at_model.specs.World.{Node, run_of}
use Rattle.model_laws.specs.KeptOutcomes.{KeepsOutcomes}
use Rattle.model_laws.specs.DrawnIds.{with_entry}
use Rattle.model_laws.specs.Shapes.{Shape, nothing_moves, time_moves, time_passes, transaction_moves, leaf_moves, activity_moves, transaction_registers, transaction_made, leaf_made, activity_made}
use Rattle.model_laws.proofs.DecisionLaws.{IfThere}
use Rattle.model_laws.proofs.StepShapes.{steps_touch_one}
use Rattle.model_laws.proofs.ReachedWorlds.{NodeLaw, nodes_hold, run_reached}

-- one record after the others
pub outcomes_more : (ids : List Numbers) (xs ys : List Record) → outcomes_after ids (xs ++ ys) ≡ outcomes_after (outcomes_after ids xs) ys
outcomes_more ids [] ys = refl
outcomes_more ids (x ∷ xs) ys = outcomes_more (with_outcome x ids) xs ys

-- the outcomes behind a plan: a record that stands may add one
abbrev added : Option Record → List Numbers → List Numbers
added None ids = ids
added (Some r) ids = with_outcome r ids

record IsKept (b : Book) (p : Plan) : Type 0 where
  landed : p.landed.book.outcomes ≡ added p.entry b.outcomes
  absent : p.absent.book.outcomes ≡ b.outcomes

decided_kept : {A : Type 0} (b : Book) (put : Option A → Book) (answer : List Out) (d : Decision A) → ((x : Option A) → (put x).outcomes ≡ b.outcomes) → IsKept b (plan_of b put answer d)
decided_kept b put answer (Goes c) f = record { landed = f c.item; absent = f c.item }
decided_kept b put answer (Records r c None) f = record { landed = ap (with_outcome r) (f c.item); absent = refl }
decided_kept b put answer (Records r c (Some d)) f = record { landed = ap (with_outcome r) (f c.item); absent = f d.item }

plain_kept : (b : Book) (p q : Plan) → p ≡ q → IsKept b q → IsKept b p
plain_kept b p q e h = subst (IsKept b) (sym e) h

shape_kept : (b : Book) (e : Event) (now : ℕ) (p : Plan) → Shape b e now p → IsKept b p
shape_kept b e now p (nothing_moves f) = plain_kept b p _ f (record { landed = refl; absent = refl })
shape_kept b e now p (time_moves a os came why o f) = plain_kept b p _ f (record { landed = refl; absent = refl })
shape_kept b e now p (time_passes came f) = plain_kept b p _ f (record { landed = refl; absent = refl })
shape_kept b e now p (transaction_moves id t answer d stands how o f) =
    plain_kept b p _ f (decided_kept b (put_transaction t.id (at_time now b)) answer (with_answer (moment_of b now) t d) (λ x. refl))
shape_kept b e now p (leaf_moves id l answer d stands how o f) = plain_kept b p _ f (decided_kept b (put_leaf l.id (at_time now b)) answer d (λ x. refl))
shape_kept b e now p (activity_moves id a answer d stands how o f) = plain_kept b p _ f (decided_kept b (put_activity a.id (at_time now b)) answer d (λ x. refl))
shape_kept b e now p (transaction_registers id a r t stands came at says o f) = plain_kept b p _ f (record { landed = refl; absent = refl })
shape_kept b e now p (transaction_made a c id t os came at says next made sent o f) = plain_kept b p _ f (record { landed = refl; absent = refl })
shape_kept b e now p (leaf_made a w id l os came at says next made sent o f) = plain_kept b p _ f (record { landed = refl; absent = refl })
shape_kept b e now p (activity_made id a os next made o f) = plain_kept b p _ f (record { landed = refl; absent = refl })

journaled_kept : (entry : Option Record) (rs : List Record) (ids : List Numbers) → ids ≡ outcomes_after [] rs → added entry ids ≡ outcomes_after [] (with_entry entry true rs)
journaled_kept None rs ids h = h
journaled_kept (Some r) rs ids h = ap (with_outcome r) h ∙ sym (outcomes_more [] rs (r ∷ []))

unjournaled_kept : (entry : Option Record) (rs : List Record) (ids : List Numbers) → ids ≡ outcomes_after [] rs → ids ≡ outcomes_after [] (with_entry entry false rs)
unjournaled_kept None rs ids h = h
unjournaled_kept (Some r) rs ids h = h

step_kept : (rs : List Record) (b : Book) (e : Event) (now : ℕ) (landed : Bool) → b.outcomes ≡ outcomes_after [] rs
    → (step b e now landed).book.outcomes ≡ outcomes_after [] (with_entry (plan b e now).entry landed rs)
step_kept rs b e now true h = (shape_kept b e now (plan b e now) (steps_touch_one b e now)).landed ∙ journaled_kept (plan b e now).entry rs b.outcomes h
step_kept rs b e now false h = (shape_kept b e now (plan b e now) (steps_touch_one b e now)).absent ∙ unjournaled_kept (plan b e now).entry rs b.outcomes h

kept_law : NodeLaw
kept_law = record {
  Good = λ rs o. IfThere (λ b. b.outcomes ≡ outcomes_after [] rs) o;
  opens = tt;
  steps = λ rs b e now landed h. step_kept rs b e now landed h;
  falls = λ rs b h. tt;
  rises = λ base rs small h. refl;
}

pub keeps_outcomes : KeepsOutcomes
unfolding kept_law
keeps_outcomes hosts es n x b found up =
    subst (IfThere (λ (b : Book). b.outcomes ≡ outcomes_after [] x.journal)) up (nodes_hold kept_law hosts (run_of hosts es) (run_reached hosts es) n x found)
