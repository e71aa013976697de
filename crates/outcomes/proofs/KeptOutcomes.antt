-- A book keeps the outcomes of its journal, in each reached world.
use Rattle.std.specs.Prelude.{ℕ, List, [], ◌∷◌, ◌++◌, Option, Some, None, Bool, true, false, not, ◌||◌, if◌then◌else◌, drop, take, filter, ◌≡◌, ◌⊎◌, refl}
use Rattle.std.proofs.Common.{inl, inr, sym, subst, ap, ◌∙◌}
use Rattle.std.proofs.lemmas.List.{take-append-drop}
use Rattle.at_base.specs.Numbers.{Numbers}
use Rattle.at_base.specs.declared.event.Event.{Event}
use Rattle.at_base.specs.declared.outs.Out.{Out}
use Rattle.at_base.specs.declared.record.Record.{Record}
use Rattle.at_base.specs.declared.record.Record.TheVariants as records
use Rattle.at_model.specs.Arrivals.{with_answer}
use Rattle.at_model.specs.Book.{Book, is_id}
use Rattle.at_model.specs.Moves.{Decision, Goes, Records}
use Rattle.at_model.specs.Outcomes.{is_kept, outcomes_after, put_last, with_outcome}
use Rattle.at_model.specs.Step.{Plan, at_time, moment_of, plan, plan_of, put_activity, put_leaf, put_transaction, step}
use Rattle.at_model.specs.World.{Node, World, nth, Hosts}
use Rattle.model_laws.specs.Agreement.{IsIn}
use Rattle.model_laws.specs.DrawnIds.{with_entry}
use Rattle.model_laws.specs.ReachedWorlds.{Reached}
use Rattle.model_laws.specs.Shapes.{Shape, activity_made, activity_moves, leaf_made, leaf_moves, nothing_moves, time_moves, time_passes, transaction_made, transaction_moves, transaction_registers}
use Rattle.model_laws.proofs.DecisionLaws.{IfThere}
use Rattle.model_laws.proofs.KeptOutcomes.{outcomes_more}
use Rattle.model_laws.proofs.ReachedWorlds.{NodeLaw, nodes_hold}
use Rattle.model_laws.proofs.RecoveryLaws.{same_id}
use Rattle.model_laws.proofs.StepShapes.{steps_touch_one}
use Rattle.model_laws.proofs.SeatRegistrations.{in_back}
use Rattle.agreement.proofs.SeatedEntries.{in_either}

-- the outcomes behind a plan: a record that stands may add one
abbrev added : Option Record → List Numbers → List Numbers
added None ids = ids
added (Some r) ids = with_outcome r ids

record Keeps (b : Book) (p : Plan) : Type 0 where
  landed : p.landed.book.outcomes ≡ added p.entry b.outcomes
  absent : p.absent.book.outcomes ≡ b.outcomes

decided_keeps : {A : Type 0} (b : Book) (put : Option A → Book) (answer : List Out) (d : Decision A) → ((x : Option A) → (put x).outcomes ≡ b.outcomes) → Keeps b (plan_of b put answer d)
decided_keeps b put answer (Goes c) f = record { landed = f c.item; absent = f c.item }
decided_keeps b put answer (Records r c None) f = record { landed = ap (with_outcome r) (f c.item); absent = refl }
decided_keeps b put answer (Records r c (Some d)) f = record { landed = ap (with_outcome r) (f c.item); absent = f d.item }

shape_keeps : (b : Book) (e : Event) (now : ℕ) (p : Plan) → Shape b e now p → Keeps b p
shape_keeps b e now p (nothing_moves f) = subst (Keeps b) (sym f) (record { landed = refl; absent = refl })
shape_keeps b e now p (time_moves a os came why o f) = subst (Keeps b) (sym f) (record { landed = refl; absent = refl })
shape_keeps b e now p (time_passes came f) = subst (Keeps b) (sym f) (record { landed = refl; absent = refl })
shape_keeps b e now p (transaction_moves id t answer d stands how o f) =
    subst (Keeps b) (sym f) (decided_keeps b (put_transaction t.id (at_time now b)) answer (with_answer (moment_of b now) t d) (λ x. refl))
shape_keeps b e now p (leaf_moves id l answer d stands how o f) = subst (Keeps b) (sym f) (decided_keeps b (put_leaf l.id (at_time now b)) answer d (λ x. refl))
shape_keeps b e now p (activity_moves id a answer d stands how o f) = subst (Keeps b) (sym f) (decided_keeps b (put_activity a.id (at_time now b)) answer d (λ x. refl))
shape_keeps b e now p (transaction_registers id a r t stands came at says o f) = subst (Keeps b) (sym f) (record { landed = refl; absent = refl })
shape_keeps b e now p (transaction_made a c id t os came at says next made sent o f) = subst (Keeps b) (sym f) (record { landed = refl; absent = refl })
shape_keeps b e now p (leaf_made a w id l os came at says next made sent o f) = subst (Keeps b) (sym f) (record { landed = refl; absent = refl })
shape_keeps b e now p (activity_made id a os next made o f) = subst (Keeps b) (sym f) (record { landed = refl; absent = refl })

journaled : (entry : Option Record) (rs : List Record) (ids : List Numbers) → ids ≡ outcomes_after [] rs → added entry ids ≡ outcomes_after [] (with_entry entry true rs)
journaled None rs ids h = h
journaled (Some r) rs ids h = ap (with_outcome r) h ∙ sym (outcomes_more [] rs (r ∷ []))

unjournaled : (entry : Option Record) (rs : List Record) (ids : List Numbers) → ids ≡ outcomes_after [] rs → ids ≡ outcomes_after [] (with_entry entry false rs)
unjournaled None rs ids h = h
unjournaled (Some r) rs ids h = h

step_keeps : (rs : List Record) (b : Book) (e : Event) (now : ℕ) (landed : Bool) → b.outcomes ≡ outcomes_after [] rs
    → (step b e now landed).book.outcomes ≡ outcomes_after [] (with_entry (plan b e now).entry landed rs)
step_keeps rs b e now true h = (shape_keeps b e now (plan b e now) (steps_touch_one b e now)).landed ∙ journaled (plan b e now).entry rs b.outcomes h
step_keeps rs b e now false h = (shape_keeps b e now (plan b e now) (steps_touch_one b e now)).absent ∙ unjournaled (plan b e now).entry rs b.outcomes h

keeping : NodeLaw
keeping = record {
  Good = λ rs o. IfThere (λ b. b.outcomes ≡ outcomes_after [] rs) o;
  opens = tt;
  steps = λ rs b e now landed h. step_keeps rs b e now landed h;
  falls = λ rs b h. tt;
  rises = λ base rs small h. refl;
}

pub keeps_outcomes : (hosts : Hosts) (w : World) → Reached hosts w → (n : ℕ) (x : Node) (b : Book) → nth n w.nodes ≡ Some x → x.book ≡ Some b → b.outcomes ≡ outcomes_after [] x.journal
unfolding keeping
keeps_outcomes hosts w reached n x b found up = subst (IfThere (λ (c : Book). c.outcomes ≡ outcomes_after [] x.journal)) up (nodes_hold keeping hosts w reached n x found)

-- each kept id is that of a record that adds it
abbrev pub Adds : Record → Numbers → Type 0
Adds (records.Decided i seats) id = i ≡ id
Adds (records.Done i) id = i ≡ id
Adds other id = ⊥

pub record IsAdded (rs : List Record) (id : Numbers) : Type 0 where
  pub by : Record
  pub stands : IsIn by rs
  pub adds : Adds by id

kept_in : (id : Numbers) (ids : List Numbers) → is_kept id ids ≡ true → IsIn id ids
kept_in id [] e = cc
kept_in id (i ∷ ids) e = by_test (is_id i id) refl (kept_in id ids) e
  where
    by_test : (c : Bool) → is_id i id ≡ c → (is_kept id ids ≡ true → IsIn id ids) → (c || is_kept id ids) ≡ true → IsIn id (i ∷ ids)
    by_test true f rest g = inl (sym (same_id i id f))
    by_test false f rest g = inr (rest g)

in_drop : (k : ℕ) (id : Numbers) (ids : List Numbers) → IsIn id (drop k ids) → IsIn id ids
in_drop k id ids i = subst (IsIn id) (take-append-drop k ids) (in_back id (take k ids) (drop k ids) i)

in_filter : (q : Numbers → Bool) (id : Numbers) (ids : List Numbers) → IsIn id (filter q ids) → IsIn id ids
in_filter q id [] i = i
in_filter q id (x ∷ ids) i = by_test (q x) (in_filter q id ids) i
  where
    by_test : (c : Bool) → (IsIn id (filter q ids) → IsIn id ids) → IsIn id (if c then x ∷ filter q ids else filter q ids) → IsIn id (x ∷ ids)
    by_test true rest (inl e) = inl e
    by_test true rest (inr k) = inr (rest k)
    by_test false rest k = inr (rest k)

one_more : (id : Numbers) (ids : List Numbers) (i : Numbers) → IsIn id (put_last i ids) → IsIn id ids ⊎ (i ≡ id)
one_more id ids i k = by_place (in_either id (filter (λ j. not (is_id j i)) ids) (i ∷ []) (in_drop _ id (filter (λ j. not (is_id j i)) ids ++ i ∷ []) k))
  where
    by_place : IsIn id (filter (λ j. not (is_id j i)) ids) ⊎ IsIn id (i ∷ []) → IsIn id ids ⊎ (i ≡ id)
    by_place (inl h) = inl (in_filter (λ j. not (is_id j i)) id ids h)
    by_place (inr (inl e)) = inr (sym e)
    by_place (inr (inr h)) = absurd h

with_one : (id : Numbers) (ids : List Numbers) (r : Record) → IsIn id (with_outcome r ids) → IsIn id ids ⊎ Adds r id
with_one id ids (records.Decided i seats) k = one_more id ids i k
with_one id ids (records.Done i) k = one_more id ids i k
with_one id ids (records.Start incarnation) k = inl k
with_one id ids (records.LeafPrepared i coordinator key value) k = inl k
with_one id ids (records.LeafCommitted i) k = inl k
with_one id ids (records.LeafAborted i) k = inl k
with_one id ids (records.Voted i superior seats) k = inl k
with_one id ids (records.SubCommitted i) k = inl k
with_one id ids (records.Ended i) k = inl k

from_records : (id : Numbers) (rs : List Record) (ids : List Numbers) → IsIn id (outcomes_after ids rs) → IsIn id ids ⊎ IsAdded rs id
from_records id [] ids k = inl k
from_records id (r ∷ rs) ids k = by_rest (from_records id rs (with_outcome r ids) k)
  where
    by_first : IsIn id ids ⊎ Adds r id → IsIn id ids ⊎ IsAdded (r ∷ rs) id
    by_first (inl h) = inl h
    by_first (inr a) = inr (record { by = r; stands = inl refl; adds = a })

    by_rest : IsIn id (with_outcome r ids) ⊎ IsAdded rs id → IsIn id ids ⊎ IsAdded (r ∷ rs) id
    by_rest (inl h) = by_first (with_one id ids r h)
    by_rest (inr a) = inr (record { by = a.by; stands = inr a.stands; adds = a.adds })

pub kept_added : (hosts : Hosts) (w : World) → Reached hosts w → (n : ℕ) (x : Node) (b : Book) → nth n w.nodes ≡ Some x → x.book ≡ Some b → (id : Numbers) → is_kept id b.outcomes ≡ true
    → IsAdded x.journal id
kept_added hosts w reached n x b found up id kept =
    either (from_records id x.journal [] (subst (IsIn id) (keeps_outcomes hosts w reached n x b found up) (kept_in id b.outcomes kept)))
  where
    either : IsIn id [] ⊎ IsAdded x.journal id → IsAdded x.journal id
    either (inl h) = absurd h
    either (inr a) = a
