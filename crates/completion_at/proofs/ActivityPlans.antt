-- What is done to the activities is what the model's plan of the book does to them.
use Rattle.std.proofs.Common.{ℕ, List, [], Some, None, ◌≡◌, refl, sym, ap, subst, ◌∙◌}
use Rattle.at_base.specs.Numbers.{Numbers}
use Rattle.at_base.specs.declared.event.Arrived.{Arrived}
use Rattle.at_base.specs.declared.event.Moment.{Moment}
use Rattle.at_base.specs.declared.outs.Out.{Out}
use Rattle.at_model.specs.Activities.{on_activity}
use Rattle.at_model.specs.Book.{Book, Activity, activity_id, find_by, put_by}
use Rattle.at_model.specs.Due.{activity_due, activity_reached}
use Rattle.at_model.specs.Posts.{accepted}
use Rattle.at_model.specs.Step.{activity_at, activity_due_plan, activity_plan, at_time, initiator_plan, plain, put_activity, still, stranger_plan}
use Rattle.at_tables.specs.Tables.{initiator_of}
use Rattle.at_tables.specs.declared.cells.State.TheVariants as states
use Rattle.by_id.specs.Unmoved.{meant, unmoved}
use Rattle.by_id.specs.Plans.{chosen}
use Rattle.by_id.specs.declared.fates.Choice.{Choice}
use Rattle.by_id.proofs.Found.{chosen_so, found_id, put_found}
use Rattle.completion_at.specs.ActivityPlans.{Holds, whole, with_activities}

-- what is chosen for the activity that was found
pub decides : (b : Book) (now : ℕ) (answer : List Out) (id : Numbers) (a : Activity) (c : Choice Activity (Unit {0})) → activity_at b id ≡ Some a → whole b now (chosen answer a.id c) ≡ activity_plan b now answer a (meant (Some a) c)
decides b now answer id a c e =
    let same : record (at_time now b) { activities = put_by activity_id a.id (Some a) b.activities } ≡ at_time now b =
    ap (λ xs. record (at_time now b) { activities = xs }) (subst (λ k. put_by activity_id k (Some a) b.activities ≡ b.activities) (sym (found_id activity_id id a b.activities e)) (put_found activity_id id a b.activities e)) in
    chosen_so unmoved with_activities put_activity (λ d. refl) (λ k o d. refl) b now answer a.id a c (same, λ by. sym same)

-- a message at an activity
pub at_found : (b : Book) (now : ℕ) (xs : List Activity) (m : Moment) (r : Arrived) (id : Numbers) (a : Activity) (c : Choice Activity (Unit {0})) → Holds b now xs m → find_by activity_id id xs ≡ Some a
    → meant (Some a) c ≡ on_activity m r a r.message → whole b now (chosen accepted a.id c) ≡ initiator_plan b now r (activity_at b id)
unfolding initiator_plan
at_found b now xs m r id a c holds found chose =
    let here : activity_at b id ≡ Some a = ap (find_by activity_id id) holds.0 ∙ found in
    decides b now accepted id a c here
    ∙ ap (activity_plan b now accepted a) (chose ∙ ap (λ k. on_activity k r a r.message) holds.1)
    ∙ sym (ap (initiator_plan b now r) here)

pub at_none : (b : Book) (now : ℕ) (xs : List Activity) (m : Moment) (r : Arrived) (id : Numbers) → Holds b now xs m → find_by activity_id id xs ≡ None
    → stranger_plan b now r (initiator_of states.None) r.message ≡ initiator_plan b now r (activity_at b id)
unfolding initiator_plan
at_none b now xs m r id holds found = sym (ap (initiator_plan b now r) (ap (find_by activity_id id) holds.0 ∙ found))

-- one that is asked whether it is due
pub due : (b : Book) (now : ℕ) (xs : List Activity) (m : Moment) (id : Numbers) (a : Activity) (c : Choice Activity (Unit {0})) → Holds b now xs m → find_by activity_id id xs ≡ Some a
    → meant (Some a) c ≡ activity_reached m a (activity_due m a) → whole b now (chosen [] a.id c) ≡ activity_due_plan b now (activity_at b id)
due b now xs m id a c holds found chose =
    let here : activity_at b id ≡ Some a = ap (find_by activity_id id) holds.0 ∙ found in
    decides b now [] id a c here
    ∙ ap (activity_plan b now [] a) (chose ∙ ap (λ k. activity_reached k a (activity_due k a)) holds.1)
    ∙ sym (ap (activity_due_plan b now) here)

pub due_none : (b : Book) (now : ℕ) (xs : List Activity) (m : Moment) (id : Numbers) → Holds b now xs m → find_by activity_id id xs ≡ None → plain (still b []) ≡ activity_due_plan b now (activity_at b id)
due_none b now xs m id holds found = sym (ap (activity_due_plan b now) (ap (find_by activity_id id) holds.0 ∙ found))
