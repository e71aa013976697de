-- What a request does is what the model's plan of the book does, and nothing where the model refuses it.
use Rattle.std.proofs.Common.{ℕ, List, [], Option, Some, None, true, nat_lt, length, ◌≡◌, refl, sym, ap, ◌∙◌}
use Rattle.at_base.specs.Numbers.{Numbers}
use Rattle.at_base.specs.declared.event.Local.{Local}
use Rattle.at_base.specs.declared.event.Local.TheVariants as locals
use Rattle.at_base.specs.declared.event.Moment.{Moment}
use Rattle.at_base.specs.declared.notice.Kind.{Kind}
use Rattle.at_base.specs.declared.notice.Notice.{Notice}
use Rattle.at_base.specs.declared.notice.Vote.{Vote}
use Rattle.at_model.specs.Activities.{Refusal, is_active, is_begun, on_ask, on_complete}
use Rattle.at_model.specs.Book.{Book, Activity, activity_id, find_by, last_counter, next_id}
use Rattle.at_model.specs.Moves.{Change, Goes}
use Rattle.at_model.specs.Step.{activity_at, activity_plan, asking_plan, local_plan, moment_of, no_room, only_begun, refuses_named, refuses, request_plan, works_left}
use Rattle.by_id.specs.Unmoved.{turn_of}
use Rattle.by_id.specs.Plans.{chosen}
use Rattle.by_id.specs.declared.fates.Choice.TheVariants as choices
use Rattle.by_id.specs.declared.fates.Turn.{Turn}
use Rattle.by_id.specs.declared.plan.Plan.{Plan as Planned}
use Rattle.completion_at.proofs.ActivityPlans.{decides}
use Rattle.completion_at.specs.ActivityPlans.{Holds, RefusesAsTheModel, begun, no_room as room_for, unless, whole}

rooms : (b : Book) (next : Option Numbers) → no_room b next ≡ room_for (length b.activities) next
rooms b None = refl
rooms b (Some id) = refl

pub refuses_as_the_model : RefusesAsTheModel
refuses_as_the_model b (locals.Begin coordinator ms) = rooms b (next_id b)
refuses_as_the_model b (locals.Interpose activity coordinator) = ap (refuses_named (activity_at b activity)) (rooms b (next_id b))
refuses_as_the_model b (locals.Work activity url kind vote key value) = refl
refuses_as_the_model b (locals.Commit activity) = refl
refuses_as_the_model b (locals.Rollback activity) = refl

-- a request, where it isn't refused
unless_refused : (b : Book) (now : ℕ) (l : Local) (why : Option Refusal) → unless b why (request_plan b now l) ≡ local_plan b now l why
unless_refused b now l None = refl
unless_refused b now l (Some why) = refl

pub requests : (b : Book) (now : ℕ) (l : Local) → unless b (refuses b l) (request_plan b now l) ≡ local_plan b now l (refuses b l)
requests b now l = unless_refused b now l (refuses b l)

-- a request at an activity that takes it
takes : (b : Book) (now : ℕ) (id : Numbers) (a : Activity) (t : Turn Activity (Unit {0})) (change : Activity → Change Activity) (more : Option Activity → Option Refusal) → activity_at b id ≡ Some a → is_active a.progress ≡ true → more (Some a) ≡ None
    → turn_of (Some a) t ≡ change a → whole b now (chosen [] a.id (choices.Goes t)) ≡ unless b (refuses_named (activity_at b id) (more (activity_at b id))) (asking_plan b now change (activity_at b id))
takes b now id a t change more here active none done =
    decides b now [] id a (choices.Goes t) here
    ∙ ap (λ c. activity_plan b now [] a (Goes c)) done
    ∙ sym (ap (λ o. unless b (refuses_named o (more o)) (asking_plan b now change o)) here ∙ rw active (rw none refl))

pub asks : (b : Book) (now : ℕ) (xs : List Activity) (m : Moment) (id : Numbers) (url : List ℕ) (kind : Kind) (vote : Vote) (key value : List ℕ) (a : Activity) (t : Turn Activity (Unit {0})) (plan : Planned Activity (Unit {0}))
    → Holds b now xs m → find_by activity_id id xs ≡ Some a → is_active a.progress ≡ true → nat_lt a.works last_counter ≡ true → turn_of (Some a) t ≡ on_ask m url kind vote key value a a.context
    → plan ≡ chosen [] a.id (choices.Goes t)
    → whole b now plan ≡ unless b (refuses_named (activity_at b id) (works_left (activity_at b id))) (asking_plan b now (λ x. on_ask (moment_of b now) url kind vote key value x x.context) (activity_at b id))
asks b now xs m id url kind vote key value a t plan holds found active left done is =
    ap (whole b now) is
    ∙ takes b now id a t (λ x. on_ask (moment_of b now) url kind vote key value x x.context) works_left (ap (find_by activity_id id) holds.0 ∙ found) active (rw left refl)
    (done ∙ ap (λ k. on_ask k url kind vote key value a a.context) holds.1)

pub completes : (b : Book) (now : ℕ) (xs : List Activity) (m : Moment) (id : Numbers) (notice : Notice) (a : Activity) (t : Turn Activity (Unit {0})) (plan : Planned Activity (Unit {0}))
    → Holds b now xs m → find_by activity_id id xs ≡ Some a → is_active a.progress ≡ true → is_begun a ≡ true → turn_of (Some a) t ≡ on_complete m notice a
    → plan ≡ chosen [] a.id (choices.Goes t)
    → whole b now plan ≡ unless b (refuses_named (activity_at b id) (only_begun (activity_at b id))) (asking_plan b now (on_complete (moment_of b now) notice) (activity_at b id))
completes b now xs m id notice a t plan holds found active begun done is =
    ap (whole b now) is
    ∙ takes b now id a t (on_complete (moment_of b now) notice) only_begun (ap (find_by activity_id id) holds.0 ∙ found) active (rw begun refl)
    (done ∙ ap (λ k. on_complete k notice a) holds.1)
