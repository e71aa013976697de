-- In every run an activity stands as far as it came.
use Rattle.std.specs.Prelude.{ℕ, List, [], ◌∷◌, Option, Some, None, Bool, not, ◌+◌, ◌≡◌, ◌⊎◌, refl}
use Rattle.std.specs.List.{AllByRecursion}
use Rattle.std.proofs.Common.{inl, inr, sym, subst, ap}
use Rattle.at_base.specs.Numbers.{Numbers}
use Rattle.at_base.specs.declared.epr.Epr.{Epr}
use Rattle.at_base.specs.declared.notice.Notice.{Notice}
use Rattle.at_base.specs.declared.notice.Notice.TheVariants as notices
use Rattle.at_base.specs.declared.outs.Out.{Out}
use Rattle.at_base.specs.declared.record.Record.{Record}
use Rattle.at_base.specs.declared.event.Event.{Event}
use Rattle.at_base.specs.declared.event.Event.TheVariants as events
use Rattle.at_base.specs.declared.event.Moment.{Moment}
use Rattle.at_model.specs.Posts.{accepted}
use Rattle.at_model.specs.Book.{Book, Activity, Progress, activity_id, put_by}
use Rattle.at_model.specs.Moves.{Change, Decision, Goes, Records}
use Rattle.at_model.specs.Arrivals.{with_answer}
use Rattle.at_model.specs.Activities.{Refusal, on_begin, on_interpose}
use Rattle.at_model.specs.Register.{on_register}
use Rattle.at_model.specs.Step.{Outcome, Plan, plain, still, activity_at, at_time, moment_of, is_under, local_plan, put_transaction, put_leaf, put_activities, put_activity, make_transaction, make_leaf, make_activity, refuses, registration_outcome, plan, step}
use Rattle.at_model.specs.World.{Node, WorldEvent, nth, run_of, Hosts}
use Rattle.model_laws.specs.Shapes.{MakesActivity, Shape, begins, interposes, nothing_moves, time_moves, time_passes, transaction_moves, leaf_moves, activity_moves, transaction_registers, transaction_made, leaf_made, activity_made}
use Rattle.model_laws.proofs.DecisionLaws.{Both, in_branch, plain_both, decision_both, DecisionHas, IfThere, decided_both, all_filter, all_find, all_put, all_join, found_id}
use Rattle.model_laws.proofs.ReachedWorlds.{NodeLaw, nodes_hold, run_reached}
use Rattle.model_laws.proofs.StepShapes.{steps_touch_one}
use Rattle.agreement.specs.Branches.{InBranches}
use Rattle.agreement.specs.ActivityDeeds.{ActivityStands, creates, registers, runs, runs_under, completes, ActivitiesStand, ActivityStates, ActivityDeed, ActivityIdles, rests, misled, created, interposed, registered, registers_again, asks_again, works, asks, idles, tells, IsTaken, NeverUndone}
use Rattle.agreement.proofs.ActivityRules.{activities_do}
use Rattle.agreement.proofs.ActivityPosts.{which}

-- what is left stands
again : (a : Activity) (sent : Option ℕ) → ActivityStands a → ActivityStands (record a { sent = sent })
again a sent (creates p x c) = creates p x c
again a sent (registers context o p x c) = registers context o p x c
again a sent (runs context to o p x c) = runs context to o p x c
again a sent (runs_under context o p x c) = runs_under context o p x c
again a sent (completes n context to o w p x c) = completes n context to o w p x c

worked : (a : Activity) (count : ℕ) → ActivityStands a → ActivityStands (record a { works = count })
worked a count (creates p x c) = creates p x c
worked a count (registers context o p x c) = registers context o p x c
worked a count (runs context to o p x c) = runs context to o p x c
worked a count (runs_under context o p x c) = runs_under context o p x c
worked a count (completes n context to o w p x c) = completes n context to o w p x c

no_coordinator : (a : Activity) → ActivityStands a → a.progress ≡ Progress.Creating → a.coordinator ≡ None
no_coordinator a (creates p x c) e = c
no_coordinator a (registers context o p x c) e = absurd cc
no_coordinator a (runs context to o p x c) e = absurd cc
no_coordinator a (runs_under context o p x c) e = absurd cc
no_coordinator a (completes n context to o w p x c) e = absurd cc

is_registered : (a : Activity) (to : Epr) → ActivityStands a → a.progress ≡ Progress.Registering → ActivityStands (record a { progress = Progress.Active; coordinator = Some to })
is_registered a to (creates p x c) e = absurd cc
is_registered a to (registers context o p x c) e = runs context to o refl x refl
is_registered a to (runs context other o p x c) e = absurd cc
is_registered a to (runs_under context o p x c) e = absurd cc
is_registered a to (completes n context other o w p x c) e = absurd cc

is_asked : (m : Moment) (a : Activity) (n : Notice) (to : Epr) → ActivityStands a → (w : (n ≡ notices.Commit) ⊎ (n ≡ notices.Rollback)) → a.progress ≡ Progress.Active → a.coordinator ≡ Some to
    → ActivityStands (record a { progress = Progress.Completing n; sent = Some m.now })
is_asked m a n to (creates p x c) w e f = absurd cc
is_asked m a n to (registers context o p x c) w e f = absurd cc
is_asked m a n to (runs context other o p x c) w e f = completes n context other o w refl x c
is_asked m a n to (runs_under context o p x c) w e f = absurd cc
is_asked m a n to (completes k context other o v p x c) w e f = absurd cc

idle_stands : (m : Moment) (e : Event) (a left : Activity) (c : Change Activity) → ActivityStands a → ActivityIdles m e a left c.posts → ActivityStands left
idle_stands m e a left c h (rests is p) = subst ActivityStands (sym is) h
idle_stands m e a left c h (misled came s is p) = subst ActivityStands (sym is) h
idle_stands m e a left c h (created context came f s o is p) = subst ActivityStands (sym is) (registers context o refl refl (no_coordinator a h s))
idle_stands m e a left c h (interposed context came f s o is p) = subst ActivityStands (sym is) (runs_under context o refl refl (no_coordinator a h s))
idle_stands m e a left c h (registered to came f s is p) = subst ActivityStands (sym is) (is_registered a to h s)
idle_stands m e a left c h (registers_again context came s x is p) = subst ActivityStands (sym is) (again a (Some m.now) h)
idle_stands m e a left c h (asks_again n to came w s x is p) = subst ActivityStands (sym is) (again a (Some m.now) h)
idle_stands m e a left c h (works url kind vote key value context came s x is p) = subst ActivityStands (sym is) (worked a (a.works + 1) h)
idle_stands m e a left c h (asks n to came o s x is p) = subst ActivityStands (sym is) (is_asked m a n to h (which n came) s x)

deed_stands : (m : Moment) (e : Event) (a : Activity) (entry : Option Record) (c : Change Activity) → ActivityStands a → ActivityDeed m e a entry c → IfThere ActivityStands c.item
deed_stands m e a entry c h (idles left why f item effects) = subst (IfThere ActivityStands) (sym item) (idle_stands m e a left c h why)
deed_stands m e a entry c h (tells what why f item effects posts) = subst (IfThere ActivityStands) (sym item) tt

NoNames : Record → Option Activity → Type 0
NoNames r left = Unit {0}

branches_stand : (m : Moment) (e : Event) (a : Activity) (d : Decision Activity) → ActivityStands a → InBranches (ActivityDeed m e a) NeverUndone d → DecisionHas (IfThere ActivityStands) NoNames d
unfolding NoNames
branches_stand m e a (Goes c) h k = deed_stands m e a None c h k
branches_stand m e a (Records r c None) h (k, u) = absurd u
branches_stand m e a (Records r c (Some d)) h (k, i) = record { entry = tt; landed = deed_stands m e a (Some r) c h k; otherwise = deed_stands m e a None d h i }

-- what is made waits for its context
made_stands : (b : Book) (e : Event) (now : ℕ) (id : Numbers) (a : Activity) (os : List Out) → MakesActivity b e now id a os → ActivityStands a
unfolding on_begin on_interpose
made_stands b e now id a os (begins coordinator ms came is o) = subst ActivityStands (sym is) (creates refl refl refl)
made_stands b e now id a os (interposes coordinator named x came found is o) = subst ActivityStands (sym is) (creates refl refl refl)

-- an activity that is told goes with all that are under it
all_kept : (id : Numbers) (a : Option Activity) (list : List Activity) → IfThere ActivityStands a → AllByRecursion ActivityStands list → AllByRecursion ActivityStands (put_activities id a list)
all_kept id None list h k = all_filter ActivityStands (λ x. not (is_under id x)) (put_by activity_id id None list) (all_put ActivityStands activity_id id None list h k)
all_kept id (Some a) list h k = all_put ActivityStands activity_id id (Some a) list h k

-- a step
StandAfter : Outcome → Type 0
StandAfter o = ActivitiesStand o.book

stand_both : (b : Book) (e : Event) (now : ℕ) (p : Plan) → ActivitiesStand b → IsTaken b e → Shape b e now p → Both StandAfter p
unfolding StandAfter
stand_both b e now p h t (nothing_moves f) = subst (Both StandAfter) (sym f) (plain_both StandAfter (still b []) h)
stand_both b e now p h t (time_moves a os came why o f) = subst (Both StandAfter) (sym f) (plain_both StandAfter (still (at_time now b) os) h)
stand_both b e now p h t (time_passes came f) = subst (Both StandAfter) (sym f) (plain_both StandAfter (still (at_time now b) accepted) h)
stand_both b e now p h t (transaction_moves id x answer d stands how o f) =
    subst (Both StandAfter) (sym f)
    (decision_both StandAfter (λ r o i. i) b (put_transaction x.id (at_time now b)) answer (with_answer (moment_of b now) x d) (λ c. h) h)
stand_both b e now p h t (leaf_moves id l answer d stands how o f) =
    subst (Both StandAfter) (sym f) (decision_both StandAfter (λ r o i. i) b (put_leaf l.id (at_time now b)) answer d (λ c. h) h)
stand_both b e now p h t (activity_moves id a answer d stands how o f) =
    subst (Both StandAfter) (sym f)
    (decided_both (IfThere ActivityStands) NoNames StandAfter (λ r o i. i) b (put_activity a.id (at_time now b)) answer d
    (branches_stand (moment_of b now) e a d (all_find ActivityStands activity_id id b.activities a h stands)
    (activities_do.deed b e now a d (subst (λ i. activity_at b i ≡ Some a) (sym (found_id activity_id id b.activities a stands)) stands)
    (all_find ActivityStands activity_id id b.activities a h stands) t how))
    (λ c k. all_kept a.id c.item b.activities k h) h)
stand_both b e now p h t (transaction_registers id a r x stands came at says o f) =
    subst (Both StandAfter) (sym f) (plain_both StandAfter (registration_outcome b now (on_register (moment_of b now) a r x)) h)
stand_both b e now p h t (transaction_made a c id x os came at says next made sent o f) =
    subst (Both StandAfter) (sym f) (plain_both StandAfter (still (make_transaction (at_time now b) x) os) h)
stand_both b e now p h t (leaf_made a w id x os came at says next made sent o f) =
    subst (Both StandAfter) (sym f) (plain_both StandAfter (still (make_leaf (at_time now b) x) os) h)
stand_both b e now p h t (activity_made id a os next made o f) =
    subst (Both StandAfter) (sym f)
    (plain_both StandAfter (still (make_activity (at_time now b) a) os)
    (all_join ActivityStands b.activities (a ∷ []) h (made_stands b e now id a os made, tt)))

-- a request that is refused changes nothing
pub refused_or_taken : (b : Book) (e : Event) (now : ℕ) → IsTaken b e ⊎ (plan b e now ≡ plain (still b []))
refused_or_taken b (events.Arrived a) now = inl (λ l f. absurd cc)
refused_or_taken b (events.Due item) now = inl (λ l f. absurd cc)
refused_or_taken b events.Tick now = inl (λ l f. absurd cc)
refused_or_taken b (events.Local l) now = by_case (refuses b l) refl
  where
    by_case : (o : Option Refusal) → refuses b l ≡ o → IsTaken b (events.Local l) ⊎ (local_plan b now l (refuses b l) ≡ plain (still b []))
    by_case None f = inl (λ k g. let same : l ≡ k = cc in subst (λ x. refuses b x ≡ None) same f)
    by_case (Some refusal) f = inr (ap (local_plan b now l) f)

plan_stands : (b : Book) (e : Event) (now : ℕ) → ActivitiesStand b → IsTaken b e ⊎ (plan b e now ≡ plain (still b [])) → Both StandAfter (plan b e now)
unfolding StandAfter
plan_stands b e now h (inl t) = stand_both b e now (plan b e now) h t (steps_touch_one b e now)
plan_stands b e now h (inr f) = subst (Both StandAfter) (sym f) (plain_both StandAfter (still b []) h)

step_stands : (b : Book) (e : Event) (now : ℕ) (landed : Bool) → ActivitiesStand b → ActivitiesStand (step b e now landed).book
unfolding StandAfter
step_stands b e now landed h = in_branch StandAfter (plan b e now) landed (plan_stands b e now h (refused_or_taken b e now))

-- runs
standing_law : NodeLaw
standing_law = record {
  Good = λ rs o. IfThere ActivitiesStand o;
  opens = tt;
  steps = λ rs b e now landed h. step_stands b e now landed h;
  falls = λ rs b h. tt;
  rises = λ base rs small h. tt;
}

run_stands : (hosts : Hosts) (es : List WorldEvent) (n : ℕ) (x : Node) (b : Book) → nth n (run_of hosts es).nodes ≡ Some x → x.book ≡ Some b → ActivitiesStand b
unfolding standing_law
run_stands hosts es n x b found up =
    subst (IfThere ActivitiesStand) up (nodes_hold standing_law hosts (run_of hosts es) (run_reached hosts es) n x found)

pub activity_states : ActivityStates
activity_states = record { book = step_stands; recovered = λ base rs. tt; books = run_stands }
