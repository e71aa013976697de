-- Each out of a node's steps has its call: an answer a status that HTTP has, and a post a URL to go to.
use Rattle.std.specs.Prelude.{ℕ, List, [], ◌∷◌, ◌≡◌, IfSome, Option, Some, None, Bool, true, false, if◌then◌else◌, is_some, map}
use Rattle.std.specs.List.{AllByRecursion}
use Rattle.std.proofs.Common.{refl, sym, ap, subst, ◌∙◌, inl, inr}
use Rattle.std.proofs.lemmas.List.{append-nil}
use Rattle.addressed_posts.specs.AddressedPosts.{IsAddressed, PostsAreAddressed}
use Rattle.addressing.specs.declared.post_to.PostTo.{PostTo}
use Rattle.at_base.specs.Numbers.{Numbers}
use Rattle.at_base.specs.declared.event.Event.{Event}
use Rattle.at_base.specs.declared.event.Event.TheVariants as events
use Rattle.at_base.specs.declared.event.Item.{Item}
use Rattle.at_base.specs.declared.event.Local.{Local}
use Rattle.at_base.specs.declared.event.Local.TheVariants as locals
use Rattle.at_base.specs.declared.outs.Out.{Out}
use Rattle.at_base.specs.declared.outs.Out.TheVariants as outs
use Rattle.at_base.specs.declared.outs.Post.{Post}
use Rattle.at_model.specs.Activities.{Beginning, Refusal, on_ask, on_begin, on_complete, on_interpose}
use Rattle.at_model.specs.Book.{Activity, Book, next_id}
use Rattle.at_model.specs.Step.{Outcome, Plan, activity_at, asking_plan, begin_plan, begun_plan, interpose_plan, is_due, items_of, local_plan, moment_of, plan, refuses, request_plan, step}
use Rattle.at_model.specs.Moves.{Change}
use Rattle.at_model.specs.World.{answer_plan}
use Rattle.at_base.specs.declared.epr.Epr.{Epr}
use Rattle.at_base.specs.declared.event.Arrived.{Arrived}
use Rattle.at_base.specs.declared.notice.Notice.TheVariants as notices
use Rattle.deliverables.specs.Deliverables.{deliverable}
use Rattle.deliveries.proofs.TurnForms.{Fits}
use Rattle.fated_walks.specs.Fated.{AreFirstDue, AreUnrecorded, Fated, IsPlanned}
use Rattle.http_post.specs.OutBytes.{has_reason}
use Rattle.interposition.specs.Due.{due_outcome, due_outcomes}
use Rattle.model_laws.specs.Laws.{ArePosts, StepsKeepPlace}
use Rattle.node_at.specs.Replies.{IsReplied, IsReply, StepsReply}
use Rattle.node_at.specs.Texts.{IsAnswerOf, IsPostOf, goes_to}
use Rattle.node_events.proofs.PlannedSteps.{outcome_by}
use Rattle.provenance.specs.Forms.{AreOuts, HaveOwn, IsArrived, IsEvent, IsLocal, IsOut}
use Rattle.provenance.specs.Provenance.{StepsPassOn}
use Rattle.mirrored_nets.proofs.ToldFares.{HasCall, HaveCalls}

-- a status that HTTP has
abbrev HasReason : Out → Type 0
HasReason (outs.Answer status reply) = has_reason status ≡ true
HasReason (outs.Post p) = Unit {0}

pub replied : (status : ℕ) → IsReplied status → has_reason status ≡ true
replied status (inl e) = ap has_reason e
replied status (inr (inl e)) = ap has_reason e
replied status (inr (inr e)) = ap has_reason e

pub posts_have : (os : List Out) → ArePosts os → AllByRecursion HasReason os
posts_have [] h = tt
posts_have (outs.Post p ∷ os) h = (tt, posts_have os h)
posts_have (outs.Answer status reply ∷ os) h = absurd h

replies_have : (os : List Out) → IsReply os → AllByRecursion HasReason os
replies_have [] h = absurd h
replies_have (outs.Post p ∷ os) h = absurd h
replies_have (outs.Answer status reply ∷ os) (h, more) = (replied status h, posts_have os more)

replies_some : (os : List Out) → IsReply os → os ≡ [] → ⊥
replies_some [] h e = h
replies_some (o ∷ os) h e = absurd cc

-- a plan that answers, wherever its record stands
pub record IsAnswering (p : Plan) : Type 0 where
  pub some : (landed : Bool) → (outcome_by p landed).outs ≡ [] → ⊥

answer_some : (status : ℕ) (os : List Out) → os ≡ outs.Answer status None ∷ [] → os ≡ [] → ⊥
answer_some status [] e f = absurd cc
answer_some status (o ∷ os) e f = absurd cc

pub answer_answering : (b : Book) (status : ℕ) → IsAnswering (answer_plan b status)
answer_answering b status = record { some = by }
  where
    by : (landed : Bool) → (outcome_by (answer_plan b status) landed).outs ≡ [] → ⊥
    by true e = answer_some status (outs.Answer status None ∷ []) refl e
    by false e = answer_some status (outs.Answer status None ∷ []) refl e

pub arrived_answering : StepsReply → (b : Book) (a : Arrived) (now : ℕ) → IsAnswering (plan b (events.Arrived a) now)
arrived_answering reply b a now = record { some = λ landed. replies_some (step b (events.Arrived a) now landed).outs (reply.arrived b a now landed) }

pub tick_answering : StepsReply → (b : Book) (now : ℕ) → IsAnswering (plan b events.Tick now)
tick_answering reply b now = record { some = λ landed. replies_some (step b events.Tick now landed).outs (reply.ticks b now landed) }

pub planned_answers : (p : Plan) (f : Fated) → IsAnswering p → IsPlanned p f → f.outcome.outs ≡ [] → ⊥
planned_answers p f answering planned e = answering.some f.landed (sym (ap (λ (z : Outcome). z.outs) planned.outcome) ∙ e)

-- a request is answered by no out
are_posts : (ps : List Post) → ArePosts (map outs.Post ps)
are_posts [] = tt
are_posts (p ∷ ps) = are_posts ps

abbrev BothPost : Plan → Type 0
BothPost p = ArePosts p.landed.outs × ArePosts p.absent.outs

moved_posts : (b : Book) (now : ℕ) (o : Option Activity) (change : Activity → Change Activity) → BothPost (asking_plan b now change o)
moved_posts b now None change = (tt, tt)
moved_posts b now (Some a) change = (are_posts (change a).posts, are_posts (change a).posts)

begun_posts : (b : Book) (now : ℕ) (x : Beginning) → BothPost (begun_plan b now x)
begun_posts b now x = (are_posts x.posts, are_posts x.posts)

begin_posts : (b : Book) (now : ℕ) (coordinator : List ℕ) (ms : ℕ) (next : Option Numbers) → BothPost (begin_plan b now coordinator ms next)
begin_posts b now coordinator ms None = (tt, tt)
begin_posts b now coordinator ms (Some id) = begun_posts b now (on_begin (moment_of b now) id coordinator ms)

interpose_posts : (b : Book) (now : ℕ) (coordinator : List ℕ) (next : Option Numbers) (o : Option Activity) → BothPost (interpose_plan b now coordinator next o)
interpose_posts b now coordinator None o = (tt, tt)
interpose_posts b now coordinator (Some id) None = (tt, tt)
interpose_posts b now coordinator (Some id) (Some a) = begun_posts b now (on_interpose (moment_of b now) id coordinator a.root a.context)

request_posts : (b : Book) (now : ℕ) (l : Local) → BothPost (request_plan b now l)
unfolding request_plan
request_posts b now (locals.Begin coordinator ms) = begin_posts b now coordinator ms (next_id b)
request_posts b now (locals.Interpose activity coordinator) = interpose_posts b now coordinator (next_id b) (activity_at b activity)
request_posts b now (locals.Work activity url kind vote key value) = moved_posts b now (activity_at b activity) (λ a. on_ask (moment_of b now) url kind vote key value a a.context)
request_posts b now (locals.Commit activity) = moved_posts b now (activity_at b activity) (on_complete (moment_of b now) notices.Commit)
request_posts b now (locals.Rollback activity) = moved_posts b now (activity_at b activity) (on_complete (moment_of b now) notices.Rollback)

local_posts : (b : Book) (now : ℕ) (l : Local) (why : Option Refusal) → BothPost (local_plan b now l why)
local_posts b now l None = request_posts b now l
local_posts b now l (Some refusal) = (tt, tt)

in_branch : (p : Plan) (landed : Bool) → BothPost p → ArePosts (outcome_by p landed).outs
in_branch p true h = h.0
in_branch p false h = h.1

-- it has a call
some_goes : (to : Option PostTo) (p : Post) → is_some to ≡ true → IsPostOf to p None → ⊥
some_goes None p e h = absurd cc
some_goes (Some to) p e h = h

named_goes : (to : Option Epr) (p : Post) → IfSome to deliverable.endpoint → (endpoint : Epr) → to ≡ Some endpoint → IsPostOf (goes_to to) p None → ⊥
named_goes None p fit endpoint e h = absurd cc
named_goes (Some other) p fit endpoint e h = some_goes (goes_to (Some other)) p fit.postable h

out_called : (o : Out) → HasReason o → IsAddressed o → IsOut deliverable o → HasCall o
out_called (outs.Post p) reason (endpoint, e) fit h = named_goes p.to p fit.to endpoint e h
out_called (outs.Answer status reply) reason named fit h = subst (λ b. IsAnswerOf b status reply None) reason h

outs_called : (os : List Out) → AllByRecursion HasReason os → AllByRecursion IsAddressed os → AreOuts deliverable os → AllByRecursion HasCall os
outs_called [] h k l = tt
outs_called (o ∷ os) (h, more) (k, others) (l, rest) = (out_called o h k l, outs_called os more others rest)

module _ (addressed : PostsAreAddressed) (reply : StepsReply) (pass : StepsPassOn deliverable) (place : StepsKeepPlace) (root : List ℕ) (own : HaveOwn deliverable root) where
  step_called : (b : Book) (e : Event) (now : ℕ) (landed : Bool) → Fits deliverable root b → IsEvent deliverable e → AllByRecursion HasReason (step b e now landed).outs
      → AllByRecursion HasCall (step b e now landed).outs
  step_called b e now landed fits event reasons =
      outs_called (step b e now landed).outs reasons (addressed b e now landed) (pass.posts b e now landed (subst (HaveOwn deliverable) (sym fits.base) own) fits.book event)

  behind : (b : Book) (e : Event) (now : ℕ) (landed : Bool) → Fits deliverable root b → IsEvent deliverable e → Fits deliverable root (step b e now landed).book
  behind b e now landed fits event = record {
    book = pass.book b e now landed (subst (HaveOwn deliverable) (sym fits.base) own) fits.book event;
    base = (place b e now landed).base ∙ fits.base;
  }

  -- so has each of a plan, wherever its record stands, and behind it stands a book that fits
  pub record IsCalled (p : Plan) : Type 0 where
    pub calls : (landed : Bool) → AllByRecursion HasCall (outcome_by p landed).outs
    pub fits : (landed : Bool) → Fits deliverable root (outcome_by p landed).book

  pub arrived_called : (b : Book) (a : Arrived) (now : ℕ) → Fits deliverable root b → IsArrived deliverable a → IsCalled (plan b (events.Arrived a) now)
  arrived_called b a now fits event = record {
    calls = λ landed. step_called b (events.Arrived a) now landed fits event (replies_have (step b (events.Arrived a) now landed).outs (reply.arrived b a now landed));
    fits = λ landed. behind b (events.Arrived a) now landed fits event;
  }

  pub tick_called : (b : Book) (now : ℕ) → Fits deliverable root b → IsCalled (plan b events.Tick now)
  tick_called b now fits = record {
    calls = λ landed. step_called b events.Tick now landed fits tt (replies_have (step b events.Tick now landed).outs (reply.ticks b now landed));
    fits = λ landed. behind b events.Tick now landed fits tt;
  }

  pub local_called : (b : Book) (l : Local) (now : ℕ) → Fits deliverable root b → IsLocal deliverable l → IsCalled (plan b (events.Local l) now)
  local_called b l now fits event = record {
    calls = λ landed. step_called b (events.Local l) now landed fits event
        (posts_have (step b (events.Local l) now landed).outs (in_branch (plan b (events.Local l) now) landed (local_posts b now l (refuses b l))));
    fits = λ landed. behind b (events.Local l) now landed fits event;
  }

  pub answer_called : (b : Book) (status : ℕ) → Fits deliverable root b → has_reason status ≡ true → IsCalled (answer_plan b status)
  answer_called b status fits reason = record { calls = calls; fits = books }
    where
      calls : (landed : Bool) → AllByRecursion HasCall (outcome_by (answer_plan b status) landed).outs
      calls true = (λ h. subst (λ t. IsAnswerOf t status None None) reason h, tt)
      calls false = (λ h. subst (λ t. IsAnswerOf t status None None) reason h, tt)

      books : (landed : Bool) → Fits deliverable root (outcome_by (answer_plan b status) landed).book
      books true = fits
      books false = fits

  -- the items that are due
  abbrev AreCalled : List Outcome → Type 0
  AreCalled os = AllByRecursion (λ (o : Outcome). AllByRecursion HasCall o.outs) os

  dues_called : (now : ℕ) (items : List Item) (b : Book) (os : List Outcome) → Fits deliverable root b → os ≡ due_outcomes now items b → AreCalled os
  dues_called now [] b os fits e = subst AreCalled (sym e) tt
  dues_called now (item ∷ rest) b os fits e = by (λ c more. dues_called now rest c (due_outcomes now rest c) more refl) (is_due b now item) e
    where
      by : ((c : Book) → Fits deliverable root c → AreCalled (due_outcomes now rest c)) → (t : Bool)
          → os ≡ (if t then due_outcome b now item ∷ due_outcomes now rest (due_outcome b now item).book else due_outcomes now rest b) → AreCalled os
      by again true f =
          subst AreCalled (sym f) (
            step_called b (events.Due item) now true fits tt (posts_have (step b (events.Due item) now true).outs (reply.due b item now true)),
            again (due_outcome b now item).book (behind b (events.Due item) now true fits tt),
          )
      by again false f = subst AreCalled (sym f) (again b fits)

  unrecorded_called : (os : List Outcome) (fs : List Fated) → AreUnrecorded os fs → AreCalled os → AllByRecursion HaveCalls fs
  unrecorded_called [] [] h k = tt
  unrecorded_called [] (f ∷ fs) h k = absurd h
  unrecorded_called (o ∷ os) [] h k = absurd h
  unrecorded_called (o ∷ os) (f ∷ fs) (h, more) (k, others) = (subst (λ (z : Outcome). AllByRecursion HasCall z.outs) (sym h.outcome) k, unrecorded_called os fs more others)

  pub planned_calls : (p : Plan) (f : Fated) → IsCalled p → IsPlanned p f → HaveCalls f
  planned_calls p f called planned = subst (λ (z : Outcome). AllByRecursion HasCall z.outs) (sym planned.outcome) (called.calls f.landed)

  -- and so have the steps of an event
  pub all_called : (now : ℕ) (p : Plan) (f : Fated) (fs : List Fated) → IsCalled p → IsPlanned p f → AreFirstDue now f.outcome.book [] fs → AllByRecursion HaveCalls (f ∷ fs)
  all_called now p f fs called planned due = (
    planned_calls p f called planned,
    unrecorded_called due.done fs due.are
        (dues_called now (items_of f.outcome.book) f.outcome.book due.done (subst (λ (z : Outcome). Fits deliverable root z.book) (sym planned.outcome) (called.fits f.landed)) (sym (append-nil due.done) ∙ due.all)),
  )
