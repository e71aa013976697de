-- What the calls of a node post leaves its machine as letters of what its steps sent.
use Rattle.std.specs.Prelude.{ℕ, List, [], ◌++◌, ◌≡◌, ◌⊎◌, Bool, false, Option, if◌then◌else◌}
use Rattle.std.proofs.Common.{inl, inr, ⊎_elim, true≢false, refl, sym, subst, ap, ◌∙◌}
use Rattle.std.proofs.lemmas.List.{append-nil}
use Rattle.at_base.specs.declared.event.Event.TheVariants as events
use Rattle.at_base.specs.declared.event.Local.{Local}
use Rattle.at_base.specs.declared.outs.Post.{Post}
use Rattle.at_model.specs.Step.{plan, step}
use Rattle.decision_log.specs.KeptRecords.{Known}
use Rattle.journal_at.specs.declared.journal.Journal.{Journal}
use Rattle.node_at.specs.Doings.{AreDoings, Does, Doing, Ran, calls_of, deeds_of}
use Rattle.node_at.specs.Endings.{Ends, Renews, Rested}
use Rattle.node_at.specs.Locals.{Asked, cleared}
use Rattle.node_at.specs.Moments.{sent_of}
use Rattle.node_at.specs.State.{State}
use Rattle.node_at.specs.Steps.{IsDone}
use Rattle.node_at.specs.TurnText.{TurnStep}
use Rattle.node_at.specs.Turns.{IsLine, Turns, is_heard, line_of}
use Rattle.node_at.specs.declared.local.Locally.{Locally}
use Rattle.node_at.specs.declared.local.Locally.TheVariants as answers
use Rattle.node_at.specs.declared.role.Role.{Role}
use Rattle.node_at.specs.declared.shrink.Shrunk.{Shrunk}
use Rattle.node_at.specs.declared.turn.Turned.{Turned}
use Rattle.node_at.specs.declared.turn.Turned.TheVariants as turneds
use Rattle.node_worlds.specs.Lives.{Requests}
use Rattle.node_worlds.specs.Machines.{Begins}
use Rattle.node_worlds.specs.Nets.{doings_in, steps_in}
use Rattle.node_worlds.specs.SentPosts.{AreSent, Sent}
use Rattle.site_model.specs.Told.{Made, Told, sent_by}
use Rattle.deliveries.specs.Letters.{Adds, AllAreCalled, AreLetters, CallsPost, Posts, posts_in}
use Rattle.deliveries.proofs.CalledOuts.{begun_called, leaving_called, steps_called}
use Rattle.deliveries.proofs.SentLetters.{one_letters, posts_join, sent_letters}
use Rattle.node_worlds.proofs.DiskCalls.{Silently, fate_silent}
use Rattle.node_worlds.proofs.Rows.{grown_same, grown_then, sent_append}
use Rattle.deliveries.proofs.SilentCalls.{none_made, shrinks_silent}
use Rattle.deliveries.proofs.TriedOuts.{doings_sent, tried_sent}

-- the line that is said of a connection is no post
line_posts : (input : Option (List ℕ)) (heard : Bool) (old new : Told) (made : List Made) → IsLine input heard old new made → posts_in (sent_by made) ≡ []
line_posts input heard old new made h = ⊎_elim (λ e. ap (λ z. posts_in (sent_by z)) e) (λ k. ⊎_elim (λ e. ap (λ z. posts_in (sent_by z)) e) (λ e. ap (λ z. posts_in (sent_by z)) e) k) h.once

-- a row of steps, and calls that send nothing
row_letters : (steps : List TurnStep) (doings : List Doing) (line more : List Made) (ps : List Post) → AllAreCalled steps → AreSent steps doings ps → posts_in (sent_by line) ≡ []
    → sent_by (calls_of (line_of line ++ doings)) ≡ sent_by line ++ sent_of (deeds_of doings) → sent_by more ≡ []
    → AreLetters ps (posts_in (sent_by (calls_of (line_of line ++ doings) ++ more)))
row_letters steps doings line more ps are sent said e silent =
    subst (AreLetters ps) (sym all) (sent_letters steps doings ps are sent)
  where
    all : posts_in (sent_by (calls_of (line_of line ++ doings) ++ more)) ≡ posts_in (sent_of (deeds_of doings))
    all =
        ap posts_in (sent_append (calls_of (line_of line ++ doings)) more ∙ (λ i. e i ++ silent i) ∙ append-nil (sent_by line ++ sent_of (deeds_of doings)))
        ∙ posts_join (sent_by line) (sent_of (deeds_of doings)) ∙ ap (λ z. z ++ posts_in (sent_of (deeds_of doings))) said

row_posts : (kept : Known) (steps : List TurnStep) (doings : List Doing) (line : List Made) (j k : Journal) (old mid new : Told) → AllAreCalled steps → AreDoings kept steps doings
    → posts_in (sent_by line) ≡ [] → Does (line_of line ++ doings) j k old mid → Silently mid new → (ps : List Post) × AreSent steps doings ps × Posts ps old new
row_posts kept steps doings line j k old mid new are did said does quiet =
    let (ps, sent) = doings_sent kept steps doings did in (
      ps,
      sent,
      record {
        made = calls_of (line_of line ++ doings) ++ quiet.made;
        calls = grown_then old.calls mid.calls new.calls (calls_of (line_of line ++ doings)) quiet.made does.calls quiet.calls;
        letters = row_letters steps doings line quiet.made ps are sent said does.sent quiet.silent;
      },
    )

none_posted : (old new : Told) → new.calls ≡ old.calls → (ps : List Post) × AreSent [] [] ps × Posts ps old new
none_posted old new e = ([], refl, record { made = []; calls = e ∙ grown_same old.calls; letters = tt })

adds_then : (old mid new : Told) → Adds old mid → Adds mid new → Adds old new
adds_then old mid new h k = record { made = h.made ++ k.made; calls = grown_then old.calls mid.calls new.calls h.made k.made h.calls k.calls }

none_added : (old new : Told) → new.calls ≡ old.calls → Adds old new
none_added old new e = record { made = []; calls = e ∙ grown_same old.calls }

silent_added : (old new : Told) → Silently old new → Adds old new
silent_added old new h = record { made = h.made; calls = h.calls }

done_posts : (status now : ℕ) (n m : State) (l : Local) (old new : Told) (done : IsDone status n m (events.Local l) now old new) → (ps : List Post) × Sent done.leaving done.went.made ps × Posts ps old new
done_posts status now n m l old new done =
    let w = done.went in
    let (ps, sent) = tried_sent w.tried in
    let quiet : sent_by w.first ≡ [] = fate_silent done.landed (plan n.book (events.Local l) now).entry n.journal w.first old new w.fate in
    let all : sent_by (w.first ++ w.made) ≡ sent_by w.made = sent_append w.first w.made ∙ ap (λ z. z ++ sent_by w.made) quiet in (
      ps,
      sent,
      record {
        made = w.first ++ w.made;
        calls = w.calls;
        letters = subst (λ z. AreLetters ps (posts_in z)) (sym all)
            (one_letters done.leaving w.made ps (leaving_called (step n.book (events.Local l) now done.landed).outs done.leaving done.are) sent);
      },
    )

module _ {S : Type 0} (told : S → Told) where
  renews_silent : (first result : Turned) (shrunk : Shrunk) (n m : State) (old new : S) → Renews told first result shrunk n m old new
      → (result ≡ turneds.Halted → ⊥) ⊎ (n.journal.unsure ≡ false) → Silently (told old) (told new)
  renews_silent first result shrunk n m old new r fit =
      shrinks_silent told n m old new shrunk r.shrinks r.idle r.memory
      (⊎_elim (λ runs. inl (λ h. runs (r.answers ∙ ap (λ b. if b then turneds.Halted else first) h))) (λ sure. inr sure) fit)

  rested_silent : (first result : Turned) (shrunk : Shrunk) (n m : State) (old new : S) → Rested first result shrunk n m old new → Silently (told old) (told new)
  rested_silent first result shrunk n m old new r = none_made (told old) (told new) (ap (λ z. (told z).calls) r.site)

  turn_posts : (result : Turned) (role : Role) (shrunk : Shrunk) (n m k : State) (s mid t : S) → (result ≡ turneds.Halted → ⊥) → (first : Turned) (steps : Turns first role n k (told s) (told mid))
      → Ends told first result shrunk k m mid t
      → (ps : List Post) × AreSent (steps_in first role n k (told s) (told mid) steps) (doings_in first role n k (told s) (told mid) steps) ps × Posts ps (told s) (told t)
  turn_posts result role shrunk n m k s mid t runs (turneds.Served status) steps ends =
      let v = steps.serves in
      let w = v.works.0 in
      row_posts n.kept w.steps w.doings v.made n.journal k.journal (told s) (told mid) (told t) (steps_called (turneds.Served status) role n k (told s) (told mid) steps) w.ran.are
      (line_posts _ (is_heard v.meaning) _ _ v.made v.line) w.ran.does (renews_silent (turneds.Served status) result shrunk k m mid t ends (inl runs))
  turn_posts result role shrunk n m k s mid t runs turneds.Ticked steps ends =
      let v = steps.serves in
      let w = v.works.0 in
      row_posts n.kept w.steps w.doings v.made n.journal k.journal (told s) (told mid) (told t) (steps_called turneds.Ticked role n k (told s) (told mid) steps) w.ran.are
      (line_posts _ (is_heard v.meaning) _ _ v.made v.line) w.ran.does (renews_silent turneds.Ticked result shrunk k m mid t ends (inl runs))
  turn_posts result role shrunk n m k s mid t runs turneds.NoRoom steps ends =
      let v = steps.serves in
      let w = v.works in
      row_posts n.kept (steps_in turneds.NoRoom role n k (told s) (told mid) steps) w.doings v.made n.journal k.journal (told s) (told mid) (told t)
      (steps_called turneds.NoRoom role n k (told s) (told mid) steps) w.ran.are
      (line_posts _ (is_heard v.meaning) _ _ v.made v.line) w.ran.does (rested_silent turneds.NoRoom result shrunk k m mid t ends)
  turn_posts result role shrunk n m k s mid t runs turneds.Halted steps ends = absurd (runs ends.answers)
  turn_posts result role shrunk n m k s mid t runs turneds.Closed steps ends =
      none_posted (told s) (told t) (ap (λ z. (told z).calls) ends.site ∙ steps.1.still.calls)
  turn_posts result role shrunk n m k s mid t runs turneds.LinkDown steps ends =
      none_posted (told s) (told t) (ap (λ z. (told z).calls) ends.site ∙ steps.1.still.calls)

  row_added : (line : List Made) (steps : List TurnStep) (doings : List Doing) (n k : State) (old mid new : Told) → Ran (line_of line) steps doings n k old mid → Silently mid new → Adds old new
  row_added line steps doings n k old mid new ran quiet =
      adds_then old mid new (record { made = calls_of (line_of line ++ doings); calls = ran.does.calls }) (silent_added mid new quiet)

  turn_adds : (result : Turned) (role : Role) (shrunk : Shrunk) (n m k : State) (s mid t : S) → n.journal.unsure ≡ false → (first : Turned) → Turns first role n k (told s) (told mid)
      → Ends told first result shrunk k m mid t → Adds (told s) (told t)
  turn_adds result role shrunk n m k s mid t sure (turneds.Served status) steps ends =
      let w = steps.serves.works.0 in
      row_added steps.serves.made w.steps w.doings _ k (told s) (told mid) (told t) w.ran (renews_silent (turneds.Served status) result shrunk k m mid t ends (inr (w.ran.sure ∙ sure)))
  turn_adds result role shrunk n m k s mid t sure turneds.Ticked steps ends =
      let w = steps.serves.works.0 in
      row_added steps.serves.made w.steps w.doings _ k (told s) (told mid) (told t) w.ran (renews_silent turneds.Ticked result shrunk k m mid t ends (inr (w.ran.sure ∙ sure)))
  turn_adds result role shrunk n m k s mid t sure turneds.NoRoom steps ends =
      let w = steps.serves.works in
      row_added steps.serves.made _ w.doings _ k (told s) (told mid) (told t) w.ran (rested_silent turneds.NoRoom result shrunk k m mid t ends)
  turn_adds result role shrunk n m k s mid t sure turneds.Halted (inl steps) ends =
      none_added (told s) (told t) (ap (λ z. (told z).calls) ends.site ∙ steps.1.still.calls)
  turn_adds result role shrunk n m k s mid t sure turneds.Halted (inr steps) ends =
      let v = steps.1.serves in
      adds_then (told s) (told mid) (told t) (record { made = calls_of (line_of v.made) ++ v.works.first; calls = v.works.calls })
      (silent_added (told mid) (told t) (rested_silent turneds.Halted result shrunk k m mid t ends))
  turn_adds result role shrunk n m k s mid t sure turneds.Closed steps ends =
      none_added (told s) (told t) (ap (λ z. (told z).calls) ends.site ∙ steps.1.still.calls)
  turn_adds result role shrunk n m k s mid t sure turneds.LinkDown steps ends =
      none_added (told s) (told t) (ap (λ z. (told z).calls) ends.site ∙ steps.1.still.calls)

  halted_adds : (n m : State) (l : Local) (s t : S) → n.halted ≡ false → Asked answers.Halted n m l (told s) (told t) → Adds (told s) (told t)
  halted_adds n m l s t runs (inl asked) = absurd (true≢false (sym asked.0 ∙ runs))
  halted_adds n m l s t runs (inr asked) = let w = asked.2.2.stopped in record { made = w.first; calls = w.calls }

  request_adds : (n m : State) (l : Local) (s t : S) → n.halted ≡ false → (answer : Locally) → Requests told answer n m l s t → Adds (told s) (told t)
  request_adds n m l s t runs (answers.Done id) r = let w = r.asked.3.3.went in record { made = w.first ++ w.made; calls = w.calls }
  request_adds n m l s t runs (answers.Refused why) r = none_added (told s) (told t) (ap (λ z. (told z).calls) (r.nothing why refl))
  request_adds n m l s t runs answers.NoRoom r = none_added (told s) (told t) r.asked.3.still.calls
  request_adds n m l s t runs answers.Halted r = halted_adds n m l s t runs r.asked

  start_adds : (base : List ℕ) (limit : ℕ) (s t : S) → Begins base limit (told s) (told t) → Adds (told s) (told t)
  start_adds base limit s t (inl (n, start)) = record { made = _; calls = start.grown }
  start_adds base limit s t (inr (e, cannot)) = record { made = cannot.made; calls = cannot.grown }

pub calls_post : {S : Type 0} (told : S → Told) → CallsPost told
calls_post told = record {
  turns = λ result role shrunk n m s t turn runs. turn_posts told result role shrunk n m turn.node s turn.behind t runs turn.first turn.steps turn.ends;
  requests = λ id n m l s t done. done_posts done.3.1 done.3.0 (cleared n) m l (told s) (told t) done.3.3;
  turns_add = λ result role shrunk n m s t sure turn. turn_adds told result role shrunk n m turn.node s turn.behind t sure turn.first turn.steps turn.ends;
  requests_add = λ answer n m l s t runs request. request_adds told n m l s t runs answer request;
  starts_add = start_adds told;
  begun_called = λ result role shrunk n m s t turn. begun_called turn.first role n turn.node (told s) (told turn.behind) turn.steps;
  sent_letters = sent_letters;
  one_letters = one_letters;
}
