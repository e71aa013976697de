-- What the calls of a node did.
use Rattle.std.proofs.Common.{ℕ, List, Option, Some, true, false, true≢false, [], ◌∷◌, ◌++◌, ◌≡◌, inl, inr, map, refl, sym, ◌∙◌, ap, subst, option_map, arith}
use Rattle.std.proofs.lemmas.List.{append-nil}
use Rattle.at_base.specs.declared.event.Event.TheVariants as events
use Rattle.at_base.specs.declared.event.Local.{Local}
use Rattle.at_base.specs.declared.record.Record.{Record}
use Rattle.at_model.specs.Step.{plan, step}
use Rattle.completion_at.specs.declared.requests.Refusal.{Refusal}
use Rattle.decision_log.specs.Folds.{AreRecords}
use Rattle.decision_log.specs.KeptRecords.{GrowsByOne, kept_of}
use Rattle.journal_at.specs.declared.version.Version.TheVariants.{Two}
use Rattle.journal_at.specs.StandingBodies.{Keeps}
use Rattle.record_bytes.specs.Bytes.{bytes_of}
use Rattle.record_bytes.specs.Versions.{AreBodies as RecordsAreBodies}
use Rattle.site_model.specs.Told.{Told, Between, Files, Made, IsPrefix, sent_by}
use Rattle.node_at.specs.Doings.{Doing, Ran, calls_of, deeds_of, kept_behind}
use Rattle.node_at.specs.Endings.{Ends, Renews, Rested, TakesTurn}
use Rattle.node_at.specs.Locals.{Asked, cleared}
use Rattle.node_at.specs.Meanings.{Meaning}
use Rattle.node_at.specs.Moments.{Deed}
use Rattle.node_at.specs.ShrunkJournals.{StandForSame, Stays}
use Rattle.node_at.specs.StartedNodes.{IsStarted}
use Rattle.node_at.specs.Starts.{started}
use Rattle.node_at.specs.State.{State}
use Rattle.node_at.specs.Steps.{IsDone, IsStopped, Went, if_landed, kept_by, landed_by}
use Rattle.node_at.specs.Texts.{call_by}
use Rattle.node_at.specs.TurnText.{TurnStep}
use Rattle.node_at.specs.Turns.{Halts, Rests, Turns, busy, calm, line_of}
use Rattle.node_at.specs.declared.local.Locally.{Locally}
use Rattle.node_at.specs.declared.local.Locally.TheVariants as answers
use Rattle.node_at.specs.declared.role.Role.{Role}
use Rattle.node_at.specs.declared.shrink.Shrunk.{Shrunk}
use Rattle.node_at.specs.declared.turn.Turned.{Turned}
use Rattle.node_at.specs.declared.turn.Turned.TheVariants as turneds
use Rattle.node_worlds.specs.Acts.{Act, Did, IsPrefixDone, IsSoFar, IsUp, acted, acts_for, acts_in, acts_of, records_in, spoken}
use Rattle.node_worlds.specs.Lives.{Lives, Requests, StepsArePrefixed, begins, waits, turned, asked}
use Rattle.node_worlds.specs.SentPosts.{records_by}
use Rattle.node_worlds.proofs.Acts.{did_none, did_still, did_then, stand_more, up_none}
use Rattle.node_worlds.proofs.KeptRecords.{kept_one, kept_row, shrink_kept}
use Rattle.node_worlds.proofs.DiskCalls.{Silently, fate_silent, shrinks_silent}
use Rattle.node_worlds.proofs.ActRecords.{AreActs, acts_are, acts_recorded, landed_one, moments_done, sent_done, up_more}
use Rattle.node_worlds.proofs.Rows.{prefix_sent, sent_append, some_is, weaker}

same_up : (rs : List Record) (n : State) (s : Told) → IsUp rs n s → IsUp rs (record n { effects = [] }) s
same_up rs n s u = record { runs = u.runs; records = u.records; holds = u.holds; same = u.same; kept = u.kept }

-- a moment at which nothing was sent since
pub quiet_so_far : (rs : List Record) (before l : List Made) (c : Files) → StandForSame rs c → IsPrefix (sent_by before) (sent_by l) → IsPrefix (sent_by l) (sent_by before)
    → IsSoFar rs (sent_by before) [] (sent_by l) c
quiet_so_far rs before l c h p q = record {
  k = 0;
  within = omega arith;
  stands = subst (λ z. StandForSame z c) (sym (append-nil rs)) h;
  least = subst (λ z. IsPrefix z (sent_by l)) (sym (append-nil (sent_by before))) p;
  most = subst (IsPrefix (sent_by l)) (sym (append-nil (sent_by before))) q;
}

module _ {S : Type 0} (told : S → Told) where
  renews_did : (rs : List Record) (first result : Turned) (shrunk : Shrunk) (n m : State) (old new : S) → IsUp rs n (told old) → Renews told first result shrunk n m old new
      → Did rs [] m (told old) (told new)
  renews_did rs first result shrunk n m old new u r = record {
    made = quiet.made;
    calls = quiet.calls;
    sent = λ runs. quiet.silent;
    time = weaker (told old) (told new) _ _ stays.time (λ l c p. moment l c p.0 p.1);
    up = λ runs.
        let (qs, o, same) = stays.holds runs in
        up_none rs m (told new)
        (record { runs = runs; records = qs; holds = o; same = λ more. same more ∙ u.same more; kept = shrink_kept shrunk n m (told old) (told new) r.shrinks ∙ u.kept });
  }
    where
      quiet : Silently (told old) (told new)
      quiet = shrinks_silent told n m old new u.holds.sure shrunk r.shrinks r.idle r.memory

      kept : n.kept ≡ kept_of Two u.records
      kept = u.kept ∙ sym (ap (kept_of Two) (sym (append-nil u.records)) ∙ u.same [] ∙ ap (kept_of Two) (append-nil rs))

      stays : Stays u.records m (told old) (told new)
      stays = r.stays u.records u.holds kept

      moment : (l : List Made) (c : Files) → Between (told old) (told new) l → StandForSame u.records c → IsPrefixDone rs [] (told old) (told new) l c
      moment l c between h =
          let (before, after, was, is, (more, p), (left, q)) = between in
          let all : after ≡ before ++ quiet.made = some_is after (before ++ quiet.made) (sym is ∙ quiet.calls ∙ ap (option_map (λ z. z ++ quiet.made)) was) in
          let sent : sent_by after ≡ sent_by before = ap sent_by all ∙ sent_append before quiet.made ∙ ap (λ z. sent_by before ++ z) quiet.silent ∙ append-nil (sent_by before) in (
            between,
            (
              before,
              was,
              quiet_so_far rs before l c (stand_more u.records rs c u.same h) (prefix_sent before l (more, p)) (subst (IsPrefix (sent_by l)) sent (prefix_sent l after (left, q))),
            ),
          )

  rested_did : (rs : List Record) (first result : Turned) (shrunk : Shrunk) (n m : State) (old new : S) → IsUp rs n (told old) → Rested first result shrunk n m old new
      → Did rs [] m (told old) (told new)
  rested_did rs first result shrunk n m old new u r =
      subst (λ z. Did rs [] m (told old) (told z)) (sym r.site) (subst (λ z. Did rs [] z (told old) (told old)) (sym r.node) (did_none rs n (told old) u))

module _ (law : RecordsAreBodies) (grows : GrowsByOne) where
  ran_did : (rs : List Record) (made : List Made) (steps : List TurnStep) (doings : List Doing) (n m : State) (old new : Told) → IsUp rs n old → Ran (line_of made) steps doings n m old new
      → Did rs (spoken made ∷ acts_of steps doings) m old new
  ran_did rs made steps doings n m old new u r = record {
    made = calls_of (line_of made ++ doings);
    calls = r.does.calls;
    sent = λ runs. r.does.sent ∙ sent_done law acts ds are;
    time = moments_done law rs n old new acts ds u are (r.does.moments u.holds.bodies u.holds.keeps);
    up = λ runs. up_more law rs n m old new acts ds u are (r.does.stands u.holds.bodies u.holds.keeps) (r.sure ∙ u.holds.sure) runs
        (r.kept ∙ ap (λ k. kept_behind k steps) u.kept ∙ kept_row grows steps rs ∙ ap (λ z. kept_of Two (rs ++ z)) (sym (acts_recorded n.kept steps doings r.are)));
  }
    where
      acts : List Act
      acts = spoken made ∷ acts_of steps doings

      ds : List Deed
      ds = deeds_of (line_of made ++ doings)

      are : AreActs acts ds
      are = ((tt, refl), acts_are n.kept steps doings r.are)

  halts_did : (rs : List Record) (made : List Made) (meaning : Meaning) (now : ℕ) (n m : State) (old new : Told) → IsUp rs n old → (h : Halts (line_of made) meaning now n m old new)
      → Did rs (spoken made ∷ acted h.step (map call_by h.step.leaving) ∷ []) m old new
  halts_did rs made meaning now n m old new u h = record {
    made = calls_of (line_of made) ++ h.first;
    calls = h.calls;
    sent = λ runs. absurd (true≢false (sym halted ∙ runs));
    time = moments_done law rs n old new acts ds u are (h.moments u.holds.bodies u.holds.keeps);
    up = λ runs. absurd (true≢false (sym halted ∙ runs));
  }
    where
      acts : List Act
      acts = spoken made ∷ acted h.step (map call_by h.step.leaving) ∷ []

      ds : List Deed
      ds = deeds_of (line_of made) ++ record { landed = bytes_of h.entry ∷ []; sent = map call_by h.step.leaving } ∷ []

      stands : if_landed h.step.landed h.step.entry ≡ Some h.entry
      stands = λ i. if_landed (h.landed i) (h.records i)

      are : AreActs acts ds
      are = ((tt, refl), ((subst (λ z. AreRecords Two (records_by z) (bytes_of h.entry ∷ [])) (sym stands) (h.formed, tt), refl), tt))

      halted : m.halted ≡ true
      halted = ap (λ (z : State). z.halted) h.same

  rests_did : (rs : List Record) (n m : State) (old new : Told) → IsUp rs n old → Rests n m old new → Did rs [] m old new
  rests_did rs n m old new u h =
      subst (λ z. Did rs [] z old new) (sym h.same) (did_still rs [] (calm n) old old new (did_none rs (calm n) old (same_up rs n old u)) h.still)

  module _ {S : Type 0} (told : S → Told) where
    -- what a turn did, and then the end of it
    then_ended : (rs : List Record) (acts : List Act) (k m : State) (old mid new : Told) → Did rs acts k old mid → k.halted ≡ false → Did (rs ++ records_in acts) [] m mid new → Did rs acts m old new
    then_ended rs acts k m old mid new h runs g = subst (λ z. Did rs z m old new) (append-nil acts) (did_then rs acts [] k m old mid new h runs g)

    pub turn_did : (rs : List Record) (result : Turned) (role : Role) (shrunk : Shrunk) (n m : State) (s t : S) → IsUp rs n (told s) → (turn : TakesTurn told result role shrunk n m s t)
        → Did rs (acts_in turn.first role n turn.node (told s) (told turn.behind) turn.steps) m (told s) (told t)
    turn_did rs result role shrunk n m s t u turn = by turn.first turn.steps turn.ends
      where
        k : State
        k = turn.node

        mid : S
        mid = turn.behind

        here : IsUp rs (calm n) (told s)
        here = same_up rs n (told s) u

        renewed : (first : Turned) (acts : List Act) → k.halted ≡ false → Did rs acts k (told s) (told mid) → Renews told first result shrunk k m mid t → Did rs acts m (told s) (told t)
        renewed first acts runs h r = then_ended rs acts k m (told s) (told mid) (told t) h runs (renews_did told (rs ++ records_in acts) first result shrunk k m mid t (h.up runs) r)

        rested : (first : Turned) (acts : List Act) → Did rs acts k (told s) (told mid) → Rested first result shrunk k m mid t → Did rs acts m (told s) (told t)
        rested first acts h r = subst (λ z. Did rs acts m (told s) (told z)) (sym r.site) (subst (λ z. Did rs acts z (told s) (told mid)) (sym r.node) h)

        by : (first : Turned) → (steps : Turns first role n k (told s) (told mid)) → Ends told first result shrunk k m mid t → Did rs (acts_in first role n k (told s) (told mid) steps) m (told s) (told t)
        by (turneds.Served status) steps ends =
            let w = steps.serves.works.0 in
            renewed (turneds.Served status) _ (w.ran.runs ∙ u.runs) (ran_did rs steps.serves.made w.steps w.doings (calm n) k (told s) (told mid) here w.ran) ends
        by turneds.Ticked steps ends =
            let w = steps.serves.works.0 in
            renewed turneds.Ticked _ (w.ran.runs ∙ u.runs) (ran_did rs steps.serves.made w.steps w.doings (calm n) k (told s) (told mid) here w.ran) ends
        by turneds.NoRoom steps ends =
            let w = steps.serves.works in
            rested turneds.NoRoom _ (ran_did rs steps.serves.made (w.steps ++ busy n.book w.steps) w.doings (calm n) k (told s) (told mid) here w.ran) ends
        by turneds.Halted (inl steps) ends = absurd (true≢false (sym steps.0 ∙ u.runs))
        by turneds.Halted (inr steps) ends =
            rested turneds.Halted _ (halts_did rs steps.1.serves.made steps.1.serves.meaning steps.1.serves.now (calm n) k (told s) (told mid) here steps.1.serves.works) ends
        by turneds.Closed steps ends = rested turneds.Closed [] (rests_did rs n k (told s) (told mid) u steps.1) ends
        by turneds.LinkDown steps ends = rested turneds.LinkDown [] (rests_did rs n k (told s) (told mid) u steps.1) ends

    step_did : (rs : List Record) (n m : State) (l : Local) (now status : ℕ) (old new : Told) → IsUp rs n old → (d : IsDone status n m (events.Local l) now old new)
        → Did rs (record { records = records_by (if_landed d.landed (plan n.book (events.Local l) now).entry); sent = sent_by d.went.made } ∷ []) m old new
    step_did rs n m l now status old new u d = record {
      made = w.first ++ w.made;
      calls = w.calls;
      sent = λ runs.
          sent_append w.first w.made ∙ ap (λ z. z ++ sent_by w.made) (fate_silent d.landed entry n.journal w.first old new w.fate) ∙ sym (append-nil (sent_by w.made));
      time = moments_done law rs n old new acts ds u are (w.moments u.holds.bodies u.holds.keeps);
      up = λ runs. up_more law rs n m old new acts ds u are
          (subst (λ z. Keeps m.journal (u.holds.bodies ++ z) new) (sym (append-nil (landed_by d.landed entry))) (w.stands u.holds.bodies u.holds.keeps)) w.sure runs
          (w.kept ∙ ap (kept_by (if_landed d.landed entry)) u.kept ∙ kept_one grows (if_landed d.landed entry) rs
          ∙ ap (λ z. kept_of Two (rs ++ z)) (sym (append-nil (records_by (if_landed d.landed entry)))));
    }
      where
        entry : Option Record
        entry = (plan n.book (events.Local l) now).entry

        w : Went entry d.landed (step n.book (events.Local l) now d.landed).book (step n.book (events.Local l) now d.landed).effects d.leaving n m old new
        w = d.went

        acts : List Act
        acts = record { records = records_by (if_landed d.landed entry); sent = sent_by d.went.made } ∷ []

        ds : List Deed
        ds = record { landed = landed_by d.landed entry; sent = sent_by d.went.made } ∷ []

        are : AreActs acts ds
        are = ((landed_one d.landed entry (landed_by d.landed entry) w.formed refl, refl), tt)

    stop_did : (rs : List Record) (n m : State) (l : Local) (now : ℕ) (old new : Told) → IsUp rs n old → (h : IsStopped n m (events.Local l) now old new)
        → Did rs (record { records = h.entry ∷ []; sent = map call_by h.leaving } ∷ []) m old new
    stop_did rs n m l now old new u h = record {
      made = h.stopped.first;
      calls = h.stopped.calls;
      sent = λ runs. absurd (true≢false (sym halted ∙ runs));
      time = moments_done law rs n old new
          (record { records = h.entry ∷ []; sent = map call_by h.leaving } ∷ []) (record { landed = bytes_of h.entry ∷ []; sent = map call_by h.leaving } ∷ [])
          u (((h.stopped.formed, tt), refl), tt) (h.stopped.moments u.holds.bodies u.holds.keeps);
      up = λ runs. absurd (true≢false (sym halted ∙ runs));
    }
      where
        halted : m.halted ≡ true
        halted = ap (λ (z : State). z.halted) h.stopped.same

    pub request_did : (rs : List Record) (answer : Locally) (n m : State) (l : Local) (s t : S) → IsUp rs n (told s) → (request : Requests told answer n m l s t)
        → Did rs (acts_for answer n m l (told s) (told t) request.asked) m (told s) (told t)
    request_did rs answer n m l s t u request = by answer request.asked request.nothing
      where
        here : IsUp rs (cleared n) (told s)
        here = same_up rs n (told s) u

        nothing : Did rs [] (cleared n) (told s) (told s)
        nothing = did_none rs (cleared n) (told s) here

        by : (answer : Locally) → (a : Asked answer n m l (told s) (told t)) → ((why : Refusal) → answer ≡ answers.Refused why → t ≡ s) → Did rs (acts_for answer n m l (told s) (told t) a) m (told s) (told t)
        by (answers.Done id) a same = step_did rs (cleared n) m l a.3.0 a.3.1 (told s) (told t) here a.3.3
        by (answers.Refused why) a same =
            subst (λ z. Did rs [] m (told s) (told z)) (sym (same why refl)) (subst (λ z. Did rs [] z (told s) (told s)) (sym a.2) nothing)
        by answers.NoRoom a same =
            subst (λ z. Did rs [] z (told s) (told t)) (sym a.2) (did_still rs [] (cleared n) (told s) (told s) (told t) nothing a.3.still)
        by answers.Halted (inl a) same = absurd (true≢false (sym a.0 ∙ u.runs))
        by answers.Halted (inr a) same = stop_did rs (cleared n) m l a.2.0 (told s) (told t) here a.2.2

    lives_did : (rs : List Record) (n : State) (s : S) → IsUp rs n (told s) → (acts : List Act) (m : State) (t : S) → Lives told n s acts m t → Did rs acts m (told s) (told t)
    lives_did rs n s u acts m t (begins e f g) =
        subst (λ z. Did rs acts m (told s) (told z)) (sym g) (subst (λ z. Did rs acts z (told s) (told s)) (sym f) (subst (λ z. Did rs z n (told s) (told s)) (sym e) (did_none rs n (told s) u)))
    lives_did rs n s u acts m t (waits mid life still) = did_still rs acts m (told s) (told mid) (told t) (lives_did rs n s u acts m mid life) still
    lives_did rs n s u acts m t (turned firsts k mid result role shrunk life runs turn e) =
        let h = lives_did rs n s u firsts k mid life in
        subst (λ z. Did rs z m (told s) (told t)) (sym e)
        (did_then rs firsts _ k m (told s) (told mid) (told t) h runs (turn_did (rs ++ records_in firsts) result role shrunk k m mid t (h.up runs) turn))
    lives_did rs n s u acts m t (asked firsts k mid answer l life runs request e) =
        let h = lives_did rs n s u firsts k mid life in
        subst (λ z. Did rs z m (told s) (told t)) (sym e)
        (did_then rs firsts _ k m (told s) (told mid) (told t) h runs (request_did (rs ++ records_in firsts) answer k m l mid t (h.up runs) request))

    pub started_up : (base : List ℕ) (limit : ℕ) (n : State) (old new : Told) → (start : IsStarted base limit n old new) → IsUp (started start.version start.rs) n new
    started_up base limit n old new start = record {
      runs = start.runs;
      records = started start.version start.rs;
      holds = start.holds;
      same = λ more. refl;
      kept = start.kept;
    }

    pub steps_are_prefixed : StepsArePrefixed told
    steps_are_prefixed base limit n m r s t acts start life =
        lives_did (started start.version start.rs) n s (started_up base limit n (told r) (told s) start) acts m t life
