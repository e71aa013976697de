-- Behind each crash a net on machines goes on.
use Rattle.std.specs.Prelude.{ℕ, List, [], ◌∷◌, ◌++◌, ◌+◌, ◌-◌, ◌^◌, ◌≡◌, ◌≤◌, ◌<◌, ◌⊎◌, Option, Some, None, true, false, length, map, option_map, take, zero, suc, refl}
use Rattle.std.proofs.Common.{inl, inr, ⊎_elim, sym, subst, ap, ◌∙◌, true≢false, arith}
use Rattle.std.proofs.lemmas.List.{append-nil}
use Rattle.at_base.specs.declared.event.Event.TheVariants as events
use Rattle.at_base.specs.declared.event.Local.{Local}
use Rattle.at_base.specs.declared.record.Record.{Record}
use Rattle.at_model.specs.Recovery.{last_incarnation}
use Rattle.at_model.specs.Step.{plan, step}
use Rattle.decision_log.specs.Folds.{AreRecords}
use Rattle.decision_log.specs.KeptRecords.{GrowsByOne}
use Rattle.decision_log.specs.ShrunkJournals.{ShrinksTheSame}
use Rattle.journal_at.specs.declared.journal.Append.TheVariants as appends
use Rattle.journal_at.specs.declared.version.Version.{Version}
use Rattle.journal_at.specs.declared.version.Version.TheVariants.{Two}
use Rattle.journal_at.specs.Format.{frames}
use Rattle.journal_at.specs.Loads.{Lasts}
use Rattle.record_bytes.specs.Bytes.{bytes_of}
use Rattle.record_bytes.specs.Versions.{AreApart, IsTyped}
use Rattle.record_bytes.specs.Versions.{AreBodies as RecordsAreBodies}
use Rattle.site_model.specs.Told.{Told, Between, Call, Files, Is, IsPrefix, Made, sent_by}
use Rattle.node_at.specs.declared.local.Locally.{Locally}
use Rattle.node_at.specs.declared.local.Locally.TheVariants as answers
use Rattle.node_at.specs.declared.role.Role.{Role}
use Rattle.node_at.specs.declared.shrink.Shrunk.{Shrunk}
use Rattle.node_at.specs.declared.turn.Turned.{Turned}
use Rattle.node_at.specs.declared.turn.Turned.TheVariants as turneds
use Rattle.node_at.specs.Doings.{calls_of}
use Rattle.node_at.specs.Endings.{Ends, TakesTurn}
use Rattle.node_at.specs.Locals.{Asked}
use Rattle.node_at.specs.Meanings.{Meaning}
use Rattle.node_at.specs.ShrunkJournals.{AreSame, StandForSame}
use Rattle.node_at.specs.Starts.{Found, OnTheWay, carried, start_after, started}
use Rattle.node_at.specs.State.{State}
use Rattle.node_at.specs.Steps.{IsDone, IsStopped, if_landed}
use Rattle.node_at.specs.Texts.{call_by}
use Rattle.node_at.specs.TurnText.{TurnStep}
use Rattle.node_at.specs.Turns.{Halts, Turns, busy, calm, is_heard, line_of}
use Rattle.node_worlds.specs.Acts.{Act, Did, IsSoFar, IsUp, acts_for, acts_in, records_in, sent_in}
use Rattle.node_worlds.specs.Crashes.{CrashesAreMet, IsBegun, IsCutOff, IsUndone}
use Rattle.node_worlds.specs.Lives.{Requests}
use Rattle.node_worlds.specs.Machines.{Begins, IsLeft}
use Rattle.node_worlds.specs.Nets.{Place, begun_in}
use Rattle.node_worlds.specs.Restarts.{RestartsOnRecords, StandsFor}
use Rattle.node_worlds.specs.SentPosts.{records_by}
use Rattle.node_worlds.proofs.Acts.{early}
use Rattle.node_worlds.proofs.Crashes.{Moment, OnlyNow, came_cut, came_so_far, cancel_prefix, halted_by, left_of_none, line_answers, longer, none_came, none_taken, partly, stands_for, tried_left, unbusy, up_same}
use Rattle.node_worlds.proofs.LifeLaws.{quiet_so_far, request_did, turn_did}
use Rattle.node_worlds.proofs.Machines.{Fits, IsDown, all_fit, same_started}
use Rattle.node_worlds.proofs.DiskCalls.{makes_silent}
use Rattle.node_worlds.proofs.Restarts.{restarts as restarts_same}
use Rattle.node_worlds.proofs.Rows.{prefix_sent, sent_append, some_is}
use Rattle.node_worlds.proofs.NetWorlds.{carried_last, same_last}

module _ (bodies : RecordsAreBodies) (grows : GrowsByOne) (shrinks : ShrinksTheSame) {S : Type 0} (told : S → Told) (now : OnlyNow told) (restarts : RestartsOnRecords told) where
  old_moment : (s t : S) (l : List Made) (c : Files) → Between (told s) (told t) l → (told s).past l c → (before : List Made) × ((told s).calls ≡ Some before) × ((l ≡ before) × (told s).images c)
  old_moment s t l c (before, after, was, is, p, q) past = (before, was, now s l before c was (longer before l p) past)

  moment : (rs : List Record) (acts : List Act) (n m : State) (s t : S) (l : List Made) (c : Files) → IsUp rs n (told s) → Did rs acts m (told s) (told t) → IsLeft (told s) (told t) l c
      → Moment rs acts (told s) l c
  moment rs acts n m s t l c u did left = by (did.time.adds l c left.past) where
    by : (told s).past l c ⊎ (Between (told s) (told t) l × ((before : List Made) × ((told s).calls ≡ Some before) × IsSoFar rs (sent_by before) acts (sent_by l) c)) → Moment rs acts (told s) l c
    by (inr (between, (before, was, h))) = record { before = before; was = was; so_far = h }
    by (inl past) =
        let (before, was, (same, im)) = old_moment s t l c left.between past in
        record {
          before = before;
          was = was;
          so_far = early rs (sent_by before) [] acts (sent_by l) c
              (quiet_so_far rs before l c (up_same rs n (told s) c u im) ([], append-nil (sent_by before) ∙ ap sent_by (sym same)) ([], append-nil (sent_by l) ∙ ap sent_by same));
        }

  -- what a node sent that halted
  halted_sent : (rs : List Record) (made : List Made) (meaning : Meaning) (time : ℕ) (n m : State) (s t : S) (l : List Made) → IsUp rs n (told s)
      → Halts (line_of made) meaning time n m (told s) (told t) → Between (told s) (told t) l → (before : List Made) → (told s).calls ≡ Some before
      → IsPrefix (sent_by before) (sent_by l) × IsPrefix (sent_by l) (sent_by before ++ sent_by made)
  halted_sent rs made meaning time n m s t l u h (first, after, was, is, p, q) before again =
      let same : first ≡ before = some_is first before (sym was ∙ again) in
      let all : after ≡ before ++ (calls_of (line_of made) ++ h.first) = some_is after (before ++ (calls_of (line_of made) ++ h.first)) (sym is ∙ h.calls ∙ ap (option_map (λ z. z ++ (calls_of (line_of made) ++ h.first))) again) in
      let quiet : sent_by h.first ≡ [] = makes_silent appends.Unsure n.journal.live (length (frames u.holds.bodies)) (bytes_of h.entry) h.first (h.makes u.holds.bodies u.holds.keeps) in
      let sent : sent_by after ≡ sent_by before ++ sent_by made =
      ap sent_by all ∙ sent_append before (calls_of (line_of made) ++ h.first)
      ∙ ap (λ z. sent_by before ++ z) (sent_append (made ++ []) h.first ∙ (λ i. sent_by (append-nil made i) ++ quiet i) ∙ append-nil (sent_by made)) in
      (subst (λ z. IsPrefix (sent_by z) (sent_by l)) same (prefix_sent first l p), subst (IsPrefix (sent_by l)) sent (prefix_sent l after q))

  turn_cut : (rs : List Record) (result : Turned) (role : Role) (shrunk : Shrunk) (n m : State) (s t : S) (l : List Made) (c : Files) → IsUp rs n (told s)
      → (turn : TakesTurn told result role shrunk n m s t) → IsLeft (told s) (told t) l c → IsCutOff rs (begun_in turn.first role n turn.node (told s) (told turn.behind) turn.steps) (told s) l c
  turn_cut rs result role shrunk n m s t l c u turn left =
      by turn.first turn.steps turn.ends (moment rs (acts_in turn.first role n turn.node (told s) (told turn.behind) turn.steps) n m s t l c u (turn_did bodies grows told rs result role shrunk n m s t u turn) left)
    where
      k : State
      k = turn.node

      mid : S
      mid = turn.behind

      by : (first : Turned) (steps : Turns first role n k (told s) (told mid)) → Ends told first result shrunk k m mid t → Moment rs (acts_in first role n k (told s) (told mid) steps) (told s) l c
          → IsCutOff rs (begun_in first role n k (told s) (told mid) steps) (told s) l c
      by (turneds.Served status) steps ends h =
          let w = steps.serves.works.0 in
          came_cut rs w.steps (told s) l c h.before h.was
          (came_so_far rs w.steps w.doings n.kept w.ran.are steps.serves.made (line_answers _ (is_heard steps.serves.meaning) _ _ steps.serves.made steps.serves.line) (sent_by h.before) (sent_by l) c h.so_far)
      by turneds.Ticked steps ends h =
          let w = steps.serves.works.0 in
          came_cut rs w.steps (told s) l c h.before h.was
          (came_so_far rs w.steps w.doings n.kept w.ran.are steps.serves.made (line_answers _ (is_heard steps.serves.meaning) _ _ steps.serves.made steps.serves.line) (sent_by h.before) (sent_by l) c h.so_far)
      by turneds.NoRoom steps ends h =
          let w = steps.serves.works in
          unbusy rs n.book w.steps (told s) l c
          (came_cut rs (w.steps ++ busy n.book w.steps) (told s) l c h.before h.was
          (came_so_far rs (w.steps ++ busy n.book w.steps) w.doings n.kept w.ran.are steps.serves.made (line_answers _ (is_heard steps.serves.meaning) _ _ steps.serves.made steps.serves.line) (sent_by h.before) (sent_by l) c h.so_far))
      by turneds.Halted (inl steps) ends h = absurd (true≢false (sym steps.0 ∙ u.runs))
      by turneds.Halted (inr steps) ends h =
          let v = steps.1.serves in
          let same : told t ≡ told mid = ap told ends.site in
          let between : Between (told s) (told mid) l = subst (λ z. Between (told s) z l) same left.between in
          let here : IsUp rs (calm n) (told s) = record { runs = u.runs; records = u.records; holds = u.holds; same = u.same; kept = u.kept } in
          let (from, most) = halted_sent rs v.made v.meaning v.now (calm n) k s mid l here v.works between h.before h.was in
          came_cut rs (v.works.step ∷ []) (told s) l c h.before h.was
          (halted_by rs v.made (line_answers _ (is_heard v.meaning) _ _ v.made v.line) v.works.step (map call_by v.works.step.leaving) (sent_by h.before) (sent_by l) c from most h.so_far.k h.so_far.stands)
      by turneds.Closed steps ends h = came_cut rs [] (told s) l c h.before h.was (none_came rs [] (sent_by h.before) (sent_by l) c h.so_far)
      by turneds.LinkDown steps ends h = came_cut rs [] (told s) l c h.before h.was (none_came rs [] (sent_by h.before) (sent_by l) c h.so_far)

  -- a request
  both_prefix : (xs ys : List Call) → IsPrefix xs ys → IsPrefix ys xs → ys ≡ xs
  both_prefix xs ys (r, e) q =
      let none : r ≡ [] = left_of_none r (cancel_prefix xs r [] (subst (λ z. IsPrefix z (xs ++ [])) (sym e) (subst (IsPrefix ys) (sym (append-nil xs)) q))) in
      sym e ∙ ap (λ z. xs ++ z) none ∙ append-nil xs

  undone_at : (rs : List Record) (old : Told) (l : List Made) (c : Files) (before : List Made) → old.calls ≡ Some before → StandForSame (rs ++ []) c → IsPrefix (sent_by before ++ []) (sent_by l)
      → IsPrefix (sent_by l) (sent_by before ++ []) → IsUndone rs old l c
  undone_at rs old l c before was h p q = record {
    stands = stands_for rs c (subst (λ z. StandForSame z c) (append-nil rs) h);
    before = before;
    was = was;
    calls = both_prefix (sent_by before) (sent_by l) (subst (λ z. IsPrefix z (sent_by l)) (append-nil (sent_by before)) p) (subst (IsPrefix (sent_by l)) (append-nil (sent_by before)) q);
  }

  undone : (rs : List Record) (old : Told) (l : List Made) (c : Files) → Moment rs [] old l c → IsUndone rs old l c
  undone rs old l c h =
      undone_at rs old l c h.before h.was (subst (λ z. StandForSame (rs ++ records_in z) c) (none_taken h.so_far.k) h.so_far.stands)
      (subst (λ z. IsPrefix (sent_by h.before ++ sent_in z) (sent_by l)) (none_taken (h.so_far.k - 1)) h.so_far.least)
      (subst (λ z. IsPrefix (sent_by l) (sent_by h.before ++ sent_in z)) (none_taken h.so_far.k) h.so_far.most)

  step_met : (rs : List Record) (n m : State) (request : Local) (time status : ℕ) (old new : Told) (l : List Made) (c : Files) → (d : IsDone status n m (events.Local request) time old new)
      → Moment rs (record { records = records_by (if_landed d.landed (plan n.book (events.Local request) time).entry); sent = sent_by d.went.made } ∷ []) old l c
      → IsUndone rs old l c ⊎ IsBegun rs n.book request old l c
  step_met rs n m request time status old new l c d h = by h.so_far.k h.so_far.within h.so_far.stands h.so_far.least h.so_far.most
    where
      entry : List Record
      entry = records_by (if_landed d.landed (plan n.book (events.Local request) time).entry)

      acts : List Act
      acts = record { records = entry; sent = sent_by d.went.made } ∷ []

      start : List Call
      start = sent_by h.before

      one : TurnStep
      one = record {
        entry = (plan n.book (events.Local request) time).entry;
        landed = d.landed;
        leaving = d.leaving;
        behind = (step n.book (events.Local request) time d.landed).book;
        came = (step n.book (events.Local request) time d.landed).effects;
      }

      by : (k : ℕ) → k ≤ 1 → StandForSame (rs ++ records_in (take k acts)) c → IsPrefix (start ++ sent_in (take (k - 1) acts)) (sent_by l) → IsPrefix (sent_by l) (start ++ sent_in (take k acts))
          → IsUndone rs old l c ⊎ IsBegun rs n.book request old l c
      by zero few stands p q = inl (undone_at rs old l c h.before h.was stands p q)
      by (suc zero) few stands (r, e) q =
          let split : start ++ r ≡ sent_by l = ap (λ z. z ++ r) (sym (append-nil start)) ∙ e in
          let part : IsPrefix r (sent_by d.went.made) =
          subst (IsPrefix r) (append-nil (sent_by d.went.made)) (cancel_prefix start r (sent_by d.went.made ++ []) (subst (λ z. IsPrefix z (start ++ (sent_by d.went.made ++ []))) (sym split) q)) in
          let some = partly d.leaving d.went.made r (tried_left d.went.tried) part in
          inr (record {
            now = time;
            step = one;
            doing = some.doing;
            posts = some.posts;
            is = record { entry = refl; outcome = record { leaving = d.are; behind = refl; came = refl } };
            sent = some.sent;
            stands = stands_for (rs ++ entry) c (subst (λ z. StandForSame (rs ++ z) c) (append-nil entry) stands);
            before = h.before;
            was = h.was;
            calls = sym split ∙ ap (λ z. start ++ z) (sym some.is);
          })
      by (suc (suc k)) few stands p q = absurd (omega (arith, few))

  stop_met : (rs : List Record) (n m : State) (request : Local) (time : ℕ) (s t : S) (l : List Made) (c : Files) → n.journal.unsure ≡ false → (d : IsStopped n m (events.Local request) time (told s) (told t))
      → IsLeft (told s) (told t) l c → Moment rs (record { records = d.entry ∷ []; sent = map call_by d.leaving } ∷ []) (told s) l c → IsUndone rs (told s) l c ⊎ IsBegun rs n.book request (told s) l c
  stop_met rs n m request time s t l c sure d left h = by h.so_far.k h.so_far.stands
    where
      acts : List Act
      acts = record { records = d.entry ∷ []; sent = map call_by d.leaving } ∷ []

      one : TurnStep
      one = record {
        entry = (plan n.book (events.Local request) time).entry;
        landed = true;
        leaving = d.leaving;
        behind = (step n.book (events.Local request) time true).book;
        came = (step n.book (events.Local request) time true).effects;
      }

      silent : sent_by l ≡ sent_by h.before
      silent =
          let (first, after, was, is, p, q) = left.between in
          let same : first ≡ h.before = some_is first h.before (sym was ∙ h.was) in
          let all : after ≡ h.before ++ d.stopped.first = some_is after (h.before ++ d.stopped.first) (sym is ∙ d.stopped.calls ∙ ap (option_map (λ z. z ++ d.stopped.first)) h.was) in
          let quiet : sent_by d.stopped.first ≡ [] = makes_silent appends.Unsure n.journal.live n.journal.end (bytes_of d.entry) d.stopped.first d.stopped.makes in
          let sent : sent_by after ≡ sent_by h.before = ap sent_by all ∙ sent_append h.before d.stopped.first ∙ ap (λ z. sent_by h.before ++ z) quiet ∙ append-nil (sent_by h.before) in
          both_prefix (sent_by h.before) (sent_by l) (subst (λ z. IsPrefix (sent_by z) (sent_by l)) same (prefix_sent first l p)) (subst (IsPrefix (sent_by l)) sent (prefix_sent l after q))

      by : (k : ℕ) → StandForSame (rs ++ records_in (take k acts)) c → IsUndone rs (told s) l c ⊎ IsBegun rs n.book request (told s) l c
      by zero stands = inl (record { stands = stands_for rs c (subst (λ z. StandForSame z c) (append-nil rs) stands); before = h.before; was = h.was; calls = silent })
      by (suc k) stands =
          inr (record {
            now = time;
            step = one;
            doing = record { landed = []; first = []; made = []; lost = 0; refused = 0 };
            posts = [];
            is = record { entry = refl; outcome = record { leaving = d.are; behind = refl; came = refl } };
            sent = record { went = []; some = tt; calls = refl; posts = refl };
            stands = stands_for (rs ++ records_by (plan n.book (events.Local request) time).entry) c
                (subst (λ z. StandForSame (rs ++ records_by z) c) (sym d.is) (subst (λ z. StandForSame (rs ++ (d.entry ∷ records_in z)) c) (none_taken k) stands));
            before = h.before;
            was = h.was;
            calls = silent ∙ sym (append-nil (sent_by h.before));
          })

  request_met : (rs : List Record) (answer : Locally) (n m : State) (request : Local) (s t : S) (l : List Made) (c : Files) → IsUp rs n (told s) → Requests told answer n m request s t
      → IsLeft (told s) (told t) l c → IsUndone rs (told s) l c ⊎ IsBegun rs n.book request (told s) l c
  request_met rs answer n m request s t l c u r left =
      by answer r.asked (moment rs (acts_for answer n m request (told s) (told t) r.asked) n m s t l c u (request_did bodies grows told rs answer n m request s t u r) left)
    where
      by : (answer : Locally) (a : Asked answer n m request (told s) (told t)) → Moment rs (acts_for answer n m request (told s) (told t) a) (told s) l c
          → IsUndone rs (told s) l c ⊎ IsBegun rs n.book request (told s) l c
      by (answers.Done id) a h = step_met rs (record n { effects = [] }) m request a.3.0 a.3.1 (told s) (told t) l c a.3.3 h
      by (answers.Refused why) a h = inl (undone rs (told s) l c h)
      by answers.NoRoom a h = inl (undone rs (told s) l c h)
      by answers.Halted (inl a) h = absurd (true≢false (sym a.0 ∙ u.runs))
      by answers.Halted (inr a) h = stop_met rs (record n { effects = [] }) m request a.2.0 s t l c u.holds.sure a.2.2 left h

  -- a start
  last_typed : (xs : List Record) (r : Record) (ts : List (List ℕ)) → AreRecords Two (xs ++ r ∷ []) ts → IsTyped r
  last_typed [] r [] h = absurd h
  last_typed [] r (t ∷ ts) h = h.0.typed
  last_typed (x ∷ xs) r [] h = absurd h
  last_typed (x ∷ xs) r (t ∷ ts) h = last_typed xs r ts h.1

  on_the_way : (version : Version) (qs rs : List Record) (c : Files) → AreSame (carried version qs) rs → OnTheWay version qs c
      → StandsFor rs c ⊎ ((last_incarnation rs < 4294967295) × StandsFor (rs ++ start_after rs ∷ []) c)
  on_the_way version qs rs c same (inl h) = inl (record { version = version; found = qs; stands = h; same = same })
  on_the_way version qs rs c same (inr (inl h)) = inl (record { version = Two; found = carried version qs; stands = h; same = same })
  on_the_way version qs rs c same (inr (inr h)) =
      let typed : last_incarnation qs + 1 < 2 ^ 32 = last_typed (carried version qs) (start_after qs) h.texts h.are in
      let last : last_incarnation rs ≡ last_incarnation qs = sym (same_last (carried version qs) rs same) ∙ carried_last shrinks version qs in
      inr (omega (arith, typed, last), record { version = Two; found = started version qs; stands = h; same = same_started shrinks version qs rs same })

  start_met : AreApart → (rs : List Record) (base : List ℕ) (limit : ℕ) (s t : S) (l : List Made) (c f : Files) → Is (told s).files f → IsDown rs (told s) → Begins base limit (told s) (told t)
      → IsLeft (told s) (told t) l c → StandsFor rs c ⊎ ((last_incarnation rs < 4294967295) × StandsFor (rs ++ start_after rs ∷ []) c)
  start_met apart rs base limit s t l c f is down begins left = by begins
    where
      before : (told s).past l c → StandsFor rs c ⊎ ((last_incarnation rs < 4294967295) × StandsFor (rs ++ start_after rs ∷ []) c)
      before past = let (b, was, (same, im)) = old_moment s t l c left.between past in inl (down.images c im)

      lasts : Lasts (told s) c → StandsFor rs c ⊎ ((last_incarnation rs < 4294967295) × StandsFor (rs ++ start_after rs ∷ []) c)
      lasts (inl im) = inl (down.images c im)
      lasts (inr (g, gives, alike)) =
          let h = down.files g gives in
          inl (record {
            version = h.version;
            found = h.found;
            stands = record { texts = h.stands.texts; is = alike h.version h.stands.texts h.stands.is; are = h.stands.are };
            same = h.same;
          })

      way : (version : Version) (qs : List Record) → Found version qs (told s) → OnTheWay version qs c → StandsFor rs c ⊎ ((last_incarnation rs < 4294967295) × StandsFor (rs ++ start_after rs ∷ []) c)
      way version qs found h = on_the_way version qs rs c (restarts_same apart f version qs rs (found.is f is) (down.files f is)) h

      by : Begins base limit (told s) (told t) → StandsFor rs c ⊎ ((last_incarnation rs < 4294967295) × StandsFor (rs ++ start_after rs ∷ []) c)
      by (inl (n, start)) =
          ⊎_elim before (λ p. ⊎_elim (λ im. inl (down.images c im)) (λ h. way start.version start.rs start.was.found h) p.1) (start.time.adds l c left.past)
      by (inr (e, cannot)) =
          ⊎_elim before (λ p. ⊎_elim lasts (λ x. way x.0 x.1 x.2 x.3) p.1) (cannot.time.adds l c left.past)

  -- between calls
  idle_met : (p : Place) (s : S) (c : Files) → Fits p (told s) → (told s).images c → StandsFor p.records c
  idle_met p s c h im = by p.node refl
    where
      by : (o : Option State) → p.node ≡ o → StandsFor p.records c
      by None e = (h.down e).images c im
      by (Some n) e = stands_for p.records c (up_same p.records n (told s) c (h.up n e) im)

  pub crashes_are_met : AreApart → CrashesAreMet told
  crashes_are_met apart = record {
    starts = λ hosts u ls i p limit t l c f run here down is begins left.
        start_met apart p.records (hosts.base_of i) limit (ls i) t l c f is ((all_fit bodies grows shrinks told restarts hosts u ls run i p here).down down) begins left;
    turns = λ hosts u ls i p n m result role shrunk t l c run here up turn left.
        turn_cut p.records result role shrunk n m (ls i) t l c ((all_fit bodies grows shrinks told restarts hosts u ls run i p here).up n up) turn left;
    requests = λ hosts u ls i p n m answer request t l c run here up asks left.
        request_met p.records answer n m request (ls i) t l c ((all_fit bodies grows shrinks told restarts hosts u ls run i p here).up n up) asks left;
    between = λ hosts u ls i p c run here im. idle_met p (ls i) c (all_fit bodies grows shrinks told restarts hosts u ls run i p here) im;
  }
