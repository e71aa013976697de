-- What the files of a machine stand for whose node alone touches them.
use Rattle.std.specs.Prelude.{ℕ, List, [], ◌∷◌, ◌++◌, ◌+◌, ◌-◌, ◌≡◌, ◌⊎◌, Some, None, Bool, true, false, nat_eq, if◌then◌else◌, zero, suc, refl}
use Rattle.std.proofs.Common.{inl, inr, sym, subst, ap, ◌∙◌, arith}
use Rattle.std.proofs.lemmas.Bool.{cases_eq}
use Rattle.std.proofs.lemmas.List.{append-nil}
use Rattle.at_base.specs.declared.event.Event.TheVariants as events
use Rattle.at_base.specs.declared.record.Record.{Record}
use Rattle.at_base.specs.declared.record.Record.TheVariants as records
use Rattle.at_model.specs.Recovery.{last_incarnation}
use Rattle.at_model.specs.Step.{plan}
use Rattle.at_model.specs.World.{nth, put_nth, Hosts}
use Rattle.decision_log.specs.KeptRecords.{GrowsByOne, kept_of}
use Rattle.decision_log.specs.ShrunkJournals.{ShrinksTheSame}
use Rattle.journal_at.specs.declared.version.Version.{Version}
use Rattle.journal_at.specs.declared.version.Version.TheVariants.{One, Two}
use Rattle.record_bytes.specs.Versions.{AreBodies as RecordsAreBodies}
use Rattle.site_model.specs.Told.{Told, Files, Is}
use Rattle.node_at.specs.Endings.{Ends}
use Rattle.node_at.specs.ShrunkJournals.{AreSame}
use Rattle.node_at.specs.StartedNodes.{IsStarted}
use Rattle.node_at.specs.Starts.{carried, start_after, started}
use Rattle.node_at.specs.State.{State}
use Rattle.node_at.specs.Steps.{if_landed}
use Rattle.node_at.specs.Turns.{Turns, busy}
use Rattle.node_at.specs.declared.local.Locally.TheVariants as answers
use Rattle.node_at.specs.declared.role.Role.{Role}
use Rattle.node_at.specs.declared.shrink.Shrunk.{Shrunk}
use Rattle.node_at.specs.declared.turn.Turned.{Turned}
use Rattle.node_at.specs.declared.turn.Turned.TheVariants as turneds
use Rattle.node_worlds.specs.Acts.{IsUp, acts_in, records_in}
use Rattle.node_worlds.specs.Machines.{Goes, IsLeftAlone, IsOn, RunsOn, RunsOnMachines}
use Rattle.node_worlds.specs.Nets.{Net, Place, Runs, new_place, new_places, steps_in}
use Rattle.node_worlds.specs.Restarts.{RestartsOnRecords, StandsFor}
use Rattle.node_worlds.specs.SentPosts.{recorded, records_by}
use Rattle.node_worlds.proofs.Acts.{same_more, up_on}
use Rattle.node_worlds.proofs.LifeLaws.{request_did, turn_did}
use Rattle.node_worlds.proofs.Places.{nth_other, nth_this}
use Rattle.node_worlds.proofs.ActRecords.{acts_recorded}
use Rattle.node_worlds.proofs.Rows.{some_is}
use Rattle.node_worlds.proofs.NetWorlds.{carried_last, same_last}

pub record IsDown (rs : List Record) (s : Told) : Type 0 where
  pub files : (f : Files) → Is s.files f → StandsFor rs f
  pub images : (c : Files) → s.images c → StandsFor rs c

-- a place, and the machine there
pub record Fits (p : Place) (s : Told) : Type 0 where
  pub down : p.node ≡ None → IsDown p.records s
  pub up : (n : State) → p.node ≡ Some n → IsUp p.records n s

abbrev pub AllFit : {S : Type 0} → (S → Told) → List Place → (ℕ → S) → Type 0
AllFit told places ms = (i : ℕ) (p : Place) → nth i places ≡ Some p → Fits p (told (ms i))

no_node : (n : State) → None ≡ Some n → ⊥
no_node n e = cc

fits_down : (p : Place) (s : Told) → p.node ≡ None → IsDown p.records s → Fits p s
fits_down p s e h = record { down = λ same. h; up = λ n f. absurd (no_node n (sym e ∙ f)) }

fits_up : (p : Place) (n : State) (s : Told) → p.node ≡ Some n → IsUp p.records n s → Fits p s
fits_up p n s e h = record { down = λ f. absurd (no_node n (sym f ∙ e)); up = λ m f. subst (λ z. IsUp p.records z s) (some_is n m (sym e ∙ f)) h }

-- one place changed
abbrev pub OnlyPut : ℕ → Place → List Place → List Place → Type 0
OnlyPut i q xs ys = (j : ℕ) (r : Place) → nth j ys ≡ Some r → ((j ≡ i) × (q ≡ r)) ⊎ ((j ≡ i → ⊥) × (nth j xs ≡ Some r))

only_put : (xs : List Place) (i : ℕ) (p q : Place) → nth i xs ≡ Some p → OnlyPut i q xs (put_nth i q xs)
only_put xs i p q here j r e = by (cases_eq j i) where
  by : (j ≡ i) ⊎ (j ≡ i → ⊥) → ((j ≡ i) × (q ≡ r)) ⊎ ((j ≡ i → ⊥) × (nth j xs ≡ Some r))
  by (inl f) = inl (f, some_is q r (sym (nth_this xs i p q here) ∙ ap (λ k. nth k (put_nth i q xs)) (sym f) ∙ e))
  by (inr f) = inr (f, sym (nth_other xs j i q f) ∙ e)

put_twice : (xs : List Place) (i : ℕ) (p z q : Place) → nth i xs ≡ Some p → OnlyPut i q xs (put_nth i q (put_nth i z xs))
put_twice xs i p z q here j r e = by (only_put (put_nth i z xs) i z q (nth_this xs i p z here) j r e) where
  by : ((j ≡ i) × (q ≡ r)) ⊎ ((j ≡ i → ⊥) × (nth j (put_nth i z xs) ≡ Some r)) → ((j ≡ i) × (q ≡ r)) ⊎ ((j ≡ i → ⊥) × (nth j xs ≡ Some r))
  by (inl h) = inl h
  by (inr (f, g)) = inr (f, sym (nth_other xs j i z f) ∙ g)

-- the places of a net that nobody has started in
new_at : (k i : ℕ) (p : Place) → nth i (new_places k) ≡ Some p → p ≡ new_place
new_at zero i p e = absurd cc
new_at (suc k) i p e = by_number (λ f. new_at k (i - 1) p f) (nat_eq i 1) e
  where
    by_number : (nth (i - 1) (new_places k) ≡ Some p → p ≡ new_place) → (c : Bool) → (if c then Some new_place else nth (i - 1) (new_places k)) ≡ Some p → p ≡ new_place
    by_number rest true f = sym (some_is new_place p f)
    by_number rest false f = rest f

abbrev empty : Files
empty = record { first = []; second = [] }

empty_stands : StandsFor [] empty
empty_stands = record {
  version = One;
  found = [];
  stands = record {
    texts = [];
    is = record {
      live = 0;
      bodies = [];
      others = [];
      is = record { listed = record { sized = tt; placed = tt }; is = inl (omega arith, refl) };
      other = record { listed = record { sized = tt; placed = tt }; is = inl (omega arith, refl) };
      newer = omega arith;
      journal = record { first = omega arith; second = omega arith };
      versions = refl;
      all = refl;
    };
    are = tt;
  };
  same = λ more. refl;
}

down_on : (rs : List Record) (c : Files) (s : Told) → IsOn c s → StandsFor rs c → IsDown rs s
down_on rs c s on h = record { files = λ f is. subst (StandsFor rs) (some_is c f (sym on.files ∙ is)) h; images = λ d now. subst (StandsFor rs) (sym (on.images d now)) h }

alone : (p : Place) (old new : Told) → IsLeftAlone old new → Fits p old → Fits p new
alone p old new h f = record {
  down = λ e. record { files = λ g is. (f.down e).files g (sym h.files ∙ is); images = λ c now. (f.down e).images c (h.images c now) };
  up = λ n e. up_on p.records n old new h.files h.images (f.up n e);
}

-- the records of a start
pub same_started : ShrinksTheSame → (version : Version) (rs ps : List Record) → AreSame (carried version rs) ps → AreSame (started version rs) (ps ++ start_after ps ∷ [])
same_started law version rs ps same =
    let last : last_incarnation rs ≡ last_incarnation ps = sym (carried_last law version rs) ∙ same_last (carried version rs) ps same in
    subst (λ k. AreSame (started version rs) (ps ++ records.Start (k + 1) ∷ [])) last (same_more (carried version rs) ps (start_after rs ∷ []) same)

-- the records of a turn
turn_recorded : (first : Turned) (role : Role) (n m : State) (old new : Told) (t : Turns first role n m old new) → (first ≡ turneds.Halted → ⊥)
    → records_in (acts_in first role n m old new t) ≡ recorded (steps_in first role n m old new t)
turn_recorded (turneds.Served status) role n m old new t runs = let w = t.serves.works.0 in acts_recorded n.kept w.steps w.doings w.ran.are
turn_recorded turneds.Ticked role n m old new t runs = let w = t.serves.works.0 in acts_recorded n.kept w.steps w.doings w.ran.are
turn_recorded turneds.NoRoom role n m old new t runs = let w = t.serves.works in acts_recorded n.kept (w.steps ++ busy n.book w.steps) w.doings w.ran.are
turn_recorded turneds.Halted role n m old new t runs = absurd (runs refl)
turn_recorded turneds.Closed role n m old new t runs = refl
turn_recorded turneds.LinkDown role n m old new t runs = refl

steps_run : (first : Turned) (role : Role) (n m : State) (old new : Told) → Turns first role n m old new → (first ≡ turneds.Halted → ⊥) → n.halted ≡ false → m.halted ≡ false
steps_run (turneds.Served status) role n m old new t runs up = t.serves.works.0.ran.runs ∙ up
steps_run turneds.Ticked role n m old new t runs up = t.serves.works.0.ran.runs ∙ up
steps_run turneds.NoRoom role n m old new t runs up = t.serves.works.ran.runs ∙ up
steps_run turneds.Halted role n m old new t runs up = absurd (runs refl)
steps_run turneds.Closed role n m old new t runs up = ap (λ (z : State). z.halted) t.1.same ∙ up
steps_run turneds.LinkDown role n m old new t runs up = ap (λ (z : State). z.halted) t.1.same ∙ up

by_answer : (halted : Bool) (result turned : Turned) → result ≡ (if halted then turneds.Halted else turned) → (result ≡ turneds.Halted → ⊥) → halted ≡ false
by_answer true result turned e runs = absurd (runs e)
by_answer false result turned e runs = refl

ends_run : {S : Type 0} (told : S → Told) (first result : Turned) (shrunk : Shrunk) (n m : State) (old new : S) → Ends told first result shrunk n m old new → (result ≡ turneds.Halted → ⊥)
    → n.halted ≡ false → m.halted ≡ false
ends_run told (turneds.Served status) result shrunk n m old new e runs up = by_answer m.halted result (turneds.Served status) e.answers runs
ends_run told turneds.Ticked result shrunk n m old new e runs up = by_answer m.halted result turneds.Ticked e.answers runs
ends_run told turneds.NoRoom result shrunk n m old new e runs up = ap (λ (z : State). z.halted) e.node ∙ up
ends_run told turneds.Halted result shrunk n m old new e runs up = absurd (runs e.answers)
ends_run told turneds.Closed result shrunk n m old new e runs up = ap (λ (z : State). z.halted) e.node ∙ up
ends_run told turneds.LinkDown result shrunk n m old new e runs up = ap (λ (z : State). z.halted) e.node ∙ up

not_first : {S : Type 0} (told : S → Told) (first result : Turned) (shrunk : Shrunk) (n m : State) (old new : S) → Ends told first result shrunk n m old new
    → (result ≡ turneds.Halted → ⊥) → first ≡ turneds.Halted → ⊥
not_first told first result shrunk n m old new ends runs e =
    let rested : Ends told turneds.Halted result shrunk n m old new = subst (λ f. Ends told f result shrunk n m old new) e ends in
    runs rested.answers

module _ (bodies : RecordsAreBodies) (grows : GrowsByOne) (shrinks : ShrinksTheSame) {S : Type 0} (told : S → Told) (restarts : RestartsOnRecords told) where
  fits_put : (xs ys : List Place) (i : ℕ) (q : Place) (t : S) (ls ms : ℕ → S) → OnlyPut i q xs ys → Goes i t ls ms → AllFit told xs ls → Fits q (told t) → AllFit told ys ms
  fits_put xs ys i q t ls ms put goes all h j r e = by (put j r e) where
    by : ((j ≡ i) × (q ≡ r)) ⊎ ((j ≡ i → ⊥) × (nth j xs ≡ Some r)) → Fits r (told (ms j))
    by (inl (f, g)) = subst (λ z. Fits r (told z)) (sym (ap ms f ∙ goes.this)) (subst (λ z. Fits z (told t)) g h)
    by (inr (f, g)) = subst (λ z. Fits r (told z)) (sym (goes.others j f)) (all j r g)

  stays_put : (xs : List Place) (i : ℕ) (p : Place) → nth i xs ≡ Some p → OnlyPut i p xs xs
  stays_put xs i p here j r e = by (cases_eq j i) where
    by : (j ≡ i) ⊎ (j ≡ i → ⊥) → ((j ≡ i) × (p ≡ r)) ⊎ ((j ≡ i → ⊥) × (nth j xs ≡ Some r))
    by (inl f) = inl (f, some_is p r (sym here ∙ ap (λ k. nth k xs) (sym f) ∙ e))
    by (inr f) = inr (f, e)

  same_machine : (i : ℕ) (ms : ℕ → S) → Goes i (ms i) ms ms
  same_machine i ms = record { this = refl; others = λ j f. refl }

  up_down : (rs : List Record) (n : State) (s : S) → IsUp rs n (told s) → IsDown rs (told s)
  up_down rs n s u = record { files = λ f is. restarts.files n s u.records rs u.holds u.same f is; images = λ c now. restarts.images n s u.records rs u.holds u.same c now }

  pub start_same : (base : List ℕ) (limit : ℕ) (n : State) (s t : S) (rs : List Record) (f : Files) → Is (told s).files f → IsDown rs (told s) → (start : IsStarted base limit n (told s) (told t))
      → AreSame (carried start.version start.rs) rs
  start_same base limit n s t rs f is down start = restarts.starts base limit n s t rs f is (down.files f is) start

  started_up : (base : List ℕ) (limit : ℕ) (n : State) (s t : S) (rs : List Record) (f : Files) → Is (told s).files f → IsDown rs (told s) → IsStarted base limit n (told s) (told t)
      → IsUp (rs ++ start_after rs ∷ []) n (told t)
  started_up base limit n s t rs f is down start =
      let all = started start.version start.rs in
      let behind = rs ++ start_after rs ∷ [] in
      let same = same_started shrinks start.version start.rs rs (start_same base limit n s t rs f is down start) in
      record {
        runs = start.runs;
        records = all;
        holds = start.holds;
        same = same;
        kept = start.kept ∙ ap (kept_of Two) (sym (append-nil all)) ∙ same [] ∙ ap (kept_of Two) (append-nil behind);
      }

  pub all_fit : (hosts : Hosts) (net : Net) (ms : ℕ → S) → RunsOn told hosts net ms → AllFit told net.places ms
  all_fit hosts net ms (RunsOn.opened is on) =
      subst (λ (z : Net). AllFit told z.places ms) (sym is)
      (λ i p e.
      let new : new_place ≡ p = sym (new_at hosts.count i p e) in
      subst (λ z. Fits z (told (ms i))) new (fits_down new_place (told (ms i)) refl (down_on [] empty (told (ms i)) (on i) empty_stands)))
  all_fit hosts net ms (RunsOn.waited ls run alike) = λ i p e. alone p (told (ls i)) (told (ms i)) (alike i) (all_fit hosts net ls run i p e)
  all_fit hosts net ms (RunsOn.started u ls i p n limit t f run here down is start goes e) =
      let all = all_fit hosts u ls run in
      let q : Place = record { node = Some n; records = p.records ++ start_after p.records ∷ [] } in
      subst (λ (z : Net). AllFit told z.places ms) (sym e)
      (fits_put u.places (put_nth i q u.places) i q t ls ms (only_put u.places i p q here) goes all
      (fits_up q n (told t) refl (started_up (hosts.base_of i) limit n (ls i) t p.records f is ((all i p here).down down) start)))
  all_fit hosts net ms (RunsOn.start_cut_off u ls i p limit t s l c f run here down is tried crash h e) =
      subst (λ (z : Net). AllFit told z.places ms) (sym e)
      (fits_put u.places u.places i p s ls ms (stays_put u.places i p here) crash.goes (all_fit hosts u ls run) (fits_down p (told s) down (down_on p.records c (told s) crash.on h)))
  all_fit hosts net ms (RunsOn.start_recorded u ls i p limit t s l c f run here down is tried crash small h e) =
      let q : Place = record { node = None; records = p.records ++ start_after p.records ∷ [] } in
      subst (λ (z : Net). AllFit told z.places ms) (sym e)
      (fits_put u.places (put_nth i q u.places) i q s ls ms (only_put u.places i p q here) crash.goes (all_fit hosts u ls run) (fits_down q (told s) refl (down_on q.records c (told s) crash.on h)))
  all_fit hosts net ms (RunsOn.turned u ls i p n m result role shrunk t ps run here up turn runs brings sent goes e) =
      let all = all_fit hosts u ls run in
      let first = turn.first in
      let steps = steps_in first role n turn.node (told (ls i)) (told turn.behind) turn.steps in
      let q : Place = record { node = Some m; records = p.records ++ recorded steps } in
      let here_up = (all i p here).up n up in
      let first_runs = not_first told first result shrunk turn.node m turn.behind t turn.ends runs in
      let going = ends_run told first result shrunk turn.node m turn.behind t turn.ends runs (steps_run first role n turn.node (told (ls i)) (told turn.behind) turn.steps first_runs here_up.runs) in
      subst (λ (z : Net). AllFit told z.places ms) (sym e)
      (fits_put u.places (put_nth i q u.places) i q t ls ms (only_put u.places i p q here) goes all
      (fits_up q m (told t) refl
      (subst (λ z. IsUp (p.records ++ z) m (told t)) (turn_recorded first role n turn.node (told (ls i)) (told turn.behind) turn.steps first_runs)
      ((turn_did bodies grows told p.records result role shrunk n m (ls i) t here_up turn).up going))))
  all_fit hosts net ms (RunsOn.asked u ls i p n m id l t ps run here up done sent goes e) =
      let all = all_fit hosts u ls run in
      let entry = records_by (if_landed done.3.3.landed (plan n.book (events.Local l) done.3.0).entry) in
      let q : Place = record { node = Some m; records = p.records ++ entry } in
      subst (λ (z : Net). AllFit told z.places ms) (sym e)
      (fits_put u.places (put_nth i q u.places) i q t ls ms (only_put u.places i p q here) goes all
      (fits_up q m (told t) refl
      (subst (λ z. IsUp (p.records ++ z) m (told t)) (append-nil entry)
      ((request_did bodies grows told p.records (answers.Done id) n m l (ls i) t ((all i p here).up n up) (record { asked = done; nothing = λ why f. absurd cc })).up done.3.3.went.runs))))
  all_fit hosts net ms (RunsOn.cut_off u ls i p n m result role shrunk t s l c front rest ds ps run here up turn brings crash begun sent h e) =
      let q : Place = record { node = None; records = p.records ++ recorded front } in
      subst (λ (z : Net). AllFit told z.places ms) (sym e)
      (fits_put u.places _ i q s ls ms (put_twice u.places i p _ q here) crash.goes (all_fit hosts u ls run) (fits_down q (told s) refl (down_on q.records c (told s) crash.on h)))
  all_fit hosts net ms (RunsOn.asked_cut_off u ls i p n m answer l t s made c now step doing ps run here up asks crash does sent h e) =
      let q : Place = record { node = None; records = p.records ++ recorded (step ∷ []) } in
      subst (λ (z : Net). AllFit told z.places ms) (sym e)
      (fits_put u.places _ i q s ls ms (put_twice u.places i p _ q here) crash.goes (all_fit hosts u ls run)
      (fits_down q (told s) refl (down_on q.records c (told s) crash.on (subst (λ z. StandsFor (p.records ++ z) c) (sym (append-nil (records_by (if_landed step.landed step.entry)))) h))))
  all_fit hosts net ms (RunsOn.asked_undone u ls i p n m answer l t s made c run here up asks crash h e) =
      let q : Place = record { node = None; records = p.records } in
      subst (λ (z : Net). AllFit told z.places ms) (sym e)
      (fits_put u.places (put_nth i q u.places) i q s ls ms (only_put u.places i p q here) crash.goes (all_fit hosts u ls run) (fits_down q (told s) refl (down_on q.records c (told s) crash.on h)))
  all_fit hosts net ms (RunsOn.idled u i p n run here up e) =
      let all = all_fit hosts u ms run in
      let m : State = record n { effects = [] } in
      let q : Place = record { node = Some m; records = p.records } in
      let h = (all i p here).up n up in
      subst (λ (z : Net). AllFit told z.places ms) (sym e)
      (fits_put u.places (put_nth i q u.places) i q (ms i) ms ms (only_put u.places i p q here) (same_machine i ms) all
      (fits_up q m (told (ms i)) refl (record { runs = h.runs; records = h.records; holds = h.holds; same = h.same; kept = h.kept })))
  all_fit hosts net ms (RunsOn.ended u i p n run here up e) =
      let all = all_fit hosts u ms run in
      let q : Place = record { node = None; records = p.records } in
      subst (λ (z : Net). AllFit told z.places ms) (sym e)
      (fits_put u.places (put_nth i q u.places) i q (ms i) ms ms (only_put u.places i p q here) (same_machine i ms) all
      (fits_down q (told (ms i)) refl (up_down p.records n (ms i) ((all i p here).up n up))))
  all_fit hosts net ms (RunsOn.crashed ls i s p c run here down now on goes) =
      let all = all_fit hosts net ls run in
      fits_put net.places net.places i p s ls ms (stays_put net.places i p here) goes all
      (fits_down p (told s) down (down_on p.records c (told s) on (((all i p here).down down).images c now)))

  pub runs_on_machines : RunsOnMachines told
  runs_on_machines hosts net ms (RunsOn.opened is on) = Runs.opened is
  runs_on_machines hosts net ms (RunsOn.waited ls run alike) = runs_on_machines hosts net ls run
  runs_on_machines hosts net ms (RunsOn.started u ls i p n limit t f run here down is start goes e) =
      Runs.started u i p n limit (ls i) t (runs_on_machines hosts u ls run) here down start
      (start_same (hosts.base_of i) limit n (ls i) t p.records f is ((all_fit hosts u ls run i p here).down down) start) e
  runs_on_machines hosts net ms (RunsOn.start_cut_off u ls i p limit t s l c f run here down is tried crash h e) = subst (Runs told hosts) (sym e) (runs_on_machines hosts u ls run)
  runs_on_machines hosts net ms (RunsOn.start_recorded u ls i p limit t s l c f run here down is tried crash small h e) =
      Runs.start_recorded u i p (runs_on_machines hosts u ls run) here down small e
  runs_on_machines hosts net ms (RunsOn.turned u ls i p n m result role shrunk t ps run here up turn runs brings sent goes e) =
      Runs.turned u i p n m result role shrunk (ls i) t ps (runs_on_machines hosts u ls run) here up turn runs brings sent e
  runs_on_machines hosts net ms (RunsOn.asked u ls i p n m id l t ps run here up done sent goes e) =
      Runs.asked u i p n m id l (ls i) t ps (runs_on_machines hosts u ls run) here up done sent e
  runs_on_machines hosts net ms (RunsOn.cut_off u ls i p n m result role shrunk t s l c front rest ds ps run here up turn brings crash begun sent h e) =
      Runs.cut_off u i p n m result role shrunk (ls i) t front rest ds ps (runs_on_machines hosts u ls run) here up turn brings begun sent e
  runs_on_machines hosts net ms (RunsOn.asked_cut_off u ls i p n m answer l t s made c now step doing ps run here up asks crash does sent h e) =
      Runs.asked_cut_off u i p n l now step doing ps (runs_on_machines hosts u ls run) here up does sent e
  runs_on_machines hosts net ms (RunsOn.asked_undone u ls i p n m answer l t s made c run here up asks crash h e) = Runs.ended u i p n (runs_on_machines hosts u ls run) here up e
  runs_on_machines hosts net ms (RunsOn.idled u i p n run here up e) = Runs.idled u i p n (runs_on_machines hosts u ms run) here up e
  runs_on_machines hosts net ms (RunsOn.ended u i p n run here up e) = Runs.ended u i p n (runs_on_machines hosts u ms run) here up e
  runs_on_machines hosts net ms (RunsOn.crashed ls i s p c run here down now on goes) = runs_on_machines hosts net ls run
