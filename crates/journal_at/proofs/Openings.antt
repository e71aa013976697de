-- What a journal is opened on.
use Rattle.std.proofs.Common.{ℕ, List, Bool, Option, Some, None, Result, Ok, Err, zero, suc, true, false, not, ◌&&◌, [], ◌∷◌, length, ◌≡◌, ◌++◌, ◌-◌, ◌<◌, ◌≤◌, ◌⊎◌, ◌↔◌, inl, inr, ⊎_elim, refl, sym, ◌∙◌, ap, subst, drop, replicate, map, option_map, OnOk, OnErr, arith}
use Rattle.std.proofs.lemmas.Bool.{ltb-true, ltb-false}
use Rattle.std.proofs.lemmas.List.{length-append, length-drop}
use Rattle.site_model.proofs.Past.{and_then, weaker}
use Rattle.site_model.specs.Counts.{Rose}
use Rattle.site_model.specs.Site.{Counts}
use Rattle.site_model.specs.Calls.{Outcome}
use Rattle.site_model.specs.Told.{Told, Files, Is, Within, Between, Elapses, Settled, TornFrom, TornIn, done, file_of, other_than, with_file, written}
use Rattle.journal_at.specs.declared.journal.Journal.{Journal}
use Rattle.journal_at.specs.declared.load.LoadFault.TheVariants.{Disk, NoJournal}
use Rattle.journal_at.specs.declared.records.Records.{Records}
use Rattle.journal_at.specs.declared.scan.Scan.{Scan}
use Rattle.journal_at.specs.declared.scan.Both.{Both}
use Rattle.journal_at.specs.Format.{AreListed, Closed, FileOf, Mark, frames, head_of, mark_of, marked, records_of, without}
use Rattle.journal_at.specs.Loads.{Alike, AreEmpty, Fails, IsBare, Lasts, Loads, Ready, Rests, Spent, shuts, shuts_if, syncs}
use Rattle.journal_at.specs.Loads.FailsAt.{gate}
use Rattle.journal_at.specs.Pairs.{AreNew, FilesOf, HasLive, Holds, IsJournal, IsLive}
use Rattle.journal_at.specs.Frames.{ArePlaced, bodies_of, listed_in}
use Rattle.journal_at.specs.Scans.{IsForeignIn, IsGate, IsJournalIn, IsOpened, IsPicked, IsScan, IsSeen, is_bare, mark_in, records_in, second_lives, starts}
use Rattle.journal_at.specs.StandingBodies.{Keeps, Laid, Spare, Stands}
use Rattle.journal_at.proofs.SyncedWrites.{rose_later}
use Rattle.journal_at.proofs.SyncedFiles.{fails_ready}
use Rattle.journal_at.proofs.NewJournals.{journal_marked, journal_of, journal_short}
use Rattle.journal_at.proofs.DeviceCalls.{after_that, all_ran, breaks_then, grown_then, option_map_is, through}
use Rattle.journal_at.proofs.OtherFiles.{others_laid, spare_of, spare_others}

pub no_true : false ≡ true → ⊥
no_true e = subst Is_no e tt where
  Is_no : Bool → Type 0
  Is_no false = Unit {0}
  Is_no true = ⊥

pub head_is : (bodies : List (List ℕ)) → marked (mark_in bodies) ≡ head_of bodies
head_is [] = refl
head_is (body ∷ bodies) = refl

pub records_are : (bodies : List (List ℕ)) → records_of bodies ≡ drop (starts (mark_in bodies)) bodies
records_are [] = refl
records_are (body ∷ bodies) = by_mark (mark_of body) where
  by_mark : (m : Option Mark) → without m body bodies ≡ drop (starts m) (body ∷ bodies)
  by_mark (Some mark) = refl
  by_mark None = refl

abbrev pub listed : Scan → List (List ℕ)
listed s = listed_in s.bodies

pub generation_is : (s : Scan) (f : List ℕ) → IsScan s f → s.head.generation ≡ (head_of (listed s)).generation
generation_is s f h = h.head.generation ∙ ap (λ (m : Mark). m.generation) (head_is (listed s))

pub version_is : (s : Scan) (f : List ℕ) → IsScan s f → s.head.version ≡ (head_of (listed s)).version
version_is s f h = h.head.version ∙ ap (λ (m : Mark). m.version) (head_is (listed s))

pub records_from : (s : Scan) (f : List ℕ) → IsScan s f → records_of (listed s) ≡ drop s.head.start (listed s)
records_from s f h = records_are (listed s) ∙ ap (λ n. drop n (listed s)) (sym h.head.start)

-- a file of at most one byte has no bodies, and one of the sort is another
pub long_closed : (bodies : List (List ℕ)) (f : List ℕ) → Closed bodies f → 1 ≤ length f
long_closed bodies f h = let k = ap length h.is ∙ length-append (frames bodies) (h.gate ∷ h.rest) in omega (arith, k)

pub bare_none : (f : List ℕ) (bodies : List (List ℕ)) → length f ≤ 1 → FileOf f bodies → bodies ≡ []
bare_none f bodies l h = ⊎_elim (λ k. k.1) (none bodies) h.is where
  none : (bodies : List (List ℕ)) → Closed bodies f → bodies ≡ []
  none [] k = refl
  none (body ∷ bodies) k = let n = ap length k.is ∙ length-append (frames (body ∷ bodies)) (k.gate ∷ k.rest) in absurd (omega (arith, n, l))

pub file_torn : (f g : List ℕ) (bodies : List (List ℕ)) → length f ≤ 1 → length g ≤ 1 → FileOf f bodies → FileOf g bodies
file_torn f g bodies l m h = record { listed = h.listed; is = inl (m, bare_none f bodies l h) }

pub closed_long : (f : List ℕ) (bodies : List (List ℕ)) → 1 < length f → FileOf f bodies → Closed bodies f
closed_long f bodies l h = ⊎_elim (λ k. absurd (omega (arith, l, k.0))) (λ k. k) h.is

pub closed_marked : (f : List ℕ) (bodies : List (List ℕ)) → 0 < (head_of bodies).generation → FileOf f bodies → Closed bodies f
closed_marked f bodies l h = ⊎_elim (λ k. absurd (omega (arith, l, ap (λ z. (head_of z).generation) k.1))) (λ k. k) h.is

-- a file of at most one byte may be another
pub alike_short : (d c : Files) → length d.first ≤ 1 → length c.first ≤ 1 → c.second ≡ d.second → Alike d c
alike_short d c l short kept version records h =
    record { live = h.live; bodies = h.bodies; others = h.others; is = is h.live h.is; other = other h.live h.other; newer = h.newer; journal = journal_short h.bodies d c short kept h.journal; versions = h.versions; all = h.all } where
      is : (w : ℕ) → FileOf (file_of w d) h.bodies → FileOf (file_of w c) h.bodies
      is zero k = file_torn d.first c.first h.bodies l short k
      is (suc n) k = subst (λ z. FileOf z h.bodies) (sym kept) k

      other : (w : ℕ) → FileOf (other_than w d) h.others → FileOf (other_than w c) h.others
      other zero k = subst (λ z. FileOf z h.others) (sym kept) k
      other (suc n) k = file_torn d.first c.first h.others l short k

pub alike_torn : (d c : Files) → length d.first ≤ 1 → TornIn 0 0 1 d c → Alike d c
alike_torn d c l t = alike_short d c l (omega (arith, l, t.torn.no_longer)) t.kept

pub written_short : (f : List ℕ) → length f ≤ 1 → length (written 0 (0 ∷ []) f) ≤ 1
written_short f l =
    let none : 0 - length f ≡ 0 = omega arith in
    let n : length (written 0 (0 ∷ []) f) ≡ suc (length (drop 1 f)) = (λ i. length (replicate (none i) 0 ++ (0 ∷ drop 1 f))) in
    omega (arith, l, n, length-drop 1 f)

-- the pair whose one file is live
pub pair_of : (w : ℕ) (s o : Scan) (f : Files) → IsScan s (file_of w f) → IsScan o (other_than w f) → IsLive w (listed s) (listed o) → IsJournal (listed s) f → HasLive w (listed s) f
pair_of w s o f h k l j = (h.is, record { others = listed o; is = k.is; newer = l }, j)

pub holds_of : (w : ℕ) (s o : Scan) (f : Files) → Closed (listed s) (file_of w f) → IsScan o (other_than w f) → IsLive w (listed s) (listed o) → IsJournal (listed s) f → Holds w (listed s) f
holds_of w s o f h k l j = record { closed = h; beside = record { others = listed o; is = k.is; newer = l }; journal = j }

pub stands_of : (w : ℕ) (bodies : List (List ℕ)) (t : Told) → Within (Is t.files) t.images → AreListed bodies → ((f : Files) → Is t.files f → Holds w bodies f) → Stands w bodies t
stands_of w bodies t settled k h = record { listed = k; files = h; images = λ c im. h c (settled c im) }

module _ (w limit : ℕ) (u : Bool) (s : Scan) (f : List ℕ) (journal : Journal) (records : Records) (scan : IsScan s f) (opened : IsOpened w limit u s journal records) where
  pub records_same : drop s.head.start (listed s) ≡ records_in records
  records_same = (λ i. drop (sym opened.start i) (bodies_of (sym opened.items i)))

  pub keeps_of : (t : Told) → Stands w (listed s) t → Spare u w (listed s) t → Keeps journal (listed s) t
  keeps_of t h k =
      record {
        stands = subst (λ n. Stands n (listed s) t) (sym opened.live_is) h;
        spare = subst (λ n. Spare journal.unshut n (listed s) t) (sym opened.live_is) (subst (λ z. Spare z w (listed s) t) (sym opened.unshut_is) k);
        end = opened.end ∙ scan.end;
        generation = opened.generation ∙ generation_is s f scan;
      }

  -- so it stands for the records
  stand_of : (g : Files) → HasLive w (listed s) g → FilesOf g s.head.version (drop s.head.start (listed s))
  stand_of g (h, k, j) =
      record { live = w; bodies = listed s; others = k.others; is = h; other = k.is; newer = k.newer; journal = j; versions = sym (version_is s f scan); all = records_from s f scan }

  pub opens : (old new : Told) (bare : Bool) → ((g : Files) → Is old.files g → HasLive w (listed s) g) → ((g : Files) → Is old.files g → IsGate u (other_than w g)) → Stands w (listed s) new → Spare u w (listed s) new → ((g : Files) → Is old.files g → (bare ≡ true) ↔ IsBare journal g)
      → new.calls ≡ option_map (λ l. l ++ map done (syncs ++ shuts_if bare)) old.calls → ((c : Files) → new.images c → Lasts old c) → Elapses old new (λ l c. Between old new l × Lasts old c) → Spent old new
      → Loads (Ok (journal, records)) limit old new
  opens old new bare has gates stands spare when grown images time spent = (
    record {
      is = λ g k. subst (λ z. FilesOf g z (records_in records)) (sym opened.version) (subst (FilesOf g s.head.version) records_same (stand_of g (has g k)));
      bodies = listed s;
      held = λ g k. subst (λ n. HasLive n (listed s) g) (sym opened.live_is) (has g k);
      gate = λ g k. subst (λ n. IsGate journal.unshut (other_than n g)) (sym opened.live_is) (subst (λ z. IsGate z (other_than w g)) (sym opened.unshut_is) (gates g k));
      keeps = keeps_of new stands spare;
      version = sym (version_is s f scan) ∙ sym opened.version;
      records_are = records_from s f scan ∙ records_same;
      placed = subst (ArePlaced 0) (sym opened.items) scan.gates;
      bare = bare;
      when = when;
      grown = grown;
      images = images;
      time = time;
      spent = spent;
    },
    opened.sure,
    opened.limit_is,
  )

module _ (old mid : Told) (both : Both) (ready : Ready old mid) (a : IsSeen both.first 0 mid) (b : IsSeen both.second 1 mid) where
  pub first_of : (f : Files) → Is mid.files f → IsScan both.first f.first
  first_of f is = subst (IsScan both.first) (a.told f is) a.is

  pub second_of : (f : Files) → Is mid.files f → IsScan both.second f.second
  second_of f is = subst (IsScan both.second) (b.told f is) b.is

  pub then_mid : (f : Files) → Is old.files f → Is mid.files f
  then_mid f is = ready.files ∙ is

  pub second_newer : second_lives both ≡ true → IsLive 1 (listed both.second) (listed both.first)
  second_newer e =
      let k = ltb-true both.first.head.generation both.second.head.generation e in
      omega (arith, k, generation_is both.first _ a.is, generation_is both.second _ b.is)

  pub first_newer : second_lives both ≡ false → IsLive 0 (listed both.first) (listed both.second)
  first_newer e =
      let k = ltb-false both.first.head.generation both.second.head.generation e in
      omega (arith, k, generation_is both.first _ a.is, generation_is both.second _ b.is)

  -- where file 0 is live and has no body, the files are those of a new journal
  pub new_of : IsJournalIn both → second_lives both ≡ false → (f : Files) → Is mid.files f → listed both.first ≡ [] → AreNew f
  new_of judged e f is none = let k = judged e none in record { first = (first_of f is).small k.0; second = (second_of f is).small k.1 }

  pub is_journal : IsJournalIn both → second_lives both ≡ false → (f : Files) → Is mid.files f → IsJournal (listed both.first) f
  is_journal judged e f is = journal_of (listed both.first) f (new_of judged e f is)

  -- a pair that is no journal
  pub fails_foreign : IsForeignIn both → Fails NoJournal old mid
  fails_foreign (e, none, large) =
      fails_ready NoJournal old mid
      (λ f was.
      let is = then_mid f was in
      record {
        others = listed both.second;
        is = subst (FileOf f.first) none (first_of f is).is;
        other = (second_of f is).is;
        newer = subst (λ z. IsLive 0 z (listed both.second)) none (first_newer e);
        long = ⊎_elim (λ k. inl ((first_of f is).large k)) (λ k. inr ((second_of f is).large k)) large;
      })
      ready

  pub plain_time : Elapses old mid (λ l c. Between old mid l × Lasts old c)
  plain_time = weaker old mid _ _ ready.time (λ l c n. (n.0, inl n.1))

  pub opens_second : (journal : Journal) (records : Records) (limit : ℕ) → second_lives both ≡ true → IsOpened 1 limit both.first.unshut both.second journal records → Loads (Ok (journal, records)) limit old mid
  opens_second journal records limit e o =
      let l = second_newer e in
      opens 1 limit both.first.unshut both.second _ journal records b.is o old mid false
      (λ g is. pair_of 1 both.second both.first g (second_of g (then_mid g is)) (first_of g (then_mid g is)) l (journal_marked _ g (omega (arith, l)))) (λ g is. (first_of g (then_mid g is)).gate)
      (stands_of 1 _ mid ready.settled b.is.is.listed (λ f is. holds_of 1 both.second both.first f (closed_marked f.second _ (omega (arith, l)) (second_of f is).is) (first_of f is) l (journal_marked _ f (omega (arith, l)))))
      (spare_of both.first.unshut 1 _ _ mid l (λ f is. ((first_of f is).is, (first_of f is).gate)) (λ c im. let k = first_of c (ready.settled c im) in (k.is, k.gate)))
      (λ g is. ((λ k. absurd (no_true k)), (λ k. absurd (omega (arith, k.0, o.live_is)))))
      ready.grown (λ c im. inl (ready.images c im)) plain_time ready.spent

  pub opens_first : IsJournalIn both → (journal : Journal) (records : Records) (limit : ℕ) → second_lives both ≡ false → both.first.bare ≡ false → IsOpened 0 limit both.second.unshut both.first journal records → Loads (Ok (journal, records)) limit old mid
  opens_first judged journal records limit e n o =
      let l = first_newer e in
      opens 0 limit both.second.unshut both.first _ journal records a.is o old mid false
      (λ g is. pair_of 0 both.first both.second g (first_of g (then_mid g is)) (second_of g (then_mid g is)) l (is_journal judged e g (then_mid g is))) (λ g is. (second_of g (then_mid g is)).gate)
      (stands_of 0 _ mid ready.settled a.is.is.listed (λ f is. holds_of 0 both.first both.second f (closed_long f.first _ ((first_of f is).long n) (first_of f is).is) (second_of f is) l (is_journal judged e f is)))
      (spare_of both.second.unshut 0 _ _ mid l (λ f is. ((second_of f is).is, (second_of f is).gate)) (λ c im. let k = second_of c (ready.settled c im) in (k.is, k.gate)))
      (λ g is. ((λ k. absurd (no_true k)), (λ k. absurd (omega (arith, k.1, (first_of g (then_mid g is)).long n)))))
      ready.grown (λ c im. inl (ready.images c im)) plain_time ready.spent

  -- a shut gate is written
  module _ (new : Told) (bare : both.first.bare ≡ true) (judged : IsJournalIn both) where
    pub lasts_torn : (c : Files) → TornFrom 0 0 1 mid.images c → Lasts old c
    lasts_torn c (d, was, t) =
        let is = ready.settled d was in
        inr (d, sym ready.files ∙ is, alike_torn d c ((first_of d is).bare bare) t)

    pub shut_time : {T E : Type 0} (r : Result T E) → Laid 0 0 (0 ∷ []) r mid new → Elapses old new (λ l c. Between old new l × Lasts old c)
    shut_time r h =
        and_then old mid new _
        (weaker old mid _ _ ready.time (λ l c n. (through old mid new h.calls.made l h.calls.grown n.0, inl n.1)))
        (weaker mid new _ _ h.time (λ l c n. (after_that old mid new (map done syncs) l ready.grown n.0, lasts_torn c n.1)))

    pub shut_spent : {T E : Type 0} (r : Result T E) → Laid 0 0 (0 ∷ []) r mid new → Spent old new
    shut_spent r h =
        record {
          disk = omega (arith, ready.spent.disk, h.cause.later);
          others = h.others ∙ ap (λ (z : Counts). record z { disk = new.counts.disk }) ready.spent.others;
          apart = record { link = h.apart.link ∙ ready.spent.apart.link; clock = h.apart.clock ∙ ready.spent.apart.clock };
        }

    pub shut_rests : {T E : Type 0} (r : Result T E) (x : E) → r ≡ Err x → Laid 0 0 (0 ∷ []) r mid new → Rests old new
    shut_rests {T} {E} r x e h f is = ⊎_elim put torn (subst (λ z. OnErr z Either) e h.failed f is) where
      Either : Type 0
      Either = (f : Files) → Is new.files f → ((g : Files) × Is mid.files g × (f ≡ with_file 0 (written 0 (0 ∷ [])) g)) ⊎ TornFrom 0 0 1 (Is mid.files) f

      put : (g : Files) × Is mid.files g × (f ≡ with_file 0 (written 0 (0 ∷ [])) g) → (g : Files) × Is old.files g × Alike g f
      put (g, was, same) =
          let short = (first_of g was).bare bare in
          (g, sym ready.files ∙ was, subst (Alike g) (sym same) (alike_short g (with_file 0 (written 0 (0 ∷ [])) g) short (written_short g.first short) refl))

      torn : TornFrom 0 0 1 (Is mid.files) f → (g : Files) × Is old.files g × Alike g f
      torn (g, was, t) = (g, sym ready.files ∙ was, alike_torn g f ((first_of g was).bare bare) t)

    -- no file has a body
    pub shut_empty : second_lives both ≡ false → AreEmpty old
    shut_empty n f is =
        let none : listed both.first ≡ [] = bare_none f.first _ ((first_of f (then_mid f is)).bare bare) (first_of f (then_mid f is)).is in
        record {
          live = 0;
          bodies = [];
          others = listed both.second;
          is = subst (FileOf f.first) none (first_of f (then_mid f is)).is;
          other = (second_of f (then_mid f is)).is;
          newer = subst (λ z. IsLive 0 z (listed both.second)) none (first_newer n);
          journal = new_of judged n f (then_mid f is) none;
          versions = refl;
          all = refl;
        }

    pub fails_shut : {T E : Type 0} (r : Result T E) (x : E) → r ≡ Err x → Laid 0 0 (0 ∷ []) r mid new → second_lives both ≡ false → Fails Disk old new
    fails_shut r x e h n =
        record {
          cause = rose_later old.counts.disk mid.counts.disk new.counts.disk ready.spent.disk (subst (λ z. OnErr z (Rose mid.counts.disk new.counts.disk)) e h.cause.failed);
          made = map done syncs ++ h.calls.made;
          ends = gate (shut_empty n) (breaks_then syncs shuts (map done syncs) h.calls.made refl (subst (λ z. Outcome shuts z h.calls.made) e h.calls.outcome));
          grown = grown_then old.calls mid.calls new.calls (map done syncs) h.calls.made ready.grown h.calls.grown;
          files = shut_rests r x e h;
          images = λ c im. lasts_torn c (h.images c im);
          time = shut_time r h;
          spent = shut_spent r h;
        }

    pub shut_closed : (f : Files) → Is mid.files f → Closed (listed both.first) (written 0 (0 ∷ []) f.first)
    shut_closed f is =
        let none : 0 - length f.first ≡ 0 = omega arith in
        record {
          gate = 0;
          rest = drop 1 f.first;
          shut = λ z. absurd (omega (arith, z));
          is = (λ i. replicate (none i) 0 ++ (0 ∷ drop 1 f.first)) ∙ ap (λ z. frames z ++ (0 ∷ drop 1 f.first)) (sym (bare_none f.first _ ((first_of f is).bare bare) (first_of f is).is));
        }

    module _ {T E : Type 0} (r : Result T E) (x : T) (e : r ≡ Ok x) (h : Laid 0 0 (0 ∷ []) r mid new) (n : second_lives both ≡ false) where
      pub newer : IsLive 0 (listed both.first) (listed both.second)
      newer = first_newer n

      pub shut_files : (f : Files) → Is new.files f → Holds 0 (listed both.first) f
      shut_files f is =
          let now : new.files ≡ option_map (with_file 0 (written 0 (0 ∷ []))) mid.files = subst (λ z. OnOk z (new.files ≡ option_map (with_file 0 (written 0 (0 ∷ []))) mid.files)) e h.done in
          let (g, was, same) = option_map_is (with_file 0 (written 0 (0 ∷ []))) mid.files f (sym now ∙ is) in
          subst (Holds 0 (listed both.first)) (sym same) (holds_of 0 both.first both.second _ (shut_closed g was) (second_of g was) newer (journal_short _ g _ (written_short g.first ((first_of g was).bare bare)) refl (is_journal judged n g was)))

      pub shut_images : (c : Files) → new.images c → Holds 0 (listed both.first) c
      shut_images c im =
          let (f, is, one) = subst (λ z. OnOk z (Settled 0 new.files new.images)) e h.settled c im in
          let (d, was, t) = h.images c im in
          record {
            closed = subst (Closed (listed both.first)) (sym one) (shut_files f is).closed;
            beside = record { others = listed both.second; is = subst (λ z. FileOf z (listed both.second)) (sym t.kept) (second_of d (ready.settled d was)).is; newer = newer };
            journal = journal_short _ d c (omega (arith, (first_of d (ready.settled d was)).bare bare, t.torn.no_longer)) t.kept (is_journal judged n d (ready.settled d was));
          }

    pub opens_shut : {T E : Type 0} (r : Result T E) (x : T) (journal : Journal) (records : Records) (limit : ℕ) → r ≡ Ok x → Laid 0 0 (0 ∷ []) r mid new → second_lives both ≡ false → IsOpened 0 limit both.second.unshut both.first journal records → Loads (Ok (journal, records)) limit old new
    opens_shut r x journal records limit e h w o =
        let l = first_newer w in
        let ran = all_ran shuts r x mid new e h.calls in
        opens 0 limit both.second.unshut both.first _ journal records a.is o old new true
        (λ g is. pair_of 0 both.first both.second g (first_of g (then_mid g is)) (second_of g (then_mid g is)) l (is_journal judged w g (then_mid g is))) (λ g is. (second_of g (then_mid g is)).gate)
        (record { listed = a.is.is.listed; files = shut_files r x e h w; images = shut_images r x e h w })
        (spare_others both.second.unshut 0 _ mid new (others_laid 0 0 (0 ∷ []) r mid new h) (spare_of both.second.unshut 0 _ _ mid l (λ f is. ((second_of f is).is, (second_of f is).gate)) (λ c im. let k = second_of c (ready.settled c im) in (k.is, k.gate))))
        (λ g is. ((λ k. (o.live_is, (first_of g (then_mid g is)).bare bare)), (λ k. refl)))
        (grown_then old.calls mid.calls new.calls (map done syncs) (map done shuts) ready.grown (ran.grown ∙ ap (λ m. option_map (λ l. l ++ m) mid.calls) ran.is))
        (λ c im. lasts_torn c (h.images c im)) (shut_time r h) (shut_spent r h)

-- how a journal that was picked is opened
pub bare_first : (both : Both) → is_bare both ≡ true → both.first.bare ≡ true
bare_first both e = by_case both.first.bare (second_lives both) refl e where
  by_case : (f s : Bool) → both.first.bare ≡ f → (f && not s) ≡ true → both.first.bare ≡ true
  by_case true s k e = k
  by_case false s k e = absurd (no_true e)

pub bare_second : (both : Both) → is_bare both ≡ true → second_lives both ≡ false
bare_second both e = by_case both.first.bare (second_lives both) refl e where
  by_case : (f s : Bool) → second_lives both ≡ s → (f && not s) ≡ true → second_lives both ≡ false
  by_case true false k e = k
  by_case true true k e = absurd (no_true e)
  by_case false s k e = absurd (no_true e)

pub fails_bare : (old mid new : Told) (both : Both) → Ready old mid → IsSeen both.first 0 mid → IsSeen both.second 1 mid → IsJournalIn both → {T E : Type 0} (r : Result T E) (x : E) → r ≡ Err x → Laid 0 0 (0 ∷ []) r mid new → is_bare both ≡ true → Fails Disk old new
fails_bare old mid new both ready a b judged {T} {E} r x e h n = fails_shut old mid both ready a b new (bare_first both n) judged r x e h (bare_second both n)

pub opens_plain : (old mid : Told) (both : Both) → Ready old mid → IsSeen both.first 0 mid → IsSeen both.second 1 mid → IsJournalIn both → (journal : Journal) (records : Records) (limit : ℕ) → is_bare both ≡ false → IsPicked (second_lives both) limit both journal records → Loads (Ok (journal, records)) limit old mid
opens_plain old mid both ready a b judged journal records limit n p = by_case (second_lives both) both.first.bare refl refl n p where
  by_case : (s f : Bool) → second_lives both ≡ s → both.first.bare ≡ f → (f && not s) ≡ false → IsPicked s limit both journal records → Loads (Ok (journal, records)) limit old mid
  by_case true f e k n p = opens_second old mid both ready a b journal records limit e p
  by_case false false e k n p = opens_first old mid both ready a b judged journal records limit e k p
  by_case false true e k n p = absurd (no_true (sym n))

pub opens_bare : (old mid new : Told) (both : Both) → Ready old mid → IsSeen both.first 0 mid → IsSeen both.second 1 mid → IsJournalIn both → {T E : Type 0} (r : Result T E) (x : T) (journal : Journal) (records : Records) (limit : ℕ) → r ≡ Ok x → Laid 0 0 (0 ∷ []) r mid new → is_bare both ≡ true → IsPicked (second_lives both) limit both journal records → Loads (Ok (journal, records)) limit old new
opens_bare old mid new both ready a b judged {T} {E} r x journal records limit e h n p = by_case (second_lives both) both.first.bare refl refl n p where
  by_case : (s f : Bool) → second_lives both ≡ s → both.first.bare ≡ f → (f && not s) ≡ true → IsPicked s limit both journal records → Loads (Ok (journal, records)) limit old new
  by_case true true e k n p = absurd (no_true n)
  by_case true false e k n p = absurd (no_true n)
  by_case false true w k n p = opens_shut old mid both ready a b new k judged r x journal records limit e h w p
  by_case false false e k n p = absurd (no_true n)
