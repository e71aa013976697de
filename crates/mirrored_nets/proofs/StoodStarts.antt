-- What stands in a machine's files of version 2 behind some of the calls of a start.
use Rattle.std.specs.Prelude.{ℕ, List, [], ◌∷◌, ◌++◌, ◌+◌, ◌-◌, ◌≡◌, ◌≤◌, ◌<◌, ◌⊎◌, ◌&&◌, Bool, true, false, if◌then◌else◌, length, map, nat_le, nat_lt, suc, take, zero}
use Rattle.std.proofs.Common.{refl, sym, ap, subst, arith, rules, ◌∙◌, inl, inr}
use Rattle.std.proofs.lemmas.Bool.{cases_lt, le-leb, le-ltb, lt-ltb}
use Rattle.std.proofs.lemmas.List.{append_assoc, append-nil, take_all}
use Rattle.at_base.specs.declared.record.Record.{Record}
use Rattle.at_model.specs.Recovery.{last_incarnation}
use Rattle.decision_log.specs.Folds.{AreRecords}
use Rattle.mirrored_nets.proofs.RecordFrames.{end_is}
use Rattle.journal_at.specs.Format.{AreListed, Closed, frames, head_of, records_of}
use Rattle.journal_at.specs.Loads.{syncs}
use Rattle.journal_at.specs.Pairs.{Holds}
use Rattle.journal_at.specs.StandingBodies.{MayFollow}
use Rattle.journal_at.specs.declared.version.Version.TheVariants.{Two}
use Rattle.node_at.specs.Sizes.{end_of}
use Rattle.node_at.specs.Starts.{StandFor, append_calls, start_after}
use Rattle.record_bytes.specs.Bytes.{bytes_of}
use Rattle.record_bytes.specs.Versions.{AreApart, AreBodies as RecordsAreBodies, IsRecord}
use Rattle.site_memory.specs.Devices.{calls_in, opening_in}
use Rattle.site_memory.specs.Disk.{ChosenAreImages, Disk, Image, MayBe, chosen, chosen_files, disk, opened, run, which_of}
use Rattle.site_memory.specs.Tells.{reads}
use Rattle.site_memory.specs.declared.arm.Choice.{Choice}
use Rattle.site_memory.specs.declared.arm.Choice.TheVariants.{Drop, Fill, Keep}
use Rattle.site_memory.specs.declared.machine.MemSite.{MemSite}
use Rattle.site_memory.specs.declared.range.Which.{Which}
use Rattle.site_memory.specs.declared.range.Which.TheVariants.{First, Second}
use Rattle.site_model.specs.Told.{Call, Files, Made, done, file_of}
use Rattle.torn_appends.specs.TornAppends.{gate_stands, stands_behind, with_body}
use Rattle.torn_appends.proofs.DiskRuns.{beside_of, run_on}
use Rattle.torn_appends.proofs.TornAppends.{goes, holds_then, row, same_generation, stays, stopped_live}
use Rattle.mirrored_nets.specs.LeftStarts.{IsMarked, IsStanding}
use Rattle.mirrored_nets.specs.TookStart.{HasLast}
use Rattle.mirrored_nets.proofs.LeftFiles.{head_more, may_follow, records_more, records_push}
use Rattle.mirrored_nets.proofs.OneStanding.{found_one}
use Rattle.mirrored_nets.proofs.UpsAndDowns.{last_push}

-- records of version 2 whose last incarnation is this, or the next
pub record Stood (last : ℕ) (rises : Bool) (c : Files) : Type 0 where
  pub records : List Record
  pub stands : StandFor Two records c
  pub last_is : last_incarnation records ≡ (if rises then last + 1 else last)

-- what its reads give
abbrev pub read_in : MemSite → Files
read_in s = reads (opening_in s.device) (calls_in s.device)

-- The file that a Start goes into is the one that is live, and these are its bodies and records.
pub record Ground (last : ℕ) (s : MemSite) : Type 0 where
  pub live : ℕ
  pub rs : List Record
  pub bodies : List (List ℕ)
  pub holds : Holds live bodies (read_in s)
  pub two : (head_of bodies).version ≡ Two
  pub listed : AreListed bodies
  pub are : AreRecords Two rs (records_of bodies)
  pub formed : IsRecord Two (start_after rs) (bytes_of (start_after rs))
  pub last_is : last ≡ last_incarnation rs

-- all calls of the start
abbrev pub start_made : ℕ → List Record → List Made
start_made live rs = map done syncs ++ map done (append_calls live (end_of rs) (bytes_of (start_after rs)))

-- behind both syncs nothing is pending
synced : (which : Which) (d : Disk) → run which d (map done syncs) ≡ opened d.seen
synced First d = refl
synced Second d = refl

chosen_opened : (choice : Choice) (x : List ℕ) → chosen choice (opened x) ≡ x
chosen_opened Keep x = refl
chosen_opened Drop x = refl
chosen_opened (Fill b) x = refl

-- behind the first sync a crash leaves what it might have left before
first_synced : ChosenAreImages → (o : Files) (log : List Made) (choice : Choice) → Image o log (chosen_files choice o (log ++ done (Call.Sync 0) ∷ []))
first_synced images o log choice = (
  subst (MayBe (disk First o log))
      (sym (ap (chosen choice) (run_on First (opened o.first) log (done (Call.Sync 0) ∷ [])) ∙ chosen_opened choice (disk First o log).seen)) (images Keep o log).0,
  subst (MayBe (disk Second o log)) (sym (ap (chosen choice) (run_on Second (opened o.second) log (done (Call.Sync 0) ∷ [])))) (images choice o log).1,
)

some_files : (a b : Files) → a.first ≡ b.first → a.second ≡ b.second → a ≡ b
some_files a b e f = λ i. record { first = e i; second = f i }

read_file : (live : ℕ) (o : Files) (log : List Made) → file_of live (reads o log) ≡ (disk (which_of live) o log).seen
read_file zero o log = refl
read_file (suc n) o log = refl

-- the first calls of an append
part_of : (live end : ℕ) (body : List ℕ) (m : ℕ) → m ≤ 4 → take m (map done (append_calls live end body)) ≡ row end body live m true
part_of live end body zero most = refl
part_of live end body (suc zero) most = refl
part_of live end body (suc (suc zero)) most = refl
part_of live end body (suc (suc (suc zero))) most = refl
part_of live end body (suc (suc (suc (suc zero)))) most = refl
part_of live end body (suc (suc (suc (suc (suc m))))) most = absurd (omega (arith, most))

-- a list whose head is a mark has one
marked_some : (b : Bool) (bodies : List (List ℕ)) (body : List ℕ) → (head_of bodies).version ≡ Two → with_body b bodies body ≡ [] → ⊥
marked_some b [] body two none = absurd (search (rules, two))
marked_some true (x ∷ bodies) body two none = cc
marked_some false (x ∷ bodies) body two none = cc

-- with the Start, or without
abbrev with_start : Bool → List Record → List Record
with_start true rs = rs ++ start_after rs ∷ []
with_start false rs = rs

rises_so : (b : Bool) (last before behind : ℕ) → before ≡ last → behind ≡ (if b then last + 1 else last) → nat_lt before behind ≡ b
rises_so true last before behind was is = lt-ltb before behind (omega (arith, was, is))
rises_so false last before behind was is = le-ltb before behind (omega (arith, was, is))

module _ (images : ChosenAreImages) (last : ℕ) (old : MemSite) (K : IsMarked last old) where
  abbrev o : Files
  o = opening_in old.device

  abbrev log : List Made
  log = calls_in old.device

  abbrev f : Files
  f = read_in old

  -- behind a sync at most
  pub early : (n : ℕ) (choice : Choice) → n ≤ 1 → Stood last false (chosen_files choice o (log ++ take n (map done syncs)))
  early zero choice most =
      let (qs, stands, same) = K.stands (chosen_files choice o log) (images choice o log) in
      record { records = qs; stands = subst (λ l. StandFor Two qs (chosen_files choice o l)) (sym (append-nil log)) stands; last_is = sym same }
  early (suc zero) choice most =
      let (qs, stands, same) = K.stands _ (first_synced images o log choice) in
      record { records = qs; stands = stands; last_is = sym same }
  early (suc (suc n)) choice most = absurd (omega (arith, most))

  -- a machine that reads so
  module _ (apart : AreApart) (rises : Bool) (new : MemSite) (S : Stood last rises (read_in new)) where
    pub is_standing : IsStanding new
    is_standing = record { version = Two; records = S.records; stand = S.stands }

    pub rose : (before behind : ℕ) → HasLast before old → HasLast behind new → nat_lt before behind ≡ rises
    rose before behind was is =
        let (qs, stands, same) = K.stands f (images Keep o log) in
        rises_so rises last before behind (was.last_is ∙ ap last_incarnation (found_one apart f was.version Two was.records qs was.stand stands) ∙ sym same)
        (is.last_is ∙ ap last_incarnation (found_one apart (read_in new) is.version Two is.records S.records is.stand S.stands) ∙ S.last_is)

  module _ (law : RecordsAreBodies) (G : Ground last old) where
    abbrev e : ℕ
    e = end_of G.rs

    abbrev body : List ℕ
    body = bytes_of (start_after G.rs)

    abbrev row_made : List Made
    row_made = map done (append_calls G.live e body)

    follows : MayFollow G.bodies body
    follows = may_follow G.bodies body G.listed G.two (law Two (start_after G.rs) body G.formed)

    end_at : e ≡ length (frames G.bodies)
    end_at = sym (end_is G.bodies G.rs G.two G.are)

    abbrev synced_log : List Made
    synced_log = log ++ map done syncs

    live_synced : disk (which_of G.live) o synced_log ≡ opened (file_of G.live f)
    live_synced = run_on (which_of G.live) _ log (map done syncs) ∙ synced (which_of G.live) (disk (which_of G.live) o log) ∙ ap opened (sym (read_file G.live o log))

    all_closed : (choice : Choice) → Closed G.bodies (chosen choice (disk (which_of G.live) o synced_log))
    all_closed choice = subst (λ d. Closed G.bodies (chosen choice d)) (sym live_synced) (subst (Closed G.bodies) (sym (chosen_opened choice (file_of G.live f))) G.holds.closed)

    synced_files : (choice : Choice) → chosen_files choice o synced_log ≡ f
    synced_files choice =
        some_files (chosen_files choice o synced_log) f
        (ap (chosen choice) (run_on First _ log (map done syncs) ∙ synced First (disk First o log)) ∙ chosen_opened choice (disk First o log).seen)
        (ap (chosen choice) (run_on Second _ log (map done syncs) ∙ synced Second (disk Second o log)) ∙ chosen_opened choice (disk Second o log).seen)

    held : (m : ℕ) (choice : Choice) → m ≤ 4 → Holds G.live (with_body (stands_behind m choice) G.bodies body) (chosen_files choice o (synced_log ++ row e body G.live m true))
    held m choice most =
        holds_then G.live G.bodies (with_body (stands_behind m choice) G.bodies body) choice o synced_log (row e body G.live m true) _ (subst (Holds G.live G.bodies) (sym (synced_files choice)) G.holds)
        (goes e body G.live m true (disk (which_of G.live) o synced_log)) (stays e body G.live m true (disk (beside_of G.live) o synced_log)) (same_generation (stands_behind m choice) G.bodies body follows)
        (λ none. absurd (marked_some (stands_behind m choice) G.bodies body G.two none))
        (stopped_live e body G.bodies end_at (disk (which_of G.live) o synced_log) all_closed m choice most)

    standing : (b : Bool) (c : Files) → Holds G.live (with_body b G.bodies body) c → StandFor Two (with_start b G.rs) c
    standing true c h = record {
      texts = records_of (G.bodies ++ body ∷ []);
      is = record {
        live = G.live;
        bodies = G.bodies ++ body ∷ [];
        others = h.beside.others;
        is = record { listed = follows.listed; is = inr h.closed };
        other = h.beside.is;
        newer = h.beside.newer;
        journal = h.journal;
        versions = head_more G.bodies (body ∷ []) G.two;
        all = refl;
      };
      are = subst (AreRecords Two (G.rs ++ start_after G.rs ∷ [])) (sym (records_more G.bodies (body ∷ []) G.two)) (records_push G.rs (records_of G.bodies) (start_after G.rs) G.are G.formed);
    }
    standing false c h = record {
      texts = records_of G.bodies;
      is = record {
        live = G.live;
        bodies = G.bodies;
        others = h.beside.others;
        is = record { listed = G.listed; is = inr h.closed };
        other = h.beside.is;
        newer = h.beside.newer;
        journal = h.journal;
        versions = G.two;
        all = refl;
      };
      are = G.are;
    }

    with_last : (b : Bool) → last_incarnation (with_start b G.rs) ≡ (if b then last + 1 else last)
    with_last true = let high = last_push G.rs (start_after G.rs) in let same = G.last_is in omega (arith, high, same)
    with_last false = sym G.last_is

    stood_at : (m kept : ℕ) (choice : Choice) (c : Files) → kept - 2 ≡ m → (b : Bool) → stands_behind m choice ≡ b → Holds G.live (with_body b G.bodies body) c → Stood last (stands_behind (kept - 2) choice) c
    stood_at m kept choice c less b is h = record {
      records = with_start b G.rs;
      stands = standing b c h;
      last_is = with_last b ∙ ap (λ z. if z then last + 1 else last) (sym is ∙ ap (λ k. stands_behind k choice) (sym less));
    }

    -- behind so many of its calls
    pub stood : (kept : ℕ) (choice : Choice) → Stood last (stands_behind (kept - 2) choice) (chosen_files choice o (log ++ take kept (start_made G.live G.rs)))
    stood zero choice = early zero choice (omega arith)
    stood (suc zero) choice = early (suc zero) choice (omega arith)
    stood (suc (suc m)) choice = by (cases_lt 4 m)
      where
        by : (4 < m) ⊎ (m ≤ 4) → Stood last (stands_behind (suc (suc m) - 2) choice) (chosen_files choice o (log ++ take (suc (suc m)) (start_made G.live G.rs)))
        by (inr most) =
            stood_at m (suc (suc m)) choice _ (omega arith) (stands_behind m choice) refl
            (subst (λ l. Holds G.live (with_body (stands_behind m choice) G.bodies body) (chosen_files choice o l))
            (append_assoc log (map done syncs) (row e body G.live m true) ∙ ap (λ z. log ++ (map done syncs ++ z)) (sym (part_of G.live e body m most))) (held m choice most))
        by (inl more) =
            stood_at m (suc (suc m)) choice _ (omega arith) true (ap (λ b. if b then true else (nat_le 3 m && gate_stands choice)) (le-leb 4 m (omega (arith, more))))
            (subst (λ l. Holds G.live (G.bodies ++ body ∷ []) (chosen_files choice o l))
            (append_assoc log (map done syncs) (row e body G.live 4 true) ∙ ap (λ z. log ++ (map done syncs ++ z)) (sym (take_all m row_made (omega (arith, more))))) (held 4 choice (omega arith)))
