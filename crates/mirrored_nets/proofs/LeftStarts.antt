-- What a crash behind some of the calls of a start leaves of files of version 2.
use Rattle.std.specs.Prelude.{ℕ, List, [], ◌++◌, ◌+◌, ◌-◌, ◌≡◌, ◌≤◌, ◌<◌, ◌⊎◌, Bool, true, false, Ok, drop, length, map, take}
use Rattle.std.proofs.Common.{refl, sym, ap, subst, arith, rules, ◌∙◌, inl, inr}
use Rattle.std.proofs.Math.Seq.{drop-append_seam}
use Rattle.at_base.specs.declared.record.Record.{Record}
use Rattle.at_model.specs.Recovery.{last_incarnation}
use Rattle.decision_log.specs.Folds.{AreRecords}
use Rattle.journal_at.specs.Format.{Closed, FileOf, head_of, records_of}
use Rattle.journal_at.specs.Loads.{IsBare}
use Rattle.journal_at.specs.Pairs.{HasLive}
use Rattle.journal_at.specs.declared.journal.Journal.{Journal}
use Rattle.journal_at.specs.declared.version.Version.{Version}
use Rattle.journal_at.specs.declared.version.Version.TheVariants.{Two}
use Rattle.journal_at.proofs.Openings.{bare_none}
use Rattle.memory_net.specs.Calls.{Begins}
use Rattle.memory_net.proofs.Standing.{comes_on, same_some}
use Rattle.node_at.specs.Sizes.{end_of}
use Rattle.node_at.specs.StartedNodes.{IsStarted}
use Rattle.node_at.specs.Starts.{IsLiveBehind, IsRead, StandFor, start_after, start_calls}
use Rattle.node_at.specs.State.{seen}
use Rattle.node_at.specs.declared.node.Node.{Node}
use Rattle.record_bytes.specs.Bytes.{bytes_of}
use Rattle.record_bytes.specs.Versions.{AreApart, AreBodies as RecordsAreBodies}
use Rattle.site_memory.specs.Devices.{calls_in, opening_in}
use Rattle.site_memory.specs.Disk.{ChosenAreImages, chosen_files}
use Rattle.site_memory.specs.Sites.{told_of}
use Rattle.site_memory.specs.declared.arm.Choice.{Choice}
use Rattle.site_memory.specs.declared.arm.Choice.TheVariants.{Keep}
use Rattle.site_memory.specs.declared.machine.MemSite.{MemSite}
use Rattle.site_model.specs.Told.{Files, Made, done, file_of}
use Rattle.torn_appends.specs.TornAppends.{stands_behind}
use Rattle.mirrored_nets.specs.LeftStarts.{IsMarked, LeavesStart, StartsLeave}
use Rattle.mirrored_nets.specs.Took.{FellBack}
use Rattle.mirrored_nets.proofs.CutCalls.{take_behind}
use Rattle.mirrored_nets.proofs.LeftFiles.{opening_kept}
use Rattle.mirrored_nets.proofs.OneStanding.{found_one, version_one}
use Rattle.mirrored_nets.proofs.StoodStarts.{Ground, Stood, is_standing, read_in, rose, start_made, stood}

-- a list whose head is a mark has one
some_marked : (bodies : List (List ℕ)) → (head_of bodies).version ≡ Two → bodies ≡ [] → ⊥
some_marked bodies two none = absurd (search (rules, subst (λ z. (head_of z).version ≡ Two) none two))

-- a file of version 2 has a gate behind its bodies
pub two_closed : (f : List ℕ) (bodies : List (List ℕ)) → (head_of bodies).version ≡ Two → FileOf f bodies → Closed bodies f
two_closed f bodies two h = by h.is
  where
    by : ((length f ≤ 1) × (bodies ≡ [])) ⊎ Closed bodies f → Closed bodies f
    by (inl (short, e)) = absurd (some_marked bodies two e)
    by (inr closed) = closed

-- Of a start on files of version 2 no first gate is written, and the Start goes into the file that is live.
module _ (apart : AreApart) (images : ChosenAreImages) (old : MemSite) (last : ℕ) (K : IsMarked last old) (bare : Bool) (version : Version) (rs : List Record) (journal : Journal) (file : ℕ)
    (was : IsRead bare version rs journal (told_of old)) (behind : IsLiveBehind version journal file) (least : last_incarnation rs < 4294967295) where
  abbrev f : Files
  f = read_in old

  pub known : (qs : List Record) × StandFor Two qs f × (last ≡ last_incarnation qs)
  known = K.stands f (images Keep (opening_in old.device) (calls_in old.device))

  pub two : version ≡ Two
  two = version_one f version Two rs known.0 (was.found.is f refl) known.1

  pub bodies_two : (head_of was.bodies).version ≡ Two
  bodies_two = was.of ∙ two

  live_is : file ≡ journal.live
  live_is = subst (λ v. IsLiveBehind v journal file) two behind

  pub has : HasLive file was.bodies f
  has = subst (λ n. HasLive n was.bodies f) (sym live_is) (was.live f refl)

  not_bare : (b : Bool) → bare ≡ b → b ≡ false
  not_bare false is = refl
  not_bare true is =
      let short : IsBare journal f = (was.when f refl).0 is in
      absurd (some_marked was.bodies bodies_two (bare_none f.first was.bodies short.1 (subst (λ n. FileOf (file_of n f) was.bodies) short.0 (was.live f refl).0)))

  pub plain : bare ≡ false
  plain = not_bare bare refl

  abbrev pub ground : Ground last old
  ground = record {
    live = file;
    rs = rs;
    bodies = was.bodies;
    holds = record { closed = two_closed (file_of file f) was.bodies bodies_two has.0; beside = has.1; journal = has.2 };
    two = bodies_two;
    listed = has.0.listed;
    are = subst (λ v. AreRecords v rs (records_of was.bodies)) two was.are;
    formed = record { typed = omega (arith, least); formed = omega arith; allowed = tt; is = refl };
    last_is = known.2 ∙ ap last_incarnation (found_one apart f Two Two known.0 rs known.1 (subst (λ v. StandFor v rs f) two (was.found.is f refl)));
  }

module _ (apart : AreApart) (law : RecordsAreBodies) (images : ChosenAreImages) (base : List ℕ) (n : Node) (old t : MemSite) (last : ℕ) (K : IsMarked last old) (B : Begins base (Ok n) old t) where
  abbrev S : IsStarted base 4294967295 (seen n) (told_of old) (told_of t)
  S = B.0

  abbrev live : ℕ
  live = n.journal.live

  abbrev log : List Made
  log = calls_in old.device

  abbrev G : Ground last old
  G = ground apart images old last K S.bare S.version S.rs S.journal live S.was S.live S.least

  calls_so : map done (start_calls S.bare S.version S.rs S.journal live) ≡ start_made live S.rs
  calls_so =
      let bare = plain apart images old last K S.bare S.version S.rs S.journal live S.was S.live S.least in
      let version = two apart images old last K S.bare S.version S.rs S.journal live S.was S.live S.least in
      λ i. map done (start_calls (bare i) (version i) S.rs S.journal live)

  made_is : calls_in t.device ≡ log ++ start_made live S.rs
  made_is = same_some (calls_in t.device) (log ++ map done (start_calls S.bare S.version S.rs S.journal live)) S.grown ∙ ap (λ z. log ++ z) calls_so

  -- what the machine reads that came up there
  module _ (kept : ℕ) (choice : Choice) (new : MemSite) (F : FellBack old t kept choice new) where
    read_then : read_in new ≡ chosen_files choice (opening_in old.device) (log ++ take kept (start_made live S.rs))
    read_then =
        same_some _ _ (comes_on choice F.mid new F.left).files
        ∙ (λ i. chosen_files choice ((F.back.opening ∙ opening_kept old t _ S.time) i)
        ((F.back.calls_are ∙ ap (take (length log + kept)) made_is ∙ take_behind kept (length log) (length log + kept) log (start_made live S.rs) refl refl) i))

    its : Stood last (stands_behind (kept - 2) choice) (read_in new)
    its = subst (Stood last (stands_behind (kept - 2) choice)) (sym read_then) (stood images last old K law G kept choice)

  leaves : LeavesStart old t
  leaves = record {
    file = live;
    end = end_of S.rs;
    body = bytes_of (start_after S.rs);
    calls = ap (drop (length log)) made_is ∙ drop-append_seam log (start_made live S.rs);
    stands = λ kept choice new F. is_standing images last old K apart (stands_behind (kept - 2) choice) new (its kept choice new F);
    rose = λ kept choice new before behind F was is. rose images last old K apart (stands_behind (kept - 2) choice) new (its kept choice new F) before behind was is;
  }

pub starts_leave : AreApart → RecordsAreBodies → ChosenAreImages → StartsLeave
starts_leave apart law images base n old t last K B = leaves apart law images base n old t last K B
