-- What stands where the machine stopped at one of the fates of an event, all of whose calls were done.
use Rattle.std.specs.Prelude.{ℕ, List, [], ◌∷◌, ◌++◌, ◌+◌, ◌-◌, ◌≡◌, ◌≤◌, ◌<◌, Bool, true, false, drop, length, map, nat_lt, take, zero, suc}
use Rattle.std.specs.List.{AllByRecursion}
use Rattle.std.proofs.Common.{refl, sym, ap, subst, ◌∙◌, inl, inr, arith, append-nil}
use Rattle.std.proofs.lemmas.Bool.{lt-ltb}
use Rattle.std.proofs.lemmas.List.{length-append, length-map}
use Rattle.std.proofs.Math.Seq.{drop-append_seam}
use Rattle.at_base.specs.declared.outs.Post.{Post}
use Rattle.at_base.specs.declared.record.Record.{Record}
use Rattle.at_model.specs.World.{Hosts, World, WorldEvent}
use Rattle.memory_net.proofs.MailedPosts.{all_left, all_right}
use Rattle.mirrored_nets.specs.Fates.{disk_part, fates_in, is_done, record_fate, sent_of}
use Rattle.mirrored_nets.specs.Took.{IsKept, KeptAtOut, KeptAtRecord, KeptBehindRecord}
use Rattle.mirrored_nets.proofs.CallRows.{AreOnDisk, disk_is, sent_is}
use Rattle.mirrored_nets.proofs.CutTurns.{CutAt}
use Rattle.mirrored_nets.proofs.CutCalls.{AreCallsOf, HasRecord, all_both, all_take, sent_all, taken_append, taken_behind, taken_line, taken_outs, taken_sent, touch_none}
use Rattle.mirrored_nets.proofs.LeftFiles.{appended_files, stopped_files, untouched_files}
use Rattle.node_at.specs.Doings.{Doing}
use Rattle.node_at.specs.State.{State}
use Rattle.node_at.specs.TurnText.{TurnStep}
use Rattle.node_events.specs.NodeEvents.{IsStruck, Leads, all_made, one_if, records_if}
use Rattle.node_worlds.specs.Acts.{IsUp}
use Rattle.node_worlds.specs.Crashes.{IsNoPost}
use Rattle.node_worlds.specs.Nets.{Net, Place, broken}
use Rattle.node_worlds.specs.Restarts.{StandsFor}
use Rattle.node_worlds.specs.SentPosts.{recorded}
use Rattle.record_bytes.specs.Bytes.{bytes_of}
use Rattle.record_bytes.specs.Versions.{AreBodies as RecordsAreBodies}
use Rattle.site_memory.specs.Devices.{calls_in, opening_in}
use Rattle.site_memory.specs.Disk.{chosen_files}
use Rattle.site_memory.specs.Sites.{told_of}
use Rattle.site_memory.specs.declared.arm.Choice.{Choice}
use Rattle.site_memory.specs.declared.machine.MemSite.{MemSite}
use Rattle.site_model.specs.Told.{Call, Made, done, sent_by, sent_if}
use Rattle.torn_appends.specs.TornAppends.{AppendsTorn, append_calls, stands_behind, up_to}
use Rattle.torn_appends.specs.TornAppends.{IsSending as TouchesNoFile}

few_if : (last : Bool) → one_if last ≤ 1
few_if true = omega arith
few_if false = omega arith

positive : (b : ℕ) → 1 ≤ b → nat_lt 0 b ≡ true
positive b least = lt-ltb 0 b least

at_first : (before : ℕ) (last : Bool) → before ≡ 0 → nat_lt 0 (before + one_if last) ≡ last
at_first before last e = ap (λ b. nat_lt 0 (b + one_if last)) e ∙ by last
  where
    by : (last : Bool) → nat_lt 0 (0 + one_if last) ≡ last
    by true = refl
    by false = refl

none_if : (b : Bool) → records_if b [] ≡ []
none_if true = refl
none_if false = refl

some_append : (cs : List Call) (disk : List Made) → disk ≡ [] → disk ≡ map done cs → cs ≡ []
some_append [] disk e f = refl
some_append (c ∷ cs) disk e f = absurd cc

-- of calls that post nothing the first don't either
all_sent : (k : ℕ) (ms : List Made) → AllByRecursion IsNoPost (sent_by ms) → AllByRecursion IsNoPost (sent_by (take k ms))
all_sent zero ms h = tt
all_sent (suc k) [] h = tt
all_sent (suc k) (m ∷ ms) h =
    all_both IsNoPost (sent_if m.done m.call) (sent_by (take k ms)) (all_left IsNoPost (sent_if m.done m.call) (sent_by ms) h)
    (all_sent k ms (all_right IsNoPost (sent_if m.done m.call) (sent_by ms) h))

-- the fate at which it stops is one of these
record_fated : (ms : List Made) → (ms ≡ [] → ⊥) → length (record_fate ms) ≡ 1
record_fated [] h = absurd (h refl)
record_fated (m ∷ ms) h = refl

module _ (lines : ℕ) (made : List Made) (choice : Choice) (before : ℕ) (last : Bool) (kept : ℕ) where
  fates_long : length (fates_in (drop lines made)) ≡ length (record_fate (disk_part (drop lines made))) + length (sent_of (drop lines made))
  fates_long = length-append (record_fate (disk_part (drop lines made))) (map is_done (sent_of (drop lines made))) ∙ ap (λ n. length (record_fate (disk_part (drop lines made))) + n) (length-map (sent_of (drop lines made)) is_done)

  pub is_fated : IsKept lines made choice before last kept → before < length (fates_in (drop lines made))
  is_fated (inl K) = let l = fates_long in let r = record_fated (disk_part (drop lines made)) K.some in let f = K.first in omega (arith, l, r, f)
  is_fated (inr (inl K)) = let l = fates_long in let r = record_fated (disk_part (drop lines made)) K.some in let f = K.within in omega (arith, l, r, f)
  is_fated (inr (inr K)) = let l = fates_long in let f = K.within in omega (arith, l, f)

module _ (law : RecordsAreBodies) (torn : AppendsTorn) (rs : List Record) (n : State) (s : MemSite) (up : IsUp rs n (told_of s)) (lines : ℕ) (made : List Made) (steps : List TurnStep) (doings : List Doing)
    (C : AreCallsOf n.journal lines made steps doings) where
  behind_line : drop lines made ≡ C.disk ++ (all_made doings ++ C.anew)
  behind_line = ap (drop lines) C.are ∙ ap (λ z. drop z (C.line ++ (C.disk ++ (all_made doings ++ C.anew)))) (sym C.long) ∙ drop-append_seam C.line (C.disk ++ (all_made doings ++ C.anew))

  disk_behind : disk_part (drop lines made) ≡ C.disk
  disk_behind = ap disk_part behind_line ∙ disk_is C.disk (all_made doings) C.anew C.parts

  sent_behind : sent_of (drop lines made) ≡ all_made doings
  sent_behind = ap sent_of behind_line ∙ sent_is C.disk (all_made doings) C.anew C.parts

  untouching : AllByRecursion TouchesNoFile C.line
  untouching = touch_none C.line C.said

  sends_untouching : (k : ℕ) → AllByRecursion TouchesNoFile (take k (all_made doings))
  sends_untouching k = all_take TouchesNoFile k (all_made doings) (touch_none (all_made doings) C.parts.sends_are)

  append_on_disk : (r : Record) → AreOnDisk (map done (append_calls n.journal (bytes_of r)))
  append_on_disk r = (refl, (refl, (refl, (refl, tt))))

  part_on_disk : (r : Record) (k : ℕ) → AreOnDisk (up_to k true (append_calls n.journal (bytes_of r)))
  part_on_disk r zero = tt
  part_on_disk r (suc zero) = (refl, tt)
  part_on_disk r (suc (suc zero)) = (refl, (refl, tt))
  part_on_disk r (suc (suc (suc zero))) = (refl, (refl, (refl, tt)))
  part_on_disk r (suc (suc (suc (suc zero)))) = (refl, (refl, (refl, (refl, tt))))
  part_on_disk r (suc (suc (suc (suc (suc k))))) = (refl, (refl, (refl, (refl, tt))))

  module _ (choice : Choice) (hosts : Hosts) (net : Net) (w : World) (i : ℕ) (p : Place) (event : WorldEvent) (now before : ℕ) (last : Bool) (kept : ℕ)
      (S : IsStruck hosts net w i p n event now before last steps doings) where
    abbrev pub LeadsSo : List TurnStep → List Post → Type 0
    LeadsSo front posts = Leads hosts i now w event (broken hosts i net p n front posts)

    -- what was sent of the steps, and the rest of it
    cut_so : (front back : List Made) (records : List Record) → take kept made ≡ C.line ++ (front ++ back) → AreOnDisk front → all_made S.made ≡ back → recorded S.front ≡ records
        → StandsFor (rs ++ records) (chosen_files choice (opening_in s.device) (calls_in s.device ++ (C.line ++ (front ++ back))))
        → CutAt rs steps (chosen_files choice (opening_in s.device) (calls_in s.device ++ take kept made)) (take kept made) LeadsSo
    cut_so front back records is on_disk sent recs stands = record {
      front = S.front;
      rest = S.rest;
      of = S.of;
      doings = S.made;
      posts = S.posts;
      sent = S.sent;
      stands = subst (λ z. StandsFor (rs ++ z) (chosen_files choice (opening_in s.device) (calls_in s.device ++ take kept made))) (sym recs)
          (subst (λ z. StandsFor (rs ++ records) (chosen_files choice (opening_in s.device) (calls_in s.device ++ z))) (sym is) stands);
      said = sent_by C.line;
      no_posts = C.no_posts;
      calls = ap sent_by is ∙ taken_sent C.line front back on_disk ∙ ap (λ z. sent_by C.line ++ z) (ap sent_by (sym sent) ∙ sym (sent_all S.made));
      leads = S.leads;
    }

    long_records : (r : Record) → recorded steps ≡ r ∷ [] → length (recorded steps) ≡ 1
    long_records r e = ap length e

    at_record : KeptAtRecord lines made choice before last kept → HasRecord n.journal C.disk steps
        → CutAt rs steps (chosen_files choice (opening_in s.device) (calls_in s.device ++ take kept made)) (take kept made) LeadsSo
    at_record K (inl (none, recs)) = absurd (K.some (disk_behind ∙ none))
    at_record K (inr (r, formed, is, recs)) =
        let part = up_to K.calls true (append_calls n.journal (bytes_of r)) in
        let l = long_records r recs in
        let f = few_if last in
        let b = K.first in
        let none : before + one_if last - length (recorded steps) ≡ 0 = omega (arith, l, f, b) in
        cut_so part [] (records_if (stands_behind K.calls choice) (r ∷ []))
        (taken_append n.journal lines made steps doings C r is K.calls kept K.most K.are ∙ ap (λ z. C.line ++ z) (sym (append-nil part)))
        (part_on_disk r K.calls)
        (S.kept ∙ ap (λ k. take k (all_made doings)) none)
        (S.records ∙ (λ j. records_if (at_first before last K.first j) (recs j)) ∙ ap (λ b. records_if b (r ∷ [])) K.last_is)
        (subst (λ z. StandsFor (rs ++ records_if (stands_behind K.calls choice) (r ∷ [])) (chosen_files choice (opening_in s.device) (calls_in s.device ++ (C.line ++ z)))) (sym (append-nil part))
        (stopped_files rs n s up law r formed torn C.line untouching K.calls choice K.most))

    behind_record : KeptBehindRecord lines made before last kept → HasRecord n.journal C.disk steps
        → CutAt rs steps (chosen_files choice (opening_in s.device) (calls_in s.device ++ take kept made)) (take kept made) LeadsSo
    behind_record K (inl (none, recs)) = absurd (K.some (disk_behind ∙ none))
    behind_record K (inr (r, formed, is, recs)) =
        let k = before - 1 + one_if last in
        let f = few_if last in
        let least = K.least in
        let most = K.within in
        let long = ap length sent_behind in
        let one = long_records r recs in
        let same : before + one_if last - length (recorded steps) ≡ k = omega (arith, one, f, least) in
        cut_so (map done (append_calls n.journal (bytes_of r))) (take k (all_made doings)) (r ∷ [])
        (taken_behind n.journal lines made steps doings C r is k kept (omega (arith, f, least, most, long)) K.are)
        (append_on_disk r)
        (S.kept ∙ ap (λ z. take z (all_made doings)) same)
        (S.records ∙ (λ j. records_if (positive (before + one_if last) (omega (arith, least)) j) (recs j)))
        (appended_files rs n s up law r formed torn C.line (take k (all_made doings)) untouching (sends_untouching k) choice)

    at_out : KeptAtOut lines made before last kept → HasRecord n.journal C.disk steps
        → CutAt rs steps (chosen_files choice (opening_in s.device) (calls_in s.device ++ take kept made)) (take kept made) LeadsSo
    at_out K (inr (r, formed, is, recs)) = absurd (let e = some_append (append_calls n.journal (bytes_of r)) C.disk (sym disk_behind ∙ K.none) is in cc)
    at_out K (inl (none, recs)) =
        let k = before + one_if last in
        let f = few_if last in
        let most = K.within in
        let long = ap length sent_behind in
        let zero_long = ap length recs in
        let same : before + one_if last - length (recorded steps) ≡ k = omega (arith, zero_long) in
        cut_so [] (take k (all_made doings)) []
        (taken_outs n.journal lines made steps doings C none k kept (omega (arith, f, most, long)) K.are)
        tt
        (S.kept ∙ ap (λ z. take z (all_made doings)) same)
        (S.records ∙ ap (records_if (nat_lt 0 (before + one_if last))) recs ∙ none_if (nat_lt 0 (before + one_if last)))
        (subst (λ z. StandsFor z (chosen_files choice (opening_in s.device) (calls_in s.device ++ (C.line ++ take k (all_made doings))))) (sym (append-nil rs))
        (untouched_files rs n s up torn (C.line ++ take k (all_made doings)) (all_both TouchesNoFile C.line (take k (all_made doings)) untouching (sends_untouching k)) choice))

    pub struck_cut : IsKept lines made choice before last kept → CutAt rs steps (chosen_files choice (opening_in s.device) (calls_in s.device ++ take kept made)) (take kept made) LeadsSo
    struck_cut (inl K) = at_record K C.record_is
    struck_cut (inr (inl K)) = behind_record K C.record_is
    struck_cut (inr (inr K)) = at_out K C.record_is

  -- before the first step
  pub unbegun_cut : (choice : Choice) (kept : ℕ) (Leads : List TurnStep → List Post → Type 0) → kept ≤ lines → Leads [] []
      → CutAt rs steps (chosen_files choice (opening_in s.device) (calls_in s.device ++ take kept made)) (take kept made) Leads
  unbegun_cut choice kept Leads most leads = record {
    front = [];
    rest = steps;
    of = refl;
    doings = [];
    posts = [];
    sent = refl;
    stands = subst (λ z. StandsFor z (chosen_files choice (opening_in s.device) (calls_in s.device ++ take kept made))) (sym (append-nil rs))
        (subst (λ z. StandsFor rs (chosen_files choice (opening_in s.device) (calls_in s.device ++ z))) (sym taken)
        (untouched_files rs n s up torn (take kept C.line) (all_take TouchesNoFile kept C.line untouching) choice));
    said = sent_by (take kept C.line);
    no_posts = all_sent kept C.line C.no_posts;
    calls = ap sent_by taken ∙ sym (append-nil (sent_by (take kept C.line)));
    leads = leads;
  }
    where
      taken : take kept made ≡ take kept C.line
      taken = taken_line n.journal lines made steps doings C kept most
