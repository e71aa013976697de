-- Two starts on machines that are alike do the same.
use Rattle.std.specs.Prelude.{ℕ, List, [], ◌++◌, ◌≡◌, ◌≤◌, Err, Ok, Result, Some, length}
use Rattle.std.proofs.Common.{ap, append-nil, arith, refl, subst, sym, ◌∙◌}
use Rattle.std.proofs.lemmas.List.{append_assoc}
use Rattle.at_model.specs.Recovery.{recover}
use Rattle.decision_log.specs.KeptRecords.{kept_of}
use Rattle.journal_at.specs.Format.{frames, head_of}
use Rattle.journal_at.specs.Frames.{Framed}
use Rattle.journal_at.specs.Loads.{shuts, shuts_if, syncs}
use Rattle.journal_at.specs.StandingBodies.{Keeps}
use Rattle.journal_at.specs.declared.journal.Journal.{Journal}
use Rattle.journal_at.specs.declared.version.Version.TheVariants.{Two}
use Rattle.memory_net.specs.Calls.{Begins}
use Rattle.mirrored_nets.specs.DueStarts.{StartsFailForWant}
use Rattle.mirrored_nets.specs.Fates.{refusals}
use Rattle.mirrored_nets.proofs.OneStanding.{framed_one}
use Rattle.mirrored_nets.proofs.StoodStarts.{read_in}
use Rattle.node_at.specs.StartedNodes.{IsStarted}
use Rattle.node_at.specs.Starts.{beginning_calls, started}
use Rattle.node_at.specs.State.{seen}
use Rattle.node_at.specs.declared.fault.StartFault.{StartFault}
use Rattle.node_at.specs.declared.fault.StartFault.TheVariants as faults
use Rattle.node_at.specs.declared.node.Node.{Node}
use Rattle.record_bytes.specs.Versions.{AreApart}
use Rattle.site_memory.specs.Devices.{calls_in, opening_in}
use Rattle.site_memory.specs.Sites.{told_of}
use Rattle.site_memory.specs.Tells.{reads}
use Rattle.site_memory.specs.ToldCalls.{CallsFailAsTold, LinksHold}
use Rattle.site_memory.specs.declared.machine.MemSite.{MemSite}
use Rattle.site_model.specs.Told.{Call, Files, Made, file_of}
use Rattle.determined_nodes.specs.SameNodes.{IsSameBehind, IsSameMachine}
use Rattle.determined_nodes.specs.StartsAreDetermined.{HasBegun, StartAlike, StartsAreDetermined, StartsFrom}
use Rattle.determined_nodes.proofs.ArmedRows.{cut}
use Rattle.determined_nodes.proofs.DidStarts.{DidStart, Stage, StartedSo, did_start, into_live, still_unshut}
use Rattle.determined_nodes.proofs.DidStarts.Stage.{at_gate, at_row, at_sync}
use Rattle.determined_nodes.proofs.DidStarts.StartedSo.{down, up}
use Rattle.determined_nodes.proofs.ReadJournals.{ReadOf, SameRead, StartRow, read_of, read_one, rows_one}

-- what is added to the one row and to the other
pub record Joined (xs ys : List Call) : Type 0 where
  pub more : List Call
  pub also : List Call
  pub is : xs ++ more ≡ ys ++ also

module _ (apart : AreApart) (f : Files) where
  -- a whole row goes on from how far one came
  begins_with : (xs ys : List Call) → StartRow f xs → Stage f ys → (more : List Call) × (xs ≡ ys ++ more)
  begins_with xs ys h (at_sync e) =
      let rest = shuts_if h.bare ++ beginning_calls h.version h.records h.journal h.file in
      (rest, h.is ∙ append_assoc syncs (shuts_if h.bare) (beginning_calls h.version h.records h.journal h.file) ∙ ap (λ z. z ++ rest) (sym e))
  begins_with xs ys h (at_gate e bare) =
      let rest = beginning_calls h.version h.records h.journal h.file in
      (rest, h.is ∙ ap (λ b. (syncs ++ shuts_if b) ++ rest) (bare h.bare h.version h.records h.journal h.was) ∙ ap (λ z. z ++ rest) (sym e))
  begins_with xs ys h (at_row k) = ([], rows_one apart f xs ys h k ∙ sym (append-nil ys))

  joined : (xs ys : List Call) → Stage f xs → Stage f ys → Joined xs ys
  joined xs ys (at_row h) k = let (more, e) = begins_with xs ys h k in record { more = []; also = more; is = append-nil xs ∙ e }
  joined xs ys h (at_row k) = let (more, e) = begins_with ys xs k h in record { more = more; also = []; is = sym e ∙ sym (append-nil ys) }
  joined xs ys (at_sync e) (at_sync g) = record { more = []; also = []; is = ap (λ z. z ++ []) (e ∙ sym g) }
  joined xs ys (at_sync e) (at_gate g bare) = record { more = shuts; also = []; is = ap (λ z. z ++ shuts) e ∙ sym g ∙ sym (append-nil ys) }
  joined xs ys (at_gate e bare) (at_sync g) = record { more = []; also = shuts; is = append-nil xs ∙ e ∙ ap (λ z. z ++ shuts) (sym g) }
  joined xs ys (at_gate e bare) (at_gate g also) = record { more = []; also = []; is = ap (λ z. z ++ []) (e ∙ sym g) }

  module _ (since fails : ℕ) (made also : List Made) where
    -- one doesn't come up where the other fails
    not_both : (xs ys : List Call) → StartRow f xs → made ≡ cut since fails xs → refusals made ≡ 0 → Stage f ys → ((more : List Call) → also ≡ cut since fails (ys ++ more)) → 1 ≤ refusals also → ⊥
    not_both xs ys h e none k g some =
        let (more, is) = begins_with xs ys h k in
        let same : made ≡ also = e ∙ ap (cut since fails) is ∙ sym (g more) in
        let equal = ap refusals same in
        omega (arith, none, some, equal)

    calls_one : (r s : Result Node StartFault) → StartedSo since fails f made r → StartedSo since fails f also s → made ≡ also
    calls_one r s (up n a xs h e none) (up m b ys k g nothing) = e ∙ ap (cut since fails) (rows_one apart f xs ys h k) ∙ sym g
    calls_one r s (up n a xs h e none) (down b ys k g some) = absurd (not_both xs ys h e none k g some)
    calls_one r s (down a xs h e some) (down b ys k g one) = let j = joined xs ys h k in e j.more ∙ ap (cut since fails) j.is ∙ sym (g j.also)
    calls_one r s (down a xs h e some) (up m b ys k g none) =
        absurd (let (more, is) = begins_with ys xs k h in let same : also ≡ made = g ∙ ap (cut since fails) is ∙ sym (e more) in let equal = ap refusals same in omega (arith, none, some, equal))

-- The journals of machines of the same files, which are open in the same one.
module _ (s t : MemSite) (j k : Journal) (opening : opening_in s.device ≡ opening_in t.device) (calls : calls_in s.device ≡ calls_in t.device) (live : j.live ≡ k.live) where
  bodies_one : (bs cs : List (List ℕ)) → Keeps j bs (told_of s) → Keeps k cs (told_of t) → bs ≡ cs
  bodies_one bs cs h l =
      let same : read_in t ≡ read_in s = (λ i. reads (sym opening i) (sym calls i)) in
      let first : Framed bs (file_of j.live (read_in s)) = record { sized = h.stands.listed.sized; closed = (h.stands.files (read_in s) refl).closed } in
      let second : Framed cs (file_of k.live (read_in t)) = record { sized = l.stands.listed.sized; closed = (l.stands.files (read_in t) refl).closed } in
      framed_one bs cs (file_of j.live (read_in s)) first (subst (λ n. Framed cs (file_of n (read_in s))) (sym live) (subst (λ z. Framed cs (file_of k.live z)) same second))

module _ (apart : AreApart) (base : List ℕ) (n m : Node) (old new here there : MemSite) (machine : IsSameMachine old here) (behind : IsSameMachine new there)
    (S : IsStarted base 4294967295 (seen n) (told_of old) (told_of new)) (T : IsStarted base 4294967295 (seen m) (told_of here) (told_of there)) where
  files_one : read_in here ≡ read_in old
  files_one = λ i. reads (sym machine.opening i) (sym machine.calls i)

  was : ReadOf (read_in old) S.bare S.version S.rs S.journal
  was = read_of S.bare S.version S.rs S.journal old S.was

  its_was : ReadOf (read_in old) T.bare T.version T.rs T.journal
  its_was = subst (λ f. ReadOf f T.bare T.version T.rs T.journal) files_one (read_of T.bare T.version T.rs T.journal here T.was)

  R : SameRead S.bare T.bare S.version T.version S.rs T.rs S.journal T.journal
  R = read_one apart (read_in old) S.bare T.bare S.version T.version S.rs T.rs S.journal T.journal was its_was

  all_records : started S.version S.rs ≡ started T.version T.rs
  all_records = λ i. started (R.version_is i) (R.records i)

  module _ (since fails : ℕ) (from : StartsFrom since fails (read_in old)) where
    live : n.journal.live ≡ m.journal.live
    live =
        into_live since fails (read_in old) S.bare S.version S.rs S.journal n.journal.live from was S.live ∙ R.live
        ∙ sym (into_live since fails (read_in old) T.bare T.version T.rs T.journal m.journal.live from its_was T.live)

    bodies : S.holds.bodies ≡ T.holds.bodies
    bodies = bodies_one new there n.journal m.journal behind.opening behind.calls live S.holds.bodies T.holds.bodies S.holds.keeps T.holds.keeps

    nodes_same : IsSameBehind (seen n) (seen m)
    nodes_same = record {
      same = record {
        book = S.book ∙ ap (recover base) all_records ∙ sym T.book;
        kept = S.kept ∙ ap (kept_of Two) all_records ∙ sym T.kept;
        halted = S.runs ∙ sym T.runs;
        journal = λ going. record {
          live = live;
          end = S.holds.keeps.end ∙ ap (λ z. length (frames z)) bodies ∙ sym T.holds.keeps.end;
          limit = S.limit_is ∙ sym T.limit_is;
          generation = S.holds.keeps.generation ∙ ap (λ z. (head_of z).generation) bodies ∙ sym T.holds.keeps.generation;
          unshut = still_unshut since fails (read_in old) S.bare S.version S.rs S.journal n.journal from was S.behind ∙ R.unshut
              ∙ sym (still_unshut since fails (read_in old) T.bare T.version T.rs T.journal m.journal from its_was T.behind);
          unsure = S.holds.sure ∙ sym T.holds.sure;
        };
      };
      effects = S.effects ∙ sym T.effects;
    }

alike : AreApart → (base : List ℕ) (since fails : ℕ) (r s : Result Node StartFault) (old new here there : MemSite) (made also : List Made) → IsSameMachine old here → IsSameMachine new there
    → HasBegun base fails r old new made → HasBegun base fails s here there also → StartedSo since fails (read_in old) made r → StartedSo since fails (read_in old) also s → StartAlike r s
alike apart base since fails r s old new here there made also machine behind H K (up n a xs h e none) (up m b ys k g nothing) =
    subst (λ z. StartAlike z s) (sym a)
    (subst (StartAlike (Ok n)) (sym b)
    (nodes_same apart base n m old new here there machine behind (subst (λ z. Begins base z old new) a H.begins).0 (subst (λ z. Begins base z here there) b K.begins).0 (length (calls_in old.device)) fails H.from))
alike apart base since fails r s old new here there made also machine behind H K (up n a xs h e none) (down b ys k g some) = absurd (not_both apart (read_in old) since fails made also xs ys h e none k g some)
alike apart base since fails r s old new here there made also machine behind H K (down a xs h e some) (up m b ys k g none) = absurd (not_both apart (read_in old) since fails also made ys xs k g none h e some)
alike apart base since fails r s old new here there made also machine behind H K (down a xs h e some) (down b ys k g one) =
    subst (λ z. StartAlike z s) (sym a) (subst (StartAlike (Err faults.Disk)) (sym b) refl)

pub starts_are_determined : AreApart → LinksHold → CallsFailAsTold → StartsFailForWant → StartsAreDetermined
starts_are_determined apart hold fail want base fails r s old new here there made also machine H K =
    let X : DidStart (length (calls_in old.device)) fails r old new made = did_start hold fail want base fails old new made r H in
    let Y : DidStart (length (calls_in here.device)) fails s here there also = did_start hold fail want base fails here there also s K in
    let files : read_in here ≡ read_in old = (λ i. reads (sym machine.opening i) (sym machine.calls i)) in
    let its : StartedSo (length (calls_in old.device)) fails (read_in old) also s =
    subst (λ l. StartedSo (length l) fails (read_in old) also s) (sym machine.calls) (subst (λ f. StartedSo (length (calls_in here.device)) fails f also s) files Y.went) in
    let calls : made ≡ also = calls_one apart (read_in old) (length (calls_in old.device)) fails made also r s X.went its in
    let behind : IsSameMachine new there = record {
      opening = X.opening ∙ machine.opening ∙ sym Y.opening;
      calls = X.grown ∙ (λ i. machine.calls i ++ calls i) ∙ sym Y.grown;
    } in
    let arming = X.arming ∙ H.told ∙ (λ i. Some (record { since = length (machine.calls i); fails = fails })) ∙ sym K.told ∙ sym Y.arming in
    (alike apart base (length (calls_in old.device)) fails r s old new here there made also machine behind H K X.went its, record { calls = calls; machine = behind; arming = arming })
