-- What is read of a pair of files is determined: the records, the file that is live, and whether the other one's first gate is to be shut.
use Rattle.std.specs.Prelude.{ℕ, List, [], ◌∷◌, ◌++◌, ◌+◌, ◌-◌, ◌≡◌, ◌≤◌, ◌<◌, ◌↔◌, Bool, true, false, cond, length, nat_eq, suc, zero}
use Rattle.std.proofs.Common.{ap, arith, inl, inr, refl, subst, sym, ◌∙◌}
use Rattle.at_base.specs.declared.record.Record.{Record}
use Rattle.journal_at.specs.Compactions.{prepare_calls, text_of}
use Rattle.journal_at.specs.Format.{FileOf, frames, head_of}
use Rattle.journal_at.specs.Loads.{IsBare, shuts_if, syncs}
use Rattle.journal_at.specs.Pairs.{HasLive}
use Rattle.journal_at.specs.Scans.{IsGate}
use Rattle.journal_at.specs.StandingBodies.{raise}
use Rattle.journal_at.specs.declared.journal.Journal.{Journal}
use Rattle.journal_at.specs.declared.version.Version.{Version}
use Rattle.journal_at.specs.declared.version.Version.TheVariants.{One, Two}
use Rattle.decision_log.specs.ShrunkJournals.{texts_of}
use Rattle.node_at.specs.Sizes.{end_of}
use Rattle.node_at.specs.Starts.{IsRead, StandFor, append_calls, carried, first_mark, start_after, start_calls}
use Rattle.record_bytes.specs.Bytes.{bytes_of}
use Rattle.record_bytes.specs.Versions.{AreApart}
use Rattle.site_memory.specs.Sites.{told_of}
use Rattle.site_memory.specs.declared.machine.MemSite.{MemSite}
use Rattle.site_model.specs.Told.{Call, Files, other_than}
use Rattle.mirrored_nets.proofs.OneStanding.{file_one, found_one, version_one}
use Rattle.mirrored_nets.proofs.StoodStarts.{read_in}
use Rattle.determined_nodes.proofs.TwoRewritings.{iff_same}

one_older : (bs cs ds es : List (List ℕ)) → bs ≡ es → ds ≡ cs → (head_of ds).generation ≤ (head_of bs).generation → (head_of es).generation < (head_of cs).generation → ⊥
one_older bs cs ds es e f l m = omega (arith, l, m, ap (λ z. (head_of z).generation) e, ap (λ z. (head_of z).generation) f)

-- one file is live
pub lives_one : (c : Files) (i j : ℕ) (bs cs : List (List ℕ)) → i ≤ 1 → j ≤ 1 → HasLive i bs c → HasLive j cs c → (i ≡ j) × (bs ≡ cs)
lives_one c zero zero bs cs l m (h, older, ours) (k, newer, also) = (refl, file_one c.first bs cs h k)
lives_one c zero (suc j) bs cs l m (h, older, ours) (k, newer, also) =
    absurd (one_older bs cs older.others newer.others (file_one c.first bs newer.others h newer.is) (file_one c.second older.others cs older.is k) older.newer newer.newer)
lives_one c (suc i) zero bs cs l m (h, older, ours) (k, newer, also) =
    absurd (one_older cs bs newer.others older.others (file_one c.first cs older.others k older.is) (file_one c.second newer.others bs newer.is h) newer.newer older.newer)
lives_one c (suc i) (suc j) bs cs l m (h, older, ours) (k, newer, also) = (omega (arith, l, m), file_one c.second bs cs h k)

gate_one : (a b : Bool) (f : List ℕ) → IsGate a f → IsGate b f → a ≡ b
gate_one true true f h k = refl
gate_one false false f h k = refl
gate_one true false f (inl e) k = absurd (let none : [] ≡ k.gate ∷ k.rest = sym e ∙ k.is in cc)
gate_one true false f (inr (rest, e)) k = absurd (k.shut (let same : 1 ∷ rest ≡ k.gate ∷ k.rest = sym e ∙ k.is in cc))
gate_one false true f h (inl e) = absurd (let none : [] ≡ h.gate ∷ h.rest = sym e ∙ h.is in cc)
gate_one false true f h (inr (rest, e)) = absurd (h.shut (let same : 1 ∷ rest ≡ h.gate ∷ h.rest = sym e ∙ h.is in cc))

-- what was read of these files
pub record ReadOf (f : Files) (bare : Bool) (version : Version) (rs : List Record) (j : Journal) : Type 0 where
  pub stand : StandFor version rs f
  pub when : (bare ≡ true) ↔ IsBare j f
  pub bodies : List (List ℕ)
  pub live : HasLive j.live bodies f
  pub gate : IsGate j.unshut (other_than j.live f)
  pub end : j.end ≡ length (frames bodies)
  pub generation : j.generation ≡ (head_of bodies).generation
  pub of : (head_of bodies).version ≡ version

pub read_of : (bare : Bool) (version : Version) (rs : List Record) (j : Journal) (s : MemSite) → IsRead bare version rs j (told_of s) → ReadOf (read_in s) bare version rs j
read_of bare version rs j s w = record {
  stand = w.found.is (read_in s) refl;
  when = w.when (read_in s) refl;
  bodies = w.bodies;
  live = w.live (read_in s) refl;
  gate = w.gate (read_in s) refl;
  end = w.end;
  generation = w.generation;
  of = w.of;
}

pub record SameRead (bare other : Bool) (version also : Version) (rs ss : List Record) (j k : Journal) : Type 0 where
  pub bare_is : bare ≡ other
  pub version_is : version ≡ also
  pub records : rs ≡ ss
  pub live : j.live ≡ k.live
  pub end : j.end ≡ k.end
  pub unshut : j.unshut ≡ k.unshut
  pub generation : j.generation ≡ k.generation

pub read_one : AreApart → (f : Files) (bare other : Bool) (version also : Version) (rs ss : List Record) (j k : Journal) → ReadOf f bare version rs j → ReadOf f other also ss k
    → SameRead bare other version also rs ss j k
read_one apart f bare other version also rs ss j k h l =
    let (lives, bodies) = lives_one f j.live k.live h.bodies l.bodies j.two k.two h.live l.live in
    record {
      bare_is = iff_same bare other h.when l.when (λ (first, short). (sym lives ∙ first, short)) (λ (first, short). (lives ∙ first, short));
      version_is = version_one f version also rs ss h.stand l.stand;
      records = found_one apart f version also rs ss h.stand l.stand;
      live = lives;
      end = h.end ∙ ap (λ z. length (frames z)) bodies ∙ sym l.end;
      unshut = gate_one j.unshut k.unshut (other_than j.live f) h.gate (subst (λ i. IsGate k.unshut (other_than i f)) (sym lives) l.gate);
      generation = h.generation ∙ ap (λ z. (head_of z).generation) bodies ∙ sym l.generation;
    }

-- The calls of a start by what was read.
abbrev pub carried_by : Version → List Record → (live end : ℕ) → (unshut : Bool) → (generation : ℕ) → List Call
carried_by Two rs live end unshut generation = []
carried_by One rs live end unshut generation =
    cond (nat_eq end 0) (append_calls live end first_mark) (prepare_calls unshut (1 - live) (text_of (generation + 1) (texts_of (carried One rs))) ++ raise (1 - live) 0)

abbrev pub row_of : Bool → Version → List Record → (live end : ℕ) → (unshut : Bool) → (generation file : ℕ) → List Call
row_of bare version rs live end unshut generation file =
    (syncs ++ shuts_if bare) ++ (carried_by version rs live end unshut generation ++ append_calls file (end_of (carried version rs)) (bytes_of (start_after rs)))

pub row_is : (bare : Bool) (version : Version) (rs : List Record) (j : Journal) (file : ℕ) → start_calls bare version rs j file ≡ row_of bare version rs j.live j.end j.unshut j.generation file
row_is bare Two rs j file = refl
row_is bare One rs j file = refl

-- A whole row of a start on these files, whose Start goes into the file that is live.
pub record StartRow (f : Files) (row : List Call) : Type 0 where
  pub bare : Bool
  pub version : Version
  pub records : List Record
  pub journal : Journal
  pub file : ℕ
  pub was : ReadOf f bare version records journal
  pub goes_into : file ≡ journal.live
  pub is : row ≡ start_calls bare version records journal file

pub rows_one : AreApart → (f : Files) (xs ys : List Call) → StartRow f xs → StartRow f ys → xs ≡ ys
rows_one apart f xs ys h k =
    let s = read_one apart f h.bare k.bare h.version k.version h.records k.records h.journal k.journal h.was k.was in
    let file : h.file ≡ k.file = h.goes_into ∙ s.live ∙ sym k.goes_into in
    h.is ∙ row_is h.bare h.version h.records h.journal h.file
    ∙ (λ i. row_of (s.bare_is i) (s.version_is i) (s.records i) (s.live i) (s.end i) (s.unshut i) (s.generation i) (file i))
    ∙ sym (row_is k.bare k.version k.records k.journal k.file) ∙ sym k.is

-- where neither file has a body, file 0 is live
pub bodiless_live : (f : Files) (live : ℕ) (bodies : List (List ℕ)) → FileOf f.first [] → FileOf f.second [] → HasLive live bodies f → (live ≡ 0) × (bodies ≡ [])
bodiless_live f zero bodies first second (h, older, ours) = (refl, file_one f.first bodies [] h first)
bodiless_live f (suc n) bodies first second (h, older, ours) =
    let none = file_one f.second bodies [] h second in
    let others = file_one f.first older.others [] older.is first in
    let less = older.newer in
    absurd (omega (arith, less, ap (λ z. (head_of z).generation) none, ap (λ z. (head_of z).generation) others))
