-- How records come into version 2, and how the Start is recorded.
use Rattle.std.proofs.Common.{ℕ, List, Result, Ok, Err, true, false, [], ◌∷◌, ◌++◌, ◌+◌, ◌≡◌, ◌≢◌, ◌≤◌, ◌<◌, ◌↔◌, inl, IfSome, cond, nat_eq, length, refl, sym, ◌∙◌, ap, subst, arith, rules}
use Rattle.std.proofs.lemmas.Bool.{ne_eqb}
use Rattle.at_base.specs.declared.record.Record.{Record}
use Rattle.at_base.specs.declared.record.Record.TheVariants as records
use Rattle.decision_log.specs.Folds.{AreRecords}
use Rattle.decision_log.specs.KeptRecords.{Known}
use Rattle.decision_log.specs.declared.keep.KeepFault.{KeepFault}
use Rattle.decision_log.specs.declared.keep.KeepFault.TheVariants as keeps
use Rattle.decision_log.specs.AppendedRecords.{IsAppended, ending}
use Rattle.decision_log.specs.ShrunkJournals.{IsCompacted, shrunk, texts_of}
use Rattle.decision_log.specs.Tokens.{Token}
use Rattle.journal_at.specs.declared.journal.Append.{Append}
use Rattle.journal_at.specs.declared.journal.Append.TheVariants as appends
use Rattle.journal_at.specs.declared.journal.Compact.{Compact}
use Rattle.journal_at.specs.declared.journal.Compact.TheVariants as compacts
use Rattle.journal_at.specs.declared.journal.Journal.{Journal}
use Rattle.journal_at.specs.declared.version.Version.{Version}
use Rattle.journal_at.specs.declared.version.Version.TheVariants.{One, Two}
use Rattle.journal_at.specs.Format.{AreListed, IsBody, frames, head_of, records_of}
use Rattle.journal_at.specs.StandingBodies.{Appended, Calls, Counted, HasReason, Keeps, MayFollow}
use Rattle.record_bytes.specs.Bytes.{bytes_of}
use Rattle.record_bytes.specs.Versions.{AreBodies as RecordsAreBodies}
use Rattle.site_model.specs.Told.{Told, Call}
use Rattle.node_at.specs.declared.fault.StartFault.{StartFault}
use Rattle.node_at.specs.declared.fault.StartFault.TheVariants.{NoMemory}
use Rattle.node_at.specs.Sizes.{end_of, size_of}
use Rattle.node_at.specs.Starts.{Carries, Either, Goes, IsOpen, anew_calls, append_calls, append_ended, carried, carrying, compact_ended, first_mark, keep_fault}
use Rattle.node_at.proofs.CallRows.{grown_same}
use Rattle.node_at.proofs.StartParts.{append_goes, append_holds, compact_goes, compact_holds, open_images}
use Rattle.node_at.proofs.BodyRecords.{are_more, are_none, begun, frames_long, listed_more, new_listed, open_end, records_more}
use Rattle.node_at.proofs.Sizes.{start_long}

nothing_counted : (s : Told) → Counted s s
nothing_counted s = record { disk = omega arith; gate = omega arith; others = refl; apart = record { link = refl; clock = refl } }

-- nothing was done
pub stays_put : (calls : List Call) (version : Version) (rs later : List Record) (j : Journal) (s : Told) → IsOpen version rs j s
    → Carries {T = Unit {0}} calls version rs later (Err NoMemory) j s s
stays_put calls version rs later j s o = record {
  goes = record {
    made = [];
    ran = ([], calls, refl, refl);
    grown = grown_same s.calls;
    images = λ c now. inl (open_images version rs j s o c now);
    time = record { adds = λ l c past. inl past; keeps = λ l c past. past };
    cause = tt;
    counted = nothing_counted s;
  };
  holds = tt;
}

pub stays_same : {S : Type 0} (tell : S → Told) (calls : List Call) (version : Version) (rs later : List Record) (j k : Journal) (x y : S) → y ≡ x → k ≡ j → IsOpen version rs j (tell x)
    → Carries {T = Unit {0}} calls version rs later (Err NoMemory) k (tell x) (tell y)
stays_same tell calls version rs later j k x y e f o =
    subst (λ z. Carries {T = Unit {0}} calls version rs later (Err NoMemory) z (tell x) (tell y)) (sym f)
    (subst (λ z. Carries {T = Unit {0}} calls version rs later (Err NoMemory) j (tell x) (tell z)) (sym e) (stays_put calls version rs later j (tell x) o))

-- an answer that is equal
pub carries_same : {T : Type 0} {calls : List Call} {version : Version} {rs later : List Record} {r s : Result T StartFault} {k : Journal} {old new : Told} → s ≡ r
    → Carries calls version rs later r k old new → Carries calls version rs later s k old new
carries_same {T} {calls} {version} {rs} {later} {r} {s} {k} {old} {new} e h = subst (λ z. Carries calls version rs later z k old new) (sym e) h

-- what is kept is that of these records
pub texts_same : {k l : Known} → k ≡ l → AreRecords Two (shrunk k) (texts_of (shrunk k)) → AreRecords Two (shrunk l) (texts_of (shrunk l))
texts_same e h = subst (λ k. AreRecords Two (shrunk k) (texts_of (shrunk k))) e h

pub compacted_same : {k l : Known} {r : Compact} {j i : Journal} {old new : Told} → k ≡ l → IsCompacted r (texts_of (shrunk k)) j i old new → IsCompacted r (texts_of (shrunk l)) j i old new
compacted_same {k} {l} {r} {j} {i} {old} {new} e h = subst (λ z. IsCompacted r (texts_of (shrunk z)) j i old new) e h

-- nothing is to be done
pub carries_none : (rs : List Record) (j : Journal) (s : Told) → IsOpen Two rs j s → Carries {T = Unit {0}} [] Two rs rs (Ok tt) j s s
carries_none rs j s o = record {
  goes = record {
    made = [];
    ran = refl;
    grown = grown_same s.calls;
    images = λ c now. inl (open_images Two rs j s o c now);
    time = record { adds = λ l c past. inl past; keeps = λ l c past. past };
    cause = tt;
    counted = nothing_counted s;
  };
  holds = o;
}

pub carries_still : (version : Version) (rs : List Record) (j : Journal) (s : Told) → version ≡ Two → IsOpen version rs j s
    → Carries {T = Unit {0}} (carrying version rs j) version rs (carried version rs) (Ok tt) j s s
carries_still Two rs j s e o = carries_none rs j s o
carries_still One rs j s e o = absurd (search (rules, e))

-- the mark of an empty file
no_frames : (bodies : List (List ℕ)) → length (frames bodies) ≡ 0 → bodies ≡ []
no_frames [] e = refl
no_frames (x ∷ xs) e = absurd (omega (arith, e))

pub mark_carries : (rs : List Record) (a : Append) (j k : Journal) (old new : Told) → j.end ≡ 0 → IsOpen One rs j old → size_of (carried One rs) ≤ j.limit
    → ((bodies : List (List ℕ)) → j.unsure ≡ false → Keeps j bodies old → MayFollow bodies first_mark → Appended a bodies first_mark k old new)
    → (j.unsure ≡ false → Calls a j.live j.end first_mark old new) → HasReason a j old new
    → (a ≡ appends.Full) ↔ ((j.unsure ≡ false) × (j.limit < j.end + 6 + length first_mark)) → (k.unsure ≡ true) ↔ (a ≡ appends.Unsure) → Counted old new
    → Carries (append_calls j.live j.end first_mark) One rs (carried One rs) (append_ended a) k old new
mark_carries rs a j k old new e o fits h calls reason full unsure counted =
    let none = no_frames o.bodies (sym o.keeps.end ∙ e) in
    let keeps : Keeps j [] old = subst (λ z. Keeps j z old) none o.keeps in
    let no_records : rs ≡ [] = are_none One rs (subst (λ z. AreRecords One rs (records_of z)) none o.are) in
    let listed : AreListed (first_mark ∷ []) = record { sized = (record { least = omega arith; most = omega arith }, tt); placed = tt } in
    let one : Appended a [] first_mark k old new = h [] o.sure keeps (record { listed = listed; generation = refl; begins = omega arith }) in
    let not_full : a ≡ appends.Full → ⊥ = λ f. let g = (full.0 f).1 in omega (arith, g, fits, e) in
    subst (λ z. Carries (append_calls j.live j.end first_mark) One z (carried One z) (append_ended a) k old new) (sym no_records)
    (record {
      goes = append_goes One [] [] [] first_mark j k old new keeps refl tt listed refl tt o.sure counted a not_full one (calls o.sure) reason;
      holds = append_holds One [] [] [] first_mark j k old new keeps refl tt listed refl tt o.sure counted a one unsure;
    })

-- records that are written anew
pub migrate_carries : (rs : List Record) (r : Compact) (j k : Journal) (old new : Told) → RecordsAreBodies → IsOpen One rs j old → 1 ≤ j.end → size_of (carried One rs) ≤ j.limit
    → AreRecords Two (carried One rs) (texts_of (carried One rs)) → IsCompacted r (texts_of (carried One rs)) j k old new → Counted old new
    → Carries (anew_calls j (carried One rs)) One rs (carried One rs) (compact_ended r) k old new
migrate_carries rs r j k old new law o least fits are h counted =
    let texts = texts_of (carried One rs) in
    let listed = new_listed (j.generation + 1) (carried One rs) texts law are in
    let done = h.compacted o.bodies o.sure o.keeps least in
    let not_full : r ≡ compacts.Full → ⊥ = λ f.
    let g = (h.full.0 f).1 in
    let n = frames_long (carried One rs) in
    omega (arith, g, fits, n) in
    record {
      goes = compact_goes One rs (carried One rs) o.bodies texts j k old new o.keeps o.of o.are listed are o.sure counted r not_full done (h.moves o.sure) h.ground;
      holds = compact_holds One rs (carried One rs) o.bodies texts j k old new o.keeps o.of o.are listed are o.sure counted r done h.unsure;
    }

-- either, by whether the live file is empty
carrying_marked : (rs : List Record) (j : Journal) → j.end ≡ 0 → append_calls j.live j.end first_mark ≡ carrying One rs j
carrying_marked rs j e = sym (ap (λ n. cond (nat_eq n 0) (append_calls j.live j.end first_mark) (anew_calls j (carried One rs))) e)

carrying_anew : (rs : List Record) (j : Journal) → j.end ≢ 0 → anew_calls j (carried One rs) ≡ carrying One rs j
carrying_anew rs j e = sym (ap (λ b. cond b (append_calls j.live j.end first_mark) (anew_calls j (carried One rs))) (ne_eqb j.end 0 e))

pub carries_marked : {T : Type 0} (rs : List Record) (result : Result T StartFault) (j k : Journal) (old new : Told) → j.end ≡ 0
    → Carries (append_calls j.live j.end first_mark) One rs (carried One rs) result k old new → Carries (carrying One rs j) One rs (carried One rs) result k old new
carries_marked rs result j k old new e h = subst (λ z. Carries z One rs (carried One rs) result k old new) (carrying_marked rs j e) h

pub carries_anew : {T : Type 0} (rs : List Record) (result : Result T StartFault) (j k : Journal) (old new : Told) → j.end ≢ 0
    → Carries (anew_calls j (carried One rs)) One rs (carried One rs) result k old new → Carries (carrying One rs j) One rs (carried One rs) result k old new
carries_anew rs result j k old new e h = subst (λ z. Carries z One rs (carried One rs) result k old new) (carrying_anew rs j e) h

-- the Start
pub start_carries : (rs : List Record) (n : ℕ) (a : Append) (j k : Journal) (old new : Told) → IsOpen Two rs j old → size_of rs + 10 ≤ j.limit
    → IsAppended a (records.Start n) (bytes_of (records.Start n)) j k old new → Counted old new
    → Carries (append_calls j.live (end_of rs) (bytes_of (records.Start n))) Two rs (rs ++ records.Start n ∷ []) (append_ended a) k old new
start_carries rs n a j k old new o fits h counted =
    let b = bytes_of (records.Start n) in
    let five = start_long n in
    let m = begun o.bodies o.of in
    let is_body : IsBody b = record { least = omega (arith, five); most = omega (arith, five) } in
    let listed : AreListed (o.bodies ++ b ∷ []) = subst (λ z. AreListed (z ++ b ∷ [])) (sym m.is) (listed_more m.first m.rest b (subst AreListed m.is o.keeps.stands.listed) is_body refl) in
    let of_more : (head_of (o.bodies ++ b ∷ [])).version ≡ Two = ap (λ z. (head_of (z ++ b ∷ [])).version) m.is ∙ sym (ap (λ z. (head_of z).version) m.is) ∙ o.of in
    let split : records_of (o.bodies ++ b ∷ []) ≡ records_of o.bodies ++ b ∷ [] = ap (λ z. records_of (z ++ b ∷ [])) m.is ∙ records_more m.first m.rest m.mark b m.marks ∙ sym (ap (λ z. records_of z ++ b ∷ []) m.is) in
    let are : AreRecords Two (rs ++ records.Start n ∷ []) (records_of (o.bodies ++ b ∷ [])) = subst (AreRecords Two (rs ++ records.Start n ∷ [])) (sym split) (are_more Two rs (records_of o.bodies) (records.Start n) b o.are h.is) in
    let least : 1 ≤ j.end = omega (arith, o.keeps.end, ap (λ z. length (frames z)) m.is) in
    let one = h.appended o.bodies o.sure o.keeps least in
    let place = open_end rs j old o in
    let not_full : a ≡ appends.Full → ⊥ = λ f. let g = (h.full.0 f).1 in omega (arith, g, fits, place, five) in
    record {
      goes = subst (λ z. Goes (append_calls j.live z b) (Either Two rs (rs ++ records.Start n ∷ [])) (append_ended a) old new) place
          (append_goes Two rs (rs ++ records.Start n ∷ []) o.bodies b j k old new o.keeps o.of o.are listed of_more are o.sure counted a not_full one (h.calls o.sure) h.reason);
      holds = append_holds Two rs (rs ++ records.Start n ∷ []) o.bodies b j k old new o.keeps o.of o.are listed of_more are o.sure counted a one h.unsure;
    }

-- a Start that wasn't recorded
pub start_refused : {S : Type 0} (tell : S → Told) (rs : List Record) (n : ℕ) (f : KeepFault) (j k : Journal) (x y : S) → IsOpen Two rs j (tell x) → size_of rs + 10 ≤ j.limit
    → IfSome (ending {T = Token} (Err f)) (λ a. IsAppended a (records.Start n) (bytes_of (records.Start n)) j k (tell x) (tell y))
    → (f ≡ keeps.NoMemory → (y ≡ x) × (k ≡ j)) → Counted (tell x) (tell y)
    → Carries {T = Unit {0}} (append_calls j.live (end_of rs) (bytes_of (records.Start n))) Two rs (rs ++ records.Start n ∷ []) (Err (keep_fault f)) k (tell x) (tell y)
start_refused tell rs n keeps.NoMemory j k x y o fits h m counted =
    stays_same tell (append_calls j.live (end_of rs) (bytes_of (records.Start n))) Two rs (rs ++ records.Start n ∷ []) j k x y (m refl).0 (m refl).1 o
start_refused tell rs n keeps.Refused j k x y o fits h m counted = start_carries rs n appends.Refused j k (tell x) (tell y) o fits h counted
start_refused tell rs n keeps.Unsure j k x y o fits h m counted = start_carries rs n appends.Unsure j k (tell x) (tell y) o fits h counted
start_refused tell rs n keeps.Full j k x y o fits h m counted = start_carries rs n appends.Full j k (tell x) (tell y) o fits h counted
