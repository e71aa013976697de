-- A body is one record's or none's.
use Rattle.std.proofs.Common.{ℕ, List, [], ◌∷◌, ◌≡◌, ◌≢◌, length, arith, refl, sym, ◌∙◌, ap, subst, Some, None, Err}
use Rattle.at_base.specs.WellFormed.{IsWellFormed}
use Rattle.at_base.specs.declared.record.Record.{Record}
use Rattle.journal_at.specs.declared.version.Version.{Version}
use Rattle.record_bytes.specs.declared.cursor.ReadFault.{ReadFault}
use Rattle.record_bytes.specs.declared.cursor.ReadFault.TheVariants.{NoMemory, Misspelled}
use Rattle.record_bytes.specs.RecordReaders.{IsAnswer, Reads, Spells, fields_in, record_in, whole}
use Rattle.record_bytes.specs.Versions.{AreApart, IsOfVersion, IsRecord}
use Rattle.record_bytes.proofs.RecordRoundtrip.{record_back}
use Rattle.record_bytes.proofs.SpelledParts.{some_is}
use Rattle.record_bytes.proofs.SpelledRecords.{record_spelled}

read_back : (version : Version) (r : Record) (body : List ℕ) → IsRecord version r body → record_in body ≡ Some r
read_back version r body h = ap record_in h.is ∙ record_back r h.formed h.typed

pub are_apart : AreApart
are_apart version other r s body h k = some_is r s (sym (read_back version r body h) ∙ read_back other s body k)

pub all_spelled : (tag : ℕ) (body rest more : List ℕ) (r : Record) → body ≡ tag ∷ rest → fields_in tag rest ≡ Some (r, more) → length more ≡ 0 → record_in body ≡ Some r
unfolding record_in
all_spelled tag body rest [] r b h e = ap record_in b ∙ ap whole h
all_spelled tag body rest (x ∷ more) r b h e = absurd (omega (arith, e))

pub more_behind : (tag : ℕ) (body rest more : List ℕ) (r : Record) → body ≡ tag ∷ rest → fields_in tag rest ≡ Some (r, more) → more ≢ [] → record_in body ≡ None
unfolding record_in
more_behind tag body rest [] r b h n = absurd (n refl)
more_behind tag body rest (x ∷ more) r b h n = ap record_in b ∙ ap whole h

pub empty : (body : List ℕ) → length body ≡ 0 → record_in body ≡ None
unfolding record_in
empty [] e = refl
empty (x ∷ body) e = absurd (omega (arith, e))

pub none_spelled : (tag : ℕ) (body rest more : List ℕ) (fault : ReadFault) → body ≡ tag ∷ rest → Reads {A = Record} (Err fault) more (fields_in tag rest) → Spells (Err fault) body
unfolding record_in
none_spelled tag body rest more NoMemory b h = tt
none_spelled tag body rest more Misspelled b h = ap record_in b ∙ ap whole h

pub is_record : (version : Version) (r : Record) (body : List ℕ) → record_in body ≡ Some r → IsWellFormed r → IsOfVersion version r → IsRecord version r body
is_record version r body e f v = let k = record_spelled body r e in record { typed = k.0; formed = f; allowed = v; is = k.1 }

other : (version : Version) (q r : Record) (body : List ℕ) → record_in body ≡ Some q → IsRecord version r body → r ≡ q
other version q r body e h = some_is r q (sym (read_back version r body h) ∙ e)

pub unformed : (version : Version) (q : Record) (body : List ℕ) → record_in body ≡ Some q → (IsWellFormed q → ⊥) → (r : Record) → IsRecord version r body → ⊥
unformed version q body e n r h = n (subst IsWellFormed (other version q r body e h) h.formed)

pub unallowed : (version : Version) (q : Record) (body : List ℕ) → record_in body ≡ Some q → (IsOfVersion version q → ⊥) → (r : Record) → IsRecord version r body → ⊥
unallowed version q body e n r h = n (subst (IsOfVersion version) (other version q r body e h) h.allowed)

pub unspelled : (version : Version) (fault : ReadFault) (body : List ℕ) → Spells (Err fault) body → IsAnswer version (Err fault) body
unspelled version NoMemory body h = tt
unspelled version Misspelled body h = λ r k. no_some r (sym h ∙ read_back version r body k) where
  no_some : (r : Record) → None ≡ Some r → ⊥
  no_some r e = absurd cc
