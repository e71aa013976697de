-- Which bodies are records of a journal's version.
use Rattle.std.specs.Prelude.{ℕ, List, [], ◌∷◌, ◌≡◌, ◌≤◌, ◌<◌, ◌^◌, length, refl, None}
use Rattle.journal_at.specs.Format.{IsBody, mark_of}
use Rattle.std.specs.Str.{IsUtf8}
use Rattle.at_base.specs.WellFormed.{IsWellFormed}
use Rattle.at_base.specs.Numbers.{Numbers}
use Rattle.at_base.specs.declared.epr.Epr.{Epr}
use Rattle.at_base.specs.declared.record.Seated.{Seated}
use Rattle.at_base.specs.declared.record.Record.{Record}
use Rattle.at_base.specs.declared.record.Record.TheVariants as records
use Rattle.journal_at.specs.declared.version.Version.{Version}
use Rattle.journal_at.specs.declared.version.Version.TheVariants.{One, Two}
use Rattle.record_bytes.specs.Bytes.{bytes_of}

-- Version 1 has 1 to 64 seats in a record, and no Done.
abbrev pub IsOfVersion : Version → Record → Type 0
IsOfVersion Two r = Unit {0}
IsOfVersion One (records.Start incarnation) = Unit {0}
IsOfVersion One (records.LeafPrepared id coordinator key value) = Unit {0}
IsOfVersion One (records.LeafCommitted id) = Unit {0}
IsOfVersion One (records.LeafAborted id) = Unit {0}
IsOfVersion One (records.Voted id superior seats) = length seats ≤ 64
IsOfVersion One (records.Decided id seats) = (1 ≤ length seats) × (length seats ≤ 64)
IsOfVersion One (records.SubCommitted id) = Unit {0}
IsOfVersion One (records.Ended id) = Unit {0}
IsOfVersion One (records.Done id) = ⊥

-- What the types of the fields keep: a number fits its bytes, a text is UTF-8.
abbrev pub IsTypedEndpoint : Epr → Type 0
IsTypedEndpoint e = IsUtf8 e.address × IsUtf8 e.params

abbrev pub IsTypedSeat : Seated → Type 0
IsTypedSeat s = (s.number < 2 ^ 16) × IsTypedEndpoint s.endpoint

abbrev pub AreTypedSeats : List Seated → Type 0
AreTypedSeats [] = Unit {0}
AreTypedSeats (s ∷ ss) = IsTypedSeat s × AreTypedSeats ss

abbrev pub IsTyped : Record → Type 0
IsTyped (records.Start incarnation) = incarnation < 2 ^ 32
IsTyped (records.LeafPrepared id coordinator key value) = IsTypedEndpoint coordinator × IsUtf8 key × IsUtf8 value
IsTyped (records.LeafCommitted id) = Unit {0}
IsTyped (records.LeafAborted id) = Unit {0}
IsTyped (records.Voted id superior seats) = IsTypedEndpoint superior × AreTypedSeats seats
IsTyped (records.Decided id seats) = AreTypedSeats seats
IsTyped (records.SubCommitted id) = Unit {0}
IsTyped (records.Ended id) = Unit {0}
IsTyped (records.Done id) = Unit {0}

-- The body is this record's bytes, and nothing more.
pub record IsRecord (version : Version) (r : Record) (body : List ℕ) : Type 0 where
  pub typed : IsTyped r
  pub formed : IsWellFormed r
  pub allowed : IsOfVersion version r
  pub is : body ≡ bytes_of r

-- no body is that of two records
abbrev pub AreApart : Type 0
AreApart = (version other : Version) (r s : Record) (body : List ℕ) → IsRecord version r body → IsRecord other s body → r ≡ s

abbrev pub id_1_2 : Numbers
id_1_2 = record { incarnation = 1; counter = 2 }

pub a_start : bytes_of (records.Start 258) ≡ 0x01 ∷ 0x00 ∷ 0x00 ∷ 0x01 ∷ 0x02 ∷ []
a_start = refl

pub a_decision_without_seats : bytes_of (records.Decided id_1_2 []) ≡ 0x06 ∷ 0x00 ∷ 0x00 ∷ 0x00 ∷ 0x01 ∷ 0x00 ∷ 0x00 ∷ 0x00 ∷ 0x02 ∷ 0x00 ∷ 0x00 ∷ []
a_decision_without_seats = refl

pub an_outcome : bytes_of (records.Done id_1_2) ≡ 0x0a ∷ 0x00 ∷ 0x00 ∷ 0x00 ∷ 0x01 ∷ 0x00 ∷ 0x00 ∷ 0x00 ∷ 0x02 ∷ []
an_outcome = refl

abbrev pub seat_3 : Seated
seat_3 = record { number = 3; endpoint = record { address = 0x61 ∷ []; params = [] } }

pub a_vote : bytes_of (records.Voted id_1_2 (record { address = 0x62 ∷ 0x63 ∷ []; params = 0x64 ∷ [] }) (seat_3 ∷ []))
    ≡ 0x05 ∷ 0x00 ∷ 0x00 ∷ 0x00 ∷ 0x01 ∷ 0x00 ∷ 0x00 ∷ 0x00 ∷ 0x02
    ∷ 0x00 ∷ 0x02 ∷ 0x62 ∷ 0x63 ∷ 0x00 ∷ 0x01 ∷ 0x64
    ∷ 0x00 ∷ 0x01 ∷ 0x00 ∷ 0x03 ∷ 0x00 ∷ 0x01 ∷ 0x61 ∷ 0x00 ∷ 0x00 ∷ []
a_vote = refl

-- a journal takes each record as a body, and none of them is a mark
abbrev pub AreBodies : Type 0
AreBodies = (version : Version) (r : Record) (body : List ℕ) → IsRecord version r body → IsBody body × (mark_of body ≡ None)
