-- How bytes are read as a record, field by field.
use Rattle.std.specs.Prelude.{ℕ, List, [], ◌∷◌, ◌&&◌, nat_eq, nat_le, nat_lt, ◌^◌, ◌≡◌, zero, suc, length, take, drop, Option, Some, None, Result, Ok, Err, cond}
use Rattle.std.specs.Int.{Width, to_be_bytes, from_be_bytes, w16, w32}
use Rattle.std.specs.Str.{bytes_eq, is_utf8}
use Rattle.at_base.specs.Numbers.{Numbers}
use Rattle.at_base.specs.declared.epr.Epr.{Epr}
use Rattle.at_base.specs.declared.record.Seated.{Seated}
use Rattle.at_base.specs.declared.record.Record.{Record}
use Rattle.at_base.specs.declared.record.Record.TheVariants as records
use Rattle.journal_at.specs.declared.version.Version.{Version}
use Rattle.record_bytes.specs.Versions.{IsRecord}
use Rattle.record_bytes.specs.declared.cursor.ReadFault.{ReadFault}
use Rattle.record_bytes.specs.declared.cursor.ReadFault.TheVariants.{NoMemory, Misspelled}

infixl 10 ◌>>=◌
abbrev pub ◌>>=◌ : {A B : Type 0} → Option A → (A → Option B) → Option B
Some x >>= next = next x
None >>= next = None

-- What was read and what stands behind it.
abbrev pub Taken : Type 0 → Type 0
Taken A = Option (A × List ℕ)

abbrev pub number_if : Width → ℕ → List ℕ → List ℕ → ℕ → Taken ℕ
number_if w bound front rest n = cond (nat_lt n bound && bytes_eq (to_be_bytes w n) front) (Some (n, rest)) None

-- the number that so many bytes are
abbrev pub number_in : Width → ℕ → ℕ → List ℕ → Taken ℕ
number_in w size bound bytes = number_if w bound (take size bytes) (drop size bytes) (from_be_bytes w (take size bytes))

unfoldable pub short_in : List ℕ → Taken ℕ
short_in bytes = number_in w16 2 (2 ^ 16) bytes

unfoldable pub word_in : List ℕ → Taken ℕ
word_in bytes = number_in w32 4 (2 ^ 32) bytes

abbrev pub id_if : ℕ → ℕ → List ℕ → Taken Numbers
id_if incarnation counter rest =
    cond (nat_le 1 incarnation && nat_le 1 counter) (Some (record { incarnation = incarnation; counter = counter }, rest)) None

unfoldable pub id_in : List ℕ → Taken Numbers
id_in bytes = do
  incarnation ← word_in bytes
  counter ← word_in incarnation.1
  id_if incarnation.0 counter.0 counter.1

unfoldable pub letters_in : ℕ → List ℕ → Taken (List ℕ)
letters_in n bytes =
    cond (nat_le n (length bytes)) (cond (is_utf8 (take n bytes)) (Some (take n bytes, drop n bytes)) None) None

unfoldable pub text_in : List ℕ → Taken (List ℕ)
text_in bytes = do
  size ← short_in bytes
  letters_in size.0 size.1

unfoldable pub endpoint_in : List ℕ → Taken Epr
endpoint_in bytes = do
  address ← text_in bytes
  params ← text_in address.1
  Some (record { address = address.0; params = params.0 }, params.1)

unfoldable pub seat_in : List ℕ → Taken Seated
seat_in bytes = do
  number ← short_in bytes
  endpoint ← endpoint_in number.1
  Some (record { number = number.0; endpoint = endpoint.0 }, endpoint.1)

-- so many seats
abbrev pub each_in : ℕ → List ℕ → Taken (List Seated)
each_in zero bytes = Some ([], bytes)
each_in (suc n) bytes = do
  seated ← seat_in bytes
  others ← each_in n seated.1
  Some (seated.0 ∷ others.0, others.1)

unfoldable pub seats_in : List ℕ → Taken (List Seated)
seats_in bytes = do
  count ← short_in bytes
  each_in count.0 count.1

unfoldable pub start_in : List ℕ → Taken Record
start_in bytes = do
  incarnation ← word_in bytes
  Some (records.Start incarnation.0, incarnation.1)

unfoldable pub leaf_in : List ℕ → Taken Record
leaf_in bytes = do
  id ← id_in bytes
  coordinator ← endpoint_in id.1
  key ← text_in coordinator.1
  value ← text_in key.1
  Some (records.LeafPrepared id.0 coordinator.0 key.0 value.0, value.1)

unfoldable pub vote_in : List ℕ → Taken Record
vote_in bytes = do
  id ← id_in bytes
  superior ← endpoint_in id.1
  seats ← seats_in superior.1
  Some (records.Voted id.0 superior.0 seats.0, seats.1)

unfoldable pub decision_in : List ℕ → Taken Record
decision_in bytes = do
  id ← id_in bytes
  seats ← seats_in id.1
  Some (records.Decided id.0 seats.0, seats.1)

-- a record that has an id and nothing else
abbrev pub named : ℕ → Numbers → Option Record
named tag id =
    cond (nat_eq tag 3) (Some (records.LeafCommitted id))
    (cond (nat_eq tag 4) (Some (records.LeafAborted id))
    (cond (nat_eq tag 7) (Some (records.SubCommitted id))
    (cond (nat_eq tag 8) (Some (records.Ended id))
    (cond (nat_eq tag 10) (Some (records.Done id)) None))))

unfoldable pub named_in : ℕ → List ℕ → Taken Record
named_in tag bytes = do
  id ← id_in bytes
  found ← named tag id.0
  Some (found, id.1)

unfoldable pub fields_in : ℕ → List ℕ → Taken Record
fields_in tag bytes =
    cond (nat_eq tag 1) (start_in bytes)
    (cond (nat_eq tag 2) (leaf_in bytes)
    (cond (nat_eq tag 5) (vote_in bytes)
    (cond (nat_eq tag 6) (decision_in bytes) (named_in tag bytes))))

-- nothing stands behind it
abbrev pub whole : Taken Record → Option Record
whole (Some (r, [])) = Some r
whole (Some (r, byte ∷ rest)) = None
whole None = None

unfoldable pub record_in : List ℕ → Option Record
record_in [] = None
record_in (tag ∷ rest) = whole (fields_in tag rest)

-- an answer is what the bytes say, unless memory ran out
abbrev pub Reads : {A : Type 0} → Result A ReadFault → List ℕ → Taken A → Type 0
Reads (Ok x) rest said = said ≡ Some (x, rest)
Reads (Err NoMemory) rest said = Unit {0}
Reads (Err Misspelled) rest said = said ≡ None

-- as above, of all bytes
abbrev pub Spells : Result Record ReadFault → List ℕ → Type 0
Spells (Ok r) body = record_in body ≡ Some r
Spells (Err NoMemory) body = Unit {0}
Spells (Err Misspelled) body = record_in body ≡ None

-- the record that a body is, or that it is none
abbrev pub IsAnswer : Version → Result Record ReadFault → List ℕ → Type 0
IsAnswer version (Ok r) body = IsRecord version r body
IsAnswer version (Err NoMemory) body = Unit {0}
IsAnswer version (Err Misspelled) body = (r : Record) → IsRecord version r body → ⊥
