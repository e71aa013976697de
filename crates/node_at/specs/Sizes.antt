-- The bytes that records take in a journal.
use Rattle.std.specs.Prelude.{ℕ, List, [], ◌∷◌, ◌+◌, length}
use Rattle.at_base.specs.declared.record.Record.{Record}
use Rattle.record_bytes.specs.Bytes.{bytes_of}

-- a gate, the length in four bytes, and the record
abbrev pub framed : Record → ℕ
framed r = 5 + length (bytes_of r)

abbrev pub framed_all : List Record → ℕ
framed_all [] = 0
framed_all (r ∷ rs) = framed r + framed_all rs

-- the place of the last gate of a file of version 2 with these records, behind its mark
abbrev pub end_of : List Record → ℕ
end_of rs = 10 + framed_all rs

-- the bytes up to and with that gate
abbrev pub size_of : List Record → ℕ
size_of rs = 11 + framed_all rs
