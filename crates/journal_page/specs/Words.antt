-- The words that a page is made of.
use Rattle.std.specs.Prelude.{ℕ, List, [], ◌∷◌, ◌++◌, ◌==◌, ◌≡◌, if◌then◌else◌, codes, decimal, refl}
use Rattle.std.specs.List.{flat_map}
use Rattle.at_base.specs.IdText.{id_text}
use Rattle.at_base.specs.Numbers.{Numbers}
use Rattle.at_base.specs.declared.epr.Epr.{Epr}
use Rattle.at_base.specs.declared.record.Seated.{Seated}
use Rattle.xml_profile.specs.CanonicalText.{value_byte}

-- A byte of an address: escaped as in an attribute's value, and a space by reference too, so that an address is one word
-- (XML 1.0, sections 3.3.3 and 4.1).
abbrev pub word_byte : ℕ → List ℕ
word_byte c = if c == 32 then codes "&#32;" else value_byte c

abbrev pub word_text : List ℕ → List ℕ
word_text = flat_map word_byte

-- an endpoint, by its address
unfoldable pub endpoint_word : Epr → List ℕ
endpoint_word e = word_text e.address

-- what an item is or does, and its id
unfoldable pub item : List ℕ → Numbers → List ℕ
item word id = word ++ (codes " " ++ id_text id)

-- an endpoint behind a word
unfoldable pub endpoint_part : List ℕ → Epr → List ℕ
endpoint_part word e = codes " " ++ (word ++ (codes " " ++ endpoint_word e))

-- the number of a seat, and its participant
unfoldable pub seat_part : Seated → List ℕ
seat_part s = codes " " ++ (decimal s.number ++ (codes " " ++ endpoint_word s.endpoint))

abbrev pub each_seat : List Seated → List ℕ
each_seat [] = []
each_seat (s ∷ ss) = seat_part s ++ each_seat ss

abbrev pub some_seats : List Seated → List ℕ
some_seats [] = codes " none"
some_seats (s ∷ ss) = each_seat (s ∷ ss)

-- seats behind a word
unfoldable pub seats_part : List ℕ → List Seated → List ℕ
seats_part word ss = codes " " ++ (word ++ some_seats ss)

-- a number behind its name
unfoldable pub number_line : List ℕ → ℕ → List ℕ
number_line name n = name ++ (codes " " ++ (decimal n ++ codes "\n"))

pub a_space_stands_by_reference : word_text (codes "a b") ≡ codes "a&#32;b"
a_space_stands_by_reference = refl
