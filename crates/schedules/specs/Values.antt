-- What one word says: a number, an id, a kind or a vote.
use Rattle.std.specs.Prelude.{ℕ, List, [], Bool, ◌&&◌, ◌==◌, ◌-◌, ◌^◌, nat_le, Option, Some, None, Result, Ok, Err, if◌then◌else◌, bytes_eq, codes, decimal}
use Rattle.std.specs.List.{before_first, after_first}
use Rattle.std.specs.Str.Parse.{digits_value}
use Rattle.at_base.specs.IdText.{hyphen, id_text}
use Rattle.hex.specs.Hex.{decode_of}
use Rattle.hex.specs.declared.error.FromHexError.{FromHexError}
use Rattle.at_base.specs.Numbers.{Numbers}
use Rattle.at_base.specs.Names.{kind_lettered, vote_named}
use Rattle.at_base.specs.declared.notice.Kind.{Kind}
use Rattle.at_base.specs.declared.notice.Vote.{Vote}
use Rattle.schedules.specs.declared.line.Cause.{Cause}
use Rattle.schedules.specs.declared.line.Cause.TheVariants.{Number, Identifier, Keyword, Hexadecimal}
use Rattle.schedules.specs.declared.line.Leaves.{Leaves}
use Rattle.schedules.specs.declared.line.Leaves.TheVariants as leaves

-- the number whose decimal text the word is: digits alone, without sign or leading zeros
abbrev pub decimal_of : List ℕ → Option ℕ
decimal_of word = if bytes_eq (decimal (digits_value 10 word)) word then Some (digits_value 10 word) else None

abbrev pub within : ℕ → ℕ → Option ℕ → Result ℕ Cause
within least most None = Err Number
within least most (Some n) = if nat_le least n && nat_le n most then Ok n else Err Number

abbrev pub number_in : ℕ → ℕ → List ℕ → Result ℕ Cause
number_in least most word = within least most (decimal_of word)

-- nodes are numbered from 1
abbrev pub node_in : ℕ → List ℕ → Result ℕ Cause
node_in nodes word = number_in 1 nodes word

-- calls are numbered from 1
abbrev pub call_in : List ℕ → Result ℕ Cause
call_in word = number_in 1 1000000 word

abbrev pub largest : ℕ
largest = 2 ^ 32 - 1

abbrev pub is_part : ℕ → Bool
is_part n = nat_le 1 n && nat_le n largest

-- the two numbers that a word would be the id of
abbrev pub numbers_of : List ℕ → Numbers
numbers_of word = record {
  incarnation = digits_value 10 (before_first (λ b. b == hyphen) word);
  counter = digits_value 10 (after_first (λ b. b == hyphen) word);
}

-- the id whose text the word is
abbrev pub spelled_id : Numbers → List ℕ → Result Numbers Cause
spelled_id id word =
    if is_part id.incarnation && is_part id.counter && bytes_eq (id_text id) word then Ok id else Err Identifier

abbrev pub id_in : List ℕ → Result Numbers Cause
id_in word = spelled_id (numbers_of word) word

-- what a word says, where it says something
abbrev pub keyword : {A : Type 0} → Option A → Result A Cause
keyword (Some a) = Ok a
keyword None = Err Keyword

abbrev pub kind_in : List ℕ → Result Kind Cause
kind_in word = keyword (kind_lettered word)

abbrev pub vote_in : List ℕ → Result Vote Cause
vote_in word = keyword (vote_named word)

-- what a stop leaves, where one word says it
abbrev pub leaves_in : List ℕ → Result Leaves Cause
leaves_in word =
    if bytes_eq word (codes "keep") then Ok leaves.Keep
    else if bytes_eq word (codes "drop") then Ok leaves.Drop
    else Err Keyword

-- the word itself, where it says bytes
abbrev pub if_decoded : List ℕ → Result (List ℕ) FromHexError → Result (List ℕ) Cause
if_decoded word (Ok bytes) = Ok word
if_decoded word (Err e) = Err Hexadecimal

-- bytes in hexadecimal, two digits each, in either case
abbrev pub hex_in : List ℕ → Result (List ℕ) Cause
hex_in word = if_decoded word (decode_of word)

abbrev pub bytes_or_none : Result (List ℕ) FromHexError → List ℕ
bytes_or_none (Ok bytes) = bytes
bytes_or_none (Err e) = []

-- the bytes that a word says
abbrev pub bytes_in : List ℕ → List ℕ
bytes_in word = bytes_or_none (decode_of word)
