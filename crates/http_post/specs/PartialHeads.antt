-- What is known of a head while its bytes come.
use Rattle.std.specs.Prelude.{ℕ, List, ◌++◌, ◌≡◌, ◌≤◌, Option, IfSome, length, take}
use Rattle.std.specs.Io.KnownBytes.{Consumes, IsAtEnd}
use Rattle.httparse.specs.Grammar.{RequestHead, HasNoRequest, ReadsRequest}
use Rattle.httparse.specs.Spans.{IsRequestAt, IsRequestOf, IsRequestWithin}
use Rattle.httparse.specs.declared.spans.HeaderSpan.{HeaderSpan}
use Rattle.httparse.specs.declared.spans.RequestSpans.{RequestSpans}
use Rattle.http_post.specs.declared.places.Step.{Step}
use Rattle.http_post.specs.declared.places.Step.TheVariants.{Whole, More, Never}
use Rattle.http_post.specs.Requests.{most_head}

-- no head within the limit begins with these bytes
abbrev pub NeverHasHead : List ℕ → Type 0
NeverHasHead bytes = (more : List ℕ) → length (bytes ++ more) ≤ most_head → HasNoRequest (bytes ++ more)

abbrev pub IsStep : List ℕ → List HeaderSpan → Step → Type 0
IsStep bytes places (Whole spans) = IsRequestOf bytes places spans × IsRequestWithin bytes places spans
IsStep bytes places More = HasNoRequest bytes
IsStep bytes places Never = NeverHasHead bytes

-- n more bytes came
pub record IsPiece (left now : Option (List ℕ)) (before after : List ℕ) (n : ℕ) : Type 0 where
  pub piece : List ℕ
  pub count : length piece ≡ n
  pub behind : after ≡ before ++ piece
  pub fits : length after ≤ most_head
  pub taken : Consumes left now piece
  pub end : n ≡ 0 → IsAtEnd now

-- bytes that begin with a head, which the input begins with
pub record HoldsHead (left : Option (List ℕ)) (bytes : List ℕ) (places : List HeaderSpan) (spans : RequestSpans) : Type 0 where
  pub head : RequestHead
  pub at : IsRequestAt bytes places spans head
  pub within : IsRequestWithin bytes places spans
  pub fits : length bytes ≤ most_head
  pub begins : IfSome left (λ input. (rest : List ℕ) × ReadsRequest (take most_head input) head rest)

abbrev pub HasNoHead : Option (List ℕ) → Type 0
HasNoHead left = IfSome left (λ input. HasNoRequest (take most_head input))

-- a head that was read, whatever came with it
pub record IsRead (bytes : List ℕ) (places : List HeaderSpan) (spans : RequestSpans) : Type 0 where
  pub head : RequestHead
  pub at : IsRequestAt bytes places spans head
  pub within : IsRequestWithin bytes places spans
  pub fits : length bytes ≤ most_head
