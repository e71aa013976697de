-- The fields of a head in a map by their names.
use Rattle.std.specs.Prelude.{ℕ, List, [], ◌∷◌, ◌≡◌, bytes_eq, if◌then◌else◌, map, length, Bool, Ok, Err, ⊤}
use Rattle.httparse.specs.Spans.{IsHeaderWithin, IsRequestAt, span_bytes}
use Rattle.httparse.specs.Grammar.{RequestHead}
use Rattle.httparse.specs.declared.spans.HeaderSpan.{HeaderSpan}
use Rattle.httparse.specs.declared.spans.RequestSpans.{RequestSpans}
use Rattle.http_header.specs.FieldName.{IsFieldName}
use Rattle.http_header.specs.FieldValue.{FieldValue, IsFieldValue, plain_value}
use Rattle.http_header.specs.HeaderMap.{Entries, get_all}
use Rattle.http_header.specs.Token.{lowercase}
use Rattle.http_post.specs.declared.framing.Framing.{Framing}
use Rattle.http_post.specs.declared.refusal.HttpRefusal.{HttpRefusal}
use Rattle.http_post.specs.declared.refusal.HttpRefusal.TheVariants.{NoMemory}
use Rattle.http_post.specs.Heads.{expects, framing_of, values_in}
use Rattle.http_post.specs.Requests.{path_of}

-- a name and a value that a map can keep
abbrev pub CanBeKept : List ℕ → HeaderSpan → Type 0
CanBeKept bytes place = IsHeaderWithin (length bytes) place × (IsFieldName (span_bytes bytes place.name) × IsFieldValue (span_bytes bytes place.value))

-- the values under a name
abbrev pub named : List ℕ → List (List ℕ × List ℕ) → List FieldValue
named name [] = []
named name (p ∷ ps) = if bytes_eq (lowercase p.0) name then plain_value p.1 ∷ named name ps else named name ps

-- the bytes of the values under a name
abbrev pub values_under : Entries FieldValue → List ℕ → List (List ℕ)
values_under m name = map (λ v. v.bytes) (get_all m name)

abbrev pub HasFields : List ℕ → List HeaderSpan → RequestSpans → Entries FieldValue → Type 0
HasFields bytes places spans m =
    (h : RequestHead) → IsRequestAt bytes places spans h → (name : List ℕ) → values_under m name ≡ values_in name h.fields

-- what the head says: where the body ends, whether the client waits, and the path
pub record SaysOf (bytes : List ℕ) (places : List HeaderSpan) (spans : RequestSpans) (path : List ℕ) (framing : Framing) (waits : Bool) : Type 0 where
  pub framed : (h : RequestHead) → IsRequestAt bytes places spans h → framing_of h ≡ Ok framing
  pub asked : (h : RequestHead) → IsRequestAt bytes places spans h → path ≡ path_of h.target
  pub waiting : (h : RequestHead) → IsRequestAt bytes places spans h → waits ≡ expects h

-- or the refusal that it draws
abbrev pub Draws : List ℕ → List HeaderSpan → RequestSpans → HttpRefusal → Type 0
Draws bytes places spans NoMemory = ⊤
Draws bytes places spans refusal = (h : RequestHead) → IsRequestAt bytes places spans h → framing_of h ≡ Err refusal
