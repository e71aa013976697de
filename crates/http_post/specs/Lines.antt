-- What is known of a chunk line while its bytes come.
use Rattle.std.specs.Prelude.{ℕ, List, [], drop, Result, Ok, ◌≡◌, ◌∷◌, ◌++◌, length, ◌⊎◌, true, false, Option, Some, None}
use Rattle.httparse.specs.Grammar.{ChunkLine, HasNoChunkLine, MayBecomeChunkLine, NeverHasChunkLine}
use Rattle.httparse.specs.Spans.{IsChunkLineAt}
use Rattle.http_post.specs.declared.refusal.HttpRefusal.{HttpRefusal}
use Rattle.http_post.specs.declared.refusal.HttpRefusal.TheVariants.{BadRequest}
use Rattle.http_post.specs.declared.trailers.Line.{Line}
use Rattle.http_post.specs.Chunks.{Chunks, has_empty_line, IsCutShort, IsUnended, prefixed}
use Rattle.http_post.specs.RawBytes.{is_cut}
use Rattle.http_post.specs.declared.chunks.LineStep.{LineStep}
use Rattle.http_post.specs.declared.chunks.LineStep.TheVariants.{Whole, More, Never}

abbrev pub IsLineStep : List ℕ → LineStep → Type 0
IsLineStep bytes (Whole line) = (l : ChunkLine) × IsChunkLineAt bytes line.len line.size l
IsLineStep bytes More = HasNoChunkLine bytes × MayBecomeChunkLine bytes
IsLineStep bytes Never = NeverHasChunkLine bytes

-- no line stands there: none can, or the bytes break off in one
abbrev pub IsNoLine : List ℕ → HttpRefusal → HttpRefusal → Type 0
IsNoLine rest cut refusal =
    (NeverHasChunkLine rest × (refusal ≡ BadRequest)) ⊎ (HasNoChunkLine rest × ((¬ (NeverHasChunkLine rest)) × (refusal ≡ cut)))

-- the same where the body breaks off; where the machine failed nothing is said
abbrev pub IsLast : List ℕ → HttpRefusal → HttpRefusal → Type 0
IsLast rest refusal e = ((is_cut refusal ≡ false) × (e ≡ refusal)) ⊎ ((is_cut refusal ≡ true) × IsNoLine rest refusal e)

-- how far a trailer line is behind one byte more, or the end of the trailers
abbrev pub IsAfter : Line → ℕ → Option Line → Type 0
IsAfter line b None = (rest : List ℕ) → has_empty_line line (b ∷ rest) ≡ true
IsAfter line b (Some next) = (rest : List ℕ) → has_empty_line line (b ∷ rest) ≡ has_empty_line next rest

-- the data of a chunk aren't there as they should: they break off, or another byte stands behind them
abbrev pub IsBadContent : ℕ → List ℕ → HttpRefusal → HttpRefusal → Type 0
IsBadContent size rest cut refusal =
    (IsCutShort size rest × (refusal ≡ cut))
    ⊎ ((content : List ℕ) × (after : List ℕ) × ((rest ≡ content ++ after) × ((length content ≡ size) × (IsUnended after × (refusal ≡ BadRequest)))))

-- what one chunk gives: its data, and where the next one begins; or the end of the body
abbrev pub IsChunkStep : HttpRefusal → List ℕ → ℕ → List ℕ → List ℕ → Option ℕ → Type 0
IsChunkStep cut s at before after None = (after ≡ before) × Chunks cut (length before) (drop at s) (Ok [])
IsChunkStep cut s at before after (Some next) =
    (content : List ℕ) × (after ≡ before ++ content)
    × ((out : Result (List ℕ) HttpRefusal) → Chunks cut (length after) (drop next s) out → Chunks cut (length before) (drop at s) (prefixed content out))
