-- The raw bytes of a body while they come: those that are held, and those that the connection still brings.
use Rattle.std.specs.Prelude.{ℕ, List, ◌++◌, ◌≡◌, ◌<◌, Option, Some, None, length, take, ⊤, Bool, true, false}
use Rattle.http_post.specs.declared.refusal.HttpRefusal.{HttpRefusal}
use Rattle.http_post.specs.declared.refusal.HttpRefusal.TheVariants.{Link, NoMemory}
use Rattle.http_post.specs.Chunks.{cut_at_end, most_raw}

-- these are all the bytes of the body and behind it, where the machine tells
abbrev pub IsRaw : Option (List ℕ) → List ℕ → List ℕ → Type 0
IsRaw None bytes raw = ⊥
IsRaw (Some left) bytes raw = raw ≡ bytes ++ left

-- as far as a body in chunks may go
abbrev pub seen : List ℕ → List ℕ
seen raw = take most_raw raw

-- a failure of the machine says nothing of the bytes; another refusal does
abbrev pub IsFault : HttpRefusal → (HttpRefusal → Type 0) → Type 0
IsFault Link P = ⊤
IsFault NoMemory P = ⊤
IsFault refusal P = P refusal

-- the body breaks off, and all that counts of it is held
pub record BreaksOff (bytes raw : List ℕ) (refusal : HttpRefusal) : Type 0 where
  pub is_cut : refusal ≡ cut_at_end raw
  pub held : seen raw ≡ take most_raw bytes

-- the body breaks off before that place
pub record EndsBefore (place : ℕ) (raw : List ℕ) (refusal : HttpRefusal) : Type 0 where
  pub is_cut : refusal ≡ cut_at_end raw
  pub short : length (seen raw) < place

-- the body broke off, and no machine failed
abbrev pub is_cut : HttpRefusal → Bool
is_cut Link = false
is_cut NoMemory = false
is_cut refusal = true
