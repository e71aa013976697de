-- What a writer keeps of what stood before, also where memory runs out, and what it adds.
use Rattle.std.specs.Prelude.{ℕ, List, ◌≡◌, ◌++◌, IsUtf8}

-- the new bytes begin with the old
pub record Extends (old new : List ℕ) : Type 0 where
  pub more : List ℕ
  pub is : new ≡ old ++ more

-- the new bytes are the old and a text in UTF-8
pub record TextAdded (old new : List ℕ) : Type 0 where
  pub more : List ℕ
  pub is : new ≡ old ++ more
  pub utf8 : IsUtf8 more

unfoldable pub AddsText : List ℕ → List ℕ → Type 0
AddsText old new = TextAdded old new
