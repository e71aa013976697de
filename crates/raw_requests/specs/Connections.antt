-- A machine with one connection, and what was said on it.
use Rattle.std.specs.Prelude.{ℕ, List, [], Bool, Option, Some, None, ◌≡◌, length, nat_lt}
use Rattle.node_at.specs.Meanings.{open_input}
use Rattle.site_model.specs.Told.{Made, Told}

-- it has made no call, and its connection brings these bytes
pub record Listens (bytes : List ℕ) (told : Told) : Type 0 where
  pub calls : told.calls ≡ Some []
  pub brings : open_input told.link ≡ Some bytes
  pub link : told.counts.link ≡ 0

-- whether something was said, where nothing failed to be
abbrev pub HasSaid : Bool → Option (List Made) → ℕ → Type 0
HasSaid said None link = ⊥
HasSaid said (Some calls) link = (said ≡ nat_lt 0 (length calls)) × (link ≡ 0)
