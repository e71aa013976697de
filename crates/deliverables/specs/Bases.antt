-- The base of a node that others can reach over HTTP (RFC 9110, section 4.2.1).
use Rattle.std.specs.Prelude.{ℕ, List, [], codes, length, ◌≡◌, ◌≤◌, ◌<◌, ◌^◌}
use Rattle.arrivals.specs.Worlds.{with_path}
use Rattle.at_model.specs.World.{example_base}
use Rattle.url.specs.Parts.{IsValidHead, Parts, serialize}

-- It is what an http URL has before its path, of at most 1,024 bytes.
pub record IsNodeBase (base : List ℕ) : Type 0 where
  pub url : Parts
  pub valid : IsValidHead url
  pub http : url.scheme ≡ codes "http"
  pub is : base ≡ serialize (with_path url [])
  pub short : length base ≤ 1024

-- The bases of the nodes of worked examples are such bases.
abbrev pub ExamplesAreNodeBases : Type 0
ExamplesAreNodeBases = (n : ℕ) → n < 2 ^ 64 → IsNodeBase (example_base n)
