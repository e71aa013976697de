-- The crash images of a file, byte by byte.
use Rattle.std.specs.Prelude.{ℕ, List, [], ◌∷◌, ◌≡◌, ◌≤◌, ◌<◌, ◌+◌, ◌⊎◌, ◌↔◌, max, length, get_or}
use Rattle.site_model.specs.Told.{Made, Files}
use Rattle.site_memory.specs.declared.range.Range.{Range}
use Rattle.site_memory.specs.declared.range.Which.TheVariants.{First, Second}
use Rattle.site_memory.specs.Disk.{Disk, Image, disk}

-- no range holds that place
abbrev pub IsFree : List Range → ℕ → Type 0
IsFree [] i = Unit {0}
IsFree (r ∷ rs) i = ((i < r.at) ⊎ (r.at + r.len ≤ i)) × IsFree rs i

-- how far a file of n bytes may reach
abbrev pub reach : List Range → ℕ → ℕ
reach [] n = n
reach (r ∷ rs) n = reach rs (max n (r.at + r.len))

-- it is no shorter, and no longer than what was written reaches; each byte that was there and isn't pending stays
pub record ByIndex (stable : List ℕ) (pending : List Range) (c : List ℕ) : Type 0 where
  pub no_shorter : length stable ≤ length c
  pub no_longer : length c ≤ reach pending (length stable)
  pub stays : (i : ℕ) → i < length stable → IsFree pending i → get_or c i 0 ≡ get_or stable i 0

abbrev pub Bytewise : Disk → List ℕ → Type 0
Bytewise d c = ByIndex d.stable d.pending c

-- what a crash may leave of the pair is what it may leave of each file, and of each file that is said byte by byte
abbrev pub ImagesAreBytewise : Type 0
ImagesAreBytewise = (opening : Files) (log : List Made) (c : Files) → Image opening log c ↔ (Bytewise (disk First opening log) c.first × Bytewise (disk Second opening log) c.second)
