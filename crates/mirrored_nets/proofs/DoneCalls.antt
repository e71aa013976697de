-- Calls all of which were done.
use Rattle.std.specs.Prelude.{ℕ, List, [], ◌∷◌, ◌≡◌, Bool, true, false, drop, if◌then◌else◌, zero, suc}
use Rattle.std.proofs.Common.{ap, refl, ◌∙◌}
use Rattle.site_model.specs.Told.{Made}
use Rattle.mirrored_nets.specs.Fates.{AllDone, all_done, behind_disk, is_disk}

pub all_drop : (n : ℕ) (made : List Made) → AllDone made → AllDone (drop n made)
all_drop zero made all = all
all_drop (suc n) [] all = tt
all_drop (suc n) (m ∷ made) (is, all) = all_drop n made all

pub all_behind_disk : (made : List Made) → AllDone made → AllDone (behind_disk made)
all_behind_disk [] all = tt
all_behind_disk (m ∷ made) (is, all) = by (is_disk m.call) (all_behind_disk made all)
  where
    by : (b : Bool) → AllDone (behind_disk made) → AllDone (if b then behind_disk made else m ∷ made)
    by true rest = rest
    by false rest = (is, all)

pub all_test : (made : List Made) → AllDone made → all_done made ≡ true
all_test [] all = refl
all_test (m ∷ made) (is, all) = ap (λ b. if b then all_done made else false) is ∙ all_test made all
