-- What a chosen crash leaves is one of the images.
use Rattle.std.specs.Prelude.{ℕ, List, [], ◌∷◌, ◌≡◌, replicate}
use Rattle.std.proofs.Common.{refl, subst}
use Rattle.std.proofs.lemmas.List.{length-replicate}
use Rattle.site_model.specs.Told.{Files, Made, Torn, written}
use Rattle.site_memory.specs.declared.arm.Choice.{Choice}
use Rattle.site_memory.specs.declared.arm.Choice.TheVariants.{Drop, Fill, Keep}
use Rattle.site_memory.specs.declared.range.Range.{Range}
use Rattle.site_memory.specs.declared.range.Which.{Which}
use Rattle.site_memory.specs.declared.range.Which.TheVariants.{First, Second}
use Rattle.site_memory.specs.Disk.{ChosenAreImages, Disk, MayBe, TornAt, chosen, disk, filled, torn_by}
use Rattle.site_memory.proofs.Images.{seen_image, torn_same, torn_written}

untorn : (from : List ℕ → Type 0) (rs : List Range) (f : List ℕ) → from f → torn_by from rs f
untorn from [] f h = h
untorn from (r ∷ rs) f h = untorn (TornAt r.at r.len from) rs f (f, h, torn_same r.at r.len f)

torn_filled : (b : ℕ) (r : Range) (f : List ℕ) → Torn r.at r.len f (written r.at (replicate r.len b) f)
torn_filled b r f = subst (λ n. Torn r.at n f (written r.at (replicate r.len b) f)) (length-replicate r.len b) (torn_written r.at (replicate r.len b) f)

all_filled : (b : ℕ) (from : List ℕ → Type 0) (rs : List Range) (f : List ℕ) → from f → torn_by from rs (filled b f rs)
all_filled b from [] f h = h
all_filled b from (r ∷ rs) f h = all_filled b (TornAt r.at r.len from) rs (written r.at (replicate r.len b) f) (f, h, torn_filled b r f)

may_be : (choice : Choice) (which : Which) (opening : Files) (log : List Made) → MayBe (disk which opening log) (chosen choice (disk which opening log))
may_be Keep which opening log = seen_image which opening log
may_be Drop which opening log = let d : Disk = disk which opening log in untorn (λ f. f ≡ d.stable) d.pending d.stable refl
may_be (Fill b) which opening log = let d : Disk = disk which opening log in all_filled b (λ f. f ≡ d.stable) d.pending d.stable refl

pub chosen_are_images : ChosenAreImages
chosen_are_images choice opening log = (may_be choice First opening log, may_be choice Second opening log)
