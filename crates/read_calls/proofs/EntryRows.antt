-- The same of the calls of a log.
use Rattle.std.specs.Prelude.{ℕ, List, [], ◌∷◌, ◌-◌, ◌≡◌, ◌≤◌, ◌<◌, drop, length, take}
use Rattle.std.proofs.Common.{ap, arith, refl, subst, sym, ◌∙◌}
use Rattle.std.proofs.lemmas.List.{length-map, length-take-le}
use Rattle.site_memory.specs.Entries.{made_of, mades}
use Rattle.site_memory.specs.declared.entry.Entry.{Entry}
use Rattle.mirrored_nets.specs.Fates.{anew_of, disk_part}
use Rattle.mirrored_nets.specs.AnewCalls.{before_anew}
use Rattle.mirrored_nets.proofs.FatesOfCalls.{anew_so, behind_lines}

pub count_of : (calls : List Entry) → length (mades calls) ≡ length calls
count_of calls = length-map calls made_of

-- how many come before those by which the journal is written anew
pub before_is : (lines before : ℕ) (calls step anew : List Entry) → step ≡ drop lines calls → mades anew ≡ anew_of (mades step) → before ≡ length calls - length anew → before ≡ before_anew lines (mades calls)
before_is lines before calls step anew is same count =
    count ∙ (λ i. sym (count_of calls) i - (sym (count_of anew) ∙ ap length (anew_so lines calls step anew is same)) i)

none_left : (calls : List Entry) → length calls ≡ 0 → mades calls ≡ []
none_left [] e = refl
none_left (x ∷ xs) e = absurd (omega (arith, e))

pub none_anew : (lines : ℕ) (calls step anew : List Entry) → step ≡ drop lines calls → mades anew ≡ anew_of (mades step) → length anew ≡ 0 → anew_of (drop lines (mades calls)) ≡ []
none_anew lines calls step anew is same none = sym (anew_so lines calls step anew is same) ∙ none_left anew none

pub some_anew : (lines : ℕ) (calls step anew : List Entry) → step ≡ drop lines calls → mades anew ≡ anew_of (mades step) → (length anew ≡ 0 → ⊥) → anew_of (drop lines (mades calls)) ≡ [] → ⊥
some_anew lines calls step anew is same some none =
    let a = ap length (anew_so lines calls step anew is same ∙ none) in
    let b = count_of anew in
    some (omega (arith, a, b))

-- the calls of the disk that come first
module _ (lines : ℕ) (calls step : List Entry) (is : step ≡ drop lines calls) (disk : ℕ) (part : disk_part (mades step) ≡ take disk (mades step)) (within : disk ≤ length step) where
  part_is : disk_part (drop lines (mades calls)) ≡ take disk (mades step)
  part_is = ap disk_part (behind_lines lines calls step is) ∙ part

  pub none_is : disk ≡ 0 → disk_part (drop lines (mades calls)) ≡ []
  none_is e = part_is ∙ ap (λ n. take n (mades step)) e

  pub long_is : length (disk_part (drop lines (mades calls))) ≡ disk
  long_is = ap length part_is ∙ length-take-le disk (mades step) (subst (λ n. disk ≤ n) (sym (count_of step)) within)

  pub some_is : 0 < disk → disk_part (drop lines (mades calls)) ≡ [] → ⊥
  some_is some e = let a = long_is in let b = ap length e in omega (arith, a, b, some)
