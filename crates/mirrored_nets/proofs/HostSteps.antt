-- What the calls of a node on its machine come to.
use Rattle.std.specs.Prelude.{ℕ, List, ◌≡◌, ◌+◌, ◌-◌, ◌<◌, ◌^◌, ◌⊎◌, Result, IfOk, Ok, Err, length, min, take, ◌≤◌}
use Rattle.std.proofs.Common.{ap, arith, inl, inr, sym, ◌∙◌}
use Rattle.std.proofs.lemmas.List.{take-map, take_all}
use Rattle.std.proofs.lemmas.Bool.{cases_lt}
use Rattle.site_memory.specs.Entries.{made_of, mades}
use Rattle.site_memory.specs.declared.arm.Choice.{Choice}
use Rattle.site_memory.specs.declared.entry.Entry.{Entry}
use Rattle.mirrored_nets.specs.Took.{kept_of}
use Rattle.mirrored_nets.specs.declared.came.Came.{Came}
use Rattle.mirrored_nets.specs.declared.came.Came.TheVariants as cames

pub if_ok : {A E : Type 0} {P Q : A → Type 0} (r : Result A E) → IfOk r P → ((x : A) → P x → Q x) → IfOk r Q
if_ok (Ok x) h f = f x h
if_ok (Err e) h f = tt

pub kept_so : (came : Came) (kept : ℕ) (choice : Choice) (calls some : List Entry) → came ≡ cames.Falls kept choice → some ≡ take kept calls → mades some ≡ take (kept_of came (mades calls)) (mades calls)
kept_so came kept choice calls some is e =
    ap mades e ∙ sym (take-map made_of kept calls) ∙ ap (λ k. take k (mades calls)) (sym (ap (λ z. kept_of z (mades calls)) is))

-- no more calls than there are
pub back_so : {A : Type 0} (xs : List A) (before kept sum calls all : ℕ) → sum ≡ min (before + kept) (2 ^ 64 - 1) → all ≡ length xs → all < 2 ^ 64 → calls ≡ min sum all → take calls xs ≡ take (before + kept) xs
back_so xs before kept sum calls all sums counts most is = by (cases_lt (before + kept) all)
  where
    by : (before + kept < all) ⊎ (all ≤ before + kept) → take calls xs ≡ take (before + kept) xs
    by (inl less) = ap (λ k. take k xs) (omega (arith, sums, most, is, less))
    by (inr more) = take_all calls xs (omega (arith, sums, counts, most, is, more)) ∙ sym (take_all (before + kept) xs (omega (arith, counts, more)))

-- both counts, where the sum of the old ones is cut off at its type's end
pub both_so : (disk gates old_disk old_gates sum made : ℕ) → sum ≡ min (old_disk + old_gates) (2 ^ 64 - 1) → disk + gates ≤ sum + made → disk + gates ≤ old_disk + old_gates + made
both_so disk gates old_disk old_gates sum made is most = omega (arith, is, most)
