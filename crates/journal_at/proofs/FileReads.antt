-- A file that is read piece by piece.
use Rattle.std.proofs.Common.{ℕ, List, Result, length, ◌≡◌, ◌++◌, ◌+◌, ◌≤◌, sym, ◌∙◌, ap, take, drop, ⊎_elim, arith}
use Rattle.std.proofs.lemmas.List.{length-append, length-take}
use Rattle.std.proofs.Math.Seq.{take-add}
use Rattle.site_model.specs.Site.{Counts}
use Rattle.site_model.specs.Calls.{Looked}
use Rattle.site_model.specs.Told.{Told, Still}
use Rattle.journal_at.specs.Loads.{Quiet}

pub read_more : (whole b later buf : List ℕ) (at n : ℕ) → b ≡ take (length b) whole → at ≡ length b → later ≡ b ++ take n buf → n ≤ length buf → take n buf ≡ take n (drop at whole) → later ≡ take (length later) whole
read_more whole b later buf at n h e l s r =
    let size : length later ≡ length b + n = ap length l ∙ length-append b (take n buf) ∙ omega (arith, length-take n buf, s) in
    l ∙ (λ i. h i ++ r i) ∙ ap (λ k. take (length b) whole ++ take n (drop k whole)) e ∙ sym (take-add (length b) n whole) ∙ ap (λ k. take k whole) (sym size)

pub still_then : (a b d : Told) → Still a b → Still b d → Still a d
still_then a b d h k =
    record {
      files = k.files ∙ h.files;
      images = λ c im. h.images c (k.images c im);
      calls = k.calls ∙ h.calls;
      time = record { adds = λ l c p. ⊎_elim (λ q. h.time.adds l c q) (λ q. absurd q) (k.time.adds l c p); keeps = λ l c p. k.time.keeps l c (h.time.keeps l c p) };
    }

pub quiet_then : {T E : Type 0} (r : Result T E) (a b d : Told) → Quiet a b → Looked r b d → Quiet a d
quiet_then r a b d h k =
    record {
      still = still_then a b d h.still k.still;
      apart = record { link = k.apart.link ∙ h.apart.link; clock = k.apart.clock ∙ h.apart.clock };
      later = omega (arith, h.later, k.counts.cause.later);
      others = k.counts.others ∙ ap (λ (z : Counts). record z { disk = d.counts.disk }) h.others;
    }
