-- A name that isn't this one is looked up among the others.
use Rattle.std.proofs.Common.{◌≡◌, ℕ, List, Bool, true, false, Option, Some, cond, refl}
use Rattle.std.specs.Prelude.{◌≢◌}
use Rattle.std.specs.Str.{bytes_eq}
use Rattle.std.proofs.lemmas.Slice.Eq.{bytes_eq-Decides}

passed : {A : Type 0} (name other : List ℕ) (x : A) (b : Bool) (r rest : Option A) → bytes_eq name other ≡ b → name ≢ other → r ≡ rest
    → r ≡ cond b (Some x) rest
passed name other x true r rest e n h = absurd (n ((bytes_eq-Decides name other).0 e))
passed name other x false r rest e n h = h

pub passes : {A : Type 0} (name other : List ℕ) (x : A) (r others : Option A) → name ≢ other → r ≡ others
    → r ≡ cond (bytes_eq name other) (Some x) others
passes name other x r others n h = passed name other x (bytes_eq name other) r others refl n h
