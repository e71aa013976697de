-- What an answer is equal to may be exchanged for what that is equal to.
use Rattle.std.proofs.Common.{◌≡◌, subst, IfOk}
use Rattle.std.specs.Prelude.{Result}

pub given : {A E : Type 0} (r : Result A E) (x y : A) → x ≡ y → IfOk r (λ a. a ≡ x) → IfOk r (λ a. a ≡ y)
given r x y e h = subst (λ z. IfOk r (λ a. a ≡ z)) e h
