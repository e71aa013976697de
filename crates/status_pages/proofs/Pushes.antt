-- What was pushed, put together.
use Rattle.std.proofs.Common.{◌≡◌, List, ℕ, ◌++◌, ◌∙◌, Ok, Err, OnOk, Result, ap}

pub then_is : {T E : Type 0} (r : Result T E) (new old added all : List ℕ) → OnOk r (new ≡ old ++ added) → added ≡ all → OnOk r (new ≡ old ++ all)
then_is (Ok x) new old added all h e = h ∙ ap (λ z. old ++ z) e
then_is (Err x) new old added all h e = tt
