-- Message ids of names that are equal.
use Rattle.std.proofs.Common.{ℕ, List, ◌≡◌, IfOk, subst}
use Rattle.std.specs.Prelude.{Result}
use Rattle.at_base.specs.MessageId.{message_id_of}

-- A message id of a name is one of the name that it is equal to.
pub renamed :
    {E : Type 0} (r : Result (List ℕ) E) (a b : List ℕ) → a ≡ b → IfOk r (λ t. t ≡ message_id_of a)
    → IfOk r (λ t. t ≡ message_id_of b)
renamed r a b e h = subst (λ n. IfOk r (λ t. t ≡ message_id_of n)) e h
