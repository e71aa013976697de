-- Whether a token is of one of two kinds.
use Rattle.std.proofs.Common.{◌≡◌, inl, inr, ap}
use Rattle.at_base.specs.Numbers.{Numbers}
use Rattle.decision_log.specs.declared.ready.Leave.TheVariants as leaves
use Rattle.decision_log.specs.declared.token.What.{What}
use Rattle.decision_log.specs.OutConditions.{IsLeaveOf}
use Rattle.decision_log.specs.Tokens.{Token}

pub of_one : (t : Token) (id : Numbers) (one other : What) → t ≡ record { id = id; what = one } → IsLeaveOf (leaves.Record id one other) t
of_one t id one other e = ((ap (λ (u : Token). u.id) e), inl (ap (λ (u : Token). u.what) e))

pub of_other : (t : Token) (id : Numbers) (one other : What) → t ≡ record { id = id; what = other } → IsLeaveOf (leaves.Record id one other) t
of_other t id one other e = ((ap (λ (u : Token). u.id) e), inr (ap (λ (u : Token). u.what) e))

pub of_neither : (t : Token) (id : Numbers) (one other : What) → (t ≡ record { id = id; what = one } → ⊥) → (t ≡ record { id = id; what = other } → ⊥) → IsLeaveOf (leaves.Record id one other) t → ⊥
of_neither t id one other h k (e, inl f) = h (λ i. record { id = e i; what = f i })
of_neither t id one other h k (e, inr f) = k (λ i. record { id = e i; what = f i })
