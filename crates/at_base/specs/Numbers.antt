-- The two numbers of an id, as contracts see it.
use Rattle.std.specs.Prelude.{ℕ}

pub record Numbers : Type 0 where
  pub incarnation : ℕ
  pub counter : ℕ
