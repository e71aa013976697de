-- A world on its way to rest, and how many events it had before.
use Rattle.std.specs.Prelude.{ℕ}
use Rattle.model_laws.specs.Settlement.{Settling}

pub record Way : Type 0 where
  pub past : ℕ
  pub settling : Settling
