-- A journal with a Start has an incarnation.
use Rattle.std.proofs.Common.{ℕ, List, [], ◌∷◌, ◌++◌, ◌≤◌, arith}
use Rattle.at_base.specs.declared.record.Record.{Record}
use Rattle.at_base.specs.declared.record.Record.TheVariants as records
use Rattle.at_model.specs.Recovery.{last_incarnation}

pub started_some : (n : ℕ) (rs : List Record) → 1 ≤ n → 1 ≤ last_incarnation (rs ++ records.Start n ∷ [])
started_some n [] h = omega (arith, h)
started_some n (r ∷ rs) h = omega (arith, started_some n rs h)
