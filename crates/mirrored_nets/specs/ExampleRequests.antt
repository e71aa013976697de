-- Requests that name eight nodes alone.
use Rattle.std.specs.Prelude.{ℕ, List, ◌≡◌, ◌≤◌, codes}
use Rattle.at_base.specs.declared.event.Local.{Local}
use Rattle.at_base.specs.declared.event.Local.TheVariants as locals
use Rattle.at_model.specs.World.{example_base}

-- the base of one of eight nodes
pub record IsBaseOfEight (base : List ℕ) : Type 0 where
  pub number : ℕ
  pub least : 1 ≤ number
  pub most : number ≤ 8
  pub same : base ≡ example_base number

-- A request that names such nodes alone, with the key and the value of a schedule's work.
abbrev pub IsOfEight : Local → Type 0
IsOfEight (locals.Begin coordinator ms) = IsBaseOfEight coordinator
IsOfEight (locals.Interpose activity coordinator) = IsBaseOfEight coordinator
IsOfEight (locals.Work activity service kind vote key value) = IsBaseOfEight service × (key ≡ codes "k") × (value ≡ codes "v")
IsOfEight (locals.Commit activity) = Unit {0}
IsOfEight (locals.Rollback activity) = Unit {0}
