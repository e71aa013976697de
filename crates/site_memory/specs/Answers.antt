-- How a call is answered.
use Rattle.std.specs.Prelude.{Result, Ok, Err}
use Rattle.site_memory.specs.declared.entry.Noted.{Noted}
use Rattle.site_memory.specs.declared.entry.Noted.TheVariants.{Done, Failed, Not}

-- it is Ok exactly where the call was done
abbrev pub Says : {T E : Type 0} → Noted → Result T E → Type 0
Says Done (Ok x) = Unit {0}
Says Done (Err e) = ⊥
Says Failed (Ok x) = ⊥
Says Failed (Err e) = Unit {0}
Says Not (Ok x) = ⊥
Says Not (Err e) = Unit {0}
