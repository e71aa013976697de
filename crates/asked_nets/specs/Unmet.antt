-- Where something was missing, it was memory.
use Rattle.std.specs.Prelude.{Result, ◌≡◌, IfErr}
use Rattle.asked_nets.specs.declared.fault.Undone.{Undone}
use Rattle.asked_nets.specs.declared.fault.Undone.TheVariants.{Apart}

abbrev pub IsntApart : {A : Type 0} → Result A Undone → Type 0
IsntApart result = IfErr result (λ fault. fault ≡ Apart → ⊥)
