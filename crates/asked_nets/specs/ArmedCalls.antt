-- The call of a node that a schedule arms, as that of its machine.
use Rattle.std.specs.Prelude.{ℕ, Option, None, Some}
use Rattle.armed_calls.specs.declared.fault.Armed.{Armed as Known}
use Rattle.armed_calls.specs.declared.fault.Fault.{Fault}
use Rattle.armed_calls.specs.declared.fault.Fault.TheVariants as faults
use Rattle.schedules.specs.declared.line.Leaves.{Leaves}
use Rattle.schedules.specs.declared.line.Leaves.TheVariants as leaves
use Rattle.site_memory.specs.declared.arm.Choice.{Choice}
use Rattle.site_memory.specs.declared.arm.Choice.TheVariants as choices
use Rattle.mirrored_nets.specs.declared.armed.Armed.{Armed}
use Rattle.mirrored_nets.specs.declared.armed.Armed.TheVariants as calls

-- what a stop leaves
abbrev pub choice_of : Leaves → Choice
choice_of leaves.Keep = choices.Keep
choice_of leaves.Drop = choices.Drop
choice_of (leaves.Fill byte) = choices.Fill byte

abbrev pub fault_at : ℕ → Fault → Armed
fault_at k faults.Fail = calls.Fail k
fault_at k (faults.Stop left) = calls.Stop k (choice_of left)

abbrev pub call_of : Option Known → Armed
call_of None = calls.No
call_of (Some a) = fault_at a.call a.fault
