-- Which call of an armed machine fails.
use Rattle.std.specs.Prelude.{zero, suc}
use Rattle.site_memory.specs.declared.arm.Choice.{Choice}
use Rattle.site_memory.specs.declared.arm.Choice.TheVariants.{Keep, Drop, Fill}
use Rattle.site_memory.specs.declared.arm.Arm.{Arm}
use Rattle.site_memory.specs.declared.arm.Arm.TheVariants.{Idle, Fail, Stop, Stopped}
use Rattle.site_memory.specs.declared.arm.Fate.{Fate}
use Rattle.site_memory.specs.declared.arm.Fate.TheVariants.{Done, Failed, Refused}

-- the call at which a machine stops is done where what is pending is to land
abbrev pub last_fate : Choice → Fate
last_fate Keep = Done
last_fate Drop = Failed
last_fate (Fill b) = Failed

-- the call that comes now; a machine that has stopped does nothing at all
abbrev pub fate_of : Arm → Fate
fate_of Idle = Done
fate_of (Fail zero) = Done
fate_of (Fail (suc zero)) = Failed
fate_of (Fail (suc (suc k))) = Done
fate_of (Stop zero choice) = Done
fate_of (Stop (suc zero) choice) = last_fate choice
fate_of (Stop (suc (suc k)) choice) = Done
fate_of Stopped = Refused

-- behind that call
abbrev pub next_of : Arm → Arm
next_of Idle = Idle
next_of (Fail zero) = Idle
next_of (Fail (suc zero)) = Idle
next_of (Fail (suc (suc k))) = Fail (suc k)
next_of (Stop zero choice) = Idle
next_of (Stop (suc zero) choice) = Stopped
next_of (Stop (suc (suc k)) choice) = Stop (suc k) choice
next_of Stopped = Stopped

-- a machine that has stopped isn't armed any more
abbrev pub armed : Arm → Arm → Arm
armed arm Idle = arm
armed arm (Fail k) = arm
armed arm (Stop k choice) = arm
armed arm Stopped = Stopped
