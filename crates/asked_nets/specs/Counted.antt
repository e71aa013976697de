-- What a machine has counted.
use Rattle.std.specs.Prelude.{◌≡◌, length}
use Rattle.site_memory.specs.Devices.{calls_in}
use Rattle.site_memory.specs.declared.machine.MemSite.{MemSite}
use Rattle.asked_nets.specs.declared.made.Counts.{Counts}

pub record IsCounted (counts : Counts) (s : MemSite) : Type 0 where
  pub calls : counts.calls ≡ length (calls_in s.device)
  pub sends : counts.sends ≡ s.tally.link
  pub disk : counts.disk ≡ s.tally.disk
  pub gates : counts.gates ≡ s.tally.gate
