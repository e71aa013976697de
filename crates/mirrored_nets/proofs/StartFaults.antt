-- A start at one of whose calls a fault comes, on a machine whose files are of version 2.
use Rattle.std.specs.Prelude.{ℕ, Ok, Err, Result}
use Rattle.std.proofs.Common.{subst}
use Rattle.mirrored_nets.specs.TookStart.{MayBeStruck}
use Rattle.node_at.specs.declared.fault.StartFault.{StartFault}
use Rattle.node_at.specs.declared.fault.StartFault.TheVariants as starts
use Rattle.node_at.specs.declared.node.Node.{Node}
use Rattle.site_memory.specs.Devices.{calls_in, opening_in}
use Rattle.site_memory.specs.Disk.{Image}
use Rattle.site_memory.specs.declared.machine.MemSite.{MemSite}
use Rattle.mirrored_nets.specs.Goings.{IsSet}
use Rattle.mirrored_nets.specs.LeftStarts.{IsBegun, IsMarked}
use Rattle.mirrored_nets.specs.declared.armed.Armed.{Armed}
use Rattle.mirrored_nets.specs.declared.armed.Armed.TheVariants as calls

-- the machine when it is set for it
pub same_marked : (now last : ℕ) (site old : MemSite) → IsSet now site old → IsMarked last site → IsMarked last old
same_marked now last site old set K = record {
  stands = λ c im. K.stands c (subst (λ l. Image (opening_in site.device) l c) set.calls (subst (λ o. Image o (calls_in old.device) c) set.opening im));
}

-- a start that ended so was done, or the disk failed
pub may_be_struck : (armed : Armed) (r : Result Node StartFault) → IsBegun armed r → MayBeStruck r
may_be_struck armed (Ok n) h = tt
may_be_struck armed (Err starts.NoMemory) h = absurd cc
may_be_struck armed (Err starts.Disk) h = tt
may_be_struck armed (Err (starts.Bad file place)) h = absurd cc
may_be_struck armed (Err starts.NoJournal) h = absurd cc
may_be_struck armed (Err starts.Spent) h = absurd cc
may_be_struck armed (Err starts.Full) h = absurd cc
