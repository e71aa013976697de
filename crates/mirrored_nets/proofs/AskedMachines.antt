-- A machine behind a request of its node.
use Rattle.std.specs.Prelude.{◌≡◌}
use Rattle.std.proofs.Common.{ap}
use Rattle.at_base.specs.declared.event.Local.{Local}
use Rattle.memory_net.specs.Calls.{Requests}
use Rattle.node_at.specs.declared.local.Locally.{Locally}
use Rattle.node_at.specs.declared.node.Node.{Node}
use Rattle.site_memory.specs.Sites.{told_of}
use Rattle.site_memory.specs.declared.machine.MemSite.{MemSite}
use Rattle.site_model.specs.Site.{Counts}

-- what it was told stays
pub request_kept : (request : Local) (answer : Locally) (n m : Node) (old new : MemSite) → Requests request answer n m old new → (told_of new).counts.arming ≡ (told_of old).counts.arming
request_kept request answer n m old new h = ap (λ (k : Counts). k.arming) h.counted.others
