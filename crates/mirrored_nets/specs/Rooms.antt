-- Whether the journal of a node has room for another record.
use Rattle.std.specs.Prelude.{ℕ, List, Some, ◌≡◌}
use Rattle.at_model.specs.World.{nth}
use Rattle.memory_net.specs.declared.host.Host.{Host}
use Rattle.mirrored_nets.specs.Took.{HasRoom, IsFull}

-- that of the node of this number, where there is one
abbrev pub HasRoomAt : ℕ → List Host → Type 0
HasRoomAt i hosts = (h : Host) → nth i hosts ≡ Some h → HasRoom h.site

-- that node is there, and its journal has none
abbrev pub IsFullAt : ℕ → List Host → Type 0
IsFullAt i hosts = (h : Host) × (nth i hosts ≡ Some h) × IsFull h.site
