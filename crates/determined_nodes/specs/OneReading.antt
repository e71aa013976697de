-- The calls of an event are read in one way.
use Rattle.std.specs.Prelude.{ℕ, List, Bool, Option, Result, ◌≡◌}
use Rattle.call_readings.specs.Reads.{Reads, ReadsRequest, ReadsTurn, is_halted}
use Rattle.call_readings.specs.ReadsStart.{StartsAs}
use Rattle.call_readings.specs.declared.became.Became.{Became}
use Rattle.mirrored_nets.specs.declared.armed.Armed.{Armed}
use Rattle.node_at.specs.declared.fault.StartFault.{StartFault}
use Rattle.node_at.specs.declared.local.Locally.{Locally}
use Rattle.node_at.specs.declared.node.Node.{Node}
use Rattle.node_at.specs.declared.turn.Turned.{Turned}
use Rattle.site_model.specs.Told.{Made}
use Rattle.determined_nodes.specs.StartsAreDetermined.{StartAlike}

-- Where its node halted in both or in neither, they came to the same; and so it is of a turn that came to this, and of a request.
pub record EventsHaveOneReading : Type 0 where
  pub reads : (armed : Armed) (lines : ℕ) (made : List Made) (b c : Became) (f g : List Bool) (u v : Option ℕ) → Reads armed lines made b f u → Reads armed lines made c g v → is_halted b ≡ is_halted c → (b ≡ c) × (f ≡ g) × (u ≡ v)
  pub turns : (armed : Armed) (lines : ℕ) (made : List Made) (r : Turned) (h k : ReadsTurn armed lines made r) → (h.became ≡ k.became) × (h.fates ≡ k.fates) × (h.until ≡ k.until)
  pub requests : (armed : Armed) (made : List Made) (r : Locally) (h k : ReadsRequest armed made r) → (h.became ≡ k.became) × (h.fates ≡ k.fates) × (h.until ≡ k.until)
  -- of starts that came up both, or both failed
  pub starts : (armed : Armed) (made : List Made) (r s : Result Node StartFault) (b c : Became) (landed other stop also : Bool) → StartsAs armed made r b landed stop → StartsAs armed made s c other also → StartAlike r s
      → (b ≡ c) × (landed ≡ other) × (stop ≡ also)
