-- A call of a node's device that a schedule arms: a write or a sync of its files, an answer or a post, counted from when it is armed.
use Rattle.std.specs.Prelude.{ℕ, [], Option, Some, None, zero, suc}
use Rattle.at_model.specs.World.{WorldEvent, Turn, Raw}
use Rattle.armed_calls.specs.declared.fault.Armed.{Armed}

-- so many calls stand up to and with the armed one, or it came
abbrev pub still_armed : Armed → ℕ → Option Armed
still_armed a zero = None
still_armed a (suc k) = Some (record a { call = suc k })

-- Raw bytes come to a node.
abbrev pub raw_at : ℕ → WorldEvent
raw_at n = Turn n Raw [] None
