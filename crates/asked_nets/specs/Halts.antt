-- Whether a call of a node halted it.
use Rattle.std.specs.Prelude.{Bool, true, false}
use Rattle.node_at.specs.declared.local.Locally.{Locally}
use Rattle.node_at.specs.declared.local.Locally.TheVariants as answers
use Rattle.node_at.specs.declared.turn.Turned.{Turned}
use Rattle.node_at.specs.declared.turn.Turned.TheVariants as turneds

abbrev pub halts : Turned → Bool
halts (turneds.Served status) = false
halts turneds.Ticked = false
halts turneds.Closed = false
halts turneds.NoRoom = false
halts turneds.Halted = true
halts turneds.LinkDown = false

abbrev pub halts_locally : Locally → Bool
halts_locally (answers.Done id) = false
halts_locally (answers.Refused why) = false
halts_locally answers.NoRoom = false
halts_locally answers.Halted = true
