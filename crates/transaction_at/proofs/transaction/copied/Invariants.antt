use Rattle.std.proofs.Common.{◌≡◌, ◌≤◌, length, take}
use Rattle.std.specs.Vec.{vec_capacity}
use Rattle.transaction_at.specs.Rooms.{room_of}
use Rattle.transaction_at.proofs.transaction.copied.Given as goal

abbrev pub invariant-loop-seat : goal.invariant-loop-seat
invariant-loop-seat l = (l.copy.items ≡ take l.seat-index l.items.items) × (room_of (length l.items.items) ≤ vec_capacity l.copy)
