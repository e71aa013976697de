use Rattle.std.proofs.Common.{◌≡◌, ◌++◌, drop, map}
use Rattle.serde_json.specs.View.{view}
use Rattle.status_pages.specs.Json.{participant_data}
use Rattle.status_pages.proofs.json.participants.Given as goal

abbrev pub invariant-loop-seat : goal.invariant-loop-seat
invariant-loop-seat l = map view l.values.items ++ map participant_data (drop l.seat-index l.seats) ≡ map participant_data l.seats
