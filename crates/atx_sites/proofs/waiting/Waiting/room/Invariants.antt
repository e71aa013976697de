use Rattle.std.proofs.Common.{◌≡◌, ◌-◌, ◌^◌, min, take}
use Rattle.std.specs.List.{sum_by}
use Rattle.atx_sites.specs.Arrivals.{size_of}
use Rattle.atx_sites.proofs.waiting.Waiting.room.Given as goal

abbrev pub invariant-places : goal.invariant-places
invariant-places g l = l.bytes ≡ min (sum_by size_of (take l.place l.self.arriving.items)) (2 ^ 64 - 1)
