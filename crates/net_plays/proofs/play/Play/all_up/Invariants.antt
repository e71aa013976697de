use Rattle.std.specs.Prelude.{◌+◌, ◌-◌, ◌≡◌}
use Rattle.net_plays.specs.Plays.{AllHappen, Play, ups_from}
use Rattle.net_plays.specs.Stops.{StopsAmong, Why}
use Rattle.net_plays.proofs.play.Play.all_up.Given as goal

abbrev pub invariant-loop-place : goal.invariant-loop-place
invariant-loop-place l =
    ((last : Play) → AllHappen (ups_from (l.count - l.place) (l.place + 1)) l.play last → AllHappen (ups_from l.count 1) l.fn.self last)
    × ((why : Why) → StopsAmong why (ups_from (l.count - l.place) (l.place + 1)) l.play → StopsAmong why (ups_from l.count 1) l.fn.self)
    × (l.play.count ≡ l.fn.self.count)
