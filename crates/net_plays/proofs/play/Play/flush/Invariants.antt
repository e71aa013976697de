use Rattle.std.specs.Prelude.{◌-◌}
use Rattle.net_plays.specs.PlayedLines.{Flushes}
use Rattle.net_plays.specs.Plays.{HasBegun, Play}
use Rattle.net_plays.specs.Stops.{StopsFlush, Why}
use Rattle.net_plays.proofs.play.Play.flush.Given as goal

abbrev pub invariant-loop-time : goal.invariant-loop-time
invariant-loop-time l =
    ((last : Play) → Flushes (l.most - l._time) l.play last → Flushes l.most l.fn.self last) × ((why : Why) → StopsFlush why (l.most - l._time) l.play → StopsFlush why l.most l.fn.self)
    × HasBegun l.play
