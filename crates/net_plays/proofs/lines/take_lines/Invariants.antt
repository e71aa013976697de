use Rattle.std.specs.Prelude.{◌≡◌, drop}
use Rattle.net_plays.specs.PlayedLines.{TakesAll}
use Rattle.net_plays.specs.Plays.{HasBegun, Play}
use Rattle.net_plays.specs.Stops.{StopsInLines, Why}
use Rattle.net_plays.proofs.lines.take_lines.Given as goal

abbrev pub invariant-loop-line : goal.invariant-loop-line
invariant-loop-line l =
    ((last : Play) → TakesAll (drop l.line-index l.fn.lines) l.play last → TakesAll l.fn.lines l.fn.play last)
    × ((why : Why) → StopsInLines why (drop l.line-index l.fn.lines) l.play → StopsInLines why l.fn.lines l.fn.play)
    × (l.play.count ≡ l.fn.play.count)
    × HasBegun l.play
