use Rattle.std.specs.Prelude.{drop, map}
use Rattle.std.specs.List.{AllByRecursion}
use Rattle.world_laws.specs.Events.{event_of}
use Rattle.net_plays.specs.Asks.{CanAskAll, IsBare}
use Rattle.net_plays.specs.Plays.{AllHappen, Play}
use Rattle.net_plays.specs.Stops.{StopsAmong, Why}
use Rattle.net_plays.proofs.play.Play.all_happen.Given as goal

abbrev pub invariant-loop-event : goal.invariant-loop-event
invariant-loop-event l =
    ((last : Play) → AllHappen (map event_of (drop l.event-index l.fn.events)) l.play last → AllHappen (map event_of l.fn.events) l.fn.self last)
    × ((why : Why) → StopsAmong why (map event_of (drop l.event-index l.fn.events)) l.play → StopsAmong why (map event_of l.fn.events) l.fn.self)
    × AllByRecursion IsBare (map event_of (drop l.event-index l.fn.events))
    × CanAskAll l.play.count l.play.world (map event_of (drop l.event-index l.fn.events))
