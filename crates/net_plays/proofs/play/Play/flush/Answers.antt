use Rattle.std.proofs.Common.{rules, subst, sym, ◌≡◌}
use Rattle.net_plays.specs.PlayedLines.{Delivers, Flushes}
use Rattle.net_plays.specs.Plays.{HasBegun}
use Rattle.net_plays.proofs.AskedLines.{delivery_on}
use Rattle.net_plays.proofs.PlayedEvents.{flush_next, flush_none}
use Rattle.net_plays.specs.Stops.Why.{HasMany, IsFull}
use Rattle.net_plays.specs.declared.play_error.PlayError.TheVariants.{Full, TooManyEvents}
use Rattle.net_plays.proofs.StoppedPlays.{flush_stops, flush_stops_next}
use Rattle.net_plays.proofs.play.Play.flush.Goals as goal

pub returns-in_default-clause-done : goal.returns-in_default-clause-done
returns-in_default-clause-done c =
    subst (Flushes c.args.most c.args.self) (sym c.in_default.ensures.kept) (flush_none c.args.most c.loop-time._time c.args.self c.loop-time.play c.in_default.ensures.lowest c.loop-time.invariant.0)

pub loop-time-preserved : goal.loop-time-preserved
loop-time-preserved c = (
  flush_next c.args.most c.loop-time._time c.in-Some.number c.args.self c.loop-time.play c.in_ok-play.play c.loop-time-test.true c.in-Some.ensures.lowest
      (subst (λ p. Delivers c.in-Some.number p c.in_ok-play.play) c.in-Some.ensures.kept c.in_ok-play.ensures.done) c.loop-time.invariant.0,
  λ why. flush_stops_next why c.args.most c.loop-time._time c.in-Some.number c.args.self c.loop-time.play _ c.in_ok-play.play c.loop-time-test.true c.in-Some.ensures.lowest c.in-Some.ensures.kept
      c.in_ok-play.ensures.done (c.loop-time.invariant.1 why),
  delivery_on c.in-Some.number _ c.loop-time.play c.in_ok-play.play c.in-Some.ensures.kept c.in_ok-play.ensures.done c.loop-time.invariant.2,
)

pub deliver-requires : goal.deliver-requires
deliver-requires c = subst HasBegun (sym c.in-Some.ensures.kept) c.loop-time.invariant.2

pub returns-in_err-play-clause-full : goal.returns-in_err-play-clause-full
returns-in_err-play-clause-full c =
    let stops = λ (is : c.in_err-play.field-0.0 ≡ Full).
    c.loop-time.invariant.1 IsFull (flush_stops IsFull c.args.most c.loop-time._time c.in-Some.number c.args.self c.loop-time.play _ c.loop-time-test.true c.in-Some.ensures.lowest c.in-Some.ensures.kept
    (c.in_err-play.ensures.full is)) in
    search rules

pub returns-in_err-play-clause-many : goal.returns-in_err-play-clause-many
returns-in_err-play-clause-many c =
    let stops = λ (is : c.in_err-play.field-0.0 ≡ TooManyEvents).
    c.loop-time.invariant.1 HasMany (flush_stops HasMany c.args.most c.loop-time._time c.in-Some.number c.args.self c.loop-time.play _ c.loop-time-test.true c.in-Some.ensures.lowest c.in-Some.ensures.kept
    (c.in_err-play.ensures.many is)) in
    search rules
