use Rattle.std.specs.Prelude.{◌<◌, length}
use Rattle.std.proofs.Common.{arith, rules, ◌≡◌}
use Rattle.net_plays.proofs.AskedLines.{line_on, line_within}
use Rattle.net_plays.proofs.PlayedEvents.{take_next}
use Rattle.net_plays.specs.Stops.Why.{HasMany, IsFull}
use Rattle.net_plays.specs.declared.play_error.PlayError.TheVariants.{Full, TooManyEvents}
use Rattle.net_plays.proofs.StoppedPlays.{take_stops, take_stops_next}
use Rattle.net_plays.proofs.lines.take_lines.Goals as goal

pub loop-line-preserved : goal.loop-line-preserved
loop-line-preserved c =
    let within : c.loop-line.line-index < length c.args.lines.now = omega arith in
    let on = line_on c.line-item.result c.args.play.count c.loop-line.play c.in_ok-play.play c.in_ok-play.ensures.done c.loop-line.invariant.2 c.loop-line.invariant.3 in (
      take_next c.args.lines.now c.loop-line.line-index c.line-item.result _ c.args.play c.loop-line.play c.in_ok-play.play within c.line-item.is c.in_ok-play.ensures.done c.loop-line.invariant.0,
      λ why. take_stops_next why c.args.lines.now c.loop-line.line-index c.line-item.result _ c.args.play c.loop-line.play c.in_ok-play.play within c.line-item.is c.in_ok-play.ensures.done
          (c.loop-line.invariant.1 why),
      on.0,
      on.1,
    )

pub take_line-requires-clause-within : goal.take_line-requires-clause-within
take_line-requires-clause-within c =
    let within : c.loop-line.line-index < length c.args.lines.now = omega arith in
    line_within c.args.lines.now c.loop-line.line-index c.line-item.result _ c.loop-line.play.count c.args.play.count within c.line-item.is c.loop-line.invariant.2 c.requires.within

pub take_line-requires-clause-begun : goal.take_line-requires-clause-begun
take_line-requires-clause-begun c = c.loop-line.invariant.3

pub returns-in_err-play-clause-full : goal.returns-in_err-play-clause-full
returns-in_err-play-clause-full c =
    let within : c.loop-line.line-index < length c.args.lines.now = omega arith in
    let stops = λ (is : c.in_err-play.field-0.0 ≡ Full).
    take_stops IsFull c.args.lines.now c.loop-line.line-index c.line-item.result _ c.args.play c.loop-line.play within c.line-item.is (c.loop-line.invariant.1 IsFull) (c.in_err-play.ensures.full is) in
    search rules

pub returns-in_err-play-clause-many : goal.returns-in_err-play-clause-many
returns-in_err-play-clause-many c =
    let within : c.loop-line.line-index < length c.args.lines.now = omega arith in
    let stops = λ (is : c.in_err-play.field-0.0 ≡ TooManyEvents).
    take_stops HasMany c.args.lines.now c.loop-line.line-index c.line-item.result _ c.args.play c.loop-line.play within c.line-item.is (c.loop-line.invariant.1 HasMany) (c.in_err-play.ensures.many is) in
    search rules
