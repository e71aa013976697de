use Rattle.std.specs.Prelude.{◌<◌, length}
use Rattle.std.proofs.Common.{arith, inl, refl, rules, ◌≡◌}
use Rattle.net_plays.proofs.AskedLines.{asked_here, asked_next}
use Rattle.net_plays.proofs.PlayedEvents.{happen_next}
use Rattle.net_plays.specs.Stops.Why.{HasMany, IsFull}
use Rattle.net_plays.specs.declared.play_error.PlayError.TheVariants.{Full, TooManyEvents}
use Rattle.net_plays.proofs.StoppedPlays.{happen_stops, happen_stops_next}
use Rattle.net_plays.proofs.play.Play.all_happen.Goals as goal

pub loop-event-preserved : goal.loop-event-preserved
loop-event-preserved c =
    let within : c.loop-event.event-index < length c.args.events.now = omega arith in
    let next = asked_next c.args.events.now c.loop-event.event-index c.event-item.result _ c.loop-event.play c.in_ok-play.play within c.event-item.is c.in_ok-play.ensures.done
    c.loop-event.invariant.2 c.loop-event.invariant.3 in (
      happen_next c.args.events.now c.loop-event.event-index c.event-item.result _ c.args.self c.loop-event.play c.in_ok-play.play within c.event-item.is c.in_ok-play.ensures.done c.loop-event.invariant.0,
      λ why. happen_stops_next why c.args.events.now c.loop-event.event-index c.event-item.result _ c.args.self c.loop-event.play c.in_ok-play.play within c.event-item.is c.in_ok-play.ensures.done
          (c.loop-event.invariant.1 why),
      next.0,
      next.1,
    )

pub happen-requires-clause-can : goal.happen-requires-clause-can
happen-requires-clause-can c =
    let within : c.loop-event.event-index < length c.args.events.now = omega arith in
    asked_here c.args.events.now c.loop-event.event-index c.event-item.result _ c.loop-event.play within c.event-item.is c.loop-event.invariant.3

pub happen-requires-clause-behind : goal.happen-requires-clause-behind
happen-requires-clause-behind c = inl refl

pub returns-in_err-play-clause-full : goal.returns-in_err-play-clause-full
returns-in_err-play-clause-full c =
    let within : c.loop-event.event-index < length c.args.events.now = omega arith in
    let stops = λ (is : c.in_err-play.field-0.0 ≡ Full).
    happen_stops IsFull c.args.events.now c.loop-event.event-index c.event-item.result _ c.args.self c.loop-event.play within c.event-item.is (c.loop-event.invariant.1 IsFull) (c.in_err-play.ensures.full is) in
    search rules

pub returns-in_err-play-clause-many : goal.returns-in_err-play-clause-many
returns-in_err-play-clause-many c =
    let within : c.loop-event.event-index < length c.args.events.now = omega arith in
    let stops = λ (is : c.in_err-play.field-0.0 ≡ TooManyEvents).
    happen_stops HasMany c.args.events.now c.loop-event.event-index c.event-item.result _ c.args.self c.loop-event.play within c.event-item.is (c.loop-event.invariant.1 HasMany) (c.in_err-play.ensures.many is) in
    search rules
