use Rattle.std.specs.Prelude.{◌+◌, None, []}
use Rattle.std.proofs.Common.{inl, refl, rules, subst, ◌≡◌, ◌∙◌}
use Rattle.at_model.specs.Views.{up}
use Rattle.world_laws.specs.Events.{event_of}
use Rattle.net_plays.specs.Plays.{Happens}
use Rattle.net_plays.proofs.AskedLines.{up_can}
use Rattle.net_plays.proofs.PlayedEvents.{ups_next}
use Rattle.net_plays.specs.Stops.{Stops}
use Rattle.net_plays.specs.Stops.Why.{HasMany, IsFull}
use Rattle.net_plays.specs.declared.play_error.PlayError.TheVariants.{Full, TooManyEvents}
use Rattle.net_plays.proofs.StoppedPlays.{ups_stop, ups_stop_next}
use Rattle.net_plays.proofs.play.Play.all_up.Goals as goal

pub loop-place-preserved : goal.loop-place-preserved
loop-place-preserved c =
    let first : Happens None (up (c.loop-place.place + 1)) [] 0 c.loop-place.play c.in_ok-play.play =
    subst (λ e. Happens None e [] 0 c.loop-place.play c.in_ok-play.play) c.coming_up.ensures c.in_ok-play.ensures.done in (
      ups_next c.args.count c.loop-place.place c.args.self c.in_ok-play.play c.loop-place.play c.loop-place-test.true first c.loop-place.invariant.0,
      λ why. ups_stop_next why c.args.count c.loop-place.place c.args.self c.loop-place.play c.in_ok-play.play c.loop-place-test.true first (c.loop-place.invariant.1 why),
      first.count ∙ c.loop-place.invariant.2,
    )

pub happen-requires-clause-can : goal.happen-requires-clause-can
happen-requires-clause-can c =
    up_can c.args.count c.loop-place.place c.args.self c.loop-place.play (event_of c.coming_up.result) c.loop-place-test.true c.requires c.loop-place.invariant.2 c.coming_up.ensures

pub happen-requires-clause-behind : goal.happen-requires-clause-behind
happen-requires-clause-behind c = inl refl

pub returns-in_err-play-clause-full : goal.returns-in_err-play-clause-full
returns-in_err-play-clause-full c =
    let stops = λ (is : c.in_err-play.field-0.0 ≡ Full).
    ups_stop IsFull c.args.count c.loop-place.place c.args.self c.loop-place.play c.loop-place-test.true (c.loop-place.invariant.1 IsFull)
    (subst (λ x. Stops IsFull None x [] c.loop-place.play) c.coming_up.ensures (c.in_err-play.ensures.full is)) in
    search rules

pub returns-in_err-play-clause-many : goal.returns-in_err-play-clause-many
returns-in_err-play-clause-many c =
    let stops = λ (is : c.in_err-play.field-0.0 ≡ TooManyEvents).
    ups_stop HasMany c.args.count c.loop-place.place c.args.self c.loop-place.play c.loop-place-test.true (c.loop-place.invariant.1 HasMany)
    (subst (λ x. Stops HasMany None x [] c.loop-place.play) c.coming_up.ensures (c.in_err-play.ensures.many is)) in
    search rules
