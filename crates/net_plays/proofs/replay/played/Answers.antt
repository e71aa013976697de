use Rattle.std.proofs.Common.{ap, rules, subst, ◌≡◌, ◌∙◌}
use Rattle.replay_cmd.specs.ReportOf.{nodes_of}
use Rattle.net_plays.specs.PlayedLines.{TakesAll}
use Rattle.net_plays.specs.Stops.Why.{HasMany, IsFull}
use Rattle.net_plays.specs.declared.play_error.PlayError.TheVariants.{Full, TooManyEvents}
use Rattle.net_plays.proofs.StoppedPlays.{none_rested}
use Rattle.net_plays.proofs.replay.played.Goals as goal

pub returns-in_err-end-clause-full : goal.returns-in_err-end-clause-full
returns-in_err-end-clause-full c =
    let stops = λ (is : c.in_err-end.field-0.0 ≡ Full).
    none_rested IsFull c.args.settle c.args.schedule.now c.nodes_of.result c.in_ok-play.play c.in_ok-last.last (c.nodes_of.ensures ∙ ap nodes_of c.as_slice-lines.ensures) c.in_ok-play.ensures.done
    (subst (λ ls. TakesAll ls c.in_ok-play.play c.in_ok-last.last) c.as_slice-lines.ensures c.in_ok-last.ensures.done) (c.in_err-end.ensures.full is) in
    search rules

pub returns-in_err-end-clause-many : goal.returns-in_err-end-clause-many
returns-in_err-end-clause-many c =
    let stops = λ (is : c.in_err-end.field-0.0 ≡ TooManyEvents).
    none_rested HasMany c.args.settle c.args.schedule.now c.nodes_of.result c.in_ok-play.play c.in_ok-last.last (c.nodes_of.ensures ∙ ap nodes_of c.as_slice-lines.ensures) c.in_ok-play.ensures.done
    (subst (λ ls. TakesAll ls c.in_ok-play.play c.in_ok-last.last) c.as_slice-lines.ensures c.in_ok-last.ensures.done) (c.in_err-end.ensures.many is) in
    search rules
