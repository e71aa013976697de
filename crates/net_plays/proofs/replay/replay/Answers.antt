use Rattle.std.proofs.Common.{subst, sym}
use Rattle.net_plays.specs.NetReports.{IsNetReport}
use Rattle.net_plays.proofs.ReportedPlays.{is_report}
use Rattle.net_plays.proofs.replay.replay.Goals as goal

pub returns-clause-report : goal.returns-clause-report
returns-clause-report c =
    subst (IsNetReport c.args.options c.args.schedule.now c.in_ok-replayed.replayed.lines) (sym c.in_ok-replayed.ensures.net)
    (is_report (record {
      moves = c.changes_by_moves.ensures;
      closes = c.stays_closed.ensures;
      bring = c.events_bring.ensures;
      apart = c.examples_are_apart.ensures;
      agrees = c.agrees.ensures;
      superior = c.enlists_under_one.ensures;
      made = c.makes_no_id_twice.ensures;
      settles = c.settles.ensures;
    }) c.args.options c.args.schedule.now c.in_ok-replayed.replayed.lines c.in_ok-play.play c.requires.replayable c.in_ok-play.ensures.done c.is_played.ensures c.in_ok-replayed.ensures.lines c.in_ok-replayed.ensures.few)
