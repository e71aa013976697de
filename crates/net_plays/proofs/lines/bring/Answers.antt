use Rattle.std.proofs.Common.{rules}
use Rattle.net_plays.proofs.StoppedPlays.{brings_refused}
use Rattle.net_plays.proofs.lines.bring.Goals as goal

pub returns-in-Refused-clause-done : goal.returns-in-Refused-clause-done
returns-in-Refused-clause-done c =
    brings_refused c.args.bytes.now c.args.node c.in-Refused.status c.in-Refused._waits _ _ c.args.play c.happen.result (search rules) c.armed_at-armed.ensures c.turn.ensures c.happen.ensures.done
