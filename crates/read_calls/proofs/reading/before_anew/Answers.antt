use Rattle.read_calls.proofs.EntryRows.{before_is}
use Rattle.read_calls.proofs.reading.before_anew.Goals as goal

pub returns : goal.returns
returns c = before_is c.args.lines c.saturating_sub.result c.args.calls.now c.behind.result.now c.anew.result.now c.behind.ensures c.anew.ensures c.saturating_sub.ensures
