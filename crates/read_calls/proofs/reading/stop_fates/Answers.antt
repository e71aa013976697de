use Rattle.std.proofs.Common.{ap, arith, subst, ◌-◌, ◌≤◌, ◌∙◌}
use Rattle.node_events.specs.NodeEvents.{struck}
use Rattle.site_memory.specs.Entries.{mades}
use Rattle.read_calls.proofs.OneReading.{one_at}
use Rattle.read_calls.proofs.reading.stop_fates.Goals as goal

pub returns : goal.returns
returns c = λ fates falls.
    ap (λ n. struck (n - 1) c.last_fate.result) c.fate_number-number.ensures
    ∙ one_at c.args.lines (mades c.args.calls.now) c.args.k c.args.choice fates c.last_fate.result (subst (λ n. 1 ≤ n) c.fate_number-number.ensures (omega arith))
    (λ before l at kept. c.last_fate.ensures before l at kept) falls
