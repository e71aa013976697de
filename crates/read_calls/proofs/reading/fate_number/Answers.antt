use Rattle.std.proofs.Common.{arith, sym, ◌+◌, ◌-◌, ◌≡◌, ◌∙◌, suc}
use Rattle.site_memory.specs.Entries.{mades}
use Rattle.site_memory.specs.declared.arm.Choice.TheVariants.{Keep}
use Rattle.read_calls.proofs.EntryRows.{none_is, some_is}
use Rattle.read_calls.proofs.OneReading.{none_number, some_number}
use Rattle.read_calls.proofs.reading.fate_number.Goals as goal

pub returns-then-disk_calls-eq0 : goal.returns-then-disk_calls-eq0
returns-then-disk_calls-eq0 c =
    sym
    (none_number c.args.lines (mades c.args.calls.now) c.args.k Keep (omega arith)
    (none_is c.args.lines c.args.calls.now c.behind.result.now c.behind.ensures c.disk_calls.result c.disk_calls.ensures.disk c.disk_calls.ensures.within (omega arith)))

pub returns : goal.returns
returns c =
    let e = c.saturating_sub.ensures in
    let same : c.saturating_sub.result + 1 ≡ suc (c.args.k - c.args.lines - 4) = omega (arith, e) in
    same
    ∙ sym
    (some_number c.args.lines (mades c.args.calls.now) c.args.k Keep (omega arith)
    (some_is c.args.lines c.args.calls.now c.behind.result.now c.behind.ensures c.disk_calls.result c.disk_calls.ensures.disk c.disk_calls.ensures.within (omega arith)))
