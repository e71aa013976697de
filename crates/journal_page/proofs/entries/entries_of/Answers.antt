use Rattle.journal_page.proofs.ReadEntries.{one_more}
use Rattle.journal_page.proofs.entries.entries_of.Goals as goal

pub loop-placed-preserved : goal.loop-placed-preserved
loop-placed-preserved c =
    one_more c.version-version.result c.items-items.result.now c.loop-placed.placed-index c.placed-item.result c.placed-item.result c.body.result.now c.loop-placed.entries.items
    c.push_entry.new.entries.items c.in_ok-entry.entry c.loop-placed-test.true c.placed-item.is c.body.ensures c.in_ok-entry.ensures c.in_ok-push_entry.ensures c.loop-placed.invariant
