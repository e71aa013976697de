use Rattle.std.proofs.Common.{◌≡◌, ◌-◌, length, take}
use Rattle.site_model.specs.Told.{Files, Is, file_of}
use Rattle.journal_at.specs.Loads.{Quiet}
use Rattle.journal_at.proofs.load.fetch.Given as goal

abbrev pub invariant-loop-buf : goal.invariant-loop-buf
invariant-loop-buf g l = record {
  size : (f : Files) → Is (g.S.Site.told l.fn.site).files f → l.size ≡ length (file_of l.file f);
  bytes : (f : Files) → Is (g.S.Site.told l.fn.site).files f → l.bytes.items ≡ take (length l.bytes.items) (file_of l.file f);
  quiet : Quiet (g.S.Site.told l.fn.site) (g.S.Site.told l.site);
}

abbrev pub decreases-loop-buf : goal.decreases-loop-buf
decreases-loop-buf g l = l.size - length l.bytes.items
