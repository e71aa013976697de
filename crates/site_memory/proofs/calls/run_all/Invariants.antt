use Rattle.std.proofs.Common.{◌≡◌, drop}
use Rattle.site_memory.specs.declared.range.Which.TheVariants.{First, Second}
use Rattle.site_memory.specs.Disk.{run}
use Rattle.site_memory.specs.Entries.{mades}
use Rattle.site_memory.specs.HeldFiles.{disk_of, opening_of}
use Rattle.site_memory.proofs.calls.run_all.Given as goal

abbrev pub invariant-loop-entry : goal.invariant-loop-entry
invariant-loop-entry l = record {
  first : run First (disk_of l.fn.first) (mades l.log) ≡ run First (disk_of l.first) (mades (drop l.entry-index l.log));
  second : run Second (disk_of l.fn.second) (mades l.log) ≡ run Second (disk_of l.second) (mades (drop l.entry-index l.log));
  opening : opening_of l.first l.second ≡ opening_of l.fn.first l.fn.second;
}
