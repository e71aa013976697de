use Rattle.std.proofs.Common.{◌≡◌, length}
use Rattle.std.specs.List.{AllByRecursion}
use Rattle.std.specs.Prelude.{replicate}
use Rattle.memory_net.specs.Hosts.{IsFresh}
use Rattle.asked_nets.proofs.net.Net.opening.Given as goal

abbrev pub invariant-loop-place : goal.invariant-loop-place
invariant-loop-place l = record {
  many : length l.hosts.items ≡ l._place;
  fresh : AllByRecursion IsFresh l.hosts.items;
  clocks : l.clocks.items ≡ replicate l._place 0;
}
