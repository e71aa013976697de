use Rattle.std.proofs.Common.{◌≡◌, ◌++◌}
use Rattle.std.specs.Net.ToAddrs.{host_addrs}
use Rattle.atx_sites.proofs.resolved_names.gather.Given as goal

abbrev pub invariant-addresses : goal.invariant-addresses
invariant-addresses l = l.found.items ++ host_addrs l.addresses ≡ l.fn.found.items ++ host_addrs l.fn.addresses
