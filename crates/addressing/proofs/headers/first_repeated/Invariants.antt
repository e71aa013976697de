use Rattle.std.proofs.Common.{◌≡◌, drop}
use Rattle.std.specs.List.{find}
use Rattle.addressing.specs.Headers.{is_repeated}
use Rattle.addressing.proofs.headers.first_repeated.Given as goal

abbrev pub invariant-loop-name : goal.invariant-loop-name
invariant-loop-name l = find (is_repeated l.headers) (drop l.name-index l.names) ≡ find (is_repeated l.headers) l.names
