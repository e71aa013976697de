use Rattle.std.proofs.Common.{sym}
use Rattle.std.proofs.lemmas.Slice.Eq.{bytes_eq-Decides}
use Rattle.node_at.specs.Meanings.{tick_path}
use Rattle.node_at.proofs.HeardRequests.{ticks_so}
use Rattle.node_at.proofs.connection_request.said.Goals as goal

pub returns-then-eq-clause-says : goal.returns-then-eq-clause-says
returns-then-eq-clause-says c = ticks_so c.args.role c.args.path.now c.args.body.now ((bytes_eq-Decides c.args.path.now tick_path).0 (sym c.if-eq.ensures))
