use Rattle.endpoints.specs.Addresses.{slash, split_at}
use Rattle.audit_at.proofs.Names.{first_part, no_part}
use Rattle.audit_at.proofs.named.before_slash.Goals as goal

pub returns-in-Some : goal.returns-in-Some
returns-in-Some c = λ parts e. first_part (split_at slash c.args.text.now) c.in-Some.front.now _ parts c.in-Some.ensures e

pub returns-in-None : goal.returns-in-None
returns-in-None c = λ parts e. no_part (split_at slash c.args.text.now) parts c.in-None.ensures e
