use Rattle.std.proofs.Common.{[]}
use Rattle.xml_profile.specs.CanonicalText.{spaces_of}
use Rattle.xml_profile.proofs.Declarations.{all_declared, all_prefixed}
use Rattle.xml_profile.proofs.laws.declarations.Goals as goal

pub returns-clause-declared : goal.returns-clause-declared
returns-clause-declared c = all_declared [] (spaces_of c.args.tree.now)

pub returns-clause-prefixed : goal.returns-clause-prefixed
returns-clause-prefixed c = all_prefixed [] (spaces_of c.args.tree.now)
