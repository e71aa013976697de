use Rattle.std.specs.Option.{option_map}
use Rattle.soap_profile.proofs.Faults.{name_reads_back}
use Rattle.soap_profile.proofs.fault.fault_tree.Goals as goal

pub returns-clause-names : goal.returns-clause-names
returns-clause-names c =
    name_reads_back c.in_ok-tree.tree c.args.space.now c.args.local.now c.args.text.now (option_map (λ name. name.now) c.args.detail) c.in_ok-tree.ensures
