-- What a node of each role serves.
use Rattle.std.specs.Prelude.{Bool, true, false}
use Rattle.at_base.specs.declared.target.Target.{Target}
use Rattle.at_base.specs.declared.target.Target.TheVariants as targets
use Rattle.node_at.specs.declared.role.Role.{Role}
use Rattle.node_at.specs.declared.role.Role.TheVariants as roles

abbrev pub serves : Role → Target → Bool
serves roles.All target = true
serves roles.Coordinator (targets.Initiator id) = false
serves roles.Coordinator targets.Work = false
serves roles.Coordinator other = true
serves roles.Participant (targets.Participant id kind) = true
serves roles.Participant targets.Work = true
serves roles.Participant other = false
serves roles.Initiator (targets.Initiator id) = true
serves roles.Initiator other = false
