-- The words for what a node is and holds.
use Rattle.std.specs.Prelude.{ℕ, List, codes}
use Rattle.at_base.specs.Names.{notice_name}
use Rattle.at_base.specs.declared.notice.Notice.{Notice}
use Rattle.at_model.specs.Book.{Phase, Progress}
use Rattle.node_at.specs.declared.role.Role.{Role}
use Rattle.node_at.specs.declared.role.Role.TheVariants as roles

unfoldable pub role_word : Role → List ℕ
role_word roles.All = codes "node"
role_word roles.Coordinator = codes "coordinator"
role_word roles.Participant = codes "participant"
role_word roles.Initiator = codes "initiator"

-- where a transaction stands
unfoldable pub phase_word : Phase → List ℕ
phase_word Phase.Registering = codes "registering"
phase_word Phase.Active = codes "active"
phase_word Phase.Volatile = codes "preparing volatile participants"
phase_word Phase.Durable = codes "preparing durable participants"
phase_word Phase.Voted = codes "voted"
phase_word Phase.Committing = codes "committing"
phase_word Phase.Aborting = codes "aborting"

-- how far an activity has come
unfoldable pub progress_word : Progress → List ℕ
progress_word Progress.Creating = codes "creating"
progress_word Progress.Registering = codes "registering"
progress_word Progress.Active = codes "active"
progress_word (Progress.Completing asked) = notice_name asked
