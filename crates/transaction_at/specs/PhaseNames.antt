-- The phases of the model, by the names of the code.
use Rattle.at_model.specs.Book.{Phase}
use Rattle.transaction_at.specs.declared.transaction.Phase.{Phase as Named}
use Rattle.transaction_at.specs.declared.transaction.Phase.TheVariants as phases

abbrev pub phase_of : Named → Phase
phase_of phases.Registering = Phase.Registering
phase_of phases.Active = Phase.Active
phase_of phases.Volatile = Phase.Volatile
phase_of phases.Durable = Phase.Durable
phase_of phases.Voted = Phase.Voted
phase_of phases.Committing = Phase.Committing
phase_of phases.Aborting = Phase.Aborting
