-- Why a transaction is due, by the names of the code.
use Rattle.at_model.specs.Due.{Reached, Expired, Over, Unanswered, Nothing}
use Rattle.transaction_at.specs.declared.due.Cause.{Cause}
use Rattle.transaction_at.specs.declared.due.Cause.TheVariants as causes

abbrev pub reached_of : Cause → Reached
reached_of causes.Expired = Expired
reached_of causes.Over = Over
reached_of causes.Unanswered = Unanswered
reached_of causes.Nothing = Nothing
