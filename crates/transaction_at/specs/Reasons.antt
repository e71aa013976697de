-- The reasons of an abort of the model, by the names of the code.
use Rattle.at_model.specs.Abort.{Reason, Alone, Asked, Faulted}
use Rattle.transaction_at.specs.declared.abort.Reason.{Reason as Named}
use Rattle.transaction_at.specs.declared.abort.Reason.TheVariants as reasons

abbrev pub reason_of : Named → Reason
reason_of reasons.Alone = Alone
reason_of (reasons.Asked kind from) = Asked kind from
reason_of (reasons.Faulted kind) = Faulted kind
