-- What a Register does to a transaction.
use Rattle.std.specs.Prelude.{[], Option, Some, None}
use Rattle.at_base.specs.Numbers.{Numbers}
use Rattle.at_model.specs.Book.{Transaction}
use Rattle.at_model.specs.Register.{Registration}
use Rattle.by_id.specs.declared.list.Alteration.{Alteration}
use Rattle.by_id.specs.declared.list.Alteration.TheVariants as alterations
use Rattle.by_id.specs.declared.plan.Plan.{Plan}
use Rattle.by_id.specs.declared.plan.Plan.TheVariants as plans
use Rattle.coordinator_at.specs.declared.register.Registered.{Registered}
use Rattle.transaction_at.specs.Moves.{moved}
use Rattle.transaction_at.specs.declared.moves.Move.{Move}

-- the transaction behind a move, or as it was
abbrev pub moved_by : Option Move → Transaction → Transaction
moved_by None t = t
moved_by (Some by) t = moved by t

abbrev pub change_of : Numbers → Option Move → Alteration Transaction Move
change_of id None = alterations.Keep
change_of id (Some by) = alterations.Move id by

-- what was done, as the model's registration at this transaction
abbrev pub registration_of : Transaction → Registered → Registration
registration_of t r = record { transaction = moved_by r.change t; outs = r.outs }

-- it is moved where it stands, or stays, and this is sent
abbrev pub registered : Numbers → Registered → Plan Transaction Move
registered id r = plans.Plain (record {
  change = change_of id r.change;
  outs = record { outs = r.outs; effects = [] };
})
