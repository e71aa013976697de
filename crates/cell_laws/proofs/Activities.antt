-- An activity behind a message of the coordinator.
use Rattle.std.proofs.Common.{◌≡◌, refl, sym, subst, ℕ, List, Option}
use Rattle.at_base.specs.declared.epr.Epr.{Epr}
use Rattle.at_base.specs.declared.event.Moment.{Moment}
use Rattle.at_tables.specs.declared.cells.Act.{Act}
use Rattle.at_tables.specs.declared.cells.Act.TheVariants as acts
use Rattle.settling.proofs.Entries.{state_is}
use Rattle.at_model.specs.Book.{Activity}
use Rattle.at_model.specs.Activities.{activity_act, activity_notice, activity_state}
use Rattle.cell_laws.specs.NextStates.{ActivitiesGoOn, Ends, state_of_activity}
use Rattle.cell_laws.proofs.Fitting.{initiator_fits, initiator_next}

by_act : (m : Moment) (from : Option Epr) (id : Option (List ℕ)) (a : Activity) (act : Act)
    → Ends (λ i. initiator_next (activity_state a.progress) act ≡ state_of_activity i) (activity_act m from id a act)
unfolding activity_act
by_act m from id a acts.Ignore = refl
by_act m from id a acts.SendPrepared = refl
by_act m from id a acts.SendCommit = refl
by_act m from id a acts.SendRollback = refl
by_act m from id a acts.SendCommitted = refl
by_act m from id a acts.SendAborted = refl
by_act m from id a acts.FaultUnknownTransaction = refl
by_act m from id a acts.FaultInvalidState = refl
by_act m from id a acts.FaultInvalidStateAndAbort = refl
by_act m from id a acts.Leave = refl
by_act m from id a acts.LeaveAndAbort = refl
by_act m from id a acts.Vote = refl
by_act m from id a acts.Gather = refl
by_act m from id a acts.Commit = refl
by_act m from id a acts.AbortAndSendAborted = refl
by_act m from id a acts.RecordAndSendAborted = refl
by_act m from id a acts.Complete = refl
by_act m from id a acts.TellCommitted = refl
by_act m from id a acts.TellAborted = refl

pub activities_go_on : ActivitiesGoOn
unfolding activity_notice
activities_go_on m from id a n c e =
    subst (λ next. Ends (λ i. next ≡ state_of_activity i) (activity_act m from id a c.act))
    (sym (state_is c.next (initiator_next (activity_state a.progress) c.act) (initiator_fits (activity_state a.progress) n c e))) (by_act m from id a c.act)
