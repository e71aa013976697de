-- A completion seat behind a message of its initiator.
use Rattle.std.proofs.Common.{◌≡◌, refl, sym, ap, subst, ℕ, List, Option, Some, None}
use Rattle.std.specs.List.{list_any}
use Rattle.at_base.specs.declared.epr.Epr.{Epr}
use Rattle.at_base.specs.declared.event.Moment.{Moment}
use Rattle.at_tables.specs.declared.cells.State.{State}
use Rattle.at_tables.specs.declared.cells.State.TheVariants as states
use Rattle.at_tables.specs.declared.cells.Act.{Act}
use Rattle.at_tables.specs.declared.cells.Act.TheVariants as acts
use Rattle.settling.proofs.Entries.{state_is}
use Rattle.at_model.specs.Book.{Completion, Transaction}
use Rattle.at_model.specs.Moves.{Change, Moving, begin}
use Rattle.at_model.specs.Seats.{completion_in, in_state, is_open, is_prepared_durable, moved}
use Rattle.at_model.specs.Abort.{Alone, Reason, abort}
use Rattle.at_model.specs.Phases.{committed, decided}
use Rattle.at_model.specs.Arrivals.{completion_act, completion_notice}
use Rattle.cell_laws.specs.NextStates.{CompletionGoes, CompletionsGoOn, Ends, commits, completion_state, leaves, same, state_of_completion}
use Rattle.cell_laws.proofs.Fitting.{completion_fits, completion_next}
use Rattle.cell_laws.proofs.Advances.{Watch, by_test, goes_volatile}

abbrev Good : Transaction → Type 0
Good t = state_of_completion t.completion ≡ states.Completing

abbrev Told : Option Transaction → Type 0
Told i = CompletionGoes states.Completing (completion_state i)

none_left : (c : Option Completion) → state_of_completion (completion_in states.None c) ≡ states.None
none_left None = refl
none_left (Some c) = refl

done : (c : Option Completion) → state_of_completion c ≡ states.Completing → state_of_completion (completion_in states.Done c) ≡ states.Done
done None e = absurd cc
done (Some c) e = refl

aborted : (x : State) (m : Moment) (reason : Reason) (g : Moving Transaction) → ((s : State) → s ≡ states.None → CompletionGoes x s)
    → CompletionGoes x (completion_state (abort m reason g).item)
unfolding abort
aborted x m reason g k =
    by_test (λ (c : Change Transaction). CompletionGoes x (completion_state c.item)) (list_any (in_state states.Aborting) (moved is_open states.Aborting g.item.seats)) _ _
    (k _ (none_left g.item.completion)) (k _ refl)

left_so : (s : State) → s ≡ states.None → CompletionGoes states.Completing s
left_so s e = subst (CompletionGoes states.Completing) (sym e) leaves

stays_none : (s : State) → s ≡ states.None → CompletionGoes states.None s
stays_none s e = subst (CompletionGoes states.None) (sym e) (same states.None)

commit_told : (m : Moment) (g : Moving Transaction) → Good g.item → Told (committed m g).item
unfolding committed decided
commit_told m g h =
    by_test (λ (c : Change Transaction). Told c.item) (list_any is_prepared_durable g.item.seats) _ _
    (subst (CompletionGoes states.Completing) (sym (done g.item.completion h)) commits) leaves

watch : Watch Good Told
watch = record {
  stay = λ t h. subst (CompletionGoes states.Completing) (sym h) (same states.Completing);
  gone = leaves;
  asks = λ m k t h. h;
  goes = λ s p sent t h. h;
  aborts = λ m reason g h. aborted states.Completing m reason g left_so;
  commits = commit_told;
}

stands : (c : Completion) (t : Transaction) → t.completion ≡ Some c → CompletionGoes c.state (state_of_completion t.completion)
stands c t e = subst (CompletionGoes c.state) (sym (ap state_of_completion e)) (same c.state)

by_act : (m : Moment) (from : Option Epr) (id : Option (List ℕ)) (c : Completion) (t : Transaction) (act : Act) → t.completion ≡ Some c
    → Ends (λ i. CompletionGoes (completion_next c.state act) (completion_state i)) (completion_act m from id c t act)
unfolding completion_act
by_act m from id c t acts.Ignore e = stands c t e
by_act m from id c t acts.SendPrepared e = stands c t e
by_act m from id c t acts.SendCommit e = stands c t e
by_act m from id c t acts.SendRollback e = stands c t e
by_act m from id c t acts.SendCommitted e = stands c t e
by_act m from id c t acts.SendAborted e = stands c t e
by_act m from id c t acts.FaultUnknownTransaction e = stands c t e
by_act m from id c t acts.FaultInvalidState e = stands c t e
by_act m from id c t acts.FaultInvalidStateAndAbort e = stands c t e
by_act m from id c t acts.Leave e = stands c t e
by_act m from id c t acts.LeaveAndAbort e = stands c t e
by_act m from id c t acts.Vote e = stands c t e
by_act m from id c t acts.Gather e = stands c t e
by_act m from id c t acts.Commit e = stands c t e
by_act m from id c t acts.AbortAndSendAborted e = aborted states.None m Alone (begin t) stays_none
by_act m from id c t acts.RecordAndSendAborted e = stands c t e
by_act m from id c t acts.Complete e =
    goes_volatile Good Told watch m (begin (record t { completion = Some (record c { state = states.Completing }) })) refl
by_act m from id c t acts.TellCommitted e = stands c t e
by_act m from id c t acts.TellAborted e = stands c t e

pub completions_go_on : CompletionsGoOn
unfolding completion_notice
completions_go_on m from id x t n c e k =
    subst (λ next. Ends (λ i. CompletionGoes next (completion_state i)) (completion_act m from id x t c.act))
    (sym (state_is c.next (completion_next x.state c.act) (completion_fits x.state n c k))) (by_act m from id x t c.act e)
