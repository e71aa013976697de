-- Worked examples: whole runs, with their messages and effects.
use Rattle.std.specs.Prelude.{ℕ, List, [], ◌∷◌, ◌++◌, Option, Some, None, Bool, true, false, not, ◌&&◌, codes, ◌≡◌}
use Rattle.at_base.specs.Numbers.{Numbers}
use Rattle.at_base.specs.declared.notice.Kind.TheVariants as kinds
use Rattle.at_base.specs.declared.notice.Vote.{Vote}
use Rattle.at_base.specs.declared.notice.Vote.TheVariants as votes
use Rattle.at_base.specs.declared.target.Target.TheVariants as targets
use Rattle.at_base.specs.declared.record.Seated.{Seated}
use Rattle.at_base.specs.declared.record.Record.{Record}
use Rattle.at_base.specs.declared.record.Record.TheVariants as records
use Rattle.at_base.specs.declared.outs.Ending.TheVariants as endings
use Rattle.at_base.specs.declared.outs.Told.TheVariants as tellings
use Rattle.at_base.specs.declared.outs.Effect.TheVariants as effects
use Rattle.endpoints.specs.Addresses.{endpoint_of}
use Rattle.at_model.specs.World.{Node, World, nth, WorldEvent, run_on, run_of, Deliver, Turn, Crash, example_base, example_hosts}
use Rattle.model_laws.specs.Settlement.{settle, is_settled, settle_rounds, most_deliveries, waiting, all_up}
use Rattle.at_model.specs.Views.{line, lines_from, at, id_at, up, deliver_to, tick_at, begin_at, work_at, interpose_at, commit_at}

abbrev pub first : Numbers
first = id_at 1 1

-- A transaction with one durable participant: begun, and its work done.
abbrev pub one_participant : Vote → List WorldEvent
one_participant vote =
    up 1 ∷ up 2 ∷ up 3 ∷ begin_at 1 2 60000 ∷ deliver_to 2 1 ∷ deliver_to 1 2 ∷ deliver_to 2 3 ∷ deliver_to 1 4
    ∷ work_at 1 first 3 kinds.Durable vote ∷ deliver_to 3 5 ∷ deliver_to 2 6 ∷ deliver_to 3 7 ∷ deliver_to 1 8 ∷ []

-- A transaction with a subordinate, which has one durable participant; and its Commit.
abbrev pub one_subordinate : List WorldEvent
one_subordinate =
    up 1 ∷ up 2 ∷ up 3 ∷ up 4 ∷ begin_at 1 2 60000 ∷ deliver_to 2 1 ∷ deliver_to 1 2 ∷ deliver_to 2 3 ∷ deliver_to 1 4
    ∷ interpose_at 1 first 3 ∷ deliver_to 3 5 ∷ deliver_to 2 6 ∷ deliver_to 2 7 ∷ deliver_to 3 8 ∷ deliver_to 3 9
    ∷ deliver_to 1 10 ∷ work_at 1 (id_at 1 2) 4 kinds.Durable votes.Prepared ∷ deliver_to 4 11 ∷ deliver_to 3 12
    ∷ deliver_to 4 13 ∷ deliver_to 1 14 ∷ commit_at 1 first ∷ []

-- The plain path: the participant votes Prepared, and both sides commit.
abbrev pub plain_path : List WorldEvent
plain_path =
    one_participant votes.Prepared
    ++ (commit_at 1 first ∷ deliver_to 2 9 ∷ deliver_to 3 10 ∷ deliver_to 2 11 ∷ deliver_to 3 12 ∷ deliver_to 1 13
    ∷ deliver_to 2 14 ∷ [])

abbrev pub PlainPathMessages : Type 0
PlainPathMessages =
    lines_from 1 (run_of (example_hosts 3) plain_path)
    ≡ line 1 2 (codes "CreateCoordinationContext") (codes "/activation")
    ∷ line 2 1 (codes "CreateCoordinationContextResponse") (codes "/i/1-1")
    ∷ line 1 2 (codes "Register") (codes "/registration/1-1") ∷ line 2 1 (codes "RegisterResponse") (codes "/i/1-1")
    ∷ line 1 3 (codes "Work") (codes "/work") ∷ line 3 2 (codes "Register") (codes "/registration/1-1")
    ∷ line 2 3 (codes "RegisterResponse") (codes "/p/d/1-1") ∷ line 3 1 (codes "WorkDone") (codes "/i/1-1")
    ∷ line 1 2 (codes "Commit") (codes "/completion/1-1") ∷ line 2 3 (codes "Prepare") (codes "/p/d/1-1")
    ∷ line 3 2 (codes "Prepared") (codes "/c/d/1-1/1") ∷ line 2 3 (codes "Commit") (codes "/p/d/1-1")
    ∷ line 2 1 (codes "Committed") (codes "/i/1-1") ∷ line 3 2 (codes "Committed") (codes "/c/d/1-1/1") ∷ []

abbrev pub PlainPathEffects : Type 0
PlainPathEffects =
    (run_of (example_hosts 3) plain_path).happened
    ≡ at 2 (effects.Root first endings.Committed) ∷ at 3 (effects.Leaf first kinds.Durable endings.Committed)
    ∷ at 1 (effects.Told first tellings.Committed) ∷ []

-- No participant: the root commits at once.
abbrev pub no_participant : List WorldEvent
no_participant =
    up 1 ∷ up 2 ∷ begin_at 1 2 0 ∷ deliver_to 2 1 ∷ deliver_to 1 2 ∷ deliver_to 2 3 ∷ deliver_to 1 4
    ∷ commit_at 1 first ∷ deliver_to 2 5 ∷ deliver_to 1 6 ∷ []

abbrev pub NoParticipantMessages : Type 0
NoParticipantMessages =
    lines_from 6 (run_of (example_hosts 2) no_participant)
    ≡ line 2 1 (codes "Committed") (codes "/i/1-1") ∷ []

abbrev pub NoParticipantEffects : Type 0
NoParticipantEffects =
    (run_of (example_hosts 2) no_participant).happened
    ≡ at 2 (effects.Root first endings.Committed) ∷ at 1 (effects.Told first tellings.Committed) ∷ []

-- A volatile participant is asked before the durable one.
abbrev pub volatile_first : List WorldEvent
volatile_first =
    one_participant votes.Prepared
    ++ (work_at 1 first 3 kinds.Volatile votes.Prepared ∷ deliver_to 3 9 ∷ deliver_to 2 10 ∷ deliver_to 3 11
    ∷ deliver_to 1 12 ∷ commit_at 1 first ∷ deliver_to 2 13 ∷ deliver_to 3 14 ∷ deliver_to 2 15 ∷ deliver_to 3 16
    ∷ deliver_to 2 17 ∷ deliver_to 3 18 ∷ deliver_to 3 19 ∷ deliver_to 1 20 ∷ deliver_to 2 21 ∷ deliver_to 2 22 ∷ [])

abbrev pub VolatileFirstMessages : Type 0
VolatileFirstMessages =
    lines_from 14 (run_of (example_hosts 3) volatile_first)
    ≡ line 2 3 (codes "Prepare") (codes "/p/v/1-2") ∷ line 3 2 (codes "Prepared") (codes "/c/v/1-1/2")
    ∷ line 2 3 (codes "Prepare") (codes "/p/d/1-1") ∷ line 3 2 (codes "Prepared") (codes "/c/d/1-1/1")
    ∷ line 2 3 (codes "Commit") (codes "/p/d/1-1") ∷ line 2 3 (codes "Commit") (codes "/p/v/1-2")
    ∷ line 2 1 (codes "Committed") (codes "/i/1-1") ∷ line 3 2 (codes "Committed") (codes "/c/d/1-1/1")
    ∷ line 3 2 (codes "Committed") (codes "/c/v/1-1/2") ∷ []

abbrev pub VolatileFirstEffects : Type 0
VolatileFirstEffects =
    (run_of (example_hosts 3) volatile_first).happened
    ≡ at 2 (effects.Root first endings.Committed) ∷ at 3 (effects.Leaf first kinds.Durable endings.Committed)
    ∷ at 3 (effects.Leaf (id_at 1 2) kinds.Volatile endings.Committed) ∷ at 1 (effects.Told first tellings.Committed)
    ∷ []

-- The one participant votes ReadOnly: the root commits, and nobody is told to.
abbrev pub read_only : List WorldEvent
read_only =
    one_participant votes.ReadOnly
    ++ (commit_at 1 first ∷ deliver_to 2 9 ∷ deliver_to 3 10 ∷ deliver_to 2 11 ∷ deliver_to 1 12 ∷ [])

abbrev pub ReadOnlyMessages : Type 0
ReadOnlyMessages =
    lines_from 11 (run_of (example_hosts 3) read_only)
    ≡ line 3 2 (codes "ReadOnly") (codes "/c/d/1-1/1") ∷ line 2 1 (codes "Committed") (codes "/i/1-1") ∷ []

abbrev pub ReadOnlyEffects : Type 0
ReadOnlyEffects =
    (run_of (example_hosts 3) read_only).happened
    ≡ at 2 (effects.Root first endings.Committed) ∷ at 1 (effects.Told first tellings.Committed) ∷ []

-- One of two participants votes Aborted: the other is rolled back.
abbrev pub one_aborts : List WorldEvent
one_aborts =
    one_participant votes.Prepared
    ++ (work_at 1 first 3 kinds.Durable votes.Aborted ∷ deliver_to 3 9 ∷ deliver_to 2 10 ∷ deliver_to 3 11
    ∷ deliver_to 1 12 ∷ commit_at 1 first ∷ deliver_to 2 13 ∷ deliver_to 3 14 ∷ deliver_to 3 15 ∷ deliver_to 2 16
    ∷ deliver_to 2 17 ∷ deliver_to 3 18 ∷ deliver_to 1 19 ∷ deliver_to 2 20 ∷ [])

abbrev pub OneAbortsMessages : Type 0
OneAbortsMessages =
    lines_from 16 (run_of (example_hosts 3) one_aborts)
    ≡ line 3 2 (codes "Prepared") (codes "/c/d/1-1/1") ∷ line 3 2 (codes "Aborted") (codes "/c/d/1-1/2")
    ∷ line 2 3 (codes "Rollback") (codes "/p/d/1-1") ∷ line 2 1 (codes "Aborted") (codes "/i/1-1")
    ∷ line 3 2 (codes "Aborted") (codes "/c/d/1-1/1") ∷ []

abbrev pub OneAbortsEffects : Type 0
OneAbortsEffects =
    (run_of (example_hosts 3) one_aborts).happened
    ≡ at 3 (effects.Leaf (id_at 1 2) kinds.Durable endings.Aborted) ∷ at 2 (effects.Root first endings.Aborted)
    ∷ at 3 (effects.Leaf first kinds.Durable endings.Aborted) ∷ at 1 (effects.Told first tellings.Aborted) ∷ []

-- A participant that registers while the durable ones are asked is refused.
abbrev pub late_register : List WorldEvent
late_register =
    one_participant votes.Prepared
    ++ (work_at 1 first 3 kinds.Durable votes.Prepared ∷ commit_at 1 first ∷ deliver_to 2 10 ∷ deliver_to 3 9
    ∷ deliver_to 2 12 ∷ deliver_to 3 13 ∷ [])

abbrev pub LateRegisterMessages : Type 0
LateRegisterMessages =
    lines_from 11 (run_of (example_hosts 3) late_register)
    ≡ line 2 3 (codes "Prepare") (codes "/p/d/1-1") ∷ line 3 2 (codes "Register") (codes "/registration/1-1")
    ∷ line 2 3 (codes "CannotRegisterParticipant") (codes "/p/d/1-2")
    ∷ line 3 1 (codes "WorkRefused") (codes "/i/1-1") ∷ []

abbrev pub LateRegisterEffects : Type 0
LateRegisterEffects =
    (run_of (example_hosts 3) late_register).happened
    ≡ at 3 (effects.Leaf (id_at 1 2) kinds.Durable endings.Aborted) ∷ []

-- A Register that arrives twice is answered alike, and makes one seat.
abbrev pub register_twice : List WorldEvent
register_twice =
    up 1 ∷ up 2 ∷ up 3 ∷ begin_at 1 2 60000 ∷ deliver_to 2 1 ∷ deliver_to 1 2 ∷ deliver_to 2 3 ∷ deliver_to 1 4
    ∷ work_at 1 first 3 kinds.Durable votes.Prepared ∷ deliver_to 3 5 ∷ deliver_to 2 6 ∷ deliver_to 2 6 ∷ []

abbrev pub RegisterTwiceMessages : Type 0
RegisterTwiceMessages =
    lines_from 7 (run_of (example_hosts 3) register_twice)
    ≡ line 2 3 (codes "RegisterResponse") (codes "/p/d/1-1") ∷ line 2 3 (codes "RegisterResponse") (codes "/p/d/1-1")
    ∷ []

abbrev pub RegisterTwiceEffects : Type 0
RegisterTwiceEffects =
    (run_of (example_hosts 3) register_twice).happened
    ≡ []

-- A participant that crashed before its vote comes up in a new incarnation, and answers Aborted for its old one.
abbrev pub new_incarnation : List WorldEvent
new_incarnation =
    one_participant votes.Prepared
    ++ (Crash 3 ∷ up 3 ∷ work_at 1 first 3 kinds.Durable votes.Prepared ∷ deliver_to 3 9 ∷ deliver_to 2 10
    ∷ deliver_to 3 11 ∷ deliver_to 1 12 ∷ commit_at 1 first ∷ deliver_to 2 13 ∷ deliver_to 3 14 ∷ deliver_to 3 15
    ∷ deliver_to 2 16 ∷ deliver_to 2 17 ∷ deliver_to 3 18 ∷ deliver_to 1 19 ∷ deliver_to 3 20 ∷ deliver_to 2 21
    ∷ deliver_to 2 22 ∷ [])

abbrev pub NewIncarnationMessages : Type 0
NewIncarnationMessages =
    lines_from 14 (run_of (example_hosts 3) new_incarnation)
    ≡ line 2 3 (codes "Prepare") (codes "/p/d/1-1") ∷ line 2 3 (codes "Prepare") (codes "/p/d/2-1")
    ∷ line 3 2 (codes "Aborted") (codes "/c/d/1-1/1") ∷ line 3 2 (codes "Prepared") (codes "/c/d/1-1/2")
    ∷ line 2 3 (codes "Rollback") (codes "/p/d/2-1") ∷ line 2 1 (codes "Aborted") (codes "/i/1-1")
    ∷ line 2 3 (codes "Rollback") (codes "/p/d/2-1") ∷ line 3 2 (codes "Aborted") (codes "/c/d/1-1/2")
    ∷ line 3 2 (codes "Aborted") (codes "/c/d/1-1/2") ∷ []

abbrev pub NewIncarnationEffects : Type 0
NewIncarnationEffects =
    (run_of (example_hosts 3) new_incarnation).happened
    ≡ at 3 (effects.Leaf first kinds.Durable endings.Lost) ∷ at 2 (effects.Root first endings.Aborted)
    ∷ at 3 (effects.Leaf (id_at 2 1) kinds.Durable endings.Aborted) ∷ at 1 (effects.Told first tellings.Aborted) ∷ []

-- A Prepare that comes again after the outcome draws Aborted, which the coordinator answers with InvalidState.
abbrev pub prepare_again : List WorldEvent
prepare_again =
    one_participant votes.Prepared
    ++ (commit_at 1 first ∷ deliver_to 2 9 ∷ deliver_to 3 10 ∷ deliver_to 2 11 ∷ deliver_to 3 12 ∷ deliver_to 3 10
    ∷ deliver_to 2 15 ∷ tick_at 2 5000 ∷ deliver_to 3 17 ∷ deliver_to 2 18 ∷ [])

abbrev pub PrepareAgainMessages : Type 0
PrepareAgainMessages =
    lines_from 15 (run_of (example_hosts 3) prepare_again)
    ≡ line 3 2 (codes "Aborted") (codes "/c/d/1-1/1") ∷ line 2 3 (codes "InvalidState") (codes "/p/d/1-1")
    ∷ line 2 3 (codes "Commit") (codes "/p/d/1-1") ∷ line 3 2 (codes "Committed") (codes "/c/d/1-1/1") ∷ []

abbrev pub PrepareAgainEffects : Type 0
PrepareAgainEffects =
    (run_of (example_hosts 3) prepare_again).happened
    ≡ at 2 (effects.Root first endings.Committed) ∷ at 3 (effects.Leaf first kinds.Durable endings.Committed) ∷ []

-- A stop before the vote stands: the participant is lost, and abort is presumed.
abbrev pub stop_before_vote : List WorldEvent
stop_before_vote =
    one_participant votes.Prepared
    ++ (commit_at 1 first ∷ deliver_to 2 9 ∷ Turn 3 (Deliver 10) (false ∷ []) (Some 1) ∷ up 3 ∷ tick_at 2 5000
    ∷ deliver_to 3 11 ∷ deliver_to 2 12 ∷ deliver_to 1 13 ∷ [])

abbrev pub StopBeforeVoteMessages : Type 0
StopBeforeVoteMessages =
    lines_from 11 (run_of (example_hosts 3) stop_before_vote)
    ≡ line 2 3 (codes "Prepare") (codes "/p/d/1-1") ∷ line 3 2 (codes "Aborted") (codes "/c/d/1-1/1")
    ∷ line 2 1 (codes "Aborted") (codes "/i/1-1") ∷ []

abbrev pub StopBeforeVoteEffects : Type 0
StopBeforeVoteEffects =
    (run_of (example_hosts 3) stop_before_vote).happened
    ≡ at 3 (effects.Leaf first kinds.Durable endings.Lost) ∷ at 2 (effects.Root first endings.Aborted)
    ∷ at 1 (effects.Told first tellings.Aborted) ∷ []

-- A stop right behind the vote: the participant comes up prepared, and sends its vote.
abbrev pub stop_behind_vote : List WorldEvent
stop_behind_vote =
    one_participant votes.Prepared
    ++ (commit_at 1 first ∷ deliver_to 2 9 ∷ Turn 3 (Deliver 10) (true ∷ []) (Some 1) ∷ up 3 ∷ tick_at 3 0
    ∷ deliver_to 2 11 ∷ deliver_to 3 12 ∷ deliver_to 1 13 ∷ deliver_to 2 14 ∷ [])

abbrev pub StopBehindVoteMessages : Type 0
StopBehindVoteMessages =
    lines_from 11 (run_of (example_hosts 3) stop_behind_vote)
    ≡ line 3 2 (codes "Prepared") (codes "/c/d/1-1/1") ∷ line 2 3 (codes "Commit") (codes "/p/d/1-1")
    ∷ line 2 1 (codes "Committed") (codes "/i/1-1") ∷ line 3 2 (codes "Committed") (codes "/c/d/1-1/1") ∷ []

abbrev pub StopBehindVoteEffects : Type 0
StopBehindVoteEffects =
    (run_of (example_hosts 3) stop_behind_vote).happened
    ≡ at 2 (effects.Root first endings.Committed) ∷ at 3 (effects.Leaf first kinds.Durable endings.Committed)
    ∷ at 1 (effects.Told first tellings.Committed) ∷ []

-- The record of the decision is refused: the root aborts.
abbrev pub decision_refused : List WorldEvent
decision_refused =
    one_participant votes.Prepared
    ++ (commit_at 1 first ∷ deliver_to 2 9 ∷ deliver_to 3 10 ∷ Turn 2 (Deliver 11) (false ∷ []) None ∷ deliver_to 3 12
    ∷ deliver_to 1 13 ∷ deliver_to 2 14 ∷ [])

abbrev pub DecisionRefusedMessages : Type 0
DecisionRefusedMessages =
    lines_from 12 (run_of (example_hosts 3) decision_refused)
    ≡ line 2 3 (codes "Rollback") (codes "/p/d/1-1") ∷ line 2 1 (codes "Aborted") (codes "/i/1-1")
    ∷ line 3 2 (codes "Aborted") (codes "/c/d/1-1/1") ∷ []

abbrev pub DecisionRefusedEffects : Type 0
DecisionRefusedEffects =
    (run_of (example_hosts 3) decision_refused).happened
    ≡ at 2 (effects.Root first endings.Aborted) ∷ at 3 (effects.Leaf first kinds.Durable endings.Aborted)
    ∷ at 1 (effects.Told first tellings.Aborted) ∷ []

-- A halt right behind the decision: it holds, the participant is told, and the initiator, which asks again, hears of it.
abbrev pub halt_behind_decision : List WorldEvent
halt_behind_decision =
    one_participant votes.Prepared
    ++ (commit_at 1 first ∷ deliver_to 2 9 ∷ deliver_to 3 10 ∷ Turn 2 (Deliver 11) (true ∷ []) (Some 1) ∷ up 2
    ∷ tick_at 2 0 ∷ deliver_to 3 12 ∷ deliver_to 2 13 ∷ tick_at 1 5000 ∷ deliver_to 2 14 ∷ deliver_to 1 15 ∷ [])

abbrev pub HaltBehindDecisionMessages : Type 0
HaltBehindDecisionMessages =
    lines_from 12 (run_of (example_hosts 3) halt_behind_decision)
    ≡ line 2 3 (codes "Commit") (codes "/p/d/1-1") ∷ line 3 2 (codes "Committed") (codes "/c/d/1-1/1")
    ∷ line 1 2 (codes "Commit") (codes "/completion/1-1") ∷ line 2 1 (codes "Committed") (codes "/i/1-1")
    ∷ []

abbrev pub HaltBehindDecisionEffects : Type 0
HaltBehindDecisionEffects =
    (run_of (example_hosts 3) halt_behind_decision).happened
    ≡ at 2 (effects.Root first endings.Committed) ∷ at 3 (effects.Leaf first kinds.Durable endings.Committed)
    ∷ at 1 (effects.Told first tellings.Committed) ∷ []

-- A root that expires before its decision aborts.
abbrev pub expiry : List WorldEvent
expiry =
    one_participant votes.Prepared
    ++ (commit_at 1 first ∷ deliver_to 2 9 ∷ tick_at 2 60000 ∷ [])

abbrev pub ExpiryMessages : Type 0
ExpiryMessages =
    lines_from 11 (run_of (example_hosts 3) expiry)
    ≡ line 2 3 (codes "Rollback") (codes "/p/d/1-1") ∷ line 2 1 (codes "Aborted") (codes "/i/1-1") ∷ []

abbrev pub ExpiryEffects : Type 0
ExpiryEffects =
    (run_of (example_hosts 3) expiry).happened
    ≡ at 2 (effects.Root first endings.Aborted) ∷ []

-- A root that has decided does not expire: it sends Commit again.
abbrev pub no_expiry_behind_decision : List WorldEvent
no_expiry_behind_decision =
    one_participant votes.Prepared
    ++ (commit_at 1 first ∷ deliver_to 2 9 ∷ deliver_to 3 10 ∷ deliver_to 2 11 ∷ tick_at 2 60000 ∷ [])

abbrev pub NoExpiryBehindDecisionMessages : Type 0
NoExpiryBehindDecisionMessages =
    lines_from 14 (run_of (example_hosts 3) no_expiry_behind_decision)
    ≡ line 2 3 (codes "Commit") (codes "/p/d/1-1") ∷ []

abbrev pub NoExpiryBehindDecisionEffects : Type 0
NoExpiryBehindDecisionEffects =
    (run_of (example_hosts 3) no_expiry_behind_decision).happened
    ≡ at 2 (effects.Root first endings.Committed) ∷ []

-- A root that ended and crashed comes up with nothing to do.
abbrev pub end_stands : List WorldEvent
end_stands =
    plain_path
    ++ (Crash 2 ∷ up 2 ∷ tick_at 2 60000 ∷ [])

abbrev pub EndStandsMessages : Type 0
EndStandsMessages =
    lines_from 15 (run_of (example_hosts 3) end_stands)
    ≡ []

abbrev pub EndStandsEffects : Type 0
EndStandsEffects =
    (run_of (example_hosts 3) end_stands).happened
    ≡ at 2 (effects.Root first endings.Committed) ∷ at 3 (effects.Leaf first kinds.Durable endings.Committed)
    ∷ at 1 (effects.Told first tellings.Committed) ∷ []

-- A Rollback on a volatile link that was not asked yet aborts the subordinate.
abbrev pub rollback_on_volatile_link : List WorldEvent
rollback_on_volatile_link =
    one_subordinate
    ++ (tick_at 2 60000 ∷ deliver_to 3 16 ∷ [])

abbrev pub RollbackOnVolatileLinkMessages : Type 0
RollbackOnVolatileLinkMessages =
    lines_from 16 (run_of (example_hosts 4) rollback_on_volatile_link)
    ≡ line 2 3 (codes "Rollback") (codes "/p/v/1-1") ∷ line 2 3 (codes "Rollback") (codes "/p/d/1-1")
    ∷ line 2 1 (codes "Aborted") (codes "/i/1-1") ∷ line 3 2 (codes "Aborted") (codes "/c/v/1-1/1")
    ∷ line 3 2 (codes "Aborted") (codes "/c/d/1-1/2") ∷ line 3 4 (codes "Rollback") (codes "/p/d/1-1") ∷ []

abbrev pub RollbackOnVolatileLinkEffects : Type 0
RollbackOnVolatileLinkEffects =
    (run_of (example_hosts 4) rollback_on_volatile_link).happened
    ≡ at 2 (effects.Root first endings.Aborted) ∷ at 3 (effects.Sub first endings.Aborted) ∷ []

-- A subordinate stands between: its participant is asked, told and answered for through it.
abbrev pub interposition : List WorldEvent
interposition =
    one_subordinate
    ++ (deliver_to 2 15 ∷ deliver_to 3 16 ∷ deliver_to 2 17 ∷ deliver_to 3 18 ∷ deliver_to 4 19 ∷ deliver_to 3 20
    ∷ deliver_to 2 21 ∷ deliver_to 3 22 ∷ deliver_to 1 23 ∷ deliver_to 4 24 ∷ deliver_to 3 25 ∷ deliver_to 2 26 ∷ [])

abbrev pub InterpositionMessages : Type 0
InterpositionMessages =
    lines_from 16 (run_of (example_hosts 4) interposition)
    ≡ line 2 3 (codes "Prepare") (codes "/p/v/1-1") ∷ line 3 2 (codes "ReadOnly") (codes "/c/v/1-1/1")
    ∷ line 2 3 (codes "Prepare") (codes "/p/d/1-1") ∷ line 3 4 (codes "Prepare") (codes "/p/d/1-1")
    ∷ line 4 3 (codes "Prepared") (codes "/c/d/1-1/1") ∷ line 3 2 (codes "Prepared") (codes "/c/d/1-1/2")
    ∷ line 2 3 (codes "Commit") (codes "/p/d/1-1") ∷ line 2 1 (codes "Committed") (codes "/i/1-1")
    ∷ line 3 4 (codes "Commit") (codes "/p/d/1-1") ∷ line 4 3 (codes "Committed") (codes "/c/d/1-1/1")
    ∷ line 3 2 (codes "Committed") (codes "/c/d/1-1/2") ∷ []

abbrev pub InterpositionEffects : Type 0
InterpositionEffects =
    (run_of (example_hosts 4) interposition).happened
    ≡ at 2 (effects.Root first endings.Committed) ∷ at 3 (effects.Sub first endings.Committed)
    ∷ at 1 (effects.Told first tellings.Committed) ∷ at 4 (effects.Leaf first kinds.Durable endings.Committed) ∷ []

-- The subordinate crashes behind its vote: it comes up prepared, and all goes on.
abbrev pub subordinate_crashes : List WorldEvent
subordinate_crashes =
    one_subordinate
    ++ (deliver_to 2 15 ∷ deliver_to 3 16 ∷ deliver_to 2 17 ∷ deliver_to 3 18 ∷ deliver_to 4 19 ∷ deliver_to 3 20
    ∷ Crash 3 ∷ up 3 ∷ deliver_to 2 21 ∷ deliver_to 3 22 ∷ deliver_to 1 23 ∷ deliver_to 4 24 ∷ deliver_to 3 25
    ∷ deliver_to 2 26 ∷ [])

abbrev pub SubordinateCrashesMessages : Type 0
SubordinateCrashesMessages =
    lines_from 16 (run_of (example_hosts 4) subordinate_crashes)
    ≡ line 2 3 (codes "Prepare") (codes "/p/v/1-1") ∷ line 3 2 (codes "ReadOnly") (codes "/c/v/1-1/1")
    ∷ line 2 3 (codes "Prepare") (codes "/p/d/1-1") ∷ line 3 4 (codes "Prepare") (codes "/p/d/1-1")
    ∷ line 4 3 (codes "Prepared") (codes "/c/d/1-1/1") ∷ line 3 2 (codes "Prepared") (codes "/c/d/1-1/2")
    ∷ line 2 3 (codes "Commit") (codes "/p/d/1-1") ∷ line 2 1 (codes "Committed") (codes "/i/1-1")
    ∷ line 3 4 (codes "Commit") (codes "/p/d/1-1") ∷ line 4 3 (codes "Committed") (codes "/c/d/1-1/1")
    ∷ line 3 2 (codes "Committed") (codes "/c/d/1-1/2") ∷ []

abbrev pub SubordinateCrashesEffects : Type 0
SubordinateCrashesEffects =
    (run_of (example_hosts 4) subordinate_crashes).happened
    ≡ at 2 (effects.Root first endings.Committed) ∷ at 3 (effects.Sub first endings.Committed)
    ∷ at 1 (effects.Told first tellings.Committed) ∷ at 4 (effects.Leaf first kinds.Durable endings.Committed) ∷ []

-- One seat stands for a Register that came twice.
abbrev pub RegisterTwiceSeats : Type 0
RegisterTwiceSeats =
    (run_of (example_hosts 3) register_twice).accepted
    ≡ record { transaction = record { node = 2; id = first }; seat = None; participant = Some (record { node = 1; id = first }) }
    ∷ record {
      transaction = record { node = 2; id = first };
      seat = Some (record { number = 1; kind = kinds.Durable });
      participant = Some (record { node = 3; id = first });
    } ∷ []

-- the journal of a node
abbrev pub journal_of : Option Node → List Record
journal_of None = []
journal_of (Some x) = x.journal

abbrev pub journal_at : ℕ → World → List Record
journal_at n w = journal_of (nth n w.nodes)

abbrev pub seated_first : Seated
seated_first = record { number = 1; endpoint = endpoint_of (example_base 3) (targets.Participant first kinds.Durable) }

-- The decision and its end stand in the coordinator's journal, the vote and the outcome in the participant's.
abbrev pub PlainPathJournals : Type 0
PlainPathJournals =
    journal_at 2 (run_of (example_hosts 3) plain_path) ++ journal_at 3 (run_of (example_hosts 3) plain_path)
    ≡ records.Start 1 ∷ records.Decided first (seated_first ∷ []) ∷ records.Ended first
    ∷ records.Start 1
    ∷ records.LeafPrepared first
    (endpoint_of (example_base 2) (targets.Coordinator first (record { number = 1; kind = kinds.Durable }))) (codes "k") (codes "v")
    ∷ records.LeafCommitted first ∷ []

-- Without a prepared durable participant the decision is recorded with no seats.
abbrev pub DecidesWithoutSeats : Type 0
DecidesWithoutSeats =
    journal_at 2 (run_of (example_hosts 2) no_participant) ++ journal_at 2 (run_of (example_hosts 3) read_only)
    ≡ records.Start 1 ∷ records.Decided first [] ∷ records.Start 1 ∷ records.Decided first [] ∷ []

-- The initiator's Commit comes once more, when the transaction is over: it hears of the commit again.
abbrev pub CommitsAgain : Type 0
CommitsAgain =
    lines_from 15 (run_of (example_hosts 3) (plain_path ++ deliver_to 2 9 ∷ [])) ≡ line 2 1 (codes "Committed") (codes "/i/1-1") ∷ []

-- A world in which every node is down behind a decision comes to rest.
abbrev pub half_told : List WorldEvent
half_told =
    one_participant votes.Prepared
    ++ (commit_at 1 first ∷ deliver_to 2 9 ∷ deliver_to 3 10 ∷ Turn 2 (Deliver 11) (true ∷ []) (Some 1) ∷ Crash 3 ∷ Crash 1 ∷ [])

abbrev pub HalfToldSettles : Type 0
HalfToldSettles =
    is_settled (run_on (run_of (example_hosts 3) half_told) (settle (run_of (example_hosts 3) half_told))) && not (is_settled (run_of (example_hosts 3) half_told)) ≡ true

-- A leaf that is still Registering ignores the first Prepare: doubt stands after one round, and ends with the second.
abbrev pub still_registering : List WorldEvent
still_registering =
    one_participant votes.Prepared
    ++ (work_at 1 first 3 kinds.Durable votes.Prepared ∷ deliver_to 3 9 ∷ deliver_to 2 10 ∷ commit_at 1 first ∷ deliver_to 2 12 ∷ deliver_to 3 13 ∷ [])

abbrev pub is_settled_behind : ℕ → World → Bool
is_settled_behind n w = is_settled (settle_rounds n (most_deliveries (waiting w)) (all_up w)).world

abbrev pub StillRegisteringSettles : Type 0
StillRegisteringSettles =
    (is_settled_behind 1 (run_of (example_hosts 3) still_registering) ≡ false) × (is_settled_behind 2 (run_of (example_hosts 3) still_registering) ≡ true)

-- A root waits for every durable participant: the one that hasn't answered is told again.
abbrev pub waits_for_all : List WorldEvent
waits_for_all =
    one_participant votes.Prepared
    ++ (work_at 1 first 3 kinds.Durable votes.Prepared ∷ deliver_to 3 9 ∷ deliver_to 2 10 ∷ deliver_to 3 11 ∷ deliver_to 1 12
    ∷ commit_at 1 first ∷ deliver_to 2 13 ∷ deliver_to 3 14 ∷ deliver_to 3 15 ∷ deliver_to 2 16 ∷ deliver_to 2 17
    ∷ deliver_to 3 18 ∷ deliver_to 2 21 ∷ tick_at 2 5000 ∷ deliver_to 3 19 ∷ [])

abbrev pub WaitsForAllMessages : Type 0
WaitsForAllMessages =
    lines_from 18 (run_of (example_hosts 3) waits_for_all)
    ≡ line 2 3 (codes "Commit") (codes "/p/d/1-1")
    ∷ line 2 3 (codes "Commit") (codes "/p/d/1-2")
    ∷ line 2 1 (codes "Committed") (codes "/i/1-1")
    ∷ line 3 2 (codes "Committed") (codes "/c/d/1-1/1")
    ∷ line 2 3 (codes "Commit") (codes "/p/d/1-2")
    ∷ line 3 2 (codes "Committed") (codes "/c/d/1-1/2") ∷ []
