-- A subordinate's link behind a message of its superior.
use Rattle.std.proofs.Common.{◌≡◌, refl, sym, ap, subst, ℕ, List, Option, Some, None, true}
use Rattle.std.specs.List.{list_any}
use Rattle.at_base.specs.declared.epr.Epr.{Epr}
use Rattle.at_base.specs.declared.event.Moment.{Moment}
use Rattle.at_base.specs.declared.notice.Kind.{Kind}
use Rattle.at_base.specs.declared.notice.Kind.TheVariants as kinds
use Rattle.at_tables.specs.declared.cells.State.{State}
use Rattle.at_tables.specs.declared.cells.State.TheVariants as states
use Rattle.at_tables.specs.declared.cells.Act.{Act}
use Rattle.at_tables.specs.declared.cells.Act.TheVariants as acts
use Rattle.at_tables.specs.Names.{is_state}
use Rattle.settling.proofs.Entries.{state_is}
use Rattle.at_model.specs.Book.{Superior, Transaction, Phase}
use Rattle.at_model.specs.Moves.{Change, Goes, Moving, become, begin, stays}
use Rattle.at_model.specs.Seats.{answered, in_phase, in_state, is_open, is_prepared_durable, link_of, moved, under}
use Rattle.at_model.specs.Abort.{Reason, abort, without_links}
use Rattle.at_model.specs.Phases.{advance_in, durable_answered, go_durable, go_volatile, if_durable_answered, prepare_seats, sub_answered, volatile_answered, voted}
use Rattle.at_model.specs.Arrivals.{asked, commit_voted, link_act, link_notice}
use Rattle.cell_laws.specs.NextStates.{Ends, LinksGoOn, MayVote, ParticipantGoes, leaves, link_state, same, state_under, votes}
use Rattle.cell_laws.proofs.Fitting.{commits_voted, participant_fits, participant_next}
use Rattle.cell_laws.proofs.Advances.{by_test}

abbrev Told : State → Kind → Option Transaction → Type 0
Told next kind i = ParticipantGoes next (link_state kind i)

none_under : (kind : Kind) (s : Option Superior) → state_under kind (without_links s) ≡ states.None
none_under kinds.Volatile None = refl
none_under kinds.Durable None = refl
none_under kinds.Volatile (Some s) = refl
none_under kinds.Durable (Some s) = refl

aborted : (next : State) (kind : Kind) (m : Moment) (reason : Reason) (g : Moving Transaction) → ParticipantGoes next states.None → Told next kind (abort m reason g).item
unfolding abort
aborted next kind m reason g k =
    by_test (λ (c : Change Transaction). Told next kind c.item) (list_any (in_state states.Aborting) (moved is_open states.Aborting g.item.seats)) _ _
    (subst (ParticipantGoes next) (sym (none_under kind g.item.superior)) k) k

-- a durable link that was asked
sub_told : (m : Moment) (s : Superior) (to : Option Epr) (g : Moving Transaction) → Ends (Told states.Preparing kinds.Durable) (sub_answered m s to g)
unfolding sub_answered voted
sub_told m s None g = aborted states.Preparing kinds.Durable m _ g leaves
sub_told m s (Some to) g =
    by_test (Ends (Told states.Preparing kinds.Durable)) (list_any is_prepared_durable g.item.seats) _ _
    (votes, aborted states.Preparing kinds.Durable m _ g leaves) leaves

asking : Moment → Kind → Superior → Transaction → Moving Transaction
asking m kind s t = prepare_seats m kinds.Volatile (become (in_phase Phase.Volatile (under (asked kind s) t)) (begin (under (asked kind s) t)))

volatile_told : (m : Moment) (s : Superior) (t : Transaction) → Ends (Told states.Preparing kinds.Volatile) (volatile_answered m (Some (asked kinds.Volatile s)) (asking m kinds.Volatile s t))
unfolding volatile_answered
volatile_told m s t = leaves

durable_told : (m : Moment) (s : Superior) (g : Moving Transaction) → g.item.superior ≡ Some (asked kinds.Durable s) → Ends (Told states.Preparing kinds.Durable) (if_durable_answered m g)
durable_told m s g e =
    by_test (Ends (Told states.Preparing kinds.Durable)) (answered kinds.Durable g.item.seats) (durable_answered m g.item.superior g) (Goes (stays g))
    (subst (λ o. Ends (Told states.Preparing kinds.Durable) (durable_answered m o g)) (sym e) (sub_told m (asked kinds.Durable s) s.durable.coordinator g))
    (subst (ParticipantGoes states.Preparing) (sym (ap (state_under kinds.Durable) e)) (same states.Preparing))

asked_told : (m : Moment) (s : Superior) (t : Transaction) → Ends (Told states.Preparing kinds.Durable) (volatile_answered m (Some (asked kinds.Durable s)) (asking m kinds.Durable s t))
unfolding volatile_answered go_durable asking
asked_told m s t =
    durable_told m s (prepare_seats m kinds.Durable (become (in_phase Phase.Durable (asking m kinds.Durable s t).item) (asking m kinds.Durable s t))) refl

gathered : (m : Moment) (kind : Kind) (s : Superior) (t : Transaction) → Ends (Told states.Preparing kind) (go_volatile m (begin (under (asked kind s) t)))
unfolding go_volatile advance_in asking
gathered m kinds.Volatile s t =
    by_test (Ends (Told states.Preparing kinds.Volatile)) (answered kinds.Volatile (asking m kinds.Volatile s t).item.seats)
    (volatile_answered m (Some (asked kinds.Volatile s)) (asking m kinds.Volatile s t)) (Goes (stays (asking m kinds.Volatile s t))) (volatile_told m s t) (same states.Preparing)
gathered m kinds.Durable s t =
    by_test (Ends (Told states.Preparing kinds.Durable)) (answered kinds.Volatile (asking m kinds.Durable s t).item.seats)
    (volatile_answered m (Some (asked kinds.Durable s)) (asking m kinds.Durable s t)) (Goes (stays (asking m kinds.Durable s t))) (asked_told m s t) (same states.Preparing)

told_to_commit : (m : Moment) (kind : Kind) (s : Superior) (t : Transaction) → MayVote kind (link_of kind s).state → is_state (link_of kind s).state states.PreparedSuccess ≡ true
    → Ends (Told states.Committing kind) (commit_voted m s t)
unfolding commit_voted
told_to_commit m kinds.Volatile s t may v = absurd (may (state_is s.volatile.state states.PreparedSuccess v))
told_to_commit m kinds.Durable s t may v = same states.Committing

stands : (kind : Kind) (s : Superior) (t : Transaction) → t.superior ≡ Some s → ParticipantGoes (link_of kind s).state (state_under kind t.superior)
stands kind s t e = subst (ParticipantGoes (link_of kind s).state) (sym (ap (state_under kind) e)) (same (link_of kind s).state)

by_act : (m : Moment) (from : Option Epr) (id : Option (List ℕ)) (kind : Kind) (s : Superior) (t : Transaction) (act : Act) → t.superior ≡ Some s
    → MayVote kind (link_of kind s).state → (act ≡ acts.Commit → is_state (link_of kind s).state states.PreparedSuccess ≡ true)
    → Ends (Told (participant_next (link_of kind s).state act) kind) (link_act m from id kind s t act)
unfolding link_act
by_act m from id kind s t acts.Ignore e may v = stands kind s t e
by_act m from id kind s t acts.SendPrepared e may v = stands kind s t e
by_act m from id kind s t acts.SendCommit e may v = stands kind s t e
by_act m from id kind s t acts.SendRollback e may v = stands kind s t e
by_act m from id kind s t acts.SendCommitted e may v = stands kind s t e
by_act m from id kind s t acts.SendAborted e may v = stands kind s t e
by_act m from id kind s t acts.FaultUnknownTransaction e may v = stands kind s t e
by_act m from id kind s t acts.FaultInvalidState e may v = stands kind s t e
by_act m from id kind s t acts.FaultInvalidStateAndAbort e may v = aborted states.None kind m _ _ (same states.None)
by_act m from id kind s t acts.Leave e may v = stands kind s t e
by_act m from id kind s t acts.LeaveAndAbort e may v = stands kind s t e
by_act m from id kind s t acts.Vote e may v = stands kind s t e
by_act m from id kind s t acts.Gather e may v = gathered m kind s t
by_act m from id kind s t acts.Commit e may v = told_to_commit m kind s t may (v refl)
by_act m from id kind s t acts.AbortAndSendAborted e may v = aborted states.None kind m _ _ (same states.None)
by_act m from id kind s t acts.RecordAndSendAborted e may v = aborted states.None kind m _ _ (same states.None)
by_act m from id kind s t acts.Complete e may v = stands kind s t e
by_act m from id kind s t acts.TellCommitted e may v = stands kind s t e
by_act m from id kind s t acts.TellAborted e may v = stands kind s t e

pub links_go_on : LinksGoOn
unfolding link_notice
links_go_on m from id kind s t n c e may k =
    subst (λ next. Ends (Told next kind) (link_act m from id kind s t c.act))
    (sym (state_is c.next (participant_next (link_of kind s).state c.act) (participant_fits kind (link_of kind s).state n c k)))
    (by_act m from id kind s t c.act e may (commits_voted kind (link_of kind s).state n c k))
