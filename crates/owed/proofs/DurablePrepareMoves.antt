-- So goes whatever moves a transaction.
use Rattle.std.specs.Prelude.{ℕ, List, [], ◌∷◌, Option, Some, None, Bool, true, false, ◌&&◌, ◌||◌, if◌then◌else◌, ◌≡◌, ◌⊎◌, refl}
use Rattle.std.proofs.Common.{inl, inr, ap, sym, subst, ◌∙◌}
use Rattle.at_base.specs.declared.fault.Fault.TheVariants.{InvalidState, UnknownTransaction}
use Rattle.at_base.specs.declared.epr.Epr.{Epr}
use Rattle.at_base.specs.declared.notice.Kind.{Kind}
use Rattle.at_base.specs.declared.notice.Kind.TheVariants as kinds
use Rattle.at_base.specs.declared.notice.Notice.{Notice}
use Rattle.at_base.specs.declared.notice.Notice.TheVariants as notices
use Rattle.at_base.specs.declared.message.Message.{Message}
use Rattle.at_base.specs.declared.message.Message.TheVariants as messages
use Rattle.at_base.specs.declared.target.Target.TheVariants as targets
use Rattle.at_base.specs.declared.event.Arrived.{Arrived}
use Rattle.at_base.specs.declared.event.Moment.{Moment}
use Rattle.at_base.specs.declared.outs.Post.{Post}
use Rattle.at_tables.specs.declared.cells.State.TheVariants as states
use Rattle.at_tables.specs.declared.cells.Act.{Act}
use Rattle.at_tables.specs.declared.cells.Act.TheVariants as acts
use Rattle.at_tables.specs.declared.cells.Cell.{Cell}
use Rattle.at_tables.specs.Names.{is_state}
use Rattle.at_tables.specs.Tables.{completion_of, coordinator_of, participant_of}
use Rattle.endpoints.specs.Addresses.{register_id}
use Rattle.at_model.specs.Book.{Completion, Enlistment, Phase, Superior, Transaction}
use Rattle.at_model.specs.Moves.{begin, post, posts}
use Rattle.at_model.specs.Posts.{fault_post, notice_post, stored_or, stranger_post, to_each}
use Rattle.at_model.specs.Seats.{in_state, link_of, notices_to, seat_in, seat_target, set_link, under}
use Rattle.at_model.specs.Abort.{Alone, Asked, Faulted}
use Rattle.at_model.specs.Phases.{go_volatile, upwards}
use Rattle.at_model.specs.Arrivals.{asked, commit_voted, completion_act, completion_notice, link_act, link_fault, link_notice, link_registered, on_completion, on_link, on_seat, registered, relates_to, seat_act, seat_notice}
use Rattle.model_laws.specs.Links.{AreIn}
use Rattle.model_laws.proofs.LinkDecisions.{Linked, known}
use Rattle.owed.specs.DurablePrepares.{GoesOn, has_asked}
use Rattle.owed.specs.Shape.{IsShaped}
use Rattle.owed.proofs.DurablePrepares.{AllGo, Clean, Mine, abort_goes, advance_goes, clean_mine, each_clean, either, go_volatile_goes, no_own, notices_clean, other_notice, other_own, upwards_clean}
use Rattle.owed.proofs.LinkTable.{LinkHears, LinkHearsCell, link_hears}
use Rattle.owed.proofs.OtherMoves.{Hears, HearsCell, completion_hears, is_active}
use Rattle.owed.proofs.LinkRules.{differs}

-- it stays in its phase
pub stays_goes : (t x : Transaction) (ps : List Post) → has_asked x.phase ≡ has_asked t.phase → Clean ps → GoesOn (has_asked t.phase) t.id (record { item = Some x; posts = ps; effects = [] })
stays_goes t x ps e h = by_case (has_asked t.phase) refl
  where
    by_case : (b : Bool) → has_asked t.phase ≡ b → ((has_asked x.phase ≡ true) × Mine t.id ps) ⊎ ((has_asked t.phase ≡ false) × Clean ps)
    by_case true f = inl (e ∙ f, clean_mine t.id ps h)
    by_case false f = inr (f, h)

seat_act_goes : (m : Moment) (i : Option (List ℕ)) (t : Transaction) (s : Enlistment) (act : Act) → AllGo (has_asked t.phase) t.id (seat_act m i t s act)
unfolding seat_act
seat_act_goes m i t s acts.Vote = advance_goes t.id m t.phase (begin (seat_in s.number states.Prepared t)) refl refl tt
seat_act_goes m i t s acts.Leave = advance_goes t.id m t.phase (begin (seat_in s.number states.None t)) refl refl tt
seat_act_goes m i t s acts.LeaveAndAbort = abort_goes (has_asked t.phase) t.id m Alone (begin (seat_in s.number states.None t)) refl tt
seat_act_goes m i t s acts.FaultInvalidStateAndAbort =
    abort_goes (has_asked t.phase) t.id m Alone (post (fault_post (Some s.participant) i InvalidState) (begin t)) refl
    (clean_mine t.id (fault_post (Some s.participant) i InvalidState ∷ []) (no_own (fault_post (Some s.participant) i InvalidState) refl, tt))
seat_act_goes m i t s acts.SendCommit =
    stays_goes t t (notice_post m.base (seat_target t.id s) s.participant notices.Commit ∷ []) refl (other_notice notices.Commit (notice_post m.base (seat_target t.id s) s.participant notices.Commit) refl (λ f. cc), tt)
seat_act_goes m i t s acts.SendRollback =
    either (has_asked t.phase) t.id (in_state states.None s) _ _
    (λ f. stays_goes t t (stranger_post m.base (seat_target t.id s) s.participant notices.Rollback ∷ []) refl (no_own (stranger_post m.base (seat_target t.id s) s.participant notices.Rollback) refl, tt))
    (λ f. stays_goes t t (notice_post m.base (seat_target t.id s) s.participant notices.Rollback ∷ []) refl
    (other_notice notices.Rollback (notice_post m.base (seat_target t.id s) s.participant notices.Rollback) refl (λ g. cc), tt))
seat_act_goes m i t s acts.FaultUnknownTransaction = stays_goes t t (fault_post (Some s.participant) i UnknownTransaction ∷ []) refl (no_own (fault_post (Some s.participant) i UnknownTransaction) refl, tt)
seat_act_goes m i t s acts.FaultInvalidState = stays_goes t t (fault_post (Some s.participant) i InvalidState ∷ []) refl (no_own (fault_post (Some s.participant) i InvalidState) refl, tt)
seat_act_goes m i t s other = stays_goes t t [] refl tt

seat_notice_goes : (m : Moment) (i : Option (List ℕ)) (t : Transaction) (s : Enlistment) (c : Option Cell) → AllGo (has_asked t.phase) t.id (seat_notice m i t s c)
unfolding seat_notice
seat_notice_goes m i t s None = stays_goes t t [] refl tt
seat_notice_goes m i t s (Some c) = seat_act_goes m i t s c.act

pub seat_goes : (m : Moment) (a : Arrived) (t : Transaction) (s : Enlistment) (x : Message) → AllGo (has_asked t.phase) t.id (on_seat m a t s x)
unfolding on_seat
seat_goes m a t s (messages.Notice n) = seat_notice_goes m a.id t s (coordinator_of s.kind s.state n)
seat_goes m a t s other = stays_goes t t [] refl tt

-- a link that is asked is one of a transaction that hasn't asked
early : (phase : Phase) (kind : Kind) (s : Superior) → AreIn phase s.volatile.state s.durable.state → (link_of kind s).state ≡ states.Active → has_asked phase ≡ false
early Phase.Registering kind s h e = refl
early Phase.Active kind s h e = refl
early Phase.Volatile kind s h e = refl
early Phase.Durable kinds.Volatile s (v, d) e = absurd (differs s.volatile.state states.None states.Active v refl e)
early Phase.Durable kinds.Durable s (v, d) e = absurd (differs s.durable.state states.Preparing states.Active d refl e)
early Phase.Voted kinds.Volatile s (v, d) e = absurd (differs s.volatile.state states.None states.Active v refl e)
early Phase.Voted kinds.Durable s (v, d) e = absurd (differs s.durable.state states.PreparedSuccess states.Active d refl e)
early Phase.Committing kinds.Volatile s (v, d) e = absurd (differs s.volatile.state states.None states.Active v refl e)
early Phase.Committing kinds.Durable s (v, d) e = absurd (differs s.durable.state states.Committing states.Active d refl e)
early Phase.Aborting kinds.Volatile s (v, d) e = absurd (differs s.volatile.state states.None states.Active v refl e)
early Phase.Aborting kinds.Durable s (v, d) e = absurd (differs s.durable.state states.None states.Active d refl e)

gathers : (m : Moment) (kind : Kind) (t : Transaction) (s : Superior) → has_asked t.phase ≡ false → AllGo (has_asked t.phase) t.id (go_volatile m (begin (under (asked kind s) t)))
gathers m kind t s f = subst (λ b. AllGo b t.id (go_volatile m (begin (under (asked kind s) t)))) (sym f) (go_volatile_goes t.id m (begin (under (asked kind s) t)) refl tt)

commit_goes : (late : Bool) (m : Moment) (s : Superior) (t : Transaction) → AllGo late t.id (commit_voted m s t)
unfolding commit_voted
commit_goes late m s t = record {
  entry = tt;
  landed = inl (refl, clean_mine t.id (notices_to m.base t.id notices.Commit t.seats (in_state states.Prepared)) (notices_clean m.base t.id notices.Commit t.seats (in_state states.Prepared) (λ f. cc)));
  otherwise = tt;
}

link_act_goes : (m : Moment) (from : Option Epr) (i : Option (List ℕ)) (kind : Kind) (s : Superior) (t : Transaction) (n : Notice) (act : Act) → t.superior ≡ Some s → Linked t
    → LinkHears (link_of kind s).state n act → AllGo (has_asked t.phase) t.id (link_act m from i kind s t act)
unfolding link_act
link_act_goes m from i kind s t n acts.Gather u l k = gathers m kind t s (early t.phase kind s (known t s u l).0 k.0)
link_act_goes m from i kind s t n acts.Commit u l k = commit_goes (has_asked t.phase) m s t
link_act_goes m from i kind s t n acts.AbortAndSendAborted u l k = abort_goes (has_asked t.phase) t.id m (Asked kind from) (begin t) refl tt
link_act_goes m from i kind s t n acts.RecordAndSendAborted u l k = record { entry = tt; landed = abort_goes (has_asked t.phase) t.id m (Asked kind from) (begin t) refl tt; otherwise = tt }
link_act_goes m from i kind s t n acts.FaultInvalidStateAndAbort u l k =
    abort_goes (has_asked t.phase) t.id m (Faulted kind) (posts (to_each (stored_or (link_of kind s).coordinator from) (λ to. fault_post (Some to) i InvalidState)) (begin t)) refl
    (clean_mine t.id _ (each_clean (stored_or (link_of kind s).coordinator from) (λ to. fault_post (Some to) i InvalidState) (λ to. no_own _ refl)))
link_act_goes m from i kind s t n acts.SendPrepared u l k = stays_goes t t (upwards m.base t.id kind notices.Prepared (link_of kind s)) refl (upwards_clean m.base t.id kind notices.Prepared (link_of kind s))
link_act_goes m from i kind s t n acts.SendCommitted u l k =
    stays_goes t t (to_each (stored_or (link_of kind s).coordinator from) (λ to. stranger_post m.base (targets.Participant t.id kind) to notices.Committed)) refl
    (each_clean (stored_or (link_of kind s).coordinator from) (λ to. stranger_post m.base (targets.Participant t.id kind) to notices.Committed) (λ to. no_own _ refl))
link_act_goes m from i kind s t n acts.SendAborted u l k =
    stays_goes t t (to_each (stored_or (link_of kind s).coordinator from) (λ to. stranger_post m.base (targets.Participant t.id kind) to notices.Aborted)) refl
    (each_clean (stored_or (link_of kind s).coordinator from) (λ to. stranger_post m.base (targets.Participant t.id kind) to notices.Aborted) (λ to. no_own _ refl))
link_act_goes m from i kind s t n acts.FaultInvalidState u l k =
    stays_goes t t (to_each (stored_or (link_of kind s).coordinator from) (λ to. fault_post (Some to) i InvalidState)) refl
    (each_clean (stored_or (link_of kind s).coordinator from) (λ to. fault_post (Some to) i InvalidState) (λ to. no_own _ refl))
link_act_goes m from i kind s t n other u l k = stays_goes t t [] refl tt

link_notice_goes : (m : Moment) (from : Option Epr) (i : Option (List ℕ)) (kind : Kind) (s : Superior) (t : Transaction) (n : Notice) (c : Option Cell) → t.superior ≡ Some s → Linked t
    → LinkHearsCell (link_of kind s).state n c → AllGo (has_asked t.phase) t.id (link_notice m from i kind s t c)
unfolding link_notice
link_notice_goes m from i kind s t n None u l k = stays_goes t t [] refl tt
link_notice_goes m from i kind s t n (Some c) u l k = link_act_goes m from i kind s t n c.act u l k

registered_asked : (s : Superior) (phase : Phase) → has_asked (registered s phase) ≡ has_asked phase
registered_asked s Phase.Registering = by_test (is_state s.volatile.state states.Registering || is_state s.durable.state states.Registering)
  where
    by_test : (b : Bool) → has_asked (if b then Phase.Registering else Phase.Active) ≡ false
    by_test true = refl
    by_test false = refl
registered_asked s Phase.Active = refl
registered_asked s Phase.Volatile = refl
registered_asked s Phase.Durable = refl
registered_asked s Phase.Voted = refl
registered_asked s Phase.Committing = refl
registered_asked s Phase.Aborting = refl

registered_goes : (m : Moment) (relates : Option (List ℕ)) (coordinator : Epr) (kind : Kind) (s : Superior) (t : Transaction) → AllGo (has_asked t.phase) t.id (link_registered m relates coordinator kind s t)
unfolding link_registered
registered_goes m relates coordinator kind s t =
    either (has_asked t.phase) t.id (is_state (link_of kind s).state states.Registering && relates_to relates (register_id m.base (targets.Participant t.id kind))) _ _
    (λ f. stays_goes t (record t {
      superior = Some (set_link kind (record { state = states.Active; coordinator = Some coordinator }) s);
      phase = registered (set_link kind (record { state = states.Active; coordinator = Some coordinator }) s) t.phase;
    }) [] (registered_asked (set_link kind (record { state = states.Active; coordinator = Some coordinator }) s) t.phase) tt)
    (λ f. stays_goes t t [] refl tt)

fault_goes : (m : Moment) (relates : Option (List ℕ)) (kind : Kind) (s : Superior) (t : Transaction) → AllGo (has_asked t.phase) t.id (link_fault m relates kind s t)
unfolding link_fault
fault_goes m relates kind s t =
    either (has_asked t.phase) t.id (is_state (link_of kind s).state states.Registering && relates_to relates (register_id m.base (targets.Participant t.id kind))) _ _
    (λ f. abort_goes (has_asked t.phase) t.id m Alone (begin t) refl tt) (λ f. stays_goes t t [] refl tt)

pub link_goes : (m : Moment) (a : Arrived) (kind : Kind) (t : Transaction) (s : Superior) (x : Message) → t.superior ≡ Some s → Linked t → AllGo (has_asked t.phase) t.id (on_link m a kind t s x)
unfolding on_link
link_goes m a kind t s (messages.Notice n) u l = link_notice_goes m a.from a.id kind s t n (participant_of kind (link_of kind s).state n) u l (link_hears kind (link_of kind s).state n)
link_goes m a kind t s (messages.RegisterResponse coordinator) u l = registered_goes m a.relates coordinator kind s t
link_goes m a kind t s (messages.Fault name) u l = fault_goes m a.relates kind s t
link_goes m a kind t s other u l = stays_goes t t [] refl tt

-- the initiator
completion_act_goes : (m : Moment) (from : Option Epr) (i : Option (List ℕ)) (c : Completion) (t : Transaction) (act : Act) → t.completion ≡ Some c → Linked t → IsShaped t → Hears c.state act
    → AllGo (has_asked t.phase) t.id (completion_act m from i c t act)
unfolding completion_act
completion_act_goes m from i c t acts.Complete there l h k =
    subst (λ b. AllGo b t.id (go_volatile m (begin (record t { completion = Some (record c { state = states.Completing }) })))) (sym (ap has_asked (is_active t c there l h k)))
    (go_volatile_goes t.id m (begin (record t { completion = Some (record c { state = states.Completing }) })) refl tt)
completion_act_goes m from i c t acts.AbortAndSendAborted there l h k = abort_goes (has_asked t.phase) t.id m Alone (begin t) refl tt
completion_act_goes m from i c t acts.SendCommitted there l h k =
    stays_goes t t (to_each from (λ to. notice_post m.base (targets.Completion t.id) to notices.Committed)) refl
    (each_clean from (λ to. notice_post m.base (targets.Completion t.id) to notices.Committed) (λ to. other_own (targets.Completion t.id) _ refl (λ x. x)))
completion_act_goes m from i c t acts.FaultUnknownTransaction there l h k = stays_goes t t (fault_post (Some c.initiator) i UnknownTransaction ∷ []) refl (no_own (fault_post (Some c.initiator) i UnknownTransaction) refl, tt)
completion_act_goes m from i c t acts.FaultInvalidState there l h k = stays_goes t t (fault_post (Some c.initiator) i InvalidState ∷ []) refl (no_own (fault_post (Some c.initiator) i InvalidState) refl, tt)
completion_act_goes m from i c t other there l h k = stays_goes t t [] refl tt

completion_notice_goes : (m : Moment) (from : Option Epr) (i : Option (List ℕ)) (c : Completion) (t : Transaction) (cell : Option Cell) → t.completion ≡ Some c → Linked t → IsShaped t
    → HearsCell c.state cell → AllGo (has_asked t.phase) t.id (completion_notice m from i c t cell)
unfolding completion_notice
completion_notice_goes m from i c t None there l h k = stays_goes t t [] refl tt
completion_notice_goes m from i c t (Some cell) there l h k = completion_act_goes m from i c t cell.act there l h k

pub completion_goes : (m : Moment) (a : Arrived) (t : Transaction) (c : Completion) (x : Message) → t.completion ≡ Some c → Linked t → IsShaped t → AllGo (has_asked t.phase) t.id (on_completion m a t c x)
unfolding on_completion
completion_goes m a t c (messages.Notice n) there l h = completion_notice_goes m a.from a.id c t (completion_of c.state n) there l h (completion_hears c.state n)
completion_goes m a t c other there l h = stays_goes t t [] refl tt
