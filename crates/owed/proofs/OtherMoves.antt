-- What else moves a transaction: an answer to its Register, its initiator, and time; and the answer to its request.
use Rattle.std.specs.Prelude.{ℕ, List, [], ◌∷◌, Option, Some, None, Bool, true, false, ◌&&◌, ◌||◌, if◌then◌else◌, ◌≡◌, refl}
use Rattle.std.proofs.Common.{sym, subst, ◌∙◌}
use Rattle.at_base.specs.declared.fault.Fault.TheVariants.{InvalidState, UnknownTransaction}
use Rattle.at_base.specs.declared.epr.Epr.{Epr}
use Rattle.at_base.specs.declared.notice.Kind.{Kind}
use Rattle.at_base.specs.declared.notice.Kind.TheVariants as kinds
use Rattle.at_base.specs.declared.notice.Notice.{Notice}
use Rattle.at_base.specs.declared.notice.Notice.TheVariants as notices
use Rattle.at_base.specs.declared.message.Message.{Message}
use Rattle.at_base.specs.declared.message.Message.TheVariants as messages
use Rattle.at_base.specs.declared.target.Target.TheVariants as targets
use Rattle.at_base.specs.declared.event.Arrived.{Arrived}
use Rattle.at_base.specs.declared.event.Event.{Event}
use Rattle.at_base.specs.declared.event.Moment.{Moment}
use Rattle.at_tables.specs.declared.cells.State.{State}
use Rattle.at_tables.specs.declared.cells.State.TheVariants as states
use Rattle.at_tables.specs.declared.cells.Act.{Act}
use Rattle.at_tables.specs.declared.cells.Act.TheVariants as acts
use Rattle.at_tables.specs.declared.cells.Cell.{Cell}
use Rattle.at_tables.specs.Names.{is_state}
use Rattle.at_tables.specs.Tables.{completion_of, participant_of}
use Rattle.endpoints.specs.Addresses.{register_id}
use Rattle.at_model.specs.Book.{Completion, Phase, Superior, Transaction}
use Rattle.at_model.specs.Moves.{begin}
use Rattle.at_model.specs.Posts.{fault_post, notice_post, to_each}
use Rattle.at_model.specs.Seats.{link_of, set_link}
use Rattle.at_model.specs.Abort.{Alone}
use Rattle.at_model.specs.Arrivals.{completion_act, completion_notice, link_fault, link_registered, on_completion, on_link, registered, relates_to}
use Rattle.at_model.specs.Due.{Reached, Expired, Over, Unanswered, Nothing, has_come, is_aborting, is_over, is_quiet, is_some_post, may_expire, transaction_again, transaction_due, transaction_reached}
use Rattle.model_laws.specs.Links.{AreLinked}
use Rattle.model_laws.proofs.DecisionLaws.{first_true}
use Rattle.model_laws.proofs.LinkDecisions.{Linked, known}
use Rattle.owed.specs.Shape.{AreSuited, IsShaped, LinksKnow, RootStands, StandsUnder, Waits, suits}
use Rattle.owed.proofs.PhaseAdvances.{Askable, go_volatile_owes}
use Rattle.owed.proofs.AtSeats.{same_owed}
use Rattle.owed.proofs.LinkTable.{MayRoll, link_hears}
use Rattle.owed.proofs.OnLinks.{IsQuiet, aborts_from, begin_along, link_notice_owes, links_know, quiet_all, rolls_undecided, still_left}
use Rattle.owed.proofs.Rules.{Owes, either, none_left}
use Rattle.owed.proofs.Tables.{are_more}

-- its Register is answered
registered_shaped : (t : Transaction) (s : Superior) → LinksKnow s → IsShaped t → IsShaped (record t { superior = Some s; phase = registered s t.phase })
registered_shaped t s k h = by_phase t.phase refl
  where
    by_test : (b : Bool) → t.phase ≡ Phase.Registering
        → AreSuited (if b then Phase.Registering else Phase.Active) t.seats × (Waits (if b then Phase.Registering else Phase.Active) t.seats × LinksKnow s)
    by_test true f = (subst (λ p. AreSuited p t.seats) f h.0, (tt, k))
    by_test false f = (are_more (suits Phase.Registering) (suits Phase.Active) refl t.seats (subst (λ p. AreSuited p t.seats) f h.0), (tt, k))

    by_phase : (p : Phase) → t.phase ≡ p → AreSuited (registered s p) t.seats × (Waits (registered s p) t.seats × LinksKnow s)
    by_phase Phase.Registering f = by_test (is_state s.volatile.state states.Registering || is_state s.durable.state states.Registering) f
    by_phase Phase.Active f = (subst (λ p. AreSuited p t.seats) f h.0, (subst (λ p. Waits p t.seats) f h.1.0, k))
    by_phase Phase.Volatile f = (subst (λ p. AreSuited p t.seats) f h.0, (subst (λ p. Waits p t.seats) f h.1.0, k))
    by_phase Phase.Durable f = (subst (λ p. AreSuited p t.seats) f h.0, (subst (λ p. Waits p t.seats) f h.1.0, k))
    by_phase Phase.Voted f = (subst (λ p. AreSuited p t.seats) f h.0, (subst (λ p. Waits p t.seats) f h.1.0, k))
    by_phase Phase.Committing f = (subst (λ p. AreSuited p t.seats) f h.0, (subst (λ p. Waits p t.seats) f h.1.0, k))
    by_phase Phase.Aborting f = (subst (λ p. AreSuited p t.seats) f h.0, (subst (λ p. Waits p t.seats) f h.1.0, k))

joined_knows : (kind : Kind) (s : Superior) (coordinator : Epr) → LinksKnow s → LinksKnow (set_link kind (record { state = states.Active; coordinator = Some coordinator }) s)
joined_knows kinds.Volatile s coordinator h = (refl, h.1)
joined_knows kinds.Durable s coordinator h = (h.0, refl)

registered_owes : (m : Moment) (e : Event) (relates : Option (List ℕ)) (coordinator : Epr) (kind : Kind) (s : Superior) (t : Transaction) → t.superior ≡ Some s → IsShaped t → IsQuiet e t
    → Owes m e t (link_registered m relates coordinator kind s t)
unfolding link_registered
registered_owes m e relates coordinator kind s t u h q =
    either m e t (is_state (link_of kind s).state states.Registering && relates_to relates (register_id m.base (targets.Participant t.id kind))) _ _
    (λ f. (
      registered_shaped t (set_link kind (record { state = states.Active; coordinator = Some coordinator }) s) (joined_knows kind s coordinator (links_know t s u h)) h,
      (refl, same_owed m e t [] t.seats (quiet_all e t [] t.seats q)),
    ))
    (λ f. still_left m e t t.sent [] h q)

rolls_so : (state : State) → is_state state states.Registering ≡ true → MayRoll state
rolls_so states.Registering f = tt
rolls_so other f = absurd cc

fault_owes : (m : Moment) (e : Event) (relates : Option (List ℕ)) (kind : Kind) (s : Superior) (t : Transaction) → t.superior ≡ Some s → Linked t → IsShaped t → IsQuiet e t
    → Owes m e t (link_fault m relates kind s t)
unfolding link_fault
fault_owes m e relates kind s t u l h q =
    either m e t (is_state (link_of kind s).state states.Registering && relates_to relates (register_id m.base (targets.Participant t.id kind))) _ _
    (λ f. aborts_from m e Alone t [] h q
    (rolls_undecided t.phase kind s (known t s u l).0
    (rolls_so (link_of kind s).state (first_true (is_state (link_of kind s).state states.Registering) (relates_to relates (register_id m.base (targets.Participant t.id kind))) f))))
    (λ f. still_left m e t t.sent [] h q)

pub link_owes : (m : Moment) (e : Event) (a : Arrived) (kind : Kind) (t : Transaction) (s : Superior) (x : Message) → t.superior ≡ Some s → Linked t → IsShaped t → IsQuiet e t
    → Owes m e t (on_link m a kind t s x)
unfolding on_link
link_owes m e a kind t s (messages.Notice n) u l h q =
    link_notice_owes m e a.from a.id kind s t n (participant_of kind (link_of kind s).state n) u l h q (link_hears kind (link_of kind s).state n)
link_owes m e a kind t s (messages.RegisterResponse coordinator) u l h q = registered_owes m e a.relates coordinator kind s t u h q
link_owes m e a kind t s (messages.Fault name) u l h q = fault_owes m e a.relates kind s t u l h q
link_owes m e a kind t s other u l h q = still_left m e t t.sent [] h q

-- the initiator
abbrev pub Hears : State → Act → Type 0
Hears state acts.Complete = state ≡ states.Active
Hears state acts.AbortAndSendAborted = state ≡ states.Active
Hears state other = Unit {0}

abbrev pub HearsCell : State → Option Cell → Type 0
HearsCell state None = Unit {0}
HearsCell state (Some c) = Hears state c.act

pub completion_hears : (state : State) (n : Notice) → HearsCell state (completion_of state n)
completion_hears states.Active notices.Commit = refl
completion_hears states.Active notices.Rollback = refl
completion_hears states.Active other = tt
completion_hears states.None notices.Commit = tt
completion_hears states.None notices.Rollback = tt
completion_hears states.None other = tt
completion_hears states.Completing notices.Commit = tt
completion_hears states.Completing notices.Rollback = tt
completion_hears states.Completing other = tt
completion_hears states.Done notices.Commit = tt
completion_hears states.Done notices.Rollback = tt
completion_hears states.Done other = tt
completion_hears states.Registering notices.Commit = tt
completion_hears states.Registering other = tt
completion_hears states.Preparing notices.Commit = tt
completion_hears states.Preparing other = tt
completion_hears states.Prepared notices.Commit = tt
completion_hears states.Prepared other = tt
completion_hears states.PreparedSuccess notices.Commit = tt
completion_hears states.PreparedSuccess other = tt
completion_hears states.Committing notices.Commit = tt
completion_hears states.Committing other = tt
completion_hears states.Aborting notices.Commit = tt
completion_hears states.Aborting other = tt

root_alone : (phase : Phase) (s : Option Superior) (c : Option Completion) (initiator : Completion) → AreLinked phase s c → c ≡ Some initiator → s ≡ None
root_alone phase None c initiator h e = refl
root_alone phase (Some s) c initiator h e = let f : c ≡ None = h.1 in cc

-- an initiator may complete only what is Active
active_root : (phase : Phase) (c : Completion) → RootStands phase (Some c) → c.state ≡ states.Active → phase ≡ Phase.Active
active_root Phase.Registering c h e = absurd h
active_root Phase.Active c h e = refl
active_root Phase.Volatile c (h, k) e = let f : states.Completing ≡ states.Active = sym h ∙ e in absurd cc
active_root Phase.Durable c (h, k) e = let f : states.Completing ≡ states.Active = sym h ∙ e in absurd cc
active_root Phase.Voted c h e = absurd h
active_root Phase.Committing c h e = let f : states.Done ≡ states.Active = sym h ∙ e in absurd cc
active_root Phase.Aborting c h e = let f : states.None ≡ states.Active = sym h ∙ e in absurd cc

pub is_active : (t : Transaction) (c : Completion) → t.completion ≡ Some c → Linked t → IsShaped t → c.state ≡ states.Active → t.phase ≡ Phase.Active
is_active t c there l h e =
    active_root t.phase c
    (subst (λ x. RootStands t.phase x) there (subst (λ x. StandsUnder t.phase x t.completion) (root_alone t.phase t.superior t.completion c l there) h.1.1)) e

completion_act_owes : (m : Moment) (e : Event) (from : Option Epr) (i : Option (List ℕ)) (c : Completion) (t : Transaction) (act : Act) → t.completion ≡ Some c → Linked t → IsShaped t → IsQuiet e t
    → Hears c.state act → Owes m e t (completion_act m from i c t act)
unfolding completion_act
completion_act_owes m e from i c t acts.Complete there l h q k =
    let root : t.superior ≡ None = root_alone t.phase t.superior t.completion c l there in
    let active : t.phase ≡ Phase.Active = is_active t c there l h k in
    go_volatile_owes m e t (suits t.phase) (begin (record t { completion = Some (record c { state = states.Completing }) })) (subst (λ p. Askable (suits p)) (sym active) refl) (begin_along m e t [] h q)
    (subst (λ x. StandsUnder Phase.Volatile x (Some (record c { state = states.Completing }))) (sym root) (refl, refl))
    (subst (λ x. AreLinked Phase.Volatile x (Some (record c { state = states.Completing }))) (sym root) tt)
completion_act_owes m e from i c t acts.AbortAndSendAborted there l h q k =
    aborts_from m e Alone t [] h q (λ f. let g : Phase.Active ≡ Phase.Committing = sym (is_active t c there l h k) ∙ f in cc)
completion_act_owes m e from i c t acts.SendCommitted there l h q k =
    still_left m e t t.sent (to_each from (λ to. notice_post m.base (targets.Completion t.id) to notices.Committed)) h q
completion_act_owes m e from i c t acts.FaultUnknownTransaction there l h q k = still_left m e t t.sent (fault_post (Some c.initiator) i UnknownTransaction ∷ []) h q
completion_act_owes m e from i c t acts.FaultInvalidState there l h q k = still_left m e t t.sent (fault_post (Some c.initiator) i InvalidState ∷ []) h q
completion_act_owes m e from i c t other there l h q k = still_left m e t t.sent [] h q

completion_notice_owes : (m : Moment) (e : Event) (from : Option Epr) (i : Option (List ℕ)) (c : Completion) (t : Transaction) (cell : Option Cell) → t.completion ≡ Some c → Linked t → IsShaped t
    → IsQuiet e t → HearsCell c.state cell → Owes m e t (completion_notice m from i c t cell)
unfolding completion_notice
completion_notice_owes m e from i c t None there l h q k = still_left m e t t.sent [] h q
completion_notice_owes m e from i c t (Some cell) there l h q k = completion_act_owes m e from i c t cell.act there l h q k

pub completion_owes : (m : Moment) (e : Event) (a : Arrived) (t : Transaction) (c : Completion) (x : Message) → t.completion ≡ Some c → Linked t → IsShaped t → IsQuiet e t
    → Owes m e t (on_completion m a t c x)
unfolding on_completion
completion_owes m e a t c (messages.Notice n) there l h q = completion_notice_owes m e a.from a.id c t (completion_of c.state n) there l h q (completion_hears c.state n)
completion_owes m e a t c other there l h q = still_left m e t t.sent [] h q

-- time
abbrev pub DueSays : Transaction → Reached → Type 0
DueSays t Expired = may_expire t.phase ≡ true
DueSays t Over = is_aborting t.phase ≡ true
DueSays t Unanswered = Unit {0}
DueSays t Nothing = Unit {0}

pub due_says : (m : Moment) (t : Transaction) → DueSays t (transaction_due m t)
due_says m t =
    by_tests (may_expire t.phase) (has_come m.now t.deadline) (is_aborting t.phase) (is_over m.now t.aborted) (is_quiet m.now t.sent && is_some_post (transaction_again m.base t)) refl refl
  where
    by_tests : (a b c d f : Bool) → may_expire t.phase ≡ a → is_aborting t.phase ≡ c → DueSays t (if a && b then Expired else if c && d then Over else if f then Unanswered else Nothing)
    by_tests true true c d f g h = g
    by_tests true false true true f g h = h
    by_tests true false true false true g h = tt
    by_tests true false true false false g h = tt
    by_tests true false false d true g h = tt
    by_tests true false false d false g h = tt
    by_tests false b true true f g h = h
    by_tests false b true false true g h = tt
    by_tests false b true false false g h = tt
    by_tests false b false d true g h = tt
    by_tests false b false d false g h = tt

only_aborting : (phase : Phase) → is_aborting phase ≡ true → phase ≡ Phase.Aborting
only_aborting Phase.Aborting e = refl
only_aborting other e = absurd cc

reached_owes : (m : Moment) (e : Event) (t : Transaction) (reached : Reached) → DueSays t reached → IsShaped t → IsQuiet e t → Owes m e t (transaction_reached m t reached)
unfolding transaction_reached
reached_owes m e t Expired d h q = aborts_from m e Alone t [] h q (λ f. let g : may_expire Phase.Committing ≡ true = subst (λ p. may_expire p ≡ true) f d in cc)
reached_owes m e t Over d h q =
    none_left e t (suits Phase.Aborting) t.id t.seats [] refl (subst (λ p. Rattle.owed.proofs.Rules.From e t (suits p) t.id t.seats []) (only_aborting t.phase d) (begin_along m e t [] h q).0)
reached_owes m e t Unanswered d h q = still_left m e t (Some m.now) (transaction_again m.base t) h q
reached_owes m e t Nothing d h q = still_left m e t t.sent [] h q

pub due_owes : (m : Moment) (e : Event) (t : Transaction) → IsShaped t → IsQuiet e t → Owes m e t (transaction_reached m t (transaction_due m t))
due_owes m e t h q = reached_owes m e t (transaction_due m t) (due_says m t) h q
