-- A message on a link, at the completion seat, and what is due.
use Rattle.std.specs.Prelude.{ℕ, List, [], ◌∷◌, Option, Some, None, true, false, ◌≡◌, refl}
use Rattle.std.specs.List.{list_any, AllByRecursion}
use Rattle.std.proofs.Common.{inl, inr, sym, subst, ◌∙◌}
use Rattle.at_base.specs.declared.fault.Fault.TheVariants.{InvalidState}
use Rattle.at_base.specs.declared.epr.Epr.{Epr}
use Rattle.at_base.specs.declared.notice.Kind.{Kind}
use Rattle.at_base.specs.declared.notice.Kind.TheVariants as kinds
use Rattle.at_base.specs.declared.notice.Notice.{Notice}
use Rattle.at_base.specs.declared.notice.Notice.TheVariants as notices
use Rattle.at_base.specs.declared.target.Target.TheVariants as targets
use Rattle.at_base.specs.declared.event.Event.{Event}
use Rattle.at_base.specs.declared.event.Moment.{Moment}
use Rattle.at_base.specs.declared.outs.Post.{Post}
use Rattle.at_base.specs.declared.outs.Ending.TheVariants as endings
use Rattle.at_tables.specs.declared.cells.State.{State}
use Rattle.at_tables.specs.declared.cells.State.TheVariants as states
use Rattle.at_tables.specs.declared.cells.Act.{Act}
use Rattle.at_tables.specs.declared.cells.Act.TheVariants as acts
use Rattle.at_tables.specs.declared.cells.Cell.{Cell}
use Rattle.at_tables.specs.Names.{is_state}
use Rattle.at_model.specs.Book.{Enlistment, Phase, Superior, Transaction}
use Rattle.at_model.specs.Moves.{begin, effect, become}
use Rattle.at_model.specs.Posts.{fault_post, stored_or, stranger_post, to_each}
use Rattle.at_model.specs.Seats.{ending, is_prepared_durable, link_in, link_of, under}
use Rattle.at_model.specs.Abort.{Reason, Asked, Faulted}
use Rattle.at_model.specs.Phases.{upwards, commit_seats, go_volatile}
use Rattle.at_model.specs.Arrivals.{asked, commit_voted, link_act, link_notice}
use Rattle.model_laws.specs.Links.{AreIn, IsJoining}
use Rattle.model_laws.proofs.LinkDecisions.{Linked, has_voted, known}
use Rattle.agreement.specs.Deeds.{ParticipantSaid}
use Rattle.owed.specs.Shape.{IsShaped, LinkKnows, LinksKnow, StandsUnder, Waits, suits}
use Rattle.owed.proofs.PhaseAdvances.{Askable, commit_waits, commits, go_volatile_owes}
use Rattle.owed.proofs.AtSeats.{Unheard, same_along, same_left}
use Rattle.owed.proofs.LinkTable.{LinkHears, LinkHearsCell, MayRoll}
use Rattle.owed.proofs.Rules.{Along, Left, Loose, Owes, aborts, stays_so}

-- no participant says anything
abbrev pub IsQuiet : Event → Transaction → Type 0
IsQuiet e t = (n : Notice) (s : Enlistment) → ParticipantSaid n e t s → ⊥

pub quiet_all : (e : Event) (t : Transaction) (ps : List Post) (seats : List Enlistment) → IsQuiet e t → AllByRecursion (Unheard e t ps) seats
quiet_all e t ps [] q = tt
quiet_all e t ps (s ∷ ss) q = (((λ d k. q k.0 s k.2), ((λ d k. q notices.Committed s k), (λ d k. absurd (q notices.Prepared s k)))), quiet_all e t ps ss q)

pub still_left : (m : Moment) (e : Event) (t : Transaction) (sent : Option ℕ) (ps : List Post) → IsShaped t → IsQuiet e t
    → Left m e t (record { item = Some (record t { sent = sent }); posts = ps; effects = [] })
still_left m e t sent ps h q = same_left m e t sent ps h (quiet_all e t ps t.seats q)

pub begin_along : (m : Moment) (e : Event) (t : Transaction) (ps : List Post) → IsShaped t → IsQuiet e t → Along m e t (suits t.phase) t.id t.seats ps
begin_along m e t ps h q = same_along m e t ps h (quiet_all e t ps t.seats q)

loose_but : (phase : Phase) → (phase ≡ Phase.Committing → ⊥) → Loose (suits phase)
loose_but Phase.Registering f = refl
loose_but Phase.Active f = refl
loose_but Phase.Volatile f = refl
loose_but Phase.Durable f = refl
loose_but Phase.Voted f = refl
loose_but Phase.Committing f = absurd (f refl)
loose_but Phase.Aborting f = refl

-- a link that aborts isn't one of a transaction that commits
pub rolls_undecided : (phase : Phase) (kind : Kind) (s : Superior) → AreIn phase s.volatile.state s.durable.state → MayRoll (link_of kind s).state → phase ≡ Phase.Committing → ⊥
rolls_undecided phase kinds.Volatile s h r f = let k : AreIn Phase.Committing s.volatile.state s.durable.state = subst (λ p. AreIn p s.volatile.state s.durable.state) f h in subst MayRoll k.0 r
rolls_undecided phase kinds.Durable s h r f = let k : AreIn Phase.Committing s.volatile.state s.durable.state = subst (λ p. AreIn p s.volatile.state s.durable.state) f h in subst MayRoll k.1 r

pub aborts_from : (m : Moment) (e : Event) (reason : Reason) (t : Transaction) (ps : List Post) → IsShaped t → IsQuiet e t → (t.phase ≡ Phase.Committing → ⊥)
    → Left m e t (Rattle.at_model.specs.Abort.abort m reason (record { item = t; posts = ps; effects = [] }))
aborts_from m e reason t ps h q f = aborts m e t (suits t.phase) reason (record { item = t; posts = ps; effects = [] }) (loose_but t.phase f) (begin_along m e t ps h q).0

-- asking
other_link : (state : State) → state ≡ states.Active → (state ≡ states.None → ⊥)
other_link state e f = let g : states.Active ≡ states.None = sym e ∙ f in cc

never_active : (x : State) → x ≡ states.Active → {y : State} → x ≡ y → is_state y states.Active ≡ false → ⊥
never_active x e {y = y} f g = let h : is_state states.Active states.Active ≡ false = subst (λ z. is_state z states.Active ≡ false) (sym f ∙ e) g in cc

asks_first : (phase : Phase) (s : Superior) → AreIn phase s.volatile.state s.durable.state → s.volatile.state ≡ states.Active → IsJoining s.durable.state
asks_first Phase.Registering s (v, d) e = d
asks_first Phase.Active s (v, d) e = d
asks_first Phase.Volatile s (inl (v, d)) e = d
asks_first Phase.Volatile s (inr (v, d)) e = absurd (never_active s.volatile.state e v refl)
asks_first Phase.Durable s (v, d) e = absurd (never_active s.volatile.state e v refl)
asks_first Phase.Voted s (v, d) e = absurd (never_active s.volatile.state e v refl)
asks_first Phase.Committing s (v, d) e = absurd (never_active s.volatile.state e v refl)
asks_first Phase.Aborting s (v, d) e = absurd (never_active s.volatile.state e v refl)

pub asked_in : (phase : Phase) (kind : Kind) (s : Superior) → AreIn phase s.volatile.state s.durable.state → (link_of kind s).state ≡ states.Active
    → AreIn Phase.Volatile (asked kind s).volatile.state (asked kind s).durable.state
asked_in phase kinds.Volatile s h e = inl (refl, asks_first phase s h e)
asked_in phase kinds.Durable s h e = inr (refl, refl)

askable : (phase : Phase) (kind : Kind) (s : Superior) → AreIn phase s.volatile.state s.durable.state → (link_of kind s).state ≡ states.Active → Askable (suits phase)
askable Phase.Registering kind s h e = refl
askable Phase.Active kind s h e = refl
askable Phase.Volatile kind s h e = refl
askable Phase.Durable kinds.Volatile s (v, d) e = absurd (never_active s.volatile.state e v refl)
askable Phase.Durable kinds.Durable s (v, d) e = absurd (never_active s.durable.state e d refl)
askable Phase.Voted kinds.Volatile s (v, d) e = absurd (never_active s.volatile.state e v refl)
askable Phase.Voted kinds.Durable s (v, d) e = absurd (never_active s.durable.state e d refl)
askable Phase.Committing kinds.Volatile s (v, d) e = absurd (never_active s.volatile.state e v refl)
askable Phase.Committing kinds.Durable s (v, d) e = absurd (never_active s.durable.state e d refl)
askable Phase.Aborting kinds.Volatile s (v, d) e = absurd (never_active s.volatile.state e v refl)
askable Phase.Aborting kinds.Durable s (v, d) e = absurd (never_active s.durable.state e d refl)

asked_knows : (kind : Kind) (s : Superior) → LinksKnow s → (link_of kind s).state ≡ states.Active → LinksKnow (asked kind s)
asked_knows kinds.Volatile s (v, d) e = (subst (λ x. LinkKnows s.request x s.volatile.coordinator) e v, d)
asked_knows kinds.Durable s (v, d) e = (tt, subst (λ x. LinkKnows s.request x s.durable.coordinator) e d)

pub links_know : (t : Transaction) (s : Superior) → t.superior ≡ Some s → IsShaped t → LinksKnow s
links_know t s e h = subst (λ x. StandsUnder t.phase x t.completion) e h.1.1

gathers : (m : Moment) (e : Event) (kind : Kind) (s : Superior) (t : Transaction) → t.superior ≡ Some s → Linked t → IsShaped t → IsQuiet e t → (link_of kind s).state ≡ states.Active
    → Owes m e t (go_volatile m (begin (under (asked kind s) t)))
gathers m e kind s t u l h q f =
    go_volatile_owes m e t (suits t.phase) (begin (under (asked kind s) t)) (askable t.phase kind s (known t s u l).0 f) (begin_along m e t [] h q)
    (asked_knows kind s (links_know t s u h) f) (asked_in t.phase kind s (known t s u l).0 f, (known t s u l).1)

-- the superior's Commit
commits_voted : (m : Moment) (e : Event) (s : Superior) (t : Transaction) → t.superior ≡ Some s → t.phase ≡ Phase.Voted → Linked t → IsShaped t → IsQuiet e t → Owes m e t (commit_voted m s t)
unfolding commit_voted
commits_voted m e s t u f l h q =
    let in_voted : AreIn Phase.Voted s.volatile.state s.durable.state = subst (λ p. AreIn p s.volatile.state s.durable.state) f (known t s u l).0 in
    let along : Along m e t (suits Phase.Voted) t.id t.seats [] = subst (λ p. Along m e t (suits p) t.id t.seats []) f (begin_along m e t [] h q) in
    let waits : list_any is_prepared_durable t.seats ≡ true = subst (λ p. Waits p t.seats) f h.1.0 in
    let knows : LinkKnows s.request states.PreparedSuccess s.durable.coordinator = subst (λ x. LinkKnows s.request x s.durable.coordinator) in_voted.1 (links_know t s u h).1 in
    record {
      entry = tt;
      landed = stays_so m e t (suits Phase.Committing)
          (commit_seats m (become (record t { superior = Some (link_in kinds.Durable states.Committing s); phase = Phase.Committing }) (effect (ending t endings.Committed) (begin t))))
          (commits m e t t.id t.seats [] along) ((commits m e t t.id t.seats [] along).0.1.0, (commit_waits t.seats waits, ((links_know t s u h).0, knows)));
      otherwise = tt;
    }

link_act_owes : (m : Moment) (e : Event) (from : Option Epr) (i : Option (List ℕ)) (kind : Kind) (s : Superior) (t : Transaction) (n : Notice) (act : Act) → t.superior ≡ Some s → Linked t → IsShaped t
    → IsQuiet e t → LinkHears (link_of kind s).state n act → Owes m e t (link_act m from i kind s t act)
unfolding link_act
link_act_owes m e from i kind s t n acts.Gather u l h q k = gathers m e kind s t u l h q k.0
link_act_owes m e from i kind s t n acts.Commit u l h q k = commits_voted m e s t u (has_voted t.phase kind s (known t s u l).0 k.0) l h q
link_act_owes m e from i kind s t n acts.SendPrepared u l h q k = still_left m e t (Some m.now) (upwards m.base t.id kind notices.Prepared (link_of kind s)) h q
link_act_owes m e from i kind s t n acts.SendCommitted u l h q k =
    still_left m e t t.sent (to_each (stored_or (link_of kind s).coordinator from) (λ to. stranger_post m.base (targets.Participant t.id kind) to notices.Committed)) h q
link_act_owes m e from i kind s t n acts.SendAborted u l h q k =
    still_left m e t t.sent (to_each (stored_or (link_of kind s).coordinator from) (λ to. stranger_post m.base (targets.Participant t.id kind) to notices.Aborted)) h q
link_act_owes m e from i kind s t n acts.AbortAndSendAborted u l h q k = aborts_from m e (Asked kind from) t [] h q (rolls_undecided t.phase kind s (known t s u l).0 k.0)
link_act_owes m e from i kind s t n acts.RecordAndSendAborted u l h q k = record {
  entry = tt;
  landed = aborts_from m e (Asked kind from) t [] h q (rolls_undecided t.phase kind s (known t s u l).0 k.0);
  otherwise = tt;
}
link_act_owes m e from i kind s t n acts.FaultInvalidStateAndAbort u l h q k =
    aborts_from m e (Faulted kind) t (to_each (stored_or (link_of kind s).coordinator from) (λ to. fault_post (Some to) i InvalidState)) h q (rolls_undecided t.phase kind s (known t s u l).0 k.0.0)
link_act_owes m e from i kind s t n acts.FaultInvalidState u l h q k =
    still_left m e t t.sent (to_each (stored_or (link_of kind s).coordinator from) (λ to. fault_post (Some to) i InvalidState)) h q
link_act_owes m e from i kind s t n other u l h q k = still_left m e t t.sent [] h q

pub link_notice_owes : (m : Moment) (e : Event) (from : Option Epr) (i : Option (List ℕ)) (kind : Kind) (s : Superior) (t : Transaction) (n : Notice) (c : Option Cell) → t.superior ≡ Some s → Linked t
    → IsShaped t → IsQuiet e t → LinkHearsCell (link_of kind s).state n c → Owes m e t (link_notice m from i kind s t c)
unfolding link_notice
link_notice_owes m e from i kind s t n None u l h q k = still_left m e t t.sent [] h q
link_notice_owes m e from i kind s t n (Some c) u l h q k = link_act_owes m e from i kind s t n c.act u l h q k
