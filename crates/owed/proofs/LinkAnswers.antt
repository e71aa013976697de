-- A message on a link is answered, or keeps it busy.
use Rattle.std.specs.Prelude.{ℕ, List, Option, Some, None, ◌≡◌, ◌⊎◌}
use Rattle.std.proofs.Common.{inl, inr, ap, sym, subst, ◌∙◌}
use Rattle.at_base.specs.declared.epr.Epr.{Epr}
use Rattle.at_base.specs.declared.notice.Kind.{Kind}
use Rattle.at_base.specs.declared.notice.Kind.TheVariants as kinds
use Rattle.at_base.specs.declared.notice.Notice.{Notice}
use Rattle.at_base.specs.declared.notice.Notice.TheVariants as notices
use Rattle.at_base.specs.declared.message.Message.TheVariants as messages
use Rattle.at_base.specs.declared.target.Target.{Target}
use Rattle.at_base.specs.declared.target.Target.TheVariants as targets
use Rattle.at_base.specs.declared.event.Arrived.{Arrived}
use Rattle.at_base.specs.declared.event.Event.{Event}
use Rattle.at_base.specs.declared.event.Event.TheVariants as events
use Rattle.at_base.specs.declared.outs.Post.{Post}
use Rattle.at_tables.specs.declared.cells.State.{State}
use Rattle.at_tables.specs.declared.cells.State.TheVariants as states
use Rattle.at_model.specs.Book.{Phase, Superior, Transaction}
use Rattle.at_model.specs.Posts.{stored_or}
use Rattle.at_model.specs.Seats.{link_of}
use Rattle.model_laws.specs.Links.{AreIn, IsIdle, IsJoining}
use Rattle.agreement.specs.Deeds.{SuperiorSaid}
use Rattle.owed.specs.Seats.{Tells}
use Rattle.owed.specs.Links.{AnswersCommit, AnswersPrepare, CommitsIn, HasVotedSo, IsEarly, KeepsBusy, KeepsCommitting, KeepsVote, LinkIsBusy, LinksOwed, SaysVote, TellsAnswer}
use Rattle.owed.proofs.LinkTable.{MayRoll}
use Rattle.owed.proofs.LinkRules.{Rel}

-- the states of links
abbrev pub IsLinkState : State → Type 0
IsLinkState states.None = Unit {0}
IsLinkState states.Registering = Unit {0}
IsLinkState states.Active = Unit {0}
IsLinkState states.Preparing = Unit {0}
IsLinkState states.PreparedSuccess = Unit {0}
IsLinkState states.Committing = Unit {0}
IsLinkState other = ⊥

joining_state : (x : State) → IsJoining x → IsLinkState x
joining_state states.Registering h = tt
joining_state states.Active h = tt
joining_state other h = absurd h

idle_state : (x : State) → IsIdle x → IsLinkState x
idle_state states.None h = tt
idle_state states.Active h = tt
idle_state other h = absurd h

this_state : (x y : State) → x ≡ y → IsLinkState y → IsLinkState x
this_state x y e h = subst IsLinkState (sym e) h

link_states : (phase : Phase) (v d : State) → AreIn phase v d → IsLinkState v × IsLinkState d
link_states Phase.Registering v d (h, k) = (joining_state v h, joining_state d k)
link_states Phase.Active v d (h, k) = (idle_state v h, joining_state d k)
link_states Phase.Volatile v d (inl (h, k)) = (this_state v states.Preparing h tt, joining_state d k)
link_states Phase.Volatile v d (inr (h, k)) = (this_state v states.None h tt, this_state d states.Preparing k tt)
link_states Phase.Durable v d (h, k) = (this_state v states.None h tt, this_state d states.Preparing k tt)
link_states Phase.Voted v d (h, k) = (this_state v states.None h tt, this_state d states.PreparedSuccess k tt)
link_states Phase.Committing v d (h, k) = (this_state v states.None h tt, this_state d states.Committing k tt)
link_states Phase.Aborting v d (h, k) = (this_state v states.None h tt, this_state d states.None k tt)

pub link_state : (phase : Phase) (kind : Kind) (s : Superior) → AreIn phase s.volatile.state s.durable.state → IsLinkState (link_of kind s).state
link_state phase kinds.Volatile s h = (link_states phase s.volatile.state s.durable.state h).0
link_state phase kinds.Durable s h = (link_states phase s.volatile.state s.durable.state h).1

-- a durable link that commits
committing_alone : (phase : Phase) (v d : State) → AreIn phase v d → d ≡ states.Committing → v ≡ states.None
committing_alone Phase.Registering v d (h, k) e = absurd (subst IsJoining e k)
committing_alone Phase.Active v d (h, k) e = absurd (subst IsJoining e k)
committing_alone Phase.Volatile v d (inl (h, k)) e = absurd (subst IsJoining e k)
committing_alone Phase.Volatile v d (inr (h, k)) e = h
committing_alone Phase.Durable v d (h, k) e = h
committing_alone Phase.Voted v d (h, k) e = h
committing_alone Phase.Committing v d (h, k) e = h
committing_alone Phase.Aborting v d (h, k) e = h

pub rolls_uncommitted : (phase : Phase) (kind : Kind) (s : Superior) → AreIn phase s.volatile.state s.durable.state → MayRoll (link_of kind s).state → s.durable.state ≡ states.Committing → ⊥
rolls_uncommitted phase kinds.Volatile s h r e = subst MayRoll (committing_alone phase s.volatile.state s.durable.state h e) r
rolls_uncommitted phase kinds.Durable s h r e = subst MayRoll e r

-- A superior says one thing on one link.
abbrev pub kind_in : Target → Kind
kind_in (targets.Participant id kind) = kind
kind_in other = kinds.Volatile

pub one_link : (e : Event) (t : Transaction) (k j : Kind) (n v : Notice) → SuperiorSaid k n e t → SuperiorSaid j v e t → (j ≡ k) × (v ≡ n)
one_link e t k j n v h i =
    let came : events.Arrived h.message ≡ events.Arrived i.message = sym h.came ∙ i.came in
    let same : h.message ≡ i.message = cc in
    let says : messages.Notice v ≡ messages.Notice n = sym i.says ∙ (sym (ap (λ (a : Arrived). a.message) same) ∙ h.says) in
    (ap kind_in (sym i.target ∙ (sym (ap (λ (a : Arrived). a.target) same) ∙ h.target)), one_of v n says)
  where
    one_of : (x y : Notice) → messages.Notice x ≡ messages.Notice y → x ≡ y
    one_of x y f = cc

pub one_from : (e : Event) (t : Transaction) (k j : Kind) (n v : Notice) (h : SuperiorSaid k n e t) (i : SuperiorSaid j v e t) → i.message.from ≡ h.message.from
one_from e t k j n v h i =
    let came : events.Arrived h.message ≡ events.Arrived i.message = sym h.came ∙ i.came in
    let same : h.message ≡ i.message = cc in
    sym (ap (λ (a : Arrived). a.from) same)

-- nothing comes on a link
abbrev pub SuperiorIsQuiet : Event → Transaction → Type 0
SuperiorIsQuiet e t = (kind : Kind) (n : Notice) → SuperiorSaid kind n e t → ⊥

pub vote_on : (base : List ℕ) (e : Event) (t : Transaction) (s : Superior) (ps : List Post) (o : Option Superior)
    → (s.durable.state ≡ states.PreparedSuccess → (SuperiorSaid kinds.Durable notices.Commit e t → ⊥) × (SuperiorSaid kinds.Durable notices.Rollback e t → ⊥)) → HasVotedSo base t.id s ps o
    → KeepsVote base e t s ps o
vote_on base e t s ps None q h = tt
vote_on base e t s ps (Some x) q h = λ d. by_case (h d)
  where
    by_case : ((s.durable.state ≡ states.PreparedSuccess) × (x.durable.coordinator ≡ s.durable.coordinator)) ⊎ SaysVote base t.id x.durable.coordinator ps
        → (((s.durable.state ≡ states.PreparedSuccess) × (x.durable.coordinator ≡ s.durable.coordinator))
        × ((SuperiorSaid kinds.Durable notices.Commit e t → ⊥) × (SuperiorSaid kinds.Durable notices.Rollback e t → ⊥))) ⊎ SaysVote base t.id x.durable.coordinator ps
    by_case (inl k) = inl (k, q k.0)
    by_case (inr k) = inr k

pub quiet_links : (base : List ℕ) (e : Event) (t : Transaction) (s : Superior) (ps : List Post) (o : Option Superior) → SuperiorIsQuiet e t → Rel base t.id s ps o → LinksOwed base e t s ps o
quiet_links base e t s ps o q (busy, (commits, votes)) = (
  (λ kind h to r c. absurd (q kind notices.Prepare h)),
  (
    (λ h to r c. absurd (q kinds.Durable notices.Commit h)),
    (
      (λ kind to x b c. busy kind to b c),
      (
        commits,
        vote_on base e t s ps o (λ d. (q kinds.Durable notices.Commit, q kinds.Durable notices.Rollback)) votes,
      ),
    ),
  ),
)

-- A notification on a link, and what is done about it.
abbrev pub Said : Event → Transaction → Kind → Notice → Superior → List Post → Option Superior → Type 0
Said e t kind n s ps o =
    (h : SuperiorSaid kind n e t)
    → ((to : Epr) → n ≡ notices.Prepare → ((link_of kind s).state ≡ states.Registering → ⊥) → stored_or (link_of kind s).coordinator h.message.from ≡ Some to → LinkIsBusy kind o ⊎ TellsAnswer to ps)
    × ((to : Epr) → n ≡ notices.Commit → (IsEarly (link_of kind s).state → ⊥) → stored_or (link_of kind s).coordinator h.message.from ≡ Some to
    → (kind ≡ kinds.Durable → CommitsIn o ⊎ Tells (Some to) notices.Committed ps))

pub said_owed : (base : List ℕ) (e : Event) (t : Transaction) (kind : Kind) (n : Notice) (s : Superior) (ps : List Post) (o : Option Superior) (h : SuperiorSaid kind n e t) → Said e t kind n s ps o
    → KeepsBusy e t s ps o → KeepsCommitting s ps o → KeepsVote base e t s ps o → LinksOwed base e t s ps o
said_owed base e t kind n s ps o h says busy commits vote = (prepares, (commits_so, (busy, (commits, vote))))
  where
    from_of : (j : Kind) (v : Notice) (i : SuperiorSaid j v e t) (c : Option Epr) (to : Epr) → stored_or c i.message.from ≡ Some to → stored_or c h.message.from ≡ Some to
    from_of j v i c to f = subst (λ x. stored_or c x ≡ Some to) (one_from e t kind j n v h i) f

    prepares : AnswersPrepare e t s ps o
    prepares j i to r f =
        let (k, v) = one_link e t kind j n notices.Prepare h i in
        subst (λ x. LinkIsBusy x o ⊎ TellsAnswer to ps) (sym k)
        ((says h).0 to (sym v) (subst (λ x. (link_of x s).state ≡ states.Registering → ⊥) k r)
        (subst (λ x. stored_or (link_of x s).coordinator h.message.from ≡ Some to) k (from_of j notices.Prepare i (link_of j s).coordinator to f)))

    commits_so : AnswersCommit e t s ps o
    commits_so i to r f =
        let (k, v) = one_link e t kind kinds.Durable n notices.Commit h i in
        (says h).1 to (sym v) (subst (λ x. IsEarly (link_of x s).state → ⊥) k r)
        (subst (λ x. stored_or (link_of x s).coordinator h.message.from ≡ Some to) k (from_of kinds.Durable notices.Commit i s.durable.coordinator to f)) (sym k)
