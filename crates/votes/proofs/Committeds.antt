-- A Committed that goes to a durable seat comes when the seat's participant has committed.
use Rattle.std.specs.Prelude.{ℕ, List, Option, Some, None, Bool, true, is_some, ◌≡◌, ◌⊎◌, refl}
use Rattle.std.specs.List.{AllByRecursion}
use Rattle.std.proofs.Common.{inl, inr, sym, subst, ap, ◌∙◌}
use Rattle.at_base.specs.Numbers.{Numbers}
use Rattle.at_base.specs.declared.epr.Epr.{Epr}
use Rattle.at_base.specs.declared.event.Arrived.{Arrived}
use Rattle.at_base.specs.declared.event.Event.{Event}
use Rattle.at_base.specs.declared.event.Event.TheVariants as events
use Rattle.at_base.specs.declared.event.Moment.{Moment}
use Rattle.at_base.specs.declared.notice.Kind.{Kind}
use Rattle.at_base.specs.declared.notice.Kind.TheVariants as kinds
use Rattle.at_base.specs.declared.notice.Notice.{Notice}
use Rattle.at_base.specs.declared.notice.Notice.TheVariants as notices
use Rattle.at_base.specs.declared.message.Message.TheVariants as messages
use Rattle.at_base.specs.declared.outs.Effect.TheVariants as effects
use Rattle.at_base.specs.declared.outs.Ending.TheVariants as endings
use Rattle.at_base.specs.declared.outs.Post.{Post}
use Rattle.at_base.specs.declared.target.Seat.{Seat}
use Rattle.at_base.specs.declared.target.Target.{Target}
use Rattle.at_base.specs.declared.target.Target.TheVariants as targets
use Rattle.at_tables.specs.declared.cells.State.{State}
use Rattle.at_tables.specs.declared.cells.State.TheVariants as states
use Rattle.at_model.specs.Book.{Activity, Book, Completion, Enlistment, Phase, Superior, Transaction, leaf_id, transaction_id}
use Rattle.at_model.specs.Leaves.{leaf_ended}
use Rattle.at_model.specs.Moves.{Change}
use Rattle.at_model.specs.Seats.{link_of}
use Rattle.at_model.specs.Step.{leaf_at, moment_of, plan, step, transaction_at}
use Rattle.at_model.specs.World.{Node, Who, World, accepted_completion, happened_at, new_nodes, who_of, Hosts}
use Rattle.model_laws.specs.Agreement.{HasAborted, HasCommitted, IsAccepted, IsIn}
use Rattle.model_laws.specs.Registrations.{IsEnlisted, IsKnownItem}
use Rattle.model_laws.specs.Links.{AreIn, AreLinked, IsJoining}
use Rattle.model_laws.specs.ReachedWorlds.{counts}
use Rattle.model_laws.specs.Shapes.{NoParticipant}
use Rattle.model_laws.proofs.DecisionLaws.{all_find}
use Rattle.model_laws.proofs.Registrations.{all_known}
use Rattle.model_laws.proofs.Nodes.{who_same}
use Rattle.agreement.specs.ActivityDeeds.{ActivitySays, Completes as AsksTo, completing, tells_nothing as asks_nothing}
use Rattle.agreement.specs.Deeds.{How, SuperiorSaid, StoodFor, WhySuperior, coordinator_at, initiator}
use Rattle.agreement.specs.StepDeeds.{standing}
use Rattle.agreement.specs.LeafDeeds.{LeafSays, aborted, committed, prepared, read_only, tells_nothing}
use Rattle.agreement.proofs.SeatedEntries.{one_of}
use Rattle.enlistments.specs.KnownCoordinators.{AsksAsInitiator, AsksItsOwn, IsAsked, LeafKnows, TransactionKnows}
use Rattle.enlistments.specs.Leads.{Enlists, EnlistsIfKnown, LeadsTo}
use Rattle.enlistments.specs.Moves.{LeafDid}
use Rattle.enlistments.specs.NoticeOrigins.{AnswersAsNone, IsKnownOrAsked, Tells, activity_says, as_committed, as_no_participant, as_no_seat, from_left_link, leaf_says, left_link_aborted, says_aborted, to_asking, to_initiator, to_late_seat, to_left_seat, to_seat, to_superior}
use Rattle.enlistments.proofs.Arrivals.{HasCome}
use Rattle.votes.specs.NamedParticipants.{HasSeat}
use Rattle.votes.specs.ToldOutcomes.{CommitIsBacked, CommittedIsBacked, HasCommittedAt, IsUnderCommitted}
use Rattle.votes.specs.VotesAndOutcomes.{IsOutcome}
use Rattle.votes.specs.DurableVotes.{HasVoted}
use Rattle.votes.proofs.Growth.{committed_on, seat_on}
use Rattle.votes.proofs.StepItems.{aborting, came_by, committing, effect_there, grown, leads_who, life_at}
use Rattle.votes.proofs.Notices.{other_notice, same_end, same_notice, says_notice}
use Rattle.votes.proofs.Premises.{StepPremises}
use Rattle.votes.proofs.Voters.{gone_voter, told_apart, unknown_voter}

-- whom a message of a superior comes from: the seat at which this participant was accepted
pub asker_enlists : (hosts : Hosts) (u : World) (n : ℕ) (x : Node) (b : Book) (e : Event) → StepPremises hosts u n x b e → (a : Arrived) → e ≡ events.Arrived a → (id : Numbers) (kind : Kind)
    → a.target ≡ targets.Participant id kind → (v : Notice) → IsAsked v → a.message ≡ messages.Notice v → (up : Epr) → a.from ≡ Some up → Enlists hosts u up (record { node = n; id = id }) kind
asker_enlists hosts u n x b e p a came id kind target v asked says up from =
    let w : HasCome hosts u n a = came_by hosts u n x b e p a came in
    one_of (AsksItsOwn hosts u) u.posted w.posted p.world.knowing.asks w.stands v w.to up n id kind (w.message ∙ says) asked w.sent (subst (LeadsTo hosts w.to n) target w.leads) (sym w.from ∙ from)

pub link_enlists : (hosts : Hosts) (u : World) (n : ℕ) (x : Node) (b : Book) (e : Event) → StepPremises hosts u n x b e → (t : Transaction) → transaction_at b t.id ≡ Some t → (kind : Kind) (up : Epr)
    → coordinator_at kind t.superior ≡ Some up → Enlists hosts u up (record { node = n; id = t.id }) kind
link_enlists hosts u n x b e p t found kind up known =
    subst (λ c. EnlistsIfKnown hosts u c (record { node = n; id = t.id }) kind) known
    (all_find (TransactionKnows hosts u n) transaction_id t.id b.transactions t (p.world.knowing.books n x b p.found p.up).transactions found kind)

-- the seat that an endpoint names
record AtSeat (u : World) (n : ℕ) (j : Numbers) (number : ℕ) (kind : Kind) (x : Who) : Type 0 where
  durable : kind ≡ kinds.Durable
  seat : HasSeat u (record { node = n; id = j }) number kinds.Durable x

at_seat : (hosts : Hosts) (u : World) (up : Epr) (x : Who) (kind : Kind) (n : ℕ) (j : Numbers) (number : ℕ) → Enlists hosts u up x kind
    → LeadsTo hosts up n (targets.Coordinator j (record { number = number; kind = kinds.Durable })) → AtSeat u n j number kind x
at_seat hosts u up x kind n j number h leads =
    let (id, l, same, accepted) = h n (targets.Coordinator j (record { number = number; kind = kinds.Durable })) leads in
    is_there id l same accepted
  where
    is_there : (id : Numbers) (l : ℕ) → targets.Coordinator j (record { number = number; kind = kinds.Durable }) ≡ targets.Coordinator id (record { number = l; kind = kind })
        → IsAccepted u (record { node = n; id = id }) (Some (record { number = l; kind = kind })) x → AtSeat u n j number kind x
    is_there id l same accepted =
        let first : j ≡ id = cc in
        let seats : ◌≡◌ {A = Seat} (record { number = number; kind = kinds.Durable }) (record { number = l; kind = kind }) = cc in
        let second : number ≡ l = ap (λ (c : Seat). c.number) seats in
        let third : kinds.Durable ≡ kind = ap (λ (c : Seat). c.kind) seats in
        record {
          durable = sym third;
          seat = subst (λ c. HasSeat u (record { node = n; id = j }) number c x) (sym third)
              (subst (λ m. HasSeat u (record { node = n; id = j }) m kind x) (sym second) (subst (λ i. HasSeat u (record { node = n; id = i }) l kind x) (sym first) accepted));
        }

-- a participant that has committed
committed_at : (hosts : Hosts) (u : World) (n : ℕ) (x : Node) (b : Book) (e : Event) (now : ℕ) (landed : Bool) → StepPremises hosts u n x b e → (up : Epr) (y : Who) (kind : Kind) (k : ℕ) (j : Numbers)
    (number : ℕ) → Enlists hosts u up y kind → LeadsTo hosts up k (targets.Coordinator j (record { number = number; kind = kinds.Durable }))
    → (kind ≡ kinds.Durable → HasCommitted (counts u n x b e now landed) y) → HasCommittedAt (counts u n x b e now landed) (record { node = k; id = j }) number
committed_at hosts u n x b e now landed p up y kind k j number h leads ended =
    let s : AtSeat u k j number kind y = at_seat hosts u up y kind k j number h leads in
    record {
      participant = y;
      seat = seat_on u (counts u n x b e now landed) (grown hosts u n x b e now landed p) (record { node = k; id = j }) number kinds.Durable y s.seat;
      committed = ended s.durable;
    }

committed_before : (hosts : Hosts) (u : World) (n : ℕ) (x : Node) (b : Book) (e : Event) (now : ℕ) (landed : Bool) → StepPremises hosts u n x b e → (up : Epr) (y : Who) (kind : Kind) (k : ℕ) (j : Numbers)
    (number : ℕ) → Enlists hosts u up y kind → LeadsTo hosts up k (targets.Coordinator j (record { number = number; kind = kinds.Durable }))
    → (kind ≡ kinds.Durable → HasCommitted u y) → HasCommittedAt (counts u n x b e now landed) (record { node = k; id = j }) number
committed_before hosts u n x b e now landed p up y kind k j number h leads ended =
    committed_at hosts u n x b e now landed p up y kind k j number h leads (λ d. committed_on u (counts u n x b e now landed) (grown hosts u n x b e now landed p) y (ended d))

-- a Commit that came: its participant has voted Prepared, under a transaction that has committed
pub commit_came : (hosts : Hosts) (u : World) (n : ℕ) (x : Node) (b : Book) (e : Event) → StepPremises hosts u n x b e → IsOutcome hosts u → (a : Arrived) → e ≡ events.Arrived a → (id : Numbers) (kind : Kind)
    → a.target ≡ targets.Participant id kind → a.message ≡ messages.Notice notices.Commit → kind ≡ kinds.Durable
    → HasVoted u (record { node = n; id = id }) × IsUnderCommitted u (record { node = n; id = id }) kinds.Durable
commit_came hosts u n x b e p j a came id kind target says durable =
    let w : HasCome hosts u n a = came_by hosts u n x b e p a came in
    let (voted, under) = one_of (λ q. CommitIsBacked hosts u q.content) u.posted w.posted j.commits w.stands w.to n id kinds.Durable (w.message ∙ says) w.sent
    (subst (LeadsTo hosts w.to n) (target ∙ ap (λ c. targets.Participant id c) durable) w.leads) in
    (p.world.prepared (record { node = n; id = id }) voted, under)

-- a subordinate that ends
ends_up : (t : Transaction) (how : How) (at : List Enlistment) (kind : Kind) → WhySuperior t how at kind notices.Committed → how ≡ How.Ends
ends_up t how at kinds.Durable h = h
ends_up t how at kinds.Volatile h = absurd h

-- a durable link in None: the subordinate has aborted
is_aborting : (ph : Phase) (volatile durable : State) → AreIn ph volatile durable → durable ≡ states.None → ph ≡ Phase.Aborting
is_aborting Phase.Registering volatile durable (h, k) e = absurd (subst IsJoining e k)
is_aborting Phase.Active volatile durable (h, k) e = absurd (subst IsJoining e k)
is_aborting Phase.Volatile volatile durable (inl (h, k)) e = absurd (subst IsJoining e k)
is_aborting Phase.Volatile volatile durable (inr (h, k)) e = let f : states.Preparing ≡ states.None = sym k ∙ e in absurd cc
is_aborting Phase.Durable volatile durable (h, k) e = let f : states.Preparing ≡ states.None = sym k ∙ e in absurd cc
is_aborting Phase.Voted volatile durable (h, k) e = let f : states.PreparedSuccess ≡ states.None = sym k ∙ e in absurd cc
is_aborting Phase.Committing volatile durable (h, k) e = let f : states.Committing ≡ states.None = sym k ∙ e in absurd cc
is_aborting Phase.Aborting volatile durable (h, k) e = refl

left_aborting : (hosts : Hosts) (u : World) (n : ℕ) (x : Node) (b : Book) (e : Event) → StepPremises hosts u n x b e → (t : Transaction) (s : Superior) → transaction_at b t.id ≡ Some t → t.superior ≡ Some s
    → (link_of kinds.Durable s).state ≡ states.None → t.phase ≡ Phase.Aborting
left_aborting hosts u n x b e p t s found under left =
    is_aborting t.phase s.volatile.state s.durable.state
    (subst (λ o. AreLinked t.phase o t.completion) under (all_find (λ y. AreLinked y.phase y.superior y.completion) transaction_id t.id b.transactions t p.ready.phases.links found)).0 left

left_link : (hosts : Hosts) (u : World) (n : ℕ) (x : Node) (b : Book) (e : Event) → StepPremises hosts u n x b e → IsOutcome hosts u → (t : Transaction) (s : Superior) (kind : Kind)
    → transaction_at b t.id ≡ Some t → t.superior ≡ Some s → (link_of kind s).state ≡ states.None → SuperiorSaid kind notices.Commit e t → kind ≡ kinds.Durable → ⊥
left_link hosts u n x b e p j t s kind found under left said durable =
    let (voted, committer) = commit_came hosts u n x b e p j said.message said.came t.id kind said.target said.says durable in
    told_apart hosts u p.world j (record { node = n; id = t.id }) committer voted
    (aborting hosts u n x b e p t found (left_aborting hosts u n x b e p t s found under (subst (λ k. (link_of k s).state ≡ states.None) durable left)))

same_arrival : (a c : Arrived) (e : Event) → e ≡ events.Arrived a → e ≡ events.Arrived c → a ≡ c
same_arrival a c e f g = let h : events.Arrived a ≡ events.Arrived c = sym f ∙ g in cc

pub known_or_asked : (hosts : Hosts) (u : World) (n : ℕ) (x : Node) (b : Book) (e : Event) → StepPremises hosts u n x b e → (t : Transaction) → transaction_at b t.id ≡ Some t → (kind : Kind) (up : Epr) (v : Notice)
    → IsAsked v → SuperiorSaid kind v e t → IsKnownOrAsked e kind t up → Enlists hosts u up (record { node = n; id = t.id }) kind
known_or_asked hosts u n x b e p t found kind up v asked said (inl known) = link_enlists hosts u n x b e p t found kind up known
known_or_asked hosts u n x b e p t found kind up v asked said (inr (a, came, target, from, notified)) =
    asker_enlists hosts u n x b e p a came t.id kind target v asked (ap (λ (c : Arrived). c.message) (same_arrival a said.message e came said.came) ∙ said.says) up from

-- whose endpoint leads to no coordinator's seat
none_at_seat : (hosts : Hosts) (u : World) (n : ℕ) (x : Node) (b : Book) (e : Event) → StepPremises hosts u n x b e → (t : Transaction) → transaction_at b t.id ≡ Some t → (up : Epr)
    → initiator t.completion ≡ Some up → (k : ℕ) (j : Numbers) (s : Seat) → LeadsTo hosts up k (targets.Coordinator j s) → ⊥
none_at_seat hosts u n x b e p t found up known k j s leads =
    by_completion t.completion known (all_find (IsEnlisted u n) transaction_id t.id b.transactions t (p.world.laws.seated.enlisted n x b p.found p.up) found).1
  where
    unknown : (c : Completion) → c.initiator ≡ up → who_of u.nodes c.initiator ≡ None
    unknown c same = who_same u.nodes (new_nodes hosts.base_of hosts.count 1) c.initiator p.world.laws.bases ∙ ap (who_of (new_nodes hosts.base_of hosts.count 1)) same ∙ leads_who hosts up k (targets.Coordinator j s) leads

    apart : (o : Option Who) → o ≡ None → is_some o ≡ true → ⊥
    apart None none some = absurd cc
    apart (Some y) none some = absurd cc

    by_completion : (o : Option Completion) → initiator o ≡ Some up → AllByRecursion (λ acc. IsIn acc u.accepted) (accepted_completion n u.nodes t.id None o) → ⊥
    by_completion None f h = cc
    by_completion (Some c) f (h, rest) =
        let same : c.initiator ≡ up = cc in
        apart (who_of u.nodes c.initiator) (unknown c same) (one_of IsKnownItem u.accepted _ (all_known hosts u p.world.laws.distinct p.world.laws.reached) h)

-- an initiator that asks: its From leads to an initiator
pub asking_initiator : (hosts : Hosts) (u : World) (n : ℕ) (x : Node) (b : Book) (e : Event) → StepPremises hosts u n x b e → (a : Arrived) → e ≡ events.Arrived a → (id : Numbers)
    → a.target ≡ targets.Completion id → a.message ≡ messages.Notice notices.Commit → (up : Epr) → a.from ≡ Some up → (k : ℕ) (T : Target) → LeadsTo hosts up k T
    → (i : Numbers) × (T ≡ targets.Initiator i) × IsAccepted u (record { node = n; id = id }) None (record { node = k; id = i })
asking_initiator hosts u n x b e p a came id target says up from k T leads =
    let w : HasCome hosts u n a = came_by hosts u n x b e p a came in
    one_of (AsksAsInitiator hosts u) u.posted w.posted p.world.knowing.completes w.stands notices.Commit w.to up n k id T (w.message ∙ says) (inl refl) w.sent
    (subst (LeadsTo hosts w.to n) target w.leads) (sym w.from ∙ from) leads

no_initiator : (T : Target) (j i : Numbers) (s : Seat) → T ≡ targets.Coordinator j s → T ≡ targets.Initiator i → ⊥
no_initiator T j i s e f = let g : targets.Coordinator j s ≡ targets.Initiator i = sym e ∙ f in cc

-- a leaf
no_leaf_committed : (q : Post) (n : Notice) → q.message ≡ messages.Notice n → q.message ≡ messages.Notice notices.Committed → n ≡ notices.Committed
no_leaf_committed q n e f = same_notice q.message n notices.Committed e f

leaf_committed : (hosts : Hosts) (u : World) (n : ℕ) (x : Node) (b : Book) (e : Event) (now : ℕ) (landed : Bool) → StepPremises hosts u n x b e
    → (d : LeafDid b e now (standing landed (plan b e now).entry) (step b e now landed)) → (q : Post) → LeafSays (moment_of b now) e d.old d.change q → q.message ≡ messages.Notice notices.Committed
    → (to : Epr) (k : ℕ) (j : Numbers) (number : ℕ) → q.to ≡ Some to → LeadsTo hosts to k (targets.Coordinator j (record { number = number; kind = kinds.Durable }))
    → HasCommittedAt (counts u n x b e now landed) (record { node = k; id = j }) number
leaf_committed hosts u n x b e now landed p d q (prepared up left known is goes on) says to k j number sent leads =
    let f : notices.Prepared ≡ notices.Committed = no_leaf_committed q notices.Prepared (other_notice q notices.Prepared _ is refl) says in absurd cc
leaf_committed hosts u n x b e now landed p d q (read_only up known is was gone none) says to k j number sent leads =
    let f : notices.ReadOnly ≡ notices.Committed = no_leaf_committed q notices.ReadOnly (other_notice q notices.ReadOnly _ is refl) says in absurd cc
leaf_committed hosts u n x b e now landed p d q (aborted up known is gone ended) says to k j number sent leads =
    let f : notices.Aborted ≡ notices.Committed = no_leaf_committed q notices.Aborted (other_notice q notices.Aborted _ is refl) says in absurd cc
leaf_committed hosts u n x b e now landed p d q (tells_nothing none) says to k j number sent leads = absurd (says_notice q.message notices.Committed none says)
leaf_committed hosts u n x b e now landed p d q (committed up known is gone ended) says to k j number sent leads =
    committed_at hosts u n x b e now landed p up (record { node = n; id = d.old.id }) d.old.kind k j number
    (subst (λ c. EnlistsIfKnown hosts u c (record { node = n; id = d.old.id }) d.old.kind) known
    (all_find (LeafKnows hosts u n) leaf_id d.old.id b.leaves d.old (p.world.knowing.books n x b p.found p.up).leaves d.found))
    (subst (λ f. LeadsTo hosts f k (targets.Coordinator j (record { number = number; kind = kinds.Durable }))) (same_end q.to to up sent (ap (λ (r : Post). r.to) is)) leads)
    (λ durable. inr (inr (subst (λ kind. IsIn (happened_at n (effects.Leaf d.old.id kind endings.Committed)) (counts u n x b e now landed).happened) durable
    (effect_there u n x b e now landed (leaf_ended d.old endings.Committed)
    (subst (IsIn (leaf_ended d.old endings.Committed)) (sym (d.effects_are ∙ ended)) (inl refl))))))

-- where no such participant is known, one that is asked to commit has committed
no_such_committed : (hosts : Hosts) (u : World) (n : ℕ) (x : Node) (b : Book) (e : Event) → StepPremises hosts u n x b e → IsOutcome hosts u → (a : Arrived) → e ≡ events.Arrived a → (id : Numbers) (kind : Kind)
    → a.target ≡ targets.Participant id kind → a.message ≡ messages.Notice notices.Commit → NoParticipant kind (transaction_at b id) (leaf_at b id) → kind ≡ kinds.Durable
    → HasCommitted u (record { node = n; id = id })
no_such_committed hosts u n x b e p j a came id kind target says unknown durable =
    let (voted, committer) = commit_came hosts u n x b e p j a came id kind target says durable in
    let (none, no_leaf) = unknown_voter hosts u n x b p.world p.found p.up id voted (subst (λ c. NoParticipant c (transaction_at b id) (leaf_at b id)) durable unknown) in
    by_end committer voted (gone_voter hosts u n x b p.world p.found id (life_at hosts u n x b e p id) voted none no_leaf)
  where
    by_end : IsUnderCommitted u (record { node = n; id = id }) kinds.Durable → HasVoted u (record { node = n; id = id })
        → HasCommitted u (record { node = n; id = id }) ⊎ HasAborted u (record { node = n; id = id }) → HasCommitted u (record { node = n; id = id })
    by_end committer voted (inl c) = c
    by_end committer voted (inr a) = absurd (told_apart hosts u p.world j (record { node = n; id = id }) committer voted a)

only_commit : (asked : Notice) → AnswersAsNone asked notices.Committed → asked ≡ notices.Commit
only_commit notices.Prepare h = absurd cc
only_commit notices.Commit h = refl
only_commit notices.Rollback h = absurd cc
only_commit other h = absurd h

no_activity : (m : Moment) (a : Activity) (c : Change Activity) (q : Post) → ActivitySays m a c q → q.message ≡ messages.Notice notices.Committed → ⊥
no_activity m a c q (completing v to left asks known is goes on) says = by_asked asks
  where
    said : v ≡ notices.Committed
    said = same_notice q.message v notices.Committed (other_notice q v _ is refl) says

    by_asked : AsksTo v → ⊥
    by_asked (inl f) = let g : notices.Commit ≡ notices.Committed = sym f ∙ said in cc
    by_asked (inr f) = let g : notices.Rollback ≡ notices.Committed = sym f ∙ said in cc
no_activity m a c q (asks_nothing none) says = says_notice q.message notices.Committed none says

-- each Committed of a step
pub committed_told : (hosts : Hosts) (u : World) (n : ℕ) (x : Node) (b : Book) (e : Event) (now : ℕ) (landed : Bool) → StepPremises hosts u n x b e → IsOutcome hosts u → (q : Post)
    → Tells b e now (standing landed (plan b e now).entry) (step b e now landed) notices.Committed q → CommittedIsBacked hosts (counts u n x b e now landed) q
committed_told hosts u n x b e now landed p j q (to_seat d s i why is) to k id number says sent leads = absurd why
committed_told hosts u n x b e now landed p j q (to_left_seat d s i durable left said is from) to k id number says sent leads = absurd cc
committed_told hosts u n x b e now landed p j q (to_superior d kind up known why is) to k id number says sent leads =
    committed_before hosts u n x b e now landed p up (record { node = n; id = d.old.id }) kind k id number (link_enlists hosts u n x b e p d.old d.found kind up known)
    (subst (λ f. LeadsTo hosts f k (targets.Coordinator id (record { number = number; kind = kinds.Durable }))) (same_end q.to to up sent is.sent) leads)
    (λ durable. committing hosts u n x b e p d.old d.found (subst (λ how. StoodFor how d.old) (ends_up d.old d.deed.how d.deed.at kind why) d.deed.stood))
committed_told hosts u n x b e now landed p j q (says_aborted d kind up under aborts is known from) to k id number says sent leads = absurd cc
committed_told hosts u n x b e now landed p j q (from_left_link d kind s up under left why is known from) to k id number says sent leads =
    committed_before hosts u n x b e now landed p up (record { node = n; id = d.old.id }) kind k id number
    (known_or_asked hosts u n x b e p d.old d.found kind up notices.Commit (inr (inl refl)) why known)
    (subst (λ f. LeadsTo hosts f k (targets.Coordinator id (record { number = number; kind = kinds.Durable }))) (same_end q.to to up sent from.sent) leads)
    (λ durable. absurd (left_link hosts u n x b e p j d.old s kind d.found under left why durable))
committed_told hosts u n x b e now landed p j q (left_link_aborted d kind up under is known from) to k id number says sent leads = absurd cc
committed_told hosts u n x b e now landed p j q (to_initiator d up known why from) to k id number says sent leads =
    absurd (none_at_seat hosts u n x b e p d.old d.found up known k id (record { number = number; kind = kinds.Durable })
    (subst (λ f. LeadsTo hosts f k (targets.Coordinator id (record { number = number; kind = kinds.Durable }))) (same_end q.to to up sent from.sent) leads))
committed_told hosts u n x b e now landed p j q (to_asking d c up there done asked is from) to k id number says sent leads =
    let (i, same, accepted) = asking_initiator hosts u n x b e p asked.message asked.came d.old.id asked.target asked.says up asked.from k _ leads_up in
    absurd (no_initiator _ id i (record { number = number; kind = kinds.Durable }) refl same)
  where
    leads_up : LeadsTo hosts up k (targets.Coordinator id (record { number = number; kind = kinds.Durable }))
    leads_up = subst (λ f. LeadsTo hosts f k (targets.Coordinator id (record { number = number; kind = kinds.Durable }))) (same_end q.to to up sent from.sent) leads
committed_told hosts u n x b e now landed p j q (leaf_says d h) to k id number says sent leads = leaf_committed hosts u n x b e now landed p d q h says to k id number sent leads
committed_told hosts u n x b e now landed p j q (activity_says d h) to k id number says sent leads = absurd (no_activity _ _ _ q h says)
committed_told hosts u n x b e now landed p j q (to_late_seat d c late is i same) to k id number says sent leads = absurd cc
committed_told hosts u n x b e now landed p j q (as_no_seat d i s up target durable unknown came from is same) to k id number says sent leads = absurd cc
committed_told hosts u n x b e now landed p j q (as_no_participant d i kind up asked target unknown came why from same) to k id number says sent leads =
    committed_before hosts u n x b e now landed p up (record { node = n; id = i }) kind k id number
    (asker_enlists hosts u n x b e p d.arrived d.came i kind target asked (subst IsAsked (sym (only_commit asked why)) (inr (inl refl))) came up from)
    (subst (λ f. LeadsTo hosts f k (targets.Coordinator id (record { number = number; kind = kinds.Durable }))) (same_end q.to to up sent (ap (λ (r : Post). r.to) same)) leads)
    (λ durable. no_such_committed hosts u n x b e p j d.arrived d.came i kind target (came ∙ ap (λ v. messages.Notice v) (only_commit asked why)) unknown durable)
committed_told hosts u n x b e now landed p j q (as_committed d i up target kept came from is same) to k id number says sent leads =
    let (a, initiates, accepted) = asking_initiator hosts u n x b e p d.arrived d.came i target came up from k _
    (subst (λ f. LeadsTo hosts f k (targets.Coordinator id (record { number = number; kind = kinds.Durable }))) (same_end q.to to up sent (ap (λ (r : Post). r.to) same)) leads) in
    absurd (no_initiator _ id a (record { number = number; kind = kinds.Durable }) refl initiates)
