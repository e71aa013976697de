-- A vote that is waited for stays owed over each step.
use Rattle.std.specs.Prelude.{ℕ, List, Option, Some, None, Bool, true, false, is_none, ◌≡◌, ◌⊎◌, refl}
use Rattle.std.proofs.Common.{inl, inr, sym, subst, ap, ◌∙◌}
use Rattle.at_base.specs.declared.epr.Epr.{Epr}
use Rattle.at_base.specs.declared.notice.Kind.{Kind}
use Rattle.at_base.specs.declared.notice.Kind.TheVariants as kinds
use Rattle.at_base.specs.declared.notice.Notice.{Notice}
use Rattle.at_base.specs.declared.notice.Notice.TheVariants as notices
use Rattle.at_base.specs.declared.message.Message.TheVariants as messages
use Rattle.at_base.specs.declared.event.Arrived.{Arrived}
use Rattle.at_base.specs.declared.event.Event.TheVariants as events
use Rattle.at_base.specs.declared.target.Target.TheVariants as targets
use Rattle.at_tables.specs.declared.cells.State.{State}
use Rattle.at_tables.specs.declared.cells.State.TheVariants as states
use Rattle.at_base.specs.Names.{is_kind}
use Rattle.at_model.specs.Book.{Book, Enlistment, Leaf, Phase, Superior, Transaction, leaf_id, transaction_id}
use Rattle.at_model.specs.Due.{may_expire}
use Rattle.at_model.specs.Seats.{link_of}
use Rattle.at_model.specs.Step.{leaf_at, step, transaction_at}
use Rattle.at_model.specs.World.{Posted, Who, World, Hosts}
use Rattle.model_laws.specs.Agreement.{HasCommitted, IsIn}
use Rattle.model_laws.specs.Shapes.{IfFound, NoParticipant}
use Rattle.model_laws.specs.ReachedWorlds.{Reached}
use Rattle.model_laws.proofs.DecisionLaws.{found_id, same_kind}
use Rattle.model_laws.proofs.Registrations.{one_superior}
use Rattle.agreement.specs.Deeds.{coordinator_at}
use Rattle.agreement.proofs.SeatedEntries.{one_of}
use Rattle.enlistments.proofs.Arrivals.{HasCome, has_come}
use Rattle.owed.specs.DurablePrepares.{has_asked}
use Rattle.owed.specs.Seats.{AnswersSeat, HasAnswered, Tells, posts_of}
use Rattle.owed.specs.Shape.{LinkKnows, StandsUnder, suits}
use Rattle.owed.specs.Links.{IsBusy, IsExcused, LinkIsBusy, LinksOwed, StaysBusy, TellsAnswer, superior_left}
use Rattle.owed.proofs.RegisterAnswers.{steps_owe_leaves}
use Rattle.owed.proofs.Strangers.{steps_owe_links}
use Rattle.votes.specs.NamedParticipants.{HasSeat}
use Rattle.votes.specs.ToldOutcomes.{CommitIsBacked, IsUnderCommitted}
use Rattle.votes.proofs.VotesAndOutcomes.{outcomes_are_backed}
use Rattle.paired.specs.Partners.{IsPlace, participant_of, seat_of}
use Rattle.paired.proofs.Partners.{partners_are_paired}
use Rattle.settled.specs.DurablePrepares.{IsAskedBy, PreparesAreBehind}
use Rattle.settled.specs.CalmSteps.{Goes}
use Rattle.settled.specs.OwedMessages.{IsSeatPlace, Comes, HasRegistered, Holds, IsBusyAt, IsNotice, IsNoticeFrom, OwesVote, seat_target_of}
use Rattle.settled.proofs.CalmSteps.{book_after, holds_before, holds_elsewhere, or_arrives, or_elsewhere, posted_in, ready, same_book, seat_told, shaped, stepping}
use Rattle.settled.proofs.Partners.{found_own, known_is, leaf_knows, leaf_own, left_busy, link_knows, seat_has, seat_place, shape_at, still_busy, stored_is}

-- a seat that is asked is one of a transaction that is undecided; and a volatile one of one that hasn't asked the durable ones
pub preparing_undecided : (p : Phase) (k : Kind) → suits p k states.Preparing ≡ true → may_expire p ≡ true
preparing_undecided Phase.Registering k e = absurd cc
preparing_undecided Phase.Active kinds.Volatile e = absurd cc
preparing_undecided Phase.Active kinds.Durable e = absurd cc
preparing_undecided Phase.Volatile k e = refl
preparing_undecided Phase.Durable k e = refl
preparing_undecided Phase.Voted k e = absurd cc
preparing_undecided Phase.Committing k e = absurd cc
preparing_undecided Phase.Aborting k e = absurd cc

volatile_early : (p : Phase) → suits p kinds.Volatile states.Preparing ≡ true → has_asked p ≡ true → ⊥
volatile_early Phase.Registering e f = cc
volatile_early Phase.Active e f = cc
volatile_early Phase.Volatile e f = cc
volatile_early Phase.Durable e f = cc
volatile_early Phase.Voted e f = cc
volatile_early Phase.Committing e f = cc
volatile_early Phase.Aborting e f = cc

pub suits_at : (hosts : Hosts) (w : World) → Reached hosts w → (n : ℕ) (b : Book) → Holds w n b → (t : Transaction) (s : Enlistment) → transaction_at b t.id ≡ Some t → IsIn s t.seats
    → suits t.phase s.kind s.state ≡ true
suits_at hosts w reached n b h t s found i = one_of (λ (q : Enlistment). suits t.phase q.kind q.state ≡ true) t.seats s (shape_at hosts w reached n b h t.id t found).0 i

-- a Commit that comes to a participant comes of a transaction that has committed
pub comes_committed : (hosts : Hosts) (u v : World) (before after : List Posted) → (g : Goes hosts u v before after) → (x : Who) (kind : Kind) (a : Arrived) → x.node ≡ g.number
    → g.event ≡ events.Arrived a → a.target ≡ targets.Participant x.id kind → a.message ≡ messages.Notice notices.Commit → IsUnderCommitted u x kind
comes_committed hosts u v before after g x kind a here came target says =
    let h : HasCome hosts u g.number a = has_come hosts u g.number g.node g.book g.event g.now true a (stepping hosts u v before after g) came in
    subst (λ n. IsUnderCommitted u (record { node = n; id = x.id }) kind) (sym here)
    ((one_of (λ (p : Posted). CommitIsBacked hosts u p.content) u.posted h.posted (outcomes_are_backed.reached hosts u g.distinct g.reached).commits h.stands h.to g.number x.id kind
    (h.message ∙ says) h.sent (h.leads ∙ (λ i. Some (g.number, target i)))).1)

-- but not where its seat is still asked
pub not_committed : (hosts : Hosts) (u v : World) (before after : List Posted) → (g : Goes hosts u v before after) → (x : Who) (kind : Kind) (n : ℕ) (b : Book) (t : Transaction) (number : ℕ)
    → Holds u n b → transaction_at b t.id ≡ Some t → may_expire t.phase ≡ true → HasSeat u (record { node = n; id = t.id }) number kind x → IsUnderCommitted u x kind → ⊥
not_committed hosts u v before after g x kind n b t number h found undecided seat c =
    (partners_are_paired.votes hosts u g.distinct g.reached n h.node b h.found h.up).undecided t found undecided
    (subst (λ (z : Who). HasCommitted u z) (one_superior hosts u g.distinct g.reached x c.transaction (record { node = n; id = t.id }) _ _ c.seat seat) c.committed)

-- nor does a durable Prepare come while a volatile seat of the same transaction is asked
not_asked : (hosts : Hosts) (u v : World) (before after : List Posted) → (g : Goes hosts u v before after) → PreparesAreBehind hosts u → (x : Who) (a : Arrived) (n : ℕ) (b : Book) (t : Transaction)
    (number : ℕ) → x.node ≡ g.number → g.event ≡ events.Arrived a → a.target ≡ targets.Participant x.id kinds.Durable → a.message ≡ messages.Notice notices.Prepare → Holds u n b
    → transaction_at b t.id ≡ Some t → suits t.phase kinds.Volatile states.Preparing ≡ true → HasSeat u (record { node = n; id = t.id }) number kinds.Volatile x → ⊥
not_asked hosts u v before after g behind x a n b t number here came target says h found early seat =
    let c : HasCome hosts u g.number a = has_come hosts u g.number g.node g.book g.event g.now true a (stepping hosts u v before after g) came in
    let k : IsAskedBy u (record { node = g.number; id = x.id }) = behind c.posted c.to g.number x.id c.stands c.sent (c.leads ∙ (λ i. Some (g.number, target i))) (c.message ∙ says) in
    let same : k.transaction ≡ record { node = n; id = t.id } =
    one_superior hosts u g.distinct g.reached (record { node = g.number; id = x.id }) k.transaction (record { node = n; id = t.id }) _ _ k.seat
    (subst (λ m. HasSeat u (record { node = n; id = t.id }) number kinds.Volatile (record { node = m; id = x.id })) here seat) in
    volatile_early t.phase early
    (k.asked b t (subst (λ (z : Who). Holds u z.node b) (sym same) h) (ap (λ (z : Who). transaction_at b z.id) same ∙ found))

-- a Prepare that arrives is answered, or the participant is busy with it
prepare_arrives : (hosts : Hosts) (u v : World) (before after : List Posted) → (g : Goes hosts u v before after) → (x : Who) (kind : Kind) (z : Who) (number : ℕ) (a : Arrived) → x.node ≡ g.number
    → g.event ≡ events.Arrived a → IsNoticeFrom (targets.Participant x.id kind) notices.Prepare (seat_of hosts z number kind) a → HasSeat u z number kind x → HasRegistered u x kind
    → IsBusyAt v x kind ⊎ TellsAnswer (seat_of hosts z number kind) (posted_in g)
prepare_arrives hosts u v before after g x kind z number a here came ((target, says), from) seat registered = by_transaction (transaction_at g.book x.id) refl
  where
    e : Epr
    e = seat_of hosts z number kind

    holds : Holds u x.node g.book
    holds = subst (λ m. Holds u m g.book) (sym here) (holds_before hosts u v before after g)

    stranger : NoParticipant kind (transaction_at g.book x.id) (leaf_at g.book x.id) → IsBusyAt v x kind ⊎ TellsAnswer e (posted_in g)
    stranger unknown =
        inr (
          notices.Aborted,
          tt,
          subst (λ d. Tells (Some e) notices.Aborted (posts_of (step g.book d g.now true).outs)) (sym came)
              (steps_owe_links.unprepared g.book a g.now x.id kind e target unknown says from),
        )

    by_superior : (t : Transaction) → transaction_at g.book x.id ≡ Some t → (s : Option Superior) → t.superior ≡ s → IsBusyAt v x kind ⊎ TellsAnswer e (posted_in g)
    by_superior t found None root = stranger (subst (λ o. NoParticipant kind o (leaf_at g.book x.id)) (sym found) root)
    by_superior t found (Some s) under =
        let id_is : t.id ≡ x.id = found_id transaction_id x.id g.book.transactions t found in
        let l : LinksOwed g.book.base g.event t s (posted_in g) (superior_left (transaction_at (book_after g) t.id)) =
        steps_owe_links.links g.book g.event g.now (ready hosts u v before after g) (shaped hosts u v before after g) t s (found_own g.book x.id t found) under in
        by_answer id_is
        (l.0 kind (record { message = a; came = came; target = target ∙ ap (λ i. targets.Participant i kind) (sym id_is); says = says }) e (registered.link g.book t s holds found under)
        (stored_is (link_of kind s).coordinator a.from e from
        (λ c knows. link_knows hosts u g.distinct g.reached x.node g.book holds x.id t kind c z number found seat (ap (coordinator_at kind) under ∙ knows))))
      where
        by_answer : t.id ≡ x.id → LinkIsBusy kind (superior_left (transaction_at (book_after g) t.id)) ⊎ TellsAnswer e (posted_in g) → IsBusyAt v x kind ⊎ TellsAnswer e (posted_in g)
        by_answer same (inl busy) =
            inl (left_busy hosts u v before after g x kind here (transaction_at (book_after g) x.id) refl
            (subst (λ i. LinkIsBusy kind (superior_left (transaction_at (book_after g) i))) same busy))
        by_answer same (inr tells) = inr tells

    by_kind : (l : Leaf) → transaction_at g.book x.id ≡ None → leaf_at g.book x.id ≡ Some l → (c : Bool) → is_kind l.kind kind ≡ c → IsBusyAt v x kind ⊎ TellsAnswer e (posted_in g)
    by_kind l none found true same =
        let id_is : l.id ≡ x.id = found_id leaf_id x.id g.book.leaves l found in
        let k : l.kind ≡ kind = same_kind l.kind kind same in
        inr ((steps_owe_leaves.leaves g.book g.event g.now (ready hosts u v before after g) l (leaf_own g.book x.id l found) (ap (transaction_at g.book) id_is ∙ none)).0
        (record { arrived = a; event = came; target = target ∙ (λ i. targets.Participant (sym id_is i) (sym k i)); message = says }) e (registered.leaf g.book l holds found)
        (stored_is l.coordinator a.from e from
        (λ c knows. leaf_knows hosts u g.distinct g.reached x.node g.book holds x.id l c z number found (subst (λ d. HasSeat u z number d x) (sym k) seat) knows ∙ ap (seat_of hosts z number) k)))
    by_kind l none found false other =
        stranger (subst (λ o. NoParticipant kind o (leaf_at g.book x.id)) (sym none) (subst (λ o. IfFound (λ (y : Leaf). is_kind y.kind kind ≡ false) o) (sym found) other))

    by_leaf : transaction_at g.book x.id ≡ None → (o : Option Leaf) → leaf_at g.book x.id ≡ o → IsBusyAt v x kind ⊎ TellsAnswer e (posted_in g)
    by_leaf none None f = stranger (subst (λ o. NoParticipant kind o (leaf_at g.book x.id)) (sym none) (subst (λ o. IfFound (λ (y : Leaf). is_kind y.kind kind ≡ false) o) (sym f) tt))
    by_leaf none (Some l) f = by_kind l none f (is_kind l.kind kind) refl

    by_transaction : (o : Option Transaction) → transaction_at g.book x.id ≡ o → IsBusyAt v x kind ⊎ TellsAnswer e (posted_in g)
    by_transaction None f = by_leaf f (leaf_at g.book x.id) refl
    by_transaction (Some t) f = by_superior t f t.superior refl

-- a link that is busy stays so, or answers
busy_state : (kind : Kind) (s : Superior) (state : State) → state ≡ (link_of kind s).state → IsBusy state → LinkKnows s.request state (link_of kind s).coordinator → is_none (link_of kind s).coordinator ≡ false
busy_state kind s states.Preparing e h k = k
busy_state kind s states.Committing e h k = k
busy_state kind s other e h k = absurd h

link_known : (kind : Kind) (s : Superior) → LinkKnows s.request s.volatile.state s.volatile.coordinator × LinkKnows s.request s.durable.state s.durable.coordinator
    → LinkKnows s.request (link_of kind s).state (link_of kind s).coordinator
link_known kinds.Volatile s h = h.0
link_known kinds.Durable s h = h.1

busy_on : (hosts : Hosts) (u v : World) (before after : List Posted) → (g : Goes hosts u v before after) → PreparesAreBehind hosts u → (x : Who) (kind : Kind) (n : ℕ) (b : Book) (t : Transaction)
    (number : ℕ) → Holds u n b → transaction_at b t.id ≡ Some t → suits t.phase kind states.Preparing ≡ true → HasSeat u (record { node = n; id = t.id }) number kind x → IsBusyAt u x kind
    → IsBusyAt v x kind ⊎ TellsAnswer (seat_of hosts (record { node = n; id = t.id }) number kind) (posted_in g)
busy_on hosts u v before after g behind x kind n b t number h found early seat k = by_place (or_elsewhere x.node g.number)
  where
    z : Who
    z = record { node = n; id = t.id }

    e : Epr
    e = seat_of hosts z number kind

    here_busy : x.node ≡ g.number → (o : Transaction) → transaction_at g.book x.id ≡ Some o → (s : Option Superior) → o.superior ≡ s → LinkIsBusy kind s → IsBusyAt v x kind ⊎ TellsAnswer e (posted_in g)
    here_busy here o there None under busy = absurd busy
    here_busy here o there (Some s) under busy =
        let holds : Holds u x.node g.book = subst (λ m. Holds u m g.book) (sym here) (holds_before hosts u v before after g) in
        let id_is : o.id ≡ x.id = found_id transaction_id x.id g.book.transactions o there in
        let l : LinksOwed g.book.base g.event o s (posted_in g) (superior_left (transaction_at (book_after g) o.id)) =
        steps_owe_links.links g.book g.event g.now (ready hosts u v before after g) (shaped hosts u v before after g) o s (found_own g.book x.id o there) under in
        let knows : (link_of kind s).coordinator ≡ Some e =
        known_is (link_of kind s).coordinator e
        (busy_state kind s (link_of kind s).state refl busy
        (link_known kind s (subst (λ y. StandsUnder o.phase y o.completion) under (shape_at hosts u g.reached x.node g.book holds x.id o there).1.1)))
        (λ c knows. link_knows hosts u g.distinct g.reached x.node g.book holds x.id o kind c z number there seat (ap (coordinator_at kind) under ∙ knows)) in
        still_busy hosts u v before after g x kind e here
        (subst (λ i. StaysBusy kind e (posted_in g) (superior_left (transaction_at (book_after g) i))) id_is (l.1.1.0 kind e (excused id_is) busy knows))
      where
        excused : o.id ≡ x.id → IsExcused g.event o kind s → ⊥
        excused id_is (inl (preparing, said)) =
            not_committed hosts u v before after g x kind n b t number h found (preparing_undecided t.phase kind early) seat
            (comes_committed hosts u v before after g x kind said.message here said.came (said.target ∙ ap (λ i. targets.Participant i kind) id_is) said.says)
        excused id_is (inr (volatile, said)) =
            not_asked hosts u v before after g behind x said.message n b t number here said.came (said.target ∙ ap (λ i. targets.Participant i kinds.Durable) id_is) said.says h found
            (subst (λ d. suits t.phase d states.Preparing ≡ true) volatile early) (subst (λ d. HasSeat u z number d x) volatile seat)

    by_place : (x.node ≡ g.number) ⊎ (x.node ≡ g.number → ⊥) → IsBusyAt v x kind ⊎ TellsAnswer e (posted_in g)
    by_place (inl here) =
        let same : k.book ≡ g.book = same_book u x.node k.book g.book k.holds (subst (λ m. Holds u m g.book) (sym here) (holds_before hosts u v before after g)) in
        here_busy here k.transaction (subst (λ c. transaction_at c x.id ≡ Some k.transaction) same k.found) k.transaction.superior refl k.busy
    by_place (inr other) =
        inl (record { book = k.book; holds = holds_elsewhere hosts u v before after g x.node k.book other k.holds; transaction = k.transaction; found = k.found; busy = k.busy })

-- so what a seat waits for stays owed, where no answer came to it
pub vote_on : (hosts : Hosts) (u v : World) (before after : List Posted) → (g : Goes hosts u v before after) → PreparesAreBehind hosts u → (n : ℕ) (b : Book) (t : Transaction) (s : Enlistment) (x : Who)
    → Holds u n b → transaction_at b t.id ≡ Some t → IsIn s t.seats → s.state ≡ states.Preparing → IsPlace hosts x → s.participant ≡ participant_of hosts x s.kind → HasRegistered u x s.kind
    → (n ≡ g.number → HasAnswered g.event t s → ⊥) → OwesVote hosts u before (record { node = n; id = t.id }) s.number s.kind x → OwesVote hosts v after (record { node = n; id = t.id }) s.number s.kind x
vote_on hosts u v before after g behind n b t s x h found i state place is registered unanswered owed = by_owed owed
  where
    z : Who
    z = record { node = n; id = t.id }

    seat : HasSeat u z s.number s.kind x
    seat = seat_has hosts u g.distinct g.reached n b h t s x found i place is

    there : IsSeatPlace hosts z s.number
    there = seat_place hosts u g.distinct g.reached n b h t s found i

    early : suits t.phase s.kind states.Preparing ≡ true
    early = subst (λ d. suits t.phase s.kind d ≡ true) state (suits_at hosts u g.reached n b h t s found i)

    answered : IsBusyAt v x s.kind ⊎ TellsAnswer (seat_of hosts z s.number s.kind) (posted_in g) → OwesVote hosts v after z s.number s.kind x
    answered (inl busy) = inr (inr busy)
    answered (inr (m, answers, tells)) = inr (inl (m, answers, seat_told hosts u v before after g z s.number s.kind m answers there tells))

    by_asked : (c : Comes hosts before x.node (IsNoticeFrom (targets.Participant x.id s.kind) notices.Prepare (seat_of hosts z s.number s.kind)))
        → Comes hosts after x.node (IsNoticeFrom (targets.Participant x.id s.kind) notices.Prepare (seat_of hosts z s.number s.kind)) ⊎ ((x.node ≡ g.number) × (g.event ≡ events.Arrived c.arrived))
        → OwesVote hosts v after z s.number s.kind x
    by_asked c (inl stays) = inl stays
    by_asked c (inr (here, came)) = answered (prepare_arrives hosts u v before after g x s.kind z s.number c.arrived here came c.says seat registered)

    by_heard : (m : Notice) → AnswersSeat m → (c : Comes hosts before n (IsNotice (seat_target_of z s.number s.kind) m))
        → Comes hosts after n (IsNotice (seat_target_of z s.number s.kind) m) ⊎ ((n ≡ g.number) × (g.event ≡ events.Arrived c.arrived)) → OwesVote hosts v after z s.number s.kind x
    by_heard m answers c (inl stays) = inr (inl (m, answers, stays))
    by_heard m answers c (inr (here, came)) =
        absurd (unanswered here (m, answers, record { message = c.arrived; came = came; target = c.says.0; says = c.says.1 }))

    by_owed : OwesVote hosts u before z s.number s.kind x → OwesVote hosts v after z s.number s.kind x
    by_owed (inl c) = by_asked c (or_arrives hosts u v before after g x.node _ c)
    by_owed (inr (inl (m, answers, c))) = by_heard m answers c (or_arrives hosts u v before after g n _ c)
    by_owed (inr (inr busy)) = answered (busy_on hosts u v before after g behind x s.kind n b t s.number h found early seat busy)
