-- A commit that is waited for stays owed over each step.
use Rattle.std.specs.Prelude.{ℕ, List, Option, Some, None, Bool, true, false, ◌≡◌, ◌⊎◌, refl}
use Rattle.std.proofs.Common.{inl, inr, sym, subst, ap, ◌∙◌}
use Rattle.at_base.specs.Numbers.{Numbers}
use Rattle.at_base.specs.declared.epr.Epr.{Epr}
use Rattle.at_base.specs.declared.notice.Kind.TheVariants as kinds
use Rattle.at_base.specs.declared.notice.Notice.TheVariants as notices
use Rattle.at_base.specs.declared.message.Message.TheVariants as messages
use Rattle.at_base.specs.declared.event.Arrived.{Arrived}
use Rattle.at_base.specs.declared.event.Event.TheVariants as events
use Rattle.at_base.specs.declared.target.Target.TheVariants as targets
use Rattle.at_tables.specs.declared.cells.State.{State}
use Rattle.at_tables.specs.declared.cells.State.TheVariants as states
use Rattle.at_base.specs.Names.{is_kind}
use Rattle.at_model.specs.Book.{Book, Enlistment, Leaf, Phase, Superior, Transaction, leaf_id, transaction_id}
use Rattle.at_model.specs.Due.{may_expire}
use Rattle.at_model.specs.Step.{leaf_at, step, transaction_at}
use Rattle.at_model.specs.World.{Posted, Who, World, Hosts}
use Rattle.model_laws.specs.Agreement.{HasPosted, IsIn}
use Rattle.model_laws.specs.PhaseAnswers.{Accepted as Seating}
use Rattle.model_laws.specs.Links.{AreIn, AreLinked}
use Rattle.model_laws.specs.Shapes.{IfFound, NoParticipant}
use Rattle.model_laws.proofs.DecisionLaws.{all_find, found_id, same_kind}
use Rattle.agreement.specs.Deeds.{ParticipantSaid, coordinator_at}
use Rattle.agreement.proofs.SeatedEntries.{one_of}
use Rattle.enlistments.proofs.Arrivals.{HasCome, has_come}
use Rattle.owed.specs.Seats.{IsNew, IsOwed, Tells, posts_of, seat_post}
use Rattle.owed.specs.Shape.{LinkKnows, StandsUnder}
use Rattle.owed.specs.Links.{CommitsIn, IsEarly, LinksOwed, StaysCommitting, superior_left}
use Rattle.owed.proofs.RegisterAnswers.{steps_owe_leaves}
use Rattle.owed.proofs.Strangers.{steps_owe_links}
use Rattle.votes.specs.NamedParticipants.{HasSeat}
use Rattle.votes.specs.ToldOutcomes.{CommitIsBacked}
use Rattle.votes.specs.DurableVotes.{HasVoted}
use Rattle.votes.proofs.VotesAndOutcomes.{outcomes_are_backed, votes_are_kept}
use Rattle.paired.specs.Partners.{IsPlace, participant_of, seat_of}
use Rattle.paired.proofs.Partners.{partners_are_paired}
use Rattle.settled.specs.CalmSteps.{Goes}
use Rattle.settled.specs.OwedMessages.{IsSeatPlace, Comes, CommitsAreOwed, CommitsAt, Holds, IsNotice, IsNoticeFrom, OwesCommitted, seat_target_of}
use Rattle.settled.proofs.CalmSteps.{book_after, held_elsewhere, holds_after, holds_before, holds_elsewhere, or_arrives, or_elsewhere, posted_in, ready, same_book, seat_asks, seat_told, shaped, stepping}
use Rattle.settled.proofs.Partners.{found_own, known_is, leaf_knows, leaf_own, left_committing, link_knows, seat_has, seat_place, shape_at, still_committing, stored_is}
use Rattle.settled.proofs.KeptVotes.{Partner, StoodBefore, stood}

-- a durable participant to whom a Commit comes has voted
pub comes_voted : (hosts : Hosts) (u v : World) (before after : List Posted) → (g : Goes hosts u v before after) → (x : Who) (a : Arrived) → x.node ≡ g.number → g.event ≡ events.Arrived a
    → a.target ≡ targets.Participant x.id kinds.Durable → a.message ≡ messages.Notice notices.Commit → HasVoted u x
comes_voted hosts u v before after g x a here came target says =
    let h : HasCome hosts u g.number a = has_come hosts u g.number g.node g.book g.event g.now true a (stepping hosts u v before after g) came in
    votes_are_kept.prepared hosts u g.distinct g.reached x
    (subst (λ n. HasPosted u (record { node = n; id = x.id }) kinds.Durable notices.Prepared) (sym here)
    ((one_of (λ (p : Posted). CommitIsBacked hosts u p.content) u.posted h.posted (outcomes_are_backed.reached hosts u g.distinct g.reached).commits h.stands h.to g.number x.id kinds.Durable
    (h.message ∙ says) h.sent (h.leads ∙ (λ i. Some (g.number, target i)))).0))

early_undecided : (p : Phase) (volatile durable : State) → AreIn p volatile durable → IsEarly durable → may_expire p ≡ true
early_undecided Phase.Registering volatile durable h e = refl
early_undecided Phase.Active volatile durable h e = refl
early_undecided Phase.Volatile volatile durable h e = refl
early_undecided Phase.Durable volatile durable h e = refl
early_undecided Phase.Voted volatile durable (h, k) e = absurd (subst IsEarly k e)
early_undecided Phase.Committing volatile durable (h, k) e = absurd (subst IsEarly k e)
early_undecided Phase.Aborting volatile durable (h, k) e = absurd (subst IsEarly k e)

pub linked_at : (hosts : Hosts) (u v : World) (before after : List Posted) → (g : Goes hosts u v before after) → (id : Numbers) (t : Transaction) (s : Superior) → transaction_at g.book id ≡ Some t
    → t.superior ≡ Some s → AreIn t.phase s.volatile.state s.durable.state
linked_at hosts u v before after g id t s found under =
    (subst (λ o. AreLinked t.phase o t.completion) under
    (all_find (λ (y : Transaction). AreLinked y.phase y.superior y.completion) transaction_id id g.book.transactions t (ready hosts u v before after g).phases.links found)).0

-- a Commit that arrives is answered, or the participant commits
commit_arrives : (hosts : Hosts) (u v : World) (before after : List Posted) → (g : Goes hosts u v before after) → (x z : Who) (number : ℕ) (a : Arrived) → x.node ≡ g.number
    → g.event ≡ events.Arrived a → IsNoticeFrom (targets.Participant x.id kinds.Durable) notices.Commit (seat_of hosts z number kinds.Durable) a → HasSeat u z number kinds.Durable x
    → CommitsAt v x ⊎ Tells (Some (seat_of hosts z number kinds.Durable)) notices.Committed (posted_in g)
commit_arrives hosts u v before after g x z number a here came ((target, says), from) seat = by_transaction (transaction_at g.book x.id) refl
  where
    e : Epr
    e = seat_of hosts z number kinds.Durable

    holds : Holds u x.node g.book
    holds = subst (λ m. Holds u m g.book) (sym here) (holds_before hosts u v before after g)

    voted : HasVoted u x
    voted = comes_voted hosts u v before after g x a here came target says

    stranger : NoParticipant kinds.Durable (transaction_at g.book x.id) (leaf_at g.book x.id) → CommitsAt v x ⊎ Tells (Some e) notices.Committed (posted_in g)
    stranger unknown =
        inr (subst (λ d. Tells (Some e) notices.Committed (posts_of (step g.book d g.now true).outs)) (sym came)
        (steps_owe_links.uncommitted g.book a g.now x.id kinds.Durable e target unknown says from))

    by_superior : (t : Transaction) → transaction_at g.book x.id ≡ Some t → (s : Option Superior) → t.superior ≡ s → CommitsAt v x ⊎ Tells (Some e) notices.Committed (posted_in g)
    by_superior t found None root = stranger (subst (λ o. NoParticipant kinds.Durable o (leaf_at g.book x.id)) (sym found) root)
    by_superior t found (Some s) under =
        let id_is : t.id ≡ x.id = found_id transaction_id x.id g.book.transactions t found in
        let l : LinksOwed g.book.base g.event t s (posted_in g) (superior_left (transaction_at (book_after g) t.id)) =
        steps_owe_links.links g.book g.event g.now (ready hosts u v before after g) (shaped hosts u v before after g) t s (found_own g.book x.id t found) under in
        by_answer id_is
        (l.1.0 (record { message = a; came = came; target = target ∙ ap (λ i. targets.Participant i kinds.Durable) (sym id_is); says = says }) e
        (λ early. (partners_are_paired.votes hosts u g.distinct g.reached x.node holds.node g.book holds.found holds.up).unvoted t (found_own g.book x.id t found)
        (early_undecided t.phase s.volatile.state s.durable.state (linked_at hosts u v before after g x.id t s found under) early)
        (subst (λ i. HasVoted u (record { node = x.node; id = i })) (sym id_is) voted))
        (stored_is s.durable.coordinator a.from e from
        (λ c knows. link_knows hosts u g.distinct g.reached x.node g.book holds x.id t kinds.Durable c z number found seat (ap (coordinator_at kinds.Durable) under ∙ knows))))
      where
        by_answer : t.id ≡ x.id → CommitsIn (superior_left (transaction_at (book_after g) t.id)) ⊎ Tells (Some e) notices.Committed (posted_in g)
            → CommitsAt v x ⊎ Tells (Some e) notices.Committed (posted_in g)
        by_answer same (inl commits) =
            inl (left_committing hosts u v before after g x here (transaction_at (book_after g) x.id) refl
            (subst (λ i. CommitsIn (superior_left (transaction_at (book_after g) i))) same commits))
        by_answer same (inr tells) = inr tells

    by_kind : (l : Leaf) → transaction_at g.book x.id ≡ None → leaf_at g.book x.id ≡ Some l → (c : Bool) → is_kind l.kind kinds.Durable ≡ c
        → CommitsAt v x ⊎ Tells (Some e) notices.Committed (posted_in g)
    by_kind l none found true same =
        let id_is : l.id ≡ x.id = found_id leaf_id x.id g.book.leaves l found in
        let k : l.kind ≡ kinds.Durable = same_kind l.kind kinds.Durable same in
        inr ((steps_owe_leaves.leaves g.book g.event g.now (ready hosts u v before after g) l (leaf_own g.book x.id l found) (ap (transaction_at g.book) id_is ∙ none)).1.0
        (record { arrived = a; event = came; target = target ∙ (λ i. targets.Participant (sym id_is i) (sym k i)); message = says }) e
        ((partners_are_paired.votes hosts u g.distinct g.reached x.node holds.node g.book holds.found holds.up).prepared l (leaf_own g.book x.id l found)
        (subst (λ i. HasVoted u (record { node = x.node; id = i })) (sym id_is) voted))
        (stored_is l.coordinator a.from e from
        (λ c knows. leaf_knows hosts u g.distinct g.reached x.node g.book holds x.id l c z number found (subst (λ d. HasSeat u z number d x) (sym k) seat) knows ∙ ap (seat_of hosts z number) k)))
    by_kind l none found false other =
        stranger (subst (λ o. NoParticipant kinds.Durable o (leaf_at g.book x.id)) (sym none)
        (subst (λ o. IfFound (λ (y : Leaf). is_kind y.kind kinds.Durable ≡ false) o) (sym found) other))

    by_leaf : transaction_at g.book x.id ≡ None → (o : Option Leaf) → leaf_at g.book x.id ≡ o → CommitsAt v x ⊎ Tells (Some e) notices.Committed (posted_in g)
    by_leaf none None f =
        stranger (subst (λ o. NoParticipant kinds.Durable o (leaf_at g.book x.id)) (sym none) (subst (λ o. IfFound (λ (y : Leaf). is_kind y.kind kinds.Durable ≡ false) o) (sym f) tt))
    by_leaf none (Some l) f = by_kind l none f (is_kind l.kind kinds.Durable) refl

    by_transaction : (o : Option Transaction) → transaction_at g.book x.id ≡ o → CommitsAt v x ⊎ Tells (Some e) notices.Committed (posted_in g)
    by_transaction None f = by_leaf f (leaf_at g.book x.id) refl
    by_transaction (Some t) f = by_superior t f t.superior refl

-- a link that commits goes on, or says Committed
committing_on : (hosts : Hosts) (u v : World) (before after : List Posted) → (g : Goes hosts u v before after) → (x z : Who) (number : ℕ) → HasSeat u z number kinds.Durable x → CommitsAt u x
    → CommitsAt v x ⊎ Tells (Some (seat_of hosts z number kinds.Durable)) notices.Committed (posted_in g)
committing_on hosts u v before after g x z number seat k = by_place (or_elsewhere x.node g.number)
  where
    e : Epr
    e = seat_of hosts z number kinds.Durable

    here_commits : x.node ≡ g.number → (o : Transaction) → transaction_at g.book x.id ≡ Some o → (s : Option Superior) → o.superior ≡ s → CommitsIn s
        → CommitsAt v x ⊎ Tells (Some e) notices.Committed (posted_in g)
    here_commits here o there None under commits = absurd commits
    here_commits here o there (Some s) under commits =
        let holds : Holds u x.node g.book = subst (λ m. Holds u m g.book) (sym here) (holds_before hosts u v before after g) in
        let id_is : o.id ≡ x.id = found_id transaction_id x.id g.book.transactions o there in
        let l : LinksOwed g.book.base g.event o s (posted_in g) (superior_left (transaction_at (book_after g) o.id)) =
        steps_owe_links.links g.book g.event g.now (ready hosts u v before after g) (shaped hosts u v before after g) o s (found_own g.book x.id o there) under in
        let knows : s.durable.coordinator ≡ Some e =
        known_is s.durable.coordinator e
        (subst (λ d. LinkKnows s.request d s.durable.coordinator) commits (subst (λ y. StandsUnder o.phase y o.completion) under (shape_at hosts u g.reached x.node g.book holds x.id o there).1.1).1)
        (λ c is. link_knows hosts u g.distinct g.reached x.node g.book holds x.id o kinds.Durable c z number there seat (ap (coordinator_at kinds.Durable) under ∙ is)) in
        still_committing hosts u v before after g x e here
        (subst (λ i. StaysCommitting e (posted_in g) (superior_left (transaction_at (book_after g) i))) id_is (l.1.1.1.0 e commits knows))

    by_place : (x.node ≡ g.number) ⊎ (x.node ≡ g.number → ⊥) → CommitsAt v x ⊎ Tells (Some e) notices.Committed (posted_in g)
    by_place (inl here) =
        let same : k.book ≡ g.book = same_book u x.node k.book g.book k.holds (subst (λ m. Holds u m g.book) (sym here) (holds_before hosts u v before after g)) in
        here_commits here k.transaction (subst (λ c. transaction_at c x.id ≡ Some k.transaction) same k.found) k.transaction.superior refl k.commits
    by_place (inr other) =
        inl (record { book = k.book; holds = holds_elsewhere hosts u v before after g x.node k.book other k.holds; transaction = k.transaction; found = k.found; commits = k.commits })

commit_on : (hosts : Hosts) (u v : World) (before after : List Posted) → (g : Goes hosts u v before after) → (n : ℕ) (b : Book) (t : Transaction) (s : Enlistment) (x : Who)
    → Holds u n b → transaction_at b t.id ≡ Some t → IsIn s t.seats → s.kind ≡ kinds.Durable → IsPlace hosts x → s.participant ≡ participant_of hosts x s.kind
    → (n ≡ g.number → ParticipantSaid notices.Committed g.event t s → ⊥) → OwesCommitted hosts u before (record { node = n; id = t.id }) s.number x
    → OwesCommitted hosts v after (record { node = n; id = t.id }) s.number x
commit_on hosts u v before after g n b t s x h found i durable place is unanswered owed = by_owed owed
  where
    z : Who
    z = record { node = n; id = t.id }

    seat : HasSeat u z s.number kinds.Durable x
    seat = subst (λ d. HasSeat u z s.number d x) durable (seat_has hosts u g.distinct g.reached n b h t s x found i place is)

    there : IsSeatPlace hosts z s.number
    there = seat_place hosts u g.distinct g.reached n b h t s found i

    answered : CommitsAt v x ⊎ Tells (Some (seat_of hosts z s.number kinds.Durable)) notices.Committed (posted_in g) → OwesCommitted hosts v after z s.number x
    answered (inl commits) = inr (inr commits)
    answered (inr tells) = inr (inl (seat_told hosts u v before after g z s.number kinds.Durable notices.Committed tt there tells))

    by_asked : (c : Comes hosts before x.node (IsNoticeFrom (targets.Participant x.id kinds.Durable) notices.Commit (seat_of hosts z s.number kinds.Durable)))
        → Comes hosts after x.node (IsNoticeFrom (targets.Participant x.id kinds.Durable) notices.Commit (seat_of hosts z s.number kinds.Durable)) ⊎ ((x.node ≡ g.number) × (g.event ≡ events.Arrived c.arrived))
        → OwesCommitted hosts v after z s.number x
    by_asked c (inl stays) = inl stays
    by_asked c (inr (here, came)) = answered (commit_arrives hosts u v before after g x z s.number c.arrived here came c.says seat)

    by_heard : (c : Comes hosts before n (IsNotice (seat_target_of z s.number kinds.Durable) notices.Committed))
        → Comes hosts after n (IsNotice (seat_target_of z s.number kinds.Durable) notices.Committed) ⊎ ((n ≡ g.number) × (g.event ≡ events.Arrived c.arrived)) → OwesCommitted hosts v after z s.number x
    by_heard c (inl stays) = inr (inl stays)
    by_heard c (inr (here, came)) =
        absurd (unanswered here (record {
          message = c.arrived;
          came = came;
          target = c.says.0 ∙ ap (λ d. targets.Coordinator t.id (record { number = s.number; kind = d })) (sym durable);
          says = c.says.1;
        }))

    by_owed : OwesCommitted hosts u before z s.number x → OwesCommitted hosts v after z s.number x
    by_owed (inl c) = by_asked c (or_arrives hosts u v before after g x.node _ c)
    by_owed (inr (inl c)) = by_heard c (or_arrives hosts u v before after g n _ c)
    by_owed (inr (inr commits)) = answered (committing_on hosts u v before after g x z s.number seat commits)

commits_here : (hosts : Hosts) (Asked : ℕ → Type 0) (u v : World) (before after : List Posted) → (g : Goes hosts u v before after) → CommitsAreOwed hosts Asked u before → (t : Transaction)
    (s : Enlistment) (x : Who) → Asked g.number → transaction_at (book_after g) t.id ≡ Some t → IsIn s t.seats → s.kind ≡ kinds.Durable → s.state ≡ states.Committing
    → IsPlace hosts x → s.participant ≡ participant_of hosts x s.kind → OwesCommitted hosts v after (record { node = g.number; id = t.id }) s.number x
commits_here hosts Asked u v before after g h t s x asked found i durable state place is = by_seat b.seats
  where
    b : StoodBefore hosts u v before after g t s
    b = stood hosts u v before after g t s found i

    held : Holds u g.number g.book
    held = holds_before hosts u v before after g

    by_asked : (p : Partner (IsOwed g.book.base g.event b.old (posted_in g)) b.old.seats s)
        → ((p.old.state ≡ states.Committing) × (ParticipantSaid notices.Committed g.event b.old p.old → ⊥)) ⊎ IsIn (seat_post g.book.base b.old.id p.old notices.Commit) (posted_in g)
        → OwesCommitted hosts v after (record { node = g.number; id = b.old.id }) p.old.number x
    by_asked p (inl (was, unanswered)) =
        let same : p.old.participant ≡ participant_of hosts x p.old.kind = subst (λ (a : Seating). a.participant ≡ participant_of hosts x a.kind) p.pair.0.0 is in
        let k : p.old.kind ≡ kinds.Durable = subst (λ (a : Seating). a.kind ≡ kinds.Durable) p.pair.0.0 durable in
        commit_on hosts u v before after g g.number g.book b.old p.old x held b.found p.among k place same (λ here. unanswered)
        (h.seats g.number g.book b.old p.old x asked held b.found p.among k was place same)
    by_asked p (inr sent) =
        let same : p.old.participant ≡ participant_of hosts x p.old.kind = subst (λ (a : Seating). a.participant ≡ participant_of hosts x a.kind) p.pair.0.0 is in
        let k : p.old.kind ≡ kinds.Durable = subst (λ (a : Seating). a.kind ≡ kinds.Durable) p.pair.0.0 durable in
        inl (subst (λ d. Comes hosts after x.node (IsNoticeFrom (targets.Participant x.id d) notices.Commit (seat_of hosts (record { node = g.number; id = b.old.id }) p.old.number d))) k
        (seat_asks hosts u v before after g b.old.id p.old x notices.Commit tt place same sent))

    by_seat : Partner (IsOwed g.book.base g.event b.old (posted_in g)) b.old.seats s ⊎ IsNew g.book.base b.old (posted_in g) s
        → OwesCommitted hosts v after (record { node = g.number; id = t.id }) s.number x
    by_seat (inl p) =
        subst (λ j. OwesCommitted hosts v after (record { node = g.number; id = j }) s.number x) (sym b.id_is)
        (subst (λ (a : Seating). OwesCommitted hosts v after (record { node = g.number; id = b.old.id }) a.number x) (sym p.pair.0.0) (by_asked p (p.pair.1.1 state)))
    by_seat (inr new) = absurd (new.1.0 state)

pub commits_kept : (hosts : Hosts) (Asked : ℕ → Type 0) (u v : World) (before after : List Posted) → (g : Goes hosts u v before after) → CommitsAreOwed hosts Asked u before → CommitsAreOwed hosts Asked v after
commits_kept hosts Asked u v before after g h = record {
  seats = λ n b t s x asked holds found i durable state place is. by_place n b t s x asked holds found i durable state place is (or_elsewhere n g.number);
}
  where
    by_place : (n : ℕ) (b : Book) (t : Transaction) (s : Enlistment) (x : Who) → Asked n → Holds v n b → transaction_at b t.id ≡ Some t → IsIn s t.seats → s.kind ≡ kinds.Durable
        → s.state ≡ states.Committing → IsPlace hosts x → s.participant ≡ participant_of hosts x s.kind → (n ≡ g.number) ⊎ (n ≡ g.number → ⊥)
        → OwesCommitted hosts v after (record { node = n; id = t.id }) s.number x
    by_place n b t s x asked holds found i durable state place is (inl here) =
        let same : b ≡ book_after g = same_book v g.number b (book_after g) (subst (λ m. Holds v m b) here holds) (holds_after hosts u v before after g) in
        subst (λ m. OwesCommitted hosts v after (record { node = m; id = t.id }) s.number x) (sym here)
        (commits_here hosts Asked u v before after g h t s x (subst Asked here asked) (subst (λ c. transaction_at c t.id ≡ Some t) same found) i durable state place is)
    by_place n b t s x asked holds found i durable state place is (inr other) =
        let held : Holds u n b = held_elsewhere hosts u v before after g n b other holds in
        commit_on hosts u v before after g n b t s x held found i durable place is (λ here. absurd (other here)) (h.seats n b t s x asked held found i durable state place is)
