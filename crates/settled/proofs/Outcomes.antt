-- An outcome that a durable participant waits for stays owed over each step.
use Rattle.std.specs.Prelude.{ℕ, List, [], ◌∷◌, Option, Some, None, true, false, is_none, ◌≡◌, ◌⊎◌, refl}
use Rattle.std.proofs.Common.{inl, inr, sym, subst, ap, ◌∙◌}
use Rattle.at_base.specs.Numbers.{Numbers}
use Rattle.at_base.specs.IdText.{IsId}
use Rattle.at_base.specs.declared.epr.Epr.{Epr}
use Rattle.at_base.specs.declared.notice.Kind.{Kind}
use Rattle.at_base.specs.declared.notice.Kind.TheVariants as kinds
use Rattle.at_base.specs.declared.notice.Notice.TheVariants as notices
use Rattle.at_base.specs.declared.message.Message.TheVariants as messages
use Rattle.at_base.specs.declared.event.Arrived.{Arrived}
use Rattle.at_base.specs.declared.event.Event.TheVariants as events
use Rattle.at_base.specs.declared.target.Seat.{Seat}
use Rattle.at_base.specs.declared.target.Target.TheVariants as targets
use Rattle.at_tables.specs.declared.cells.State.TheVariants as states
use Rattle.endpoints.specs.Addresses.{endpoint_of}
use Rattle.at_model.specs.Book.{Book, Enlistment, Leaf, Superior, Transaction, leaf_id, transaction_id}
use Rattle.at_model.specs.Leaves.{leaf_target}
use Rattle.at_model.specs.Posts.{notice_post}
use Rattle.at_model.specs.Step.{find_seat, leaf_at, step, transaction_at}
use Rattle.at_model.specs.World.{Posted, Who, World, Hosts, HaveOwnAddresses}
use Rattle.model_laws.specs.Agreement.{IsIn}
use Rattle.model_laws.specs.PhaseAnswers.{Accepted as Seating}
use Rattle.model_laws.specs.ReachedWorlds.{Reached}
use Rattle.model_laws.specs.Shapes.{IfFound}
use Rattle.model_laws.proofs.DecisionLaws.{found_id}
use Rattle.agreement.specs.Deeds.{SuperiorSaid, coordinator_at}
use Rattle.agreement.specs.LeafDeeds.{Notified}
use Rattle.agreement.proofs.SeatedEntries.{one_of}
use Rattle.enlistments.specs.Leads.{Enlists, LeadsTo}
use Rattle.enlistments.proofs.Searches.{found_seat}
use Rattle.owed.specs.Leaves.{KeepsLeafVote}
use Rattle.owed.specs.Seats.{AreOwed, IsNew, IsOwed, IsTold, PairsOrNew, SaysPrepared, Tells, TellsOutcome, posts_of}
use Rattle.owed.specs.Links.{KeepsVote, SaysVote, superior_left}
use Rattle.owed.proofs.SeatSteps.{steps_owe_seats}
use Rattle.owed.proofs.RegisterAnswers.{steps_owe_leaves}
use Rattle.owed.proofs.Strangers.{steps_owe_links}
use Rattle.votes.specs.NamedParticipants.{HasSeat}
use Rattle.paired.specs.Partners.{IsPlace, participant_of, seat_of}
use Rattle.paired.proofs.Homes.{node_range}
use Rattle.paired.proofs.Partners.{partners_are_paired}
use Rattle.enlistments.proofs.LastingLeads.{found_stands}
use Rattle.enlistments.proofs.Places.{TransactionPlaced, leaves_placed, transactions_placed}
use Rattle.settled.specs.CalmSteps.{Goes}
use Rattle.settled.specs.OwedMessages.{Comes, Holds, IsNotice, IsNoticeFrom, IsPreparedAt, IsSeatPlace, IsToldOnWay, OutcomesAreOwed, OwesOutcome, seat_target_of}
use Rattle.settled.proofs.CalmSteps.{base_is, book_after, comes_as, held_elsewhere, holds_after, holds_before, holds_elsewhere, leads_seat, new_comes, or_arrives, or_elsewhere, participant_told, posted_in, ready, same_book, shaped}
use Rattle.settled.proofs.Partners.{found_own, in_book, leaf_own, leaf_seat, link_seat}
use Rattle.settled.proofs.EarlierItems.{LeafStood, TransactionStood, leaf_stood, transaction_stood}

-- what becomes of a seat
record Becomes (R : Enlistment → Enlistment → Type 0) (s : Enlistment) (news : List Enlistment) : Type 0 where
  new : Enlistment
  among : IsIn new news
  pair : R s new

becomes : (R : Enlistment → Enlistment → Type 0) (N : Enlistment → Type 0) (olds news : List Enlistment) (s : Enlistment) → PairsOrNew R N olds news → IsIn s olds → Becomes R s news
becomes R N [] news s h i = absurd i
becomes R N (o ∷ os) [] s h i = absurd h
becomes R N (o ∷ os) (n ∷ ns) s (h, k) (inl e) = record { new = n; among = inl refl; pair = subst (λ q. R q n) (sym e) h }
becomes R N (o ∷ os) (n ∷ ns) s (h, k) (inr i) =
    let r : Becomes R s ns = becomes R N os ns s k i in
    record { new = r.new; among = inr r.among; pair = r.pair }

told_on_way : (hosts : Hosts) (u v : World) (before after : List Posted) → (g : Goes hosts u v before after) → (x : Who) (to : Epr) → IsPlace hosts x → to ≡ participant_of hosts x kinds.Durable
    → TellsOutcome (Some to) (posted_in g) → IsToldOnWay hosts after x
told_on_way hosts u v before after g x to place is (inl tells) = inl (participant_told hosts u v before after g x kinds.Durable notices.Commit to tt place is tells)
told_on_way hosts u v before after g x to place is (inr tells) = inr (participant_told hosts u v before after g x kinds.Durable notices.Rollback to tt place is tells)

-- a durable seat that is Prepared, or hears so, is Prepared, or tells the outcome
seat_keeps : (hosts : Hosts) (u v : World) (before after : List Posted) → (g : Goes hosts u v before after) → (x z : Who) (number : ℕ) (t : Transaction) (q : Enlistment) → z.node ≡ g.number
    → transaction_at g.book z.id ≡ Some t → IsIn q t.seats → q.number ≡ number → q.kind ≡ kinds.Durable → SaysPrepared g.event t q → IsPlace hosts x → q.participant ≡ participant_of hosts x kinds.Durable
    → IsPreparedAt v z number ⊎ IsToldOnWay hosts after x
seat_keeps hosts u v before after g x z number t q here found i numbered durable says place is =
    by_left (transaction_at (book_after g) z.id) refl
    (subst (λ o. AreOwed g.book.base g.event (posted_in g) o (transaction_at (book_after g) z.id)) found
    (steps_owe_seats.seats g.book g.event g.now (ready hosts u v before after g) (shaped hosts u v before after g) z.id))
  where
    told : IsTold (posted_in g) q → IsToldOnWay hosts after x
    told h = told_on_way hosts u v before after g x q.participant place is h

    by_kept : (new : Transaction) → transaction_at (book_after g) z.id ≡ Some new → (b : Becomes (IsOwed g.book.base g.event t (posted_in g)) q new.seats)
        → (b.new.state ≡ states.Prepared) ⊎ IsTold (posted_in g) q → IsPreparedAt v z number ⊎ IsToldOnWay hosts after x
    by_kept new e b (inl prepared) =
        inl (record {
          book = book_after g;
          holds = subst (λ m. Holds v m (book_after g)) (sym here) (holds_after hosts u v before after g);
          transaction = new;
          found = e;
          seat = b.new;
          among = b.among;
          number_is = ap (λ (a : Seating). a.number) b.pair.0.0 ∙ numbered;
          kind_is = ap (λ (a : Seating). a.kind) b.pair.0.0 ∙ durable;
          state_is = prepared;
        })
    by_kept new e b (inr tells) = inr (told tells)

    by_left : (o : Option Transaction) → transaction_at (book_after g) z.id ≡ o → AreOwed g.book.base g.event (posted_in g) (Some t) o → IsPreparedAt v z number ⊎ IsToldOnWay hosts after x
    by_left None e all = inr (told (one_of (λ (s : Enlistment). s.kind ≡ kinds.Durable → SaysPrepared g.event t s → IsTold (posted_in g) s) t.seats q all i durable says))
    by_left (Some new) e (same, pairs) =
        let b : Becomes (IsOwed g.book.base g.event t (posted_in g)) q new.seats = becomes (IsOwed g.book.base g.event t (posted_in g)) (IsNew g.book.base t (posted_in g)) t.seats new.seats q pairs i in
        by_kept new e b (b.pair.0.1 durable says)

-- the seat of a participant
pub enlists_has : (hosts : Hosts) (w : World) → HaveOwnAddresses hosts → (x z : Who) (number : ℕ) (kind : Kind) → IsSeatPlace hosts z number → Enlists hosts w (seat_of hosts z number kind) x kind → HasSeat w z number kind x
enlists_has hosts w distinct x z number kind place h =
    let (id, k, is, accepted) = h z.node (seat_target_of z number kind) (leads_seat hosts z number kind distinct place) in
    let (same, at) = same_numbers z.id id number k is in
    subst (λ i. HasSeat w (record { node = z.node; id = i }) number kind x) (sym same) (subst (λ m. HasSeat w (record { node = z.node; id = id }) m kind x) (sym at) accepted)
  where
    same_numbers : (i j : Numbers) (n m : ℕ) → targets.Coordinator i (record { number = n; kind = kind }) ≡ targets.Coordinator j (record { number = m; kind = kind }) → (i ≡ j) × (n ≡ m)
    same_numbers i j n m e =
        let seats : ◌≡◌ {A = Seat} (record { number = n; kind = kind }) (record { number = m; kind = kind }) = cc in
        (cc, ap (λ (s : Seat). s.number) seats)

seat_whose : (hosts : Hosts) (u v : World) (before after : List Posted) → (g : Goes hosts u v before after) → (x z : Who) (number : ℕ) (t : Transaction) (q : Enlistment) → z.node ≡ g.number
    → transaction_at g.book z.id ≡ Some t → IsIn q t.seats → q.number ≡ number → q.kind ≡ kinds.Durable → HasSeat u z number kinds.Durable x → q.participant ≡ participant_of hosts x kinds.Durable
seat_whose hosts u v before after g x z number t q here found i numbered durable seat =
    let held : Holds u g.number g.book = holds_before hosts u v before after g in
    let id_is : t.id ≡ z.id = found_id transaction_id z.id g.book.transactions t found in
    (partners_are_paired.paired hosts u g.distinct g.reached).seat_is g.number held.node g.book t q x held.found held.up (in_book g.book z.id t found) i
    (subst (λ k. HasSeat u (record { node = g.number; id = t.id }) q.number k x) (sym durable)
    (subst (λ k. HasSeat u (record { node = g.number; id = t.id }) k kinds.Durable x) (sym numbered)
    (subst (λ j. HasSeat u (record { node = g.number; id = j }) number kinds.Durable x) (sym id_is)
    (subst (λ m. HasSeat u (record { node = m; id = z.id }) number kinds.Durable x) here seat))))
    ∙ ap (participant_of hosts x) durable

-- a vote that arrives is counted, or answered with the outcome
vote_arrives : (hosts : Hosts) (u v : World) (before after : List Posted) → (g : Goes hosts u v before after) → (x z : Who) (number : ℕ) (a : Arrived) → z.node ≡ g.number → g.event ≡ events.Arrived a
    → IsNoticeFrom (seat_target_of z number kinds.Durable) notices.Prepared (participant_of hosts x kinds.Durable) a → IsPlace hosts x → HasSeat u z number kinds.Durable x
    → IsPreparedAt v z number ⊎ IsToldOnWay hosts after x
vote_arrives hosts u v before after g x z number a here came ((target, says), from) place seat = by_transaction (transaction_at g.book z.id) refl
  where
    s : Seat
    s = record { number = number; kind = kinds.Durable }

    stranger : IfFound (λ (t : Transaction). find_seat number kinds.Durable t.seats ≡ None) (transaction_at g.book z.id) → IsPreparedAt v z number ⊎ IsToldOnWay hosts after x
    stranger unknown =
        inr (inr (participant_told hosts u v before after g x kinds.Durable notices.Rollback (participant_of hosts x kinds.Durable) tt place refl
        (subst (λ d. Tells (Some (participant_of hosts x kinds.Durable)) notices.Rollback (posts_of (step g.book d g.now true).outs)) (sym came)
        (steps_owe_seats.unknown g.book a g.now z.id s target refl unknown says (participant_of hosts x kinds.Durable) from))))

    by_seat : (t : Transaction) → transaction_at g.book z.id ≡ Some t → (o : Option Enlistment) → find_seat number kinds.Durable t.seats ≡ o → IsPreparedAt v z number ⊎ IsToldOnWay hosts after x
    by_seat t found None none = stranger (subst (IfFound (λ (y : Transaction). find_seat number kinds.Durable y.seats ≡ None)) (sym found) none)
    by_seat t found (Some q) there =
        let (numbered, durable, i) = found_seat number kinds.Durable t.seats q there in
        let id_is : t.id ≡ z.id = found_id transaction_id z.id g.book.transactions t found in
        seat_keeps hosts u v before after g x z number t q here found i numbered durable
        (inr (record {
          message = a;
          came = came;
          target = target ∙ (λ r. targets.Coordinator (sym id_is r) (record { number = sym numbered r; kind = sym durable r }));
          says = says;
        })) place (seat_whose hosts u v before after g x z number t q here found i numbered durable seat)

    by_transaction : (o : Option Transaction) → transaction_at g.book z.id ≡ o → IsPreparedAt v z number ⊎ IsToldOnWay hosts after x
    by_transaction None e = stranger (subst (IfFound (λ (y : Transaction). find_seat number kinds.Durable y.seats ≡ None)) (sym e) tt)
    by_transaction (Some t) e = by_seat t e (find_seat number kinds.Durable t.seats) refl

-- a seat that is Prepared
prepared_on : (hosts : Hosts) (u v : World) (before after : List Posted) → (g : Goes hosts u v before after) → (x z : Who) (number : ℕ) → IsPlace hosts x → HasSeat u z number kinds.Durable x
    → IsPreparedAt u z number → IsPreparedAt v z number ⊎ IsToldOnWay hosts after x
prepared_on hosts u v before after g x z number place seat k = by_place (or_elsewhere z.node g.number)
  where
    by_place : (z.node ≡ g.number) ⊎ (z.node ≡ g.number → ⊥) → IsPreparedAt v z number ⊎ IsToldOnWay hosts after x
    by_place (inl here) =
        let same : k.book ≡ g.book = same_book u z.node k.book g.book k.holds (subst (λ m. Holds u m g.book) (sym here) (holds_before hosts u v before after g)) in
        let found : transaction_at g.book z.id ≡ Some k.transaction = subst (λ c. transaction_at c z.id ≡ Some k.transaction) same k.found in
        seat_keeps hosts u v before after g x z number k.transaction k.seat here found k.among k.number_is k.kind_is (inl k.state_is) place
        (seat_whose hosts u v before after g x z number k.transaction k.seat here found k.among k.number_is k.kind_is seat)
    by_place (inr other) =
        inl (record {
          book = k.book;
          holds = holds_elsewhere hosts u v before after g z.node k.book other k.holds;
          transaction = k.transaction;
          found = k.found;
          seat = k.seat;
          among = k.among;
          number_is = k.number_is;
          kind_is = k.kind_is;
          state_is = k.state_is;
        })

-- so the outcome stays owed, where none came
abbrev IsUntold : (hosts : Hosts) (u v : World) (before after : List Posted) → Goes hosts u v before after → Who → Type 0
IsUntold hosts u v before after g x =
    x.node ≡ g.number → (a : Arrived) → g.event ≡ events.Arrived a → a.target ≡ targets.Participant x.id kinds.Durable
    → (a.message ≡ messages.Notice notices.Commit) ⊎ (a.message ≡ messages.Notice notices.Rollback) → ⊥

outcome_on : (hosts : Hosts) (u v : World) (before after : List Posted) → (g : Goes hosts u v before after) → (x z : Who) (number : ℕ) → IsPlace hosts x → HasSeat u z number kinds.Durable x
    → IsUntold hosts u v before after g x → OwesOutcome hosts u before x z number → OwesOutcome hosts v after x z number
outcome_on hosts u v before after g x z number place seat untold owed = by_owed owed
  where
    counted : IsPreparedAt v z number ⊎ IsToldOnWay hosts after x → OwesOutcome hosts v after x z number
    counted (inl prepared) = inr (inr prepared)
    counted (inr told) = inr (inl told)

    by_vote : (c : Comes hosts before z.node (IsNoticeFrom (seat_target_of z number kinds.Durable) notices.Prepared (participant_of hosts x kinds.Durable)))
        → Comes hosts after z.node (IsNoticeFrom (seat_target_of z number kinds.Durable) notices.Prepared (participant_of hosts x kinds.Durable)) ⊎ ((z.node ≡ g.number) × (g.event ≡ events.Arrived c.arrived))
        → OwesOutcome hosts v after x z number
    by_vote c (inl stays) = inl stays
    by_vote c (inr (here, came)) = counted (vote_arrives hosts u v before after g x z number c.arrived here came c.says place seat)

    by_commit : (c : Comes hosts before x.node (IsNotice (targets.Participant x.id kinds.Durable) notices.Commit))
        → Comes hosts after x.node (IsNotice (targets.Participant x.id kinds.Durable) notices.Commit) ⊎ ((x.node ≡ g.number) × (g.event ≡ events.Arrived c.arrived)) → OwesOutcome hosts v after x z number
    by_commit c (inl stays) = inr (inl (inl stays))
    by_commit c (inr (here, came)) = absurd (untold here c.arrived came c.says.0 (inl c.says.1))

    by_rollback : (c : Comes hosts before x.node (IsNotice (targets.Participant x.id kinds.Durable) notices.Rollback))
        → Comes hosts after x.node (IsNotice (targets.Participant x.id kinds.Durable) notices.Rollback) ⊎ ((x.node ≡ g.number) × (g.event ≡ events.Arrived c.arrived)) → OwesOutcome hosts v after x z number
    by_rollback c (inl stays) = inr (inl (inr stays))
    by_rollback c (inr (here, came)) = absurd (untold here c.arrived came c.says.0 (inr c.says.1))

    by_owed : OwesOutcome hosts u before x z number → OwesOutcome hosts v after x z number
    by_owed (inl c) = by_vote c (or_arrives hosts u v before after g z.node _ c)
    by_owed (inr (inl (inl c))) = by_commit c (or_arrives hosts u v before after g x.node _ c)
    by_owed (inr (inl (inr c))) = by_rollback c (or_arrives hosts u v before after g x.node _ c)
    by_owed (inr (inr prepared)) = counted (prepared_on hosts u v before after g x z number place seat prepared)

-- a vote that is posted now
vote_posted : (hosts : Hosts) (u v : World) (before after : List Posted) → (g : Goes hosts u v before after) → (id : Numbers) (z : Who) (number : ℕ) (to : Epr) → IsSeatPlace hosts z number
    → to ≡ seat_of hosts z number kinds.Durable → IsIn (notice_post g.book.base (targets.Participant id kinds.Durable) to notices.Prepared) (posted_in g)
    → OwesOutcome hosts v after (record { node = g.number; id = id }) z number
vote_posted hosts u v before after g id z number to place is i =
    inl (comes_as hosts after z.node
    (λ a e. (
      (ap (λ (y : Arrived). y.target) e, ap (λ (y : Arrived). y.message) e),
      ap (λ (y : Arrived). y.from) e ∙ ap (λ base. Some (endpoint_of base (targets.Participant id kinds.Durable))) (base_is hosts u v before after g),
    ))
    (new_comes hosts u v before after g z.node (notice_post g.book.base (targets.Participant id kinds.Durable) to notices.Prepared) to (seat_target_of z number kinds.Durable) i refl
    (subst (λ y. LeadsTo hosts y z.node (seat_target_of z number kinds.Durable)) (sym is) (leads_seat hosts z number kinds.Durable g.distinct place)) refl))

same_endpoint : (o : Option Epr) (c d : Epr) → o ≡ Some c → o ≡ Some d → c ≡ d
same_endpoint o c d e f = cc

-- who waits stood before
pub transaction_placed : (hosts : Hosts) (w : World) → HaveOwnAddresses hosts → Reached hosts w → (n : ℕ) (b : Book) → Holds w n b → (id : Numbers) (t : Transaction) → transaction_at b id ≡ Some t
    → IsPlace hosts (record { node = n; id = t.id })
transaction_placed hosts w distinct reached n b h id t found =
    let (least, most) = node_range hosts w distinct reached n h.node h.found in
    record { least = least; most = most; id = (one_of (TransactionPlaced hosts) b.transactions t (transactions_placed hosts w distinct reached n h.node b h.found h.up) (in_book b id t found)).0 }

pub leaf_placed : (hosts : Hosts) (w : World) → HaveOwnAddresses hosts → Reached hosts w → (n : ℕ) (b : Book) → Holds w n b → (id : Numbers) (l : Leaf) → leaf_at b id ≡ Some l
    → IsPlace hosts (record { node = n; id = l.id })
leaf_placed hosts w distinct reached n b h id l found =
    let (least, most) = node_range hosts w distinct reached n h.node h.found in
    record { least = least; most = most; id = one_of (λ (y : Leaf). IsId y.id) b.leaves l (leaves_placed hosts w distinct reached n h.node b h.found h.up) (found_stands leaf_id id l b.leaves found) }

-- links
links_here : (hosts : Hosts) (Asked : ℕ → Type 0) (u v : World) (before after : List Posted) → (g : Goes hosts u v before after) → OutcomesAreOwed hosts Asked u before → (t : Transaction) (s : Superior)
    (z : Who) (number : ℕ) → Asked g.number → transaction_at (book_after g) t.id ≡ Some t → t.superior ≡ Some s → s.durable.state ≡ states.PreparedSuccess → IsSeatPlace hosts z number
    → s.durable.coordinator ≡ Some (seat_of hosts z number kinds.Durable) → OwesOutcome hosts v after (record { node = g.number; id = t.id }) z number
links_here hosts Asked u v before after g h t s z number asked found under state place knows = by_superior o.old.superior refl
  where
    o : TransactionStood g.book t
    o = transaction_stood hosts u v before after g t found

    held : Holds u g.number g.book
    held = holds_before hosts u v before after g

    id_is : o.old.id ≡ t.id
    id_is = found_id transaction_id t.id g.book.transactions o.old o.found

    own : transaction_at g.book o.old.id ≡ Some o.old
    own = found_own g.book t.id o.old o.found

    never : (y : Option Superior) → t.superior ≡ Some s → o.old.superior ≡ None → ⊥
    never y e f = let k : false ≡ true = sym (ap is_none e) ∙ o.root ∙ ap is_none f in cc

    by_kept : (y : Superior) → o.old.superior ≡ Some y
        → (((y.durable.state ≡ states.PreparedSuccess) × (s.durable.coordinator ≡ y.durable.coordinator))
        × ((SuperiorSaid kinds.Durable notices.Commit g.event o.old → ⊥) × (SuperiorSaid kinds.Durable notices.Rollback g.event o.old → ⊥)))
        ⊎ SaysVote g.book.base o.old.id s.durable.coordinator (posted_in g) → OwesOutcome hosts v after (record { node = g.number; id = o.old.id }) z number
    by_kept y was (inl ((prepared, same), (uncommitted, unrolled))) =
        let known : y.durable.coordinator ≡ Some (seat_of hosts z number kinds.Durable) = sym same ∙ knows in
        let (seat, enlists) = link_seat hosts u g.distinct g.reached g.number g.book held o.old.id o.old kinds.Durable (seat_of hosts z number kinds.Durable) own (ap (coordinator_at kinds.Durable) was ∙ known) in
        outcome_on hosts u v before after g (record { node = g.number; id = o.old.id }) z number (transaction_placed hosts u g.distinct g.reached g.number g.book held o.old.id o.old own)
        (enlists_has hosts u g.distinct (record { node = g.number; id = o.old.id }) z number kinds.Durable place enlists) untold
        (h.links g.number g.book o.old y z number asked held own was prepared place known)
      where
        untold : IsUntold hosts u v before after g (record { node = g.number; id = o.old.id })
        untold here a came target (inl says) = uncommitted (record { message = a; came = came; target = target; says = says })
        untold here a came target (inr says) = unrolled (record { message = a; came = came; target = target; says = says })
    by_kept y was (inr (to, is, sent)) =
        vote_posted hosts u v before after g o.old.id z number to place (same_endpoint s.durable.coordinator to (seat_of hosts z number kinds.Durable) is knows) sent

    by_superior : (y : Option Superior) → o.old.superior ≡ y → OwesOutcome hosts v after (record { node = g.number; id = t.id }) z number
    by_superior None root = absurd (never None under root)
    by_superior (Some y) was =
        subst (λ i. OwesOutcome hosts v after (record { node = g.number; id = i }) z number) id_is
        (by_kept y was
        (subst (λ q. KeepsVote g.book.base g.event o.old y (posted_in g) q) (ap superior_left (ap (transaction_at (book_after g)) id_is ∙ found) ∙ under)
        (steps_owe_links.links g.book g.event g.now (ready hosts u v before after g) (shaped hosts u v before after g) o.old y own was).1.1.1.1 state))

-- leaves
leaves_here : (hosts : Hosts) (Asked : ℕ → Type 0) (u v : World) (before after : List Posted) → (g : Goes hosts u v before after) → OutcomesAreOwed hosts Asked u before → (l : Leaf) (z : Who)
    (number : ℕ) → Asked g.number → leaf_at (book_after g) l.id ≡ Some l → l.kind ≡ kinds.Durable → l.state ≡ states.PreparedSuccess → IsSeatPlace hosts z number
    → l.coordinator ≡ Some (seat_of hosts z number kinds.Durable) → OwesOutcome hosts v after (record { node = g.number; id = l.id }) z number
leaves_here hosts Asked u v before after g h l z number asked found durable state place knows =
    subst (λ i. OwesOutcome hosts v after (record { node = g.number; id = i }) z number) id_is
    (by_kept
    (subst (λ q. KeepsLeafVote g.book.base g.event o.old (posted_in g) q) (ap (leaf_at (book_after g)) id_is ∙ found)
    (steps_owe_leaves.leaves g.book g.event g.now (ready hosts u v before after g) o.old own
    ((partners_are_paired.votes hosts u g.distinct g.reached g.number held.node g.book held.found held.up).alone o.old own)).1.1.0 state))
  where
    o : LeafStood g.book l
    o = leaf_stood hosts u v before after g l found

    held : Holds u g.number g.book
    held = holds_before hosts u v before after g

    id_is : o.old.id ≡ l.id
    id_is = found_id leaf_id l.id g.book.leaves o.old o.found

    own : leaf_at g.book o.old.id ≡ Some o.old
    own = leaf_own g.book l.id o.old o.found

    was_durable : o.old.kind ≡ kinds.Durable
    was_durable = sym o.kind ∙ durable

    by_kept : (((o.old.state ≡ states.PreparedSuccess) × (l.coordinator ≡ o.old.coordinator)) × ((Notified g.event o.old notices.Commit → ⊥) × (Notified g.event o.old notices.Rollback → ⊥)))
        ⊎ ((to : Epr) × (l.coordinator ≡ Some to) × IsIn (notice_post g.book.base (leaf_target o.old) to notices.Prepared) (posted_in g))
        → OwesOutcome hosts v after (record { node = g.number; id = o.old.id }) z number
    by_kept (inl ((prepared, same), (uncommitted, unrolled))) =
        let known : o.old.coordinator ≡ Some (seat_of hosts z number kinds.Durable) = sym same ∙ knows in
        let (seat, enlists) = leaf_seat hosts u g.distinct g.reached g.number g.book held o.old.id o.old (seat_of hosts z number kinds.Durable) own known in
        outcome_on hosts u v before after g (record { node = g.number; id = o.old.id }) z number (leaf_placed hosts u g.distinct g.reached g.number g.book held o.old.id o.old own)
        (enlists_has hosts u g.distinct (record { node = g.number; id = o.old.id }) z number kinds.Durable place
        (subst (λ k. Enlists hosts u (seat_of hosts z number kinds.Durable) (record { node = g.number; id = o.old.id }) k) was_durable enlists)) untold
        (h.leaves g.number g.book o.old z number asked held own was_durable prepared place known)
      where
        untold : IsUntold hosts u v before after g (record { node = g.number; id = o.old.id })
        untold here a came target (inl says) =
            uncommitted (record { arrived = a; event = came; target = target ∙ ap (targets.Participant o.old.id) (sym was_durable); message = says })
        untold here a came target (inr says) =
            unrolled (record { arrived = a; event = came; target = target ∙ ap (targets.Participant o.old.id) (sym was_durable); message = says })
    by_kept (inr (to, is, sent)) =
        vote_posted hosts u v before after g o.old.id z number to place (same_endpoint l.coordinator to (seat_of hosts z number kinds.Durable) is knows)
        (subst (λ k. IsIn (notice_post g.book.base (targets.Participant o.old.id k) to notices.Prepared) (posted_in g)) was_durable sent)

-- elsewhere nothing comes
not_here : (hosts : Hosts) (u v : World) (before after : List Posted) → (g : Goes hosts u v before after) → (x : Who) → (x.node ≡ g.number → ⊥) → IsUntold hosts u v before after g x
not_here hosts u v before after g x other here a came target says = other here

pub outcomes_kept : (hosts : Hosts) (Asked : ℕ → Type 0) (u v : World) (before after : List Posted) → (g : Goes hosts u v before after) → OutcomesAreOwed hosts Asked u before
    → OutcomesAreOwed hosts Asked v after
outcomes_kept hosts Asked u v before after g h = record {
  links = λ n b t s z number asked holds found under state place knows. links_at n b t s z number asked holds found under state place knows (or_elsewhere n g.number);
  leaves = λ n b l z number asked holds found durable state place knows. leaves_at n b l z number asked holds found durable state place knows (or_elsewhere n g.number);
}
  where
    links_at : (n : ℕ) (b : Book) (t : Transaction) (s : Superior) (z : Who) (number : ℕ) → Asked n → Holds v n b → transaction_at b t.id ≡ Some t → t.superior ≡ Some s
        → s.durable.state ≡ states.PreparedSuccess → IsSeatPlace hosts z number → s.durable.coordinator ≡ Some (seat_of hosts z number kinds.Durable) → (n ≡ g.number) ⊎ (n ≡ g.number → ⊥)
        → OwesOutcome hosts v after (record { node = n; id = t.id }) z number
    links_at n b t s z number asked holds found under state place knows (inl here) =
        let same : b ≡ book_after g = same_book v g.number b (book_after g) (subst (λ m. Holds v m b) here holds) (holds_after hosts u v before after g) in
        subst (λ m. OwesOutcome hosts v after (record { node = m; id = t.id }) z number) (sym here)
        (links_here hosts Asked u v before after g h t s z number (subst Asked here asked) (subst (λ c. transaction_at c t.id ≡ Some t) same found) under state place knows)
    links_at n b t s z number asked holds found under state place knows (inr other) =
        let held : Holds u n b = held_elsewhere hosts u v before after g n b other holds in
        let (seat, enlists) = link_seat hosts u g.distinct g.reached n b held t.id t kinds.Durable (seat_of hosts z number kinds.Durable) found (ap (coordinator_at kinds.Durable) under ∙ knows) in
        outcome_on hosts u v before after g (record { node = n; id = t.id }) z number (transaction_placed hosts u g.distinct g.reached n b held t.id t found)
        (enlists_has hosts u g.distinct (record { node = n; id = t.id }) z number kinds.Durable place enlists) (not_here hosts u v before after g (record { node = n; id = t.id }) other)
        (h.links n b t s z number asked held found under state place knows)

    leaves_at : (n : ℕ) (b : Book) (l : Leaf) (z : Who) (number : ℕ) → Asked n → Holds v n b → leaf_at b l.id ≡ Some l → l.kind ≡ kinds.Durable → l.state ≡ states.PreparedSuccess
        → IsSeatPlace hosts z number → l.coordinator ≡ Some (seat_of hosts z number kinds.Durable) → (n ≡ g.number) ⊎ (n ≡ g.number → ⊥) → OwesOutcome hosts v after (record { node = n; id = l.id }) z number
    leaves_at n b l z number asked holds found durable state place knows (inl here) =
        let same : b ≡ book_after g = same_book v g.number b (book_after g) (subst (λ m. Holds v m b) here holds) (holds_after hosts u v before after g) in
        subst (λ m. OwesOutcome hosts v after (record { node = m; id = l.id }) z number) (sym here)
        (leaves_here hosts Asked u v before after g h l z number (subst Asked here asked) (subst (λ c. leaf_at c l.id ≡ Some l) same found) durable state place knows)
    leaves_at n b l z number asked holds found durable state place knows (inr other) =
        let held : Holds u n b = held_elsewhere hosts u v before after g n b other holds in
        let (seat, enlists) = leaf_seat hosts u g.distinct g.reached n b held l.id l (seat_of hosts z number kinds.Durable) found knows in
        outcome_on hosts u v before after g (record { node = n; id = l.id }) z number (leaf_placed hosts u g.distinct g.reached n b held l.id l found)
        (enlists_has hosts u g.distinct (record { node = n; id = l.id }) z number kinds.Durable place
        (subst (λ k. Enlists hosts u (seat_of hosts z number kinds.Durable) (record { node = n; id = l.id }) k) durable enlists))
        (not_here hosts u v before after g (record { node = n; id = l.id }) other) (h.leaves n b l z number asked held found durable state place knows)
