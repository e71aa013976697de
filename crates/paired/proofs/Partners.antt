-- Seats and participants know one another, in every world that is reached.
use Rattle.std.specs.Prelude.{ℕ, Some, true, ◌≡◌, refl}
use Rattle.std.proofs.Common.{sym, subst, ap, ◌∙◌}
use Rattle.at_base.specs.Numbers.{Numbers}
use Rattle.at_base.specs.declared.epr.Epr.{Epr}
use Rattle.at_base.specs.declared.notice.Kind.{Kind}
use Rattle.at_base.specs.declared.target.Seat.{Seat}
use Rattle.at_base.specs.declared.target.Target.TheVariants as targets
use Rattle.at_base.specs.declared.outs.Ending.TheVariants as endings
use Rattle.at_tables.specs.declared.cells.State.TheVariants as states
use Rattle.at_model.specs.Book.{Book, Enlistment, Leaf, Transaction}
use Rattle.at_model.specs.Due.{may_expire}
use Rattle.at_model.specs.Step.{leaf_at, transaction_at}
use Rattle.at_model.specs.World.{Accepted, Node, Who, World, accepted_seat, new_nodes, nth, who_at, who_of, Hosts, HaveOwnAddresses}
use Rattle.model_laws.specs.Agreement.{IsIn}
use Rattle.model_laws.specs.Registrations.{IsEnlisted}
use Rattle.model_laws.specs.ReachedWorlds.{Reached}
use Rattle.model_laws.proofs.Addresses.{leads_home}
use Rattle.model_laws.proofs.Nodes.{who_same}
use Rattle.agreement.specs.Lives.{Life, PromisesNothing, happened_on, standing}
use Rattle.agreement.proofs.LeafLives.{LeafAlone, LeafLife, leaf_alone, prepared, unrecorded}
use Rattle.agreement.proofs.SeatedEntries.{one_of}
use Rattle.enlistments.specs.Leads.{Enlists, LeadsTo}
use Rattle.enlistments.proofs.Arrivals.{world_bases}
use Rattle.votes.specs.NamedParticipants.{HasSeat, registration}
use Rattle.votes.specs.SeatStates.{who_named}
use Rattle.votes.specs.DurableVotes.{HasVoted}
use Rattle.votes.proofs.ItemEnds.{IsOpen, is_open, life_of, not_ended}
use Rattle.votes.proofs.SingleVotes.{is_promised, same_node}
use Rattle.votes.proofs.Lives.{world_laws}
use Rattle.paired.specs.Partners.{HaveVotes, IsPaired, IsParticipant, IsPlace, IsSeat, PartnersArePaired, participant_of, seat_of}
use Rattle.paired.proofs.Homes.{LeafHome, TransactionHome, leaves_home, transactions_home}
use Rattle.paired.proofs.OneSeat.{home_is, one_seat}

-- what is accepted at a seat
seat_accepted : (hosts : Hosts) (w : World) → HaveOwnAddresses hosts → Reached hosts w → (n : ℕ) (x : Node) (b : Book) (t : Transaction) (s : Enlistment) → nth n w.nodes ≡ Some x → x.book ≡ Some b
    → IsIn t b.transactions → IsIn s t.seats → IsIn (accepted_seat n w.nodes t.id s) w.accepted
seat_accepted hosts w distinct reached n x b t s found up i j =
    one_of (λ (q : Enlistment). IsIn (accepted_seat n w.nodes t.id q) w.accepted) t.seats s
    (one_of (IsEnlisted w n) b.transactions t ((world_laws hosts w distinct reached).seated.enlisted n x b found up) i).0 j

seat_home : (hosts : Hosts) (w : World) → HaveOwnAddresses hosts → Reached hosts w → (n : ℕ) (x : Node) (b : Book) (t : Transaction) (s : Enlistment) → nth n w.nodes ≡ Some x → x.book ≡ Some b
    → IsIn t b.transactions → IsIn s t.seats → IsParticipant hosts s.kind s.participant
seat_home hosts w distinct reached n x b t s found up i j =
    one_of (λ (q : Enlistment). IsParticipant hosts q.kind q.participant) t.seats s (one_of (TransactionHome hosts) b.transactions t (transactions_home hosts w distinct reached n x b found up) i).0 j

seat_is : (hosts : Hosts) (w : World) → HaveOwnAddresses hosts → Reached hosts w → (n : ℕ) (x : Node) (b : Book) (t : Transaction) (s : Enlistment) (y : Who) → nth n w.nodes ≡ Some x → x.book ≡ Some b
    → IsIn t b.transactions → IsIn s t.seats → HasSeat w (record { node = n; id = t.id }) s.number s.kind y → s.participant ≡ participant_of hosts y s.kind
seat_is hosts w distinct reached n x b t s y found up i j h =
    let same : accepted_seat n w.nodes t.id s ≡ registration (record { node = n; id = t.id }) s.number s.kind y =
    (world_laws hosts w distinct reached).seated.one_each (accepted_seat n w.nodes t.id s) (registration (record { node = n; id = t.id }) s.number s.kind y) (record { number = s.number; kind = s.kind })
    (record { number = s.number; kind = s.kind }) (seat_accepted hosts w distinct reached n x b t s found up i j) h refl refl refl refl in
    home_is hosts s.kind s.participant y distinct (seat_home hosts w distinct reached n x b t s found up i j)
    (sym (who_same w.nodes (new_nodes hosts.base_of hosts.count 1) s.participant (world_bases hosts w distinct reached)) ∙ ap (λ (a : Accepted). a.participant) same)

seat_has : (hosts : Hosts) (w : World) → HaveOwnAddresses hosts → Reached hosts w → (n : ℕ) (x : Node) (b : Book) (t : Transaction) (s : Enlistment) (y : Who) → nth n w.nodes ≡ Some x → x.book ≡ Some b
    → IsIn t b.transactions → IsIn s t.seats → IsPlace hosts y → s.participant ≡ participant_of hosts y s.kind → HasSeat w (record { node = n; id = t.id }) s.number s.kind y
seat_has hosts w distinct reached n x b t s y found up i j place is =
    let named : who_of w.nodes s.participant ≡ Some y =
    who_same w.nodes (new_nodes hosts.base_of hosts.count 1) s.participant (world_bases hosts w distinct reached) ∙ ap (who_named hosts) is
    ∙ (λ r. who_at (leads_home hosts y.node (targets.Participant y.id s.kind) distinct place.least place.most place.id r)) in
    subst (λ o. IsIn (record { transaction = record { node = n; id = t.id }; seat = Some (record { number = s.number; kind = s.kind }); participant = o }) w.accepted) named
    (seat_accepted hosts w distinct reached n x b t s found up i j)

-- a coordinator that is known
same_numbers : (id j : Numbers) (number k : ℕ) (kind : Kind)
    → targets.Coordinator id (record { number = number; kind = kind }) ≡ targets.Coordinator j (record { number = k; kind = kind }) → (id ≡ j) × (number ≡ k)
same_numbers id j number k kind e =
    let seats : ◌≡◌ {A = Seat} (record { number = number; kind = kind }) (record { number = k; kind = kind }) = cc in
    (cc, ap (λ (s : Seat). s.number) seats)

known_has : (hosts : Hosts) (w : World) → HaveOwnAddresses hosts → (c : Epr) (x : Who) (kind : Kind) (h : IsSeat hosts kind c) → Enlists hosts w c x kind → HasSeat w h.transaction h.number kind x
known_has hosts w distinct c x kind h k =
    let T = targets.Coordinator h.transaction.id (record { number = h.number; kind = kind }) in
    let leads : LeadsTo hosts c h.transaction.node T =
    subst (λ y. LeadsTo hosts y h.transaction.node T) (sym h.is) (leads_home hosts h.transaction.node T distinct h.place.least h.place.most (h.place.id, h.least, h.most)) in
    let (id, number, is, accepted) = k h.transaction.node T leads in
    let (same, at) = same_numbers h.transaction.id id h.number number kind is in
    subst (λ i. HasSeat w (record { node = h.transaction.node; id = i }) h.number kind x) (sym same)
    (subst (λ m. HasSeat w (record { node = h.transaction.node; id = id }) m kind x) (sym at) accepted)

known_is : (hosts : Hosts) (w : World) → HaveOwnAddresses hosts → Reached hosts w → (c : Epr) (t x : Who) (number : ℕ) (kind : Kind) → IsSeat hosts kind c → Enlists hosts w c x kind → HasSeat w t number kind x
    → c ≡ seat_of hosts t number kind
known_is hosts w distinct reached c t x number kind h k i =
    let j : HasSeat w h.transaction h.number kind x = known_has hosts w distinct c x kind h k in
    let who : h.transaction ≡ t = (world_laws hosts w distinct reached).one x h.transaction t _ _ j i in
    h.is
    ∙ (λ r. seat_of hosts (who r) h.number kind)
    ∙ ap (λ m. seat_of hosts t m kind) (one_seat hosts w distinct reached t x kind h.number number (subst (λ y. HasSeat w y h.number kind x) who j) i)

pub paired : (hosts : Hosts) (w : World) → HaveOwnAddresses hosts → Reached hosts w → IsPaired hosts w
paired hosts w distinct reached = record {
  one_seat = one_seat hosts w distinct reached;
  seats = λ n x b t found up i. (one_of (TransactionHome hosts) b.transactions t (transactions_home hosts w distinct reached n x b found up) i).0;
  links = λ n x b t kind found up i. (one_of (TransactionHome hosts) b.transactions t (transactions_home hosts w distinct reached n x b found up) i).1 kind;
  leaves = λ n x b l found up i. one_of (LeafHome hosts) b.leaves l (leaves_home hosts w distinct reached n x b found up) i;
  seat_is = seat_is hosts w distinct reached;
  seat_has = seat_has hosts w distinct reached;
  known_has = known_has hosts w distinct;
  known_is = known_is hosts w distinct reached;
}

-- votes and outcomes
life_at : (hosts : Hosts) (w : World) → HaveOwnAddresses hosts → Reached hosts w → (n : ℕ) (x : Node) (b : Book) → nth n w.nodes ≡ Some x → x.book ≡ Some b → (id : Numbers)
    → Life x.journal (happened_on n w.happened) id (transaction_at b id) (leaf_at b id)
life_at hosts w distinct reached n x b found up id =
    subst (λ c. Life x.journal (happened_on n w.happened) id (transaction_at c id) (leaf_at c id)) (ap (standing x.base x.journal) up) ((world_laws hosts w distinct reached).lives n x found id)

open_at : (hosts : Hosts) (w : World) → HaveOwnAddresses hosts → Reached hosts w → (n : ℕ) (x : Node) (b : Book) → nth n w.nodes ≡ Some x → x.book ≡ Some b → (t : Transaction) → transaction_at b t.id ≡ Some t
    → may_expire t.phase ≡ true → IsOpen x.journal (happened_on n w.happened) t.id
open_at hosts w distinct reached n x b found up t here undecided =
    is_open x.journal (happened_on n w.happened) t.id t
    (life_of x.journal (happened_on n w.happened) t.id (transaction_at b t.id) (leaf_at b t.id) t (life_at hosts w distinct reached n x b found up t.id) here) undecided

promised : (w : World) (n : ℕ) (x : Node) (id : Numbers) → nth n w.nodes ≡ Some x → PromisesNothing id x.journal → HasVoted w (record { node = n; id = id }) → ⊥
promised w n x id found nothing (r, (y, there, i), vote) =
    nothing r (subst (λ (z : Node). IsIn r z.journal) (same_node y x (nth n w.nodes) there found) i) (is_promised id r vote)

leaf_stands : (hosts : Hosts) (w : World) → HaveOwnAddresses hosts → Reached hosts w → (n : ℕ) (x : Node) (b : Book) → nth n w.nodes ≡ Some x → x.book ≡ Some b → (l : Leaf) → leaf_at b l.id ≡ Some l
    → LeafAlone x.journal (happened_on n w.happened) l.id (transaction_at b l.id) l
leaf_stands hosts w distinct reached n x b found up l here =
    leaf_alone x.journal (happened_on n w.happened) l.id (transaction_at b l.id) l
    (subst (λ o. Life x.journal (happened_on n w.happened) l.id (transaction_at b l.id) o) here (life_at hosts w distinct reached n x b found up l.id))

pub have_votes : (hosts : Hosts) (w : World) → HaveOwnAddresses hosts → Reached hosts w → (n : ℕ) (x : Node) (b : Book) → nth n w.nodes ≡ Some x → x.book ≡ Some b → HaveVotes w n b
have_votes hosts w distinct reached n x b found up = record {
  alone = λ l here. (leaf_stands hosts w distinct reached n x b found up l here).transaction;
  undecided = λ t here u. not_ended w n t.id (open_at hosts w distinct reached n x b found up t here u).unended endings.Committed;
  unvoted = λ t here u. promised w n x t.id found (open_at hosts w distinct reached n x b found up t here u).nothing;
  prepared = λ l here v. by_life l v (leaf_stands hosts w distinct reached n x b found up l here).life;
}
  where
    by_life : (l : Leaf) → HasVoted w (record { node = n; id = l.id }) → LeafLife x.journal (happened_on n w.happened) l.id l → l.state ≡ states.PreparedSuccess
    by_life l v (unrecorded how nothing k) = absurd (promised w n x l.id found nothing v)
    by_life l v (prepared coordinator key value kind state i k) = state

pub partners_are_paired : PartnersArePaired
partners_are_paired = record { paired = paired; votes = have_votes }
