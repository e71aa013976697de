-- Who meets whom at a step: coordinators that are known are the seats that ask.
use Rattle.std.specs.Prelude.{ℕ, List, Option, Some, None, false, is_none, ◌≡◌, ◌⊎◌, refl}
use Rattle.std.proofs.Common.{inl, inr, sym, subst, ap, ◌∙◌}
use Rattle.at_base.specs.Numbers.{Numbers}
use Rattle.at_base.specs.declared.epr.Epr.{Epr}
use Rattle.at_base.specs.declared.notice.Kind.{Kind}
use Rattle.at_base.specs.declared.notice.Notice.TheVariants as notices
use Rattle.at_base.specs.declared.outs.Post.{Post}
use Rattle.at_model.specs.Book.{Book, Enlistment, Leaf, Superior, Transaction, leaf_id, transaction_id}
use Rattle.at_model.specs.Posts.{stored_or}
use Rattle.at_model.specs.Step.{leaf_at, transaction_at}
use Rattle.at_model.specs.World.{Posted, Who, World, Hosts, HaveOwnAddresses}
use Rattle.model_laws.specs.Agreement.{IsIn}
use Rattle.model_laws.specs.PhaseAnswers.{accepted_as}
use Rattle.model_laws.specs.ReachedWorlds.{Reached}
use Rattle.model_laws.proofs.DecisionLaws.{all_find, found_id}
use Rattle.agreement.specs.Deeds.{coordinator_at}
use Rattle.agreement.proofs.SeatedEntries.{one_of}
use Rattle.enlistments.specs.KnownCoordinators.{LeafKnows, TransactionKnows}
use Rattle.enlistments.specs.Leads.{Enlists, EnlistsIfKnown}
use Rattle.enlistments.proofs.KnownCoordinators.{coordinators_are_known}
use Rattle.enlistments.proofs.LastingLeads.{found_stands}
use Rattle.enlistments.proofs.Places.{IsPlaced, TransactionPlaced, transactions_placed}
use Rattle.owed.specs.Seats.{Tells}
use Rattle.owed.specs.Links.{CommitsIn, LinkIsBusy, StaysBusy, StaysCommitting, TellsAnswer, superior_left}
use Rattle.owed.specs.Shape.{IsShaped}
use Rattle.owed.proofs.Books.{reached_shaped}
use Rattle.votes.specs.NamedParticipants.{HasSeat}
use Rattle.paired.specs.Partners.{IsPlace, IsSeat, IsSeatIfKnown, participant_of, seat_of}
use Rattle.paired.proofs.Homes.{node_range}
use Rattle.paired.proofs.Partners.{partners_are_paired}
use Rattle.settled.specs.CalmSteps.{Goes}
use Rattle.settled.specs.OwedMessages.{IsSeatPlace, CommitsAt, Holds, IsBusyAt}
use Rattle.settled.proofs.CalmSteps.{book_after, holds_after, posted_in}

-- what is found by an id
pub found_own : (b : Book) (id : Numbers) (t : Transaction) → transaction_at b id ≡ Some t → transaction_at b t.id ≡ Some t
found_own b id t found = ap (transaction_at b) (found_id transaction_id id b.transactions t found) ∙ found

pub leaf_own : (b : Book) (id : Numbers) (l : Leaf) → leaf_at b id ≡ Some l → leaf_at b l.id ≡ Some l
leaf_own b id l found = ap (leaf_at b) (found_id leaf_id id b.leaves l found) ∙ found

pub in_book : (b : Book) (id : Numbers) (t : Transaction) → transaction_at b id ≡ Some t → IsIn t b.transactions
in_book b id t found = found_stands transaction_id id t b.transactions found

pub shape_at : (hosts : Hosts) (w : World) → Reached hosts w → (n : ℕ) (b : Book) → Holds w n b → (id : Numbers) (t : Transaction) → transaction_at b id ≡ Some t → IsShaped t
shape_at hosts w reached n b h id t found = all_find IsShaped transaction_id id b.transactions t (reached_shaped hosts w reached n h.node b h.found h.up) found

-- a seat of a transaction of a book
pub seat_place : (hosts : Hosts) (w : World) → HaveOwnAddresses hosts → Reached hosts w → (n : ℕ) (b : Book) → Holds w n b → (t : Transaction) (s : Enlistment) → transaction_at b t.id ≡ Some t → IsIn s t.seats
    → IsSeatPlace hosts (record { node = n; id = t.id }) s.number
seat_place hosts w distinct reached n b h t s found i =
    let (id, seats) = one_of (TransactionPlaced hosts) b.transactions t (transactions_placed hosts w distinct reached n h.node b h.found h.up) (in_book b t.id t found) in
    let (least, most) = node_range hosts w distinct reached n h.node h.found in
    let p = one_of (λ (q : Enlistment). IsPlaced hosts (accepted_as q)) t.seats s seats i in
    record { place = record { least = least; most = most; id = id }; least = p.least; most = p.most }

pub seat_has : (hosts : Hosts) (w : World) → HaveOwnAddresses hosts → Reached hosts w → (n : ℕ) (b : Book) → Holds w n b → (t : Transaction) (s : Enlistment) (x : Who) → transaction_at b t.id ≡ Some t → IsIn s t.seats
    → IsPlace hosts x → s.participant ≡ participant_of hosts x s.kind → HasSeat w (record { node = n; id = t.id }) s.number s.kind x
seat_has hosts w distinct reached n b h t s x found i place is =
    (partners_are_paired.paired hosts w distinct reached).seat_has n h.node b t s x h.found h.up (in_book b t.id t found) i place is

-- the coordinator that a link knows, and that a leaf knows
if_known : (hosts : Hosts) (kind : Kind) (o : Option Epr) (c : Epr) → o ≡ Some c → IsSeatIfKnown hosts kind o → IsSeat hosts kind c
if_known hosts kind o c e h = subst (IsSeatIfKnown hosts kind) e h

if_enlists : (hosts : Hosts) (w : World) (o : Option Epr) (c : Epr) (x : Who) (kind : Kind) → o ≡ Some c → EnlistsIfKnown hosts w o x kind → Enlists hosts w c x kind
if_enlists hosts w o c x kind e h = subst (λ p. EnlistsIfKnown hosts w p x kind) e h

pub link_seat : (hosts : Hosts) (w : World) → HaveOwnAddresses hosts → Reached hosts w → (n : ℕ) (b : Book) → Holds w n b → (id : Numbers) (t : Transaction) (kind : Kind) (c : Epr) → transaction_at b id ≡ Some t
    → coordinator_at kind t.superior ≡ Some c → IsSeat hosts kind c × Enlists hosts w c (record { node = n; id = id }) kind
link_seat hosts w distinct reached n b h id t kind c found knows = (
  if_known hosts kind (coordinator_at kind t.superior) c knows ((partners_are_paired.paired hosts w distinct reached).links n h.node b t kind h.found h.up (in_book b id t found)),
  subst (λ i. Enlists hosts w c (record { node = n; id = i }) kind) (found_id transaction_id id b.transactions t found)
      (if_enlists hosts w (coordinator_at kind t.superior) c (record { node = n; id = t.id }) kind knows
      (one_of (TransactionKnows hosts w n) b.transactions t ((coordinators_are_known.reached hosts w distinct reached).books n h.node b h.found h.up).transactions (in_book b id t found) kind)),
)

pub leaf_seat : (hosts : Hosts) (w : World) → HaveOwnAddresses hosts → Reached hosts w → (n : ℕ) (b : Book) → Holds w n b → (id : Numbers) (l : Leaf) (c : Epr) → leaf_at b id ≡ Some l
    → l.coordinator ≡ Some c → IsSeat hosts l.kind c × Enlists hosts w c (record { node = n; id = id }) l.kind
leaf_seat hosts w distinct reached n b h id l c found knows = (
  if_known hosts l.kind l.coordinator c knows ((partners_are_paired.paired hosts w distinct reached).leaves n h.node b l h.found h.up (found_stands leaf_id id l b.leaves found)),
  subst (λ i. Enlists hosts w c (record { node = n; id = i }) l.kind) (found_id leaf_id id b.leaves l found)
      (if_enlists hosts w l.coordinator c (record { node = n; id = l.id }) l.kind knows
      (one_of (LeafKnows hosts w n) b.leaves l ((coordinators_are_known.reached hosts w distinct reached).books n h.node b h.found h.up).leaves (found_stands leaf_id id l b.leaves found))),
)

pub link_knows : (hosts : Hosts) (w : World) → HaveOwnAddresses hosts → Reached hosts w → (n : ℕ) (b : Book) → Holds w n b → (id : Numbers) (t : Transaction) (kind : Kind) (c : Epr) (z : Who) (number : ℕ)
    → transaction_at b id ≡ Some t → HasSeat w z number kind (record { node = n; id = id }) → coordinator_at kind t.superior ≡ Some c → c ≡ seat_of hosts z number kind
link_knows hosts w distinct reached n b h id t kind c z number found seat knows =
    let (k, e) = link_seat hosts w distinct reached n b h id t kind c found knows in
    (partners_are_paired.paired hosts w distinct reached).known_is c z (record { node = n; id = id }) number kind k e seat

pub leaf_knows : (hosts : Hosts) (w : World) → HaveOwnAddresses hosts → Reached hosts w → (n : ℕ) (b : Book) → Holds w n b → (id : Numbers) (l : Leaf) (c : Epr) (z : Who) (number : ℕ)
    → leaf_at b id ≡ Some l → HasSeat w z number l.kind (record { node = n; id = id }) → l.coordinator ≡ Some c → c ≡ seat_of hosts z number l.kind
leaf_knows hosts w distinct reached n b h id l c z number found seat knows =
    let (k, e) = leaf_seat hosts w distinct reached n b h id l c found knows in
    (partners_are_paired.paired hosts w distinct reached).known_is c z (record { node = n; id = id }) number l.kind k e seat

-- whom an answer goes to
pub stored_is : (o from : Option Epr) (e : Epr) → from ≡ Some e → ((c : Epr) → o ≡ Some c → c ≡ e) → stored_or o from ≡ Some e
stored_is None from e f h = f
stored_is (Some c) from e f h = ap Some (h c refl)

pub known_is : (o : Option Epr) (e : Epr) → is_none o ≡ false → ((c : Epr) → o ≡ Some c → c ≡ e) → o ≡ Some e
known_is None e f h = absurd cc
known_is (Some c) e f h = ap Some (h c refl)

-- what is left of a participant behind the step
pub left_busy : (hosts : Hosts) (u v : World) (before after : List Posted) → (g : Goes hosts u v before after) → (x : Who) (kind : Kind) → x.node ≡ g.number → (o : Option Transaction)
    → transaction_at (book_after g) x.id ≡ o → LinkIsBusy kind (superior_left o) → IsBusyAt v x kind
left_busy hosts u v before after g x kind here None e h = absurd h
left_busy hosts u v before after g x kind here (Some t) e h = record {
  book = book_after g;
  holds = subst (λ m. Holds v m (book_after g)) (sym here) (holds_after hosts u v before after g);
  transaction = t;
  found = e;
  busy = h;
}

pub left_committing : (hosts : Hosts) (u v : World) (before after : List Posted) → (g : Goes hosts u v before after) → (x : Who) → x.node ≡ g.number → (o : Option Transaction)
    → transaction_at (book_after g) x.id ≡ o → CommitsIn (superior_left o) → CommitsAt v x
left_committing hosts u v before after g x here None e h = absurd h
left_committing hosts u v before after g x here (Some t) e h = record {
  book = book_after g;
  holds = subst (λ m. Holds v m (book_after g)) (sym here) (holds_after hosts u v before after g);
  transaction = t;
  found = e;
  commits = h;
}

stays_or : (kind : Kind) (to : Epr) (ps : List Post) (o : Option Superior) → StaysBusy kind to ps o → LinkIsBusy kind o ⊎ TellsAnswer to ps
stays_or kind to ps None h = inr h
stays_or kind to ps (Some s) (inl (busy, same)) = inl busy
stays_or kind to ps (Some s) (inr h) = inr h

pub still_busy : (hosts : Hosts) (u v : World) (before after : List Posted) → (g : Goes hosts u v before after) → (x : Who) (kind : Kind) (to : Epr) → x.node ≡ g.number
    → StaysBusy kind to (posted_in g) (superior_left (transaction_at (book_after g) x.id)) → IsBusyAt v x kind ⊎ TellsAnswer to (posted_in g)
still_busy hosts u v before after g x kind to here h = by_case (stays_or kind to (posted_in g) (superior_left (transaction_at (book_after g) x.id)) h)
  where
    by_case : LinkIsBusy kind (superior_left (transaction_at (book_after g) x.id)) ⊎ TellsAnswer to (posted_in g) → IsBusyAt v x kind ⊎ TellsAnswer to (posted_in g)
    by_case (inl busy) = inl (left_busy hosts u v before after g x kind here (transaction_at (book_after g) x.id) refl busy)
    by_case (inr tells) = inr tells

commits_or : (to : Epr) (ps : List Post) (o : Option Superior) → StaysCommitting to ps o → CommitsIn o ⊎ Tells (Some to) notices.Committed ps
commits_or to ps None h = inr h
commits_or to ps (Some s) (inl (commits, same)) = inl commits
commits_or to ps (Some s) (inr h) = inr h

pub still_committing : (hosts : Hosts) (u v : World) (before after : List Posted) → (g : Goes hosts u v before after) → (x : Who) (to : Epr) → x.node ≡ g.number
    → StaysCommitting to (posted_in g) (superior_left (transaction_at (book_after g) x.id)) → CommitsAt v x ⊎ Tells (Some to) notices.Committed (posted_in g)
still_committing hosts u v before after g x to here h = by_case (commits_or to (posted_in g) (superior_left (transaction_at (book_after g) x.id)) h)
  where
    by_case : CommitsIn (superior_left (transaction_at (book_after g) x.id)) ⊎ Tells (Some to) notices.Committed (posted_in g) → CommitsAt v x ⊎ Tells (Some to) notices.Committed (posted_in g)
    by_case (inl commits) = inl (left_committing hosts u v before after g x here (transaction_at (book_after g) x.id) refl commits)
    by_case (inr tells) = inr tells
