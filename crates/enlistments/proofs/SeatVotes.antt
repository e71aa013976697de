-- A vote that goes to a seat is that of the participant that was accepted there.
use Rattle.std.specs.Prelude.{ℕ, Option, Some, Bool, ◌≡◌, ◌⊎◌}
use Rattle.std.specs.List.{AllByRecursion}
use Rattle.std.proofs.Common.{inl, inr, sym, subst, ap, ◌∙◌}
use Rattle.at_base.specs.Numbers.{Numbers}
use Rattle.at_base.specs.IdText.{IsId}
use Rattle.at_base.specs.declared.epr.Epr.{Epr}
use Rattle.at_base.specs.declared.notice.Kind.{Kind}
use Rattle.at_base.specs.declared.notice.Notice.{Notice}
use Rattle.at_base.specs.declared.notice.Notice.TheVariants as notices
use Rattle.at_base.specs.declared.event.Event.{Event}
use Rattle.at_base.specs.declared.outs.Post.{Post}
use Rattle.at_base.specs.declared.target.Seat.{Seat}
use Rattle.at_base.specs.declared.target.Target.{Target}
use Rattle.at_base.specs.declared.target.Target.TheVariants as targets
use Rattle.endpoints.specs.Addresses.{endpoint_of}
use Rattle.at_model.specs.Book.{Book, leaf_id, transaction_id}
use Rattle.at_model.specs.Posts.{from_on}
use Rattle.at_model.specs.Step.{plan, step}
use Rattle.at_model.specs.World.{Node, Posted, World, new_nodes, place_of, Hosts, HaveOwnAddresses}
use Rattle.model_laws.specs.Agreement.{IsIn}
use Rattle.model_laws.specs.Growth.{Grows}
use Rattle.model_laws.specs.ReachedWorlds.{Reached, counts}
use Rattle.model_laws.proofs.DecisionLaws.{all_find}
use Rattle.model_laws.proofs.Growth.{grows_counts, takes_nothing_back}
use Rattle.agreement.specs.Deeds.{coordinator_at}
use Rattle.agreement.specs.StepDeeds.{standing}
use Rattle.agreement.specs.Places.{HasPath}
use Rattle.agreement.proofs.Places.{addresses_lead_home}
use Rattle.enlistments.specs.KnownCoordinators.{IsVoteOf, LeafKnows, TransactionKnows, VotesAtItsSeat}
use Rattle.enlistments.specs.Leads.{Enlists, EnlistsIfKnown, LeadsTo}
use Rattle.enlistments.specs.Senses.{Vote, Votes, sense, votes_alone, votes_under}
use Rattle.enlistments.proofs.Arrivals.{Stepping, node_number, step_ready, up_known}
use Rattle.enlistments.proofs.Books.{books_know}
use Rattle.enlistments.proofs.Places.{TransactionPlaced, leaves_placed, transactions_placed}
use Rattle.enlistments.proofs.Posts.{PostLaw, one_has, posts_have}
use Rattle.enlistments.proofs.Senses.{steps_sense}

-- From, where it is written, is the signer's own endpoint, and leads home
from_is : (v : Notice) (e c : Epr) → from_on v e ≡ Some c → e ≡ c
from_is notices.Prepare e c f = cc
from_is notices.Commit e c f = cc
from_is notices.Rollback e c f = cc
from_is notices.Prepared e c f = cc
from_is notices.ReadOnly e c f = absurd cc
from_is notices.Aborted e c f = absurd cc
from_is notices.Committed e c f = absurd cc

pub written_by : (hosts : Hosts) (u : World) (n : ℕ) (x : Node) (b : Book) (e : Event) (now : ℕ) (landed : Bool) → Stepping hosts u n x b e now landed → (v : Notice) (T : Target) (from : Option Epr)
    (c : Epr) → from ≡ from_on v (endpoint_of b.base T) → from ≡ Some c → c ≡ endpoint_of (hosts.base_of n) T
written_by hosts u n x b e now landed s v T from c f g =
    sym (from_is v (endpoint_of b.base T) c (sym f ∙ g)) ∙ ap (λ base. endpoint_of base T) (up_known hosts u s.distinct s.reached n x b s.found s.up).says.base_is

pub signed_home : (hosts : Hosts) (u : World) (n : ℕ) (x : Node) (b : Book) (e : Event) (now : ℕ) (landed : Bool) → Stepping hosts u n x b e now landed → (T S : Target) (c : Epr) (m : ℕ)
    → c ≡ endpoint_of (hosts.base_of n) T → HasPath T → LeadsTo hosts c m S → (m ≡ n) × (S ≡ T)
signed_home hosts u n x b e now landed s T S c m f path leads =
    addresses_lead_home hosts n m T S s.distinct (node_number hosts n u x s.distinct s.reached s.found) path
    (subst (λ y. place_of 1 (new_nodes hosts.base_of hosts.count 1) y.address ≡ Some (m, S)) f leads)

-- the vote of an item
abbrev IsVoteAt : Hosts → World → Posted → ℕ → Target → Type 0
IsVoteAt hosts w p n (targets.Coordinator j s) = IsVoteOf hosts w p n j s
IsVoteAt hosts w p n other = Unit {0}

vote_of : (hosts : Hosts) (u : World) (n : ℕ) (x : Node) (b : Book) (e : Event) (now : ℕ) (landed : Bool) → Stepping hosts u n x b e now landed → (id : Numbers) (kind : Kind) (v : Notice)
    (p : Post) (r : Option ℕ) (to : Epr) (k : ℕ) (T : Target) → IsId id → Enlists hosts u to (record { node = n; id = id }) kind → p.own ≡ Some (targets.Participant id kind)
    → p.from ≡ from_on v (endpoint_of b.base (targets.Participant id kind)) → LeadsTo hosts to k T
    → IsVoteAt hosts (counts u n x b e now landed) (record { sender = n; receiver = r; content = p }) k T
vote_of hosts u n x b e now landed s id kind v p r to k T small knows own from leads =
    let (j, number, is, accepted) = knows k T leads in
    subst (IsVoteAt hosts (counts u n x b e now landed) (record { sender = n; receiver = r; content = p }) k) (sym is) (record {
      item = id;
      own = own;
      accepted = takes_nothing_back.accepted u (counts u n x b e now landed) (grows_counts u n x b e now landed s.found) _ _ (record { node = n; id = id }) accepted;
      from = λ c m S f l.
          signed_home hosts u n x b e now landed s (targets.Participant id kind) S c m (written_by hosts u n x b e now landed s v (targets.Participant id kind) p.from c from f) small l;
    })

known : (hosts : Hosts) (u : World) (n : ℕ) (id : Numbers) (kind : Kind) (o : Option Epr) (to : Epr) → o ≡ Some to → EnlistsIfKnown hosts u o (record { node = n; id = id }) kind
    → Enlists hosts u to (record { node = n; id = id }) kind
known hosts u n id kind o to f h = subst (λ y. EnlistsIfKnown hosts u y (record { node = n; id = id }) kind) f h

pub same_to : (p : Post) (a c : Epr) → p.to ≡ Some a → p.to ≡ Some c → a ≡ c
same_to p a c e f = cc

votes_at : (hosts : Hosts) (u : World) (n : ℕ) (x : Node) (b : Book) (e : Event) (now : ℕ) (landed : Bool) → Stepping hosts u n x b e now landed → (v : Notice) (p : Post) (r : Option ℕ) (to : Epr)
    (k : ℕ) (T : Target) → p.to ≡ Some to → LeadsTo hosts to k T → Votes b e now (standing landed (plan b e now).entry) (step b e now landed) v p
    → IsVoteAt hosts (counts u n x b e now landed) (record { sender = n; receiver = r; content = p }) k T
votes_at hosts u n x b e now landed s v p r to k T goes leads (votes_under d kind y knows why from) =
    let h : TransactionKnows hosts u n d.old =
    all_find (TransactionKnows hosts u n) transaction_id d.old.id b.transactions d.old (books_know hosts u s.distinct s.reached n x b s.found s.up).transactions d.found in
    let placed : TransactionPlaced hosts d.old =
    all_find (TransactionPlaced hosts) transaction_id d.old.id b.transactions d.old (transactions_placed hosts u s.distinct s.reached n x b s.found s.up) d.found in
    vote_of hosts u n x b e now landed s d.old.id kind v p r to k T placed.0
    (known hosts u n d.old.id kind (coordinator_at kind d.old.superior) to (knows ∙ ap Some (same_to p y to from.sent goes)) (h kind)) from.owned from.from leads
votes_at hosts u n x b e now landed s v p r to k T goes leads (votes_alone d y knows why is) =
    let h : LeafKnows hosts u n d.old =
    all_find (LeafKnows hosts u n) leaf_id d.old.id b.leaves d.old (books_know hosts u s.distinct s.reached n x b s.found s.up).leaves d.found in
    let small : IsId d.old.id = all_find (λ l. IsId l.id) leaf_id d.old.id b.leaves d.old (leaves_placed hosts u s.distinct s.reached n x b s.found s.up) d.found in
    vote_of hosts u n x b e now landed s d.old.id d.old.kind v p r to k T small
    (known hosts u n d.old.id d.old.kind d.old.coordinator to (knows ∙ ap Some (same_to p y to (ap (λ (q : Post). q.to) is) goes)) h) (ap (λ (q : Post). q.own) is) (ap (λ (q : Post). q.from) is)
    leads

vote_on : (hosts : Hosts) (u w : World) → Grows u w → (p : Posted) (n : ℕ) (j : Numbers) (s : Seat) → IsVoteOf hosts u p n j s → IsVoteOf hosts w p n j s
vote_on hosts u w g p n j s h =
    record { item = h.item; own = h.own; accepted = takes_nothing_back.accepted u w g _ _ (record { node = p.sender; id = h.item }) h.accepted; from = h.from }

is_vote : (v : Notice) → (v ≡ notices.Prepared) ⊎ (v ≡ notices.ReadOnly) → sense v ≡ Vote
is_vote v (inl e) = ap sense e
is_vote v (inr e) = ap sense e

voting : (hosts : Hosts) → PostLaw hosts
voting hosts = record {
  Of = VotesAtItsSeat hosts;
  on = λ u w g p h v to n j s says is goes leads. vote_on hosts u w g p n j s (h v to n j s says is goes leads);
  new = λ u n x b e now landed s h p i r v to k j q says is goes leads.
      votes_at hosts u n x b e now landed s v p r to k (targets.Coordinator j q) goes leads (steps_sense.votes b e now landed (step_ready hosts u n x b e now landed s) p v i says (is_vote v is));
}

pub votes_at_seats : (hosts : Hosts) (w : World) → HaveOwnAddresses hosts → Reached hosts w → AllByRecursion (VotesAtItsSeat hosts w) w.posted
unfolding voting
votes_at_seats hosts w distinct reached = posts_have hosts distinct (voting hosts) w reached

pub vote_at_seat : (hosts : Hosts) (w : World) → HaveOwnAddresses hosts → Reached hosts w → (p : Posted) → IsIn p w.posted → VotesAtItsSeat hosts w p
unfolding voting
vote_at_seat hosts w distinct reached p i = one_has hosts distinct (voting hosts) w reached p i
