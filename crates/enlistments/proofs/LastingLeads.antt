-- What endpoints lead to stays so while registrations grow; and what a node wrote for a seat leads there.
use Rattle.std.specs.Prelude.{ℕ, List, [], ◌∷◌, Option, Some, None, Bool, true, false, if◌then◌else◌, ◌≡◌, refl}
use Rattle.std.specs.List.{AllByRecursion}
use Rattle.std.proofs.Common.{inl, inr, sym, subst, ap, ◌∙◌}
use Rattle.at_base.specs.Numbers.{Numbers}
use Rattle.at_base.specs.declared.epr.Epr.{Epr}
use Rattle.at_base.specs.declared.notice.Kind.{Kind}
use Rattle.at_base.specs.declared.target.Target.{Target}
use Rattle.at_base.specs.declared.target.Target.TheVariants as targets
use Rattle.endpoints.specs.Addresses.{endpoint_of}
use Rattle.at_model.specs.Book.{Book, Completion, Enlistment, Transaction, find_by, is_id, put_by}
use Rattle.at_model.specs.Seats.{seat_target}
use Rattle.at_model.specs.World.{Node, Who, World, accepted_completion, accepted_seat, new_nodes, nth, who_at, who_of, Hosts, HaveOwnAddresses}
use Rattle.model_laws.specs.Agreement.{IsIn}
use Rattle.model_laws.specs.PhaseAnswers.{accepted_as}
use Rattle.model_laws.specs.Registrations.{IsEnlisted}
use Rattle.model_laws.specs.Growth.{Grows}
use Rattle.model_laws.specs.ReachedWorlds.{Reached}
use Rattle.model_laws.proofs.Growth.{takes_nothing_back}
use Rattle.model_laws.proofs.Nodes.{who_same}
use Rattle.agreement.proofs.Places.{addresses_lead_home}
use Rattle.agreement.proofs.SeatRegistrations.{seats_are_registered}
use Rattle.agreement.proofs.SeatedEntries.{one_of}
use Rattle.enlistments.specs.Leads.{Completes, CompletesIfKnown, Enlists, EnlistsIfKnown, LeadsTo}
use Rattle.enlistments.proofs.Arrivals.{node_number, world_bases}
use Rattle.enlistments.proofs.Places.{IsPlaced, TransactionPlaced, transactions_placed}

pub enlists_on : (hosts : Hosts) (u w : World) → Grows u w → (c : Epr) (x : Who) (kind : Kind) → Enlists hosts u c x kind → Enlists hosts w c x kind
enlists_on hosts u w g c x kind h n T l =
    let (id, number, is, accepted) = h n T l in
    (id, number, is, takes_nothing_back.accepted u w g _ _ x accepted)

pub completes_on : (hosts : Hosts) (u w : World) → Grows u w → (c : Epr) (x : Who) → Completes hosts u c x → Completes hosts w c x
completes_on hosts u w g c x h n T l =
    let (id, is, accepted) = h n T l in
    (id, is, takes_nothing_back.accepted u w g _ None x accepted)

pub if_enlists_on : (hosts : Hosts) (u w : World) → Grows u w → (c : Option Epr) (x : Who) (kind : Kind) → EnlistsIfKnown hosts u c x kind → EnlistsIfKnown hosts w c x kind
if_enlists_on hosts u w g None x kind h = tt
if_enlists_on hosts u w g (Some c) x kind h = enlists_on hosts u w g c x kind h

pub if_completes_on : (hosts : Hosts) (u w : World) → Grows u w → (c : Option Epr) (x : Who) → CompletesIfKnown hosts u c x → CompletesIfKnown hosts w c x
if_completes_on hosts u w g None x h = tt
if_completes_on hosts u w g (Some c) x h = completes_on hosts u w g c x h

-- who it is that a place names
pub who_leads : (hosts : Hosts) (w : World) → HaveOwnAddresses hosts → Reached hosts w → (e : Epr) (m : ℕ) (T : Target) → LeadsTo hosts e m T → who_of w.nodes e ≡ who_at (Some (m, T))
who_leads hosts w distinct reached e m T l = who_same w.nodes (new_nodes hosts.base_of hosts.count 1) e (world_bases hosts w distinct reached) ∙ ap who_at l

-- a transaction of a book in a reached world
pub record Held (hosts : Hosts) (w : World) (n : ℕ) (t : Transaction) : Type 0 where
  pub distinct : HaveOwnAddresses hosts
  pub reached : Reached hosts w
  pub x : Node
  pub b : Book
  pub found : nth n w.nodes ≡ Some x
  pub up : x.book ≡ Some b
  pub stands : IsIn t b.transactions

enlisted : (hosts : Hosts) (w : World) (n : ℕ) (t : Transaction) → Held hosts w n t → IsEnlisted w n t
enlisted hosts w n t h = one_of (IsEnlisted w n) h.b.transactions t ((seats_are_registered.reached hosts w h.distinct h.reached).enlisted n h.x h.b h.found h.up) h.stands

pub placed : (hosts : Hosts) (w : World) (n : ℕ) (t : Transaction) → Held hosts w n t → TransactionPlaced hosts t
placed hosts w n t h = one_of (TransactionPlaced hosts) h.b.transactions t (transactions_placed hosts w h.distinct h.reached n h.x h.b h.found h.up) h.stands

pub seat_placed : (hosts : Hosts) (w : World) (n : ℕ) (t : Transaction) (s : Enlistment) → Held hosts w n t → IsIn s t.seats → IsPlaced hosts (accepted_as s)
seat_placed hosts w n t s h i = one_of (λ q. IsPlaced hosts (accepted_as q)) t.seats s (placed hosts w n t h).1 i

-- the endpoint that a node writes for a seat enlists that seat's participant
pub seat_enlists : (hosts : Hosts) (w : World) (n : ℕ) (t : Transaction) (s : Enlistment) (m : ℕ) (i : Numbers) (kind : Kind) → Held hosts w n t → IsIn s t.seats
    → LeadsTo hosts s.participant m (targets.Participant i kind) → Enlists hosts w (endpoint_of (hosts.base_of n) (seat_target t.id s)) (record { node = m; id = i }) kind
seat_enlists hosts w n t s m i kind h sits l k T leads =
    let p : IsPlaced hosts (accepted_as s) = seat_placed hosts w n t s h sits in
    let (here, is) = addresses_lead_home hosts n k (seat_target t.id s) T h.distinct (node_number hosts n w h.x h.distinct h.reached h.found) ((placed hosts w n t h).0, p.least, p.most) leads in
    let (j, kind_is) = p.kind m (targets.Participant i kind) l in
    let same : s.kind ≡ kind = sym (same_kind kind s.kind i j kind_is) in
    let accepted : IsIn (accepted_seat n w.nodes t.id s) w.accepted = one_of (λ q. IsIn (accepted_seat n w.nodes t.id q) w.accepted) t.seats s (enlisted hosts w n t h).0 sits in (
      t.id,
      s.number,
      is ∙ ap (λ d. targets.Coordinator t.id (record { number = s.number; kind = d })) same,
      subst (λ a. IsIn a w.accepted) (λ r. record {
        transaction = record { node = sym here r; id = t.id };
        seat = Some (record { number = s.number; kind = same r });
        participant = who_leads hosts w h.distinct h.reached s.participant m (targets.Participant i kind) l r;
      }) accepted,
    )
  where
    same_kind : (k d : Kind) (i j : Numbers) → targets.Participant i k ≡ targets.Participant j d → k ≡ d
    same_kind k d i j e = cc

-- and that of the completion seat its initiator
pub completion_completes : (hosts : Hosts) (w : World) (n : ℕ) (t : Transaction) (c : Completion) (m : ℕ) (i : Numbers) → Held hosts w n t → t.completion ≡ Some c
    → LeadsTo hosts c.initiator m (targets.Initiator i) → Completes hosts w (endpoint_of (hosts.base_of n) (targets.Completion t.id)) (record { node = m; id = i })
completion_completes hosts w n t c m i h there l k T leads =
    let (here, is) = addresses_lead_home hosts n k (targets.Completion t.id) T h.distinct (node_number hosts n w h.x h.distinct h.reached h.found) (placed hosts w n t h).0 leads in
    let accepted : AllByRecursion (λ a. IsIn a w.accepted) (accepted_completion n w.nodes t.id None (Some c)) =
    subst (λ o. AllByRecursion (λ a. IsIn a w.accepted) (accepted_completion n w.nodes t.id None o)) there (enlisted hosts w n t h).1 in (
      t.id,
      is,
      subst (λ a. IsIn a w.accepted) (λ r. record {
        transaction = record { node = sym here r; id = t.id };
        seat = None;
        participant = who_leads hosts w h.distinct h.reached c.initiator m (targets.Initiator i) l r;
      }) accepted.0,
    )

-- what is put stands
pub put_stands : {A : Type 0} (key : A → Numbers) (id : Numbers) (x y : A) (xs : List A) → find_by key id xs ≡ Some y → IsIn x (put_by key id (Some x) xs)
put_stands key id x y [] e = absurd cc
put_stands {A = A} key id x y (z ∷ zs) e = by_test (λ f. put_stands key id x y zs f) (is_id (key z) id) e
  where
    by_test : (find_by key id zs ≡ Some y → IsIn x (put_by key id (Some x) zs)) → (b : Bool) → (if b then Some z else find_by key id zs) ≡ Some y
        → IsIn x (if b then x ∷ zs else z ∷ put_by key id (Some x) zs)
    by_test rest true f = inl refl
    by_test rest false f = inr (rest f)

pub found_stands : {A : Type 0} (key : A → Numbers) (id : Numbers) (x : A) (xs : List A) → find_by key id xs ≡ Some x → IsIn x xs
found_stands key id x [] e = absurd cc
found_stands {A = A} key id x (z ∷ zs) e = by_test (λ f. found_stands key id x zs f) (is_id (key z) id) e
  where
    by_test : (find_by key id zs ≡ Some x → IsIn x zs) → (b : Bool) → (if b then Some z else find_by key id zs) ≡ Some x → IsIn x (z ∷ zs)
    by_test rest true f = let same : z ≡ x = cc in inl (sym same)
    by_test rest false f = inr (rest f)
