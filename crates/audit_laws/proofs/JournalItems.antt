-- The items that journals name are those of a world, and so are their superiors.
use Rattle.std.specs.Prelude.{ℕ, zero, suc, List, [], ◌∷◌, ◌++◌, Option, Some, None, Bool, true, false, nat_eq, ◌||◌, ◌+◌, ◌-◌, if◌then◌else◌, bytes_eq, codes, unwrap_or, ◌≡◌, ◌⊎◌, ◌<◌, ◌≤◌, refl}
use Rattle.std.specs.List.{list_any}
use Rattle.std.proofs.Common.{arith, inl, inr, sym, subst, ap, ◌∙◌}
use Rattle.std.proofs.lemmas.Bool.{eqb-true, eqb-false}
use Rattle.std.proofs.lemmas.Slice.Eq.{bytes_eq-Decides}
use Rattle.at_base.specs.Numbers.{Numbers}
use Rattle.at_base.specs.declared.epr.Epr.{Epr}
use Rattle.at_base.specs.declared.notice.Kind.TheVariants as kinds
use Rattle.at_base.specs.declared.record.Record.{Record}
use Rattle.at_base.specs.declared.record.Record.TheVariants as records
use Rattle.at_base.specs.declared.record.Seated.{Seated}
use Rattle.at_base.specs.declared.target.Target.TheVariants as targets
use Rattle.at_model.specs.Book.{is_id}
use Rattle.at_model.specs.Recovery.{is_voted}
use Rattle.at_model.specs.World.{HaveOwnAddresses, Hosts, IsNumber, Node, Who, World, new_nodes, nth}
use Rattle.model_laws.specs.Agreement.{IsIn, IsOf, below, itself}
use Rattle.model_laws.specs.ReachedWorlds.{Reached}
use Rattle.model_laws.proofs.Addresses.{HaveBases, IsPlace, place_is}
use Rattle.model_laws.proofs.DecisionLaws.{first_true, second_true}
use Rattle.model_laws.proofs.RecoveryLaws.{same_id}
use Rattle.agreement.proofs.SeatedEntries.{in_either, one_of}
use Rattle.enlistments.specs.KnownCoordinators.{RecordKnows}
use Rattle.enlistments.specs.Leads.{Enlists}
use Rattle.enlistments.proofs.Arrivals.{node_number, world_bases}
use Rattle.enlistments.proofs.Books.{journals_know}
use Rattle.outcomes.specs.Bonds.{IsUnder}
use Rattle.recorded_runs.specs.JournalRecords.{AreRanked, IsLed, VotesUp}
use Rattle.recorded_runs.proofs.LedCoordinators.{coordinators_led}
use Rattle.audit_at.specs.Superiors.{Log, climb, comes_to, is_item, is_some_and, item_at, named, subordinate_at, subordinates, subordinates_in, superior_of}
use Rattle.audit_at.specs.declared.item.Item.{Item}
use Rattle.audit_at.specs.declared.subordinate.Subordinate.{Subordinate}
use Rattle.audit_laws.specs.JournalsOfRuns.{AreJournalsOf}
use Rattle.audit_laws.proofs.Addresses.{names_seat}

-- a world that is reached, and the journals of some of its nodes
pub record Audits (hosts : Hosts) (w : World) (logs : List Log) : Type 0 where
  pub distinct : HaveOwnAddresses hosts
  pub reached : Reached hosts w
  pub journals : AreJournalsOf w logs

-- the item of a node
pub record IsItemOf (hosts : Hosts) (item : Item) (x : Who) : Type 0 where
  pub number : IsNumber hosts x.node
  pub base : item.base ≡ hosts.base_of x.node
  pub id : item.id ≡ x.id

one_base : (hosts : Hosts) → HaveOwnAddresses hosts → (m n : ℕ) → IsNumber hosts m → IsNumber hosts n → hosts.base_of m ≡ hosts.base_of n → m ≡ n
one_base hosts apart m n h k e = apart m n (codes "/work") (codes "/work") targets.Work targets.Work h k refl refl (ap (λ b. b ++ codes "/work") e)

pub who_is : (hosts : Hosts) → HaveOwnAddresses hosts → (item : Item) (x y : Who) → IsItemOf hosts item x → IsItemOf hosts item y → x ≡ y
who_is hosts apart item x y h k =
    let node : x.node ≡ y.node = one_base hosts apart x.node y.node h.number k.number (sym h.base ∙ k.base) in
    let id : x.id ≡ y.id = sym h.id ∙ k.id in
    λ i. record { node = node i; id = id i }

pub same_item : (a b : Item) → is_item a b ≡ true → a ≡ b
same_item a b e =
    let base : a.base ≡ b.base = (bytes_eq-Decides a.base b.base).0 (first_true (bytes_eq a.base b.base) (is_id a.id b.id) e) in
    let id : a.id ≡ b.id = same_id a.id b.id (second_true (bytes_eq a.base b.base) (is_id a.id b.id) e) in
    λ i. record { base = base i; id = id i }

-- the bases of nodes
base_by : (base_of : ℕ → List ℕ) (xs : List Node) (count first n k : ℕ) (x : Node) → HaveBases xs (new_nodes base_of count first) → 1 ≤ n → first + n ≡ k + 1 → nth n xs ≡ Some x
    → x.base ≡ base_of k
base_by base_of [] count first n k x h l e f = absurd cc
base_by base_of (y ∷ xs) zero first n k x h l e f = absurd h
base_by base_of (y ∷ xs) (suc count) first n k x (h, hs) l e f = by_test (base_by base_of xs count (first + 1) (n - 1) k x hs) (nat_eq n 1) refl f
  where
    by_test : (1 ≤ n - 1 → first + 1 + (n - 1) ≡ k + 1 → nth (n - 1) xs ≡ Some x → x.base ≡ base_of k) → (c : Bool) → nat_eq n 1 ≡ c → (if c then Some y else nth (n - 1) xs) ≡ Some x
        → x.base ≡ base_of k
    by_test rest true g f =
        let one : n ≡ 1 = eqb-true n 1 g in
        let at : first ≡ k = omega (arith, e, one) in
        let same : y ≡ x = cc in
        sym (ap (λ (z : Node). z.base) same) ∙ h ∙ ap base_of at
    by_test rest false g f =
        let other : n ≡ 1 → ⊥ = eqb-false n 1 g in
        rest (omega (arith, l, other)) (omega (arith, e, l, other)) f

base_is : (hosts : Hosts) (w : World) → HaveOwnAddresses hosts → Reached hosts w → (n : ℕ) (x : Node) → nth n w.nodes ≡ Some x → x.base ≡ hosts.base_of n
base_is hosts w apart reached n x found =
    base_by hosts.base_of w.nodes hosts.count 1 n n x (world_bases hosts w apart reached) (node_number hosts n w x apart reached found).0 (omega arith) found

pub own_item : (hosts : Hosts) (w : World) → HaveOwnAddresses hosts → Reached hosts w → (n : ℕ) (x : Node) (id : Numbers) → nth n w.nodes ≡ Some x
    → IsItemOf hosts (item_at x.base id) (record { node = n; id = id })
own_item hosts w apart reached n x id found = record { number = node_number hosts n w x apart reached found; base = base_is hosts w apart reached n x found; id = refl }

-- whom a recorded coordinator names
pub record Coordinates (hosts : Hosts) (w : World) (c : Epr) (x : Who) : Type 0 where
  pub by : Who
  pub item : Item
  pub is : IsItemOf hosts item by
  pub names : named c.address ≡ Some item
  pub under : IsUnder w by x

coordinates : (hosts : Hosts) (w : World) (c : Epr) (x : Who) → IsLed hosts c → Enlists hosts w c x kinds.Durable → Coordinates hosts w c x
coordinates hosts w c x l h =
    let (id, k, is, accepted) = h l.node l.target l.leads in
    let place : IsPlace hosts.base_of 1 hosts.count c.address (l.node, l.target) = place_is hosts.base_of hosts.count 1 c.address (l.node, l.target) l.leads in
    record {
      by = record { node = l.node; id = id };
      item = item_at (hosts.base_of l.node) id;
      is = record { number = (place.least, omega (arith, place.most)); base = refl; id = refl };
      names = names_seat c.address (hosts.base_of l.node) id k (place.target ∙ ap (λ T. Some T) is);
      under = (k, accepted);
    }

pub leaf_coordinates : (hosts : Hosts) (w : World) → HaveOwnAddresses hosts → Reached hosts w → (n : ℕ) (x : Node) → nth n w.nodes ≡ Some x → (id : Numbers) (c : Epr) (key value : List ℕ)
    → IsIn (records.LeafPrepared id c key value) x.journal → Coordinates hosts w c (record { node = n; id = id })
leaf_coordinates hosts w apart reached n x found id c key value i =
    coordinates hosts w c (record { node = n; id = id }) (coordinators_led hosts w apart reached n x found (records.LeafPrepared id c key value) i)
    (one_of (RecordKnows hosts w n) x.journal (records.LeafPrepared id c key value) (journals_know hosts w apart reached n x found) i)

vote_coordinates : (hosts : Hosts) (w : World) → HaveOwnAddresses hosts → Reached hosts w → (n : ℕ) (x : Node) → nth n w.nodes ≡ Some x → (id : Numbers) (c : Epr) (seats : List Seated)
    → IsIn (records.Voted id c seats) x.journal → Coordinates hosts w c (record { node = n; id = id })
vote_coordinates hosts w apart reached n x found id c seats i =
    coordinates hosts w c (record { node = n; id = id }) (coordinators_led hosts w apart reached n x found (records.Voted id c seats) i)
    (one_of (RecordKnows hosts w n) x.journal (records.Voted id c seats) (journals_know hosts w apart reached n x found) i)

-- those that voted
record VotedIn (base : List ℕ) (rs : List Record) (s : Subordinate) : Type 0 where
  id : Numbers
  superior : Epr
  seats : List Seated
  stands : IsIn (records.Voted id superior seats) rs
  item : s.item ≡ item_at base id
  up : s.superior ≡ named superior.address

voted_in : (base : List ℕ) (rs : List Record) (s : Subordinate) → IsIn s (subordinates_in base rs) → VotedIn base rs s
voted_in base [] s i = absurd i
voted_in base (r ∷ rest) s i = by_place (voted_in base rest s) (in_either s (subordinate_at base r rest) (subordinates_in base rest) i)
  where
    further : VotedIn base rest s → VotedIn base (r ∷ rest) s
    further v = record { id = v.id; superior = v.superior; seats = v.seats; stands = inr v.stands; item = v.item; up = v.up }

    last : (id : Numbers) (superior : Epr) (seats : List Seated) (c : Bool) → IsIn s (if c then [] else record { item = item_at base id; superior = named superior.address } ∷ [])
        → VotedIn base (records.Voted id superior seats ∷ rest) s
    last id superior seats true k = absurd k
    last id superior seats false (inl e) =
        record { id = id; superior = superior; seats = seats; stands = inl refl; item = ap (λ (z : Subordinate). z.item) e; up = ap (λ (z : Subordinate). z.superior) e }
    last id superior seats false (inr k) = absurd k

    here : (q : Record) → IsIn s (subordinate_at base q rest) → VotedIn base (q ∷ rest) s
    here (records.Voted id superior seats) k = last id superior seats (list_any (is_voted id) rest) k
    here (records.Start incarnation) k = absurd k
    here (records.LeafPrepared id coordinator key value) k = absurd k
    here (records.LeafCommitted id) k = absurd k
    here (records.LeafAborted id) k = absurd k
    here (records.Decided id seats) k = absurd k
    here (records.SubCommitted id) k = absurd k
    here (records.Ended id) k = absurd k
    here (records.Done id) k = absurd k

    by_place : (IsIn s (subordinates_in base rest) → VotedIn base rest s) → IsIn s (subordinate_at base r rest) ⊎ IsIn s (subordinates_in base rest) → VotedIn base (r ∷ rest) s
    by_place later (inl k) = here r k
    by_place later (inr k) = further (later k)

record VotedUnder (logs : List Log) (s : Subordinate) : Type 0 where
  log : Log
  among : IsIn log logs
  voted : VotedIn log.base log.records s

voted_under : (logs : List Log) (s : Subordinate) → IsIn s (subordinates logs) → VotedUnder logs s
voted_under [] s i = absurd i
voted_under (log ∷ logs) s i = by_place (voted_under logs s) (in_either s (subordinates_in log.base log.records) (subordinates logs) i)
  where
    by_place : (IsIn s (subordinates logs) → VotedUnder logs s) → IsIn s (subordinates_in log.base log.records) ⊎ IsIn s (subordinates logs) → VotedUnder (log ∷ logs) s
    by_place later (inl k) = record { log = log; among = inl refl; voted = voted_in log.base log.records s k }
    by_place later (inr k) = let v : VotedUnder logs s = later k in record { log = v.log; among = inr v.among; voted = v.voted }

-- a subordinate of a world, and its superior
pub record IsVoter (hosts : Hosts) (w : World) (s : Subordinate) : Type 0 where
  pub who : Who
  pub is : IsItemOf hosts s.item who
  pub votes : VotesUp w who
  pub superior : Who
  pub item : Item
  pub above : IsItemOf hosts item superior
  pub up : s.superior ≡ Some item
  pub under : IsUnder w superior who

voter_at : (hosts : Hosts) (w : World) (n : ℕ) (x : Node) (s : Subordinate) → HaveOwnAddresses hosts → Reached hosts w → nth n w.nodes ≡ Some x → VotedIn x.base x.journal s → IsVoter hosts w s
voter_at hosts w n x s apart reached found v =
    let c : Coordinates hosts w v.superior (record { node = n; id = v.id }) = vote_coordinates hosts w apart reached n x found v.id v.superior v.seats v.stands in
    record {
      who = record { node = n; id = v.id };
      is = subst (λ it. IsItemOf hosts it (record { node = n; id = v.id })) (sym v.item) (own_item hosts w apart reached n x v.id found);
      votes = (v.superior, v.seats, (x, found, v.stands));
      superior = c.by;
      item = c.item;
      above = c.is;
      up = v.up ∙ c.names;
      under = c.under;
    }

pub voter : (hosts : Hosts) (w : World) (logs : List Log) (s : Subordinate) → Audits hosts w logs → IsIn s (subordinates logs) → IsVoter hosts w s
voter hosts w logs s a i =
    let v : VotedUnder logs s = voted_under logs s i in
    let (n, x, found, is) = a.journals v.log v.among in
    voter_at hosts w n x s a.distinct a.reached found (subst (λ (l : Log). VotedIn l.base l.records s) is v.voted)

-- the superior of an item
record Superior (subs : List Subordinate) (item up : Item) : Type 0 where
  by : Subordinate
  among : IsIn by subs
  its : by.item ≡ item
  above : by.superior ≡ Some up

superior_found : (subs : List Subordinate) (item up : Item) → superior_of subs item ≡ Some up → Superior subs item up
superior_found [] item up e = absurd cc
superior_found (s ∷ subs) item up e = by_test (is_item s.item item) refl (superior_found subs item up) e
  where
    by_test : (c : Bool) → is_item s.item item ≡ c → (superior_of subs item ≡ Some up → Superior subs item up) → (if c then s.superior else superior_of subs item) ≡ Some up
        → Superior (s ∷ subs) item up
    by_test true f rest g = record { by = s; among = inl refl; its = same_item s.item item f; above = g }
    by_test false f rest g = let k : Superior subs item up = rest g in record { by = k.by; among = inr k.among; its = k.its; above = k.above }

pub record IsAbove (hosts : Hosts) (w : World) (x : Who) (up : Item) : Type 0 where
  pub votes : VotesUp w x
  pub superior : Who
  pub is : IsItemOf hosts up superior
  pub under : IsUnder w superior x

one_above : (a b : Item) (o : Option Item) → o ≡ Some a → o ≡ Some b → a ≡ b
one_above a b o e f = let g : Some a ≡ Some b = sym e ∙ f in cc

pub above : (hosts : Hosts) (w : World) (logs : List Log) (item up : Item) (x : Who) → Audits hosts w logs → IsItemOf hosts item x → superior_of (subordinates logs) item ≡ Some up → IsAbove hosts w x up
above hosts w logs item up x a h e =
    let s : Superior (subordinates logs) item up = superior_found (subordinates logs) item up e in
    let v : IsVoter hosts w s.by = voter hosts w logs s.by a s.among in
    let same : v.who ≡ x = who_is hosts a.distinct item v.who x (subst (λ it. IsItemOf hosts it v.who) s.its v.is) h in
    record {
      votes = subst (VotesUp w) same v.votes;
      superior = v.superior;
      is = subst (λ it. IsItemOf hosts it v.superior) (one_above v.item up s.by.superior v.up s.above) v.above;
      under = subst (IsUnder w v.superior) same v.under;
    }

-- no superiors come back to an item
record Rises (w : World) (g : AreRanked w) (x y : Who) : Type 0 where
  votes : VotesUp w y
  less : g.rank y < g.rank x

comes_up : (hosts : Hosts) (w : World) (logs : List Log) → Audits hosts w logs → (g : AreRanked w) (n : ℕ) (item from : Item) (x y : Who) → IsItemOf hosts item x → VotesUp w x → IsItemOf hosts from y
    → comes_to (subordinates logs) n item from ≡ true → Rises w g x y
comes_up hosts w logs a g zero item from x y h xv k e = absurd cc
comes_up hosts w logs a g (suc n) item from x y h xv k e = by_up (λ up t i. comes_up hosts w logs a g n item up x t h xv i) (superior_of (subordinates logs) from) refl e
  where
    by_up : ((up : Item) (t : Who) → IsItemOf hosts up t → comes_to (subordinates logs) n item up ≡ true → Rises w g x t) → (o : Option Item) → superior_of (subordinates logs) from ≡ o → is_some_and (λ up. is_item up item || comes_to (subordinates logs) n item up) o ≡ true → Rises w g x y
    by_up later None f c = absurd cc
    by_up later (Some up) f c = by_test (later up) (is_item up item) refl c
      where
        i : IsAbove hosts w y up
        i = above hosts w logs from up y a k f

        by_test : ((t : Who) → IsItemOf hosts up t → comes_to (subordinates logs) n item up ≡ true → Rises w g x t) → (b : Bool) → is_item up item ≡ b
            → (b || comes_to (subordinates logs) n item up) ≡ true → Rises w g x y
        by_test go true f c =
            let same : i.superior ≡ x = who_is hosts a.distinct item i.superior x (subst (λ it. IsItemOf hosts it i.superior) (same_item up item f) i.is) h in
            record { votes = i.votes; less = g.rises x y xv i.votes (subst (λ t. IsUnder w t y) same i.under) }
        by_test go false f c =
            let r : Rises w g x i.superior = go i.superior i.is c in
            let step : g.rank y < g.rank i.superior = g.rises i.superior y r.votes i.votes i.under in
            record { votes = i.votes; less = omega (arith, step, r.less) }

pub never_back : (hosts : Hosts) (w : World) (logs : List Log) → Audits hosts w logs → AreRanked w → (s : Subordinate) → IsIn s (subordinates logs) → (n : ℕ)
    → comes_to (subordinates logs) n s.item s.item ≡ true → ⊥
never_back hosts w logs a g s i n e =
    let v : IsVoter hosts w s = voter hosts w logs s a i in
    let r : Rises w g v.who v.who = comes_up hosts w logs a g n s.item s.item v.who v.who v.is v.votes v.is e in
    omega (arith, r.less)

-- the way up leads to a root
pub record HasTop (hosts : Hosts) (w : World) (x : Who) (top : Item) : Type 0 where
  pub root : Who
  pub is : IsItemOf hosts top root
  pub of : IsOf w x root

of_above : (w : World) (x root t : Who) → IsOf w x root → IsUnder w t root → IsOf w x t
of_above w x root t (itself e) (number, i) = below t number (subst (λ y. IsIn (record { transaction = t; seat = Some (record { number = number; kind = kinds.Durable }); participant = Some y }) w.accepted) (sym e) i) (itself refl)
of_above w x root t (below s number i of) u = below s number i (of_above w s root t of u)

pub climbs : (hosts : Hosts) (w : World) (logs : List Log) → Audits hosts w logs → (n : ℕ) (item : Item) (x y : Who) → IsItemOf hosts item y → IsOf w x y → HasTop hosts w x (climb (subordinates logs) n item)
climbs hosts w logs a zero item x y h of = record { root = y; is = h; of = of }
climbs hosts w logs a (suc n) item x y h of = by_up (λ it t i f. climbs hosts w logs a n it x t i f) (superior_of (subordinates logs) item) refl
  where
    by_up : ((it : Item) (t : Who) → IsItemOf hosts it t → IsOf w x t → HasTop hosts w x (climb (subordinates logs) n it)) → (o : Option Item) → superior_of (subordinates logs) item ≡ o → HasTop hosts w x (climb (subordinates logs) n (unwrap_or o item))
    by_up go None e = go item y h of
    by_up go (Some up) e =
        let i : IsAbove hosts w y up = above hosts w logs item up y a h e in
        go up i.superior i.is (of_above w x y i.superior of i.under)
