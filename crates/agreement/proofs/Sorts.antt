-- In every run each id names an item of one sort.
use Rattle.std.specs.Prelude.{ℕ, List, [], ◌∷◌, ◌++◌, Option, Some, None, Bool, true, false, nat_eq, ◌+◌, if◌then◌else◌, filter, map, ◌≡◌, ◌≤◌, ◌-◌, is_none, length, zero, suc, refl}
use Rattle.std.specs.List.{list_any, AllByRecursion}
use Rattle.std.proofs.Common.{arith, inl, inr, sym, subst, ap, ◌∙◌}
use Rattle.std.proofs.lemmas.Bool.{eqb-true, eq-eqb, ne_eqb}
use Rattle.at_base.specs.Numbers.{Numbers}
use Rattle.at_base.specs.declared.epr.Epr.{Epr}
use Rattle.at_base.specs.declared.record.Seated.{Seated}
use Rattle.at_base.specs.declared.record.Record.{Record}
use Rattle.at_base.specs.declared.record.Record.TheVariants as records
use Rattle.at_base.specs.declared.event.Event.{Event}
use Rattle.at_base.specs.IdText.{IsId}
use Rattle.at_base.specs.declared.outs.Post.{Post}
use Rattle.at_base.specs.declared.notice.Kind.{Kind}
use Rattle.at_base.specs.declared.notice.Kind.TheVariants as kinds
use Rattle.at_base.specs.declared.target.Seat.{Seat}
use Rattle.at_base.specs.declared.message.Message.TheVariants as messages
use Rattle.at_base.specs.declared.message.Register.{Register}
use Rattle.at_base.specs.declared.event.Arrived.{Arrived}
use Rattle.at_base.specs.declared.event.Event.TheVariants as events
use Rattle.endpoints.specs.Addresses.{endpoint_of, protocol_of}
use Rattle.at_model.specs.Register.{protocol_named}
use Rattle.model_laws.specs.Agreement.{IsIn}
use Rattle.model_laws.proofs.EventLaws.{step_gives}
use Rattle.model_laws.proofs.Addresses.{HaveBases}
use Rattle.agreement.specs.Places.{HasPath}
use Rattle.agreement.proofs.Places.{addresses_lead_home}
use Rattle.at_base.specs.declared.target.Target.{Target}
use Rattle.at_base.specs.declared.target.Target.TheVariants as targets
use Rattle.at_model.specs.Arrivals.{request_of}
use Rattle.model_laws.proofs.Registrations.{WorldGood, IsKnown, IsUp, world_good}
use Rattle.at_base.specs.declared.outs.Out.{Out}
use Rattle.at_base.specs.declared.outs.Ending.TheVariants as endings
use Rattle.at_base.specs.declared.outs.Effect.{Effect}
use Rattle.at_base.specs.declared.outs.Effect.TheVariants as effects
use Rattle.at_model.specs.Book.{Book, Transaction, Superior, Request, transaction_id, leaf_id, activity_id, next_id}
use Rattle.at_model.specs.Recovery.{last_incarnation, live, is_sub_committed, recover, recovered_voted, transactions_of, leaves_of}
use Rattle.at_model.specs.Step.{Plan, plain, still, at_time, make_transaction, make_leaf, branch, plan, step}
use Rattle.at_model.specs.World.{Node, Happened, Posted, Accepted, Who, World, new_nodes, place_of, who_at, who_of, accepted_in, nth, put_nth, put_book, new_node, opening, happened_at, is_lost_root, is_lost_subordinate, is_lost_leaf, transaction_lost, leaf_lost, lost_in, goes_down, started, up_after, run_of, Hosts, HaveOwnAddresses, IsNumber}
use Rattle.model_laws.specs.DrawnIds.{restarted, with_entry}
use Rattle.model_laws.specs.Laws.{IsDrawn}
use Rattle.model_laws.specs.ReachedWorlds.{Heard, counts, Reached}
use Rattle.model_laws.proofs.DecisionLaws.{IfThere, all_find, all_filter, all_join, all_more}
use Rattle.model_laws.proofs.WorldInvariants.{Law, OutFine, holds}
use Rattle.model_laws.proofs.DrawnIds.{drawn_on, all_in_order, all_live}
use Rattle.model_laws.proofs.Nodes.{each_put, who_same}
use Rattle.model_laws.proofs.PhaseAnswers.{decides_behind_every_answer}
use Rattle.model_laws.proofs.ReachedWorlds.{NodeLaw, nodes_hold, run_reached}
use Rattle.model_laws.proofs.NodeLives.{opening_node}
use Rattle.model_laws.proofs.StepShapes.{steps_keep_place}
use Rattle.agreement.specs.FinishedTransactions.{NamesRising}
use Rattle.agreement.specs.Registers.{HasDrawn, IsOwnRegister, RegistersFor, Whose, IsWhose}
use Rattle.agreement.specs.Sorts.{Sort, Unmade, Root, Subordinate, LeafOf, Begun, sort_under, FitsBook, FitsRecord, FitsEffect, FitsIfUp, FitsNode, FitsTarget, FitsParticipant, FitsAccepted, IsParticipant, IsTransaction, AreSorted, SortsAgree}
use Rattle.agreement.proofs.ActivityStates.{activity_states}
use Rattle.agreement.proofs.FinishedTransactions.{finishes_all}
use Rattle.agreement.proofs.LeafStates.{leaf_states}
use Rattle.agreement.proofs.Registers.{Knows, Draws, IsKept, knows, next_small, of_records, drawn_down, drawn_up, outs_on, step_says, whose_more}
use Rattle.agreement.proofs.RegisterPosts.{OutsWhose}
use Rattle.agreement.proofs.NewSeats.{same_arrival, no_due, no_local, NewSeat, SeatFor, step_accepts, decoded_says}
use Rattle.agreement.proofs.StepSorts.{either_sort, Keeps, Stands, Grown, record_on, ending_fits, step_sorts}

-- items stand as in every run
record StandNode (rs : List Record) (o : Option Book) : Type 0 where
  names : AllByRecursion NamesRising rs
  book : IfThere Stands o

entry_all : (P : Record → Type 0) (entry : Option Record) (landed : Bool) (rs : List Record) → IfThere P entry → AllByRecursion P rs → AllByRecursion P (with_entry entry landed rs)
entry_all P None landed rs h k = k
entry_all P (Some r) true rs h k = all_join P rs (r ∷ []) k (h, tt)
entry_all P (Some r) false rs h k = k

entry_there : (P : Record → Type 0) (entry : Option Record) → ((r : Record) → entry ≡ Some r → P r) → IfThere P entry
entry_there P None f = tt
entry_there P (Some r) f = f r refl

standing_law : NodeLaw
standing_law = record {
  Good = StandNode;
  opens = record { names = tt; book = tt };
  steps = λ rs b e now landed h. record {
    names = entry_all NamesRising (plan b e now).entry landed rs (entry_there NamesRising (plan b e now).entry (λ r k. finishes_all.entry b e now r h.book.finished k)) h.names;
    book = record {
      phases = decides_behind_every_answer.book b e now landed h.book.phases;
      finished = finishes_all.book b e now landed h.book.phases h.book.finished;
      leaves = leaf_states.book b e now landed h.book.leaves;
      activities = activity_states.book b e now landed h.book.activities;
    };
  };
  falls = λ rs b h. record { names = h.names; book = tt };
  rises = λ base rs small h.
      let names : AllByRecursion NamesRising (restarted rs) = all_join NamesRising rs _ h.names (tt, tt) in
      record {
        names = names;
        book = record {
          phases = decides_behind_every_answer.recovered base (restarted rs);
          finished = finishes_all.recovered base (restarted rs) names;
          leaves = leaf_states.recovered base (restarted rs);
          activities = activity_states.recovered base (restarted rs);
        };
      };
}

node_stands : (hosts : Hosts) (w : World) → Reached hosts w → (n : ℕ) (x : Node) → nth n w.nodes ≡ Some x → StandNode x.journal x.book
unfolding standing_law
node_stands hosts w reached n x found = nodes_hold standing_law hosts w reached n x found

-- what is recovered
voted_fits : (s : Numbers → Sort) (id : Numbers) (superior : Epr) (seats : List Seated) (committed : Bool) → s id ≡ Subordinate
    → s (recovered_voted id superior seats committed).id ≡ sort_under (recovered_voted id superior seats committed).superior
voted_fits s id superior seats true h = h
voted_fits s id superior seats false h = h

transactions_fit : (s : Numbers → Sort) (base : List ℕ) (rs : List Record) → AllByRecursion (FitsRecord s) rs → AllByRecursion (λ t. s t.id ≡ sort_under t.superior) (transactions_of base rs)
transactions_fit s base [] h = tt
transactions_fit s base (records.Voted id superior seats ∷ rest) (h, k) = (voted_fits s id superior seats (list_any (is_sub_committed id) rest) h, transactions_fit s base rest k)
transactions_fit s base (records.Decided id seats ∷ rest) (h, k) = (h, transactions_fit s base rest k)
transactions_fit s base (records.Start i ∷ rest) (h, k) = transactions_fit s base rest k
transactions_fit s base (records.LeafPrepared id c key value ∷ rest) (h, k) = transactions_fit s base rest k
transactions_fit s base (records.LeafCommitted id ∷ rest) (h, k) = transactions_fit s base rest k
transactions_fit s base (records.LeafAborted id ∷ rest) (h, k) = transactions_fit s base rest k
transactions_fit s base (records.SubCommitted id ∷ rest) (h, k) = transactions_fit s base rest k
transactions_fit s base (records.Ended id ∷ rest) (h, k) = transactions_fit s base rest k
transactions_fit s base (records.Done id ∷ rest) (h, k) = transactions_fit s base rest k

leaves_fit : (s : Numbers → Sort) (rs : List Record) → AllByRecursion (FitsRecord s) rs → AllByRecursion (λ l. s l.id ≡ LeafOf l.kind) (leaves_of rs)
leaves_fit s [] h = tt
leaves_fit s (records.LeafPrepared id c key value ∷ rest) (h, k) = (h, leaves_fit s rest k)
leaves_fit s (records.Voted id superior seats ∷ rest) (h, k) = leaves_fit s rest k
leaves_fit s (records.Decided id seats ∷ rest) (h, k) = leaves_fit s rest k
leaves_fit s (records.Start i ∷ rest) (h, k) = leaves_fit s rest k
leaves_fit s (records.LeafCommitted id ∷ rest) (h, k) = leaves_fit s rest k
leaves_fit s (records.LeafAborted id ∷ rest) (h, k) = leaves_fit s rest k
leaves_fit s (records.SubCommitted id ∷ rest) (h, k) = leaves_fit s rest k
leaves_fit s (records.Ended id ∷ rest) (h, k) = leaves_fit s rest k
leaves_fit s (records.Done id ∷ rest) (h, k) = leaves_fit s rest k

recovered_fits : (s : Numbers → Sort) (base : List ℕ) (rs : List Record) → AllByRecursion (FitsRecord s) rs → FitsBook s (recover base rs)
recovered_fits s base rs h = record {
  transactions = all_in_order (λ t. s t.id ≡ sort_under t.superior) transaction_id (transactions_of base (live rs)) (transactions_fit s base (live rs) alive);
  leaves = all_in_order (λ l. s l.id ≡ LeafOf l.kind) leaf_id (leaves_of (live rs)) (leaves_fit s (live rs) alive);
  activities = tt;
}
  where
    alive : AllByRecursion (FitsRecord s) (live rs)
    alive = all_live (FitsRecord s) rs (λ id superior seats i. i) h

-- the sorts of one node
abbrev Sorts : Type 0
Sorts = ℕ → Numbers → Sort

abbrev put : Sorts → ℕ → (Numbers → Sort) → Sorts
put sorts n s m = if nat_eq m n then s else sorts m

put_here : (sorts : Sorts) (n : ℕ) (s : Numbers → Sort) → put sorts n s n ≡ s
put_here sorts n s = ap (λ b. if b then s else sorts n) (eq-eqb n n refl)

put_there : (sorts : Sorts) (n m : ℕ) (s : Numbers → Sort) → (m ≡ n → ⊥) → put sorts n s m ≡ sorts m
put_there sorts n m s h = ap (λ b. if b then s else sorts m) (ne_eqb m n h)

put_keeps : (sorts : Sorts) (n : ℕ) (s : Numbers → Sort) → Keeps (sorts n) s → (m : ℕ) → Keeps (sorts m) (put sorts n s m)
put_keeps sorts n s k m = by_number (nat_eq m n) refl
  where
    by_number : (c : Bool) → nat_eq m n ≡ c → Keeps (sorts m) (if c then s else sorts m)
    by_number true c = subst (λ i. Keeps (sorts i) s) (sym (eqb-true m n c)) k
    by_number false c = λ K made id e. e

effect_on : (s t : Numbers → Sort) → Keeps s t → (e : Effect) → FitsEffect s e → FitsEffect t e
effect_on s t k (effects.Root id what) h = k Root tt id h
effect_on s t k (effects.Sub id what) h = k Subordinate tt id h
effect_on s t k (effects.Leaf id kind what) h = k (LeafOf kind) tt id h
effect_on s t k (effects.Told id what) h = k Begun tt id h

abbrev FitsHappened : Sorts → Happened → Type 0
FitsHappened sorts h = FitsEffect (sorts h.node) h.what

happened_fit : (sorts : Sorts) (n : ℕ) (es : List Effect) → AllByRecursion (FitsEffect (sorts n)) es → AllByRecursion (FitsHappened sorts) (map (happened_at n) es)
happened_fit sorts n [] h = tt
happened_fit sorts n (e ∷ es) (h, k) = (h, happened_fit sorts n es k)

-- Registers
own_on : (s t : Numbers → Sort) → Keeps s t → (T : Target) → FitsTarget s T → FitsTarget t T
own_on s t k targets.Activation h = tt
own_on s t k targets.Work h = tt
own_on s t k (targets.Registration id) h = tt
own_on s t k (targets.Completion id) h = tt
own_on s t k (targets.Coordinator id seat) h = tt
own_on s t k (targets.Participant id kind) (inl h) = inl (k Subordinate tt id h)
own_on s t k (targets.Participant id kind) (inr h) = inr (k (LeafOf kind) tt id h)
own_on s t k (targets.Initiator id) h = k Begun tt id h

abbrev Fitting : Hosts → (Numbers → Sort) → ℕ → Target → Numbers → Type 0
Fitting hosts s n own id = FitsTarget s own × (IsId id × IsNumber hosts n)

abbrev FitsPosted : Hosts → Sorts → Posted → Type 0
FitsPosted hosts sorts p = IsWhose (Fitting hosts (sorts p.sender) p.sender) (hosts.base_of p.sender) p.content

all_last : {A : Type 0} (P : A → Type 0) (xs : List A) (x : A) → AllByRecursion P (xs ++ x ∷ []) → P x
all_last P [] x h = h.0
all_last P (y ∷ xs) x h = all_last P xs x h.1

asks_under : (o : Option Superior) (r : Request) → request_of o ≡ Some r → sort_under o ≡ Subordinate
asks_under None r e = absurd cc
asks_under (Some x) r e = refl

under_none : (o : Option Superior) → is_none o ≡ false → sort_under o ≡ Subordinate
under_none None e = absurd cc
under_none (Some x) e = refl

fits_known : (hosts : Hosts) (s t : Numbers → Sort) (n : ℕ) (b : Book) → IsNumber hosts n → Knows (IsKept b) b → Keeps s t → FitsBook s b → Knows (Fitting hosts t n) b
fits_known hosts s t n b small kept k h = record {
  transactions = λ id x r found asks kind. (
    inl (k Subordinate tt x.id (all_find (λ y. s y.id ≡ sort_under y.superior) transaction_id id b.transactions x h.transactions found ∙ asks_under x.superior r asks)),
    ((kept.transactions id x r found asks kind).0, small),
  );
  leaves = λ id l r found asks. (
    inr (k (LeafOf l.kind) tt l.id (all_find (λ y. s y.id ≡ LeafOf y.kind) leaf_id id b.leaves l h.leaves found)),
    ((kept.leaves id l r found asks).0, small),
  );
  activities = λ id a found. (k Begun tt a.id (all_find (λ y. s y.id ≡ Begun) activity_id id b.activities a h.activities found), ((kept.activities id a found).0, small));
}

fits_drawn : (hosts : Hosts) (t : Numbers → Sort) (n : ℕ) (b : Book) (now : ℕ) (p : Plan) (landed : Bool) → IsNumber hosts n → ((id : Numbers) → next_id b ≡ Some id → IsId id) → FitsBook t (branch p landed).book
    → Draws (Fitting hosts t n) b now p
fits_drawn hosts t n b now p landed small named h = record {
  transaction = λ x os is next superior kind. (
    inl (all_last (λ y. t y.id ≡ sort_under y.superior) b.transactions x (behind (make_transaction (at_time now b) x) os is).transactions ∙ under_none x.superior superior),
    (named x.id next, small),
  );
  leaf = λ l os is next. (inr (all_last (λ y. t y.id ≡ LeafOf y.kind) b.leaves l (behind (make_leaf (at_time now b) l) os is).leaves), (named l.id next, small));
}
  where
    either : (c : Book) (os : List Out) (l : Bool) → FitsBook t (branch (plain (still c os)) l).book → FitsBook t c
    either c os true k = k
    either c os false k = k

    behind : (c : Book) (os : List Out) → p ≡ plain (still c os) → FitsBook t c
    behind c os is = either c os landed (subst (λ (q : Plan). FitsBook t (branch q landed).book) is h)

posted_on : (hosts : Hosts) (old new : Sorts) → ((m : ℕ) → Keeps (old m) (new m)) → (ps : List Posted) → AllByRecursion (FitsPosted hosts old) ps → AllByRecursion (FitsPosted hosts new) ps
posted_on hosts old new k ps h =
    all_more (FitsPosted hosts old) (FitsPosted hosts new) ps
    (λ p i. whose_more (Fitting hosts (old p.sender) p.sender) (Fitting hosts (new p.sender) p.sender) (hosts.base_of p.sender) p.content p.content.message (λ own id j. (own_on (old p.sender) (new p.sender) (k p.sender) own j.0, j.1)) i) h

-- numbers of nodes
at_most : (n : ℕ) (xs : List Node) (x : Node) → nth n xs ≡ Some x → (1 ≤ n) × (n ≤ length xs)
at_most n [] x e = absurd cc
at_most n (y ∷ xs) x e = by_number (λ f. at_most (n - 1) xs x f) (nat_eq n 1) refl e
  where
    by_number : (nth (n - 1) xs ≡ Some x → (1 ≤ n - 1) × (n - 1 ≤ length xs)) → (c : Bool) → nat_eq n 1 ≡ c → (if c then Some y else nth (n - 1) xs) ≡ Some x → (1 ≤ n) × (n ≤ length (y ∷ xs))
    by_number rest true c e = let one : n ≡ 1 = eqb-true n 1 c in (omega (arith, one), omega (arith, one))
    by_number rest false c e = let (least, most) = rest e in (omega (arith, least), omega (arith, least, most))

as_long : (xs ys : List Node) → HaveBases xs ys → length xs ≡ length ys
as_long [] [] h = refl
as_long [] (y ∷ ys) h = absurd h
as_long (x ∷ xs) [] h = absurd h
as_long (x ∷ xs) (y ∷ ys) (e, h) = ap suc (as_long xs ys h)

pub new_length : (base_of : ℕ → List ℕ) (k m : ℕ) → length (new_nodes base_of k m) ≡ k
new_length base_of zero m = refl
new_length base_of (suc k) m = ap suc (new_length base_of k (m + 1))

pub is_number : (hosts : Hosts) (n : ℕ) (xs : List Node) (x : Node) → HaveBases xs (new_nodes hosts.base_of hosts.count 1) → nth n xs ≡ Some x → IsNumber hosts n
is_number hosts n xs x bases found =
    let (least, most) = at_most n xs x found in (least, omega (arith, most, as_long xs (new_nodes hosts.base_of hosts.count 1) bases, new_length hosts.base_of hosts.count 1))

-- registrations
accepted_on : (old new : Sorts) → ((m : ℕ) → Keeps (old m) (new m)) → (acc : Accepted) → FitsAccepted old acc → FitsAccepted new acc
accepted_on old new k acc (h, i) = (transaction_on h, participant_on acc.participant acc.seat i)
  where
    transaction_on : IsTransaction (old acc.transaction.node acc.transaction.id) → IsTransaction (new acc.transaction.node acc.transaction.id)
    transaction_on (inl e) = inl (k acc.transaction.node Root tt acc.transaction.id e)
    transaction_on (inr e) = inr (k acc.transaction.node Subordinate tt acc.transaction.id e)

    participant_on : (o : Option Who) (seat : Option Seat) → FitsParticipant old o seat → FitsParticipant new o seat
    participant_on None seat i = tt
    participant_on (Some x) None i = k x.node Begun tt x.id i
    participant_on (Some x) (Some s) (inl e) = inl (k x.node Subordinate tt x.id e)
    participant_on (Some x) (Some s) (inr e) = inr (k x.node (LeafOf s.kind) tt x.id e)

protocol_back : (kind : Kind) → protocol_named (protocol_of kind) ≡ Some (Some kind)
protocol_back kinds.Volatile = refl
protocol_back kinds.Durable = refl

has_path : (own : Target) (id : Numbers) (protocol : List ℕ) → RegistersFor own id protocol → IsId id → HasPath own
has_path (targets.Participant i kind) id protocol h k = subst IsId (sym h.0) k
has_path (targets.Initiator i) id protocol h k = subst IsId (sym h.0) k
has_path targets.Activation id protocol h k = absurd h
has_path targets.Work id protocol h k = absurd h
has_path (targets.Registration i) id protocol h k = absurd h
has_path (targets.Completion i) id protocol h k = absurd h
has_path (targets.Coordinator i s) id protocol h k = absurd h

own_fits : (sorts : Sorts) (m : ℕ) (own : Target) (id : Numbers) (protocol : List ℕ) (seat : Option Seat) → RegistersFor own id protocol → FitsTarget (sorts m) own → SeatFor (protocol_named protocol) seat
    → FitsParticipant sorts (who_at (Some (m, own))) seat
own_fits sorts m (targets.Participant i kind) id protocol None h k f = absurd (subst (λ o. SeatFor o None) (ap protocol_named h.1 ∙ protocol_back kind) f)
own_fits sorts m (targets.Participant i kind) id protocol (Some s) h k f =
    subst (λ (d : Kind). IsParticipant d (sorts m i)) (sym (subst (λ o. SeatFor o (Some s)) (ap protocol_named h.1 ∙ protocol_back kind) f)) k
own_fits sorts m (targets.Initiator i) id protocol None h k f = k
own_fits sorts m (targets.Initiator i) id protocol (Some s) h k f = absurd (subst (λ o. SeatFor o (Some s)) (ap protocol_named h.1) f)
own_fits sorts m targets.Activation id protocol seat h k f = absurd h
own_fits sorts m targets.Work id protocol seat h k f = absurd h
own_fits sorts m (targets.Registration i) id protocol seat h k f = absurd h
own_fits sorts m (targets.Completion i) id protocol seat h k f = absurd h
own_fits sorts m (targets.Coordinator i s) id protocol seat h k f = absurd h

placed_fits : (hosts : Hosts) (sorts : Sorts) (m : ℕ) (p : Post) (r : Register) (seat : Option Seat) → HaveOwnAddresses hosts → IsOwnRegister (Fitting hosts (sorts m) m) (hosts.base_of m) p r → SeatFor (protocol_named r.protocol) seat
    → FitsParticipant sorts (who_of (new_nodes hosts.base_of hosts.count 1) r.participant) seat
placed_fits hosts sorts m p r seat distinct o f =
    subst (λ (e : Epr). FitsParticipant sorts (who_of (new_nodes hosts.base_of hosts.count 1) e) seat) (sym o.participant)
    (by_place (place_of 1 (new_nodes hosts.base_of hosts.count 1) (endpoint_of (hosts.base_of m) o.own).address) refl)
  where
    by_place : (q : Option (ℕ × Target)) → place_of 1 (new_nodes hosts.base_of hosts.count 1) (endpoint_of (hosts.base_of m) o.own).address ≡ q → FitsParticipant sorts (who_at q) seat
    by_place None e = tt
    by_place (Some (j, S)) e =
        let (same, target) = addresses_lead_home hosts m j o.own S distinct o.known.1.1 (has_path o.own o.id r.protocol o.registers o.known.1.0) e in
        subst (λ i. FitsParticipant sorts (who_at (Some (i, S))) seat) (sym same)
        (subst (λ T. FitsParticipant sorts (who_at (Some (m, T))) seat) (sym target) (own_fits sorts m o.own o.id r.protocol seat o.registers o.known.0 f))

-- the Register that came was posted
abbrev CameFrom : Hosts → Sorts → Event → Type 0
CameFrom hosts sorts e =
    (a : Arrived) (r : Register) → e ≡ events.Arrived a → a.message ≡ messages.Register r → (p : Posted) × IsOwnRegister (Fitting hosts (sorts p.sender) p.sender) (hosts.base_of p.sender) p.content r

one_posted : (hosts : Hosts) (sorts : Sorts) (ps : List Posted) (p : Posted) → AllByRecursion (FitsPosted hosts sorts) ps → IsIn p ps → FitsPosted hosts sorts p
one_posted hosts sorts [] p h i = absurd i
one_posted hosts sorts (q ∷ ps) p (h, k) (inl e) = subst (FitsPosted hosts sorts) (sym e) h
one_posted hosts sorts (q ∷ ps) p (h, k) (inr i) = one_posted hosts sorts ps p k i

came_from : (hosts : Hosts) (u : World) (n : ℕ) (x : Node) (e : Event) (g : AreSorted hosts u) → Heard u n x e → CameFrom hosts g.sort e
came_from hosts u n x (events.Arrived a) g (p, posted, received, decodes) c r came says = (
  p,
  subst (Whose (Fitting hosts (g.sort p.sender) p.sender) (hosts.base_of p.sender) p.content) (sym (decoded_says x.base p.content a decodes) ∙ ap (λ (y : Arrived). y.message) (same_arrival a c (events.Arrived a) refl came) ∙ says)
      (one_posted hosts g.sort u.posted p g.posted posted),
)
came_from hosts u n x (events.Local l) g h c r came says = absurd (no_local (events.Local l) l c refl came)
came_from hosts u n x (events.Due i) g h c r came says = absurd (no_due (events.Due i) i c refl came)
came_from hosts u n x events.Tick g h c r came says = absurd cc

seat_fits : (hosts : Hosts) (sorts : Sorts) (n : ℕ) (b : Book) (e : Event) (nodes : List Node) (acc : Accepted) → HaveOwnAddresses hosts → HaveBases nodes (new_nodes hosts.base_of hosts.count 1) → FitsBook (sorts n) b → CameFrom hosts sorts e
    → NewSeat b e n nodes acc → FitsAccepted sorts acc
seat_fits hosts sorts n b e nodes acc distinct bases book from new =
    let (p, o) = from new.arrived new.register new.came new.says in (
      subst (λ (w : Who). IsTransaction (sorts w.node w.id)) (sym new.transaction)
          (either_sort (sorts n new.standing.id) new.standing.superior (all_find (λ y. sorts n y.id ≡ sort_under y.superior) transaction_id new.id b.transactions new.standing book.transactions new.found)),
      subst (λ w. FitsParticipant sorts w acc.seat) (sym (new.participant ∙ who_same nodes (new_nodes hosts.base_of hosts.count 1) new.register.participant bases))
          (placed_fits hosts sorts p.sender p.content new.register acc.seat distinct o new.seat),
    )

-- a step
stands_now : (o : Option Book) (b : Book) → o ≡ Some b → IfThere Stands o → Stands b
stands_now o b up h = subst (IfThere Stands) up h

steps_sorted : (hosts : Hosts) (u : World) (n : ℕ) (x : Node) (b : Book) (e : Event) (now : ℕ) (landed : Bool) → HaveOwnAddresses hosts → Reached hosts u → nth n u.nodes ≡ Some x → x.book ≡ Some b
    → Heard u n x e → AreSorted hosts u → (v : AreSorted hosts (counts u n x b e now landed)) × AllByRecursion (OutFine (IsWhose (Fitting hosts (v.sort n) n) (hosts.base_of n))) (step b e now landed).outs
steps_sorted hosts u n x b e now landed distinct reached found up heard g =
    let fits : FitsNode (g.sort n) x = g.nodes n x found in
    let undrawn : (id : Numbers) → (IsDrawn b id → ⊥) → g.sort n id ≡ Unmade = (λ id f. fits.undrawn id (λ d. f (subst (λ o. HasDrawn x.journal o id) up d))) in
    let r : Grown (g.sort n) (plan b e now) landed =
    step_sorts (g.sort n) b e now landed (stands_now x.book b up (node_stands hosts u reached n x found).book) (subst (FitsIfUp (g.sort n)) up fits.book) undrawn in
    let new : Sorts = put g.sort n r.after in
    let here : FitsNode r.after z =
    record {
      journal = entry_all (FitsRecord r.after) (plan b e now).entry landed x.journal r.entry
          (all_more (FitsRecord (g.sort n)) (FitsRecord r.after) x.journal (record_on (g.sort n) r.after r.keeps) fits.journal);
      book = r.book;
      undrawn = λ id f. r.undrawn id (undrawn id (λ d. f (drawn_on b (step b e now landed).book (steps_keep_place b e now landed) id d))) f;
    } in
    let w : WorldGood hosts u = world_good hosts u distinct reached in
    let known : IsUp (hosts.base_of n) (w.choices n) x.journal b = subst (IsKnown (hosts.base_of n) (w.choices n) x.journal) up (w.nodes n x found) in
    let book : FitsBook (g.sort n) b = subst (FitsIfUp (g.sort n)) up fits.book in
    let low : IsNumber hosts n = is_number hosts n u.nodes x w.world.bases found in (
      record {
        sort = new;
        accepted = all_join (FitsAccepted new) u.accepted (accepted_in n u.nodes b (step b e now landed).book.transactions)
            (all_more (FitsAccepted g.sort) (FitsAccepted new) u.accepted (λ acc k. accepted_on g.sort new (put_keeps g.sort n r.after r.keeps) acc k) g.accepted)
            (all_more (NewSeat b e n u.nodes) (FitsAccepted new) (accepted_in n u.nodes b (step b e now landed).book.transactions)
            (λ acc k. accepted_on g.sort new (put_keeps g.sort n r.after r.keeps) acc (seat_fits hosts g.sort n b e u.nodes acc distinct w.world.bases book (came_from hosts u n x e g heard) k))
            (step_accepts b e now landed n u.nodes known.says.order ((step_gives (hosts.base_of n) (w.choices n) b e now landed known.says).accepted n u.nodes)));
        posted = posted_on hosts g.sort new (put_keeps g.sort n r.after r.keeps) u.posted g.posted;
        nodes = each_put (λ k y. FitsNode (new k) y) u.nodes n x z found (subst (λ s. FitsNode s z) (sym (put_here g.sort n r.after)) here)
            (λ m y i f. subst (λ s. FitsNode s y) (sym (put_there g.sort n m r.after i)) (g.nodes m y f));
        happened = all_join (FitsHappened new) u.happened (map (happened_at n) (step b e now landed).effects)
            (all_more (FitsHappened g.sort) (FitsHappened new) u.happened (λ h k. effect_on (g.sort h.node) (new h.node) (put_keeps g.sort n r.after r.keeps h.node) h.what k) g.happened)
            (happened_fit new n (step b e now landed).effects (subst (λ s. AllByRecursion (FitsEffect s) (step b e now landed).effects) (sym (put_here g.sort n r.after)) r.effects));
      },
      outs_on (Fitting hosts r.after n) (Fitting hosts (new n) n) (hosts.base_of n) (step b e now landed).outs (λ own id k. (subst (λ s. FitsTarget s own) (sym (put_here g.sort n r.after)) k.0, k.1))
          (subst (λ base. OutsWhose (Fitting hosts r.after n) base (step b e now landed).outs) known.says.base_is
          (step_says (Fitting hosts r.after n) b e now landed (fits_known hosts (g.sort n) r.after n b low (knows (hosts.base_of n) (w.choices n) b known.says) r.keeps book)
          (fits_drawn hosts r.after n b now (plan b e now) landed low (λ id next. next_small b id known.says.least known.says.most next) r.book))),
    )
  where
    z : Node
    z = record x { book = Some (step b e now landed).book; journal = with_entry (plan b e now).entry landed x.journal }

-- a node is put
put_sorted : (hosts : Hosts) (u v : World) (n : ℕ) (x z : Node) → (g : AreSorted hosts u) → nth n u.nodes ≡ Some x → v.nodes ≡ put_nth n z u.nodes → FitsNode (g.sort n) z
    → AllByRecursion (FitsHappened g.sort) v.happened → v.posted ≡ u.posted → v.accepted ≡ u.accepted → AreSorted hosts v
put_sorted hosts u v n x z g found is fits happened posted accepted = record {
  sort = g.sort;
  accepted = subst (AllByRecursion (FitsAccepted g.sort)) (sym accepted) g.accepted;
  posted = subst (AllByRecursion (FitsPosted hosts g.sort)) (sym posted) g.posted;
  nodes = λ m y f. each_put (λ k i. FitsNode (g.sort k) i) u.nodes n x z found fits (λ k i differ there. g.nodes k i there) m y (ap (nth m) (sym is) ∙ f);
  happened = happened;
}

all_map : {A B : Type 0} (P : B → Type 0) (f : A → B) (xs : List A) → AllByRecursion (λ x. P (f x)) xs → AllByRecursion P (map f xs)
all_map P f [] h = tt
all_map P f (x ∷ xs) (h, k) = (h, all_map P f xs k)

lost_fit : (sorts : Sorts) (n : ℕ) (b : Book) → FitsBook (sorts n) b → AllByRecursion (FitsHappened sorts) (lost_in n b)
lost_fit sorts n b h =
    all_join (FitsHappened sorts) (map (transaction_lost n) (filter is_lost_root b.transactions)) _ (lost is_lost_root)
    (all_join (FitsHappened sorts) (map (transaction_lost n) (filter is_lost_subordinate b.transactions)) _ (lost is_lost_subordinate)
    (all_map (FitsHappened sorts) (leaf_lost n) (filter is_lost_leaf b.leaves) (all_filter (λ l. sorts n l.id ≡ LeafOf l.kind) is_lost_leaf b.leaves h.leaves)))
  where
    lost : (p : Transaction → Bool) → AllByRecursion (FitsHappened sorts) (map (transaction_lost n) (filter p b.transactions))
    lost p =
        all_map (FitsHappened sorts) (transaction_lost n) (filter p b.transactions)
        (all_filter (λ t. FitsHappened sorts (transaction_lost n t)) p b.transactions
        (all_more (λ t. sorts n t.id ≡ sort_under t.superior) (λ t. FitsHappened sorts (transaction_lost n t)) b.transactions
        (λ t k. ending_fits (sorts n) t.id t.superior endings.Lost k) h.transactions))

falls_sorted : (hosts : Hosts) (u : World) (n : ℕ) (x : Node) (b : Book) → Reached hosts u → nth n u.nodes ≡ Some x → x.book ≡ Some b → AreSorted hosts u → AreSorted hosts (goes_down n b u)
falls_sorted hosts u n x b reached found up g =
    let fits : FitsNode (g.sort n) x = g.nodes n x found in
    let is : goes_down n b u ≡ put_book n None (record u { happened = u.happened ++ lost_in n b }) (Some x) = ap (put_book n None (record u { happened = u.happened ++ lost_in n b })) found in
    put_sorted hosts u (goes_down n b u) n x (record x { book = None }) g found (ap (λ (w : World). w.nodes) is)
    (record { journal = fits.journal; book = tt; undrawn = λ id f. fits.undrawn id (λ d. f (drawn_down x.journal x.book (of_records hosts u reached n x found) id d)) })
    (subst (λ (w : World). AllByRecursion (FitsHappened g.sort) w.happened) (sym is)
    (all_join (FitsHappened g.sort) u.happened (lost_in n b) g.happened (lost_fit g.sort n b (subst (FitsIfUp (g.sort n)) up fits.book)))) (ap (λ (w : World). w.posted) is) (ap (λ (w : World). w.accepted) is)

rises_sorted : (hosts : Hosts) (u : World) (n : ℕ) (x : Node) (stop : Bool) → nth n u.nodes ≡ Some x → x.book ≡ None → AreSorted hosts u
    → AreSorted hosts (record u { nodes = put_nth n (up_after (started (last_incarnation x.journal + 1) x) stop) u.nodes })
rises_sorted hosts u n x stop found down g =
    let fits : FitsNode (g.sort n) x = g.nodes n x found in
    let journal : AllByRecursion (FitsRecord (g.sort n)) (restarted x.journal) = all_join (FitsRecord (g.sort n)) x.journal _ fits.journal (tt, tt) in
    put_sorted hosts u (record u { nodes = put_nth n (up_after (started (last_incarnation x.journal + 1) x) stop) u.nodes }) n x (up_after (started (last_incarnation x.journal + 1) x) stop) g found refl
    (record {
      journal = journal;
      book = by_stop stop journal;
      undrawn = λ id f. fits.undrawn id (λ d. f (drawn_up x.base x.journal stop id (subst (λ o. HasDrawn x.journal o id) down d)));
    }) g.happened refl refl
  where
    by_stop : (c : Bool) → AllByRecursion (FitsRecord (g.sort n)) (restarted x.journal) → FitsIfUp (g.sort n) (if c then None else Some (recover x.base (restarted x.journal)))
    by_stop true h = tt
    by_stop false h = recovered_fits (g.sort n) x.base (restarted x.journal) h

opening_sorted : (hosts : Hosts) → AreSorted hosts (opening hosts)
opening_sorted hosts = record { sort = λ n id. Unmade; nodes = λ n x f. down n x (opening_node hosts n x f); happened = tt; posted = tt; accepted = tt }
  where
    down : (n : ℕ) (x : Node) → x ≡ new_node (hosts.base_of n) → FitsNode (λ id. Unmade) x
    down n x e = subst (FitsNode (λ id. Unmade)) (sym e) (record { journal = tt; book = tt; undrawn = λ id f. refl })

sorting : (hosts : Hosts) → HaveOwnAddresses hosts → Law hosts
sorting hosts distinct = record {
  Good = AreSorted hosts;
  Fine = λ w g n p. IsWhose (Fitting hosts (g.sort n) n) (hosts.base_of n) p;
  opens = opening_sorted hosts;
  steps = λ u n x b e now landed reached found up heard g. steps_sorted hosts u n x b e now landed distinct reached found up heard g;
  posts = λ w g n p f. record { sort = g.sort; nodes = g.nodes; happened = g.happened; accepted = g.accepted; posted = all_join (FitsPosted hosts g.sort) w.posted _ g.posted (f, tt) };
  still_fine = λ w g n p q f h. h;
  falls = λ u n x b reached found up g. falls_sorted hosts u n x b reached found up g;
  rises = λ u n x stop reached found down little g. rises_sorted hosts u n x stop found down g;
  waits = λ u n x clock reached found g.
      put_sorted hosts u (record u { nodes = put_nth n (record x { clock = clock }) u.nodes }) n x (record x { clock = clock }) g found refl
      (record { journal = (g.nodes n x found).journal; book = (g.nodes n x found).book; undrawn = (g.nodes n x found).undrawn }) g.happened refl refl;
}

pub world_sorted : (hosts : Hosts) (w : World) → HaveOwnAddresses hosts → Reached hosts w → AreSorted hosts w
unfolding sorting
world_sorted hosts w distinct reached = holds hosts (sorting hosts distinct) w reached

pub sorts_agree : SortsAgree
sorts_agree hosts es small = world_sorted hosts (run_of hosts es) small (run_reached hosts es)
