-- In every run all registrations of one item are accepted by one transaction, and each is of an item that is known.
use Rattle.std.specs.Prelude.{ℕ, List, [], ◌∷◌, ◌++◌, Option, Some, None, is_some, Bool, true, false, nat_eq, nat_lt, ◌+◌, ◌-◌, if◌then◌else◌, option_map, ◌≡◌, ◌≤◌, ◌<◌, refl, zero, suc}
use Rattle.std.specs.List.{list_any, AllByRecursion}
use Rattle.std.proofs.Common.{inl, inr, sym, subst, ap, arith, ◌∙◌, eq-eqb, ne_eqb}
use Rattle.std.proofs.lemmas.Bool.{eqb-true, ltb-true, ltb-false}
use Rattle.std.proofs.lemmas.Option.{option_and_then_some}
use Rattle.at_base.specs.Numbers.{Numbers}
use Rattle.at_base.specs.IdText.{IsId}
use Rattle.at_base.specs.declared.epr.Epr.{Epr}
use Rattle.at_base.specs.declared.message.Message.TheVariants as messages
use Rattle.at_base.specs.declared.message.Register.{Register}
use Rattle.at_base.specs.declared.record.Seated.{Seated}
use Rattle.at_base.specs.declared.record.Record.{Record}
use Rattle.at_base.specs.declared.record.Record.TheVariants as records
use Rattle.at_base.specs.declared.target.Seat.{Seat}
use Rattle.at_base.specs.declared.target.Target.{Target}
use Rattle.at_base.specs.declared.target.Target.TheVariants as targets
use Rattle.at_base.specs.declared.event.Arrived.{Arrived}
use Rattle.at_base.specs.declared.event.Item.{Item}
use Rattle.at_base.specs.declared.event.Local.{Local}
use Rattle.at_base.specs.declared.event.Event.{Event}
use Rattle.at_base.specs.declared.event.Event.TheVariants as events
use Rattle.at_base.specs.declared.outs.Post.{Post}
use Rattle.at_base.specs.declared.outs.Out.{Out}
use Rattle.at_base.specs.declared.outs.Out.TheVariants as outs
use Rattle.model_laws.specs.Agreement.{IsAccepted, IsIn, HasOneSuperior}
use Rattle.at_model.specs.Book.{Book, transaction_id, leaf_id, last_counter}
use Rattle.model_laws.specs.DrawnIds.{restarted, with_entry}
use Rattle.model_laws.specs.Registrations.{IsKnownItem, EnlistsTheKnown, EnlistsUnderOne}
use Rattle.model_laws.specs.Laws.{IsDrawn}
use Rattle.model_laws.specs.ReachedWorlds.{Heard, counts, Reached}
use Rattle.model_laws.proofs.ReachedWorlds.{run_reached}
use Rattle.at_model.specs.Recovery.{recover, last_incarnation, live, is_sub_committed, transactions_of, leaves_of, recovered_voted, recovered_transactions, recovered_leaves}
use Rattle.at_model.specs.Step.{plan, step}
use Rattle.at_model.specs.World.{with_post, Node, Who, Posted, Accepted, World, nth, put_nth, new_node, new_nodes, opening, place_of, item_at, receiver_of, who_at, who_of, arrival_of, decoded_at, decoded, accepted_in, put_book, goes_down, lost_in, started, up_after, run_of, Hosts, HaveOwnAddresses}
use Rattle.endpoints.specs.Addresses.{target_at, IsWritten}
use Rattle.endpoints.specs.Forms.{takes}
use Rattle.model_laws.proofs.EventLaws.{step_gives, says_on}
use Rattle.model_laws.proofs.DecisionLaws.{all_join, all_more}
use Rattle.model_laws.proofs.StepRegistrations.{fine_more, outs_more, transaction_standing, leaf_standing, Meets, Says, Registers, OutSays, AcceptedBy, Gives, same_at}
use Rattle.model_laws.proofs.DrawnIds.{all_in_order}
use Rattle.model_laws.proofs.WorldInvariants.{Law, OutFine, holds}
use Rattle.model_laws.proofs.Addresses.{leads_home, place_is, HaveBases}
use Rattle.model_laws.proofs.Nodes.{each_put, same_bases, bases_put, receiver_same, who_same}
use Rattle.model_laws.proofs.MadeIds.{entry_rises}
use Rattle.model_laws.proofs.Order.{ids_rise}
use Rattle.model_laws.proofs.MovePosts.{Fine, IsFine, Standing, Never, At, Silent}
use Rattle.model_laws.proofs.RecoveryLaws.{incarnations_rise}
use Rattle.model_laws.proofs.NodeLives.{opening_node}
use Rattle.model_laws.proofs.StepShapes.{steps_keep_place}

-- where each item of each node registers
abbrev pub Choices : Type 0
Choices = ℕ → Numbers → Standing

-- a Register that was posted by an item, to where that item registers
record IsOurs (hosts : Hosts) (choices : Choices) (participant : Epr) (to : Option Epr) : Type 0 where
  node : ℕ
  least : 1 ≤ node
  most : node ≤ hosts.count
  registers : Registers (hosts.base_of node) (choices node) participant to
  small : IsId registers.id

abbrev pub nodes_of : Hosts → List Node
nodes_of hosts = new_nodes hosts.base_of hosts.count 1

record PostSays (hosts : Hosts) (choices : Choices) (p : Posted) : Type 0 where
  routed : p.receiver ≡ receiver_of (nodes_of hosts) p.content.to
  says : Fine (IsOurs hosts choices) p.content.to p.content.message

-- a registration that was accepted: of an item that is known, by the transaction at which it registers
record IsChosen (hosts : Hosts) (choices : Choices) (acc : Accepted) : Type 0 where
  item : Who
  participant : acc.participant ≡ Some item
  endpoint : Epr
  chosen : choices item.node item.id ≡ At endpoint
  place : place_of 1 (nodes_of hosts) endpoint.address ≡ Some (acc.transaction.node, targets.Registration acc.transaction.id)

pub record WorldSays (hosts : Hosts) (choices : Choices) (w : World) : Type 0 where
  pub bases : HaveBases w.nodes (nodes_of hosts)
  posted : AllByRecursion (PostSays hosts choices) w.posted
  accepted : AllByRecursion (IsChosen hosts choices) w.accepted

pub record IsDown (s : Numbers → Standing) (rs : List Record) : Type 0 where
  undrawn : (id : Numbers) → last_incarnation rs < id.incarnation → s id ≡ Never
  small : (id : Numbers) (e : Epr) → s id ≡ At e → IsId id

pub record IsUp (base : List ℕ) (s : Numbers → Standing) (rs : List Record) (b : Book) : Type 0 where
  pub says : Says base s b
  known : b.incarnation ≤ last_incarnation rs

abbrev pub IsKnown : List ℕ → (Numbers → Standing) → List Record → Option Book → Type 0
IsKnown base s rs None = IsDown s rs
IsKnown base s rs (Some b) = IsUp base s rs b

pub record WorldGood (hosts : Hosts) (w : World) : Type 0 where
  pub choices : Choices
  pub world : WorldSays hosts choices w
  pub nodes : (m : ℕ) (x : Node) → nth m w.nodes ≡ Some x → IsKnown (hosts.base_of m) (choices m) x.journal x.book

-- a Register that arrives was posted by its item, and this is where it registers
record ArrivalSays (hosts : Hosts) (choices : Choices) (n : ℕ) (participant : Epr) (id : Numbers) : Type 0 where
  endpoint : Epr
  ours : IsOurs hosts choices participant (Some endpoint)
  place : place_of 1 (nodes_of hosts) endpoint.address ≡ Some (n, targets.Registration id)

abbrev EventSays : Hosts → Choices → ℕ → Event → Type 0
EventSays hosts choices n e =
    (a : Arrived) (r : Register) (id : Numbers) → e ≡ events.Arrived a → a.message ≡ messages.Register r → a.target ≡ targets.Registration id
    → ArrivalSays hosts choices n r.participant id

-- more is chosen
abbrev Keeps : Choices → Choices → Type 0
Keeps old new = (m : ℕ) (id : Numbers) (e : Epr) → old m id ≡ At e → new m id ≡ At e

ours_on : (hosts : Hosts) (old new : Choices) → Keeps old new → (participant : Epr) (to : Option Epr) → IsOurs hosts old participant to → IsOurs hosts new participant to
ours_on hosts old new k participant to h = record {
  node = h.node;
  least = h.least;
  most = h.most;
  registers = record {
    id = h.registers.id;
    own = h.registers.own;
    endpoint = h.registers.endpoint;
    named = h.registers.named;
    is = h.registers.is;
    goes = h.registers.goes;
    stands = k h.node h.registers.id h.registers.endpoint h.registers.stands;
  };
  small = h.small;
}

world_on : (hosts : Hosts) (old new : Choices) (w : World) → Keeps old new → WorldSays hosts old w → WorldSays hosts new w
world_on hosts old new w k h = record {
  bases = h.bases;
  posted = all_more (PostSays hosts old) (PostSays hosts new) w.posted
      (λ p f. record { routed = f.routed; says = fine_more (IsOurs hosts old) (IsOurs hosts new) (ours_on hosts old new k) p.content.to p.content.message f.says }) h.posted;
  accepted = all_more (IsChosen hosts old) (IsChosen hosts new) w.accepted
      (λ acc f. record { item = f.item; participant = f.participant; endpoint = f.endpoint; chosen = k f.item.node f.item.id f.endpoint f.chosen; place = f.place }) h.accepted;
}

-- the choices of one node
abbrev put : Choices → ℕ → (Numbers → Standing) → Choices
put choices n s m = if nat_eq m n then s else choices m

put_here : (choices : Choices) (n : ℕ) (s : Numbers → Standing) → put choices n s n ≡ s
put_here choices n s = ap (λ b. if b then s else choices n) (eq-eqb n n refl)

put_there : (choices : Choices) (n m : ℕ) (s : Numbers → Standing) → (m ≡ n → ⊥) → put choices n s m ≡ choices m
put_there choices n m s h = ap (λ b. if b then s else choices m) (ne_eqb m n h)

put_keeps : (choices : Choices) (n : ℕ) (s : Numbers → Standing) → ((id : Numbers) (e : Epr) → choices n id ≡ At e → s id ≡ At e) → Keeps choices (put choices n s)
put_keeps choices n s k m id e h = by_number (nat_eq m n) refl
  where
    by_number : (c : Bool) → nat_eq m n ≡ c → (if c then s else choices m) id ≡ At e
    by_number true c = k id e (ap (λ i. choices i id) (sym (eqb-true m n c)) ∙ h)
    by_number false c = h

-- nodes
record HasNode (xs : List Node) (n : ℕ) (base : List ℕ) : Type 0 where
  node : Node
  found : nth n xs ≡ Some node
  same : base ≡ node.base

base_at : (xs ys : List Node) (n : ℕ) (x : Node) → HaveBases xs ys → nth n xs ≡ Some x → HasNode ys n x.base
base_at [] ys n x h e = absurd cc
base_at (y ∷ xs) [] n x h e = absurd h
base_at (y ∷ xs) (v ∷ ys) n x (g, h) e = by_number (λ i. base_at xs ys (n - 1) x h i) (nat_eq n 1) refl e
  where
    by_number : (nth (n - 1) xs ≡ Some x → HasNode ys (n - 1) x.base) → (c : Bool) → nat_eq n 1 ≡ c → (if c then Some y else nth (n - 1) xs) ≡ Some x → HasNode (v ∷ ys) n x.base
    by_number rest true c e =
        let same : y ≡ x = cc in
        record { node = v; found = ap (λ t. if t then Some v else nth (n - 1) ys) c; same = ap (λ (u : Node). u.base) (sym same) ∙ g }
    by_number rest false c e =
        let r : HasNode ys (n - 1) x.base = rest e in
        record { node = r.node; found = ap (λ t. if t then Some v else nth (n - 1) ys) c ∙ r.found; same = r.same }

at_most : (base_of : ℕ → List ℕ) (k m n : ℕ) (x : Node) → nth n (new_nodes base_of k m) ≡ Some x → (1 ≤ n) × (n ≤ k)
at_most base_of zero m n x e = absurd cc
at_most base_of (suc k) m n x e = by_number (λ f. at_most base_of k (m + 1) (n - 1) x f) (nat_eq n 1) refl e
  where
    by_number : (nth (n - 1) (new_nodes base_of k (m + 1)) ≡ Some x → (1 ≤ n - 1) × (n - 1 ≤ k)) → (c : Bool) → nat_eq n 1 ≡ c
        → (if c then Some (new_node (base_of m)) else nth (n - 1) (new_nodes base_of k (m + 1))) ≡ Some x → (1 ≤ n) × (n ≤ suc k)
    by_number rest true c e = let one : n ≡ 1 = eqb-true n 1 c in (omega (arith, one), omega (arith, one))
    by_number rest false c e = let (least, most) = rest e in (omega (arith, least), omega (arith, least, most))

record IsNumbered (hosts : Hosts) (n : ℕ) (x : Node) : Type 0 where
  base_is : x.base ≡ hosts.base_of n
  least : 1 ≤ n
  most : n ≤ hosts.count

numbered : (hosts : Hosts) (choices : Choices) (w : World) (n : ℕ) (x : Node) → WorldSays hosts choices w → nth n w.nodes ≡ Some x → IsNumbered hosts n x
numbered hosts choices w n x h e =
    let r : HasNode (nodes_of hosts) n x.base = base_at w.nodes (nodes_of hosts) n x h.bases e in
    let (least, most) = at_most hosts.base_of hosts.count 1 n r.node r.found in
    record { base_is = r.same ∙ ap (λ (u : Node). u.base) (opening_node hosts n r.node r.found); least = least; most = most }

-- what is accepted
accept_says : (hosts : Hosts) (choices : Choices) (n : ℕ) (e : Event) (nodes : List Node) (acc : Accepted) → HaveOwnAddresses hosts → HaveBases nodes (nodes_of hosts) → EventSays hosts choices n e
    → AcceptedBy e n nodes acc → IsChosen hosts choices acc
accept_says hosts choices n e nodes acc distinct bases says by =
    let arrival : ArrivalSays hosts choices n by.register.participant by.id = says by.arrived by.register by.id by.came by.says by.target in
    let ours : IsOurs hosts choices by.register.participant (Some arrival.endpoint) = arrival.ours in
    record {
      item = record { node = ours.node; id = ours.registers.id };
      participant = by.participant ∙ who_same nodes (nodes_of hosts) by.register.participant bases ∙ ap (who_of (nodes_of hosts)) ours.registers.is
          ∙ ap who_at (leads_home hosts ours.node ours.registers.own distinct ours.least ours.most (is_written ours.registers.own ours.registers.id ours.registers.named ours.small))
          ∙ ap (option_map (λ id. record { node = ours.node; id = id })) ours.registers.named;
      endpoint = arrival.endpoint;
      chosen = ours.registers.stands ∙ ap At (sym (same_endpoint arrival.endpoint ours.registers.endpoint ours.registers.goes));
      place = arrival.place ∙ ap (λ (w : Who). Some (w.node, targets.Registration w.id)) (sym by.transaction);
    }
  where
    same_endpoint : (d f : Epr) → Some d ≡ Some f → d ≡ f
    same_endpoint d f g = cc

    is_written : (own : Target) (id : Numbers) → item_at own ≡ Some id → IsId id → IsWritten own
    is_written targets.Activation id e h = absurd cc
    is_written (targets.Registration i) id e h = absurd cc
    is_written (targets.Completion i) id e h = absurd cc
    is_written (targets.Coordinator i seat) id e h = absurd cc
    is_written (targets.Participant i kind) id e h = let same : i ≡ id = cc in subst IsId (sym same) h
    is_written (targets.Initiator i) id e h = let same : i ≡ id = cc in subst IsId (sym same) h
    is_written targets.Work id e h = absurd cc

-- a message that arrives
record IsDecoded (base : List ℕ) (p : Post) (a : Arrived) : Type 0 where
  endpoint : Epr
  goes : p.to ≡ Some endpoint
  target : target_at base endpoint.address ≡ Some a.target
  message : a.message ≡ p.message

decoding : (base : List ℕ) (p : Post) (a : Arrived) → decoded base p ≡ Some a → IsDecoded base p a
decoding base p a e =
    option_and_then_some (λ to. decoded_at (target_at base to.address) p) p.to a e (λ to goes inner. by_target to goes (target_at base to.address) refl inner)
  where
    by_takes : (to : Epr) → p.to ≡ Some to → (T : Target) → target_at base to.address ≡ Some T → (c : Bool) → (if c then Some (arrival_of T p) else None) ≡ Some a → IsDecoded base p a
    by_takes to goes T f true g =
        let same : arrival_of T p ≡ a = cc in
        record { endpoint = to; goes = goes; target = f ∙ ap (λ (x : Arrived). Some x.target) same; message = ap (λ (x : Arrived). x.message) (sym same) }
    by_takes to goes T f false g = absurd cc

    by_target : (to : Epr) → p.to ≡ Some to → (o : Option Target) → target_at base to.address ≡ o → decoded_at o p ≡ Some a → IsDecoded base p a
    by_target to goes None f g = absurd cc
    by_target to goes (Some T) f g = by_takes to goes T f (takes T p.message) g

placed : (hosts : Hosts) (n : ℕ) (to : Epr) (o : Option (ℕ × Target)) (T : Target) → place_of 1 (nodes_of hosts) to.address ≡ o → option_map (λ p. p.0) o ≡ Some n
    → target_at (hosts.base_of n) to.address ≡ Some T → o ≡ Some (n, T)
placed hosts n to None T e f g = absurd cc
placed hosts n to (Some p) T e f g =
    let same : p.0 ≡ n = cc in
    let target : target_at (hosts.base_of n) to.address ≡ Some p.1 = subst (λ m. target_at (hosts.base_of m) to.address ≡ Some p.1) same (place_is hosts.base_of hosts.count 1 to.address p e).target in
    λ i. Some (same i, that p.1 T (target_at (hosts.base_of n) to.address) target g i)
  where
    that : (S T : Target) (o : Option Target) → o ≡ Some S → o ≡ Some T → S ≡ T
    that S T o i j = cc

delivery_event : (hosts : Hosts) (choices : Choices) (n : ℕ) (p : Posted) (a : Arrived) → PostSays hosts choices p → p.receiver ≡ Some n → decoded (hosts.base_of n) p.content ≡ Some a
    → EventSays hosts choices n (events.Arrived a)
delivery_event hosts choices n p a h received e b r id came says target =
    let same : a ≡ b = same_arrival a b came in
    let d : IsDecoded (hosts.base_of n) p.content b = subst (IsDecoded (hosts.base_of n) p.content) same (decoding (hosts.base_of n) p.content a e) in
    let ours : IsOurs hosts choices r.participant p.content.to = subst (Fine (IsOurs hosts choices) p.content.to) (sym d.message ∙ says) h.says in
    record {
      endpoint = d.endpoint;
      ours = subst (IsOurs hosts choices r.participant) d.goes ours;
      place = placed hosts n d.endpoint (place_of 1 (nodes_of hosts) d.endpoint.address) (targets.Registration id) refl
          (ap (receiver_of (nodes_of hosts)) (sym d.goes) ∙ sym h.routed ∙ received) (d.target ∙ ap Some target);
    }
  where
    same_arrival : (a b : Arrived) → events.Arrived a ≡ events.Arrived b → a ≡ b
    same_arrival a b e = cc

one_posted : (hosts : Hosts) (choices : Choices) (ps : List Posted) (p : Posted) → AllByRecursion (PostSays hosts choices) ps → IsIn p ps → PostSays hosts choices p
one_posted hosts choices [] p h i = absurd i
one_posted hosts choices (q ∷ ps) p (h, k) (inl e) = subst (PostSays hosts choices) (sym e) h
one_posted hosts choices (q ∷ ps) p (h, k) (inr i) = one_posted hosts choices ps p k i

heard_says : (hosts : Hosts) (u : World) (n : ℕ) (x : Node) (e : Event) → (g : WorldGood hosts u) → nth n u.nodes ≡ Some x → Heard u n x e → EventSays hosts g.choices n e
heard_says hosts u n x (events.Arrived a) g found (p, posted, received, decodes) =
    delivery_event hosts g.choices n p a (one_posted hosts g.choices u.posted p g.world.posted posted) received
    (ap (λ base. decoded base p.content) (sym (numbered hosts g.choices u n x g.world found).base_is) ∙ decodes)
heard_says hosts u n x (events.Local l) g found h = λ a r id e f i. absurd (no_local l a e)
  where
    no_local : (l : Local) (a : Arrived) → events.Local l ≡ events.Arrived a → ⊥
    no_local l a e = cc
heard_says hosts u n x events.Tick g found h = λ a r id e f i. absurd (no_tick a e)
  where
    no_tick : (a : Arrived) → events.Tick ≡ events.Arrived a → ⊥
    no_tick a e = cc
heard_says hosts u n x (events.Due item) g found h = λ a r id e f i. absurd (no_due item a e)
  where
    no_due : (item : Item) (a : Arrived) → events.Due item ≡ events.Arrived a → ⊥
    no_due item a e = cc

-- a node is put
put_good : (hosts : Hosts) (choices : Choices) (n : ℕ) (w v : World) (x z : Node) → WorldSays hosts choices w → nth n w.nodes ≡ Some x → v.nodes ≡ put_nth n z w.nodes → z.base ≡ x.base
    → v.posted ≡ w.posted → v.accepted ≡ w.accepted → IsKnown (hosts.base_of n) (choices n) z.journal z.book
    → ((m : ℕ) (y : Node) → nth m w.nodes ≡ Some y → IsKnown (hosts.base_of m) (choices m) y.journal y.book) → WorldGood hosts v
put_good hosts choices n w v x z h found e b p a known others = record {
  choices = choices;
  world = record {
    bases = subst (λ (xs : List Node). HaveBases xs (nodes_of hosts)) (sym e) (bases_put w.nodes (nodes_of hosts) n x z found b h.bases);
    posted = subst (AllByRecursion (PostSays hosts choices)) (sym p) h.posted;
    accepted = subst (AllByRecursion (IsChosen hosts choices)) (sym a) h.accepted;
  };
  nodes = λ m y f.
      each_put (λ k u. IsKnown (hosts.base_of k) (choices k) u.journal u.book) w.nodes n x z found known (λ k u i r. others k u r) m y (ap (nth m) (sym e) ∙ f);
}

-- a step that counts
abbrev PostFine : (hosts : Hosts) (w : World) → WorldGood hosts w → ℕ → Post → Type 0
PostFine hosts w g n p = Fine (IsOurs hosts g.choices) p.to p.message

each_out : (Q : Epr → Option Epr → Type 0) (o : Out) → OutSays Q o → OutFine (IsFine Q) o
each_out Q (outs.Post p) h = h
each_out Q (outs.Answer status reply) h = tt

steps_good : (hosts : Hosts) (u : World) (n : ℕ) (x : Node) (b : Book) (e : Event) (now : ℕ) (landed : Bool) → HaveOwnAddresses hosts → nth n u.nodes ≡ Some x → x.book ≡ Some b → Heard u n x e
    → WorldGood hosts u → (g : WorldGood hosts (counts u n x b e now landed)) × AllByRecursion (OutFine (PostFine hosts (counts u n x b e now landed) g n)) (step b e now landed).outs
steps_good hosts u n x b e now landed distinct found up heard h =
    let known : IsUp (hosts.base_of n) (h.choices n) x.journal b = subst (IsKnown (hosts.base_of n) (h.choices n) x.journal) up (h.nodes n x found) in
    let g : Gives (hosts.base_of n) e (h.choices n) b (step b e now landed) = step_gives (hosts.base_of n) (h.choices n) b e now landed known.says in
    let book : Says (hosts.base_of n) g.after (step b e now landed).book = says_on (hosts.base_of n) (h.choices n) b e now landed known.says g in
    let new : Choices = put h.choices n g.after in
    let keeps : Keeps h.choices new = put_keeps h.choices n g.after g.keeps in
    let here : new n ≡ g.after = put_here h.choices n g.after in
    let says : WorldSays hosts new u = world_on hosts h.choices new u keeps h.world in
    let node : IsNumbered hosts n x = numbered hosts h.choices u n x h.world found in (
      record {
        choices = new;
        world = record {
          bases = bases_put u.nodes (nodes_of hosts) n x y found refl h.world.bases;
          posted = says.posted;
          accepted = all_join (IsChosen hosts new) u.accepted (accepted_in n u.nodes b (step b e now landed).book.transactions) says.accepted
              (all_more (AcceptedBy e n u.nodes) (IsChosen hosts new) (accepted_in n u.nodes b (step b e now landed).book.transactions)
              (λ acc by. chosen_on new keeps acc (accept_says hosts h.choices n e u.nodes acc distinct h.world.bases (heard_says hosts u n x e h found heard) by)) (g.accepted n u.nodes));
        };
        nodes = each_put (λ k z. IsKnown (hosts.base_of k) (new k) z.journal z.book) u.nodes n x y found
            (record {
              says = subst (λ s. Says (hosts.base_of n) s (step b e now landed).book) (sym here) book;
              known = below (steps_keep_place b e now landed).incarnation known.known;
            }) (λ m z i r. subst (λ s. IsKnown (hosts.base_of m) s z.journal z.book) (sym (put_there h.choices n m g.after i)) (h.nodes m z r));
      },
      all_more (OutSays (IsOurs hosts new)) (OutFine (IsFine (IsOurs hosts new))) (step b e now landed).outs (each_out (IsOurs hosts new))
          (outs_more (Registers (hosts.base_of n) g.after) (IsOurs hosts new)
          (λ participant to r. record {
            node = n;
            least = node.least;
            most = node.most;
            registers = subst (λ s. Registers (hosts.base_of n) s participant to) (sym here) r;
            small = g.small r.id r.endpoint r.stands;
          }) (step b e now landed).outs g.outs),
    )
  where
    y : Node
    y = record x { book = Some (step b e now landed).book; journal = with_entry (plan b e now).entry landed x.journal }

    chosen_on : (new : Choices) → Keeps h.choices new → (acc : Accepted) → IsChosen hosts h.choices acc → IsChosen hosts new acc
    chosen_on new k acc f = record { item = f.item; participant = f.participant; endpoint = f.endpoint; chosen = k f.item.node f.item.id f.endpoint f.chosen; place = f.place }

    below : (step b e now landed).book.incarnation ≡ b.incarnation → b.incarnation ≤ last_incarnation x.journal
        → (step b e now landed).book.incarnation ≤ last_incarnation (with_entry (plan b e now).entry landed x.journal)
    below f k = omega (arith, f, k, entry_rises (plan b e now).entry landed x.journal)

post_good : (hosts : Hosts) (w : World) (g : WorldGood hosts w) (n : ℕ) (p : Post) → PostFine hosts w g n p → WorldGood hosts (with_post n p w)
post_good hosts w g n p f = record {
  choices = g.choices;
  world = record {
    bases = g.world.bases;
    posted = all_join (PostSays hosts g.choices) w.posted _ g.world.posted (record { routed = receiver_same w.nodes (nodes_of hosts) p.to g.world.bases; says = f }, tt);
    accepted = g.world.accepted;
  };
  nodes = g.nodes;
}

-- a node goes down
goes_down_known : (base : List ℕ) (s : Numbers → Standing) (rs : List Record) (b : Book) → Says base s b → b.incarnation ≤ last_incarnation rs → IsDown s rs
goes_down_known base s rs b h k = record { undrawn = λ id i. h.undrawn id (not_drawn id i); small = h.small }
  where
    not_drawn : (id : Numbers) → last_incarnation rs < id.incarnation → IsDrawn b id → ⊥
    not_drawn id i (inl j) = omega (arith, i, j, k)
    not_drawn id i (inr (e, j)) = omega (arith, i, e, k)

falls_good : (hosts : Hosts) (w : World) (n : ℕ) (x : Node) (b : Book) → (g : WorldGood hosts w) → nth n w.nodes ≡ Some x → x.book ≡ Some b → WorldGood hosts (goes_down n b w)
falls_good hosts w n x b g found up =
    let known : IsUp (hosts.base_of n) (g.choices n) x.journal b = subst (IsKnown (hosts.base_of n) (g.choices n) x.journal) up (g.nodes n x found) in
    let is : goes_down n b w ≡ put_book n None (record w { happened = w.happened ++ lost_in n b }) (Some x) = ap (put_book n None (record w { happened = w.happened ++ lost_in n b })) found in
    put_good hosts g.choices n w (goes_down n b w) x (record x { book = None }) g.world found
    (ap (λ (u : World). u.nodes) is) refl (ap (λ (u : World). u.posted) is) (ap (λ (u : World). u.accepted) is)
    (goes_down_known (hosts.base_of n) (g.choices n) x.journal b known.says known.known) g.nodes

-- what is recovered registers no more
voted_silent : (id : Numbers) (s : Epr) (seats : List Seated) (committed : Bool) → transaction_standing (recovered_voted id s seats committed) ≡ Silent
voted_silent id s seats true = refl
voted_silent id s seats false = refl

transactions_silent : (base : List ℕ) (rs : List Record) → AllByRecursion (λ t. transaction_standing t ≡ Silent) (transactions_of base rs)
transactions_silent base [] = tt
transactions_silent base (records.Voted id s seats ∷ rest) = (voted_silent id s seats (list_any (is_sub_committed id) rest), transactions_silent base rest)
transactions_silent base (records.Decided id seats ∷ rest) = (refl, transactions_silent base rest)
transactions_silent base (records.Start i ∷ rest) = transactions_silent base rest
transactions_silent base (records.LeafPrepared id c key value ∷ rest) = transactions_silent base rest
transactions_silent base (records.LeafCommitted id ∷ rest) = transactions_silent base rest
transactions_silent base (records.LeafAborted id ∷ rest) = transactions_silent base rest
transactions_silent base (records.SubCommitted id ∷ rest) = transactions_silent base rest
transactions_silent base (records.Ended id ∷ rest) = transactions_silent base rest
transactions_silent base (records.Done id ∷ rest) = transactions_silent base rest

leaves_silent : (rs : List Record) → AllByRecursion (λ l. leaf_standing l ≡ Silent) (leaves_of rs)
leaves_silent [] = tt
leaves_silent (records.LeafPrepared id c key value ∷ rest) = (refl, leaves_silent rest)
leaves_silent (records.Voted id s seats ∷ rest) = leaves_silent rest
leaves_silent (records.Decided id seats ∷ rest) = leaves_silent rest
leaves_silent (records.Start i ∷ rest) = leaves_silent rest
leaves_silent (records.LeafCommitted id ∷ rest) = leaves_silent rest
leaves_silent (records.LeafAborted id ∷ rest) = leaves_silent rest
leaves_silent (records.SubCommitted id ∷ rest) = leaves_silent rest
leaves_silent (records.Ended id ∷ rest) = leaves_silent rest
leaves_silent (records.Done id ∷ rest) = leaves_silent rest

meets_silent : (kept S : Standing) → S ≡ Silent → Meets kept S
meets_silent kept S e = subst (Meets kept) (sym e) tt

recovered_says : (base : List ℕ) (s : Numbers → Standing) (rs : List Record) → IsDown s rs → last_incarnation rs < last_counter → IsUp base s (restarted rs) (recover base (restarted rs))
recovered_says base s rs h small = record {
  says = record {
    base_is = refl;
    order = ids_rise.started base rs;
    fits = record {
      transactions = all_more (λ t. transaction_standing t ≡ Silent) (λ t. Meets (s t.id) (transaction_standing t)) (recovered_transactions base (restarted rs))
          (λ t e. meets_silent (s t.id) (transaction_standing t) e)
          (all_in_order (λ t. transaction_standing t ≡ Silent) transaction_id (transactions_of base (live (restarted rs))) (transactions_silent base (live (restarted rs))));
      leaves = all_more (λ l. leaf_standing l ≡ Silent) (λ l. Meets (s l.id) (leaf_standing l)) (recovered_leaves (restarted rs)) (λ l e. meets_silent (s l.id) (leaf_standing l) e)
          (all_in_order (λ l. leaf_standing l ≡ Silent) leaf_id (leaves_of (live (restarted rs))) (leaves_silent (live (restarted rs))));
      activities = tt;
    };
    undrawn = λ id f. h.undrawn id (behind id f (nat_lt (last_incarnation rs) id.incarnation) refl);
    small = h.small;
    least = omega (arith, (incarnations_rise rs).0);
    most = omega (arith, (incarnations_rise rs).0, small);
  };
  known = same_most (last_incarnation (restarted rs));
}
  where
    same_most : (n : ℕ) → n ≤ n
    same_most n = omega arith

    earlier : (id : Numbers) → id.incarnation ≤ last_incarnation rs → IsDrawn (recover base (restarted rs)) id
    earlier id i = inl (omega (arith, (incarnations_rise rs).0, i))

    behind : (id : Numbers) → (IsDrawn (recover base (restarted rs)) id → ⊥) → (b : Bool) → nat_lt (last_incarnation rs) id.incarnation ≡ b → last_incarnation rs < id.incarnation
    behind id f true e = ltb-true (last_incarnation rs) id.incarnation e
    behind id f false e = absurd (f (earlier id (ltb-false (last_incarnation rs) id.incarnation e)))

rises_good : (hosts : Hosts) (w : World) (n : ℕ) (x : Node) (stop : Bool) → (g : WorldGood hosts w) → nth n w.nodes ≡ Some x → x.book ≡ None → last_incarnation x.journal < last_counter
    → WorldGood hosts (record w { nodes = put_nth n (up_after (started (last_incarnation x.journal + 1) x) stop) w.nodes })
rises_good hosts w n x stop g found down small =
    put_good hosts g.choices n w (record w { nodes = put_nth n (up_after (started (last_incarnation x.journal + 1) x) stop) w.nodes }) x
    (up_after (started (last_incarnation x.journal + 1) x) stop) g.world found refl refl refl refl (known stop) g.nodes
  where
    risen : (base : List ℕ) → base ≡ hosts.base_of n → IsUp (hosts.base_of n) (g.choices n) (restarted x.journal) (recover base (restarted x.journal))
    risen base same =
        subst (λ b. IsUp (hosts.base_of n) (g.choices n) (restarted x.journal) (recover b (restarted x.journal))) (sym same)
        (recovered_says (hosts.base_of n) (g.choices n) x.journal (subst (IsKnown (hosts.base_of n) (g.choices n) x.journal) down (g.nodes n x found)) small)

    known : (c : Bool) → IsKnown (hosts.base_of n) (g.choices n) (restarted x.journal) (if c then None else Some (recover x.base (restarted x.journal)))
    known true =
        let h : IsUp (hosts.base_of n) (g.choices n) (restarted x.journal) (recover (hosts.base_of n) (restarted x.journal)) = risen (hosts.base_of n) refl in
        goes_down_known (hosts.base_of n) (g.choices n) (restarted x.journal) (recover (hosts.base_of n) (restarted x.journal)) h.says h.known
    known false = risen x.base (numbered hosts g.choices w n x g.world found).base_is

opening_good : (hosts : Hosts) → WorldGood hosts (opening hosts)
opening_good hosts = record {
  choices = λ m id. Never;
  world = record { bases = same_bases (nodes_of hosts); posted = tt; accepted = tt };
  nodes = λ m x f. down m x (opening_node hosts m x f);
}
  where
    nothing_chosen : (e : Epr) (P : Type 0) → Never ≡ At e → P
    nothing_chosen e P f = absurd cc

    down : (m : ℕ) (x : Node) → x ≡ new_node (hosts.base_of m) → IsKnown (hosts.base_of m) (λ id. Never) x.journal x.book
    down m x e =
        subst (λ (y : Node). IsKnown (hosts.base_of m) (λ id. Never) y.journal y.book) (sym e)
        (record { undrawn = λ id i. refl; small = λ id d f. nothing_chosen d (IsId id) f })

-- the law of every world that is reached
enrolled : (hosts : Hosts) → HaveOwnAddresses hosts → Law hosts
unfolding post_good
enrolled hosts distinct = record {
  Good = WorldGood hosts;
  Fine = PostFine hosts;
  opens = opening_good hosts;
  steps = λ u n x b e now landed reached found up heard g. steps_good hosts u n x b e now landed distinct found up heard g;
  posts = λ w g n p f. post_good hosts w g n p f;
  still_fine = λ w g n p q f h. h;
  falls = λ u n x b reached found up g. falls_good hosts u n x b g found up;
  rises = λ u n x stop reached found down little g. rises_good hosts u n x stop g found down little;
  waits = λ u n x clock reached found g.
      put_good hosts g.choices n u (record u { nodes = put_nth n (record x { clock = clock }) u.nodes }) x (record x { clock = clock }) g.world found refl refl refl refl (g.nodes n x found) g.nodes;
}

pub world_good : (hosts : Hosts) (w : World) → HaveOwnAddresses hosts → Reached hosts w → WorldGood hosts w
unfolding enrolled
world_good hosts w distinct reached = holds hosts (enrolled hosts distinct) w reached

-- what was accepted is accepted by one
one_accepted : (hosts : Hosts) (choices : Choices) (all : List Accepted) (acc : Accepted) → AllByRecursion (IsChosen hosts choices) all → IsIn acc all → IsChosen hosts choices acc
one_accepted hosts choices [] acc h i = absurd i
one_accepted hosts choices (a ∷ all) acc (h, k) (inl e) = subst (IsChosen hosts choices) (sym e) h
one_accepted hosts choices (a ∷ all) acc (h, k) (inr i) = one_accepted hosts choices all acc k i

-- every world that is reached
pub one_superior : (hosts : Hosts) (w : World) → HaveOwnAddresses hosts → Reached hosts w → HasOneSuperior w
one_superior hosts w distinct reached x s t one other i j =
    let g : WorldGood hosts w = world_good hosts w distinct reached in
    let a : IsChosen hosts g.choices (record { transaction = s; seat = one; participant = Some x }) = one_accepted hosts g.choices w.accepted _ g.world.accepted i in
    let b : IsChosen hosts g.choices (record { transaction = t; seat = other; participant = Some x }) = one_accepted hosts g.choices w.accepted _ g.world.accepted j in
    let same : a.item ≡ b.item = same_item a.item b.item (sym a.participant ∙ b.participant) in
    same_who s t
    (sym a.place ∙ ap (λ (e : Epr). place_of 1 (nodes_of hosts) e.address)
    (same_at a.endpoint b.endpoint (sym a.chosen ∙ ap (λ (y : Who). g.choices y.node y.id) same ∙ b.chosen)) ∙ b.place)
  where
    same_item : (x y : Who) → Some x ≡ Some y → x ≡ y
    same_item x y e = cc

    node_part : Option (ℕ × Target) → ℕ
    node_part None = 0
    node_part (Some p) = p.0

    id_of_target : Target → Numbers
    id_of_target (targets.Registration id) = id
    id_of_target other = record { incarnation = 0; counter = 0 }

    id_part : Option (ℕ × Target) → Numbers
    id_part None = record { incarnation = 0; counter = 0 }
    id_part (Some p) = id_of_target p.1

    same_who : (s t : Who) → ◌≡◌ {A = Option (ℕ × Target)} (Some (s.node, targets.Registration s.id)) (Some (t.node, targets.Registration t.id)) → s ≡ t
    same_who s t e = λ i. record { node = node_part (e i); id = id_part (e i) }

-- whoever is accepted registers at the transaction that accepted it
pub record IsChosenAt (hosts : Hosts) (choices : Choices) (t x : Who) : Type 0 where
  pub endpoint : Epr
  pub chosen : choices x.node x.id ≡ At endpoint
  pub place : place_of 1 (nodes_of hosts) endpoint.address ≡ Some (t.node, targets.Registration t.id)

pub chosen_at : (hosts : Hosts) (w : World) (distinct : HaveOwnAddresses hosts) (reached : Reached hosts w) (t x : Who) (seat : Option Seat) → IsAccepted w t seat x
    → IsChosenAt hosts (world_good hosts w distinct reached).choices t x
chosen_at hosts w distinct reached t x seat i =
    let g : WorldGood hosts w = world_good hosts w distinct reached in
    let a : IsChosen hosts g.choices (record { transaction = t; seat = seat; participant = Some x }) = one_accepted hosts g.choices w.accepted _ g.world.accepted i in
    let same : a.item ≡ x = same_item a.item x (sym a.participant) in
    record { endpoint = a.endpoint; chosen = ap (λ (y : Who). g.choices y.node y.id) (sym same) ∙ a.chosen; place = a.place }
  where
    same_item : (y z : Who) → Some y ≡ Some z → y ≡ z
    same_item y z e = cc

pub all_known : (hosts : Hosts) (w : World) → HaveOwnAddresses hosts → Reached hosts w → AllByRecursion IsKnownItem w.accepted
all_known hosts w distinct reached =
    let g : WorldGood hosts w = world_good hosts w distinct reached in
    all_more (IsChosen hosts g.choices) IsKnownItem w.accepted (λ acc f. ap is_some f.participant) g.world.accepted

pub enlists_under_one : EnlistsUnderOne
enlists_under_one hosts es small = one_superior hosts (run_of hosts es) small (run_reached hosts es)

pub enlists_the_known : EnlistsTheKnown
enlists_the_known hosts es small = all_known hosts (run_of hosts es) small (run_reached hosts es)
