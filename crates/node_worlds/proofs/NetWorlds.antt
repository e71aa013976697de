-- A net of nodes is a world.
use Rattle.std.specs.Prelude.{ℕ, List, [], ◌∷◌, ◌++◌, ◌+◌, ◌-◌, ◌≡◌, ◌≤◌, ◌<◌, Some, None, Bool, true, false, nat_eq, if◌then◌else◌, map, option_map, zero, suc, refl}
use Rattle.std.proofs.Common.{inl, inr, sym, subst, ap, arith, ◌∙◌}
use Rattle.std.proofs.lemmas.Bool.{eqb-true}
use Rattle.std.proofs.lemmas.List.{append-nil}
use Rattle.at_base.specs.declared.event.Event.TheVariants as events
use Rattle.at_base.specs.declared.outs.Post.{Post}
use Rattle.at_base.specs.declared.record.Record.{Record}
use Rattle.at_base.specs.declared.record.Record.TheVariants as records
use Rattle.at_model.specs.Book.{Book, last_counter}
use Rattle.at_model.specs.Recovery.{last_incarnation, recover}
use Rattle.at_base.specs.declared.event.Local.{Local}
use Rattle.at_model.specs.Step.{Outcome, items_of, plan, step}
use Rattle.at_model.specs.World.{Accepted, Node, World, lost_in, new_node, new_nodes, nth, put_book, put_nth, up_after, Hosts}
use Rattle.at_model.specs.World.{started as node_started}
use Rattle.decision_log.specs.KeptRecords.{Known, kept_of}
use Rattle.decision_log.specs.ShrunkJournals.{ShrinksTheSame}
use Rattle.interposition.specs.Due.{WalksTheDue, due_outcomes}
use Rattle.journal_at.specs.declared.version.Version.{Version}
use Rattle.journal_at.specs.declared.version.Version.TheVariants.{One, Two}
use Rattle.model_laws.specs.Compactions.{RecoversTheCompacted}
use Rattle.model_laws.specs.ReachedWorlds.{Reached, fell, opened, rose}
use Rattle.model_laws.specs.Order.{IsInOrder}
use Rattle.model_laws.proofs.Addresses.{HaveBases}
use Rattle.model_laws.proofs.DecisionLaws.{IfThere}
use Rattle.model_laws.proofs.Nodes.{put_same, receiver_same}
use Rattle.model_laws.proofs.ReachedWorlds.{in_order}
use Rattle.site_model.specs.Told.{Told}
use Rattle.node_at.specs.Doings.{Doing, book_behind, came_of}
use Rattle.node_at.specs.Endings.{Ends}
use Rattle.node_at.specs.Locals.{cleared}
use Rattle.node_at.specs.Meanings.{Hears, Meaning, next_input}
use Rattle.node_at.specs.Meanings.Meaning.{Steps}
use Rattle.node_at.specs.ShrunkJournals.{AreSame, Shrinks}
use Rattle.node_at.specs.StartedNodes.{IsStarted}
use Rattle.node_at.specs.Starts.{carried, start_after}
use Rattle.node_at.specs.State.{State}
use Rattle.node_at.specs.Steps.{IsDone, if_landed}
use Rattle.node_at.specs.TurnText.{Steppings, TurnStep}
use Rattle.node_at.specs.TurnText.Steppings.{asked}
use Rattle.node_at.specs.Turns.{Begun, Cut, Turns, Whole, busy, calm}
use Rattle.node_at.specs.Turns.Begun.{none, some}
use Rattle.node_at.specs.declared.role.Role.{Role}
use Rattle.node_at.specs.declared.shrink.Shrunk.{Shrunk}
use Rattle.node_at.specs.declared.shrink.Shrunk.TheVariants as shrunks
use Rattle.node_at.specs.declared.turn.Turned.{Turned}
use Rattle.node_at.specs.declared.turn.Turned.TheVariants as turneds
use Rattle.node_worlds.specs.Leads.{IsHeard, IsUp, Leads, posted_at}
use Rattle.node_worlds.specs.Nets.{Brings, as_far, begun_in, broken, IsOpened, Net, NetsAreWorlds, Place, Runs, doings_in, new_net, new_places, rested, shown_node, shown_nodes, shown_world, steps_in, with_start, with_started, without}
use Rattle.node_worlds.specs.Nets.{after as net_after}
use Rattle.node_worlds.specs.SentPosts.{AreSent, Sent, accepted_along, accepted_between, recorded, records_by}
use Rattle.node_worlds.proofs.Places.{nth_this}
use Rattle.node_worlds.proofs.StepLeads.{leads_as, leads_none, reached_bases, steps_lead}
use Rattle.node_worlds.proofs.TurnLeads.{empty_leads, front_leads, one_row, refused_leads, turns_lead}

-- the world that a net shows is reached
abbrev Shown : Hosts → Net → Type 0
Shown hosts net = Reached hosts (shown_world hosts net)

same_some : {A : Type 0} (x y : A) → Some x ≡ Some y → x ≡ y
same_some x y e = cc

-- a number at which something stands is at least 1
from_one : {A : Type 0} (xs : List A) (i : ℕ) (x : A) → nth i xs ≡ Some x → 1 ≤ i
from_one [] i x e = absurd cc
from_one (y ∷ ys) i x e = by_number (λ f. from_one ys (i - 1) x f) (nat_eq i 1) refl e
  where
    by_number : (nth (i - 1) ys ≡ Some x → 1 ≤ i - 1) → (c : Bool) → nat_eq i 1 ≡ c → (if c then Some y else nth (i - 1) ys) ≡ Some x → 1 ≤ i
    by_number rest true f g = let one = eqb-true i 1 f in omega (arith, one)
    by_number rest false f g = let more = rest g in omega (arith, more)

-- each place shows its node, also where it moves
found_from : (hosts : Hosts) (places : List Place) (k i m : ℕ) (p : Place) → nth i places ≡ Some p → m + 1 ≡ k + i → nth i (shown_nodes hosts k places) ≡ Some (shown_node hosts m p)
found_from hosts [] k i m p e n = absurd cc
found_from hosts (q ∷ qs) k i m p e n = by_number (λ g f. found_from hosts qs (k + 1) (i - 1) m p g f) (nat_eq i 1) refl e
  where
    by_number : (nth (i - 1) qs ≡ Some p → m + 1 ≡ k + 1 + (i - 1) → nth (i - 1) (shown_nodes hosts (k + 1) qs) ≡ Some (shown_node hosts m p)) → (c : Bool)
        → nat_eq i 1 ≡ c → (if c then Some q else nth (i - 1) qs) ≡ Some p
        → (if c then Some (shown_node hosts k q) else nth (i - 1) (shown_nodes hosts (k + 1) qs)) ≡ Some (shown_node hosts m p)
    by_number rest true f g =
        let one : i ≡ 1 = eqb-true i 1 f in
        let same : k ≡ m = omega (arith, one, n) in
        λ j. Some (shown_node hosts (same j) (same_some q p g j))
    by_number rest false f g = let more : 1 ≤ i - 1 = from_one qs (i - 1) p g in rest g (omega (arith, more, n))

put_from : (hosts : Hosts) (places : List Place) (k i m : ℕ) (p q : Place) → nth i places ≡ Some p → m + 1 ≡ k + i
    → put_nth i (shown_node hosts m q) (shown_nodes hosts k places) ≡ shown_nodes hosts k (put_nth i q places)
put_from hosts [] k i m p q e n = absurd cc
put_from hosts (r ∷ rs) k i m p q e n = by_number (λ g f. put_from hosts rs (k + 1) (i - 1) m p q g f) (nat_eq i 1) refl e
  where
    by_number : (nth (i - 1) rs ≡ Some p → m + 1 ≡ k + 1 + (i - 1)
        → put_nth (i - 1) (shown_node hosts m q) (shown_nodes hosts (k + 1) rs) ≡ shown_nodes hosts (k + 1) (put_nth (i - 1) q rs)) → (c : Bool) → nat_eq i 1 ≡ c
        → (if c then Some r else nth (i - 1) rs) ≡ Some p
        → (if c then shown_node hosts m q ∷ shown_nodes hosts (k + 1) rs else shown_node hosts k r ∷ put_nth (i - 1) (shown_node hosts m q) (shown_nodes hosts (k + 1) rs))
        ≡ shown_nodes hosts k (if c then q ∷ rs else r ∷ put_nth (i - 1) q rs)
    by_number rest true f g =
        let one : i ≡ 1 = eqb-true i 1 f in
        let same : m ≡ k = omega (arith, one, n) in
        λ j. shown_node hosts (same j) q ∷ shown_nodes hosts (k + 1) rs
    by_number rest false f g =
        let more : 1 ≤ i - 1 = from_one rs (i - 1) p g in
        ap (λ xs. shown_node hosts k r ∷ xs) (rest g (omega (arith, more, n)))

found_at : (hosts : Hosts) (u : Net) (i : ℕ) (p : Place) → nth i u.places ≡ Some p → nth i (shown_nodes hosts 1 u.places) ≡ Some (shown_node hosts i p)
found_at hosts u i p here = found_from hosts u.places 1 i i p here (omega arith)

put_at : (hosts : Hosts) (u : Net) (i : ℕ) (p q : Place) → nth i u.places ≡ Some p
    → put_nth i (shown_node hosts i q) (shown_nodes hosts 1 u.places) ≡ shown_nodes hosts 1 (put_nth i q u.places)
put_at hosts u i p q here = put_from hosts u.places 1 i i p q here (omega arith)

-- the places of a net that nobody has started in
opens_from : (hosts : Hosts) (count k : ℕ) → new_nodes hosts.base_of count k ≡ shown_nodes hosts k (new_places count)
opens_from hosts zero k = refl
opens_from hosts (suc count) k = ap (λ xs. new_node (hosts.base_of k) ∷ xs) (opens_from hosts count (k + 1))

opens : (hosts : Hosts) → Shown hosts (new_net hosts)
opens hosts = opened (λ j. record { nodes = sym (opens_from hosts hosts.count 1) j; posted = []; accepted = []; happened = [] })

posted_base : (i : ℕ) (xs ys : List Node) (ps : List Post) → HaveBases xs ys → map (posted_at i xs) ps ≡ map (posted_at i ys) ps
posted_base i xs ys [] h = refl
posted_base i xs ys (p ∷ ps) h = λ j. record { sender = i; receiver = receiver_same xs ys p.to h j; content = p } ∷ posted_base i xs ys ps h j

-- what steps did, shows in the world
leads_on : (hosts : Hosts) (i : ℕ) (u : Net) (p : Place) (n m : State) (rs : List Record) (ps : List Post) (js : List Accepted) → Shown hosts u → nth i u.places
    ≡ Some p → p.node ≡ Some n
    → (IsUp hosts i (shown_world hosts u) (shown_node hosts i p) n.book → Leads hosts i (shown_world hosts u) (shown_node hosts i p) m.book rs ps m.effects js)
    → Shown hosts (net_after hosts i u p m rs ps js)
leads_on hosts i u p n m rs ps js h here up leads = subst (Reached hosts) is l.reached
  where
    l : Leads hosts i (shown_world hosts u) (shown_node hosts i p) m.book rs ps m.effects js
    l = leads (record { reached = h; found = found_at hosts u i p here; up = ap (option_map (λ (k : State). k.book)) up })

    q : Place
    q = record { node = Some m; records = p.records ++ rs }

    nodes : l.world.nodes ≡ shown_nodes hosts 1 (put_nth i q u.places)
    nodes = l.nodes ∙ put_at hosts u i p q here

    posted : l.world.posted ≡ u.posted ++ map (posted_at i (new_nodes hosts.base_of hosts.count 1)) ps
    posted = l.posted
        ∙ ap (λ ts. u.posted ++ ts) (posted_base i (shown_nodes hosts 1 u.places) (new_nodes hosts.base_of hosts.count 1) ps (reached_bases hosts (shown_world hosts u) h))

    is : l.world ≡ shown_world hosts (net_after hosts i u p m rs ps js)
    is = λ j. record { nodes = nodes j; posted = posted j; accepted = l.accepted j; happened = l.happened j }

-- a message that was posted to the node is heard in the world
heard_at : (hosts : Hosts) (i : ℕ) (u : Net) (role : Role) (s : Told) (p : Place) (meaning : Meaning) → Brings hosts u i role s → Hears role (next_input s.link) meaning
    → IsHeard (shown_world hosts u) i (shown_node hosts i p) meaning
heard_at hosts i u role s p meaning brings hears (events.Arrived a) is =
    brings.posted a (subst (λ o. Hears role o (Steps (events.Arrived a))) brings.tells (subst (λ z. Hears role (next_input s.link) z) is hears))
heard_at hosts i u role s p meaning brings hears (events.Local l) is = tt
heard_at hosts i u role s p meaning brings hears (events.Due item) is = tt
heard_at hosts i u role s p meaning brings hears events.Tick is = tt

-- the steps of a turn
module _ (law : WalksTheDue) (hosts : Hosts) (i : ℕ) (w : World) (x : Node) where
  busy_leads : (b : Book) (ds : List Doing) (ps : List Post) → IsUp hosts i w x b → AreSent (busy b []) ds ps → Leads hosts i w x b [] ps [] (accepted_along hosts i b (busy b []))
  busy_leads b [] ps up sent = absurd sent
  busy_leads b (d ∷ []) ps up (qs, rs, one, others, e) =
      leads_as hosts i w x b b [] [] qs ps [] [] (accepted_between hosts i b b) (accepted_along hosts i b (busy b [])) refl refl
      (sym (e ∙ ap (λ z. qs ++ z) others ∙ append-nil qs)) refl
      (sym (append-nil (accepted_between hosts i b b))) (refused_leads hosts i w x b 503 None d qs up one)
  busy_leads b (d ∷ (f ∷ ds)) ps up (qs, rs, one, others, e) = absurd others

  begun_leads : (now status : ℕ) (meaning : Meaning) (b : Book) (left : List Outcome) (steps : List TurnStep) (ds : List Doing) (ps : List Post) → IsUp hosts i w x b
      → IsHeard w i x meaning → Steppings now b left meaning steps status → AreSent (steps ++ busy b steps) ds ps
      → Leads hosts i w x (book_behind b (steps ++ busy b steps)) (recorded (steps ++ busy b steps)) ps (came_of (steps ++ busy b steps))
      (accepted_along hosts i b (steps ++ busy b steps))
  begun_leads now status meaning b left [] ds ps up heard turns sent = busy_leads b ds ps up sent
  begun_leads now status meaning b left (s ∷ ss) ds ps up heard turns sent =
      subst (λ z. Leads hosts i w x (book_behind b z) (recorded z) ps (came_of z) (accepted_along hosts i b z)) (sym (append-nil (s ∷ ss)))
      (turns_lead law hosts i w x b now status left meaning (s ∷ ss) ds ps up heard turns (subst (λ z. AreSent z ds ps) (append-nil (s ∷ ss)) sent))

  some_lead : (now : ℕ) (meaning : Meaning) (b : Book) (steps : List TurnStep) (ds : List Doing) (ps : List Post) → IsUp hosts i w x b → IsHeard w i x meaning
      → Begun meaning now b steps → AreSent (steps ++ busy b steps) ds ps
      → Leads hosts i w x (book_behind b (steps ++ busy b steps)) (recorded (steps ++ busy b steps)) ps (came_of (steps ++ busy b steps))
      (accepted_along hosts i b (steps ++ busy b steps))
  some_lead now meaning b steps ds ps up heard none sent = busy_leads b ds ps up sent
  some_lead now meaning b steps ds ps up heard (some status left turns more) sent = begun_leads now status meaning b left steps ds ps up heard turns sent

  begun_front : (now : ℕ) (meaning : Meaning) (b : Book) (steps front rest : List TurnStep) (ds : List Doing) (ps : List Post) → IsUp hosts i w x b → IsHeard w i x meaning
      → Begun meaning now b steps → steps ≡ front ++ rest → AreSent front ds ps → Leads hosts i w x (book_behind b front) (recorded front) ps (came_of front)
      (accepted_along hosts i b front)
  begun_front now meaning b steps front rest ds ps up heard none e sent = empty_leads hosts i w x b front rest ds ps up e sent
  begun_front now meaning b steps front rest ds ps up heard (some status left turns more) e sent =
      front_leads law hosts i now w x b up left meaning steps status turns front rest ds ps heard e sent

  whole_leads : (lines : List Doing) (meaning : Meaning) (now status : ℕ) (n m : State) (old new : Told) (ps : List Post) → IsUp hosts i w x n.book → IsHeard w i x meaning
      → (h : Whole lines meaning now status (calm n) m old new) → AreSent h.steps h.doings ps → Leads hosts i w x m.book (recorded h.steps) ps m.effects
      (accepted_along hosts i n.book h.steps)
  whole_leads lines meaning now status n m old new ps up heard h sent =
      leads_as hosts i w x (book_behind n.book h.steps) m.book (recorded h.steps) (recorded h.steps) ps ps (came_of h.steps) m.effects (accepted_along hosts i n.book h.steps)
      (accepted_along hosts i n.book h.steps) (sym h.ran.book) refl refl (sym h.ran.effects) refl
      (turns_lead law hosts i w x n.book now status [] meaning h.steps h.doings ps up heard h.turns sent)

  cut_leads : (lines : List Doing) (meaning : Meaning) (now : ℕ) (n m : State) (old new : Told) (ps : List Post) → IsUp hosts i w x n.book → IsHeard w i x meaning
      → (h : Cut lines meaning now (calm n) m old new) → AreSent (h.steps ++ busy n.book h.steps) h.doings ps
      → Leads hosts i w x m.book (recorded (h.steps ++ busy n.book h.steps)) ps m.effects (accepted_along hosts i n.book (h.steps ++ busy n.book h.steps))
  cut_leads lines meaning now n m old new ps up heard h sent =
      let steps = h.steps ++ busy n.book h.steps in
      leads_as hosts i w x (book_behind n.book steps) m.book (recorded steps) (recorded steps) ps ps (came_of steps) m.effects (accepted_along hosts i n.book steps)
      (accepted_along hosts i n.book steps) (sym h.ran.book) refl refl (sym h.ran.effects) refl
      (some_lead now meaning n.book h.steps h.doings ps up heard h.begun sent)

  rest_leads : (n m : State) (ps : List Post) → IsUp hosts i w x n.book → m ≡ calm n → ps ≡ [] → Leads hosts i w x m.book [] ps m.effects []
  rest_leads n m ps up same e =
      leads_as hosts i w x n.book m.book [] [] [] ps [] m.effects [] [] (sym (ap (λ (z : State). z.book) same)) refl (sym e) (sym (ap (λ (z : State). z.effects) same)) refl
      (leads_none hosts i w x n.book up)

  turn_leads : (first : Turned) (role : Role) (n m : State) (old new : Told) (ps : List Post) → IsUp hosts i w x n.book → (t : Turns first role n m old new)
      → (first ≡ turneds.Halted → ⊥) → ((meaning : Meaning) → IsOpened first → Hears role (next_input old.link) meaning → IsHeard w i x meaning)
      → AreSent (steps_in first role n m old new t) (doings_in first role n m old new t) ps
      → Leads hosts i w x m.book (recorded (steps_in first role n m old new t)) ps m.effects (accepted_along hosts i n.book (steps_in first role n m old new t))
  turn_leads (turneds.Served status) role n m old new ps up t runs heard sent =
      whole_leads _ t.serves.meaning t.serves.now status n m old new ps up (heard t.serves.meaning tt t.serves.heard) t.serves.works.0 sent
  turn_leads turneds.Ticked role n m old new ps up t runs heard sent =
      whole_leads _ t.serves.meaning t.serves.now 202 n m old new ps up (heard t.serves.meaning tt t.serves.heard) t.serves.works.0 sent
  turn_leads turneds.NoRoom role n m old new ps up t runs heard sent =
      cut_leads _ t.serves.meaning t.serves.now n m old new ps up (heard t.serves.meaning tt t.serves.heard) t.serves.works sent
  turn_leads turneds.Halted role n m old new ps up t runs heard sent = absurd (runs refl)
  turn_leads turneds.Closed role n m old new ps up t runs heard sent = rest_leads n m ps up t.1.same sent
  turn_leads turneds.LinkDown role n m old new ps up t runs heard sent = rest_leads n m ps up t.1.same sent

  -- those of a turn that is cut off
  turn_front : (first : Turned) (role : Role) (n m : State) (old new : Told) (front rest : List TurnStep) (ds : List Doing) (ps : List Post) → IsUp hosts i w x n.book
      → (t : Turns first role n m old new) → ((meaning : Meaning) → IsOpened first → Hears role (next_input old.link) meaning → IsHeard w i x meaning)
      → begun_in first role n m old new t ≡ front ++ rest → AreSent front ds ps → Leads hosts i w x (book_behind n.book front) (recorded front) ps (came_of front)
      (accepted_along hosts i n.book front)
  turn_front (turneds.Served status) role n m old new front rest ds ps up t heard e sent =
      front_leads law hosts i t.serves.now w x n.book up [] t.serves.meaning t.serves.works.0.steps status t.serves.works.0.turns front rest ds ps (heard t.serves.meaning tt t.serves.heard) e sent
  turn_front turneds.Ticked role n m old new front rest ds ps up t heard e sent =
      front_leads law hosts i t.serves.now w x n.book up [] t.serves.meaning t.serves.works.0.steps 202 t.serves.works.0.turns front rest ds ps (heard t.serves.meaning tt t.serves.heard) e sent
  turn_front turneds.NoRoom role n m old new front rest ds ps up t heard e sent =
      begun_front t.serves.now t.serves.meaning n.book t.serves.works.steps front rest ds ps up (heard t.serves.meaning tt t.serves.heard) t.serves.works.begun e sent
  turn_front turneds.Halted role n m old new front rest ds ps up (inl t) heard e sent = empty_leads hosts i w x n.book front rest ds ps up e sent
  turn_front turneds.Halted role n m old new front rest ds ps up (inr t) heard e sent =
      let h = t.1.serves.works in
      let left = due_outcomes t.1.serves.now (items_of h.step.behind) h.step.behind in
      front_leads law hosts i t.1.serves.now w x n.book up left t.1.serves.meaning (h.step ∷ []) h.status
      (asked h.step [] h.is_first (record { done = []; are = tt; all = refl }) refl) front rest ds ps (heard t.1.serves.meaning tt t.1.serves.heard) e sent
  turn_front turneds.Closed role n m old new front rest ds ps up t heard e sent = empty_leads hosts i w x n.book front rest ds ps up e sent
  turn_front turneds.LinkDown role n m old new front rest ds ps up t heard e sent = empty_leads hosts i w x n.book front rest ds ps up e sent

-- the end of a turn changes the journal alone
abbrev IsSame : State → State → Type 0
IsSame n m = (m.book ≡ n.book) × (m.effects ≡ n.effects)

all_same : (n m : State) → m ≡ n → IsSame n m
all_same n m e = (ap (λ (z : State). z.book) e, ap (λ (z : State). z.effects) e)

shrink_same : (shrunk : Shrunk) (n m : State) (old new : Told) → Shrinks shrunk n m old new → IsSame n m
shrink_same shrunks.NotDue n m old new (inl (due, e)) = all_same n m e
shrink_same shrunks.NotDue n m old new (inr (inl a)) = (ap (λ (z : State). z.book) a.same, ap (λ (z : State). z.effects) a.same)
shrink_same shrunks.NotDue n m old new (inr (inr a)) = (ap (λ (z : State). z.book) a.same, ap (λ (z : State). z.effects) a.same)
shrink_same shrunks.Done n m old new a = (ap (λ (z : State). z.book) a.same, ap (λ (z : State). z.effects) a.same)
shrink_same shrunks.Kept n m old new a = (ap (λ (z : State). z.book) a.same, ap (λ (z : State). z.effects) a.same)
shrink_same shrunks.NoMemory n m old new (due, e) = all_same n m e

ends_same : {S : Type 0} (told : S → Told) (first result : Turned) (shrunk : Shrunk) (n m : State) (old new : S) → Ends told first result shrunk n m old new → IsSame n m
ends_same told (turneds.Served status) result shrunk n m old new e = shrink_same shrunk n m (told old) (told new) e.shrinks
ends_same told turneds.Ticked result shrunk n m old new e = shrink_same shrunk n m (told old) (told new) e.shrinks
ends_same told turneds.NoRoom result shrunk n m old new e = all_same n m e.node
ends_same told turneds.Halted result shrunk n m old new e = all_same n m e.node
ends_same told turneds.Closed result shrunk n m old new e = all_same n m e.node
ends_same told turneds.LinkDown result shrunk n m old new e = all_same n m e.node

pub not_halted : {S : Type 0} (told : S → Told) (first result : Turned) (shrunk : Shrunk) (n m : State) (old new : S) → Ends told first result shrunk n m old new
    → (result ≡ turneds.Halted → ⊥) → first ≡ turneds.Halted → ⊥
not_halted told first result shrunk n m old new ends runs e =
    let rested : Ends told turneds.Halted result shrunk n m old new = subst (λ f. Ends told f result shrunk n m old new) e ends in
    runs rested.answers

-- a start
same_book : RecoversTheCompacted → (base : List ℕ) (xs ys : List Record) → kept_of Two xs ≡ kept_of Two ys → recover base xs ≡ recover base ys
same_book law base xs ys e =
    sym (law.book base xs) ∙ ap (λ (k : Known). recover base (records.Start k.start ∷ (k.live ++ map records.Done k.done))) e ∙ law.book base ys

pub carried_last : ShrinksTheSame → (version : Version) (rs : List Record) → last_incarnation (carried version rs) ≡ last_incarnation rs
carried_last law Two rs = refl
carried_last law One rs = ap (λ (k : Known). k.start) (law.migrated rs)

pub same_last : (xs ys : List Record) → AreSame xs ys → last_incarnation xs ≡ last_incarnation ys
same_last xs ys h = ap last_incarnation (sym (append-nil xs)) ∙ ap (λ (k : Known). k.start) (h []) ∙ ap last_incarnation (append-nil ys)

started_shows : RecoversTheCompacted → ShrinksTheSame → (hosts : Hosts) (i : ℕ) (u : Net) (p : Place) (n : State) (limit : ℕ) (old new : Told) → Shown hosts u → nth i u.places ≡ Some p → p.node ≡ None
    → (start : IsStarted (hosts.base_of i) limit n old new) → AreSame (carried start.version start.rs) p.records → Shown hosts (with_started i u p n)
started_shows recovers shrinks hosts i u p n limit old new h here down start same =
    rose (shown_world hosts u) i (shown_node hosts i p) false h (found_at hosts u i p here) (ap (option_map (λ (k : State). k.book)) down) small is
  where
    behind : List Record → List Record
    behind rs = rs ++ records.Start (last_incarnation rs + 1) ∷ []

    q : Place
    q = record { node = Some n; records = behind p.records }

    y : Node
    y = up_after (node_started (last_incarnation p.records + 1) (shown_node hosts i p)) false

    last : last_incarnation p.records ≡ last_incarnation start.rs
    last = sym (same_last (carried start.version start.rs) p.records same) ∙ carried_last shrinks start.version start.rs

    small : last_incarnation p.records < last_counter
    small = subst (λ k. k < last_counter) (sym last) start.least

    kept : kept_of Two (behind p.records) ≡ kept_of Two (carried start.version start.rs ++ start_after start.rs ∷ [])
    kept = ap (λ k. kept_of Two (p.records ++ records.Start (k + 1) ∷ [])) last ∙ sym (same (start_after start.rs ∷ []))

    book : recover (hosts.base_of i) (behind p.records) ≡ n.book
    book = same_book recovers (hosts.base_of i) (behind p.records) (carried start.version start.rs ++ start_after start.rs ∷ []) kept ∙ sym start.book

    nodes : shown_nodes hosts 1 (put_nth i q u.places) ≡ put_nth i y (shown_nodes hosts 1 u.places)
    nodes = sym (put_at hosts u i p q here)
        ∙ (λ j. put_nth i (record { base = hosts.base_of i; book = Some (sym book j); journal = behind p.records; clock = 0 }) (shown_nodes hosts 1 u.places))

    is : shown_world hosts (with_started i u p n) ≡ record (shown_world hosts u) { nodes = put_nth i y (shown_nodes hosts 1 u.places) }
    is = λ j. record { nodes = nodes j; posted = u.posted; accepted = u.accepted; happened = u.happened }

-- a start of which the record alone stands
start_shows : (hosts : Hosts) (i : ℕ) (u : Net) (p : Place) → Shown hosts u → nth i u.places ≡ Some p → p.node ≡ None → last_incarnation p.records < 4294967295
    → Shown hosts (with_start i u p)
start_shows hosts i u p h here down small =
    rose (shown_world hosts u) i (shown_node hosts i p) true h (found_at hosts u i p here) (ap (option_map (λ (k : State). k.book)) down) small
    (λ j. record {
      nodes = sym (put_at hosts u i p (record { node = None; records = p.records ++ start_after p.records ∷ [] }) here) j;
      posted = u.posted;
      accepted = u.accepted;
      happened = u.happened;
    })

-- the end of a node
ended_shows : (hosts : Hosts) (i : ℕ) (u : Net) (p : Place) (n : State) → Shown hosts u → nth i u.places ≡ Some p → p.node ≡ Some n → Shown hosts (without i u p n)
ended_shows hosts i u p n h here up =
    fell (shown_world hosts u) i (shown_node hosts i p) n.book h found (ap (option_map (λ (k : State). k.book)) up)
    (is ∙ sym (ap (put_book i None (record (shown_world hosts u) { happened = u.happened ++ lost_in i n.book })) found))
  where
    found : nth i (shown_nodes hosts 1 u.places) ≡ Some (shown_node hosts i p)
    found = found_at hosts u i p here

    is : shown_world hosts (without i u p n)
        ≡ record (shown_world hosts u) { nodes = put_nth i (record (shown_node hosts i p) { book = None }) (shown_nodes hosts 1 u.places); happened = u.happened ++ lost_in i n.book }
    is = λ j. record {
      nodes = sym (put_at hosts u i p (record { node = None; records = p.records }) here) j;
      posted = u.posted;
      accepted = u.accepted;
      happened = u.happened ++ lost_in i n.book;
    }

-- some steps, and then its end
broken_shows : (hosts : Hosts) (i : ℕ) (u : Net) (p : Place) (n : State) (steps : List TurnStep) (ps : List Post) → Shown hosts u → nth i u.places ≡ Some p → p.node ≡ Some n
    → (IsUp hosts i (shown_world hosts u) (shown_node hosts i p) n.book
    → Leads hosts i (shown_world hosts u) (shown_node hosts i p) (book_behind n.book steps) (recorded steps) ps (came_of steps) (accepted_along hosts i n.book steps))
    → Shown hosts (broken hosts i u p n steps ps)
broken_shows hosts i u p n steps ps h here up leads =
    ended_shows hosts i (net_after hosts i u p (as_far n steps) (recorded steps) ps (accepted_along hosts i n.book steps)) place (as_far n steps)
    (leads_on hosts i u p n (as_far n steps) (recorded steps) ps (accepted_along hosts i n.book steps) h here up leads) (nth_this u.places i p place here) refl
  where
    place : Place
    place = record { node = Some (as_far n steps); records = p.records ++ recorded steps }

-- a call that does nothing
rested_shows : (hosts : Hosts) (i : ℕ) (u : Net) (p : Place) (n : State) → Shown hosts u → nth i u.places ≡ Some p → p.node ≡ Some n → Shown hosts (rested i u p n)
rested_shows hosts i u p n h here up =
    subst (λ xs. Reached hosts (record (shown_world hosts u) { nodes = xs }))
    (sym (put_same i (shown_node hosts i p) (shown_nodes hosts 1 u.places) (found_at hosts u i p here))
    ∙ (λ j. put_nth i (record { base = hosts.base_of i; book = option_map (λ (k : State). k.book) (up j); journal = p.records; clock = 0 }) (shown_nodes hosts 1 u.places))
    ∙ put_at hosts u i p (record { node = Some (record n { effects = [] }); records = p.records }) here)
    h

-- a request
asked_leads : (hosts : Hosts) (i : ℕ) (w : World) (x : Node) (n m : State) (l : Local) (now status : ℕ) (old new : Told) (ps : List Post) → IsUp hosts i w x n.book
    → (done : IsDone status (cleared n) m (events.Local l) now old new) → Sent done.leaving done.went.made ps
    → Leads hosts i w x m.book (records_by (if_landed done.landed (plan n.book (events.Local l) now).entry)) ps m.effects (accepted_between hosts i n.book m.book)
asked_leads hosts i w x n m l now status old new ps up done sent =
    leads_as hosts i w x s.behind m.book (records_by (if_landed s.landed s.entry)) (records_by (if_landed s.landed s.entry)) ps ps s.came m.effects
    (accepted_between hosts i n.book s.behind) (accepted_between hosts i n.book m.book) (sym done.went.book) refl refl (sym done.went.effects)
    (ap (accepted_between hosts i n.book) (sym done.went.book))
    (steps_lead hosts i w x n.book (events.Local l) now s (record { landed = []; first = []; made = done.went.made; lost = 0; refused = 0 }) ps up tt
    (record { entry = refl; outcome = record { leaving = done.are; behind = refl; came = refl } }) sent)
  where
    s : TurnStep
    s = record {
      entry = (plan n.book (events.Local l) now).entry;
      landed = done.landed;
      leaving = done.leaving;
      behind = (step n.book (events.Local l) now done.landed).book;
      came = (step n.book (events.Local l) now done.landed).effects;
    }

module _ (walks : WalksTheDue) (recovers : RecoversTheCompacted) (shrinks : ShrinksTheSame) where
  shows : {S : Type 0} (told : S → Told) (hosts : Hosts) (net : Net) → Runs told hosts net → Shown hosts net
  shows told hosts net (Runs.opened is) = subst (Shown hosts) (sym is) (opens hosts)
  shows told hosts net (Runs.started u i p n limit s t run here down start same is) =
      subst (Shown hosts) (sym is) (started_shows recovers shrinks hosts i u p n limit (told s) (told t) (shows told hosts u run) here down start same)
  shows told hosts net (Runs.start_recorded u i p run here down small is) =
      subst (Shown hosts) (sym is) (start_shows hosts i u p (shows told hosts u run) here down small)
  shows told hosts net (Runs.turned u i p n m result role shrunk s t ps run here up turn runs brings sent is) =
      let h = shows told hosts u run in
      let first = turn.first in
      let steps = steps_in first role n turn.node (told s) (told turn.behind) turn.steps in
      let (book, effects) = ends_same told first result shrunk turn.node m turn.behind t turn.ends in
      subst (Shown hosts) (sym is)
      (leads_on hosts i u p n m (recorded steps) ps (accepted_along hosts i n.book steps) h here up (λ at_once.
      leads_as hosts i (shown_world hosts u) (shown_node hosts i p) turn.node.book m.book (recorded steps) (recorded steps) ps ps turn.node.effects m.effects
      (accepted_along hosts i n.book steps) (accepted_along hosts i n.book steps) (sym book) refl refl (sym effects) refl
      (turn_leads walks hosts i (shown_world hosts u) (shown_node hosts i p) first role n turn.node (told s) (told turn.behind) ps at_once turn.steps
      (not_halted told first result shrunk turn.node m turn.behind t turn.ends runs)
      (λ meaning opens hears. heard_at hosts i u role (told s) p meaning (brings opens) hears) sent)))
  shows told hosts net (Runs.asked u i p n m id l s t ps run here up done sent is) =
      let h = shows told hosts u run in
      subst (Shown hosts) (sym is)
      (leads_on hosts i u p n m (records_by (if_landed done.3.3.landed (plan n.book (events.Local l) done.3.0).entry)) ps (accepted_between hosts i n.book m.book) h here up (λ at_once.
      asked_leads hosts i (shown_world hosts u) (shown_node hosts i p) n m l done.3.0 done.3.1 (told s) (told t) ps at_once done.3.3 sent))
  shows told hosts net (Runs.cut_off u i p n m result role shrunk s t front rest ds ps run here up turn brings begun sent is) =
      let h = shows told hosts u run in
      subst (Shown hosts) (sym is)
      (broken_shows hosts i u p n front ps h here up (λ at_once.
      turn_front walks hosts i (shown_world hosts u) (shown_node hosts i p) turn.first role n turn.node (told s) (told turn.behind) front rest ds ps at_once turn.steps
      (λ meaning opens hears. heard_at hosts i u role (told s) p meaning (brings opens) hears) begun sent))
  shows told hosts net (Runs.asked_cut_off u i p n l now step doing ps run here up does sent is) =
      let h = shows told hosts u run in
      subst (Shown hosts) (sym is)
      (broken_shows hosts i u p n (step ∷ []) ps h here up (λ at_once.
      one_row hosts i (shown_world hosts u) (shown_node hosts i p) n.book step ps at_once
      (steps_lead hosts i (shown_world hosts u) (shown_node hosts i p) n.book (events.Local l) now step doing ps at_once tt does sent)))
  shows told hosts net (Runs.idled u i p n run here up is) = subst (Shown hosts) (sym is) (rested_shows hosts i u p n (shows told hosts u run) here up)
  shows told hosts net (Runs.ended u i p n run here up is) = subst (Shown hosts) (sym is) (ended_shows hosts i u p n (shows told hosts u run) here up)

  -- the lists of each book are in order
  pub book_order : {S : Type 0} (told : S → Told) (hosts : Hosts) (net : Net) → Runs told hosts net → (i : ℕ) (p : Place) (n : State) → nth i net.places ≡ Some p → p.node ≡ Some n
      → IsInOrder n.book
  book_order told hosts net run i p n here up =
      subst (IfThere IsInOrder) (ap (option_map (λ (k : State). k.book)) up)
      (in_order hosts (shown_world hosts net) (shows told hosts net run) i (shown_node hosts i p) (found_at hosts net i p here))

  pub nets_are_worlds : {S : Type 0} (told : S → Told) → NetsAreWorlds told
  nets_are_worlds told hosts net run = (
    shows told hosts net run,
    record {
      nodes = λ i p here. (shown_node hosts i p, found_at hosts net i p here, record { base = refl; book = refl; journal = refl });
      posted = refl;
      accepted = refl;
      happened = refl;
    },
  )
