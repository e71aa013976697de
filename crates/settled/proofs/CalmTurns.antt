-- A turn in which every record lands and every message is sent, as one step after the other.
use Rattle.std.specs.Prelude.{ℕ, List, [], ◌∷◌, ◌++◌, Option, Some, None, Bool, true, false, nat_eq, option_and_then, zero, suc, ◌+◌, ◌-◌, if◌then◌else◌, drop, length, map, ◌≡◌, ◌≤◌, ◌⊎◌, refl}
use Rattle.std.specs.List.{AllByRecursion}
use Rattle.std.proofs.Common.{inl, inr, arith, sym, subst, ap, ◌∙◌}
use Rattle.std.proofs.lemmas.List.{append-nil, append_assoc, drop-drop, length-append}
use Rattle.at_base.specs.declared.event.Arrived.{Arrived}
use Rattle.at_base.specs.declared.event.Event.{Event}
use Rattle.at_base.specs.declared.event.Event.TheVariants as events
use Rattle.at_base.specs.declared.event.Item.{Item}
use Rattle.at_base.specs.declared.outs.Out.{Out}
use Rattle.at_base.specs.declared.outs.Out.TheVariants as outs
use Rattle.at_base.specs.declared.outs.Post.{Post}
use Rattle.at_base.specs.declared.record.Record.{Record}
use Rattle.at_base.specs.declared.epr.Epr.{Epr}
use Rattle.at_base.specs.declared.target.Target.{Target}
use Rattle.std.proofs.lemmas.Bool.{eq-eqb}
use Rattle.at_model.specs.Book.{Book}
use Rattle.at_base.specs.declared.limits.TheConstants.{RESEND_AFTER}
use Rattle.at_model.specs.Step.{Outcome, Plan, is_due, items_of, plan}
use Rattle.at_model.specs.World.{Deliver, Node, Posted, Tick, Turn, Turning, World, accepted_in, answer_plan, arrival_of, arrival_plan, decoded_at, new_nodes, at_some_node, counted, decoded, deliver, due_step, due_steps, happened_at, is_receiver, later, nth, on_book, put_book, put_nth, send_all, step_by, take_step, take_turn, ticked, turned, with_post, with_record, world_step, Hosts, HaveOwnAddresses, Traced, traced}
use Rattle.endpoints.specs.Addresses.{target_at}
use Rattle.endpoints.specs.Forms.{takes}
use Rattle.model_laws.specs.Agreement.{IsIn}
use Rattle.model_laws.specs.DrawnIds.{with_entry}
use Rattle.model_laws.specs.ReachedWorlds.{Heard, Reached, counts, post_all, stepped, waited}
use Rattle.model_laws.specs.Settlement.{first_received, received_or}
use Rattle.model_laws.proofs.StepRegistrations.{none_new}
use Rattle.model_laws.proofs.Nodes.{accepted_same, bases_back, bases_put, put_put, put_same, receiver_same, same_bases}
use Rattle.model_laws.proofs.Addresses.{HaveBases}
use Rattle.model_laws.proofs.NodeLives.{opening_node, put_this}
use Rattle.enlistments.proofs.Arrivals.{world_bases}
use Rattle.enlistments.proofs.StepMoves.{book_ready}
use Rattle.owed.specs.Seats.{posts_of}
use Rattle.settling.specs.Payments.{MakesNothing}
use Rattle.settling.proofs.Places.{nth_behind, nth_drop, nth_within}
use Rattle.settled.specs.SettlingInvariants.{Invariant, IsLost}
use Rattle.settled.specs.CalmSteps.{Goes, HasArrived, MakesNone, posted_as}

-- no fate is told, and no stop comes
abbrev calm : World → Book → List Traced → Turning
calm w b t = record { world = w; book = b; fates = []; until = None; trace = t }

abbrev newest : ℕ → Node → World → Book → World
newest n x w b = record w { nodes = put_nth n (record x { book = Some b }) w.nodes }

-- lists
pub front_in : (k : ℕ) (q : Posted) (xs ys : List Posted) → IsIn q (drop k xs) → IsIn q (drop k (xs ++ ys))
front_in zero q [] ys i = absurd i
front_in zero q (x ∷ xs) ys (inl e) = inl e
front_in zero q (x ∷ xs) ys (inr i) = inr (front_in zero q xs ys i)
front_in (suc k) q [] ys i = absurd i
front_in (suc k) q (x ∷ xs) ys i = front_in k q xs ys i

pub back_in : (k : ℕ) (q : Posted) (xs ys : List Posted) → k ≤ length xs → IsIn q ys → IsIn q (drop k (xs ++ ys))
back_in zero q [] ys h i = i
back_in zero q (x ∷ xs) ys h i = inr (back_in zero q xs ys (omega arith) i)
back_in (suc k) q [] ys h i = absurd (omega (arith, h))
back_in (suc k) q (x ∷ xs) ys h i = back_in k q xs ys (omega (arith, h)) i

-- what is sent
send_calm : (n : ℕ) (os : List Out) (w : World) (b : Book) (t : List Traced) → send_all n os (calm w b t) ≡ calm (post_all n (posts_of os) w) b t
send_calm n [] w b t = refl
send_calm n (outs.Post p ∷ os) w b t = send_calm n os (with_post n p w) b t
send_calm n (outs.Answer status reply ∷ os) w b t = send_calm n os w b t

posts_nodes : (n : ℕ) (ps : List Post) (w : World) → (post_all n ps w).nodes ≡ w.nodes
posts_nodes n [] w = refl
posts_nodes n (p ∷ ps) w = posts_nodes n ps (with_post n p w)

posts_posted : (n : ℕ) (ps : List Post) (w : World) → (post_all n ps w).posted ≡ w.posted ++ map (posted_as n w.nodes) ps
posts_posted n [] w = sym (append-nil w.posted)
posts_posted n (p ∷ ps) w = posts_posted n ps (with_post n p w) ∙ append_assoc w.posted (posted_as n w.nodes p ∷ []) (map (posted_as n w.nodes) ps)

newest_post : (n : ℕ) (p : Post) (x : Node) (w : World) (b : Book) → nth n w.nodes ≡ Some x → newest n x (with_post n p w) b ≡ with_post n p (newest n x w b)
newest_post n p x w b found = λ i. record w {
  nodes = put_nth n (record x { book = Some b }) w.nodes;
  posted = w.posted ++ record {
    sender = n;
    receiver = sym (receiver_same (put_nth n (record x { book = Some b }) w.nodes) w.nodes p.to
        (bases_put w.nodes w.nodes n x (record x { book = Some b }) found refl (same_bases w.nodes))) i;
    content = p;
  } ∷ [];
}

newest_posts : (n : ℕ) (ps : List Post) (x : Node) (w : World) (b : Book) → nth n w.nodes ≡ Some x → newest n x (post_all n ps w) b ≡ post_all n ps (newest n x w b)
newest_posts n [] x w b found = refl
newest_posts n (p ∷ ps) x w b found = newest_posts n ps x (with_post n p w) b found ∙ ap (post_all n ps) (newest_post n p x w b found)

-- a step that counts
counted_is : (n : ℕ) (u : World) (x : Node) (b : Book) (e : Event) (now : ℕ) (entry : Option Record) → nth n u.nodes ≡ Some x → (plan b e now).entry ≡ entry
    → newest n (record x { journal = with_entry entry true x.journal }) (record u {
      nodes = put_nth n (record x { journal = with_entry entry true x.journal }) u.nodes;
      accepted = u.accepted ++ accepted_in n (put_nth n (record x { journal = with_entry entry true x.journal }) u.nodes) b (plan b e now).landed.book.transactions;
      happened = u.happened ++ map (happened_at n) (plan b e now).landed.effects;
    }) (plan b e now).landed.book ≡ counts (newest n x u b) n (record x { book = Some b }) b e now true
counted_is n u x b e now entry found entry_is = before ∙ ap entered (sym entry_is)
  where
    o : Outcome
    o = (plan b e now).landed

    y : Node
    y = record x { journal = with_entry entry true x.journal }

    entered : Option Record → World
    entered rec = record u {
      nodes = put_nth n (record x { book = Some o.book; journal = with_entry rec true x.journal }) (put_nth n (record x { book = Some b }) u.nodes);
      accepted = u.accepted ++ accepted_in n (put_nth n (record x { book = Some b }) u.nodes) b o.book.transactions;
      happened = u.happened ++ map (happened_at n) o.effects;
    }

    before : newest n y (record u {
      nodes = put_nth n y u.nodes;
      accepted = u.accepted ++ accepted_in n (put_nth n y u.nodes) b o.book.transactions;
      happened = u.happened ++ map (happened_at n) o.effects;
    }) o.book ≡ entered entry
    before = λ i. record u {
      nodes = (put_put n y (record y { book = Some o.book }) u.nodes ∙ sym (put_put n (record x { book = Some b }) (record y { book = Some o.book }) u.nodes)) i;
      accepted = u.accepted ++ accepted_same n (put_nth n y u.nodes) (put_nth n (record x { book = Some b }) u.nodes) b o.book.transactions
          (bases_put u.nodes (put_nth n (record x { book = Some b }) u.nodes) n x y found refl
          (bases_back (put_nth n (record x { book = Some b }) u.nodes) u.nodes (bases_put u.nodes u.nodes n x (record x { book = Some b }) found refl (same_bases u.nodes)))) i;
      happened = u.happened ++ map (happened_at n) o.effects;
    }

-- a message that arrives is what was posted
is_in_list : (k : ℕ) (x : Posted) (xs : List Posted) → nth k xs ≡ Some x → IsIn x xs
is_in_list k x [] e = absurd cc
is_in_list k x (y ∷ ys) e = by_number (λ f. is_in_list (k - 1) x ys f) (nat_eq k 1) e
  where
    by_number : (nth (k - 1) ys ≡ Some x → IsIn x ys) → (c : Bool) → (if c then Some y else nth (k - 1) ys) ≡ Some x → IsIn x (y ∷ ys)
    by_number rest true f = inl cc
    by_number rest false f = inr (rest f)

decoded_message : (base : List ℕ) (p : Post) (a : Arrived) → decoded base p ≡ Some a → a.message ≡ p.message
decoded_message base p a e = by_endpoint p.to e
  where
    by_taken : (T : Target) (c : Bool) → (if c then Some (arrival_of T p) else None) ≡ Some a → a.message ≡ p.message
    by_taken T true f = let same : arrival_of T p ≡ a = cc in sym (ap (λ (y : Arrived). y.message) same)
    by_taken T false f = absurd cc

    by_target : (o : Option Target) → decoded_at o p ≡ Some a → a.message ≡ p.message
    by_target None f = absurd cc
    by_target (Some T) f = by_taken T (takes T p.message) f

    by_endpoint : (o : Option Epr) → option_and_then (λ (to : Epr). decoded_at (target_at base to.address) p) o ≡ Some a → a.message ≡ p.message
    by_endpoint None f = absurd cc
    by_endpoint (Some to) f = by_target (target_at base to.address) f

-- a node's base
base_at : (xs ys : List Node) (n : ℕ) (x : Node) → HaveBases xs ys → nth n xs ≡ Some x → (y : Node) × (nth n ys ≡ Some y) × (x.base ≡ y.base)
base_at [] ys n x h e = absurd cc
base_at (z ∷ xs) [] n x h e = absurd h
base_at (z ∷ xs) (y ∷ ys) n x (h, k) e = by_number (λ f. base_at xs ys (n - 1) x k f) (nat_eq n 1) e
  where
    by_number : (nth (n - 1) xs ≡ Some x → (v : Node) × (nth (n - 1) ys ≡ Some v) × (x.base ≡ v.base)) → (c : Bool) → (if c then Some z else nth (n - 1) xs) ≡ Some x
        → (v : Node) × ((if c then Some y else nth (n - 1) ys) ≡ Some v) × (x.base ≡ v.base)
    by_number rest true f = let same : z ≡ x = cc in (y, refl, ap (λ (v : Node). v.base) (sym same) ∙ h)
    by_number rest false f = rest f

node_base : (hosts : Hosts) (w : World) → HaveOwnAddresses hosts → Reached hosts w → (n : ℕ) (x : Node) → nth n w.nodes ≡ Some x → x.base ≡ hosts.base_of n
node_base hosts w distinct reached n x found =
    let (y, there, same) = base_at w.nodes (new_nodes hosts.base_of hosts.count 1) n x (world_bases hosts w distinct reached) found in
    same ∙ ap (λ (v : Node). v.base) (opening_node hosts n y there)

-- A turn on its way.
record Standing (hosts : Hosts) (inv : Invariant hosts) (n k : ℕ) (r : Turning) : Type 0 where
  world : World
  book : Book
  trace : List Traced
  is : r ≡ calm world book trace
  node : Node
  found : nth n world.nodes ≡ Some node
  reached : Reached hosts (newest n node world book)
  passed : k ≤ length world.posted
  holds : inv.Of (newest n node world book) (drop k world.posted)

abbrev Stays : Hosts → ℕ → Event → List Posted → List Posted → Type 0
Stays hosts n e before after = (q : Posted) → IsIn q before → IsIn q after ⊎ HasArrived hosts n e q

all_own : (os : List Out) → AllByRecursion (λ p. IsIn (outs.Post p) os) (posts_of os)
all_own [] = tt
all_own (outs.Post p ∷ os) = (inl refl, more os (posts_of os) (all_own os))
  where
    more : (rest : List Out) (ps : List Post) → AllByRecursion (λ q. IsIn (outs.Post q) rest) ps → AllByRecursion (λ q. IsIn (outs.Post q) (outs.Post p ∷ rest)) ps
    more rest [] h = tt
    more rest (q ∷ qs) (h, k) = (inr h, more rest qs k)
all_own (outs.Answer status reply ∷ os) = more os (posts_of os) (all_own os)
  where
    more : (rest : List Out) (ps : List Post) → AllByRecursion (λ q. IsIn (outs.Post q) rest) ps → AllByRecursion (λ q. IsIn (outs.Post q) (outs.Answer status reply ∷ rest)) ps
    more rest [] h = tt
    more rest (q ∷ qs) (h, k) = (inr h, more rest qs k)

counted_stands : (hosts : Hosts) (inv : Invariant hosts) (n k : ℕ) (u : World) (x : Node) (b : Book) (t : List Traced) (e : Event) (now : ℕ) (entry : Option Record) (before : List Posted) → HaveOwnAddresses hosts
    → nth n u.nodes ≡ Some x → (plan b e now).entry ≡ entry → Reached hosts (newest n x u b) → k ≤ length u.posted → Heard (newest n x u b) n x e → MakesNone e
    → Stays hosts n e before (drop k u.posted) → inv.Of (newest n x u b) before
    → Standing hosts inv n k (counted n (plan b e now).landed (calm (record u { nodes = put_nth n (record x { journal = with_entry entry true x.journal }) u.nodes }) b t))
counted_stands hosts inv n k u x b t e now entry before distinct found entry_is reached passed heard makes stays h = record {
  world = post_all n ps begun;
  book = o.book;
  trace = t ++ traced o (calm u b t) ∷ [];
  is = send_calm n o.outs begun o.book (t ++ traced o (calm u b t) ∷ []);
  node = y;
  found = ap (nth n) (posts_nodes n ps begun) ∙ there;
  reached = subst (Reached hosts) (sym same) (stepped (newest n x u b) n (record x { book = Some b }) b e now true ps reached standing refl heard (all_own o.outs) refl);
  passed = subst (λ (zs : List Posted). k ≤ length zs) (sym (posts_posted n ps begun)) more;
  holds = subst (λ (w : World). inv.Of w (drop k w.posted)) (sym same) (inv.on (newest n x u b) v before (drop k v.posted) goes h);
}
  where
    o : Outcome
    o = (plan b e now).landed

    ps : List Post
    ps = posts_of o.outs

    y : Node
    y = record x { journal = with_entry entry true x.journal }

    begun : World
    begun = record u {
      nodes = put_nth n y u.nodes;
      accepted = u.accepted ++ accepted_in n (put_nth n y u.nodes) b o.book.transactions;
      happened = u.happened ++ map (happened_at n) o.effects;
    }

    there : nth n begun.nodes ≡ Some y
    there = put_this u.nodes n x y found

    standing : nth n (newest n x u b).nodes ≡ Some (record x { book = Some b })
    standing = put_this u.nodes n x (record x { book = Some b }) found

    v : World
    v = post_all n ps (counts (newest n x u b) n (record x { book = Some b }) b e now true)

    same : newest n y (post_all n ps begun) o.book ≡ v
    same = newest_posts n ps y begun o.book there ∙ ap (post_all n ps) (counted_is n u x b e now entry found entry_is)

    more : k ≤ length (begun.posted ++ map (posted_as n begun.nodes) ps)
    more = omega (arith, passed, length-append begun.posted (map (posted_as n begun.nodes) ps))

    -- where a message is posted to depends on the bases alone
    as_posted : (qs : List Post) → map (posted_as n (counts (newest n x u b) n (record x { book = Some b }) b e now true).nodes) qs ≡ map (posted_as n (newest n x u b).nodes) qs
    as_posted [] = refl
    as_posted (q ∷ qs) = λ i.
        record {
          sender = n;
          receiver = receiver_same (put_nth n (record x { book = Some o.book; journal = with_entry (plan b e now).entry true x.journal }) (newest n x u b).nodes) (newest n x u b).nodes q.to
              (bases_put (newest n x u b).nodes (newest n x u b).nodes n (record x { book = Some b }) (record x { book = Some o.book; journal = with_entry (plan b e now).entry true x.journal })
              standing refl (same_bases (newest n x u b).nodes)) i;
          content = q;
        } ∷ as_posted qs i

    posted : v.posted ≡ u.posted ++ map (posted_as n (newest n x u b).nodes) ps
    posted = posts_posted n ps (counts (newest n x u b) n (record x { book = Some b }) b e now true) ∙ ap (λ zs. u.posted ++ zs) (as_posted ps)

    goes : Goes hosts (newest n x u b) v before (drop k v.posted)
    goes = record {
      distinct = distinct;
      reached = reached;
      number = n;
      node = record x { book = Some b };
      book = b;
      event = e;
      now = now;
      found = standing;
      up = refl;
      heard = heard;
      makes = makes;
      is = refl;
      stays = λ q i. by_place q (stays q i);
      adds = λ q i. subst (λ zs. IsIn q (drop k zs)) (sym posted) (back_in k q u.posted (map (posted_as n (newest n x u b).nodes) ps) passed i);
    }
      where
        by_place : (q : Posted) → IsIn q (drop k u.posted) ⊎ HasArrived hosts n e q → IsIn q (drop k v.posted) ⊎ HasArrived hosts n e q
        by_place q (inl j) = inl (subst (λ zs. IsIn q (drop k zs)) (sym posted) (front_in k q u.posted (map (posted_as n (newest n x u b).nodes) ps) j))
        by_place q (inr arrived) = inr arrived

take_stands : (hosts : Hosts) (inv : Invariant hosts) (n k : ℕ) (u : World) (x : Node) (b : Book) (t : List Traced) (e : Event) (now : ℕ) (before : List Posted) → HaveOwnAddresses hosts → nth n u.nodes ≡ Some x
    → Reached hosts (newest n x u b) → k ≤ length u.posted → Heard (newest n x u b) n x e → MakesNone e → Stays hosts n e before (drop k u.posted) → inv.Of (newest n x u b) before
    → Standing hosts inv n k (take_step n (plan b e now) (calm u b t))
unfolding counted_stands
take_stands hosts inv n k u x b t e now before distinct found reached passed heard makes stays h = by_entry (plan b e now).entry refl
  where
    by_entry : (entry : Option Record) → (plan b e now).entry ≡ entry → Standing hosts inv n k (step_by n entry (plan b e now) (calm u b t))
    by_entry None f =
        subst (λ xs. Standing hosts inv n k (counted n (plan b e now).landed (calm (record u { nodes = xs }) b t))) (put_same n x u.nodes found)
        (counted_stands hosts inv n k u x b t e now None before distinct found f reached passed heard makes stays h)
    by_entry (Some entry) f =
        subst (λ w. Standing hosts inv n k (counted n (plan b e now).landed (calm w b t))) (sym (ap (with_record n entry u) found))
        (counted_stands hosts inv n k u x b t e now (Some entry) before distinct found f reached passed heard makes stays h)

-- the due steps
due_stands : (hosts : Hosts) (inv : Invariant hosts) (n k now : ℕ) (item : Item) (r : Turning) → HaveOwnAddresses hosts → Standing hosts inv n k r → Standing hosts inv n k (due_step n now item r)
due_stands hosts inv n k now item r distinct s =
    subst (λ t. Standing hosts inv n k (due_step n now item t)) (sym s.is) (by_due (is_due s.book now item))
  where
    by_due : (c : Bool) → Standing hosts inv n k (if c then take_step n (plan s.book (events.Due item) now) (calm s.world s.book s.trace) else calm s.world s.book s.trace)
    by_due true =
        take_stands hosts inv n k s.world s.node s.book s.trace (events.Due item) now (drop k s.world.posted) distinct s.found s.reached s.passed tt tt (λ q i. inl i) s.holds
    by_due false = record { world = s.world; book = s.book; trace = s.trace; is = refl; node = s.node; found = s.found; reached = s.reached; passed = s.passed; holds = s.holds }

dues_stand : (hosts : Hosts) (inv : Invariant hosts) (n k now : ℕ) (items : List Item) (r : Turning) → HaveOwnAddresses hosts → Standing hosts inv n k r → Standing hosts inv n k (due_steps n now items r)
dues_stand hosts inv n k now [] r distinct s = s
dues_stand hosts inv n k now (item ∷ rest) r distinct s = dues_stand hosts inv n k now rest (due_step n now item r) distinct (due_stands hosts inv n k now item r distinct s)

-- A world behind a turn.
pub record After (hosts : Hosts) (inv : Invariant hosts) (k : ℕ) (w : World) : Type 0 where
  pub reached : Reached hosts w
  pub passed : k ≤ length w.posted
  pub holds : inv.Of w (drop k w.posted)

turn_after : (hosts : Hosts) (inv : Invariant hosts) (n k : ℕ) (r : Turning) → Standing hosts inv n k r → After hosts inv k (turned n r)
turn_after hosts inv n k r s =
    subst (λ t. After hosts inv k (turned n t)) (sym s.is)
    (subst (λ o. After hosts inv k (put_book n (Some s.book) s.world o)) (sym s.found) (record { reached = s.reached; passed = s.passed; holds = s.holds }))

taken_after : (hosts : Hosts) (inv : Invariant hosts) (n k now : ℕ) (p : Plan) (r : Turning) → HaveOwnAddresses hosts → Standing hosts inv n k (take_step n p r) → After hosts inv k (take_turn n now p r)
taken_after hosts inv n k now p r distinct s =
    turn_after hosts inv n k (due_steps n now (items_of (take_step n p r).book) (take_step n p r))
    (dues_stand hosts inv n k now (items_of (take_step n p r).book) (take_step n p r) distinct s)

-- a turn begins with the world as it is
begins : (w : World) (n : ℕ) (x : Node) (b : Book) → nth n w.nodes ≡ Some x → x.book ≡ Some b → w ≡ newest n x w b
begins w n x b found up = λ i. record w { nodes = (sym (put_same n x w.nodes found) ∙ ap (λ o. put_nth n (record x { book = o }) w.nodes) up) i }

-- a tick
tick_plan_stands : (hosts : Hosts) (inv : Invariant hosts) (n k : ℕ) (w : World) (x : Node) (b : Book) (now : ℕ) → HaveOwnAddresses hosts → nth n w.nodes ≡ Some x → x.book ≡ Some b → After hosts inv k w
    → Standing hosts inv n k (take_step n (plan b events.Tick now) (calm w b []))
tick_plan_stands hosts inv n k w x b now distinct found up a =
    take_stands hosts inv n k w x b [] events.Tick now (drop k w.posted) distinct found (subst (Reached hosts) (begins w n x b found up) a.reached) a.passed tt tt (λ q i. inl i)
    (subst (λ (z : World). inv.Of z (drop k w.posted)) (begins w n x b found up) a.holds)

pub tick_after : (hosts : Hosts) (inv : Invariant hosts) (n k : ℕ) (w : World) → HaveOwnAddresses hosts → After hosts inv k w → After hosts inv k (world_step w (Turn n (Tick RESEND_AFTER) [] None))
unfolding world_step
tick_after hosts inv n k w distinct a = by_node (nth n w.nodes) refl
  where
    by_book : (x : Node) (o : Option Book) → nth n w.nodes ≡ Some x → x.book ≡ o
        → After hosts inv k (on_book o (λ b. take_turn n (x.clock + RESEND_AFTER) (plan b events.Tick (x.clock + RESEND_AFTER)) (calm (ticked n (later RESEND_AFTER x) w) b [])) w)
    by_book x None found up = a
    by_book x (Some b) found up =
        let v : World = ticked n (later RESEND_AFTER x) w in
        taken_after hosts inv n k (x.clock + RESEND_AFTER) (plan b events.Tick (x.clock + RESEND_AFTER)) (calm v b []) distinct
        (tick_plan_stands hosts inv n k v (later RESEND_AFTER x) b (x.clock + RESEND_AFTER) distinct (put_this w.nodes n x (later RESEND_AFTER x) found) up
        (record {
          reached = waited w n x (x.clock + RESEND_AFTER) a.reached found refl;
          passed = a.passed;
          holds = inv.waits w n x (x.clock + RESEND_AFTER) (drop k w.posted) found a.holds;
        }))

    by_node : (o : Option Node) → nth n w.nodes ≡ o → After hosts inv k (at_some_node (Turn n (Tick RESEND_AFTER) [] None) o w)
    by_node None found = a
    by_node (Some x) found = by_book x x.book found refl

-- the first message that has a receiver
pub record FirstAt (i : ℕ) (ps : List Posted) (k n : ℕ) : Type 0 where
  pub behind : ℕ
  pub number : k ≡ i + behind
  pub post : Posted
  pub at : nth (behind + 1) ps ≡ Some post
  pub receiver : post.receiver ≡ Some n
  pub rest : (q : Posted) → IsIn q ps → (q.receiver ≡ None) ⊎ ((q ≡ post) ⊎ IsIn q (drop (behind + 1) ps))

pub first_at : (i : ℕ) (ps : List Posted) (k n : ℕ) → first_received i ps ≡ Some (k, n) → FirstAt i ps k n
first_at i [] k n e = absurd cc
first_at i (p ∷ ps) k n e = by_receiver p.receiver refl e (λ f. first_at (i + 1) ps k n f)
  where
    one_more : p.receiver ≡ None → FirstAt (i + 1) ps k n → FirstAt i (p ∷ ps) k n
    one_more none h =
        let d : ℕ = h.behind in
        let less : d + 1 + 1 - 1 ≡ d + 1 = omega arith in
        let more : d + 1 + 1 ≡ suc (d + 1) = omega arith in
        record {
          behind = d + 1;
          number = omega (arith, h.number);
          post = h.post;
          at = nth_behind (d + 1 + 1) p ps (omega arith) ∙ ap (λ m. nth m ps) less ∙ h.at;
          receiver = h.receiver;
          rest = λ q j. subst (λ m. (q.receiver ≡ None) ⊎ ((q ≡ h.post) ⊎ IsIn q (drop m (p ∷ ps)))) (sym more) (by_place q j);
        }
      where
        by_place : (q : Posted) → IsIn q (p ∷ ps) → (q.receiver ≡ None) ⊎ ((q ≡ h.post) ⊎ IsIn q (drop (h.behind + 1) ps))
        by_place q (inl is) = inl (ap (λ (y : Posted). y.receiver) is ∙ none)
        by_place q (inr j) = h.rest q j

    by_receiver : (o : Option ℕ) → p.receiver ≡ o → received_or i o (first_received (i + 1) ps) ≡ Some (k, n)
        → (first_received (i + 1) ps ≡ Some (k, n) → FirstAt (i + 1) ps k n) → FirstAt i (p ∷ ps) k n
    by_receiver None f g rest = one_more f (rest g)
    by_receiver (Some m) f g rest =
        let (same, to) = both i m k n g in
        record { behind = 0; number = omega (arith, same); post = p; at = refl; receiver = f ∙ ap Some to; rest = λ q j. inr j }
      where
        both : (a b c d : ℕ) → ◌≡◌ {A = Option (ℕ × ℕ)} (Some (a, b)) (Some (c, d)) → (a ≡ c) × (b ≡ d)
        both a b c d h = (λ t. first a (h t), λ t. second b (h t))
          where
            first : ℕ → Option (ℕ × ℕ) → ℕ
            first z None = z
            first z (Some q) = q.0

            second : ℕ → Option (ℕ × ℕ) → ℕ
            second z None = z
            second z (Some q) = q.1

-- a delivery
arrival_after : (hosts : Hosts) (inv : Invariant hosts) (n k : ℕ) (w : World) (x : Node) (b : Book) (p : Posted) → HaveOwnAddresses hosts → nth n w.nodes ≡ Some x → x.book ≡ Some b → Reached hosts w
    → k ≤ length w.posted → IsIn p w.posted → p.receiver ≡ Some n → MakesNothing p.content.message → inv.Of w (p ∷ drop k w.posted)
    → After hosts inv k (take_turn n x.clock (arrival_plan b x.clock (decoded x.base p.content)) (calm w b []))
arrival_after hosts inv n k w x b p distinct found up reached passed among to plain h = by_decoded (decoded x.base p.content) refl
  where
    base : x.base ≡ hosts.base_of n
    base = node_base hosts w distinct reached n x found

    now_reached : Reached hosts (newest n x w b)
    now_reached = subst (Reached hosts) (begins w n x b found up) reached

    now_holds : inv.Of (newest n x w b) (p ∷ drop k w.posted)
    now_holds = subst (λ (z : World). inv.Of z (p ∷ drop k w.posted)) (begins w n x b found up) h

    no_answer : decoded x.base p.content ≡ None → Standing hosts inv n k (take_step n (answer_plan b 500) (calm w b []))
    no_answer e = record {
      world = v;
      book = b;
      trace = traced (answer_plan b 500).landed (calm w b []) ∷ [];
      is = refl;
      node = x;
      found = found;
      reached = subst (λ (z : World). Reached hosts (newest n x z b)) (sym same) now_reached;
      passed = passed;
      holds = subst (λ (z : World). inv.Of (newest n x z b) (drop k w.posted)) (sym same) (inv.drops (newest n x w b) (p ∷ drop k w.posted) (drop k w.posted) dropped now_holds);
    }
      where
        v : World
        v = record w { accepted = w.accepted ++ accepted_in n w.nodes b b.transactions; happened = w.happened ++ [] }

        same : v ≡ w
        same = λ i. record w {
          accepted = (ap (λ xs. w.accepted ++ xs) (none_new w.nodes b (book_ready hosts w reached n x b found up).order n) ∙ append-nil w.accepted) i;
          happened = append-nil w.happened i;
        }

        none_there : (o : Option Arrived) (a : Arrived) → o ≡ None → o ≡ Some a → ⊥
        none_there o a f g = cc

        same_number : (i j : ℕ) → Some i ≡ Some j → i ≡ j
        same_number i j f = cc

        dropped : (q : Posted) → IsIn q (p ∷ drop k w.posted) → IsIn q (drop k w.posted) ⊎ IsLost hosts q
        dropped q (inl is) =
            inr (λ m a r d. none_there (decoded x.base p.content) a e
            (ap (λ bs. decoded bs p.content) (base ∙ ap hosts.base_of (same_number n m (sym to ∙ ap (λ (y : Posted). y.receiver) (sym is) ∙ r))) ∙ ap (λ (y : Posted). decoded (hosts.base_of m) y.content) (sym is) ∙ d))
        dropped q (inr i) = inl i

    arrived : (a : Arrived) → decoded x.base p.content ≡ Some a → a.message ≡ p.content.message → Standing hosts inv n k (take_step n (plan b (events.Arrived a) x.clock) (calm w b []))
    arrived a e says =
        take_stands hosts inv n k w x b [] (events.Arrived a) x.clock (p ∷ drop k w.posted) distinct found now_reached passed (p, among, to, e) (subst MakesNothing (sym says) plain) stays now_holds
      where
        same_event : (o : Option Arrived) (c d : Arrived) → o ≡ Some c → o ≡ Some d → events.Arrived c ≡ events.Arrived d
        same_event o c d f g = cc

        stays : (q : Posted) → IsIn q (p ∷ drop k w.posted) → IsIn q (drop k w.posted) ⊎ HasArrived hosts n (events.Arrived a) q
        stays q (inl is) =
            inr (
              ap (λ (y : Posted). y.receiver) is ∙ to,
              λ c d. same_event (decoded x.base p.content) a c e (ap (λ bs. decoded bs p.content) base ∙ ap (λ (y : Posted). decoded (hosts.base_of n) y.content) (sym is) ∙ d),
            )
        stays q (inr i) = inl i

    by_decoded : (o : Option Arrived) → decoded x.base p.content ≡ o → After hosts inv k (take_turn n x.clock (arrival_plan b x.clock o) (calm w b []))
    by_decoded None e = taken_after hosts inv n k x.clock (answer_plan b 500) (calm w b []) distinct (no_answer e)
    by_decoded (Some a) e = taken_after hosts inv n k x.clock (plan b (events.Arrived a) x.clock) (calm w b []) distinct (arrived a e (decoded_message x.base p.content a e))

pub delivery_after : (hosts : Hosts) (inv : Invariant hosts) (j k n : ℕ) (w : World) (x : Node) (b : Book) (p : Posted) → HaveOwnAddresses hosts → nth n w.nodes ≡ Some x → x.book ≡ Some b
    → (f : FirstAt (j + 1) (drop j w.posted) k n) → MakesNothing f.post.content.message → After hosts inv j w → After hosts inv k (world_step w (Turn n (Deliver k) [] None))
unfolding world_step
delivery_after hosts inv j k n w x b p distinct found up f plain a =
    subst (λ o. After hosts inv k (at_some_node (Turn n (Deliver k) [] None) o w)) (sym found)
    (subst (λ o. After hosts inv k (on_book o (λ c. deliver n x c [] None (nth k w.posted) w) w)) (sym up)
    (subst (λ o. After hosts inv k (deliver n x b [] None o w)) (sym at)
    (subst (λ o. After hosts inv k (if is_receiver n o then take_turn n x.clock (arrival_plan b x.clock (decoded x.base f.post.content)) (calm w b []) else w)) (sym f.receiver)
    (subst (λ c. After hosts inv k (if c then take_turn n x.clock (arrival_plan b x.clock (decoded x.base f.post.content)) (calm w b []) else w)) (sym (own_number n))
    (arrival_after hosts inv n k w x b f.post distinct found up a.reached (nth_within k w.posted f.post at) (is_in_list k f.post w.posted at) f.receiver plain
    (inv.drops w (drop j w.posted) (f.post ∷ drop k w.posted) skipped a.holds))))))
  where
    number : j + (f.behind + 1) ≡ k
    number = omega (arith, f.number)

    at : nth k w.posted ≡ Some f.post
    at = subst (λ m. nth m w.posted ≡ Some f.post) number (sym (nth_drop j (f.behind + 1) w.posted (omega arith)) ∙ f.at)

    rest : drop (f.behind + 1) (drop j w.posted) ≡ drop k w.posted
    rest = drop-drop (f.behind + 1) j w.posted ∙ ap (λ m. drop m w.posted) number

    own_number : (m : ℕ) → nat_eq m m ≡ true
    own_number m = eq-eqb m m refl

    none_there : (o : Option ℕ) (m : ℕ) → o ≡ None → o ≡ Some m → ⊥
    none_there o m g h = cc

    by_place : (q : Posted) → (q.receiver ≡ None) ⊎ ((q ≡ f.post) ⊎ IsIn q (drop (f.behind + 1) (drop j w.posted))) → IsIn q (f.post ∷ drop k w.posted) ⊎ IsLost hosts q
    by_place q (inl none) = inr (λ m c r d. none_there q.receiver m none r)
    by_place q (inr (inl is)) = inl (inl is)
    by_place q (inr (inr i)) = inl (inr (subst (IsIn q) rest i))

    skipped : (q : Posted) → IsIn q (drop j w.posted) → IsIn q (f.post ∷ drop k w.posted) ⊎ IsLost hosts q
    skipped q i = by_place q (f.rest q i)
