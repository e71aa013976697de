-- Each delivery lowers what is on its way and what the books hold.
use Rattle.std.specs.Prelude.{ℕ, List, [], ◌++◌, Option, Some, None, Bool, true, false, ◌+◌, if◌then◌else◌, drop, length, option_and_then, ◌≡◌, ◌≤◌, ◌<◌, refl}
use Rattle.std.specs.List.{sum_by, AllByRecursion}
use Rattle.std.proofs.Common.{arith, sym, subst, ap, ◌∙◌}
use Rattle.std.proofs.lemmas.List.{drop-append-le, drop-drop, length-append}
use Rattle.std.proofs.lemmas.List.Sums.{sum_by-append}
use Rattle.at_base.specs.declared.epr.Epr.{Epr}
use Rattle.at_base.specs.declared.event.Arrived.{Arrived}
use Rattle.at_base.specs.declared.event.Event.TheVariants as events
use Rattle.at_base.specs.declared.message.Message.{Message}
use Rattle.at_base.specs.declared.message.Message.TheVariants as messages
use Rattle.at_base.specs.declared.outs.Post.{Post}
use Rattle.at_base.specs.declared.target.Target.{Target}
use Rattle.at_model.specs.Book.{Book}
use Rattle.at_model.specs.Step.{plan}
use Rattle.at_model.specs.World.{Deliver, Node, Posted, Turn, World, answer_plan, arrival_of, arrival_plan, at_some_node, decoded, decoded_at, deliver, is_receiver, nth, on_book, put_nth, take_turn, turn_from, world_step}
use Rattle.endpoints.specs.Addresses.{target_at}
use Rattle.endpoints.specs.Forms.{takes}
use Rattle.model_laws.specs.Settlement.{first_received}
use Rattle.model_laws.proofs.DecisionLaws.{IfThere}
use Rattle.settling.specs.Load.{Prices, load, weight}
use Rattle.settling.specs.Payments.{IsSteady, MakesNothing}
use Rattle.settling.proofs.Costs.{spare_is}
use Rattle.settling.proofs.BookPayments.{allowance, allowance_less, stays_steady, step_within}
use Rattle.settling.proofs.Places.{Found, all_nth, all_put_nth, first_found, nth_drop, nth_within, sum_put_nth}
use Rattle.settling.proofs.TurnCosts.{Turned, posted_weight, queued, turn_ends}

-- what a node's book holds
abbrev pub held_at : Prices → ℕ → Option Book → ℕ
held_at P now None = 0
held_at P now (Some b) = load P now b

abbrev pub node_load : Prices → Node → ℕ
node_load P x = held_at P x.clock x.book

-- what is on its way behind so many messages, and what the books hold
abbrev pub burden : Prices → ℕ → World → ℕ
burden P j w = queued P (drop j w.posted) + sum_by (node_load P) w.nodes

abbrev pub IsSteadyNode : Node → Type 0
IsSteadyNode x = IfThere IsSteady x.book

abbrev pub AreSteady : World → Type 0
AreSteady w = AllByRecursion IsSteadyNode w.nodes

-- each message weighs something, and what makes something more than there is
message_weighs : (P : Prices) (x : Message) → 1 ≤ P.making → 1 ≤ weight P x
message_weighs P (messages.Notice n) h = omega (arith, spare_is n)
message_weighs P (messages.Register r) h = omega arith
message_weighs P (messages.Create c) h = h
message_weighs P (messages.Work w) h = h
message_weighs P other h = omega arith

makes_nothing : (P : Prices) (x : Message) → weight P x < P.making → MakesNothing x
makes_nothing P (messages.Create c) h = absurd (omega (arith, h))
makes_nothing P (messages.Work w) h = absurd (omega (arith, h))
makes_nothing P other h = tt

-- a message arrives as it was posted
decoded_message : (base : List ℕ) (p : Post) (a : Arrived) → decoded base p ≡ Some a → a.message ≡ p.message
decoded_message base p a e = by_endpoint p.to e
  where
    by_taken : (target : Target) (b : Bool) → (if b then Some (arrival_of target p) else None) ≡ Some a → a.message ≡ p.message
    by_taken target true f = let same : arrival_of target p ≡ a = cc in sym (ap (λ (x : Arrived). x.message) same)
    by_taken target false f = absurd cc

    by_target : (o : Option Target) → decoded_at o p ≡ Some a → a.message ≡ p.message
    by_target None f = absurd cc
    by_target (Some target) f = by_taken target (takes target p.message) f

    by_endpoint : (o : Option Epr) → option_and_then (λ to. decoded_at (target_at base to.address) p) o ≡ Some a → a.message ≡ p.message
    by_endpoint None f = absurd cc
    by_endpoint (Some to) f = by_target (target_at base to.address) f

-- What a turn leaves of a world, with so many messages passed by.
pub record Lowers (P : Prices) (k limit : ℕ) (v : World) : Type 0 where
  pub passed : k ≤ length v.posted
  pub paid : burden P k v + 1 ≤ limit
  pub steady : AreSteady v

pub turned_queue : (P : Prices) (k : ℕ) (w v : World) (new : List Posted) → k ≤ length w.posted → v.posted ≡ w.posted ++ new
    → queued P (drop k v.posted) ≡ queued P (drop k w.posted) + queued P new
turned_queue P k w v new h e =
    ap (λ l. queued P (drop k l)) e ∙ ap (queued P) (drop-append-le k w.posted new h) ∙ sum_by-append (posted_weight P) (drop k w.posted) new

pub turned_length : (w v : World) (new : List Posted) (k : ℕ) → k ≤ length w.posted → v.posted ≡ w.posted ++ new → k ≤ length v.posted
turned_length w v new k h e = let same : length v.posted ≡ length w.posted + length new = ap length e ∙ length-append w.posted new in omega (arith, h, same)

pub turned_load : (P : Prices) (n now limit : ℕ) (w v : World) (x : Node) → nth n w.nodes ≡ Some x → (t : Turned P n now limit w v)
    → sum_by (node_load P) v.nodes + node_load P x ≡ sum_by (node_load P) w.nodes + load P now t.book
turned_load P n now limit w v x found t =
    let put : sum_by (node_load P) (put_nth n t.node w.nodes) + node_load P x ≡ sum_by (node_load P) w.nodes + node_load P t.node = sum_put_nth (node_load P) n x t.node w.nodes found in
    let same : sum_by (node_load P) v.nodes ≡ sum_by (node_load P) (put_nth n t.node w.nodes) = ap (sum_by (node_load P)) t.nodes in
    let new : node_load P t.node ≡ load P now t.book = ap (λ c. held_at P c t.node.book) t.clock ∙ ap (held_at P now) t.up in
    omega (arith, put, same, new)

pub turned_steady : (P : Prices) (n now limit : ℕ) (w v : World) → AreSteady w → Turned P n now limit w v → AreSteady v
turned_steady P n now limit w v h t =
    subst (AllByRecursion IsSteadyNode) (sym t.nodes) (all_put_nth IsSteadyNode n t.node w.nodes (subst (IfThere IsSteady) (sym t.up) t.steady) h)

turned_lowers : (P : Prices) (n k limit most : ℕ) (w v : World) (x : Node) (b : Book) → nth n w.nodes ≡ Some x → x.book ≡ Some b → k ≤ length w.posted → AreSteady w
    → Turned P n x.clock limit w v → limit + 1 ≤ load P x.clock b + most → Lowers P k (burden P k w + most) v
turned_lowers P n k limit most w v x b found up passed steady t less =
    let old : node_load P x ≡ load P x.clock b = ap (held_at P x.clock) up in
    record {
      passed = turned_length w v t.new k passed t.posted;
      paid = omega (arith, less, old, t.paid, turned_queue P k w v t.new passed t.posted, turned_load P n x.clock limit w v x found t);
      steady = turned_steady P n x.clock limit w v steady t;
    }

stays_lowers : (P : Prices) (k most : ℕ) (w : World) → k ≤ length w.posted → AreSteady w → 1 ≤ most → Lowers P k (burden P k w + most) w
stays_lowers P k most w passed steady h = record { passed = passed; paid = omega (arith, h); steady = steady }

-- a message at a node that is up
arrived_lowers : (P : Prices) (n k : ℕ) (w : World) (x : Node) (b : Book) (p : Posted) → nth n w.nodes ≡ Some x → x.book ≡ Some b → k ≤ length w.posted → AreSteady w
    → 1 ≤ posted_weight P p → MakesNothing p.content.message
    → Lowers P k (burden P k w + posted_weight P p) (take_turn n x.clock (arrival_plan b x.clock (decoded x.base p.content)) (turn_from w b [] None))
arrived_lowers P n k w x b p found up passed steady most plain = by_decoded (decoded x.base p.content) refl
  where
    good : IsSteady b
    good = subst (IfThere IsSteady) up (all_nth IsSteadyNode n x w.nodes steady found)

    by_decoded : (o : Option Arrived) → decoded x.base p.content ≡ o → Lowers P k (burden P k w + posted_weight P p) (take_turn n x.clock (arrival_plan b x.clock o) (turn_from w b [] None))
    by_decoded None e =
        turned_lowers P n k (load P x.clock b) (posted_weight P p) w (take_turn n x.clock (answer_plan b 500) (turn_from w b [] None)) x b found up passed steady
        (turn_ends P n x.clock 0 (load P x.clock b) w x b (answer_plan b 500) found refl good good (omega arith) (omega arith)) (omega (arith, most))
    by_decoded (Some a) e =
        let same : a.message ≡ p.content.message = decoded_message x.base p.content a e in
        let makes : MakesNothing a.message = subst MakesNothing (sym same) plain in
        let less : allowance P a.message + 1 ≤ weight P a.message = allowance_less P a.message makes in
        let weighs : weight P a.message ≡ posted_weight P p = ap (weight P) same in
        turned_lowers P n k (load P x.clock b + allowance P a.message) (posted_weight P p) w (take_turn n x.clock (plan b (events.Arrived a) x.clock) (turn_from w b [] None)) x b found up passed steady
        (turn_ends P n x.clock (allowance P a.message) (load P x.clock b + allowance P a.message) w x b (plan b (events.Arrived a) x.clock) found refl good
        (stays_steady b (events.Arrived a) x.clock true good) (step_within P b (events.Arrived a) x.clock true good makes).paid (omega arith)) (omega (arith, less, weighs))

-- at any node
delivered_lowers : (P : Prices) (n k : ℕ) (w : World) (p : Posted) → nth k w.posted ≡ Some p → AreSteady w → 1 ≤ posted_weight P p → MakesNothing p.content.message
    → Lowers P k (burden P k w + posted_weight P p) (world_step w (Turn n (Deliver k) [] None))
unfolding world_step
delivered_lowers P n k w p at steady most plain = by_node (nth n w.nodes) refl
  where
    passed : k ≤ length w.posted
    passed = nth_within k w.posted p at

    by_receiver : (x : Node) (b : Book) (c : Bool) → nth n w.nodes ≡ Some x → x.book ≡ Some b
        → Lowers P k (burden P k w + posted_weight P p) (if c then take_turn n x.clock (arrival_plan b x.clock (decoded x.base p.content)) (turn_from w b [] None) else w)
    by_receiver x b true found up = arrived_lowers P n k w x b p found up passed steady most plain
    by_receiver x b false found up = stays_lowers P k (posted_weight P p) w passed steady most

    by_book : (x : Node) (o : Option Book) → nth n w.nodes ≡ Some x → x.book ≡ o
        → Lowers P k (burden P k w + posted_weight P p) (on_book o (λ b. deliver n x b [] None (nth k w.posted) w) w)
    by_book x None found up = stays_lowers P k (posted_weight P p) w passed steady most
    by_book x (Some b) found up =
        subst (λ o. Lowers P k (burden P k w + posted_weight P p) (deliver n x b [] None o w)) (sym at) (by_receiver x b (is_receiver n p.receiver) found up)

    by_node : (o : Option Node) → nth n w.nodes ≡ o → Lowers P k (burden P k w + posted_weight P p) (at_some_node (Turn n (Deliver k) [] None) o w)
    by_node None found = stays_lowers P k (posted_weight P p) w passed steady most
    by_node (Some x) found = by_book x x.book found refl

-- The next message that has a receiver.
pub next_lowers : (P : Prices) (j k n : ℕ) (w : World) → first_received (j + 1) (drop j w.posted) ≡ Some (k, n) → AreSteady w → burden P j w < P.making
    → Lowers P k (burden P j w) (world_step w (Turn n (Deliver k) [] None))
next_lowers P j k n w e steady most =
    let f : Found P (j + 1) (drop j w.posted) k n = first_found P (j + 1) (drop j w.posted) k n e in
    let number : j + (f.behind + 1) ≡ k = omega (arith, f.number) in
    let at : nth k w.posted ≡ Some f.post = subst (λ m. nth m w.posted ≡ Some f.post) number (sym (nth_drop j (f.behind + 1) w.posted (omega arith)) ∙ f.at) in
    let rest : queued P (drop (f.behind + 1) (drop j w.posted)) ≡ queued P (drop k w.posted) =
    ap (queued P) (drop-drop (f.behind + 1) j w.posted ∙ ap (λ m. drop m w.posted) number) in
    let light : weight P f.post.content.message < P.making = omega (arith, f.weighs, most) in
    let l : Lowers P k (burden P k w + posted_weight P f.post) (world_step w (Turn n (Deliver k) [] None)) =
    delivered_lowers P n k w f.post at steady (message_weighs P f.post.content.message (omega (arith, most))) (makes_nothing P f.post.content.message light) in
    record { passed = l.passed; paid = omega (arith, l.paid, f.weighs, rest); steady = l.steady }
