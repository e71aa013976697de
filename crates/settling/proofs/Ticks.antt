-- What is on its way and what the books hold once each node has ticked.
use Rattle.std.specs.Prelude.{ℕ, List, [], ◌∷◌, Option, Some, None, Bool, true, false, ◌+◌, ◌*◌, ◌-◌, if◌then◌else◌, drop, length, nat_eq, zero, suc, ◌≡◌, ◌≤◌, refl}
use Rattle.std.specs.List.{sum_by, AllByRecursion}
use Rattle.std.proofs.Common.{arith, sym, subst, ap, ◌∙◌}
use Rattle.std.proofs.lemmas.Bool.{eqb-true}
use Rattle.std.proofs.lemmas.List.Sums.{sum_by-cons}
use Rattle.at_base.specs.declared.event.Event.TheVariants as events
use Rattle.at_model.specs.Book.{Book}
use Rattle.at_base.specs.declared.limits.TheConstants.{RESEND_AFTER}
use Rattle.at_model.specs.Step.{plan}
use Rattle.at_model.specs.World.{Node, Tick, Turn, World, at_some_node, later, nth, on_book, put_nth, take_turn, ticked, turn, turn_from, world_step}
use Rattle.model_laws.specs.Settlement.{others_in, seats_in}
use Rattle.model_laws.proofs.DecisionLaws.{IfThere}
use Rattle.model_laws.proofs.Nodes.{put_put, put_same}
use Rattle.model_laws.proofs.NodeLives.{put_this}
use Rattle.settling.specs.Load.{Prices, load}
use Rattle.settling.specs.Payments.{IsSteady}
use Rattle.settling.proofs.Caps.{book_most, other_most, seat_most}
use Rattle.settling.proofs.Deliveries.{AreSteady, IsSteadyNode, held_at, node_load, turned_length, turned_queue}
use Rattle.settling.proofs.BookPayments.{stays_steady, step_within}
use Rattle.settling.proofs.Places.{all_nth, all_put_nth, nth_behind}
use Rattle.settling.proofs.TurnCosts.{Turned, queued, turn_ends}

-- what a node may hold at most, at any time
abbrev pub node_most : Prices → Node → ℕ
node_most P x = seat_most P * seats_in x.book + other_most P * others_in x.book

held_most : (P : Prices) (now : ℕ) (o : Option Book) → held_at P now o ≤ seat_most P * seats_in o + other_most P * others_in o
held_most P now None = omega arith
held_most P now (Some b) = book_most P _ b

-- the first nodes have ticked, the others haven't yet
abbrev pub mixed : Prices → ℕ → List Node → ℕ
mixed P zero xs = sum_by (node_most P) xs
mixed P (suc u) [] = 0
mixed P (suc u) (x ∷ xs) = node_load P x + mixed P u xs

put_behind : (n : ℕ) (y x : Node) (xs : List Node) → 2 ≤ n → put_nth n y (x ∷ xs) ≡ x ∷ put_nth (n - 1) y xs
put_behind n y x xs h = by_test (nat_eq n 1) refl
  where
    by_test : (b : Bool) → nat_eq n 1 ≡ b → (if b then y ∷ xs else x ∷ put_nth (n - 1) y xs) ≡ x ∷ put_nth (n - 1) y xs
    by_test true e = let one : n ≡ 1 = eqb-true n 1 e in absurd (omega (arith, one, h))
    by_test false e = refl

mixed_put : (P : Prices) (u : ℕ) (x y : Node) (xs : List Node) → nth (u + 1) xs ≡ Some x → mixed P (suc u) (put_nth (u + 1) y xs) + node_most P x ≡ mixed P u xs + node_load P y
mixed_put P u x y [] e = absurd cc
mixed_put P zero x y (z ∷ zs) e =
    let same : z ≡ x = cc in
    let one : node_most P z ≡ node_most P x = ap (node_most P) same in
    omega (arith, one, sum_by-cons (node_most P) z zs)
mixed_put P (suc u) x y (z ∷ zs) e =
    let less : suc u + 1 - 1 ≡ u + 1 = omega arith in
    let found : nth (u + 1) zs ≡ Some x = sym (nth_behind (suc u + 1) z zs (omega arith) ∙ ap (λ k. nth k zs) less) ∙ e in
    let put : put_nth (suc u + 1) y (z ∷ zs) ≡ z ∷ put_nth (u + 1) y zs = put_behind (suc u + 1) y z zs (omega arith) ∙ ap (λ k. z ∷ put_nth k y zs) less in
    let all : mixed P (suc (suc u)) (put_nth (suc u + 1) y (z ∷ zs)) ≡ node_load P z + mixed P (suc u) (put_nth (u + 1) y zs) = ap (mixed P (suc (suc u))) put in
    omega (arith, all, mixed_put P u x y zs found)

pub mixed_all : (P : Prices) (xs : List Node) (u : ℕ) → u ≡ length xs → mixed P u xs ≡ sum_by (node_load P) xs
mixed_all P [] zero e = refl
mixed_all P [] (suc u) e = refl
mixed_all P (x ∷ xs) zero e = absurd (omega (arith, e))
mixed_all P (x ∷ xs) (suc u) e = let rest : mixed P u xs ≡ sum_by (node_load P) xs = mixed_all P xs u (omega (arith, e)) in omega (arith, rest, sum_by-cons (node_load P) x xs)

-- a tick
pub record Ticks (P : Prices) (j u limit : ℕ) (w : World) : Type 0 where
  pub passed : j ≤ length w.posted
  pub paid : queued P (drop j w.posted) + mixed P u w.nodes ≤ limit
  pub steady : AreSteady w

nth_there : (n : ℕ) (xs : List Node) → n + 1 ≤ length xs → (x : Node) × (nth (n + 1) xs ≡ Some x)
nth_there n [] h = absurd (omega (arith, h))
nth_there zero (x ∷ xs) h = (x, refl)
nth_there (suc n) (x ∷ xs) h =
    let (y, found) = nth_there n xs (omega (arith, h)) in
    let less : suc n + 1 - 1 ≡ n + 1 = omega arith in
    (y, nth_behind (suc n + 1) x xs (omega arith) ∙ ap (λ k. nth k xs) less ∙ found)

stays_ticked : (P : Prices) (j u limit : ℕ) (w : World) (x : Node) → nth (u + 1) w.nodes ≡ Some x → Ticks P j u limit w → Ticks P j (suc u) limit w
stays_ticked P j u limit w x found t =
    let put : mixed P (suc u) (put_nth (u + 1) x w.nodes) ≡ mixed P (suc u) w.nodes = ap (mixed P (suc u)) (put_same (u + 1) x w.nodes found) in
    record { passed = t.passed; paid = omega (arith, t.paid, put, mixed_put P u x x w.nodes found, held_most P x.clock x.book); steady = t.steady }

tick_ends : (P : Prices) (j u limit : ℕ) (w : World) (x : Node) (b : Book) → nth (u + 1) w.nodes ≡ Some x → x.book ≡ Some b → Ticks P j u limit w
    → Ticks P j (suc u) limit (turn (u + 1) (Tick RESEND_AFTER) [] None x b w)
tick_ends P j u limit w x b found up t =
    let n : ℕ = u + 1 in
    let now : ℕ = x.clock + RESEND_AFTER in
    let y : Node = later RESEND_AFTER x in
    let v : World = ticked n y w in
    let good : IsSteady b = subst (IfThere IsSteady) up (all_nth IsSteadyNode n x w.nodes t.steady found) in
    let e : Turned P n now (load P now b) v (take_turn n now (plan b events.Tick now) (turn_from v b [] None)) =
    turn_ends P n now 0 (load P now b) v y b (plan b events.Tick now) (put_this w.nodes n x y found) refl good (stays_steady b events.Tick now true good)
    (step_within P b events.Tick now true good tt).paid (omega arith) in
    let z : World = take_turn n now (plan b events.Tick now) (turn_from v b [] None) in
    let nodes : z.nodes ≡ put_nth n e.node w.nodes = e.nodes ∙ put_put n y e.node w.nodes in
    let put : mixed P (suc u) z.nodes ≡ mixed P (suc u) (put_nth n e.node w.nodes) = ap (mixed P (suc u)) nodes in
    let new : node_load P e.node ≡ load P now e.book = ap (λ c. held_at P c e.node.book) e.clock ∙ ap (held_at P now) e.up in
    let most : load P now b ≤ node_most P x = subst (λ o. load P now b ≤ seat_most P * seats_in o + other_most P * others_in o) (sym up) (book_most P _ b) in
    record {
      passed = turned_length w z e.new j t.passed e.posted;
      paid = omega (arith, t.paid, put, new, most, mixed_put P u x e.node w.nodes found, e.paid, turned_queue P j w z e.new t.passed e.posted);
      steady = subst (AllByRecursion IsSteadyNode) (sym nodes) (all_put_nth IsSteadyNode n e.node w.nodes (subst (IfThere IsSteady) (sym e.up) e.steady) t.steady);
    }

pub tick_on : (P : Prices) (j u limit : ℕ) (w : World) → u + 1 ≤ length w.nodes → Ticks P j u limit w → Ticks P j (suc u) limit (world_step w (Turn (u + 1) (Tick RESEND_AFTER) [] None))
unfolding world_step
tick_on P j u limit w h t = by_node (nth_there u w.nodes h)
  where
    by_book : (x : Node) (o : Option Book) → nth (u + 1) w.nodes ≡ Some x → x.book ≡ o → Ticks P j (suc u) limit (on_book o (λ b. turn (u + 1) (Tick RESEND_AFTER) [] None x b w) w)
    by_book x None found up = stays_ticked P j u limit w x found t
    by_book x (Some b) found up = tick_ends P j u limit w x b found up t

    by_node : (x : Node) × (nth (u + 1) w.nodes ≡ Some x) → Ticks P j (suc u) limit (at_some_node (Turn (u + 1) (Tick RESEND_AFTER) [] None) (nth (u + 1) w.nodes) w)
    by_node (x, found) = subst (λ o. Ticks P j (suc u) limit (at_some_node (Turn (u + 1) (Tick RESEND_AFTER) [] None) o w)) (sym found) (by_book x x.book found refl)
