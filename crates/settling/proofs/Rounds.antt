-- Every round drains, and all rounds are few events.
use Rattle.std.specs.Prelude.{ℕ, List, [], ◌∷◌, Option, Some, None, ◌+◌, ◌*◌, drop, length, zero, suc, ◌≡◌, ◌≤◌, ◌<◌, refl}
use Rattle.std.specs.List.{sum_by}
use Rattle.std.proofs.Common.{arith, sym, subst, ap}
use Rattle.std.proofs.lemmas.List.{drop_all}
use Rattle.std.proofs.lemmas.List.Sums.{sum_by-cons}
use Rattle.at_model.specs.Book.{Book}
use Rattle.at_base.specs.declared.limits.TheConstants.{RESEND_AFTER}
use Rattle.at_model.specs.World.{Deliver, Node, Tick, Turn, World, WorldEvent, world_step, Hosts}
use Rattle.model_laws.specs.Settlement.{Settling, all_also, also, deliver_next, deliveries_from, first_received, others_in, seats_in, ticks}
use Rattle.settling.specs.Drains.{Delivers, none_left, one_more}
use Rattle.settling.specs.Load.{Prices}
use Rattle.settling.proofs.Caps.{book_least, other_most, seat_most}
use Rattle.settling.proofs.Deliveries.{AreSteady, Lowers, burden, held_at, node_load, next_lowers}
use Rattle.settling.proofs.Runs.{IsOfRun, all_further, further_run, run_length, run_steady}
use Rattle.settling.proofs.Ticks.{Ticks, mixed, mixed_all, node_most, tick_on}
use Rattle.settling.proofs.TurnCosts.{queued}

-- so many messages were passed by, and the rest is within the limit
pub record Good (P : Prices) (limit j : ℕ) (w : World) : Type 0 where
  pub passed : j ≤ length w.posted
  pub paid : burden P j w ≤ limit
  pub steady : AreSteady w

abbrev pub next : ℕ → World → Option (ℕ × ℕ)
next j w = first_received (j + 1) (drop j w.posted)

good_next : (P : Prices) (limit j k n : ℕ) (w : World) → Good P limit j w → limit < P.making → next j w ≡ Some (k, n) → Lowers P k (burden P j w) (world_step w (Turn n (Deliver k) [] None))
good_next P limit j k n w g most e = next_lowers P j k n w e g.steady (omega (arith, g.paid, most))

-- where a walk of deliveries ends
pub record Walked (P : Prices) (limit : ℕ) (w : World) : Type 0 where
  pub place : ℕ
  pub good : Good P limit place w

pub walk : (P : Prices) (limit most j : ℕ) (s : Settling) → Good P limit j s.world → limit < P.making → Walked P limit (deliveries_from most j s).world
unfolding deliveries_from
walk P limit zero j s g h = record { place = j; good = g }
walk P limit (suc most) j s g h = by_next (next j s.world) refl (λ p t i. walk P limit most p t i h)
  where
    by_next : (o : Option (ℕ × ℕ)) → next j s.world ≡ o → ((p : ℕ) (t : Settling) → Good P limit p t.world → Walked P limit (deliveries_from most p t).world)
        → Walked P limit (deliver_next o (deliveries_from most) s).world
    by_next None e rest = record { place = j; good = g }
    by_next (Some (k, n)) e rest =
        let l : Lowers P k (burden P j s.world) (world_step s.world (Turn n (Deliver k) [] None)) = good_next P limit j k n s.world g h e in
        rest k (also (Turn n (Deliver k) [] None) s) (record { passed = l.passed; paid = omega (arith, l.paid, g.paid); steady = l.steady })

-- where the burden is no more than the deliveries, they end with no message left
none_now : (P : Prices) (j : ℕ) (w : World) → Good P 0 j w → 0 < P.making → next j w ≡ None
none_now P j w g h = by_next (next j w) refl
  where
    by_next : (o : Option (ℕ × ℕ)) → next j w ≡ o → next j w ≡ None
    by_next None e = e
    by_next (Some (k, n)) e =
        let l : Lowers P k (burden P j w) (world_step w (Turn n (Deliver k) [] None)) = good_next P 0 j k n w g h e in
        absurd (omega (arith, l.paid, g.paid))

pub drained : (P : Prices) (most j : ℕ) (s : Settling) → Good P most j s.world → most < P.making → Delivers (deliveries_from most j s) j s
unfolding deliveries_from
drained P zero j s g h = none_left (none_now P j s.world g h) refl
drained P (suc most) j s g h = by_next (next j s.world) refl (λ p t i. drained P most p t i (omega (arith, h)))
  where
    by_next : (o : Option (ℕ × ℕ)) → next j s.world ≡ o → ((p : ℕ) (t : Settling) → Good P most p t.world → Delivers (deliveries_from most p t) p t)
        → Delivers (deliver_next o (deliveries_from most) s) j s
    by_next None e rest = none_left e refl
    by_next (Some (k, n)) e rest =
        let l : Lowers P k (burden P j s.world) (world_step s.world (Turn n (Deliver k) [] None)) = good_next P (suc most) j k n s.world g h e in
        one_more k n e (rest k (also (Turn n (Deliver k) [] None) s) (record { passed = l.passed; paid = omega (arith, l.paid, g.paid); steady = l.steady }))

-- the ticks of a round
ticked_all : (P : Prices) (hosts : Hosts) (j limit u : ℕ) (xs : List Node) (s : Settling) → IsOfRun hosts s.world → u + length xs ≡ hosts.count → Ticks P j u limit s.world
    → Ticks P j hosts.count limit (all_also (ticks (u + 1) xs) s).world
ticked_all P hosts j limit u [] s r e t = let same : u ≡ hosts.count = omega (arith, e) in subst (λ k. Ticks P j k limit s.world) same t
ticked_all P hosts j limit u (x ∷ xs) s r e t =
    let tick : WorldEvent = Turn (u + 1) (Tick RESEND_AFTER) [] None in
    let there : u + 1 ≤ length s.world.nodes = omega (arith, e, run_length hosts s.world r) in
    let more : suc u ≡ u + 1 = omega arith in
    let one : Ticks P j (u + 1) limit (world_step s.world tick) = subst (λ k. Ticks P j k limit (world_step s.world tick)) more (tick_on P j u limit s.world there t) in
    ticked_all P hosts j limit (u + 1) xs (also tick s) (further_run hosts s.world tick r) (omega (arith, e)) one

-- what there is to wait for
abbrev pub seats_of : World → ℕ
seats_of w = sum_by (λ x. seats_in x.book) w.nodes

abbrev pub others_of : World → ℕ
others_of w = sum_by (λ x. others_in x.book) w.nodes

nodes_most : (P : Prices) (xs : List Node) → sum_by (node_most P) xs ≡ seat_most P * sum_by (λ x. seats_in x.book) xs + other_most P * sum_by (λ x. others_in x.book) xs
nodes_most P [] = omega arith
nodes_most P (x ∷ xs) =
    omega (
      arith,
      sum_by-cons (node_most P) x xs,
      ap (λ n. seat_most P * n) (sum_by-cons (λ y. seats_in y.book) x xs),
      ap (λ n. other_most P * n) (sum_by-cons (λ y. others_in y.book) x xs),
      nodes_most P xs,
    )

pub nodes_least : (P : Prices) (xs : List Node) → P.seat * sum_by (λ x. seats_in x.book) xs + P.other * sum_by (λ x. others_in x.book) xs ≤ sum_by (node_load P) xs
nodes_least P [] = omega arith
nodes_least P (x ∷ xs) =
    omega (
      arith,
      sum_by-cons (node_load P) x xs,
      ap (λ n. P.seat * n) (sum_by-cons (λ y. seats_in y.book) x xs),
      ap (λ n. P.other * n) (sum_by-cons (λ y. others_in y.book) x xs),
      nodes_least P xs,
      node_least x,
    )
  where
    held_least : (now : ℕ) (o : Option Book) → P.seat * seats_in o + P.other * others_in o ≤ held_at P now o
    held_least now None = omega arith
    held_least now (Some b) = book_least P _ b

    node_least : (y : Node) → P.seat * seats_in y.book + P.other * others_in y.book ≤ node_load P y
    node_least y = held_least y.clock y.book

-- once all have ticked
pub begun_good : (P : Prices) (hosts : Hosts) (s : Settling) → IsOfRun hosts s.world
    → Good P (seat_most P * seats_of s.world + other_most P * others_of s.world) (length s.world.posted) (all_also (ticks 1 s.world.nodes) s).world
begun_good P hosts s r =
    let j : ℕ = length s.world.posted in
    let limit : ℕ = seat_most P * seats_of s.world + other_most P * others_of s.world in
    let nothing : queued P (drop j s.world.posted) ≡ 0 = ap (queued P) (drop_all j s.world.posted (omega arith)) in
    let size : length s.world.nodes ≡ hosts.count = run_length hosts s.world r in
    let t : Ticks P j hosts.count limit (all_also (ticks 1 s.world.nodes) s).world =
    ticked_all P hosts j limit 0 s.world.nodes s r (omega (arith, size)) (record { passed = omega arith; paid = omega (arith, nothing, nodes_most P s.world.nodes); steady = run_steady hosts s.world r }) in
    let w : World = (all_also (ticks 1 s.world.nodes) s).world in
    let all : mixed P hosts.count w.nodes ≡ sum_by (node_load P) w.nodes = mixed_all P w.nodes hosts.count (sym (run_length hosts w (all_further hosts (ticks 1 s.world.nodes) s r))) in
    record { passed = t.passed; paid = omega (arith, t.paid, all); steady = t.steady }
