-- Every round drains, and the events of all rounds are few.
use Rattle.std.specs.Prelude.{ℕ, List, [], ◌∷◌, Option, Some, None, Bool, true, false, ◌+◌, ◌*◌, length, nat_le, zero, suc, ◌≡◌, ◌≤◌, ◌<◌, refl}
use Rattle.std.specs.List.{sum_by}
use Rattle.std.proofs.Common.{arith}
use Rattle.std.proofs.Math.Nat.{mul-le-mul_left}
use Rattle.std.proofs.lemmas.Bool.{leb-true, leb-false}
use Rattle.std.proofs.lemmas.List.{length-append}
use Rattle.std.proofs.lemmas.List.Sums.{sum_by-cons}
use Rattle.at_model.specs.Book.{Book}
use Rattle.at_model.specs.World.{Deliver, Node, Turn, World, WorldEvent, run_of, Hosts}
use Rattle.model_laws.specs.Settlement.{Settling, all_also, also, deliver_next, deliveries_from, node_count, others_in, seats_in, settle, settle_bound, settle_from, settle_round, settle_rounds, settled, ticks, up_if, ups}
use Rattle.settling.specs.Drains.{Drains, IsDrained, granted, risen}
use Rattle.settling.specs.Load.{Prices}
use Rattle.settling.proofs.Caps.{other_most, seat_most}
use Rattle.settling.proofs.Rounds.{Good, Walked, begun_good, drained, next, nodes_least, others_of, seats_of, walk}
use Rattle.settling.proofs.Runs.{IsOfRun, all_further, further_run, run_length}

-- with prices of 0 a round's burden is no more than its deliveries
free_prices : ℕ → Prices
free_prices most = record { seat = 0; other = 0; making = most + 1 }

round_drains : (hosts : Hosts) (most : ℕ) (s : Settling) → IsOfRun hosts s.world → 8 * seats_of s.world + 13 * others_of s.world ≤ most → IsDrained most s
unfolding settle_round free_prices
round_drains hosts most s r h =
    let P : Prices = free_prices most in
    let g : Good P (seat_most P * seats_of s.world + other_most P * others_of s.world) (length s.world.posted) (all_also (ticks 1 s.world.nodes) s).world = begun_good P hosts s r in
    drained P most (length s.world.posted) (all_also (ticks 1 s.world.nodes) s) (record { passed = g.passed; paid = omega (arith, g.paid, h); steady = g.steady }) (omega arith)

-- The worlds on the way.
deliveries_run : (hosts : Hosts) (most j : ℕ) (s : Settling) → IsOfRun hosts s.world → IsOfRun hosts (deliveries_from most j s).world
unfolding deliveries_from
deliveries_run hosts zero j s r = r
deliveries_run hosts (suc most) j s r = by_next (next j s.world) (λ p t i. deliveries_run hosts most p t i)
  where
    by_next : (o : Option (ℕ × ℕ)) → ((p : ℕ) (t : Settling) → IsOfRun hosts t.world → IsOfRun hosts (deliveries_from most p t).world) → IsOfRun hosts (deliver_next o (deliveries_from most) s).world
    by_next None rest = r
    by_next (Some (k, n)) rest = rest k (also (Turn n (Deliver k) [] None) s) (further_run hosts s.world (Turn n (Deliver k) [] None) r)

pub round_run : (hosts : Hosts) (most : ℕ) (s : Settling) → IsOfRun hosts s.world → IsOfRun hosts (settle_round most s).world
unfolding settle_round
round_run hosts most s r = deliveries_run hosts most (length s.world.posted) (all_also (ticks 1 s.world.nodes) s) (all_further hosts (ticks 1 s.world.nodes) s r)

-- With a great price of one kind of thing, a round adds few of them.
by_price : (S a b : ℕ) → (S + 1) * a ≤ S + (S + 1) * b → a ≤ b
by_price S a b h = by_test (nat_le a b) refl
  where
    by_test : (c : Bool) → nat_le a b ≡ c → a ≤ b
    by_test true e = leb-true a b e
    by_test false e =
        let above : b + 1 ≤ a = let over : b < a = leb-false a b e in omega (arith, over) in
        absurd (omega (arith, h, mul-le-mul_left (S + 1) above))

seats_grow : (S D G d g : ℕ) → S ≡ 8 * D + 13 * G → (S + 1) * d + 0 * g ≤ (S + 1 + 8) * D + (0 + (S + 1) + 13) * G → d ≤ D + G
seats_grow S D G d g e h = by_price S d (D + G) (omega (arith, e, h))

others_stay : (S D G d g : ℕ) → S ≡ 8 * D + 13 * G → 0 * d + (S + 1) * g ≤ (0 + 8) * D + (S + 1 + 0 + 13) * G → g ≤ G
others_stay S D G d g e h = by_price S g G (omega (arith, e, h))

-- what a round leaves within the limit that it began with
round_within : (P : Prices) (hosts : Hosts) (most : ℕ) (s : Settling) → IsOfRun hosts s.world → seat_most P * seats_of s.world + other_most P * others_of s.world < P.making
    → P.seat * seats_of (settle_round most s).world + P.other * others_of (settle_round most s).world ≤ seat_most P * seats_of s.world + other_most P * others_of s.world
unfolding settle_round
round_within P hosts most s r h =
    let limit : ℕ = seat_most P * seats_of s.world + other_most P * others_of s.world in
    let w : Walked P limit (deliveries_from most (length s.world.posted) (all_also (ticks 1 s.world.nodes) s)).world =
    walk P limit most (length s.world.posted) (all_also (ticks 1 s.world.nodes) s) (begun_good P hosts s r) h in
    omega (arith, w.good.paid, nodes_least P (deliveries_from most (length s.world.posted) (all_also (ticks 1 s.world.nodes) s)).world.nodes)

dear_seats : ℕ → ℕ → Prices
dear_seats S making = record { seat = S + 1; other = 0; making = making }

dear_others : ℕ → ℕ → Prices
dear_others S making = record { seat = 0; other = S + 1; making = making }

round_seats : (hosts : Hosts) (most : ℕ) (s : Settling) → IsOfRun hosts s.world → seats_of (settle_round most s).world ≤ seats_of s.world + others_of s.world
unfolding dear_seats
round_seats hosts most s r =
    let D : ℕ = seats_of s.world in
    let G : ℕ = others_of s.world in
    let S : ℕ = 8 * D + 13 * G in
    let P : Prices = dear_seats S ((S + 1 + 8) * D + (0 + (S + 1) + 13) * G + 1) in
    seats_grow S D G (seats_of (settle_round most s).world) (others_of (settle_round most s).world) refl (round_within P hosts most s r (omega arith))

round_others : (hosts : Hosts) (most : ℕ) (s : Settling) → IsOfRun hosts s.world → others_of (settle_round most s).world ≤ others_of s.world
unfolding dear_others
round_others hosts most s r =
    let D : ℕ = seats_of s.world in
    let G : ℕ = others_of s.world in
    let S : ℕ = 8 * D + 13 * G in
    let P : Prices = dear_others S ((0 + 8) * D + (S + 1 + 0 + 13) * G + 1) in
    others_stay S D G (seats_of (settle_round most s).world) (others_of (settle_round most s).world) refl (round_within P hosts most s r (omega arith))

-- A round may begin with so many rounds to come.
record Ready (hosts : Hosts) (most k : ℕ) (s : Settling) : Type 0 where
  run : IsOfRun hosts s.world
  within : 8 * seats_of s.world + (13 + 8 * k) * others_of s.world ≤ most

one_less : (most k D G d g : ℕ) → d ≤ D + G → g ≤ G → 8 * D + (13 + 8 * suc k) * G ≤ most → 8 * d + (13 + 8 * k) * g ≤ most
one_less most k D G d g h i w =
    let more : (13 + 8 * suc k) * G ≡ 8 * G + (13 + 8 * k) * G = omega arith in
    omega (arith, h, w, more, mul-le-mul_left (13 + 8 * k) i)

next_ready : (hosts : Hosts) (most k : ℕ) (s : Settling) → Ready hosts most (suc k) s → Ready hosts most k (settle_round most s)
next_ready hosts most k s h = record {
  run = round_run hosts most s h.run;
  within = one_less most k (seats_of s.world) (others_of s.world) (seats_of (settle_round most s).world) (others_of (settle_round most s).world) (round_seats hosts most s h.run)
      (round_others hosts most s h.run) h.within;
}

ready_drains : (hosts : Hosts) (most k : ℕ) (s : Settling) → Ready hosts most k s → IsDrained most s
ready_drains hosts most k s h =
    let more : (13 + 8 * k) * others_of s.world ≡ 13 * others_of s.world + 8 * k * others_of s.world = omega arith in
    round_drains hosts most s h.run (omega (arith, h.within, more))

rounds_drain : (hosts : Hosts) (most n k : ℕ) (s : Settling) → n ≤ k → Ready hosts most k s → IsDrained most (settle_rounds n most s)
unfolding settle_rounds
rounds_drain hosts most zero k s h r = ready_drains hosts most k s r
rounds_drain hosts most (suc n) zero s h r = absurd (omega (arith, h))
rounds_drain hosts most (suc n) (suc k) s h r = rounds_drain hosts most n k (settle_round most s) (omega (arith, h)) (next_ready hosts most k s r)

-- the first round
waiting_split : (xs : List Node) → sum_by node_count xs ≡ sum_by (λ x. seats_in x.book) xs + sum_by (λ x. others_in x.book) xs
waiting_split [] = omega arith
waiting_split (x ∷ xs) =
    omega (arith, sum_by-cons node_count x xs, sum_by-cons (λ y. seats_in y.book) x xs, sum_by-cons (λ y. others_in y.book) x xs, waiting_split xs)

pub risen_run : (hosts : Hosts) (es : List WorldEvent) → IsOfRun hosts (risen hosts es).world
risen_run hosts es =
    all_further hosts (ups 1 (run_of hosts es).nodes) (record { world = run_of hosts es; events = [] }) (record { events = es; is = refl })

risen_ready : (hosts : Hosts) (es : List WorldEvent) → Ready hosts (granted (risen hosts es)) 7 (risen hosts es)
risen_ready hosts es = record { run = risen_run hosts es; within = omega (arith, waiting_split (risen hosts es).world.nodes) }

-- how many events
all_length : (es : List WorldEvent) (s : Settling) → length (all_also es s).events ≡ length s.events + length es
all_length [] s = omega arith
all_length (e ∷ es) s = omega (arith, all_length es (also e s), length-append s.events (e ∷ []))

ticks_length : (n : ℕ) (xs : List Node) → length (ticks n xs) ≡ length xs
ticks_length n [] = refl
ticks_length n (x ∷ xs) = omega (arith, ticks_length (n + 1) xs)

up_length : (n : ℕ) (o : Option Book) → length (up_if n o) ≤ 1
up_length n None = omega arith
up_length n (Some b) = omega arith

ups_length : (n : ℕ) (xs : List Node) → length (ups n xs) ≤ length xs
ups_length n [] = omega arith
ups_length n (x ∷ xs) = omega (arith, length-append (up_if n x.book) (ups (n + 1) xs), up_length n x.book, ups_length (n + 1) xs)

deliveries_length : (most j : ℕ) (s : Settling) → length (deliveries_from most j s).events ≤ length s.events + most
unfolding deliveries_from
deliveries_length zero j s = omega arith
deliveries_length (suc most) j s = by_next (next j s.world) (λ p t. deliveries_length most p t)
  where
    by_next : (o : Option (ℕ × ℕ)) → ((p : ℕ) (t : Settling) → length (deliveries_from most p t).events ≤ length t.events + most)
        → length (deliver_next o (deliveries_from most) s).events ≤ length s.events + suc most
    by_next None rest = omega arith
    by_next (Some (k, n)) rest =
        omega (arith, rest k (also (Turn n (Deliver k) [] None) s), length-append s.events (Turn n (Deliver k) [] None ∷ []))

round_length : (hosts : Hosts) (most : ℕ) (s : Settling) → IsOfRun hosts s.world → length (settle_round most s).events ≤ length s.events + (hosts.count + most)
unfolding settle_round
round_length hosts most s r =
    omega (arith, deliveries_length most (length s.world.posted) (all_also (ticks 1 s.world.nodes) s), all_length (ticks 1 s.world.nodes) s, ticks_length 1 s.world.nodes, run_length hosts s.world r)

rounds_length : (hosts : Hosts) (most n : ℕ) (s : Settling) → IsOfRun hosts s.world → length (settle_rounds n most s).events ≤ length s.events + n * (hosts.count + most)
unfolding settle_rounds
rounds_length hosts most zero s r = omega arith
rounds_length hosts most (suc n) s r =
    let more : suc n * (hosts.count + most) ≡ (hosts.count + most) + n * (hosts.count + most) = omega arith in
    omega (arith, more, rounds_length hosts most n (settle_round most s) (round_run hosts most s r), round_length hosts most s r)

events_few : (hosts : Hosts) (es : List WorldEvent) → length (settle (run_of hosts es)) ≤ settle_bound (run_of hosts es)
unfolding settle settled settle_from
events_few hosts es =
    let w : World = run_of hosts es in
    let s : Settling = risen hosts es in
    let size : length w.nodes ≡ hosts.count = run_length hosts w (record { events = es; is = refl }) in
    let most : ℕ = granted s in
    omega (arith, size, rounds_length hosts most 8 s (risen_run hosts es), all_length (ups 1 w.nodes) (record { world = w; events = [] }), ups_length 1 w.nodes)

pub drains : Drains
drains = record {
  few = events_few;
  rounds = λ hosts es n h. rounds_drain hosts (granted (risen hosts es)) n 7 (risen hosts es) (omega (arith, h)) (risen_ready hosts es);
}
