-- A world on its way to rest has ever more events.
use Rattle.std.proofs.Common.{ℕ, zero, suc, ◌+◌, ◌-◌, ◌<◌, ◌≤◌, ◌≡◌, List, [], ◌∷◌, length, map, drop, ap, ◌∙◌, sym, subst, arith}
use Rattle.std.proofs.lemmas.List.{length-append, length-drop, length-map}
use Rattle.std.specs.Prelude.{Some, None}
use Rattle.at_model.specs.World.{Deliver, Turn, WorldEvent}
use Rattle.model_laws.specs.Settlement.{Settling, all_also, also, first_received, settle_round, settle_rounds, ticks}
use Rattle.settling.specs.Drains.{Delivers, IsDrained}
use Rattle.settling.specs.Drains.Delivers.{none_left, one_more}
use Rattle.world_laws.specs.Events.{event_of}
use Rattle.world_laws.specs.declared.event.WorldEvent.{WorldEvent as Given}
use Rattle.settlement.proofs.Rounds.{rounds_step, some_or_none}

all_length : (es : List WorldEvent) (s : Settling) → length (all_also es s).events ≡ length s.events + length es
all_length [] s = omega arith
all_length (e ∷ es) s = omega (arith, all_length es (also e s), length-append s.events (e ∷ []))

-- there is no place for an event of these
pub one_of_many : (all : List Given) (i past : ℕ) (s first : Settling) → i < length all → all_also (map event_of (drop i all)) s ≡ all_also (map event_of all) first
    → 4294967295 ≤ past + length s.events → 4294967295 < past + length (all_also (map event_of all) first).events
one_of_many all i past s first within same many =
    let more = all_length (map event_of (drop i all)) s in
    let alike : length (all_also (map event_of (drop i all)) s).events ≡ length (all_also (map event_of all) first).events = ap (λ (x : Settling). length x.events) same in
    omega (arith, within, many, more, alike, length-map (drop i all) event_of, length-drop i all)

delivers_grow : (last : Settling) (j : ℕ) (s : Settling) → Delivers last j s → length s.events ≤ length last.events
delivers_grow last j s (none_left e f) = let same : length last.events ≡ length s.events = ap (λ (x : Settling). length x.events) f in omega (arith, same)
delivers_grow last j s (one_more k n e rest) =
    omega (arith, delivers_grow last k (also (Turn n (Deliver k) [] None) s) rest, length-append s.events (Turn n (Deliver k) [] None ∷ []))

-- nor for a delivery
pub delivery_of_many : (last s : Settling) (j k n past : ℕ) → Some (k, n) ≡ first_received (j + 1) (drop j s.world.posted) → Delivers last j s
    → 4294967295 ≤ past + length s.events → 4294967295 < past + length last.events
delivery_of_many last s j k n past found (none_left e f) many = absurd (some_or_none _ _ e (sym found))
delivery_of_many last s j k n past found (one_more l m e rest) many =
    omega (arith, many, delivers_grow last l (also (Turn m (Deliver l) [] None) s) rest, length-append s.events (Turn m (Deliver l) [] None ∷ []))

pub ticks_of_many : (last s : Settling) (j past : ℕ) → Delivers last j s → 4294967295 < past + length s.events → 4294967295 < past + length last.events
ticks_of_many last s j past d many = omega (arith, many, delivers_grow last j s d)

round_grows : (n most : ℕ) (start : Settling) → IsDrained most (settle_rounds n most start)
    → length (settle_rounds n most start).events ≤ length (settle_rounds (suc n) most start).events
round_grows n most start drained =
    let s = settle_rounds n most start in
    let next : length (settle_rounds (suc n) most start).events ≡ length (settle_round most s).events = ap (λ (x : Settling). length x.events) (rounds_step n most start) in
    omega (arith, next, delivers_grow (settle_round most s) (length s.world.posted) (all_also (ticks 1 s.world.nodes) s) drained, all_length (ticks 1 s.world.nodes) s)

abbrev Drain : ℕ → Settling → Type 0
Drain most start = (n : ℕ) → n < 8 → IsDrained most (settle_rounds n most start)

grown : (k i most : ℕ) (start : Settling) → Drain most start → k + i ≤ 8
    → length (settle_rounds i most start).events ≤ length (settle_rounds (k + i) most start).events
grown zero i most start drain within = let none : 0 + i ≡ i = omega arith in rw none (omega arith)
grown (suc k) i most start drain within =
    let more : suc k + i ≡ suc (k + i) = omega arith in
    let so_far = grown k i most start drain (omega (arith, within)) in
    let one = round_grows (k + i) most start (drain (k + i) (omega (arith, within))) in
    rw more (omega (arith, so_far, one))

-- nor for a round
pub round_of_many : (i most past : ℕ) (start now : Settling) → i < 8 → Drain most start → now ≡ settle_rounds i most start
    → ((last : Settling) → Delivers last (length now.world.posted) (all_also (ticks 1 now.world.nodes) now) → 4294967295 < past + length last.events)
    → 4294967295 < past + length (settle_rounds 8 most start).events
round_of_many i most past start now within drain e many =
    let own : IsDrained most now = subst (IsDrained most) (sym e) (drain i within) in
    let next : length (settle_rounds (suc i) most start).events ≡ length (settle_round most now).events =
    ap (λ (x : Settling). length x.events) (rounds_step i most start ∙ ap (settle_round most) (sym e)) in
    let all : length (settle_rounds (suc i) most start).events ≤ length (settle_rounds 8 most start).events = to_last in
    omega (arith, many (settle_round most now) own, next, all)
  where
    to_last : length (settle_rounds (suc i) most start).events ≤ length (settle_rounds 8 most start).events
    to_last =
        let whole : (7 - i) + suc i ≡ 8 = omega (arith, within) in
        subst (λ n. length (settle_rounds (suc i) most start).events ≤ length (settle_rounds n most start).events) whole
        (grown (7 - i) (suc i) most start drain (omega (arith, within)))

-- nor for all nodes to come up
pub rise_of_many : (most past : ℕ) (start : Settling) → Drain most start → 4294967295 < past + length start.events
    → 4294967295 < past + length (settle_rounds 8 most start).events
unfolding settle_rounds
rise_of_many most past start drain many = omega (arith, many, grown 8 0 most start drain (omega arith))
