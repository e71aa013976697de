-- Lists of events, one after another.
use Rattle.std.proofs.Common.{ℕ, zero, suc, ◌+◌, ◌-◌, ◌<◌, ◌≤◌, ◌≡◌, refl, List, [], ◌∷◌, ◌++◌, length, map, drop, ap, ◌∙◌, sym, arith}
use Rattle.std.proofs.lemmas.List.{append-nil, append_assoc, length-append, length-map, map-append}
use Rattle.std.specs.Prelude.{None, option_and_then}
use Rattle.at_base.specs.declared.limits.TheConstants.{RESEND_AFTER}
use Rattle.at_model.specs.World.{Node, Tick, Turn, World, WorldEvent, nth, run_of, world_step, example_hosts}
use Rattle.model_laws.specs.Settlement.{also, ticks, up_if, ups}
use Rattle.settling.proofs.Places.{nth_behind}
use Rattle.settling.proofs.Runs.{run_length}
use Rattle.world_laws.specs.Events.{event_of}
use Rattle.world_laws.specs.Runs.{Run, book_of, world_of}
use Rattle.settlement.specs.Ways.{Way}
use Rattle.world_laws.specs.declared.event.WorldEvent.{WorldEvent as Given}

pub one_behind : (old new : List Given) (e : Given) → new ≡ old ++ e ∷ [] → map event_of new ≡ map event_of old ++ event_of e ∷ []
one_behind old new e h = ap (map event_of) h ∙ map-append event_of old (e ∷ [])

pub one_longer : (r : Run) (count : ℕ) (events : List Given) (e : Given) → r ≡ record { count = count; events = events ++ e ∷ [] } → length r.events ≡ length events + 1
one_longer r count events e h = ap (λ (x : Run). length x.events) h ∙ length-append events (e ∷ [])

-- the events before and those that are counted are those of the world
pub all_counted : (past : ℕ) (events all : List Given) → past + length events ≡ length all → past + length (map event_of events) ≡ length all
all_counted past events all e = ap (λ n. past + n) (length-map events event_of) ∙ e

-- a world has as many nodes as its run
pub nodes_counted : (r : Run) → length (world_of r).nodes ≡ r.count
unfolding world_of
nodes_counted r = run_length (example_hosts r.count) (run_of (example_hosts r.count) (map event_of r.events)) (record { events = map event_of r.events; is = refl })

pub none_behind : (xs : List WorldEvent) → xs ≡ xs ++ []
none_behind xs = sym (append-nil xs)

ups_from : (place m : ℕ) (nodes : List Node) → place < length nodes
    → ups m (drop place nodes) ≡ up_if m (option_and_then book_of (nth (place + 1) nodes)) ++ ups (m + 1) (drop (place + 1) nodes)
ups_from place m [] h = absurd (omega (arith, h))
ups_from zero m (x ∷ xs) h = refl
ups_from (suc place) m (x ∷ xs) h =
    let less : suc place + 1 - 1 ≡ place + 1 = omega arith in
    let found : nth (place + 1) xs ≡ nth (suc place + 1) (x ∷ xs) = ap (λ k. nth k xs) (sym less) ∙ sym (nth_behind (suc place + 1) x xs (omega arith)) in
    let more : suc (place + 1) ≡ suc place + 1 = omega arith in
    ups_from place m xs (omega (arith, h))
    ∙ (ap (λ o. up_if m (option_and_then book_of o) ++ ups (m + 1) (drop (place + 1) xs)) found
    ∙ ap (λ k. up_if m (option_and_then book_of (nth (suc place + 1) (x ∷ xs))) ++ ups (m + 1) (drop k (x ∷ xs))) more)

-- one node more
up_behind : (place : ℕ) (nodes : List Node) (old new all : List WorldEvent) → place < length nodes
    → new ≡ old ++ up_if (place + 1) (option_and_then book_of (nth (place + 1) nodes))
    → old ++ ups (place + 1) (drop place nodes) ≡ all → new ++ ups (place + 1 + 1) (drop (place + 1) nodes) ≡ all
up_behind place nodes old new all h e k =
    ap (λ es. es ++ ups (place + 1 + 1) (drop (place + 1) nodes)) e
    ∙ (append_assoc old (up_if (place + 1) (option_and_then book_of (nth (place + 1) nodes))) (ups (place + 1 + 1) (drop (place + 1) nodes))
    ∙ (ap (λ es. old ++ es) (sym (ups_from place (place + 1) nodes h)) ∙ k))

pub up_more : (place : ℕ) (r : Run) (old new all : List WorldEvent) → place < r.count
    → new ≡ old ++ up_if (place + 1) (option_and_then book_of (nth (place + 1) (world_of r).nodes))
    → old ++ ups (place + 1) (drop place (world_of r).nodes) ≡ all → new ++ ups (place + 1 + 1) (drop (place + 1) (world_of r).nodes) ≡ all
up_more place r old new all h e k = up_behind place (world_of r).nodes old new all (omega (arith, h, nodes_counted r)) e k

no_more_ups : (nodes : List Node) (place m : ℕ) (old all : List WorldEvent) → length nodes ≤ place → old ++ ups m (drop place nodes) ≡ all → old ≡ all
no_more_ups [] zero m old all h e = none_behind old ∙ e
no_more_ups [] (suc place) m old all h e = none_behind old ∙ e
no_more_ups (x ∷ xs) zero m old all h e = absurd (omega (arith, h))
no_more_ups (x ∷ xs) (suc place) m old all h e = no_more_ups xs place m old all (omega (arith, h)) e

ticks_from : (place m : ℕ) (nodes : List Node) → place < length nodes
    → ticks m (drop place nodes) ≡ Turn m (Tick RESEND_AFTER) [] None ∷ ticks (m + 1) (drop (place + 1) nodes)
ticks_from place m [] h = absurd (omega (arith, h))
ticks_from zero m (x ∷ xs) h = refl
ticks_from (suc place) m (x ∷ xs) h =
    let more : suc (place + 1) ≡ suc place + 1 = omega arith in
    ticks_from place m xs (omega (arith, h)) ∙ ap (λ k. Turn m (Tick RESEND_AFTER) [] None ∷ ticks (m + 1) (drop k (x ∷ xs))) more

tick_behind : (place : ℕ) (nodes : List Node) (old new all : List WorldEvent) → place < length nodes
    → new ≡ old ++ Turn (place + 1) (Tick RESEND_AFTER) [] None ∷ []
    → old ++ ticks (place + 1) (drop place nodes) ≡ all → new ++ ticks (place + 1 + 1) (drop (place + 1) nodes) ≡ all
tick_behind place nodes old new all h e k =
    ap (λ es. es ++ ticks (place + 1 + 1) (drop (place + 1) nodes)) e
    ∙ (append_assoc old (Turn (place + 1) (Tick RESEND_AFTER) [] None ∷ []) (ticks (place + 1 + 1) (drop (place + 1) nodes))
    ∙ (ap (λ es. old ++ es) (sym (ticks_from place (place + 1) nodes h)) ∙ k))

pub tick_more : (place : ℕ) (r : Run) (old new all : List WorldEvent) → place < r.count
    → new ≡ old ++ Turn (place + 1) (Tick RESEND_AFTER) [] None ∷ []
    → old ++ ticks (place + 1) (drop place (world_of r).nodes) ≡ all → new ++ ticks (place + 1 + 1) (drop (place + 1) (world_of r).nodes) ≡ all
tick_more place r old new all h e k = tick_behind place (world_of r).nodes old new all (omega (arith, h, nodes_counted r)) e k

no_more_ticks : (nodes : List Node) (place m : ℕ) (old all : List WorldEvent) → length nodes ≤ place → old ++ ticks m (drop place nodes) ≡ all → old ≡ all
no_more_ticks [] zero m old all h e = none_behind old ∙ e
no_more_ticks [] (suc place) m old all h e = none_behind old ∙ e
no_more_ticks (x ∷ xs) zero m old all h e = absurd (omega (arith, h))
no_more_ticks (x ∷ xs) (suc place) m old all h e = no_more_ticks xs place m old all (omega (arith, h)) e

pub all_ups : (r : Run) (place m : ℕ) (old all : List WorldEvent) → r.count ≤ place → old ++ ups m (drop place (world_of r).nodes) ≡ all → old ≡ all
all_ups r place m old all h e = no_more_ups (world_of r).nodes place m old all (omega (arith, h, nodes_counted r)) e

pub all_ticks : (r : Run) (place m : ℕ) (old all : List WorldEvent) → r.count ≤ place → old ++ ticks m (drop place (world_of r).nodes) ≡ all → old ≡ all
all_ticks r place m old all h e = no_more_ticks (world_of r).nodes place m old all (omega (arith, h, nodes_counted r)) e

-- one event more of a world that had so many before
pub one_way : (past : ℕ) (world after : World) (old new : List Given) (e : Given) → after ≡ world_step world (event_of e)
    → map event_of new ≡ map event_of old ++ event_of e ∷ []
    → ◌≡◌ {A = Way} (record { past = past; settling = record { world = after; events = map event_of new } }) (record { past = past; settling = also (event_of e) (record { world = world; events = map event_of old }) })
one_way past world after old new e w es = λ i. record { past = past; settling = record { world = w i; events = es i } }
