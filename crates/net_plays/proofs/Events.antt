-- What happened so far, and one event more.
use Rattle.std.proofs.Common.{◌<◌, ◌≤◌, ◌≡◌, ◌++◌, ◌∷◌, List, [], length, ap, ◌∙◌, arith, ℕ}
use Rattle.std.proofs.lemmas.List.{append_assoc, length-append, length-map, map-append}
use Rattle.std.specs.Prelude.{Bool, true, false, map}
use Rattle.asked_nets.specs.Behind.{events_by}
use Rattle.at_model.specs.World.{Crash, WorldEvent, node_of}
use Rattle.world_laws.specs.Events.{event_of}
use Rattle.world_laws.specs.Runs.{Run}
use Rattle.world_laws.specs.declared.event.WorldEvent.{WorldEvent as Given}

pub one_more : (r : Run) (count : ℕ) (events : List Given) (e : Given) → r ≡ record { count = count; events = events ++ e ∷ [] } → map event_of r.events ≡ map event_of events ++ event_of e ∷ []
one_more r count events e h = ap (λ (x : Run). map event_of x.events) h ∙ map-append event_of events (e ∷ [])

pub count_same : (r : Run) (count : ℕ) (events : List Given) → r ≡ record { count = count; events = events } → r.count ≡ count
count_same r count events h = ap (λ (x : Run). x.count) h

-- and the crash of its node behind it
pub events_down : (e : WorldEvent) (n : ℕ) (before first all : List WorldEvent)
    → n ≡ node_of e → first ≡ before ++ e ∷ [] → all ≡ first ++ Crash n ∷ [] → all ≡ before ++ events_by true e
events_down e n before first all is_node is_first is =
    is ∙ (ap (λ x. first ++ Crash x ∷ []) is_node ∙ (ap (λ x. x ++ Crash (node_of e) ∷ []) is_first ∙ append_assoc before (e ∷ []) (Crash (node_of e) ∷ [])))

-- there is no room for the first, or for the second
pub first_many : (events : List Given) (down : Bool) (e : WorldEvent) → 4294967295 ≤ length events → 4294967295 < length (map event_of events ++ events_by down e)
first_many events true e many = omega (arith, many, length-map events event_of, length-append (map event_of events) (events_by true e))
first_many events false e many = omega (arith, many, length-map events event_of, length-append (map event_of events) (events_by false e))

pub second_many : (events behind : List Given) (e : WorldEvent) → map event_of behind ≡ map event_of events ++ e ∷ [] → 4294967295 ≤ length behind
    → 4294967295 < length (map event_of events ++ events_by true e)
second_many events behind e is many =
    omega (arith, many, length-map events event_of, length-map behind event_of, ap length is, length-append (map event_of events) (e ∷ []), length-append (map event_of events) (events_by true e))
