-- The loops of the schedule of a seed, one time after another.
use Rattle.std.proofs.Common.{ℕ, zero, suc, ◌+◌, ◌-◌, ◌<◌, ◌≡◌, ◌++◌, ◌∷◌, List, refl, [], length, ap, ◌∙◌, sym, arith}
use Rattle.std.proofs.lemmas.List.{map-append}
use Rattle.std.specs.Prelude.{Some, None, map}
use Rattle.at_model.specs.Views.{up}
use Rattle.at_model.specs.World.{opening, example_hosts}
use Rattle.world_laws.specs.Events.{event_of}
use Rattle.world_laws.specs.declared.event.WorldEvent.{WorldEvent as Given}
use Rattle.world_laws.specs.Runs.{Run, world_of}
use Rattle.replay_cmd.specs.Deliveries.{lowest}
use Rattle.replay_cmd.specs.MadeCourses.{Course, all_up, delivers, delivers_where, flushes, happens}

pub opened : (r : Run) (count : ℕ) → r ≡ record { count = count; events = [] } → world_of r ≡ opening (example_hosts count)
unfolding world_of
opened r count h = ap world_of h

pub none_yet : (r : Run) (count : ℕ) → r ≡ record { count = count; events = [] } → map event_of r.events ≡ []
none_yet r count h = ap (λ (x : Run). map event_of x.events) h

pub one_more : (r : Run) (count : ℕ) (events : List Given) (e : Given) → r ≡ record { count = count; events = events ++ e ∷ [] } → map event_of r.events ≡ map event_of events ++ event_of e ∷ []
one_more r count events e h = ap (λ (x : Run). map event_of x.events) h ∙ map-append event_of events (e ∷ [])

pub flush_more :
    (m t k : ℕ) (c : Course) → t < m → Some k ≡ lowest (length c.world.posted) 1 c.delivered
    → flushes (m - t) c ≡ flushes (m - (t + 1)) (delivers k c)
flush_more m t k c h e =
    let d : m - t ≡ suc (m - (t + 1)) = omega arith in
    rw d (ap (λ o. flushes (m - (t + 1)) (delivers_where o c)) (sym e))

pub flush_none :
    (m : ℕ) (c : Course) → None ≡ lowest (length c.world.posted) 1 c.delivered → flushes m c ≡ c
flush_none zero c e = refl
flush_none (suc m) c e = ap (λ o. flushes m (delivers_where o c)) (sym e) ∙ flush_none m c e

pub up_more :
    (m p : ℕ) (c : Course) → p < m
    → all_up (m - p) (p + 1) c ≡ all_up (m - (p + 1)) (p + 1 + 1) (happens (up (p + 1)) c)
up_more m p c h = let d : m - p ≡ suc (m - (p + 1)) = omega arith in rw d refl
