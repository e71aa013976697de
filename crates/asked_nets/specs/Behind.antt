-- What is behind an event, behind whose steps its node may have gone down as its journal was written anew.
use Rattle.std.specs.Prelude.{List, [], ◌∷◌, Bool, true, false}
use Rattle.at_model.specs.World.{World, WorldEvent, Crash, node_of, world_step}
use Rattle.call_readings.specs.declared.became.Became.{Became}
use Rattle.call_readings.specs.declared.became.Became.TheVariants.{Stays, Falls, Halts, FallsAnew, HaltsAnew}

-- it went down there
abbrev pub goes_anew : Became → Bool
goes_anew Stays = false
goes_anew (Falls kept choice) = false
goes_anew Halts = false
goes_anew (FallsAnew kept choice) = true
goes_anew HaltsAnew = true

-- Such a node has taken its whole turn, and then crashed.
abbrev pub world_behind : Bool → World → WorldEvent → World
world_behind false w e = world_step w e
world_behind true w e = world_step (world_step w e) (Crash (node_of e))

-- what happened in the world
abbrev pub events_by : Bool → WorldEvent → List WorldEvent
events_by false e = e ∷ []
events_by true e = e ∷ Crash (node_of e) ∷ []
