-- What was read of the calls of an event.
use Rattle.std.specs.Prelude.{ℕ, List, [], ◌≡◌, Bool, Option}
use Rattle.node_events.specs.NodeEvents.{struck}
use Rattle.call_readings.specs.declared.became.Became.{Became}
use Rattle.read_calls.specs.declared.reading.Named.{Named}
use Rattle.read_calls.specs.declared.reading.Named.TheVariants.{None, Struck}
use Rattle.read_calls.specs.declared.reading.Reading.{Reading}

abbrev pub fates_of : Named → List Bool
fates_of None = []
fates_of (Struck before last) = struck before last

pub record IsRead (r : Reading) (became : Became) (fates : List Bool) (until : Option ℕ) : Type 0 where
  pub became_is : r.became ≡ became
  pub fates_are : fates_of r.fates ≡ fates
  pub until_is : r.until ≡ until
