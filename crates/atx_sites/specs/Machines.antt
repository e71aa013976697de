-- What holds of a node's machine from its beginning on, behind each of its calls.
use Rattle.std.specs.Prelude.{All}
use Rattle.system_calls.specs.Calls.{Calls, Number}
use Rattle.atx_sites.specs.Arrivals.{Bounded, ConnectionCame}
use Rattle.atx_sites.specs.Departures.{Within}
use Rattle.atx_sites.specs.Departures.{IsTimed as LeavesInTime}
use Rattle.atx_sites.specs.Names.{AreAnswered}
use Rattle.atx_sites.specs.Waits.{IsTimed}
use Rattle.atx_sites.specs.declared.connection.Connection.{Connection}
use Rattle.atx_sites.specs.declared.departures.Departures.{Departures}

pub record Holds {L C : Type 0} (number : C → Number) (listens : L → Number) (calls : Calls) (connection : Connection L C) (departures : Departures C) : Type 0 where
  -- each connection that waits, and the one that is served, was accepted at the listener, and its bytes are those that its reads gave
  pub came : ConnectionCame number listens calls connection
  pub bounded : Bounded connection.waiting.arriving.items
  -- each that waits has 10 seconds
  pub timed : All (IsTimed calls) connection.waiting.arriving.items
  pub within : Within departures.leaving.items
  -- each that leaves has 5 seconds
  pub paced : All (LeavesInTime calls) departures.leaving.items
  -- each name that is kept has the addresses that it was answered, until 60 seconds behind that
  pub answered : AreAnswered calls departures.names.names.items
