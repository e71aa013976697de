use Rattle.reading_laws.proofs.ReadingsAsk.{readings_ask}
use Rattle.reading_laws.proofs.laws.readings_ask.Goals as goal

pub returns : goal.returns
returns c = readings_ask
