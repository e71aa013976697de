-- Items that are kept, forgotten or given anew, and never moved.
use Rattle.std.specs.Prelude.{Option}
use Rattle.at_model.specs.Moves.{Change, Decision}
use Rattle.by_id.specs.Fates
use Rattle.by_id.specs.declared.fates.Choice.{Choice}
use Rattle.by_id.specs.declared.fates.Turn.{Turn}

abbrev pub unmoved : {A : Type 0} → Unit {0} → A → A
unmoved by item = item

abbrev pub turn_of : {A : Type 0} → Option A → Turn A (Unit {0}) → Change A
turn_of = Fates.turn_of unmoved

abbrev pub meant : {A : Type 0} → Option A → Choice A (Unit {0}) → Decision A
meant = Fates.meant unmoved
