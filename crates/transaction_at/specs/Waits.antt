-- What a transaction's phase waits for.
use Rattle.std.specs.Prelude.{List, Bool, false, not}
use Rattle.std.specs.List.{list_any}
use Rattle.at_base.specs.declared.notice.Kind.TheVariants as kinds
use Rattle.at_tables.specs.declared.cells.State.TheVariants as states
use Rattle.at_model.specs.Book.{Enlistment, Phase}
use Rattle.at_model.specs.Seats.{all_left, answered, in_state}

abbrev pub has_come : Phase → List Enlistment → Bool
has_come Phase.Registering seats = false
has_come Phase.Active seats = false
has_come Phase.Volatile seats = answered kinds.Volatile seats
has_come Phase.Durable seats = answered kinds.Durable seats
has_come Phase.Voted seats = false
has_come Phase.Committing seats = all_left seats
has_come Phase.Aborting seats = not (list_any (in_state states.Aborting) seats)
