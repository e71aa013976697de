-- The groups of seats that are told or moved together, as tests of a seat.
use Rattle.std.specs.Prelude.{Bool, not, ◌&&◌, ◌||◌, is_some}
use Rattle.at_base.specs.Names.{is_kind}
use Rattle.at_base.specs.declared.notice.Kind.{Kind}
use Rattle.at_base.specs.declared.notice.Kind.TheVariants as kinds
use Rattle.at_tables.specs.Names.{is_state}
use Rattle.at_tables.specs.declared.cells.State.{State}
use Rattle.at_tables.specs.declared.cells.State.TheVariants as states
use Rattle.at_model.specs.Book.{Enlistment}
use Rattle.at_model.specs.Due.{unanswered_seat}
use Rattle.at_model.specs.Seats.{in_state, is_durable, is_of, is_open}
use Rattle.transaction_at.specs.declared.seats.Group.{Group}
use Rattle.transaction_at.specs.declared.seats.Group.TheVariants as groups

-- a seat of this kind, in this state, is in the group
abbrev pub stands : Group → Kind → State → Bool
stands groups.Open kind state = is_state state states.Active || is_state state states.Preparing || is_state state states.Prepared
stands (groups.In other) kind state = is_state state other
stands (groups.Of other same) kind state = is_kind kind other && is_state state same
stands (groups.Unanswered other) kind state =
    (is_kind kind other && is_state state states.Active) || (is_kind kind other && is_state state states.Preparing)
stands groups.DurableStaying kind state = is_kind kind kinds.Durable && not (is_state state states.None)
stands groups.Asked kind state = is_some (unanswered_seat state)

abbrev pub belongs : Group → (Enlistment → Bool)
belongs groups.Open = is_open
belongs (groups.In state) = in_state state
belongs (groups.Of kind state) = is_of kind state
belongs (groups.Unanswered kind) = λ s. is_of kind states.Active s || is_of kind states.Preparing s
belongs groups.DurableStaying = λ s. is_durable s && not (in_state states.None s)
belongs groups.Asked = λ s. is_some (unanswered_seat s.state)
