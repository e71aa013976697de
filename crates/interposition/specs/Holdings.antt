-- How much a book holds that may wait for an answer.
use Rattle.std.specs.Prelude.{ℕ, Some, ◌+◌, ◌≤◌, length}
use Rattle.std.specs.List.{AllByRecursion}
use Rattle.at_base.specs.declared.limits.TheConstants.{MOST_SEATS}
use Rattle.at_model.specs.Book.{Book, Transaction}
use Rattle.model_laws.specs.Settlement.{others_in, seats_in}

-- its seats and completion seats; and its links, leaves and activities
abbrev pub held : Book → ℕ
held b = seats_in (Some b) + others_in (Some b)

abbrev pub HasFewSeats : Transaction → Type 0
HasFewSeats t = length t.seats ≤ MOST_SEATS

-- A book each of whose transactions has no more seats than are accepted, and whose lists are no longer than 4,294,967,295:
-- a list takes no more where 1,024 items live.
pub record HoldsFew (b : Book) : Type 0 where
  pub seats : AllByRecursion HasFewSeats b.transactions
  pub transactions : length b.transactions ≤ 4294967295
  pub leaves : length b.leaves ≤ 4294967295
  pub activities : length b.activities ≤ 4294967295
