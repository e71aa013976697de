-- How much the transactions of a node hold that may wait for an answer.
use Rattle.std.specs.Prelude.{ℕ, List, Option, Some, None, ◌+◌, length, sum_by}
use Rattle.at_model.specs.Book.{Transaction, Completion, Superior}

-- an initiator has one completion seat
abbrev pub completions_held : Option Completion → ℕ
completions_held None = 0
completions_held (Some c) = 1

-- a subordinate has two links to its superior
abbrev pub links_held : Option Superior → ℕ
links_held None = 0
links_held (Some s) = 2

-- its seats, its completion seat and its links
abbrev pub transaction_held : Transaction → ℕ
transaction_held t = length t.seats + completions_held t.completion + links_held t.superior

abbrev pub transactions_held : List Transaction → ℕ
transactions_held ts = sum_by transaction_held ts
