-- The transactions that live records promise, by rising id: a SubCommitted stands directly behind its Voted.
use Rattle.std.specs.Prelude.{ℕ, List, [], ◌∷◌, ◌++◌, Option, Some, None, Bool, false}
use Rattle.at_base.specs.Numbers.{Numbers}
use Rattle.at_base.specs.declared.record.Record.{Record}
use Rattle.at_base.specs.declared.record.Record.TheVariants as records
use Rattle.at_model.specs.Book.{Transaction}
use Rattle.at_model.specs.Recovery.{is_sub_committed, recovered_decided, recovered_voted}

abbrev pub first_of : List Record → Option Record
first_of [] = None
first_of (r ∷ rest) = Some r

abbrev pub commits : Numbers → Option Record → Bool
commits id None = false
commits id (Some r) = is_sub_committed id r

-- the transaction of a record, with the record behind it
abbrev pub promised : List ℕ → Record → Option Record → List Transaction
promised base (records.Voted id superior seats) next = recovered_voted id superior seats (commits id next) ∷ []
promised base (records.Decided id seats) next = recovered_decided base id seats ∷ []
promised base other next = []

abbrev pub transactions_in : List ℕ → List Record → List Transaction
transactions_in base [] = []
transactions_in base (r ∷ rest) = promised base r (first_of rest) ++ transactions_in base rest
