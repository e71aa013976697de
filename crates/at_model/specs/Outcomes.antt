-- The outcomes that a node keeps: the ids of its last roots that committed, so that an initiator that asks again, also
-- after a crash, hears of the commit (this project's addition to WS-AtomicTransaction 1.2, section 3.2).
use Rattle.std.specs.Prelude.{List, [], ◌∷◌, ◌++◌, ◌-◌, Bool, not, length, drop, filter}
use Rattle.std.specs.List.{list_any}
use Rattle.at_base.specs.Numbers.{Numbers}
use Rattle.at_base.specs.declared.limits.TheConstants.{MOST_OUTCOMES}
use Rattle.at_base.specs.declared.record.Record.{Record}
use Rattle.at_base.specs.declared.record.Record.TheVariants as records
use Rattle.at_model.specs.Book.{Book, is_id}

-- the last so many
abbrev pub newest : List Numbers → List Numbers
newest ids = drop (length ids - MOST_OUTCOMES) ids

-- the id stands last, and only there
abbrev pub put_last : Numbers → List Numbers → List Numbers
put_last id ids = newest (filter (λ i. not (is_id i id)) ids ++ id ∷ [])

-- A root's decision is kept, also where nothing else is left of it.
abbrev pub with_outcome : Record → List Numbers → List Numbers
with_outcome (records.Decided id seats) ids = put_last id ids
with_outcome (records.Done id) ids = put_last id ids
with_outcome other ids = ids

-- those that records add, in their order
abbrev pub outcomes_after : List Numbers → List Record → List Numbers
outcomes_after ids [] = ids
outcomes_after ids (r ∷ rest) = outcomes_after (with_outcome r ids) rest

abbrev pub is_kept : Numbers → List Numbers → Bool
is_kept id ids = list_any (λ i. is_id i id) ids

-- What a record that stands in the journal changes of the book, beside the item that it is about.
abbrev pub noted : Record → Book → Book
noted r b = record b { outcomes = with_outcome r b.outcomes }
