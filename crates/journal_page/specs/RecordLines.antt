-- The lines of a journal's records, in the journal's order: what is recorded, the id, and the endpoints.
use Rattle.std.specs.Prelude.{ℕ, List, [], ◌∷◌, ◌++◌, codes}
use Rattle.at_base.specs.declared.record.Record.{Record}
use Rattle.at_base.specs.declared.record.Record.TheVariants as records
use Rattle.journal_page.specs.Words.{endpoint_part, item, number_line, seats_part}

abbrev pub record_line : Record → List ℕ
-- a node came up in this incarnation
record_line (records.Start incarnation) = number_line (codes "start") incarnation
-- a participant voted Prepared to its coordinator
record_line (records.LeafPrepared id coordinator key value) = item (codes "prepared") id ++ (endpoint_part (codes "under") coordinator ++ codes "\n")
-- it was told to commit, or to roll back
record_line (records.LeafCommitted id) = item (codes "committed") id ++ codes "\n"
record_line (records.LeafAborted id) = item (codes "aborted") id ++ codes "\n"
-- an interposed coordinator voted Prepared to its superior, with these seats prepared
record_line (records.Voted id superior seats) =
    item (codes "voted") id ++ (endpoint_part (codes "under") superior ++ (seats_part (codes "seats") seats ++ codes "\n"))
-- a root decided to commit
record_line (records.Decided id seats) = item (codes "decided") id ++ (seats_part (codes "seats") seats ++ codes "\n")
-- an interposed coordinator was told to commit
record_line (records.SubCommitted id) = item (codes "committing") id ++ codes "\n"
-- nobody waits for the transaction any more
record_line (records.Ended id) = item (codes "ended") id ++ codes "\n"
-- a root committed, and is over
record_line (records.Done id) = item (codes "outcome") id ++ codes " committed\n"

abbrev pub record_lines : List Record → List ℕ
record_lines [] = []
record_lines (r ∷ rs) = record_line r ++ record_lines rs
