-- The lines of what is open: who is in doubt and whom it asks, and which decisions wait for whom.
use Rattle.std.specs.Prelude.{ℕ, List, [], ◌∷◌, ◌++◌, if◌then◌else◌, codes}
use Rattle.std.specs.List.{list_any}
use Rattle.at_base.specs.Numbers.{Numbers}
use Rattle.at_base.specs.declared.epr.Epr.{Epr}
use Rattle.at_base.specs.declared.record.Record.{Record}
use Rattle.at_base.specs.declared.record.Record.TheVariants as records
use Rattle.at_base.specs.declared.record.Seated.{Seated}
use Rattle.at_model.specs.Recovery.{is_sub_committed}
use Rattle.journal_page.specs.Words.{endpoint_part, item, seats_part}

-- it voted Prepared, and asks for the outcome (WS-AtomicTransaction 1.2, section 3.3.4)
unfoldable pub doubt_line : Numbers → Epr → List ℕ
doubt_line id e = item (codes "in doubt") id ++ (endpoint_part (codes "asks") e ++ codes "\n")

-- it was decided to commit, and these participants haven't said that they did
unfoldable pub decision_line : Numbers → List Seated → List ℕ
decision_line id ss = item (codes "decision") id ++ (seats_part (codes "waits for") ss ++ codes "\n")

-- of a live record, with those behind it: a vote is in doubt until its coordinator is told to commit
abbrev pub open_line : Record → List Record → List ℕ
open_line (records.LeafPrepared id coordinator key value) rest = doubt_line id coordinator
open_line (records.Voted id superior seats) rest = if list_any (is_sub_committed id) rest then decision_line id seats else doubt_line id superior
open_line (records.Decided id seats) rest = decision_line id seats
open_line (records.Start incarnation) rest = []
open_line (records.LeafCommitted id) rest = []
open_line (records.LeafAborted id) rest = []
open_line (records.SubCommitted id) rest = []
open_line (records.Ended id) rest = []
open_line (records.Done id) rest = []

abbrev pub each_open : List Record → List ℕ
each_open [] = []
each_open (r ∷ rs) = open_line r rs ++ each_open rs

-- of all live records
abbrev pub open_lines : List Record → List ℕ
open_lines [] = codes "nothing open\n"
open_lines (r ∷ rs) = each_open (r ∷ rs)
