use Rattle.std.proofs.Common.{◌≡◌, drop}
use Rattle.std.specs.List.{list_any}
use Rattle.at_model.specs.Recovery.{is_sub_committed}
use Rattle.journal_page.proofs.open_lines.has_commit.Given as goal

abbrev pub invariant-loop-entry : goal.invariant-loop-entry
invariant-loop-entry l = list_any (is_sub_committed l.id) (drop l.entry-index l.entries) ≡ list_any (is_sub_committed l.id) l.entries
