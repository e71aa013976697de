use Rattle.std.proofs.Common.{◌≡◌, drop}
use Rattle.std.specs.List.{list_any}
use Rattle.decision_log.specs.KeptRecords.{is_commit_of}
use Rattle.decision_log.proofs.further_record.has_commit.Given as goal

abbrev pub invariant-loop-token : goal.invariant-loop-token
invariant-loop-token l = list_any (is_commit_of l.id) (drop l.token-index l.tokens) ≡ list_any (is_commit_of l.id) l.tokens
