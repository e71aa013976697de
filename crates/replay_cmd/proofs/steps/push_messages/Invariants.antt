use Rattle.std.specs.Prelude.{◌≡◌, ◌++◌, ◌+◌, drop}
use Rattle.replay_cmd.specs.ReportOf.{message_lines}
use Rattle.replay_cmd.proofs.steps.push_messages.Given as goal

abbrev pub invariant-loop-place : goal.invariant-loop-place
invariant-loop-place l =
    l.lines ++ message_lines (l.number + l.place) (drop l.place l.fn.messages)
    ≡ l.fn.lines ++ message_lines l.number l.fn.messages
