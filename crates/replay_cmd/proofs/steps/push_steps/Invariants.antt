use Rattle.std.specs.Prelude.{◌≡◌, ◌++◌, ◌+◌, drop, length}
use Rattle.replay_cmd.specs.ReportOf.{step_lines}
use Rattle.replay_cmd.proofs.steps.push_steps.Given as goal

abbrev pub invariant-loop-counted : goal.invariant-loop-counted
invariant-loop-counted l =
    (l.lines ++ step_lines l.node l.next l.rest (drop l.counted-index l.fn.steps)
    ≡ l.fn.lines ++ step_lines l.node l.fn.number l.fn.messages l.fn.steps)
    × (l.next + length l.rest ≡ l.fn.number + length l.fn.messages)
