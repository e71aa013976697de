use Rattle.std.specs.Prelude.{◌≡◌, drop}
use Rattle.replay_cmd.specs.MadeCourses.{all_taken}
use Rattle.replay_cmd.proofs.summary.take_lines.Given as goal

abbrev pub invariant-loop-line : goal.invariant-loop-line
invariant-loop-line l = all_taken (drop l.line-index l.fn.lines) l.course ≡ all_taken l.fn.lines l.fn.course
