use Rattle.std.specs.Prelude.{◌≡◌, ◌-◌}
use Rattle.replay_cmd.specs.MadeCourses.{flushes}
use Rattle.replay_cmd.proofs.course.Course.flush.Given as goal

abbrev pub invariant-loop-time : goal.invariant-loop-time
invariant-loop-time l = flushes (l.most - l._time) l.course ≡ flushes l.most l.fn.self
