use Rattle.std.specs.Prelude.{◌≡◌, ◌+◌, ◌-◌}
use Rattle.replay_cmd.specs.MadeCourses.{all_up}
use Rattle.replay_cmd.proofs.course.Course.all_up.Given as goal

abbrev pub invariant-loop-place : goal.invariant-loop-place
invariant-loop-place l =
    (all_up (l.count - l.place) (l.place + 1) l.course ≡ all_up l.count 1 l.fn.self)
