-- The calls by which outs leave.
use Rattle.std.specs.Prelude.{List, ◌≡◌}
use Rattle.at_base.specs.declared.outs.Out.{Out}
use Rattle.node_at.specs.Texts.{AreLeaving, Leaving}

-- Outs leave by one row of calls, in one order.
abbrev pub LeaveOneWay : Type 0
LeaveOneWay = (os : List Out) (xs ys : List Leaving) → AreLeaving os xs → AreLeaving os ys → xs ≡ ys
