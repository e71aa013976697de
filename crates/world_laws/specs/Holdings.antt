-- How much the nodes of a world hold that may wait for an answer.
use Rattle.std.specs.Prelude.{ℕ, Option, Some, None, ◌-◌, ◌^◌, min, sum_by}
use Rattle.at_model.specs.Book.{Book}
use Rattle.at_model.specs.World.{Node, World}
use Rattle.interposition.specs.Holdings.{HoldsFew, held}

-- what a book holds that stands, as far as it is counted
abbrev pub counted : Option Book → ℕ
counted None = 0
counted (Some b) = min (held b) (2 ^ 64 - 1)

abbrev pub node_held : Node → ℕ
node_held x = counted x.book

-- the sum over the nodes
abbrev pub world_held : World → ℕ
world_held w = sum_by node_held w.nodes

abbrev pub HoldsFewWhileUp : Option Book → Type 0
HoldsFewWhileUp None = Unit {0}
HoldsFewWhileUp (Some b) = HoldsFew b

abbrev pub NodeHoldsFew : Node → Type 0
NodeHoldsFew x = HoldsFewWhileUp x.book
