-- The live leaves of a node, and the book that holds them.
use Rattle.std.specs.Prelude.{ℕ, List, ◌≡◌, filter, map}
use Rattle.at_base.specs.declared.event.Moment.{Moment}
use Rattle.at_base.specs.declared.outs.Effect.{Effect}
use Rattle.at_base.specs.declared.outs.Ending.TheVariants as endings
use Rattle.at_model.specs.Book.{Book, Leaf, leaf_id}
use Rattle.at_model.specs.Leaves.{Employment, leaf_ended}
use Rattle.at_model.specs.Step.{Plan, moment_of}
use Rattle.at_model.specs.World.{is_lost_leaf}
use Rattle.by_id.specs.Lists.{altered}
use Rattle.by_id.specs.Plans.{made}
use Rattle.by_id.specs.Unmoved.{unmoved}
use Rattle.by_id.specs.Wholes.{whole_by}
use Rattle.by_id.specs.declared.list.Alteration.{Alteration}
use Rattle.by_id.specs.declared.plan.Plan.{Plan as Planned}

-- a book that holds these leaves, at this moment
abbrev pub Holds : Book → ℕ → List Leaf → Moment → Type 0
Holds b now ls m = (b.leaves ≡ ls) × (m ≡ moment_of b now)

-- the book with what becomes of its leaves
abbrev pub with_leaves : Alteration Leaf (Unit {0}) → Book → Book
with_leaves change b = record b { leaves = altered leaf_id unmoved change b.leaves }

-- The plan of the leaves, as a plan of the book that holds them.
abbrev pub whole : Book → ℕ → Planned Leaf (Unit {0}) → Plan
whole = whole_by with_leaves

-- What a Work does to the list of leaves.
abbrev pub employed : Employment → Planned Leaf (Unit {0})
employed e = made e.leaf e.outs

-- What going down loses: the leaves that haven't voted.
abbrev pub leaf_lost : Leaf → Effect
leaf_lost l = leaf_ended l endings.Lost

abbrev pub leaves_lost : List Leaf → List Effect
leaves_lost ls = map leaf_lost (filter is_lost_leaf ls)
