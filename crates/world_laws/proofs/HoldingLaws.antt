-- What the nodes hold, as it is counted, is what waits in their world, where no count has come to its end.
use Rattle.std.proofs.Common.{◌+◌, ◌-◌, ◌^◌, ◌<◌, ◌≡◌, List, [], ◌∷◌, refl, arith}
use Rattle.std.specs.Prelude.{Option, Some, None, sum_by}
use Rattle.std.specs.List.{AllByRecursion}
use Rattle.std.proofs.lemmas.List.Sums.{sum_by-cons}
use Rattle.at_model.specs.Book.{Book}
use Rattle.at_model.specs.World.{Node, World}
use Rattle.model_laws.specs.Settlement.{node_count, others_in, seats_in, waiting}
use Rattle.interposition.proofs.Holdings.{exactly_held}
use Rattle.world_laws.specs.Holdings.{HoldsFewWhileUp, NodeHoldsFew, counted, node_held, world_held}

-- a sum that is small has no part that came to its end
small_count : (o : Option Book) → counted o < 2 ^ 64 - 1 → counted o ≡ seats_in o + others_in o
small_count None h = refl
small_count (Some b) h = omega (arith, h)

small_sum : (xs : List Node) → sum_by node_held xs < 2 ^ 64 - 1 → sum_by node_held xs ≡ sum_by node_count xs
small_sum [] h = refl
small_sum (x ∷ xs) h =
    let sums = sum_by-cons node_held x xs in
    omega (arith, sums, sum_by-cons node_count x xs, small_count x.book (omega (arith, sums, h)), small_sum xs (omega (arith, sums, h)))

pub counts_all : (w : World) → world_held w < 2 ^ 64 - 1 → world_held w ≡ waiting w
counts_all w h = small_sum w.nodes h

few_count : (o : Option Book) → HoldsFewWhileUp o → counted o ≡ seats_in o + others_in o
few_count None h = refl
few_count (Some b) h = exactly_held b (counted (Some b)) h refl

few_sum : (xs : List Node) → AllByRecursion NodeHoldsFew xs → sum_by node_held xs ≡ sum_by node_count xs
few_sum [] h = refl
few_sum (x ∷ xs) h = omega (arith, sum_by-cons node_held x xs, sum_by-cons node_count x xs, few_count x.book h.0, few_sum xs h.1)

pub counts_few : (w : World) → AllByRecursion NodeHoldsFew w.nodes → world_held w ≡ waiting w
counts_few w h = few_sum w.nodes h
