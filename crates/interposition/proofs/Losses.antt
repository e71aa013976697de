-- What a book loses is what the model says.
use Rattle.std.proofs.Common.{ℕ, List, [], ◌∷◌, ◌++◌, ◌≡◌, ap, ◌∙◌, refl}
use Rattle.std.specs.Prelude.{map, filter}
use Rattle.std.proofs.lemmas.List.{append_assoc, map-append}
use Rattle.at_model.specs.Book.{Transaction, Leaf}
use Rattle.at_model.specs.World.{happened_at, is_lost_root, is_lost_subordinate, is_lost_leaf}
use Rattle.at_model.specs.World.{transaction_lost as transaction_gone, leaf_lost as leaf_gone}
use Rattle.coordinator_at.specs.TransactionPlans.{transaction_lost, roots_lost, subordinates_lost}
use Rattle.participant_at.specs.LeafPlans.{leaf_lost, leaves_lost}
use Rattle.interposition.specs.ModelSteps.{LosesAsTheModel}

each_transaction : (n : ℕ) (ts : List Transaction) → map (happened_at n) (map transaction_lost ts) ≡ map (transaction_gone n) ts
each_transaction n [] = refl
each_transaction n (t ∷ ts) = ap (λ hs. transaction_gone n t ∷ hs) (each_transaction n ts)

each_leaf : (n : ℕ) (ls : List Leaf) → map (happened_at n) (map leaf_lost ls) ≡ map (leaf_gone n) ls
each_leaf n [] = refl
each_leaf n (l ∷ ls) = ap (λ hs. leaf_gone n l ∷ hs) (each_leaf n ls)

pub loses_as_the_model : LosesAsTheModel
loses_as_the_model n b =
    ap (map (happened_at n)) (append_assoc (roots_lost b.transactions) (subordinates_lost b.transactions) (leaves_lost b.leaves))
    ∙ map-append (happened_at n) (roots_lost b.transactions) (subordinates_lost b.transactions ++ leaves_lost b.leaves)
    ∙ (λ i. each_transaction n (filter is_lost_root b.transactions) i
    ++ (map-append (happened_at n) (subordinates_lost b.transactions) (leaves_lost b.leaves)
    ∙ (λ j. each_transaction n (filter is_lost_subordinate b.transactions) j ++ each_leaf n (filter is_lost_leaf b.leaves) j)) i)
