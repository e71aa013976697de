-- What an iterator of a vector leaves behind its first item.
use Rattle.std.proofs.Common.{◌≡◌, List, [], ◌∷◌, Option, None, Some, length, drop, ap, sym, ◌∙◌}
use Rattle.std.specs.Vec.Iter.{into_iter_items, into_iter_steps}
use Rattle.std.specs.declared.vec.IntoIter.{IntoIter}

empty : {X : Type 0} (xs : List X) → length xs ≡ 0 → xs ≡ []
empty [] e = cc
empty (x ∷ xs) e = absurd cc

pub all_but_one : {X A : Type 0} (s : IntoIter X A) (r : Option X) (t : IntoIter X A) → into_iter_steps s r t → into_iter_items t ≡ drop 1 (into_iter_items s)
all_but_one s None t h = empty (into_iter_items t) (sym t.rest.ok.0 ∙ h.1) ∙ sym (ap (drop 1) (empty (into_iter_items s) (sym s.rest.ok.0 ∙ h.0)))
all_but_one s (Some x) t h = sym (ap (drop 1) h.0)
