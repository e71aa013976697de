-- The outs that leave, one after the other.
use Rattle.std.proofs.Common.{ℕ, List, [], ◌∷◌, ◌++◌, ◌≡◌, ◌+◌, ◌<◌, ◌≤◌, Some, None, sym, ◌∙◌, ap, subst, take, get_or, length}
use Rattle.std.proofs.lemmas.List.{take_all, take_more}
use Rattle.at_base.specs.declared.outs.Out.{Out}
use Rattle.site_model.specs.Told.{Call}
use Rattle.node_at.specs.Texts.{AreLeaving, IsCallOf, Leaving}
use Rattle.node_at.specs.Texts.AreLeaving.{leaves, stays}

pub put_more : (os : List Out) (i : ℕ) (d o : Out) (c : Call) (xs more : List Leaving) → i < length os → o ≡ get_or os i d → AreLeaving (take i os) xs
    → IsCallOf o (Some c) → more ≡ xs ++ record { out = o; call = c } ∷ [] → AreLeaving (take (i + 1) os) more
put_more os i d o c xs more l e h k g =
    leaves (record { out = o; call = c }) h k (take_more os i d l ∙ ap (λ x. take i os ++ x ∷ []) (sym e)) g

pub left_out : (os : List Out) (i : ℕ) (d o : Out) (xs : List Leaving) → i < length os → o ≡ get_or os i d → AreLeaving (take i os) xs
    → IsCallOf o None → AreLeaving (take (i + 1) os) xs
left_out os i d o xs l e h k = stays o h k (take_more os i d l ∙ ap (λ x. take i os ++ x ∷ []) (sym e))

pub all_left : (os : List Out) (i : ℕ) (xs : List Leaving) → length os ≤ i → AreLeaving (take i os) xs → AreLeaving os xs
all_left os i xs l h = subst (λ s. AreLeaving s xs) (take_all i os l) h
