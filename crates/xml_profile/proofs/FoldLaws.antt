-- A fold over what was joined.
use Rattle.std.proofs.Common.{◌≡◌, sym, ap, ◌∙◌, List, ◌++◌}
use Rattle.std.proofs.lemmas.Grind.{fold-append}
use Rattle.std.specs.List.{fold}

pub fold_more : {A B : Type 0} (f : B → A → B) (u v w : B) (xs ys zs : List A) → v ≡ fold f u xs → w ≡ fold f v ys → fold f w zs ≡ fold f u (xs ++ (ys ++ zs))
fold_more f u v w xs ys zs p q = ap (λ b. fold f b zs) (q ∙ ap (λ b. fold f b ys) p) ∙ sym (fold-append f u xs (ys ++ zs) ∙ fold-append f (fold f u xs) ys zs)
