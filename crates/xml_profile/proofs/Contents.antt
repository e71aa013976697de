-- Children are written one by one.
use Rattle.std.proofs.Common.{◌≡◌, sym, ap, subst, ◌∙◌, arith, ℕ, ◌+◌, ◌≤◌, ◌<◌, List, [], ◌∷◌, ◌++◌, append-nil, append_assoc, drop, drop-cons, get_or, add-one, length}
use Rattle.xml_profile.specs.CanonicalText.{text_text, start_text, content_text, end_text}
use Rattle.xml_profile.specs.Children.{forest_of, nodes}
use Rattle.xml_profile.specs.declared.tree.Child.{Child}
use Rattle.xml_profile.specs.declared.tree.Child.TheVariants.{Element, Text}

pub one_more : (n : List (List ℕ)) (x : Child) (r : List Child) → content_text n (forest_of (x ∷ r)) ≡ content_text n (forest_of (x ∷ [])) ++ content_text n (forest_of r)
one_more n (Text t) r = ap (λ b. b ++ content_text n (forest_of r)) (sym (append-nil (text_text t)))
one_more n (Element t) r =
    let s = start_text n [] t.name t.attributes t.children in
    let c = content_text n t.children in
    let e = end_text n t.name t.children in
    let m = content_text n (forest_of r) in
    sym (append_assoc s (c ++ (e ++ [])) m ∙ ap (λ b. s ++ b) (append_assoc c (e ++ []) m ∙ ap (λ b. c ++ b) (append_assoc e [] m)))

fewer : (x : Child) (r : List Child) → nodes (forest_of r) ≤ nodes (forest_of (x ∷ r))
fewer (Text t) r = omega arith
fewer (Element t) r = omega arith

pub smaller : (xs : List Child) (i : ℕ) (d : Child) (n : ℕ) → i < length xs → nodes (forest_of (drop i xs)) ≤ n → nodes (forest_of (drop (i + 1) xs)) ≤ n
smaller xs i d n l h =
    let next : drop i xs ≡ get_or xs i d ∷ drop (i + 1) xs = drop-cons xs i d l ∙ ap (λ k. get_or xs i d ∷ drop k xs) (sym (add-one i)) in
    let less = fewer (get_or xs i d) (drop (i + 1) xs) in
    let more : nodes (forest_of (get_or xs i d ∷ drop (i + 1) xs)) ≤ n = subst (λ ys. nodes (forest_of ys) ≤ n) next h in
    omega (arith, less, more)
