-- The first node that an address names.
use Rattle.std.proofs.Common.{ℕ, List, ◌∷◌, ◌≡◌, ◌+◌, ◌<◌, length, get_or, drop, Option, Some, None, true, false, ap, sym, ◌∙◌, refl}
use Rattle.std.specs.Prelude.{is_some, option_map}
use Rattle.std.proofs.lemmas.List.{drop_more}
use Rattle.at_base.specs.declared.target.Target.{Target}
use Rattle.at_model.specs.World.{Node, place_of, place_or}
use Rattle.endpoints.specs.Addresses.{target_at}

here : (k : ℕ) (o : Option Target) (rest : Option (ℕ × Target)) → is_some o ≡ true
    → option_map (λ p. p.0) (place_or k o rest) ≡ Some k
here k None rest h = absurd cc
here k (Some t) rest h = refl

later : (k : ℕ) (o : Option Target) (rest : Option (ℕ × Target)) → is_some o ≡ false → place_or k o rest ≡ rest
later k None rest h = refl
later k (Some t) rest h = absurd cc

pub named_here : (k : ℕ) (x : Node) (xs : List Node) (a : List ℕ) → is_some (target_at x.base a) ≡ true
    → option_map (λ p. p.0) (place_of k (x ∷ xs) a) ≡ Some k
named_here k x xs a h = here k (target_at x.base a) (place_of (k + 1) xs a) h

pub named_later : (k : ℕ) (x : Node) (xs : List Node) (a : List ℕ) → is_some (target_at x.base a) ≡ false
    → place_of k (x ∷ xs) a ≡ place_of (k + 1) xs a
named_later k x xs a h = later k (target_at x.base a) (place_of (k + 1) xs a) h

-- the same at a place of a list
pub first_here : (k i : ℕ) (x : Node) (xs : List Node) (a : List ℕ) → i < length xs → x ≡ get_or xs i x
    → is_some (target_at x.base a) ≡ true → place_of k (drop i xs) a ≡ place_of 1 xs a
    → Some k ≡ option_map (λ p. p.0) (place_of 1 xs a)
first_here k i x xs a inside is named same =
    let split : drop i xs ≡ x ∷ drop (i + 1) xs = drop_more xs i x inside ∙ ap (λ y. y ∷ drop (i + 1) xs) (sym is) in
    sym (named_here k x (drop (i + 1) xs) a named)
    ∙ ap (λ ys. option_map (λ p. p.0) (place_of k ys a)) (sym split)
    ∙ ap (option_map (λ p. p.0)) same

pub first_later : (k i : ℕ) (x : Node) (xs : List Node) (a : List ℕ) → i < length xs → x ≡ get_or xs i x
    → is_some (target_at x.base a) ≡ false → place_of k (drop i xs) a ≡ place_of 1 xs a
    → place_of (k + 1) (drop (i + 1) xs) a ≡ place_of 1 xs a
first_later k i x xs a inside is named same =
    let split : drop i xs ≡ x ∷ drop (i + 1) xs = drop_more xs i x inside ∙ ap (λ y. y ∷ drop (i + 1) xs) (sym is) in
    sym (named_later k x (drop (i + 1) xs) a named) ∙ ap (λ ys. place_of k ys a) (sym split) ∙ same
