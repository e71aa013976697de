-- Values that are made one after another.
use Rattle.std.proofs.Common.{◌≡◌, List, [], ◌∷◌, ◌++◌, ◌∙◌, ap, map}
use Rattle.std.proofs.lemmas.List.{append_assoc, map-append}
use Rattle.serde_json.specs.Data.{Data}
use Rattle.serde_json.specs.View.{view}
use Rattle.serde_json.specs.declared.value.Value.{Value}

pub grown : {A : Type 0} (made : A → Data) (vs ws : List Value) (v : Value) (x : A) (xs : List A) (all : List Data) → ws ≡ vs ++ v ∷ [] → view v ≡ made x → map view vs ++ map made (x ∷ xs) ≡ all
    → map view ws ++ map made xs ≡ all
grown made vs ws v x xs all added is so_far =
    ap (λ z. map view z ++ map made xs) added ∙ ap (λ z. z ++ map made xs) (map-append view vs (v ∷ [])) ∙ append_assoc (map view vs) (view v ∷ []) (map made xs)
    ∙ ap (λ d. map view vs ++ d ∷ map made xs) is ∙ so_far
