-- What asks for help is read as that, and nothing else is read otherwise.
use Rattle.std.proofs.Common.{ℕ, List, [], ◌∷◌, ◌++◌, ◌≡◌, true, false, codes, map, ap, ◌∙◌, refl}
use Rattle.std.specs.List.{remove}
use Rattle.entry_point.specs.Asking.{asked, asks_help, heard}

pub others : (words : List (List ℕ)) → asks_help words ≡ false → words ≡ heard words
others words e = rw e refl

behind : {A : Type 0} (f : A → List ℕ) (words : List A) (x : A) → asks_help (map f words) ≡ true → map f (remove words 0 ++ x ∷ []) ≡ map f (remove words 0) ++ f x ∷ []
behind f (first ∷ []) x e = refl
behind f (first ∷ second ∷ []) x e = refl
behind f [] x e = absurd cc
behind f (first ∷ second ∷ third ∷ more) x e = absurd cc

reads : {A : Type 0} (f : A → List ℕ) (words : List A) → asks_help (map f words) ≡ true → map f (remove words 0) ++ codes "--help" ∷ [] ≡ asked (map f words)
reads f (first ∷ []) e = refl
reads f (first ∷ second ∷ []) e = refl
reads f [] e = absurd cc
reads f (first ∷ second ∷ third ∷ more) e = absurd cc

pub asked_for : {A : Type 0} (f : A → List ℕ) (words : List A) (x : A) → asks_help (map f words) ≡ true → f x ≡ codes "--help" → map f (remove words 0 ++ x ∷ []) ≡ heard (map f words)
asked_for f words x e g = behind f words x e ∙ (ap (λ v. map f (remove words 0) ++ v ∷ []) g ∙ (reads f words e ∙ rw e refl))
