-- A search for a word, one character further.
use Rattle.std.proofs.Common.{◌≡◌, refl, sym, ap, ◌∙◌, subst, ℕ, suc, ◌+◌, ◌<◌, List, [], ◌∷◌, ◌++◌, Option, Some, None, take, drop, length, get_or, append_assoc, append-nil, ◌-◌, length-drop, drop-cons, take-suc, add-one}
use Rattle.std.proofs.Math.Seq.{take-length}
use Rattle.xml_grammar.specs.Characters.{◌>>=◌, found, strip_at, until}
use Rattle.xml_grammar.specs.Code.Reading.{with_front}

until_yes : (word front : List ℕ) (c : ℕ) (more rest : List ℕ) → strip_at word (c ∷ more) ≡ Some rest → with_front front (until word (c ∷ more)) ≡ Some (front, rest)
until_yes word front c more rest e = ap (λ o. with_front front (found o (λ rest. Some ([], rest)) (until word more >>= (λ p. Some (c ∷ p.0, p.1))))) e ∙ ap (λ v. Some (v, rest)) (append-nil front)

until_no : (word front : List ℕ) (c : ℕ) (more : List ℕ) → strip_at word (c ∷ more) ≡ None → with_front (front ++ (c ∷ [])) (until word more) ≡ with_front front (until word (c ∷ more))
until_no word front c more e =
    joined (until word more) ∙ sym (ap (λ o. with_front front (found o (λ rest. Some ([], rest)) (until word more >>= (λ p. Some (c ∷ p.0, p.1))))) e)
  where
    joined : (o : Option (List ℕ × List ℕ)) → with_front (front ++ (c ∷ [])) o ≡ with_front front (o >>= (λ p. Some (c ∷ p.0, p.1)))
    joined None = refl
    joined (Some p) = ap (λ v. Some (v, p.1)) (append_assoc front (c ∷ []) p.0)

pub until_here : (word cs : List ℕ) (n : ℕ) (rest : List ℕ) → n < length cs → strip_at word (drop n cs) ≡ Some rest → with_front (take n cs) (until word (drop n cs)) ≡ Some (take n cs, rest)
until_here word cs n rest h e =
    let d = drop-cons cs n 0 h in
    subst (λ v. with_front (take n cs) (until word v) ≡ Some (take n cs, rest)) (sym d) (until_yes word (take n cs) (get_or cs n 0) (drop (suc n) cs) rest (subst (λ v. strip_at word v ≡ Some rest) d e))

pub until_further : (word cs : List ℕ) (n : ℕ) → n < length cs → strip_at word (drop n cs) ≡ None → with_front (take (n + 1) cs) (until word (drop (n + 1) cs)) ≡ with_front (take n cs) (until word (drop n cs))
until_further word cs n h e =
    let d = drop-cons cs n 0 h in
    let k = until_no word (take n cs) (get_or cs n 0) (drop (suc n) cs) (subst (λ v. strip_at word v ≡ None) d e) in
    rw add-one (subst (λ v. with_front v (until word (drop (suc n) cs)) ≡ with_front (take n cs) (until word (drop n cs))) (sym (take-suc cs n 0 h))
    (k ∙ ap (λ v. with_front (take n cs) (until word v)) (sym d)))

-- a slice to the end is the rest
pub there : (word cs : List ℕ) (n : ℕ) {o : Option (List ℕ)} → strip_at word (take (length cs - n) (drop n cs)) ≡ o → strip_at word (drop n cs) ≡ o
there word cs n {o} e =
    let k : length (drop n cs) ≡ length cs - n = length-drop n cs in
    subst (λ v. strip_at word v ≡ o) (ap (λ m. take m (drop n cs)) (sym k) ∙ take-length (drop n cs)) e
