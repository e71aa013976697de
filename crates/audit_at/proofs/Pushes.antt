-- What was put behind a list is no longer to come.
use Rattle.std.proofs.Common.{List, ◌≡◌, ◌++◌, ◌∙◌, ap}
use Rattle.std.proofs.lemmas.List.{append_assoc}

pub moved : {A : Type 0} (old more new rest whole : List A) → new ≡ old ++ more → old ++ (more ++ rest) ≡ whole → new ++ rest ≡ whole
moved old more new rest whole e h = ap (λ xs. xs ++ rest) e ∙ (append_assoc old more rest ∙ h)
