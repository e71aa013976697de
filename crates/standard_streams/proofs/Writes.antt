-- How what is known of a writer's bytes composes over writes of which only the last takes any.
use Rattle.std.proofs.Common.{ℕ, List, Option, Some, None, ◌++◌, ◌∙◌, ap, refl}
use Rattle.std.specs.Io.KnownBytes.{Appends, Keeps}

pub kept : (a : Option (List ℕ)) → Keeps a a
kept None = tt
kept (Some xs) = refl

pub kept_on : (a b c : Option (List ℕ)) → Keeps a b → Keeps b c → Keeps a c
kept_on None b c h k = tt
kept_on (Some a) None c h k = absurd h
kept_on (Some a) (Some b) None h k = absurd k
kept_on (Some a) (Some b) (Some c) h k = k ∙ h

pub appended : (a b c : Option (List ℕ)) (xs : List ℕ) → Keeps a b → Appends b c xs → Appends a c xs
appended None b c xs h k = tt
appended (Some a) None c xs h k = absurd h
appended (Some a) (Some b) None xs h k = absurd k
appended (Some a) (Some b) (Some c) xs h k = k ∙ ap (λ z. z ++ xs) h
