-- How what is known of bytes composes over several calls.
use Rattle.std.proofs.Common.{ℕ, List, Option, Some, None, [], ◌∷◌, length, ◌≡◌, ◌++◌, ◌+◌, ◌<◌, refl, sym, ◌∙◌, ap, subst, ◌≤◌, ◌-◌, take, drop, arith}
use Rattle.std.proofs.lemmas.List.{append-nil, append_assoc, length-append, length-drop, take_all}
use Rattle.std.proofs.Math.Seq.{take-add}
use Rattle.std.specs.Prelude.{IfSome}
use Rattle.std.specs.Io.KnownBytes.{Appends, Consumes, IsAtEnd}

pub nothing_yet : (left : Option (List ℕ)) → Consumes left left []
nothing_yet None = tt
nothing_yet (Some xs) = refl

pub nothing_written : (contents : Option (List ℕ)) → Appends contents contents []
nothing_written None = tt
nothing_written (Some xs) = sym (append-nil xs)

pub consumed_more : (a b c : Option (List ℕ)) (xs ys : List ℕ) → Consumes a b xs → Consumes b c ys → Consumes a c (xs ++ ys)
consumed_more None b c xs ys h k = tt
consumed_more (Some a) None c xs ys h k = absurd h
consumed_more (Some a) (Some b) None xs ys h k = absurd k
consumed_more (Some a) (Some b) (Some c) xs ys h k = h ∙ ap (λ z. xs ++ z) k ∙ sym (append_assoc xs ys c)

pub written_more : (a b c : Option (List ℕ)) (xs ys : List ℕ) → Appends a b xs → Appends b c ys → Appends a c (xs ++ ys)
written_more None b c xs ys h k = tt
written_more (Some a) None c xs ys h k = absurd h
written_more (Some a) (Some b) None xs ys h k = absurd k
written_more (Some a) (Some b) (Some c) xs ys h k = k ∙ ap (λ z. z ++ ys) h ∙ append_assoc a xs ys

pub consumed_all : (a b c : Option (List ℕ)) (xs ys : List ℕ) → Consumes a b xs → Consumes b c ys → length ys ≡ 0 → IsAtEnd c → IfSome a (λ input. xs ≡ input)
consumed_all None b c xs ys h k z e = tt
consumed_all (Some a) None c xs ys h k z e = absurd h
consumed_all (Some a) (Some b) None xs ys h k z e = absurd k
consumed_all (Some a) (Some b) (Some c) xs [] h k z e = sym (h ∙ ap (λ z. xs ++ z) (k ∙ e) ∙ append-nil xs)
consumed_all (Some a) (Some b) (Some c) xs (y ∷ ys) h k z e = absurd (omega (arith, z))

pub longer : (a b c : Option (List ℕ)) (xs ys : List ℕ) (n : ℕ) → Consumes a b xs → Consumes b c ys → n < length xs + length ys → IfSome a (λ input. n < length input)
longer None b c xs ys n h k z = tt
longer (Some a) None c xs ys n h k z = absurd h
longer (Some a) (Some b) None xs ys n h k z = absurd k
longer (Some a) (Some b) (Some c) xs ys n h k z =
    let all : length a ≡ length xs + (length ys + length c) = ap length (h ∙ ap (λ z. xs ++ z) k) ∙ length-append xs (ys ++ c) ∙ ap (λ z. length xs + z) (length-append ys c) in
    omega (arith, z, all)

-- a beginning is written, and of the rest n more
pub written_on : (a b c : Option (List ℕ)) (xs : List ℕ) (at n : ℕ) → Appends a b (take at xs) → Appends b c (take n (take (length xs - at) (drop at xs))) → Appends a c (take (at + n) xs)
written_on a b c xs at n h k =
    let short : length (drop at xs) ≤ length xs - at = omega (arith, length-drop at xs) in
    let same : take at xs ++ take n (take (length xs - at) (drop at xs)) ≡ take (at + n) xs =
    ap (λ z. take at xs ++ take n z) (take_all (length xs - at) (drop at xs) short) ∙ sym (take-add at n xs) in
    subst (Appends a c) same (written_more a b c (take at xs) (take n (take (length xs - at) (drop at xs))) h k)
