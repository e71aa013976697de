-- The calls so far, one row of them after another.
use Rattle.std.proofs.Common.{List, Option, Some, None, [], ◌≡◌, ◌++◌, refl, sym, ◌∙◌, ap, subst, option_map}
use Rattle.std.proofs.lemmas.List.{append_assoc, append-nil}
use Rattle.site_model.specs.Told.{Told, Made, Between}

pub grown_same : (o : Option (List Made)) → o ≡ option_map (λ l. l ++ []) o
grown_same None = refl
grown_same (Some l) = ap Some (sym (append-nil l))

pub grown_then : (o p q : Option (List Made)) (m n : List Made) → p ≡ option_map (λ l. l ++ m) o → q ≡ option_map (λ l. l ++ n) p → q ≡ option_map (λ l. l ++ (m ++ n)) o
grown_then None p q m n e f = f ∙ ap (option_map (λ l. l ++ n)) e
grown_then (Some l) p q m n e f = f ∙ ap (option_map (λ l. l ++ n)) e ∙ ap Some (append_assoc l m n)

abbrev IsNo : {A : Type 0} → Option A → Type 0
IsNo None = Unit {0}
IsNo (Some x) = ⊥

abbrev pub inside : {A : Type 0} → A → Option A → A
inside d None = d
inside d (Some x) = x

pub option_map_is : {A B : Type 0} (f : A → B) (o : Option A) (y : B) → option_map f o ≡ Some y → (x : A) × (o ≡ Some x) × (y ≡ f x)
option_map_is f None y e = absurd (subst IsNo e tt)
option_map_is f (Some x) y e = (x, refl, sym (ap (inside y) e))

pub is_last : (old new : Told) (m : List Made) (l : List Made) → new.calls ≡ option_map (λ l. l ++ m) old.calls → new.calls ≡ Some l → Between old new l
is_last old new m l g e =
    let (before, was, is) = option_map_is (λ l. l ++ m) old.calls l (sym g ∙ e) in
    (before, l, was, e, (m, sym is), ([], append-nil l))

pub through : (old mid new : Told) (n : List Made) (l : List Made) → new.calls ≡ option_map (λ l. l ++ n) mid.calls → Between old mid l → Between old new l
through old mid new n l h (before, after, was, is, p, (rest, q)) =
    (before, after ++ n, was, h ∙ ap (option_map (λ l. l ++ n)) is, p, (rest ++ n, sym (append_assoc l rest n) ∙ ap (λ z. z ++ n) q))

pub after_that : (old mid new : Told) (m : List Made) (l : List Made) → mid.calls ≡ option_map (λ l. l ++ m) old.calls → Between mid new l → Between old new l
after_that old mid new m l g (before, after, was, is, (rest, p), q) =
    let (first, then, split) = option_map_is (λ l. l ++ m) old.calls before (sym g ∙ was) in
    (first, after, then, is, (m ++ rest, sym (append_assoc first m rest) ∙ ap (λ z. z ++ rest) (sym split) ∙ p), q)
