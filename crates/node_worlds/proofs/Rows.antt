-- Calls of a machine, one row of them after another.
use Rattle.std.proofs.Common.{List, Option, Some, None, [], ◌∷◌, ◌≡◌, ◌++◌, ⊎_elim, inl, inr, refl, sym, ◌∙◌, ap, subst, option_map}
use Rattle.std.proofs.lemmas.List.{append_assoc, append-nil}
use Rattle.site_model.specs.Told.{Told, Made, Files, Between, Elapses, IsPrefix, sent_by, sent_if}

pub weaker : (a b : Told) (P Q : List Made → Files → Type 0) → Elapses a b P → ((l : List Made) (c : Files) → P l c → Q l c) → Elapses a b Q
weaker a b P Q h k = record { adds = λ l c past. ⊎_elim (λ old. inl old) (λ p. inr (k l c p)) (h.adds l c past); keeps = h.keeps }

pub and_then : (a b d : Told) (P : List Made → Files → Type 0) → Elapses a b P → Elapses b d P → Elapses a d P
and_then a b d P h k = record { adds = λ l c past. ⊎_elim (h.adds l c) (λ p. inr p) (k.adds l c past); keeps = λ l c past. k.keeps l c (h.keeps l c past) }

pub no_time : (s : Told) (P : List Made → Files → Type 0) → Elapses s s P
no_time s P = record { adds = λ l c past. inl past; keeps = λ l c past. past }

pub grown_same : (o : Option (List Made)) → o ≡ option_map (λ l. l ++ []) o
grown_same None = refl
grown_same (Some l) = ap Some (sym (append-nil l))

pub grown_then : (o p q : Option (List Made)) (m n : List Made) → p ≡ option_map (λ l. l ++ m) o → q ≡ option_map (λ l. l ++ n) p → q ≡ option_map (λ l. l ++ (m ++ n)) o
grown_then None p q m n e f = f ∙ ap (option_map (λ l. l ++ n)) e
grown_then (Some l) p q m n e f = f ∙ ap (option_map (λ l. l ++ n)) e ∙ ap Some (append_assoc l m n)

abbrev IsNo : {A : Type 0} → Option A → Type 0
IsNo None = Unit {0}
IsNo (Some x) = ⊥

abbrev inside : {A : Type 0} → A → Option A → A
inside d None = d
inside d (Some x) = x

pub some_is : {A : Type 0} (x y : A) → Some x ≡ Some y → x ≡ y
some_is x y e = ap (inside x) e

pub option_map_is : {A B : Type 0} (f : A → B) (o : Option A) (y : B) → option_map f o ≡ Some y → (x : A) × (o ≡ Some x) × (y ≡ f x)
option_map_is f None y e = absurd (subst IsNo e tt)
option_map_is f (Some x) y e = (x, refl, sym (ap (inside y) e))

pub through : (old mid new : Told) (n : List Made) (l : List Made) → new.calls ≡ option_map (λ l. l ++ n) mid.calls → Between old mid l → Between old new l
through old mid new n l h (before, after, was, is, p, (rest, q)) =
    (before, after ++ n, was, h ∙ ap (option_map (λ l. l ++ n)) is, p, (rest ++ n, sym (append_assoc l rest n) ∙ ap (λ z. z ++ n) q))

pub after_that : (old mid new : Told) (m : List Made) (l : List Made) → mid.calls ≡ option_map (λ l. l ++ m) old.calls → Between mid new l → Between old new l
after_that old mid new m l g (before, after, was, is, (rest, p), q) =
    let (first, then, split) = option_map_is (λ l. l ++ m) old.calls before (sym g ∙ was) in
    (first, after, then, is, (m ++ rest, sym (append_assoc first m rest) ∙ ap (λ z. z ++ rest) (sym split) ∙ p), q)

pub sent_append : (xs ys : List Made) → sent_by (xs ++ ys) ≡ sent_by xs ++ sent_by ys
sent_append [] ys = refl
sent_append (x ∷ xs) ys = ap (λ z. sent_if x.done x.call ++ z) (sent_append xs ys) ∙ sym (append_assoc (sent_if x.done x.call) (sent_by xs) (sent_by ys))

pub prefix_then : {A : Type 0} (xs ys zs : List A) → IsPrefix xs ys → IsPrefix ys zs → IsPrefix xs zs
prefix_then xs ys zs (r, e) (q, f) = (r ++ q, sym (append_assoc xs r q) ∙ ap (λ z. z ++ q) e ∙ f)

pub prefix_sent : (xs ys : List Made) → IsPrefix xs ys → IsPrefix (sent_by xs) (sent_by ys)
prefix_sent xs ys (r, e) = (sent_by r, sym (sent_append xs r) ∙ ap sent_by e)
