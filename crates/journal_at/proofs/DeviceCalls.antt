-- How device calls compose.
use Rattle.std.proofs.Common.{List, Option, Some, None, Result, Ok, Err, [], ◌∷◌, ◌≡◌, ◌++◌, ◌⊎◌, inl, inr, refl, sym, ◌∙◌, ap, subst, map, option_map, OnOk, OnErr}
use Rattle.std.proofs.lemmas.List.{append_assoc, append-nil, map-append}
use Rattle.site_model.specs.Told.{Told, Call, Made, Between, BreaksOff, done, failed}
use Rattle.site_model.specs.Calls.{Outcome, Runs}

pub grown_then : (o p q : Option (List Made)) (m n : List Made) → p ≡ option_map (λ l. l ++ m) o → q ≡ option_map (λ l. l ++ n) p → q ≡ option_map (λ l. l ++ (m ++ n)) o
grown_then None p q m n e f = f ∙ ap (option_map (λ l. l ++ n)) e
grown_then (Some l) p q m n e f = f ∙ ap (option_map (λ l. l ++ n)) e ∙ ap Some (append_assoc l m n)

pub breaks_then : (c d : List Call) (m n : List Made) → m ≡ map done c → BreaksOff d n → BreaksOff (c ++ d) (m ++ n)
breaks_then c d m n e b =
    record {
      front = c ++ b.front;
      call = b.call;
      rest = b.rest;
      split = ap (λ z. c ++ z) b.split ∙ sym (append_assoc c b.front (b.call ∷ b.rest));
      is = either b.is;
    } where
      front_done : m ++ map done b.front ≡ map done (c ++ b.front)
      front_done = ap (λ z. z ++ map done b.front) e ∙ sym (map-append done c b.front)

      either : (n ≡ map done b.front ++ failed b.call ∷ []) ⊎ (n ≡ map done b.front) → (m ++ n ≡ map done (c ++ b.front) ++ failed b.call ∷ []) ⊎ (m ++ n ≡ map done (c ++ b.front))
      either (inl h) = inl (ap (λ z. m ++ z) h ∙ sym (append_assoc m (map done b.front) (failed b.call ∷ [])) ∙ ap (λ z. z ++ failed b.call ∷ []) front_done)
      either (inr h) = inr (ap (λ z. m ++ z) h ∙ front_done)

pub breaks_more : (c d : List Call) (m : List Made) → BreaksOff c m → BreaksOff (c ++ d) m
breaks_more c d m b = record { front = b.front; call = b.call; rest = b.rest ++ d; split = ap (λ z. z ++ d) b.split ∙ append_assoc b.front (b.call ∷ b.rest) d; is = b.is }

pub record AllRan (calls : List Call) (old new : Told) : Type 0 where
  pub made : List Made
  pub is : made ≡ map done calls
  pub grown : new.calls ≡ option_map (λ l. l ++ made) old.calls

abbrev pub all_ran : {T E : Type 0} (c : List Call) (r : Result T E) (x : T) (old new : Told) → r ≡ Ok x → Runs c r old new → AllRan c old new
all_ran c r x old new e h = record { made = h.made; is = subst (λ z. Outcome c z h.made) e h.outcome; grown = h.grown }

abbrev pub runs_then : {T E : Type 0} (c d : List Call) (r : Result T E) (old mid new : Told) → AllRan c old mid → Runs d r mid new → Runs (c ++ d) r old new
runs_then c d r old mid new h k = record { made = h.made ++ k.made; outcome = both r k.outcome; grown = grown_then old.calls mid.calls new.calls h.made k.made h.grown k.grown } where
  both : {T E : Type 0} (r : Result T E) → Outcome d r k.made → Outcome (c ++ d) r (h.made ++ k.made)
  both (Ok y) e = (λ i. h.is i ++ e i) ∙ sym (map-append done c d)
  both (Err y) b = breaks_then c d h.made k.made h.is b

-- a failure ends them
abbrev pub runs_cut : {T U E F : Type 0} (c d : List Call) (r : Result T E) (e : E) (q : Result U F) (f : F) (old new : Told) → r ≡ Err e → q ≡ Err f → Runs c r old new → Runs (c ++ d) q old new
runs_cut c d r e q f old new re qf h = record { made = h.made; outcome = subst (λ z. Outcome (c ++ d) z h.made) (sym qf) (breaks_more c d h.made (subst (λ z. Outcome c z h.made) re h.outcome)); grown = h.grown }

abbrev pub IsNo : {A : Type 0} → Option A → Type 0
IsNo None = Unit {0}
IsNo (Some x) = ⊥

pub option_map_is : {A B : Type 0} (f : A → B) (o : Option A) (y : B) → option_map f o ≡ Some y → (x : A) × (o ≡ Some x) × (y ≡ f x)
option_map_is f None y e = absurd (subst IsNo e tt)
option_map_is f (Some x) y e = (x, refl, sym (ap (inside y) e)) where
  inside : {B : Type 0} → B → Option B → B
  inside d None = d
  inside d (Some z) = z

-- the calls so far are between
pub is_between : (old mid new : Told) (m n : List Made) (l : List Made) → mid.calls ≡ option_map (λ l. l ++ m) old.calls → new.calls ≡ option_map (λ l. l ++ n) mid.calls → mid.calls ≡ Some l → Between old new l
is_between old mid new m n l g h e =
    let (before, was, is) = option_map_is (λ l. l ++ m) old.calls l (sym g ∙ e) in
    (before, l ++ n, was, h ∙ ap (option_map (λ l. l ++ n)) e, (m, sym is), (n, refl))

pub is_last : (old new : Told) (m : List Made) (l : List Made) → new.calls ≡ option_map (λ l. l ++ m) old.calls → new.calls ≡ Some l → Between old new l
is_last old new m l g e =
    let (before, was, is) = option_map_is (λ l. l ++ m) old.calls l (sym g ∙ e) in
    (before, l, was, e, (m, sym is), ([], append-nil l))

pub through : (old mid new : Told) (n : List Made) (l : List Made) → new.calls ≡ option_map (λ l. l ++ n) mid.calls → Between old mid l → Between old new l
through old mid new n l h (before, after, was, is, p, (rest, q)) =
    (before, after ++ n, was, h ∙ ap (option_map (λ l. l ++ n)) is, p, (rest ++ n, sym (append_assoc l rest n) ∙ ap (λ z. z ++ n) q))

pub after_that : (old mid new : Told) (m : List Made) (l : List Made) → mid.calls ≡ option_map (λ l. l ++ m) old.calls → Between mid new l → Between old new l
after_that old mid new m l g (before, after, was, is, (rest, p), q) =
    let (first, then, split) = option_map_is (λ l. l ++ m) old.calls before (sym g ∙ was) in
    (first, after, then, is, (m ++ rest, sym (append_assoc first m rest) ∙ ap (λ z. z ++ rest) (sym split) ∙ p), q)

pub on_ok : {T E : Type 0} (P : Type 0) (r : Result T E) → P → OnOk r P
on_ok P (Ok x) p = p
on_ok P (Err e) p = tt

pub on_err : {T E : Type 0} (P : Type 0) (r : Result T E) → P → OnErr r P
on_err P (Ok x) p = tt
on_err P (Err e) p = p

pub map_ok : {T E : Type 0} (P Q : Type 0) (r : Result T E) → (P → Q) → OnOk r P → OnOk r Q
map_ok P Q (Ok x) f p = f p
map_ok P Q (Err e) f p = tt

pub map_err : {T E : Type 0} (P Q : Type 0) (r : Result T E) → (P → Q) → OnErr r P → OnErr r Q
map_err P Q (Ok x) f p = tt
map_err P Q (Err e) f p = f p
