-- The place of the last binding of a prefix, as bindings come and go.
use Rattle.std.proofs.Common.{◌≡◌, refl, sym, ap, ◌∙◌, subst, ℕ, zero, suc, List, [], ◌∷◌, ◌++◌, Bool, true, false, cond, Option, Some, None, map, length, take, option_map, is_some, IsSome, option_to_list, Bor}
use Rattle.std.proofs.lemmas.List.{map-append, length-map}
use Rattle.std.proofs.lemmas.Option.{slice_get-map}
use Rattle.std.specs.BTreeMap.{BTreeMap}
use Rattle.std.specs.List.{slice_get}
use Rattle.std.specs.Map.{update}
use Rattle.std.specs.Str.{bytes_eq}
use Rattle.xml_grammar.specs.Characters.{◌>>=◌, same}
use Rattle.xml_grammar.specs.Namespaces.{Binding, or_else, lookup}
use Rattle.xml_grammar.specs.Code.Places.{Finds, HidesEach, held_of, last_of, place_in}
use Rattle.xml_grammar.specs.declared.scope.Held.{Held}
use Rattle.xml_grammar.proofs.MeaningLaws.{bytes_same, same_sym}
use Rattle.xml_grammar.proofs.StepLaws.{same_is, same_same}

-- A binding behind the others

is_last : (b : Bool) (n : ℕ) (o : Option ℕ) (r : Option ℕ) → or_else (option_map (λ m. suc m) (cond b (Some n) o)) r ≡ cond b (Some (suc n)) (or_else (option_map (λ m. suc m) o) r)
is_last true n o r = refl
is_last false n o r = refl

pub last-pushed : (q : List ℕ) (bs : List Binding) (b : Binding) → last_of q (bs ++ b ∷ []) ≡ cond (same q b.prefix) (Some (length bs)) (last_of q bs)
last-pushed q [] b = refl
last-pushed q (a ∷ bs) b =
    ap (λ o. or_else (option_map (λ m. suc m) o) (cond (same q a.prefix) (Some 0) None)) (last-pushed q bs b)
    ∙ is_last (same q b.prefix) (length bs) (last_of q bs) (cond (same q a.prefix) (Some 0) None)

-- What holds of each item and those before it

pub each-pushed : {A : Type 0} (P : List A → A → Type 0) (xs : List A) (x : A)
    → ((i : ℕ) (h : A) → slice_get xs i ≡ Some h → P (take i xs) h) → P xs x
    → (i : ℕ) (h : A) → slice_get (xs ++ x ∷ []) i ≡ Some h → P (take i (xs ++ x ∷ [])) h
each-pushed P [] x f p zero h e = let same : x ≡ h = cc in rw (sym same) p
each-pushed P [] x f p (suc i) h e = absurd cc
each-pushed P (y ∷ xs) x f p zero h e = f zero h e
each-pushed P (y ∷ xs) x f p (suc i) h e = each-pushed (λ ys. P (y ∷ ys)) xs x (λ j. f (suc j)) p i h e

pub each-popped : {A : Type 0} (P : List A → A → Type 0) (xs : List A) (x : A)
    → ((i : ℕ) (h : A) → slice_get (xs ++ x ∷ []) i ≡ Some h → P (take i (xs ++ x ∷ [])) h)
    → (i : ℕ) (h : A) → slice_get xs i ≡ Some h → P (take i xs) h
each-popped P [] x f i h e = absurd cc
each-popped P (y ∷ xs) x f zero h e = f zero h e
each-popped P (y ∷ xs) x f (suc i) h e = each-popped (λ ys. P (y ∷ ys)) xs x (λ j. f (suc j)) i h e

pub last-popped : {A : Type 0} (P : List A → A → Type 0) (xs : List A) (x : A)
    → ((i : ℕ) (h : A) → slice_get (xs ++ x ∷ []) i ≡ Some h → P (take i (xs ++ x ∷ [])) h) → P xs x
last-popped P [] x f = f zero x refl
last-popped P (y ∷ xs) x f = last-popped (λ ys. P (y ∷ ys)) xs x (λ j. f (suc j))

-- What stands at the place

abbrev pub space_at : List Binding → Option ℕ → Option (List ℕ)
space_at bs o = o >>= (λ i. option_map (λ b. b.space) (slice_get bs i))

record IsPlaced (q : List ℕ) (bs : List Binding) : Type 0 where
  space : lookup q bs ≡ space_at bs (last_of q bs)
  some : is_some (last_of q bs) ≡ is_some (lookup q bs)

record IsStep (b : Binding) (bs : List Binding) (s : Bool) (o : Option ℕ) (r : Option (List ℕ)) : Type 0 where
  space : or_else r (cond s (Some b.space) None) ≡ space_at (b ∷ bs) (or_else (option_map (λ n. suc n) o) (cond s (Some 0) None))
  some : is_some (or_else (option_map (λ n. suc n) o) (cond s (Some 0) None)) ≡ is_some (or_else r (cond s (Some b.space) None))

step : (b : Binding) (bs : List Binding) (s : Bool) (o : Option ℕ) (r : Option (List ℕ)) → r ≡ space_at bs o → is_some o ≡ is_some r → IsStep b bs s o r
step b bs true None None e f = record { space = refl; some = refl }
step b bs false None None e f = record { space = refl; some = refl }
step b bs s None (Some x) e f = absurd cc
step b bs s (Some i) None e f = absurd cc
step b bs s (Some i) (Some x) e f = record { space = e; some = refl }

placed : (q : List ℕ) (bs : List Binding) → IsPlaced q bs
placed q [] = record { space = refl; some = refl }
placed q (b ∷ bs) =
    let k = placed q bs in
    let h = step b bs (same q b.prefix) (last_of q bs) (lookup q bs) k.space k.some in
    record { space = h.space; some = h.some }

pub unbound : (q : List ℕ) (bs : List Binding) → last_of q bs ≡ None → lookup q bs ≡ None
unbound q bs e = (placed q bs).space ∙ ap (space_at bs) e

pub bound_at : (q : List ℕ) (bs : List Binding) (i : ℕ) → last_of q bs ≡ Some i → lookup q bs ≡ option_map (λ b. b.space) (slice_get bs i)
bound_at q bs i e = (placed q bs).space ∙ ap (space_at bs) e

-- A map of places, as bindings come and go

last_held : (q : List ℕ) (hs : List Held) (h : Held) → last_of q (map held_of (hs ++ h ∷ [])) ≡ cond (bytes_eq h.binding.prefix.now q) (Some (length hs)) (last_of q (map held_of hs))
last_held q hs h =
    let p = h.binding.prefix.now in
    ap (last_of q) (map-append held_of hs (h ∷ []))
    ∙ (last-pushed q (map held_of hs) (held_of h)
    ∙ (ap (λ b. cond b (Some (length (map held_of hs))) (last_of q (map held_of hs))) (same_sym q p ∙ sym (bytes_same p q))
    ∙ ap (λ n. cond (bytes_eq p q) (Some n) (last_of q (map held_of hs))) (length-map hs held_of)))

pub held_found : (m n : BTreeMap (Bor (List ℕ)) ℕ) (hs : List Held) (h : Held) → Finds m hs
    → ((q : List ℕ) → place_in n q ≡ update bytes_eq (place_in m) h.binding.prefix.now (Some (length hs)) q) → Finds n (hs ++ h ∷ [])
held_found m n hs h f u q = u q ∙ (ap (λ o. cond (bytes_eq h.binding.prefix.now q) (Some (length hs)) o) (f q) ∙ sym (last_held q hs h))

pub popped : {A : Type 0} (old new : List A) (r : Option A) (x : A) → old ≡ new ++ option_to_list r → r ≡ Some x → old ≡ new ++ x ∷ []
popped old new r x e f = subst (λ o. old ≡ new ++ option_to_list o) f e

is_here : (o other : Option ℕ) (b : Bool) (n : ℕ) → b ≡ true → o ≡ cond b (Some n) other → IsSome o
is_here o other b n e f = subst IsSome (sym (f ∙ ap (λ c. cond c (Some n) other) e)) refl

pub last_there : (m : BTreeMap (Bor (List ℕ)) ℕ) (old hs : List Held) (h : Held) → old ≡ hs ++ h ∷ [] → Finds m old → IsSome (place_in m h.binding.prefix.now)
last_there m old hs h e f =
    let p = h.binding.prefix.now in
    is_here (place_in m p) (last_of p (map held_of hs)) (bytes_eq p p) (length hs) (bytes_same p p ∙ same_same p) (f p ∙ (ap (λ v. last_of p (map held_of v)) e ∙ last_held p hs h))

put_back : (b : Bool) (n : ℕ) (hidden here there old : Option ℕ) → here ≡ cond b hidden old → old ≡ cond b (Some n) there → (b ≡ true → hidden ≡ there) → here ≡ there
put_back true n hidden here there old e f g = e ∙ g refl
put_back false n hidden here there old e f g = e ∙ f

pub popped_found : (m n : BTreeMap (Bor (List ℕ)) ℕ) (old hs : List Held) (h : Held) → old ≡ hs ++ h ∷ [] → Finds m old → HidesEach old
    → ((q : List ℕ) → place_in n q ≡ update bytes_eq (place_in m) h.binding.prefix.now h.hidden q) → Finds n hs
popped_found m n old hs h e f k u q =
    let p = h.binding.prefix.now in
    let hidden = last-popped (λ before x. x.hidden ≡ last_of x.binding.prefix.now (map held_of before)) hs h (subst HidesEach e k) in
    put_back (bytes_eq p q) (length hs) h.hidden (place_in n q) (last_of q (map held_of hs)) (place_in m q) (u q) (f q ∙ (ap (λ v. last_of q (map held_of v)) e ∙ last_held q hs h))
    (λ b. hidden ∙ ap (λ v. last_of v (map held_of hs)) (same_is p q (sym (bytes_same p q) ∙ b)))

pub popped_hides : (old hs : List Held) (h : Held) → old ≡ hs ++ h ∷ [] → HidesEach old → HidesEach hs
popped_hides old hs h e k = each-popped (λ before x. x.hidden ≡ last_of x.binding.prefix.now (map held_of before)) hs h (subst HidesEach e k)

pub held_hides : (hs : List Held) (h : Held) → HidesEach hs → h.hidden ≡ last_of h.binding.prefix.now (map held_of hs) → HidesEach (hs ++ h ∷ [])
held_hides hs h = each-pushed (λ before x. x.hidden ≡ last_of x.binding.prefix.now (map held_of before)) hs h

-- Looking up by place

pub bound_held : (q : List ℕ) (hs : List Held) (i : ℕ) (h : Held) → last_of q (map held_of hs) ≡ Some i → slice_get hs i ≡ Some h → lookup q (map held_of hs) ≡ Some h.binding.space
bound_held q hs i h e f = bound_at q (map held_of hs) i e ∙ (ap (option_map (λ b. b.space)) (slice_get-map held_of hs i) ∙ ap (λ o. option_map (λ b. b.space) (option_map held_of o)) f)

pub none_held : (q : List ℕ) (hs : List Held) (i : ℕ) → last_of q (map held_of hs) ≡ Some i → slice_get hs i ≡ None → lookup q (map held_of hs) ≡ None
none_held q hs i e f = bound_at q (map held_of hs) i e ∙ (ap (option_map (λ b. b.space)) (slice_get-map held_of hs i) ∙ ap (λ o. option_map (λ b. b.space) (option_map held_of o)) f)
