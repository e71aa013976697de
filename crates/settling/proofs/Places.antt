-- Messages and nodes by their numbers.
use Rattle.std.specs.Prelude.{ℕ, List, [], ◌∷◌, Option, Some, None, Bool, true, false, nat_eq, ◌+◌, ◌-◌, if◌then◌else◌, drop, length, zero, suc, ◌≡◌, ◌≤◌, refl}
use Rattle.std.specs.List.{sum_by, AllByRecursion}
use Rattle.std.proofs.Common.{arith, sym, subst, ap, ◌∙◌}
use Rattle.std.proofs.lemmas.Bool.{eqb-true}
use Rattle.std.proofs.lemmas.List.Sums.{sum_by-cons}
use Rattle.at_model.specs.World.{Posted, nth, put_nth}
use Rattle.model_laws.specs.Settlement.{first_received, received_or}
use Rattle.settling.specs.Load.{Prices}
use Rattle.settling.proofs.TurnCosts.{posted_weight, queued}

pub nth_behind : {A : Type 0} (n : ℕ) (x : A) (xs : List A) → 2 ≤ n → nth n (x ∷ xs) ≡ nth (n - 1) xs
nth_behind n x xs h = by_test (nat_eq n 1) refl
  where
    by_test : (b : Bool) → nat_eq n 1 ≡ b → (if b then Some x else nth (n - 1) xs) ≡ nth (n - 1) xs
    by_test true e = let one : n ≡ 1 = eqb-true n 1 e in absurd (omega (arith, one, h))
    by_test false e = refl

pub nth_drop : {A : Type 0} (j m : ℕ) (xs : List A) → 1 ≤ m → nth m (drop j xs) ≡ nth (j + m) xs
nth_drop zero m xs h = let same : m ≡ zero + m = omega arith in ap (λ k. nth k xs) same
nth_drop (suc j) m [] h = refl
nth_drop (suc j) m (x ∷ xs) h =
    let less : j + m ≡ suc j + m - 1 = omega arith in
    nth_drop j m xs h ∙ ap (λ k. nth k xs) less ∙ sym (nth_behind (suc j + m) x xs (omega (arith, h)))

pub nth_within : {A : Type 0} (k : ℕ) (xs : List A) (x : A) → nth k xs ≡ Some x → k ≤ length xs
nth_within k [] x e = absurd cc
nth_within k (y ∷ ys) x e = by_test (nat_eq k 1) refl e (λ f. nth_within (k - 1) ys x f)
  where
    by_test : (b : Bool) → nat_eq k 1 ≡ b → (if b then Some y else nth (k - 1) ys) ≡ Some x → (nth (k - 1) ys ≡ Some x → k - 1 ≤ length ys) → k ≤ length (y ∷ ys)
    by_test true f g rest = let one : k ≡ 1 = eqb-true k 1 f in omega (arith, one)
    by_test false f g rest = omega (arith, rest g)

pub sum_put_nth : {A : Type 0} (f : A → ℕ) (n : ℕ) (x y : A) (xs : List A) → nth n xs ≡ Some x → sum_by f (put_nth n y xs) + f x ≡ sum_by f xs + f y
sum_put_nth f n x y [] e = absurd cc
sum_put_nth f n x y (z ∷ zs) e = by_test (nat_eq n 1) e (λ g. sum_put_nth f (n - 1) x y zs g)
  where
    by_test : (b : Bool) → (if b then Some z else nth (n - 1) zs) ≡ Some x → (nth (n - 1) zs ≡ Some x → sum_by f (put_nth (n - 1) y zs) + f x ≡ sum_by f zs + f y)
        → sum_by f (if b then y ∷ zs else z ∷ put_nth (n - 1) y zs) + f x ≡ sum_by f (z ∷ zs) + f y
    by_test true g rest =
        let same : z ≡ x = cc in
        let one : f z ≡ f x = ap f same in
        omega (arith, one, sum_by-cons f z zs, sum_by-cons f y zs)
    by_test false g rest = omega (arith, rest g, sum_by-cons f z zs, sum_by-cons f z (put_nth (n - 1) y zs))

pub all_put_nth : {A : Type 0} (P : A → Type 0) (n : ℕ) (y : A) (xs : List A) → P y → AllByRecursion P xs → AllByRecursion P (put_nth n y xs)
all_put_nth P n y [] h k = tt
all_put_nth P n y (x ∷ xs) h (k, ks) = by_test (nat_eq n 1) (all_put_nth P (n - 1) y xs h ks)
  where
    by_test : (b : Bool) → AllByRecursion P (put_nth (n - 1) y xs) → AllByRecursion P (if b then y ∷ xs else x ∷ put_nth (n - 1) y xs)
    by_test true rest = (h, ks)
    by_test false rest = (k, rest)

pub all_nth : {A : Type 0} (P : A → Type 0) (n : ℕ) (x : A) (xs : List A) → AllByRecursion P xs → nth n xs ≡ Some x → P x
all_nth P n x [] h e = absurd cc
all_nth P n x (y ∷ ys) (h, hs) e = by_test (nat_eq n 1) e (λ f. all_nth P (n - 1) x ys hs f)
  where
    by_test : (b : Bool) → (if b then Some y else nth (n - 1) ys) ≡ Some x → (nth (n - 1) ys ≡ Some x → P x) → P x
    by_test true f rest = let same : y ≡ x = cc in subst P same h
    by_test false f rest = rest f

pub length_put : {A : Type 0} (n : ℕ) (y : A) (xs : List A) → length (put_nth n y xs) ≡ length xs
length_put n y [] = refl
length_put n y (x ∷ xs) = by_test (nat_eq n 1) (length_put (n - 1) y xs)
  where
    by_test : (b : Bool) → length (put_nth (n - 1) y xs) ≡ length xs → length (if b then y ∷ xs else x ∷ put_nth (n - 1) y xs) ≡ length (x ∷ xs)
    by_test true e = omega arith
    by_test false e = omega (arith, e)

-- the first message that has a receiver, so far behind
pub record Found (P : Prices) (i : ℕ) (ps : List Posted) (k n : ℕ) : Type 0 where
  pub behind : ℕ
  pub number : k ≡ i + behind
  pub post : Posted
  pub at : nth (behind + 1) ps ≡ Some post
  pub weighs : posted_weight P post + queued P (drop (behind + 1) ps) ≤ queued P ps

abbrev number_of : Option (ℕ × ℕ) → ℕ
number_of None = 0
number_of (Some p) = p.0

pub first_found : (P : Prices) (i : ℕ) (ps : List Posted) (k n : ℕ) → first_received i ps ≡ Some (k, n) → Found P i ps k n
first_found P i [] k n e = absurd cc
first_found P i (p ∷ ps) k n e = by_receiver p.receiver e (λ f. first_found P (i + 1) ps k n f)
  where
    one_more : Found P (i + 1) ps k n → Found P i (p ∷ ps) k n
    one_more h =
        let d : ℕ = h.behind in
        let next : d + 1 + 1 - 1 ≡ d + 1 = omega arith in
        let dropped : drop (d + 1 + 1) (p ∷ ps) ≡ drop (d + 1) ps = let more : d + 1 + 1 ≡ suc (d + 1) = omega arith in ap (λ m. drop m (p ∷ ps)) more in
        let rest : queued P (drop (d + 1 + 1) (p ∷ ps)) ≡ queued P (drop (d + 1) ps) = ap (queued P) dropped in
        record {
          behind = d + 1;
          number = omega (arith, h.number);
          post = h.post;
          at = nth_behind (d + 1 + 1) p ps (omega arith) ∙ ap (λ m. nth m ps) next ∙ h.at;
          weighs = omega (arith, h.weighs, rest, sum_by-cons (posted_weight P) p ps);
        }

    by_receiver : (o : Option ℕ) → received_or i o (first_received (i + 1) ps) ≡ Some (k, n) → (first_received (i + 1) ps ≡ Some (k, n) → Found P (i + 1) ps k n) → Found P i (p ∷ ps) k n
    by_receiver None f rest = one_more (rest f)
    by_receiver (Some m) f rest =
        let same : i ≡ k = ap number_of f in
        record { behind = 0; number = omega (arith, same); post = p; at = refl; weighs = omega (arith, sum_by-cons (posted_weight P) p ps) }
