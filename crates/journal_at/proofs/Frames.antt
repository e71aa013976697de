-- What the beginning of a file's bytes says.
use Rattle.std.proofs.Common.{ℕ, List, [], ◌∷◌, length, ◌≡◌, ◌++◌, ◌+◌, ◌<◌, ◌≤◌, ◌⊎◌, inl, inr, sym, ◌∙◌, ap, subst, take, drop, get_or, arith, rules}
use Rattle.std.specs.Int.{from_be_bytes, to_be_bytes, w32}
use Rattle.std.proofs.lemmas.List.{append_assoc, length-append, take_at, drop_at}
use Rattle.std.proofs.lemmas.Nat.{from_be_bytes-to_be_bytes_4}
use Rattle.journal_at.specs.Format.{Closed, IsBody, behind, frames}
use Rattle.journal_at.specs.Frames.{Begins, IsShut, NoFrame, NotFramed}

pub four : (n : ℕ) → length (to_be_bytes w32 n) ≡ 4
four n = search rules

-- behind an open gate stands a body, and then a gate at least
pub record Opened (rest : List ℕ) : Type 0 where
  pub body : List ℕ
  pub after : List ℕ
  pub sized : IsBody body
  pub is : rest ≡ to_be_bytes w32 (length body) ++ (body ++ after)
  pub gate : 1 ≤ length after

pub closed_long : (bodies : List (List ℕ)) (f : List ℕ) → Closed bodies f → 1 ≤ length f
closed_long bodies f h = let k = ap length h.is ∙ length-append (frames bodies) (h.gate ∷ h.rest) in omega (arith, k)

pub tail_of : (x y : ℕ) (xs ys : List ℕ) → (x ∷ xs) ≡ (y ∷ ys) → xs ≡ ys
tail_of x y xs ys e = ap (drop 1) e

pub head_of_list : (x y : ℕ) (xs ys : List ℕ) → (x ∷ xs) ≡ (y ∷ ys) → x ≡ y
head_of_list x y xs ys e = ap (λ z. get_or z 0 0) e

pub opened : (body after rest : List ℕ) → Begins body after (1 ∷ rest) → 1 ≤ length after → Opened rest
opened body after rest b l =
    record {
      body = body;
      after = after;
      sized = b.sized;
      is = tail_of _ _ _ _ b.is ∙ append_assoc (to_be_bytes w32 (length body)) body after;
      gate = l;
    }

pub long_rest : (rest : List ℕ) → Opened rest → 4 ≤ length rest
long_rest rest o = let k = ap length o.is ∙ length-append (to_be_bytes w32 (length o.body)) (o.body ++ o.after) in omega (arith, k, four (length o.body))

pub size_is : (rest front : List ℕ) (n : ℕ) → front ≡ take 4 rest → n ≡ from_be_bytes w32 front → (o : Opened rest) → n ≡ length o.body
size_is rest front n e k o =
    let t : front ≡ to_be_bytes w32 (length o.body) = e ∙ ap (take 4) o.is ∙ take_at (to_be_bytes w32 (length o.body)) (o.body ++ o.after) 4 (four (length o.body)) in
    k ∙ ap (from_be_bytes w32) t ∙ from_be_bytes-to_be_bytes_4 (length o.body) (omega (arith, o.sized.most))

pub back_long : (rest back : List ℕ) → back ≡ drop 4 rest → (o : Opened rest) → length o.body + 1 ≤ length back
back_long rest back e o =
    let t = e ∙ ap (drop 4) o.is ∙ drop_at (to_be_bytes w32 (length o.body)) (o.body ++ o.after) 4 (four (length o.body)) in
    let k = ap length t ∙ length-append o.body o.after in
    omega (arith, k, o.gate)

-- with less than that it is no beginning of bodies
module _ (f rest : List ℕ) (gate : ℕ) (e : f ≡ gate ∷ rest) (one : gate ≡ 1) where
  pub not_shut : IsShut f → ⊥
  not_shut s = s.shut (head_of_list _ _ _ _ (sym s.is ∙ e) ∙ one)

  pub opened_in : (body after : List ℕ) → Begins body after f → 1 ≤ length after → Opened rest
  opened_in body after b l = opened body after rest (subst (Begins body after) (e ∙ ap (λ z. z ∷ rest) one) b) l

  pub too_short : length rest < 4 → NoFrame f
  too_short l = record { unshut = not_shut; none = λ body after b g. let k = long_rest rest (opened_in body after b g) in absurd (omega (arith, k, l)) }

  pub of_no_size : (front : List ℕ) (n : ℕ) → front ≡ take 4 rest → n ≡ from_be_bytes w32 front → (n ≡ 0) ⊎ (1060000 < n) → NoFrame f
  of_no_size front n t k either = record { unshut = not_shut; none = λ body after b g. none body after b g either } where
    none : (body after : List ℕ) → Begins body after f → 1 ≤ length after → (n ≡ 0) ⊎ (1060000 < n) → ⊥
    none body after b g (inl z) = let o = opened_in body after b g in let s = size_is rest front n t k o in absurd (omega (arith, s, z, o.sized.least))
    none body after b g (inr z) = let o = opened_in body after b g in let s = size_is rest front n t k o in absurd (omega (arith, s, z, o.sized.most))

  pub cut_off : (front back : List ℕ) (n : ℕ) → front ≡ take 4 rest → back ≡ drop 4 rest → n ≡ from_be_bytes w32 front → length back ≤ n → NoFrame f
  cut_off front back n t d k l =
      record {
        unshut = not_shut;
        none = λ body after b g.
            let o = opened_in body after b g in
            let s = size_is rest front n t k o in
            let m = back_long rest back d o in
            absurd (omega (arith, s, m, l));
      }

pub none_there : (f : List ℕ) → f ≡ [] → NoFrame f
none_there f e =
    record {
      unshut = λ s. absurd (omega (arith, ap length (sym s.is ∙ e)));
      none = λ body after b l. absurd (omega (arith, ap length (sym b.is ∙ e)));
    }

-- what has no frame is no beginning of bodies
pub not_framed : (f : List ℕ) → NoFrame f → NotFramed f
not_framed f n [] h = n.unshut (record { gate = h.closed.gate; rest = h.closed.rest; shut = h.closed.shut; is = h.closed.is })
not_framed f n (body ∷ bodies) h =
    let after = frames bodies ++ (h.closed.gate ∷ h.closed.rest) in
    let long : 1 ≤ length after = let k = length-append (frames bodies) (h.closed.gate ∷ h.closed.rest) in omega (arith, k) in
    n.none body after (record { sized = h.sized.0; is = h.closed.is ∙ ap (λ z. 1 ∷ z) (append_assoc (behind body) (frames bodies) (h.closed.gate ∷ h.closed.rest)) }) long
