-- Writes that a crash cuts short, behind the last gate and at it.
use Rattle.std.proofs.Common.{ℕ, List, [], ◌∷◌, length, ◌≡◌, ◌≢◌, ◌++◌, ◌+◌, ◌<◌, ◌≤◌, ◌-◌, ◌⊎◌, inl, inr, ⊎_elim, sym, ◌∙◌, ap, take, drop, replicate, get_or, arith}
use Rattle.std.proofs.lemmas.Bool.{cases_eq}
use Rattle.std.proofs.lemmas.List.{append_assoc, append-nil, length-append, take-append-drop, take_at, drop_at, drop_more}
use Rattle.site_model.specs.Told.{Torn, written}
use Rattle.journal_at.specs.Format.{Closed, behind, frames}

pub frames_push : (bodies : List (List ℕ)) (body rest : List ℕ) → frames (bodies ++ body ∷ []) ++ rest ≡ frames bodies ++ (1 ∷ (behind body ++ rest))
frames_push [] body rest = ap (λ z. 1 ∷ z) (ap (λ z. z ++ rest) (append-nil (behind body)))
frames_push (x ∷ bodies) body rest =
    ap (λ z. 1 ∷ z) (append_assoc (behind x) (frames (bodies ++ body ∷ [])) rest ∙ ap (λ z. behind x ++ z) (frames_push bodies body rest) ∙ sym (append_assoc (behind x) (frames bodies) (1 ∷ (behind body ++ rest))))

pub long : (p : List ℕ) (gate : ℕ) (rest : List ℕ) → length (p ++ (gate ∷ rest)) ≡ length p + 1 + length rest
long p gate rest = length-append p (gate ∷ rest) ∙ omega arith

pub take_front : (p : List ℕ) (gate : ℕ) (rest : List ℕ) (at : ℕ) → at ≡ length p + 1 → take at (p ++ (gate ∷ rest)) ≡ p ++ (gate ∷ [])
take_front p gate rest at e =
    ap (take at) (sym (append_assoc p (gate ∷ []) rest)) ∙ take_at (p ++ (gate ∷ [])) rest at (length-append p (gate ∷ []) ∙ sym e)

pub drop_front : (p : List ℕ) (gate : ℕ) (rest : List ℕ) (at : ℕ) → at ≡ length p + 1 → drop at (p ++ (gate ∷ rest)) ≡ rest
drop_front p gate rest at e =
    ap (drop at) (sym (append_assoc p (gate ∷ []) rest)) ∙ drop_at (p ++ (gate ∷ [])) rest at (length-append p (gate ∷ []) ∙ sym e)

pub closed_torn : (bodies : List (List ℕ)) (at n : ℕ) (d c : List ℕ) → at ≡ length (frames bodies) + 1 → Closed bodies d → Torn at n d c → Closed bodies c
closed_torn bodies at n d c e h t =
    let p = frames bodies in
    let fits : at ≤ length d = omega (arith, e, ap length h.is, long p h.gate h.rest) in
    let front : take at c ≡ p ++ (h.gate ∷ []) = t.before at (omega arith) fits ∙ ap (take at) h.is ∙ take_front p h.gate h.rest at e in
    record {
      gate = h.gate;
      rest = drop at c;
      shut = h.shut;
      is = sym (take-append-drop at c) ∙ ap (λ (l : List ℕ). l ++ drop at c) front ∙ append_assoc p (h.gate ∷ []) (drop at c);
    }

-- the body stands behind a gate that is still shut
pub record Staged (bodies : List (List ℕ)) (body f : List ℕ) : Type 0 where
  pub gate : ℕ
  pub rest : List ℕ
  pub shut : gate ≢ 1
  pub is : f ≡ frames bodies ++ (gate ∷ (behind body ++ (0 ∷ rest)))

pub staged_closed : (bodies : List (List ℕ)) (body f : List ℕ) → Staged bodies body f → Closed bodies f
staged_closed bodies body f s = record { gate = s.gate; rest = behind body ++ (0 ∷ s.rest); shut = s.shut; is = s.is }

pub closed_written : (bodies : List (List ℕ)) (body : List ℕ) (at : ℕ) (f : List ℕ) → at ≡ length (frames bodies) + 1 → Closed bodies f → Staged bodies body (written at (behind body ++ (0 ∷ [])) f)
closed_written bodies body at f e h =
    let p = frames bodies in
    let b = behind body ++ (0 ∷ []) in
    let fits : at ≤ length f = omega (arith, e, ap length h.is, long p h.gate h.rest) in
    let none : at - length f ≡ 0 = omega (arith, fits) in
    let front : take at f ≡ p ++ (h.gate ∷ []) = ap (take at) h.is ∙ take_front p h.gate h.rest at e in
    record {
      gate = h.gate;
      rest = drop (at + length b) f;
      shut = h.shut;
      is = (λ i. front i ++ (replicate (none i) 0 ++ (b ++ drop (at + length b) f)))
          ∙ append_assoc p (h.gate ∷ []) (b ++ drop (at + length b) f)
          ∙ ap (λ z. p ++ (h.gate ∷ z)) (append_assoc (behind body) (0 ∷ []) (drop (at + length b) f));
    }

pub one_longer : (bodies : List (List ℕ)) (body rest f : List ℕ) → f ≡ frames bodies ++ (1 ∷ (behind body ++ (0 ∷ rest))) → Closed (bodies ++ body ∷ []) f
one_longer bodies body rest f e = record { gate = 0; rest = rest; shut = λ z. absurd (omega (arith, z)); is = e ∙ sym (frames_push bodies body (0 ∷ rest)) }

pub staged_torn : (bodies : List (List ℕ)) (body : List ℕ) (at : ℕ) (d c : List ℕ) → at ≡ length (frames bodies) → Staged bodies body d → Torn at 1 d c → Closed bodies c ⊎ Closed (bodies ++ body ∷ []) c
staged_torn bodies body at d c e s t =
    let p = frames bodies in
    let after = behind body ++ (0 ∷ s.rest) in
    let size : length d ≡ length p + 1 + length after = ap length s.is ∙ long p s.gate after in
    let fits : at < length c = omega (arith, e, size, t.no_shorter) in
    let front : take at c ≡ p = t.before at (omega arith) (omega (arith, e, size)) ∙ ap (take at) s.is ∙ take_at p (s.gate ∷ after) at (sym e) in
    let back : drop (at + 1) c ≡ after = t.after ∙ ap (drop (at + 1)) s.is ∙ drop_front p s.gate after (at + 1) (omega (arith, e)) in
    let is : c ≡ p ++ (get_or c at 0 ∷ after) = sym (take-append-drop at c) ∙ (λ i. front i ++ drop at c) ∙ ap (λ z. p ++ z) (drop_more c at 0 fits ∙ ap (λ z. get_or c at 0 ∷ z) back) in
    ⊎_elim
    (λ one. inr (one_longer bodies body s.rest c (is ∙ ap (λ z. p ++ (z ∷ after)) one)))
    (λ other. inl (record { gate = get_or c at 0; rest = after; shut = other; is = is }))
    (cases_eq (get_or c at 0) 1)

pub staged_raised : (bodies : List (List ℕ)) (body : List ℕ) (at : ℕ) (f : List ℕ) → at ≡ length (frames bodies) → Staged bodies body f → Closed (bodies ++ body ∷ []) (written at (1 ∷ []) f)
staged_raised bodies body at f e s =
    let p = frames bodies in
    let after = behind body ++ (0 ∷ s.rest) in
    let size : length f ≡ length p + 1 + length after = ap length s.is ∙ long p s.gate after in
    let none : at - length f ≡ 0 = omega (arith, e, size) in
    let front : take at f ≡ p = ap (take at) s.is ∙ take_at p (s.gate ∷ after) at (sym e) in
    let back : drop (at + 1) f ≡ after = ap (drop (at + 1)) s.is ∙ drop_front p s.gate after (at + 1) (omega (arith, e)) in
    one_longer bodies body s.rest _ (λ i. front i ++ (replicate (none i) 0 ++ (1 ∷ back i)))
