-- A value, one piece further.
use Rattle.std.proofs.Common.{◌≡◌, refl, sym, ap, ◌∙◌, ℕ, zero, suc, ◌-◌, ◌<◌, List, [], ◌++◌, Option, Some, None, append_assoc, append-nil, arith}
use Rattle.xml_grammar.specs.Characters.{◌>>=◌}
use Rattle.xml_grammar.specs.Code.Reading.{with_front, piece_at, value_behind, value_at}

value_with : (n quote : ℕ) (rest : List ℕ) (o : Option (Option (List ℕ) × List ℕ)) → piece_at quote rest ≡ o → value_at (suc n) quote rest ≡ (o >>= (λ p. value_behind p.0 p.1 (λ r. value_at n quote r)))
value_with n quote rest o e = ap (λ o. o >>= (λ p. value_behind p.0 p.1 (λ r. value_at n quote r))) e

pub value_stops : (left quote : ℕ) (out rest : List ℕ) → 0 < left → piece_at quote rest ≡ None → with_front out (value_at left quote rest) ≡ None
value_stops zero quote out rest h e = absurd (omega arith)
value_stops (suc n) quote out rest h e = ap (with_front out) (value_with n quote rest None e)

pub value_ends : (left quote : ℕ) (out rest more : List ℕ) → 0 < left → piece_at quote rest ≡ Some (None, more) → with_front out (value_at left quote rest) ≡ Some (out, more)
value_ends zero quote out rest more h e = absurd (omega arith)
value_ends (suc n) quote out rest more h e = ap (with_front out) (value_with n quote rest (Some (None, more)) e) ∙ ap (λ v. Some (v, more)) (append-nil out)

pub value_goes : (left quote : ℕ) (out front rest more : List ℕ) → 0 < left → piece_at quote rest ≡ Some (Some front, more)
    → with_front (out ++ front) (value_at (left - 1) quote more) ≡ with_front out (value_at left quote rest)
value_goes zero quote out front rest more h e = absurd (omega arith)
value_goes (suc n) quote out front rest more h e =
    let k : suc n - 1 ≡ n = omega arith in
    rw k (joined (value_at n quote more) ∙ sym (ap (with_front out) (value_with n quote rest (Some (Some front, more)) e)))
  where
    joined : (o : Option (List ℕ × List ℕ)) → with_front (out ++ front) o ≡ with_front out (with_front front o)
    joined None = refl
    joined (Some p) = ap (λ v. Some (v, p.1)) (append_assoc out front p.0)

pub value_none : (quote : ℕ) (out rest : List ℕ) (left : ℕ) → left ≡ 0 → with_front out (value_at left quote rest) ≡ None
value_none quote out rest left e = rw e refl

pub front_nothing : (o : Option (List ℕ × List ℕ)) → with_front [] o ≡ o
front_nothing None = refl
front_nothing (Some p) = refl
