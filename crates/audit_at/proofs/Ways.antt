-- Ways up, step by step.
use Rattle.std.proofs.Common.{ℕ, zero, suc, List, ◌≡◌, ◌<◌, ◌-◌, ◌∙◌, ◌||◌, Bool, true, false, Some, None, unwrap_or, sym, ap, arith, refl}
use Rattle.audit_at.specs.declared.item.Item.{Item}
use Rattle.audit_at.specs.declared.subordinate.Subordinate.{Subordinate}
use Rattle.audit_at.specs.Superiors.{climb, comes_to, is_item, is_some_and, superior_of}

pub climbs : (subs : List Subordinate) (n : ℕ) (from up whole : Item) → 0 < n → Some up ≡ superior_of subs from → climb subs n from ≡ whole → climb subs (n - 1) up ≡ whole
climbs subs zero from up whole l e h = absurd (omega (arith, l))
climbs subs (suc n) from up whole l e h =
    let same : suc n - 1 ≡ n = omega arith in
    ap (λ m. climb subs m up) same ∙ (ap (λ o. climb subs n (unwrap_or o from)) e ∙ h)

pub stays : (subs : List Subordinate) (n : ℕ) (item : Item) → None ≡ superior_of subs item → climb subs n item ≡ item
stays subs zero item e = refl
stays subs (suc n) item e = ap (λ o. climb subs n (unwrap_or o item)) (sym e) ∙ stays subs n item e

next : (subs : List Subordinate) (n : ℕ) (item from up : Item) → Some up ≡ superior_of subs from → (is_item up item || comes_to subs n item up) ≡ comes_to subs (suc n) item from
next subs n item from up e = ap (is_some_and (λ up. is_item up item || comes_to subs n item up)) e

pub goes_on : (subs : List Subordinate) (n : ℕ) (item from up : Item) (whole : Bool) → 0 < n → Some up ≡ superior_of subs from → is_item up item ≡ false → comes_to subs n item from ≡ whole → comes_to subs (n - 1) item up ≡ whole
goes_on subs zero item from up whole l e f h = absurd (omega (arith, l))
goes_on subs (suc n) item from up whole l e f h =
    let same : suc n - 1 ≡ n = omega arith in
    ap (λ m. comes_to subs m item up) same ∙ (ap (λ b. b || comes_to subs n item up) (sym f) ∙ (next subs n item from up e ∙ h))

pub arrives : (subs : List Subordinate) (n : ℕ) (item from up : Item) → 0 < n → Some up ≡ superior_of subs from → is_item up item ≡ true → comes_to subs n item from ≡ true
arrives subs zero item from up l e f = absurd (omega (arith, l))
arrives subs (suc n) item from up l e f = sym (next subs n item from up e) ∙ ap (λ b. b || comes_to subs n item up) f

pub ends : (subs : List Subordinate) (n : ℕ) (item from : Item) → None ≡ superior_of subs from → comes_to subs n item from ≡ false
ends subs zero item from e = refl
ends subs (suc n) item from e = ap (is_some_and (λ up. is_item up item || comes_to subs n item up)) (sym e)
