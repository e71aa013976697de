-- A token that is looked for.
use Rattle.std.proofs.Common.{ℕ, zero, suc, List, [], ◌∷◌, ◌≡◌, ◌++◌, ◌+◌, ◌<◌, ◌≤◌, inl, inr, true, false, sym, ◌∙◌, ap, subst, true≢false, take, get_or, length, arith}
use Rattle.std.specs.List.{AllByRecursion}
use Rattle.std.proofs.lemmas.List.{take_all, take_more}
use Rattle.at_base.specs.Numbers.{Numbers}
use Rattle.at_model.specs.Book.{is_id}
use Rattle.model_laws.proofs.RecoveryLaws.{same_id, self_id}
use Rattle.decision_log.specs.declared.token.What.{What}
use Rattle.decision_log.specs.KeptState.{IsAmong}
use Rattle.decision_log.specs.Tokens.{Token}

abbrev token : Numbers → What → Token
token id what = record { id = id; what = what }

pub is_that : (t : Token) (id : Numbers) (what : What) → is_id t.id id ≡ true → t.what ≡ what → t ≡ record { id = id; what = what }
is_that t id what e f = let g = same_id t.id id e in λ i. record { id = g i; what = f i }

pub other_id : (t : Token) (id : Numbers) (what : What) → is_id t.id id ≡ false → t ≡ record { id = id; what = what } → ⊥
other_id t id what e f = true≢false (sym (self_id id) ∙ ap (λ u. is_id u.id id) (sym f) ∙ e)

pub other_kind : (t : Token) (id : Numbers) (what : What) → (t.what ≡ what → ⊥) → t ≡ record { id = id; what = what } → ⊥
other_kind t id what e f = e (ap (λ (u : Token). u.what) f)

pub found : (ts : List Token) (i : ℕ) (d u t : Token) → i < length ts → u ≡ get_or ts i d → u ≡ t → IsAmong t ts
found [] i d u t l e f = absurd (omega (arith, l))
found (x ∷ ts) zero d u t l e f = inl (sym e ∙ f)
found (x ∷ ts) (suc i) d u t l e f = inr (found ts i d u t (omega (arith, l)) e f)

all_push : (P : Token → Type 0) (ts : List Token) (u : Token) → AllByRecursion P ts → P u → AllByRecursion P (ts ++ u ∷ [])
all_push P [] u h k = (k, tt)
all_push P (x ∷ ts) u (h, l) k = (h, all_push P ts u l k)

pub none_more : (ts : List Token) (i : ℕ) (d u t : Token) → i < length ts → u ≡ get_or ts i d → (u ≡ t → ⊥)
    → AllByRecursion (λ x. x ≡ t → ⊥) (take i ts) → AllByRecursion (λ x. x ≡ t → ⊥) (take (i + 1) ts)
none_more ts i d u t l e f h =
    subst (AllByRecursion (λ x. x ≡ t → ⊥)) (ap (λ x. take i ts ++ x ∷ []) e ∙ sym (take_more ts i d l)) (all_push (λ x. x ≡ t → ⊥) (take i ts) u h f)

pub none_all : (ts : List Token) (i : ℕ) (t : Token) → length ts ≤ i → AllByRecursion (λ x. x ≡ t → ⊥) (take i ts) → AllByRecursion (λ x. x ≡ t → ⊥) ts
none_all ts i t l h = subst (AllByRecursion (λ x. x ≡ t → ⊥)) (take_all i ts l) h
