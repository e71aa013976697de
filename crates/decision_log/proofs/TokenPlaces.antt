-- The records and their tokens have the same places.
use Rattle.std.proofs.Common.{ℕ, suc, List, [], ◌∷◌, ◌≡◌, ◌+◌, ◌≤◌, Bool, true, false, not, refl, sym, ◌∙◌, ap, if◌then◌else◌, length, arith}
use Rattle.std.specs.List.{filter, insert}
use Rattle.at_base.specs.Numbers.{Numbers}
use Rattle.at_base.specs.declared.record.Record.{Record}
use Rattle.at_model.specs.Recovery.{is_before}
use Rattle.decision_log.specs.KeptRecords.{frees, freed, insert_last, live_after, stays, tokens_of}
use Rattle.decision_log.specs.Places.{place_last, token_id}
use Rattle.decision_log.specs.Tokens.{Token, about, token_of}

pub place_within : (id : Numbers) (ts : List Token) → place_last id ts ≤ length ts
place_within id [] = omega arith
place_within id (t ∷ ts) = by_case (is_before id t.id) (place_within id ts) where
  by_case : (b : Bool) → place_last id ts ≤ length ts → (if b then 0 else 1 + place_last id ts) ≤ suc (length ts)
  by_case true h = omega arith
  by_case false h = omega (arith, h)

further : {A : Type 0} (n : ℕ) (x y : A) (xs : List A) → insert (y ∷ xs) (1 + n) x ≡ y ∷ insert xs n x
further n x y xs = let e : 1 + n ≡ suc n = omega arith in ap (λ k. insert (y ∷ xs) k x) e

pub tokens_placed : (t : Token) (ts : List Token) → insert ts (place_last t.id ts) t ≡ insert_last token_id t ts
tokens_placed t [] = refl
tokens_placed t (u ∷ ts) = by_case (is_before t.id u.id) (tokens_placed t ts) where
  by_case : (b : Bool) → insert ts (place_last t.id ts) t ≡ insert_last token_id t ts → insert (u ∷ ts) (if b then 0 else 1 + place_last t.id ts) t ≡ (if b then t ∷ (u ∷ ts) else u ∷ insert_last token_id t ts)
  by_case true h = refl
  by_case false h = further (place_last t.id ts) t u ts ∙ ap (λ z. u ∷ z) h

pub records_placed : (r : Record) (xs : List Record) → insert xs (place_last (about r) (tokens_of xs)) r ≡ insert_last about r xs
records_placed r [] = refl
records_placed r (x ∷ xs) = by_case (is_before (about r) (about x)) (records_placed r xs) where
  by_case : (b : Bool) → insert xs (place_last (about r) (tokens_of xs)) r ≡ insert_last about r xs
      → insert (x ∷ xs) (if b then 0 else 1 + place_last (about r) (tokens_of xs)) r ≡ (if b then r ∷ (x ∷ xs) else x ∷ insert_last about r xs)
  by_case true h = refl
  by_case false h = further (place_last (about r) (tokens_of xs)) r x xs ∙ ap (λ z. x ∷ z) h

pub tokens_inserted : (r : Record) (xs : List Record) → tokens_of (insert_last about r xs) ≡ insert_last token_id (token_of r) (tokens_of xs)
tokens_inserted r [] = refl
tokens_inserted r (x ∷ xs) = by_case (is_before (about r) (about x)) (tokens_inserted r xs) where
  by_case : (b : Bool) → tokens_of (insert_last about r xs) ≡ insert_last token_id (token_of r) (tokens_of xs)
      → tokens_of (if b then r ∷ (x ∷ xs) else x ∷ insert_last about r xs) ≡ (if b then token_of r ∷ (token_of x ∷ tokens_of xs) else token_of x ∷ insert_last token_id (token_of r) (tokens_of xs))
  by_case true h = refl
  by_case false h = ap (λ z. token_of x ∷ z) h

pub tokens_freed : (r : Record) (xs : List Record) → tokens_of (freed r xs) ≡ filter (λ t. not (frees r t)) (tokens_of xs)
tokens_freed r [] = refl
tokens_freed r (x ∷ xs) = by_case (not (frees r (token_of x))) (tokens_freed r xs) where
  by_case : (b : Bool) → tokens_of (freed r xs) ≡ filter (λ t. not (frees r t)) (tokens_of xs)
      → tokens_of (if b then x ∷ freed r xs else freed r xs) ≡ (if b then token_of x ∷ filter (λ t. not (frees r t)) (tokens_of xs) else filter (λ t. not (frees r t)) (tokens_of xs))
  by_case true h = ap (λ z. token_of x ∷ z) h
  by_case false h = h

pub both_freed : (r : Record) (live new : List Record) (ts us : List Token) → ts ≡ tokens_of live → new ≡ freed r live → us ≡ filter (λ t. not (frees r t)) ts → us ≡ tokens_of new
both_freed r live new ts us s n u = u ∙ ap (filter (λ t. not (frees r t))) s ∙ sym (tokens_freed r live) ∙ ap tokens_of (sym n)

as_many : (xs : List Record) → length (tokens_of xs) ≡ length xs
as_many [] = refl
as_many (x ∷ xs) = ap suc (as_many xs)

pub place_fits : (id : Numbers) (live : List Record) (ts : List Token) (place : ℕ) → ts ≡ tokens_of live → place ≡ place_last id ts → place ≤ length live
place_fits id live ts place s p = let k = place_within id ts in let l = ap length s ∙ as_many live in omega (arith, k, l, p)

pub live_inserted : (r : Record) (t : Token) (live new : List Record) (ts : List Token) (place : ℕ) → ts ≡ tokens_of live → t ≡ token_of r → place ≡ place_last t.id ts
    → new ≡ insert live place r → new ≡ insert_last about r live
live_inserted r t live new ts place s e p n =
    n ∙ ap (λ i. insert live i r) (p ∙ (λ k. place_last (ap (λ (u : Token). u.id) e k) (s k))) ∙ records_placed r live

pub both_inserted : (r : Record) (t : Token) (live new : List Record) (ts us : List Token) (place : ℕ) → ts ≡ tokens_of live → t ≡ token_of r → place ≡ place_last t.id ts
    → new ≡ insert live place r → us ≡ insert ts place t → us ≡ tokens_of new
both_inserted r t live new ts us place s e p n u =
    u ∙ ap (λ i. insert ts i t) p ∙ tokens_placed t ts ∙ (λ k. insert_last token_id (e k) (s k)) ∙ sym (tokens_inserted r live)
    ∙ ap tokens_of (sym (live_inserted r t live new ts place s e p n))

pub stepped : (r : Record) (live mid new : List Record) (ts : List Token) → ts ≡ tokens_of live → stays r ts ≡ true → mid ≡ freed r live → new ≡ insert_last about r mid → new ≡ live_after r live
stepped r live mid new ts s t m n =
    n ∙ ap (insert_last about r) m ∙ ap (λ b. if b then insert_last about r (freed r live) else freed r live) (sym (ap (stays r) (sym s) ∙ t))

pub passed : (r : Record) (live new : List Record) (ts : List Token) → ts ≡ tokens_of live → stays r ts ≡ false → new ≡ freed r live → new ≡ live_after r live
passed r live new ts s t n =
    n ∙ ap (λ b. if b then insert_last about r (freed r live) else freed r live) (sym (ap (stays r) (sym s) ∙ t))
