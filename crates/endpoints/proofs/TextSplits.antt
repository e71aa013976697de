-- Where a text splits.
use Rattle.std.proofs.Common.{ℕ, List, [], ◌∷◌, ◌++◌, ◌≡◌, ◌<◌, suc, length, get_or, take, drop, Bool, true, false, Bor, Option, Some, None, cond, sym, ap, subst, ◌∙◌, arith, refl}
use Rattle.std.specs.Prelude.{nat_eq, ◌≢◌}
use Rattle.std.specs.Str.{bytes_eq}
use Rattle.std.specs.Option.{MatchOption, option_map}
use Rattle.std.specs.Str.Pattern.{FindsTextPrefix, StripsPrefix}
use Rattle.std.proofs.lemmas.Bool.{eqb-true, eq-eqb, ne_eqb}
use Rattle.std.proofs.lemmas.Slice.Eq.{bytes_eq-Decides}
use Rattle.std.proofs.lemmas.Str.Pattern.{IsSplitOnceResult, split_parts}
use Rattle.std.proofs.lemmas.List.{take-append-drop}
use Rattle.std.proofs.Math.Seq.{take-append_seam}
use Rattle.endpoints.specs.Addresses.{after_prefix, split_at}

-- no byte of the list is this one
abbrev pub Lacks : ℕ → List ℕ → Type 0
Lacks c bytes = (i : ℕ) → i < length bytes → get_or bytes i 0 ≢ c

lacks_head : (c b : ℕ) (bytes : List ℕ) → Lacks c (b ∷ bytes) → nat_eq b c ≡ false
lacks_head c b bytes h = ne_eqb b c (h 0 (omega arith))

lacks_tail : (c b : ℕ) (bytes : List ℕ) → Lacks c (b ∷ bytes) → Lacks c bytes
lacks_tail c b bytes h = λ i l. h (suc i) (omega arith)

pub split_none : (c : ℕ) (bytes : List ℕ) → Lacks c bytes → split_at c bytes ≡ None
split_none c [] h = refl
split_none c (b ∷ bytes) h = rw (lacks_head c b bytes h, split_none c bytes (lacks_tail c b bytes h)) refl

pub split_first : (c : ℕ) (front back : List ℕ) → Lacks c front → split_at c (front ++ c ∷ back) ≡ Some (front, back)
split_first c [] back h = rw (eq-eqb c c refl) refl
split_first c (b ∷ front) back h =
    rw (lacks_head c b front h, split_first c front back (lacks_tail c b front h)) refl

split_by : (t : Bool) (c b : ℕ) (bytes : List ℕ) (o : Option (List ℕ × List ℕ)) (p : List ℕ × List ℕ) → nat_eq b c ≡ t
    → ((q : List ℕ × List ℕ) → o ≡ Some q → bytes ≡ q.0 ++ c ∷ q.1)
    → cond t (Some ([], bytes)) (option_map (λ q. (b ∷ q.0, q.1)) o) ≡ Some p → b ∷ bytes ≡ p.0 ++ c ∷ p.1
split_by true c b bytes o p e h f =
    let q : List ℕ × List ℕ = ([], bytes) in
    let same : q ≡ p = cc in
    subst (λ (r : List ℕ × List ℕ). b ∷ bytes ≡ r.0 ++ c ∷ r.1) same (ap (λ (x : ℕ). x ∷ bytes) (eqb-true b c e))
split_by false c b bytes None p e h f = absurd cc
split_by false c b bytes (Some q) p e h f =
    let r : List ℕ × List ℕ = (b ∷ q.0, q.1) in
    let same : r ≡ p = cc in
    subst (λ (s : List ℕ × List ℕ). b ∷ bytes ≡ s.0 ++ c ∷ s.1) same (ap (λ (l : List ℕ). b ∷ l) (h q refl))

pub split_whole : (c : ℕ) (bytes : List ℕ) (p : List ℕ × List ℕ) → split_at c bytes ≡ Some p → bytes ≡ p.0 ++ c ∷ p.1
split_whole c [] p e = absurd cc
split_whole c (b ∷ bytes) p e =
    split_by (nat_eq b c) c b bytes (split_at c bytes) p refl (split_whole c bytes) e

abbrev pub bytes_of : Bor (List ℕ) × Bor (List ℕ) → List ℕ × List ℕ
bytes_of parts = (parts.0.now, parts.1.now)

pub both_parts : (c : ℕ) (bytes : List ℕ) (r : Option (Bor (List ℕ) × Bor (List ℕ))) → IsSplitOnceResult c bytes r → c < 128
    → option_map (λ parts. (parts.0.now, parts.1.now)) r ≡ split_at c bytes
both_parts c bytes None h low = sym (split_none c bytes (split_parts c bytes None h low))
both_parts c bytes (Some parts) h low =
    let (whole, free) = split_parts c bytes (Some parts) h low in
    sym (ap (split_at c) whole ∙ split_first c parts.0.now parts.1.now free)

after_no : (prefix path : List ℕ) (b : Bool) → bytes_eq (take (length prefix) path) prefix ≡ b
    → ((rest : List ℕ) → path ≢ prefix ++ rest) → after_prefix prefix path ≡ None
after_no prefix path true e h =
    absurd (h (drop (length prefix) path)
    (sym (take-append-drop (length prefix) path)
    ∙ ap (λ (front : List ℕ). front ++ drop (length prefix) path) ((bytes_eq-Decides (take (length prefix) path) prefix).0 e)))
after_no prefix path false e h = rw e refl

begins : (prefix path rest : List ℕ) → path ≡ prefix ++ rest → bytes_eq (take (length prefix) path) prefix ≡ true
begins prefix path rest e =
    (bytes_eq-Decides (take (length prefix) path) prefix).1 (ap (take (length prefix)) e ∙ take-append_seam prefix rest)

after_yes : (prefix path : List ℕ) → bytes_eq (take (length prefix) path) prefix ≡ true
    → after_prefix prefix path ≡ Some (drop (length prefix) path)
after_yes prefix path e = rw e refl

pub stripped : (prefix path : List ℕ) (r : Option (Bor (List ℕ)))
    → MatchOption r (FindsTextPrefix prefix path None) (λ x. StripsPrefix (FindsTextPrefix prefix) path x.now)
    → option_map (λ rest. rest.now) r ≡ after_prefix prefix path
stripped prefix path None h = sym (after_no prefix path (bytes_eq (take (length prefix) path) prefix) refl h)
stripped prefix path (Some x) (n, (same, whole, boundary), rest, size) =
    ap Some (rest ∙ ap (λ k. drop k path) same) ∙ sym (after_yes prefix path (begins prefix path (drop n path) whole))
