-- The pairs of a tag, one pair further.
use Rattle.std.proofs.Common.{◌≡◌, refl, ap, ℕ, zero, suc, ◌-◌, ◌<◌, List, [], ◌∷◌, ◌++◌, Bool, true, false, Option, Some, None, append_assoc, append-nil, arith, codes, map}
use Rattle.xml_grammar.specs.Characters.{◌>>=◌, given, strip_at, behind_white, begins_white}
use Rattle.xml_grammar.specs.Tokens.{Pair}
use Rattle.xml_grammar.specs.Code.Reading.{Ending, with_pair, pair_at, pairs_at}
use Rattle.xml_grammar.specs.Code.Views.{with_pairs, pair_of}
use Rattle.xml_grammar.specs.declared.markup.Pair.{Pair as PairRead}

abbrev pub ending : List Pair → Bool → List ℕ → Ending
ending ps e rest = record { pairs = ps; is_empty = e; rest = rest }

pub with_nothing : (o : Option Ending) → with_pairs [] o ≡ o
with_nothing None = refl
with_nothing (Some e) = refl

module _ (left : ℕ) (ps : List Pair) (cs : List ℕ) (h : 0 < left) where
  pub pairs_end : (rest : List ℕ) → strip_at (codes ">") (behind_white cs) ≡ Some rest → with_pairs ps (pairs_at left cs) ≡ Some (ending ps false rest)
  pairs_end rest e = by_cases left h
    where
      by_cases : (n : ℕ) → 0 < n → with_pairs ps (pairs_at n cs) ≡ Some (ending ps false rest)
      by_cases zero k = absurd (omega arith)
      by_cases (suc n) k = rw e (ap (λ v. Some (ending v false rest)) (append-nil ps))

  pub pairs_empty_end : (rest : List ℕ) → strip_at (codes ">") (behind_white cs) ≡ None → strip_at (codes "/>") (behind_white cs) ≡ Some rest
      → with_pairs ps (pairs_at left cs) ≡ Some (ending ps true rest)
  pairs_empty_end rest d e = by_cases left h
    where
      by_cases : (n : ℕ) → 0 < n → with_pairs ps (pairs_at n cs) ≡ Some (ending ps true rest)
      by_cases zero k = absurd (omega arith)
      by_cases (suc n) k = rw (d, e) (ap (λ v. Some (ending v true rest)) (append-nil ps))

  pub pairs_tight : strip_at (codes ">") (behind_white cs) ≡ None → strip_at (codes "/>") (behind_white cs) ≡ None → begins_white cs ≡ false → with_pairs ps (pairs_at left cs) ≡ None
  pairs_tight d e w = by_cases left h
    where
      by_cases : (n : ℕ) → 0 < n → with_pairs ps (pairs_at n cs) ≡ None
      by_cases zero k = absurd (omega arith)
      by_cases (suc n) k = rw (d, e, w) refl

  pub pairs_stop : strip_at (codes ">") (behind_white cs) ≡ None → strip_at (codes "/>") (behind_white cs) ≡ None → pair_at (behind_white cs) ≡ None → with_pairs ps (pairs_at left cs) ≡ None
  pairs_stop d e w = by_cases left h
    where
      nothing : (b : Bool) → with_pairs ps (given b >>= (λ _. None)) ≡ None
      nothing true = refl
      nothing false = refl

      by_cases : (n : ℕ) → 0 < n → with_pairs ps (pairs_at n cs) ≡ None
      by_cases zero k = absurd (omega arith)
      by_cases (suc n) k = rw (d, e, w) (nothing (begins_white cs))

  pub pairs_go : (p : Pair) (more : List ℕ) → strip_at (codes ">") (behind_white cs) ≡ None → strip_at (codes "/>") (behind_white cs) ≡ None → begins_white cs ≡ true
      → pair_at (behind_white cs) ≡ Some (p, more) → with_pairs (ps ++ p ∷ []) (pairs_at (left - 1) more) ≡ with_pairs ps (pairs_at left cs)
  pairs_go p more d e w f = by_cases left h
    where
      joined : (o : Option Ending) → with_pairs (ps ++ p ∷ []) o ≡ with_pairs ps (with_pair p o)
      joined None = refl
      joined (Some x) = ap (λ v. Some (ending v x.is_empty x.rest)) (append_assoc ps (p ∷ []) x.pairs)

      by_cases : (n : ℕ) → 0 < n → with_pairs (ps ++ p ∷ []) (pairs_at (n - 1) more) ≡ with_pairs ps (pairs_at n cs)
      by_cases zero k = absurd (omega arith)
      by_cases (suc n) k = let i : suc n - 1 ≡ n = omega arith in rw (i, d, e, w, f) (joined (pairs_at n more))

pub pairs_none : (left : ℕ) (ps : List Pair) (cs : List ℕ) → left ≡ 0 → with_pairs ps (pairs_at left cs) ≡ None
pairs_none left ps cs e = rw e refl

pub map_push : (ps : List PairRead) (p : PairRead) → map pair_of (ps ++ p ∷ []) ≡ map pair_of ps ++ pair_of p ∷ []
map_push [] p = refl
map_push (x ∷ ps) p = ap (λ v. pair_of x ∷ v) (map_push ps p)
