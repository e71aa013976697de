-- Where a text splits.
use Rattle.std.proofs.Common.{ℕ, List, [], ◌∷◌, ◌++◌, ◌≡◌, ◌<◌, suc, length, get_or, false, Bor, Option, Some, None, sym, ap, ◌∙◌, arith, refl}
use Rattle.std.specs.Prelude.{nat_eq, ◌≢◌}
use Rattle.std.proofs.lemmas.Bool.{ne_eqb}
use Rattle.std.proofs.lemmas.Str.Pattern.{IsSplitOnceResult, split_parts}
use Rattle.http_post.specs.Requests.{without_query}

-- no byte of the list is this one
abbrev pub Lacks : ℕ → List ℕ → Type 0
Lacks c bytes = (i : ℕ) → i < length bytes → get_or bytes i 0 ≢ c

lacks_head : (c b : ℕ) (bytes : List ℕ) → Lacks c (b ∷ bytes) → nat_eq b c ≡ false
lacks_head c b bytes h = ne_eqb b c (h 0 (omega arith))

lacks_tail : (c b : ℕ) (bytes : List ℕ) → Lacks c (b ∷ bytes) → Lacks c bytes
lacks_tail c b bytes h = λ i l. h (suc i) (omega arith)

pub query_none : (path : List ℕ) → Lacks 63 path → without_query path ≡ path
query_none [] h = refl
query_none (b ∷ path) h = rw (lacks_head 63 b path h, query_none path (lacks_tail 63 b path h)) refl

pub query_first : (front back : List ℕ) → Lacks 63 front → without_query (front ++ 63 ∷ back) ≡ front
query_first [] back h = refl
query_first (b ∷ front) back h =
    rw (lacks_head 63 b front h, query_first front back (lacks_tail 63 b front h)) refl

abbrev pub first_or : List ℕ → Option (Bor (List ℕ) × Bor (List ℕ)) → List ℕ
first_or path None = path
first_or path (Some parts) = parts.0.now

pub first_part : (path : List ℕ) (r : Option (Bor (List ℕ) × Bor (List ℕ))) → IsSplitOnceResult 63 path r
    → first_or path r ≡ without_query path
first_part path None h = sym (query_none path (split_parts 63 path None h (omega arith)))
first_part path (Some parts) h =
    let (whole, free) = split_parts 63 path (Some parts) h (omega arith) in
    sym (ap without_query whole ∙ query_first parts.0.now parts.1.now free)
