-- What is known of a head as pieces come.
use Rattle.std.proofs.Common.{ℕ, List, Option, Some, None, [], ◌++◌, ◌≡◌, ◌≤◌, ◌-◌, ◌⊎◌, inl, inr, length, take, drop, refl, sym, subst, ap, ◌∙◌, arith, append_assoc, append-nil}
use Rattle.std.proofs.lemmas.List.{length-append, length-take, take_all}
use Rattle.std.proofs.Math.Seq.{take-append-add}
use Rattle.std.specs.Prelude.{IfSome}
use Rattle.std.specs.Io.KnownBytes.{Consumes, IsAtEnd}
use Rattle.httparse.specs.Grammar.{HasNoRequest, ReadsRequest}
use Rattle.httparse.specs.Spans.{IsRequestOf, IsRequestWithin}
use Rattle.httparse.specs.declared.spans.HeaderSpan.{HeaderSpan}
use Rattle.httparse.specs.declared.spans.RequestSpans.{RequestSpans}
use Rattle.httparse.proofs.GrammarLemmas.{ReadsRequest-append}
use Rattle.http_post.specs.PartialHeads.{HasNoHead, HoldsHead, IsPiece, NeverHasHead}

pub nothing_yet : (left : Option (List ℕ)) → Consumes left left []
nothing_yet None = tt
nothing_yet (Some xs) = refl

joined : (a b c : Option (List ℕ)) (xs ys : List ℕ) → Consumes a b xs → Consumes b c ys → Consumes a c (xs ++ ys)
joined None b c xs ys h k = tt
joined (Some a) None c xs ys h k = absurd h
joined (Some a) (Some b) None xs ys h k = absurd k
joined (Some a) (Some b) (Some c) xs ys h k = h ∙ ap (λ z. xs ++ z) k ∙ sym (append_assoc xs ys c)

pub grown : (a b c : Option (List ℕ)) (before after : List ℕ) (n : ℕ) → Consumes a b before → IsPiece b c before after n → Consumes a c after
grown a b c before after n h p = subst (Consumes a c) (sym p.behind) (joined a b c before p.piece h p.taken)

-- the first n of xs and what follows, where xs isn't longer
pub front : (n : ℕ) (xs ys : List ℕ) → length xs ≤ n → take n (xs ++ ys) ≡ xs ++ take (n - length xs) ys
front n xs ys le = ap (λ k. take k (xs ++ ys)) (omega (arith, le)) ∙ take-append-add xs ys (n - length xs)

pub holds : (left now : Option (List ℕ)) (bytes : List ℕ) (places : List HeaderSpan) (spans : RequestSpans) → Consumes left now bytes → length bytes ≤ 8192
    → IsRequestOf bytes places spans × IsRequestWithin bytes places spans → HoldsHead left bytes places spans
holds left now bytes places spans taken fits (is, within) =
    record { head = is.0; at = is.1; within = within; fits = fits; begins = begins left now taken }
  where
    begins : (left now : Option (List ℕ)) → Consumes left now bytes → IfSome left (λ input. (rest : List ℕ) × ReadsRequest (take 8192 input) is.0 rest)
    begins None now h = tt
    begins (Some input) None h = absurd h
    begins (Some input) (Some more) h =
        let e : take 8192 input ≡ bytes ++ take (8192 - length bytes) more = ap (take 8192) h ∙ front 8192 bytes more fits in (
          drop spans.len bytes ++ take (8192 - length bytes) more,
          subst (λ z. ReadsRequest z is.0 (drop spans.len bytes ++ take (8192 - length bytes) more)) (sym e)
              (ReadsRequest-append bytes is.0 (drop spans.len bytes) (take (8192 - length bytes) more) is.1.reads),
        )

pub none_at_most : (left now : Option (List ℕ)) (bytes : List ℕ) → Consumes left now bytes → length bytes ≡ 8192 → HasNoRequest bytes → HasNoHead left
none_at_most None now bytes h full none = tt
none_at_most (Some input) None bytes h full none = absurd h
none_at_most (Some input) (Some more) bytes h full none =
    let none_left : 8192 - length bytes ≡ 0 = omega (arith, full) in
    let fits : length bytes ≤ 8192 = omega (arith, full) in
    let e : take 8192 input ≡ bytes ++ [] = ap (take 8192) h ∙ front 8192 bytes more fits ∙ ap (λ k. bytes ++ take k more) none_left in
    subst HasNoRequest (sym (e ∙ append-nil bytes)) none

pub none_at_end : (left now : Option (List ℕ)) (bytes : List ℕ) → Consumes left now bytes → length bytes ≤ 8192 → IsAtEnd now → HasNoRequest bytes → HasNoHead left
none_at_end None now bytes h fits end none = tt
none_at_end (Some input) None bytes h fits end none = absurd h
none_at_end (Some input) (Some more) bytes h fits end none =
    let all : input ≡ bytes = h ∙ ap (λ z. bytes ++ z) end ∙ append-nil bytes in
    let e : take 8192 input ≡ bytes = ap (take 8192) all ∙ take_all 8192 bytes fits in
    subst HasNoRequest (sym e) none

pub never : (left now : Option (List ℕ)) (bytes : List ℕ) → Consumes left now bytes → length bytes ≤ 8192 → NeverHasHead bytes → HasNoHead left
never None now bytes h fits bad = tt
never (Some input) None bytes h fits bad = absurd h
never (Some input) (Some more) bytes h fits bad =
    let e : take 8192 input ≡ bytes ++ take (8192 - length bytes) more = ap (take 8192) h ∙ front 8192 bytes more fits in
    let short : length (bytes ++ take (8192 - length bytes) more) ≤ 8192 =
    omega (arith, length-append bytes (take (8192 - length bytes) more), length-take (8192 - length bytes) more, fits) in
    subst HasNoRequest (sym e) (bad (take (8192 - length bytes) more) short)

-- one piece more
pub held : (left mid now : Option (List ℕ)) (before after seen : List ℕ) (n : ℕ) (places : List HeaderSpan) (spans : RequestSpans) → Consumes left mid before → IsPiece mid now before after n
    → seen ≡ after → IsRequestOf seen places spans × IsRequestWithin seen places spans → HoldsHead left after places spans
held left mid now before after seen n places spans h p same is =
    holds left now after places spans (grown left mid now before after n h p) p.fits
    (subst (λ z. IsRequestOf z places spans × IsRequestWithin z places spans) same is)

pub never_held : (left mid now : Option (List ℕ)) (before after seen : List ℕ) (n : ℕ) → Consumes left mid before → IsPiece mid now before after n → seen ≡ after → NeverHasHead seen → HasNoHead left
never_held left mid now before after seen n h p same bad = never left now after (grown left mid now before after n h p) p.fits (subst NeverHasHead same bad)

-- no more is wanted: the connection ended, or the limit is reached
pub none_held : (left mid now : Option (List ℕ)) (before after : List ℕ) (n : ℕ) → Consumes left mid before → IsPiece mid now before after n → (n ≡ 0) ⊎ (8192 ≤ length after) → HasNoRequest after → HasNoHead left
none_held left mid now before after n h p (inl end) none = none_at_end left now after (grown left mid now before after n h p) p.fits (p.end end) none
none_held left mid now before after n h p (inr full) none =
    none_at_most left now after (grown left mid now before after n h p) (omega (arith, full, p.fits)) none

pub not_shorter : (left now : Option (List ℕ)) (before after : List ℕ) (n : ℕ) → IsPiece left now before after n → length before ≤ length after
not_shorter left now before after n p = omega (arith, ap length p.behind, length-append before p.piece)

-- whatever might follow, nothing does
pub none_now : (bytes : List ℕ) → length bytes ≤ 8192 → NeverHasHead bytes → HasNoRequest bytes
none_now bytes fits never =
    let same : bytes ++ [] ≡ bytes = append-nil bytes in
    subst HasNoRequest same (never [] (omega (arith, ap length same, fits)))
