-- Texts and their ends.
use Rattle.std.proofs.Common.{ℕ, List, [], ◌∷◌, ◌++◌, ◌+◌, ◌-◌, ◌≡◌, ◌<◌, ◌≤◌, ◌&&◌, Bool, true, false, Some, None, refl, ap, sym, ◌∙◌, zero, suc, length, take, drop, arith, nat_eq, if◌then◌else◌, length-append}
use Rattle.std.specs.Prelude.{bytes_eq, slice_index_or}
use Rattle.std.proofs.Math.Bool.{and_assoc, and-true}
use Rattle.std.proofs.Math.Seq.{take-append_seam}
use Rattle.std.proofs.lemmas.List.{take-append-drop}
use Rattle.std.proofs.lemmas.Slice.Eq.{bytes_eq-Decides}
use Rattle.hex.proofs.HexLemmas.{length-encode_with}
use Rattle.hex.specs.Hex.{lower_digits}
use Rattle.sha2.proofs.Facts256.{length-sha256}
use Rattle.address_seals.specs.Seals.{end_of, front_of, hmac, opened, sealed}

-- one byte more
pub same_by_one : (n : ℕ) (a b : List ℕ) → n < length a → n < length b
    → bytes_eq (take (suc n) a) (take (suc n) b) ≡ bytes_eq (take n a) (take n b) && nat_eq (slice_index_or a n 0) (slice_index_or b n 0)
same_by_one zero [] b h k = absurd (omega (arith, h))
same_by_one zero (x ∷ xs) [] h k = absurd (omega (arith, k))
same_by_one (suc n) [] b h k = absurd (omega (arith, h))
same_by_one (suc n) (x ∷ xs) [] h k = absurd (omega (arith, k))
same_by_one zero (x ∷ xs) (y ∷ ys) h k = and-true (nat_eq x y)
same_by_one (suc n) (x ∷ xs) (y ∷ ys) h k =
    ap (λ rest. nat_eq x y && rest) (same_by_one n xs ys (omega (arith, h)) (omega (arith, k)))
    ∙ sym (and_assoc (nat_eq x y) (bytes_eq (take n xs) (take n ys)) (nat_eq (slice_index_or xs n 0) (slice_index_or ys n 0)))

pub same_by_next : (n : ℕ) (a b : List ℕ) → n < length a → n < length b
    → bytes_eq (take (n + 1) a) (take (n + 1) b) ≡ bytes_eq (take n a) (take n b) && nat_eq (slice_index_or a n 0) (slice_index_or b n 0)
same_by_next n a b h k =
    let next : n + 1 ≡ suc n = omega arith in
    ap (λ m. bytes_eq (take m a) (take m b)) next ∙ same_by_one n a b h k

pub same_as_itself : (n : ℕ) → nat_eq n n ≡ true
same_as_itself n = sym (and-true (nat_eq n n)) ∙ (bytes_eq-Decides (n ∷ []) (n ∷ [])).1 refl

-- behind what they have in common texts are the same where their ends are
pub same_ends : (front a b : List ℕ) → bytes_eq (front ++ a) (front ++ b) ≡ bytes_eq a b
same_ends [] a b = refl
same_ends (x ∷ xs) a b = ap (λ same. same && bytes_eq (xs ++ a) (xs ++ b)) (same_as_itself x) ∙ same_ends xs a b

pub length_hmac : (key text : List ℕ) → length (hmac key text) ≡ 32
unfolding hmac
length_hmac key text = length-sha256 _

pub length_take : {A : Type 0} (n : ℕ) (xs : List A) → n ≤ length xs → length (take n xs) ≡ n
length_take zero xs h = refl
length_take (suc n) (x ∷ xs) h = ap (λ k. suc k) (length_take n xs (omega (arith, h)))
length_take (suc n) [] h = omega (arith, h)

pub length_end : (secret path : List ℕ) → length (end_of secret path) ≡ 33
length_end secret path =
    let whole = length_hmac secret path in
    let digits = length-encode_with lower_digits (take 16 (hmac secret path)) in
    let bytes = length_take 16 (hmac secret path) (omega (arith, whole)) in
    omega (arith, digits, bytes)

pub front_is : (path end : List ℕ) → length end ≡ 33 → front_of (path ++ end) ≡ path
front_is path end h =
    let sum = length-append path end in
    let same : length (path ++ end) - 33 ≡ length path = omega (arith, sum, h) in
    ap (λ n. take n (path ++ end)) same ∙ take-append_seam path end

-- what is answered of a text in two parts
pub judged : (secret path end : List ℕ) → length end ≡ 33 → (if bytes_eq end (end_of secret path) then Some path else None) ≡ opened secret (path ++ end)
judged secret path end h =
    ap (λ same. if same then Some path else None) (sym (same_ends path end (end_of secret path)))
    ∙ sym (ap (λ front. if bytes_eq (path ++ end) (sealed secret front) then Some front else None) (front_is path end h))

pub opens : (secret path : List ℕ) → opened secret (sealed secret path) ≡ Some path
opens secret path =
    sym (judged secret path (end_of secret path) (length_end secret path))
    ∙ ap (λ same. if same then Some path else None) ((bytes_eq-Decides (end_of secret path) (end_of secret path)).1 refl)

pub is_none : (same : Bool) (front : List ℕ) → same ≡ false → (if same then Some front else None) ≡ None
is_none same front h = ap (λ b. if b then Some front else None) h

pub isnt_sealed : (secret text : List ℕ) (same : Bool) → length text < 33 → (same ≡ true → text ≡ sealed secret (front_of text)) → same ≡ false
isnt_sealed secret text false h k = refl
isnt_sealed secret text true h k =
    let is = k refl in
    let long = length-append (front_of text) (end_of secret (front_of text)) in
    let ends = length_end secret (front_of text) in
    let same = ap (λ t. length t) is in
    absurd (omega (arith, long, ends, same, h))

-- a text that is too short is none
pub short : (secret text : List ℕ) → length text < 33 → opened secret text ≡ None
short secret text h =
    is_none (bytes_eq text (sealed secret (front_of text))) (front_of text)
    (isnt_sealed secret text (bytes_eq text (sealed secret (front_of text))) h ((bytes_eq-Decides text (sealed secret (front_of text))).0))

-- the same in the words of the code
pub answered : (secret text path end digits : List ℕ) (same : Bool) → (33 ≤ length text) → path ≡ take (length text - 33) text → end ≡ drop (length text - 33) text
    → digits ≡ end_of secret path → same ≡ bytes_eq end digits → opened secret text ≡ (if same then Some path else None)
answered secret text path end digits same long front back is told =
    let cut : path ++ end ≡ text = ap (λ p. p ++ end) front ∙ ap (λ e. take (length text - 33) text ++ e) back ∙ take-append-drop (length text - 33) text in
    let parts = length-append path end in
    let all = ap (λ t. length t) cut in
    let first = ap (λ t. length t) front in
    let head = length_take (length text - 33) text (omega (arith, long)) in
    let size : length end ≡ 33 = omega (arith, parts, all, first, head, long) in
    ap (λ t. opened secret t) (sym cut) ∙ sym (judged secret path end size)
    ∙ sym (ap (λ same. if same then Some path else None) (told ∙ ap (λ d. bytes_eq end d) is))
