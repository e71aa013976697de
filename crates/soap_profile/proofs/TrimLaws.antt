-- Trimming one end of a text at a time.
use Rattle.std.proofs.Common.{◌≡◌, ℕ, ◌+◌, ◌-◌, ◌<◌, List, [], ◌∷◌, ◌++◌, true, false, Some, length, take, drop, get_or, refl, arith, ◌∙◌, sym, ap}
use Rattle.std.specs.List.{slice_get}
use Rattle.std.specs.Str.{IsUtf8, IsCharBoundary}
use Rattle.std.proofs.lemmas.List.{take_more}
use Rattle.std.proofs.lemmas.Option.{slice_get_within, get_or_from_slice_get}
use Rattle.std.proofs.lemmas.Str.{IsCharBoundary-after_ascii}
use Rattle.std.proofs.Math.Seq.{take-length}
use Rattle.soap_profile.specs.Values.{is_white, trim_start, trim_end}

pub white_start : (s : List ℕ) → 0 < length s → is_white (get_or s 0 0) ≡ true → trim_start (drop 1 s) ≡ trim_start s
white_start [] h w = absurd (omega arith)
white_start (c ∷ cs) h w = grind (arith)

pub word_start : (s : List ℕ) → is_white (get_or s 0 0) ≡ false → trim_start s ≡ s
word_start [] w = refl
word_start (c ∷ cs) w = grind (arith)

white_ascii : (c : ℕ) → is_white c ≡ true → c < 128
white_ascii c w = grind (arith)

pub white_boundary : (s : List ℕ) (x : ℕ) → IsUtf8 s → slice_get s 0 ≡ Some x → is_white x ≡ true → IsCharBoundary s 1
white_boundary s x u h w =
    let within : 0 < length s = slice_get_within s 0 x h in
    let same : get_or s 0 0 ≡ x = get_or_from_slice_get s 0 x 0 h in
    let small : x < 128 = white_ascii x w in
    IsCharBoundary-after_ascii s 0 u within (omega arith)

white_behind : (s : List ℕ) (c : ℕ) → is_white c ≡ true → trim_end (s ++ c ∷ []) ≡ trim_end s
white_behind [] c w = grind (arith)
white_behind (d ∷ s) c w = rw (white_behind s c w) refl

word_behind : (s : List ℕ) (c : ℕ) → is_white c ≡ false → trim_end (s ++ c ∷ []) ≡ s ++ c ∷ []
word_behind [] c w = grind (arith)
word_behind (d ∷ []) c w = grind (arith)
word_behind (d ∷ e ∷ s) c w = rw (word_behind (e ∷ s) c w) (grind (arith))

split_last : (s : List ℕ) (x : ℕ) → slice_get s (length s - 1) ≡ Some x → s ≡ take (length s - 1) s ++ x ∷ []
split_last s x h =
    let within : length s - 1 < length s = slice_get_within s (length s - 1) x h in
    let same : get_or s (length s - 1) x ≡ x = get_or_from_slice_get s (length s - 1) x x h in
    let more : take (length s - 1 + 1) s ≡ take (length s - 1) s ++ get_or s (length s - 1) x ∷ [] = take_more s (length s - 1) x within in
    let count : length s - 1 + 1 ≡ length s = omega arith in
    let whole : take (length s) s ≡ s = take-length s in
    cc

pub white_last : (s : List ℕ) (x : ℕ) → slice_get s (length s - 1) ≡ Some x → is_white x ≡ true → trim_end (take (length s - 1) s) ≡ trim_end s
white_last s x h w =
    let split : s ≡ take (length s - 1) s ++ x ∷ [] = split_last s x h in
    sym (ap trim_end split ∙ white_behind (take (length s - 1) s) x w)

pub word_last : (s : List ℕ) (x : ℕ) → slice_get s (length s - 1) ≡ Some x → is_white x ≡ false → trim_end s ≡ s
word_last s x h w =
    let split : s ≡ take (length s - 1) s ++ x ∷ [] = split_last s x h in
    ap trim_end split ∙ (word_behind (take (length s - 1) s) x w ∙ sym split)
