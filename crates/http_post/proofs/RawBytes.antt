-- How the raw bytes of a body are read on.
use Rattle.std.proofs.Common.{ℕ, List, Option, Some, None, [], ◌∷◌, ◌++◌, ◌≡◌, ◌≤◌, ◌<◌, ◌+◌, min, zero, suc, length, take, refl, sym, ap, ◌∙◌, arith, append_assoc, append-nil}
use Rattle.std.specs.Io.KnownBytes.{Consumes, IsAtEnd}
use Rattle.std.proofs.lemmas.List.{length-append, length-take, take-append-le}
use Rattle.std.proofs.lemmas.Bool.{lt-ltb, le-ltb}
use Rattle.http_post.specs.declared.refusal.HttpRefusal.TheVariants.{BadRequest, ContentTooLarge, Link, LengthRequired, MethodNotAllowed, NoMemory, UnsupportedMediaType}
use Rattle.http_post.specs.declared.refusal.HttpRefusal.{HttpRefusal}
use Rattle.http_post.specs.RawBytes.{BreaksOff, EndsBefore, IsFault, IsRaw}

pub raw_grows : (left now : Option (List ℕ)) (bytes piece raw : List ℕ) → Consumes left now piece → IsRaw left bytes raw → IsRaw now (bytes ++ piece) raw
raw_grows None now bytes piece raw h k = absurd k
raw_grows (Some a) None bytes piece raw h k = absurd h
raw_grows (Some a) (Some b) bytes piece raw h k = k ∙ ap (λ z. bytes ++ z) h ∙ sym (append_assoc bytes piece b)

pub raw_ends : (left now : Option (List ℕ)) (bytes piece raw : List ℕ) → Consumes left now piece → length piece ≡ 0 → IsAtEnd now → IsRaw left bytes raw → raw ≡ bytes
raw_ends None now bytes piece raw h z e k = absurd k
raw_ends (Some a) None bytes piece raw h z e k = absurd h
raw_ends (Some a) (Some b) bytes [] raw h z e k = k ∙ ap (λ z. bytes ++ z) (h ∙ e) ∙ append-nil bytes
raw_ends (Some a) (Some b) bytes (x ∷ xs) raw h z e k = absurd (omega (arith, z))

-- no fewer bytes come than are held
pub raw_front : (left : Option (List ℕ)) (bytes raw : List ℕ) → IsRaw left bytes raw → length bytes ≤ length raw
raw_front None bytes raw k = absurd k
raw_front (Some l) bytes raw k = omega (arith, ap length k, length-append bytes l)

-- more bytes are held than count
pub cut_long : (left : Option (List ℕ)) (bytes raw : List ℕ) → IsRaw left bytes raw → 131072 < length bytes → BreaksOff bytes raw ContentTooLarge
cut_long None bytes raw k lt = absurd k
cut_long (Some l) bytes raw k lt = record {
  is_cut = sym (rw (lt-ltb 131072 (length raw) (omega (arith, lt, raw_front (Some l) bytes raw k))) refl);
  held = ap (take 131072) k ∙ take-append-le 131072 bytes l (omega (arith, lt));
}

-- the connection ended
pub cut_short : (left : Option (List ℕ)) (bytes raw : List ℕ) → IsRaw left bytes raw → raw ≡ bytes → length bytes ≤ 131072 → BreaksOff bytes raw BadRequest
cut_short left bytes raw k same le = record {
  is_cut = sym (rw (le-ltb 131072 (length raw) (omega (arith, le, ap length same))) refl);
  held = ap (take 131072) same;
}

-- all that counts was held, and more came
pub cut_full : (left now : Option (List ℕ)) (bytes after raw : List ℕ) (n : ℕ) → IsRaw left bytes raw → IsRaw now after raw → length after ≡ length bytes + n → 0 < n
    → length bytes ≡ 131072 → BreaksOff bytes raw ContentTooLarge
cut_full None now bytes after raw n k m e lt full = absurd k
cut_full (Some l) now bytes after raw n k m e lt full = record {
  is_cut = sym (rw (lt-ltb 131072 (length raw) (omega (arith, e, lt, full, raw_front now after raw m))) refl);
  held = ap (take 131072) k ∙ take-append-le 131072 bytes l (omega (arith, full));
}

-- where the body breaks off, too few bytes counted
pub ends_before : (bytes raw : List ℕ) (r : HttpRefusal) (place : ℕ) → min (length bytes) 131072 < place → BreaksOff bytes raw r → EndsBefore place raw r
ends_before bytes raw r place lt b = record { is_cut = b.is_cut; short = omega (arith, lt, ap length b.held, length-take 131072 bytes) }

pub fault_on : (e : HttpRefusal) (P Q : HttpRefusal → Type 0) → IsFault e P → ((r : HttpRefusal) → P r → Q r) → IsFault e Q
fault_on Link P Q h k = tt
fault_on NoMemory P Q h k = tt
fault_on BadRequest P Q h k = k BadRequest h
fault_on MethodNotAllowed P Q h k = k MethodNotAllowed h
fault_on LengthRequired P Q h k = k LengthRequired h
fault_on ContentTooLarge P Q h k = k ContentTooLarge h
fault_on UnsupportedMediaType P Q h k = k UnsupportedMediaType h

pub fill_fault : (before left : Option (List ℕ)) (old bytes : List ℕ) (place : ℕ) (e : HttpRefusal)
    → ((raw : List ℕ) → IsRaw before old raw → IsRaw left bytes raw) → min (length bytes) 131072 < place
    → IsFault e (λ r. (raw : List ℕ) → IsRaw left bytes raw → BreaksOff bytes raw r) → IsFault e (λ r. (raw : List ℕ) → IsRaw before old raw → EndsBefore place raw r)
fill_fault before left old bytes place e kept lt h =
    fault_on e (λ r. (raw : List ℕ) → IsRaw left bytes raw → BreaksOff bytes raw r) (λ r. (raw : List ℕ) → IsRaw before old raw → EndsBefore place raw r) h
    (λ r b raw k. ends_before bytes raw r place lt (b raw (kept raw k)))

-- as many as there are, and no more than that
none_taken : (k : ℕ) → take {A = ℕ} k [] ≡ []
none_taken zero = refl
none_taken (suc k) = refl

pub take_least : (n : ℕ) (xs : List ℕ) → take (min (length xs) n) xs ≡ take n xs
take_least n [] = none_taken (min 0 n) ∙ sym (none_taken n)
take_least zero (x ∷ xs) =
    let nothing : min (length (x ∷ xs)) 0 ≡ 0 = omega arith in
    ap (λ k. take k (x ∷ xs)) nothing
take_least (suc n) (x ∷ xs) =
    let one : min (length (x ∷ xs)) (suc n) ≡ suc (min (length xs) n) = omega arith in
    ap (λ k. take k (x ∷ xs)) one ∙ ap (λ z. x ∷ z) (take_least n xs)

pub held_still : (old piece new : List ℕ) (n : ℕ) → new ≡ old ++ piece → length new ≡ length old + n → n ≡ 0 → take 131072 new ≡ take 131072 old
held_still old [] new n e g z = ap (take 131072) (e ∙ append-nil old)
held_still old (x ∷ xs) new n e g z = absurd (omega (arith, ap length e, length-append old (x ∷ xs), g, z))

pub held_full : (old piece new : List ℕ) → new ≡ old ++ piece → 131072 ≤ length old → take 131072 new ≡ take 131072 old
held_full old piece new e le = ap (take 131072) e ∙ take-append-le 131072 old piece le
