-- The paths of a node's items are lists of segments (URL Standard, section 4.1).
use Rattle.std.proofs.Common.{◌≡◌, ℕ, ◌+◌, ◌-◌, ◌*◌, ◌^◌, ◌<◌, ◌≤◌, ◌⊎◌, inl, inr, Bool, true, false, cond, not, ◌&&◌, ◌==◌, List, [], ◌∷◌, ◌++◌, length, take, drop, Option, Some, None, All, refl, sym, ap, subst, ◌∙◌, arith, take-append-drop, append_assoc, length-append}
use Rattle.std.specs.Prelude.{codes, decimal, nat_eq, nat_le, nat_lt}
use Rattle.std.specs.List.{list_all}
use Rattle.std.specs.Option.{option_and_then, option_map}
use Rattle.std.specs.Str.{bytes_eq}
use Rattle.std.proofs.lemmas.Bool.{and_parts, eqb-true, leb-true, ltb-true}
use Rattle.std.proofs.lemmas.List.Elements.{All-append, All-cons, All-head, All-nil, All-weaker}
use Rattle.std.proofs.lemmas.Slice.Eq.{bytes_eq-Decides}
use Rattle.percent_encoding.specs.AsciiSet.{contains}
use Rattle.percent_encoding.specs.Percent.{IsKept}
use Rattle.percent_encoding.proofs.AsciiSetLemmas.{kept_from_outside}
use Rattle.url.specs.declared.scheme.SchemeType.TheVariants.{SpecialNotFile}
use Rattle.url.specs.declared.sets.TheConstants.{PATH}
use Rattle.url.specs.Path.{IsSegment, IsSegmentList, dot_count, dot_len}
use Rattle.url.specs.Scheme.{is_slash}
use Rattle.url.proofs.PathLemmas.{no_segments, push_valid}
use Rattle.url.proofs.SetLemmas.{checked}
use Rattle.at_base.specs.IdText.{hyphen}
use Rattle.at_base.specs.Numbers.{Numbers}
use Rattle.at_base.specs.declared.notice.Kind.{Kind}
use Rattle.at_base.specs.declared.notice.Kind.TheVariants as kinds
use Rattle.at_base.specs.declared.target.Target.{Target}
use Rattle.at_base.specs.declared.target.Target.TheVariants as targets
use Rattle.endpoints.specs.Addresses.{after_prefix, behind, digits_value, id_of, number_of, or_else, seat_of, slash, split_at, target_of}

-- a byte of ASCII that stands for itself in a path, and no dot
abbrev pub is_plain : ℕ → Bool
is_plain b = nat_lt b 128 && (not (contains PATH b) && (not (is_slash SpecialNotFile b) && (not (b == 46) && not (b == 37))))

abbrev pub IsPlain : ℕ → Type 0
IsPlain b = is_plain b ≡ true

not_true : (x : Bool) → not x ≡ true → x ≡ false
not_true false e = refl
not_true true e = sym e

pub digit_plain : (b : ℕ) → 48 ≤ b → b ≤ 57 → IsPlain b
digit_plain b least most =
    let there : 48 + (b - 48) ≡ b = omega arith in
    subst IsPlain there (checked (λ k. is_plain (48 + k)) 10 refl (b - 48) (omega arith))

-- what such a byte is
record IsKind (b : ℕ) : Type 0 where
  pub low : b < 128
  pub outside : contains PATH b ≡ false
  pub whole : is_slash SpecialNotFile b ≡ false
  pub visible : (b == 46) ≡ false
  pub escaped : (b == 37) ≡ false

kind_of_plain : (b : ℕ) → IsPlain b → IsKind b
kind_of_plain b h =
    let (low, kept) = and_parts (nat_lt b 128) (not (contains PATH b) && (not (is_slash SpecialNotFile b) && (not (b == 46) && not (b == 37)))) h in
    let (outside, more) = and_parts (not (contains PATH b)) (not (is_slash SpecialNotFile b) && (not (b == 46) && not (b == 37))) kept in
    let (whole, rest) = and_parts (not (is_slash SpecialNotFile b)) (not (b == 46) && not (b == 37)) more in
    let (dot, percent) = and_parts (not (b == 46)) (not (b == 37)) rest in
    record {
      low = ltb-true b 128 low;
      outside = not_true (contains PATH b) outside;
      whole = not_true (is_slash SpecialNotFile b) whole;
      visible = not_true (b == 46) dot;
      escaped = not_true (b == 37) percent;
    }

no_dots : (s : List ℕ) → dot_len s ≡ 0 → dot_count s ≡ 0
unfolding dot_count
no_dots s none = rw none refl

plain_dot : (b : ℕ) (bs : List ℕ) → IsKind b → dot_len (b ∷ bs) ≡ 0
plain_dot b bs h = rw (h.visible, h.escaped) refl

undotted : (s : List ℕ) → All IsPlain s → dot_len s ≡ 0
undotted [] h = refl
undotted (b ∷ bs) h = plain_dot b bs (kind_of_plain b (All-head IsPlain b bs h))

plain_kept : (b : ℕ) → IsPlain b → IsKept PATH b
plain_kept b h = let k : IsKind b = kind_of_plain b h in kept_from_outside PATH b k.low k.outside

segment : (s : List ℕ) → All IsPlain s → IsSegment SpecialNotFile s
segment s h = record {
  escaped = All-weaker IsPlain (IsKept PATH) plain_kept s h;
  whole = All-weaker IsPlain (λ b. is_slash SpecialNotFile b ≡ false) (λ b k. (kind_of_plain b k).whole) s h;
  resolved = no_dots s (undotted s h);
}

-- a text of such bytes, found by looking at each
plain_text : (s : List ℕ) → list_all is_plain s ≡ true → All IsPlain s
plain_text [] h = All-nil IsPlain
plain_text (b ∷ bs) h = let (here, later) = and_parts (is_plain b) (list_all is_plain bs) h in All-cons IsPlain b bs here (plain_text bs later)

pub pushed : (path s : List ℕ) → IsSegmentList SpecialNotFile path → All IsPlain s → IsSegmentList SpecialNotFile (path ++ slash ∷ s)
pushed path s list h = push_valid SpecialNotFile path s list (segment s h)

word : (s : List ℕ) → list_all is_plain s ≡ true → IsSegmentList SpecialNotFile (slash ∷ s)
word s h = pushed [] s (no_segments SpecialNotFile) (plain_text s h)

-- numbers and ids

digits_plain : (bytes : List ℕ) (n m : ℕ) → digits_value n bytes ≡ Some m → All IsPlain bytes
digits_plain [] n m e = All-nil IsPlain
digits_plain (b ∷ bytes) n m e = by_digit (digits_plain bytes (n * 10 + (b - 48)) m) (nat_le 48 b && nat_le b 57) refl e
  where
    by_digit : (digits_value (n * 10 + (b - 48)) bytes ≡ Some m → All IsPlain bytes) → (t : Bool) → (nat_le 48 b && nat_le b 57) ≡ t → cond t (digits_value (n * 10 + (b - 48)) bytes) None ≡ Some m → All IsPlain (b ∷ bytes)
    by_digit later false t h = absurd cc
    by_digit later true t h =
        let (least, most) = and_parts (nat_le 48 b) (nat_le b 57) t in
        All-cons IsPlain b bytes (digit_plain b (leb-true 48 b least) (leb-true b 57 most)) (later h)

number_plain : (bound : ℕ) (bytes : List ℕ) (n : ℕ) → number_of bound bytes ≡ Some n → All IsPlain bytes
number_plain bound bytes n e = by_value (digits_value 0 bytes) refl e
  where
    by_value : (o : Option ℕ) → digits_value 0 bytes ≡ o → option_and_then (λ m. cond (nat_lt 0 m && nat_lt m bound && bytes_eq (decimal m) bytes) (Some m) None) o ≡ Some n → All IsPlain bytes
    by_value None v h = absurd cc
    by_value (Some m) v h = digits_plain bytes 0 m v

split_whole : (c : ℕ) (bytes : List ℕ) (p : List ℕ × List ℕ) → split_at c bytes ≡ Some p → bytes ≡ p.0 ++ c ∷ p.1
split_whole c [] p e = absurd cc
split_whole c (b ∷ bytes) p e = by_byte (split_whole c bytes) (nat_eq b c) (split_at c bytes) refl refl e
  where
    by_byte : ((q : List ℕ × List ℕ) → split_at c bytes ≡ Some q → bytes ≡ q.0 ++ c ∷ q.1) → (t : Bool) (o : Option (List ℕ × List ℕ)) → nat_eq b c ≡ t → split_at c bytes ≡ o
        → cond t (Some ([], bytes)) (option_map (λ q. (b ∷ q.0, q.1)) o) ≡ Some p → b ∷ bytes ≡ p.0 ++ c ∷ p.1
    by_byte later true o t f h =
        let q : List ℕ × List ℕ = ([], bytes) in
        let same : q ≡ p = cc in
        subst (λ (r : List ℕ × List ℕ). b ∷ bytes ≡ r.0 ++ c ∷ r.1) same (ap (λ (x : ℕ). x ∷ bytes) (eqb-true b c t))
    by_byte later false None t f h = absurd cc
    by_byte later false (Some q) t f h =
        let r : List ℕ × List ℕ = (b ∷ q.0, q.1) in
        let same : r ≡ p = cc in
        subst (λ (s : List ℕ × List ℕ). b ∷ bytes ≡ s.0 ++ c ∷ s.1) same (ap (λ (l : List ℕ). b ∷ l) (later q f))

-- a step that gives something was given something
both : {A B : Type 0} (o : Option A) (next : A → Option B) (b : B) → option_and_then next o ≡ Some b → (a : A) × (o ≡ Some a) × (next a ≡ Some b)
both None next b e = absurd cc
both (Some a) next b e = (a, refl, e)

mapped : {A B : Type 0} (o : Option A) (make : A → B) (b : B) → option_map make o ≡ Some b → (a : A) × (o ≡ Some a)
mapped None make b e = absurd cc
mapped (Some a) make b e = (a, refl)

id_plain : (bytes : List ℕ) (id : Numbers) → id_of bytes ≡ Some id → All IsPlain bytes
id_plain bytes id e =
    let (p, split, numbers) = both (split_at hyphen bytes) (λ p. option_and_then (λ i. option_map (λ c. record { incarnation = i; counter = c }) (number_of (2 ^ 32) p.1)) (number_of (2 ^ 32) p.0)) id e in
    let (i, first, second) = both (number_of (2 ^ 32) p.0) (λ i. option_map (λ c. record { incarnation = i; counter = c }) (number_of (2 ^ 32) p.1)) id numbers in
    let (c, last) = mapped (number_of (2 ^ 32) p.1) (λ c. record { incarnation = i; counter = c }) id second in
    subst (All IsPlain) (sym (split_whole hyphen bytes p split))
    (All-append IsPlain p.0 (hyphen ∷ p.1) (number_plain (2 ^ 32) p.0 i first) (All-cons IsPlain hyphen p.1 refl (number_plain (2 ^ 32) p.1 c last)))

-- what stands behind a list of segments, after a slash: an id, or an id and a number
id_path : {A : Type 0} (path rest : List ℕ) (make : Numbers → A) (a : A) → IsSegmentList SpecialNotFile path → option_map make (id_of rest) ≡ Some a
    → IsSegmentList SpecialNotFile (path ++ slash ∷ rest)
id_path path rest make a list e = let (id, named) = mapped (id_of rest) make a e in pushed path rest list (id_plain rest id named)

seat_path : (path rest : List ℕ) (kind : Kind) (target : Target) → IsSegmentList SpecialNotFile path → seat_of kind rest ≡ Some target
    → IsSegmentList SpecialNotFile (path ++ slash ∷ rest)
seat_path path rest kind target list e =
    let (p, split, named) = both (split_at slash rest) (λ p. option_and_then (λ id. option_map (λ n. targets.Coordinator id (record { number = n; kind = kind })) (number_of (2 ^ 16) p.1)) (id_of p.0)) target e in
    let (id, front, back) = both (id_of p.0) (λ id. option_map (λ n. targets.Coordinator id (record { number = n; kind = kind })) (number_of (2 ^ 16) p.1)) target named in
    let (n, last) = mapped (number_of (2 ^ 16) p.1) (λ n. targets.Coordinator id (record { number = n; kind = kind })) target back in
    let whole : path ++ slash ∷ rest ≡ (path ++ slash ∷ p.0) ++ slash ∷ p.1 =
    ap (λ (r : List ℕ). path ++ slash ∷ r) (split_whole slash rest p split) ∙ sym (append_assoc path (slash ∷ p.0) (slash ∷ p.1)) in
    subst (IsSegmentList SpecialNotFile) (sym whole)
    (pushed (path ++ slash ∷ p.0) p.1 (pushed path p.0 list (id_plain p.0 id front)) (number_plain (2 ^ 16) p.1 n last))

pub behind_prefix : (prefix bytes rest : List ℕ) → after_prefix prefix bytes ≡ Some rest → bytes ≡ prefix ++ rest
behind_prefix prefix bytes rest e = by_test (bytes_eq (take (length prefix) bytes) prefix) refl e
  where
    by_test : (b : Bool) → bytes_eq (take (length prefix) bytes) prefix ≡ b → cond b (Some (drop (length prefix) bytes)) None ≡ Some rest → bytes ≡ prefix ++ rest
    by_test false t h = absurd cc
    by_test true t h =
        let front : take (length prefix) bytes ≡ prefix = (bytes_eq-Decides (take (length prefix) bytes) prefix).0 t in
        let back : drop (length prefix) bytes ≡ rest = cc in
        sym (take-append-drop (length prefix) bytes) ∙ (λ i. front i ++ back i)

-- a path that names something is a list of segments, and isn't empty
pub record IsPath (path : List ℕ) : Type 0 where
  pub segments : IsSegmentList SpecialNotFile path
  pub some : 0 < length path

either : {A : Type 0} (first other : Option A) (a : A) → or_else first other ≡ Some a → (first ≡ Some a) ⊎ (other ≡ Some a)
either None other a e = inr e
either (Some b) other a e = inl e

-- one that goes on behind a list of segments and a slash
goes_on : (front path : List ℕ) (name : List ℕ → Option Target) (target : Target) → IsSegmentList SpecialNotFile front
    → ((rest : List ℕ) → IsSegmentList SpecialNotFile front → name rest ≡ Some target → IsSegmentList SpecialNotFile (front ++ slash ∷ rest))
    → behind (front ++ slash ∷ []) name path ≡ Some target → IsPath path
goes_on front path name target list more e =
    let (rest, after, named) = both (after_prefix (front ++ slash ∷ []) path) name target e in
    let whole : path ≡ front ++ slash ∷ rest = behind_prefix (front ++ slash ∷ []) path rest after ∙ append_assoc front (slash ∷ []) rest in
    subst IsPath (sym whole) (record { segments = more rest list named; some = omega (arith, length-append front (slash ∷ rest)) })

module _ (path : List ℕ) (target : Target) where
  ids : (front : List ℕ) (make : Numbers → Target) → IsSegmentList SpecialNotFile front
      → behind (front ++ slash ∷ []) (λ r. option_map make (id_of r)) path ≡ Some target → IsPath path
  ids front make list h = goes_on front path (λ r. option_map make (id_of r)) target list (λ rest l named. id_path front rest make target l named) h

  seats : (front : List ℕ) (kind : Kind) → IsSegmentList SpecialNotFile front → behind (front ++ slash ∷ []) (seat_of kind) path ≡ Some target → IsPath path
  seats front kind list h = goes_on front path (seat_of kind) target list (λ rest l named. seat_path front rest kind target l named) h

  under : (s : List ℕ) (letter : List ℕ) → list_all is_plain s ≡ true → list_all is_plain letter ≡ true → IsSegmentList SpecialNotFile ((slash ∷ s) ++ slash ∷ letter)
  under s letter h k = pushed (slash ∷ s) letter (word s h) (plain_text letter k)

  participants : or_else (behind (codes "/p/d/") (λ r. option_map (λ id. targets.Participant id kinds.Durable) (id_of r)) path)
      (behind (codes "/p/v/") (λ r. option_map (λ id. targets.Participant id kinds.Volatile) (id_of r)) path) ≡ Some target → IsPath path
  participants e = elim (either _ _ target e) [
    | inl h ↦ ids (codes "/p/d") (λ id. targets.Participant id kinds.Durable) (under (codes "p") (codes "d") refl refl) h
    | inr h ↦ ids (codes "/p/v") (λ id. targets.Participant id kinds.Volatile) (under (codes "p") (codes "v") refl refl) h
  ]

  parties : or_else (behind (codes "/c/d/") (seat_of kinds.Durable) path)
      (or_else (behind (codes "/c/v/") (seat_of kinds.Volatile) path)
      (or_else (behind (codes "/p/d/") (λ r. option_map (λ id. targets.Participant id kinds.Durable) (id_of r)) path)
      (behind (codes "/p/v/") (λ r. option_map (λ id. targets.Participant id kinds.Volatile) (id_of r)) path))) ≡ Some target → IsPath path
  parties e = elim (either _ _ target e) [
    | inl h ↦ seats (codes "/c/d") kinds.Durable (under (codes "c") (codes "d") refl refl) h
    | inr h ↦ elim (either _ _ target h) [
      | inl k ↦ seats (codes "/c/v") kinds.Volatile (under (codes "c") (codes "v") refl refl) k
      | inr k ↦ participants k
    ]
  ]

  service : (s : List ℕ) (t : Bool) (rest : Option Target) (own : Target) → list_all is_plain s ≡ true → bytes_eq path (slash ∷ s) ≡ t
      → (rest ≡ Some target → IsPath path) → cond t (Some own) rest ≡ Some target → IsPath path
  service s true rest own h e other k =
      subst IsPath (sym ((bytes_eq-Decides path (slash ∷ s)).0 e)) (record { segments = word s h; some = omega arith })
  service s false rest own h e other k = other k

pub named_path : (path : List ℕ) (target : Target) → target_of path ≡ Some target → IsPath path
named_path path target e =
    service path target (codes "activation") (bytes_eq path (codes "/activation")) _ targets.Activation refl refl
    (service path target (codes "work") (bytes_eq path (codes "/work")) _ targets.Work refl refl (λ h. elim (either _ _ target h) [
      | inl k ↦ ids path target (codes "/registration") targets.Registration (word (codes "registration") refl) k
      | inr k ↦ elim (either _ _ target k) [
        | inl l ↦ ids path target (codes "/completion") targets.Completion (word (codes "completion") refl) l
        | inr l ↦ elim (either _ _ target l) [
          | inl m ↦ ids path target (codes "/i") targets.Initiator (word (codes "i") refl) m
          | inr m ↦ parties path target m
        ]
      ]
    ])) e
