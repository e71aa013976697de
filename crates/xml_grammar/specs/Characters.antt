-- Characters, words and the places behind them. Texts are lists of code points.
use Rattle.std.specs.Prelude.{ℕ, List, [], ◌∷◌, Bool, true, false, cond, not, ◌&&◌, ◌||◌, nat_eq, nat_le, Option, Some, None, ◌≡◌, refl, take, drop, codes}
use Rattle.std.specs.List.{prefix_len, list_all}

infixl 10 ◌>>=◌
abbrev pub ◌>>=◌ : {A B : Type 0} → Option A → (A → Option B) → Option B
None >>= f = None
Some a >>= f = f a

-- goes on with what was found, or else otherwise
abbrev pub found : {A B : Type 0} → Option A → (A → B) → B → B
found None f otherwise = otherwise
found (Some a) f otherwise = f a

-- nothing but the fact that a test holds
abbrev pub given : Bool → Option (Unit {0})
given true = Some tt
given false = None

abbrev pub same : List ℕ → List ℕ → Bool
same [] [] = true
same [] (y ∷ ys) = false
same (x ∷ xs) [] = false
same (x ∷ xs) (y ∷ ys) = nat_eq x y && same xs ys

-- XML 1.0, section 2.3, the production S
abbrev pub is_white : ℕ → Bool
is_white c = nat_eq c 32 || nat_eq c 9 || nat_eq c 10 || nat_eq c 13

abbrev pub is_letter : ℕ → Bool
is_letter c = (nat_le 65 c && nat_le c 90) || (nat_le 97 c && nat_le c 122)

abbrev pub is_digit : ℕ → Bool
is_digit c = nat_le 48 c && nat_le c 57

-- a part of a name starts with an ASCII letter, `_` or any character past ASCII (XML 1.0, section 2.3, the profile's part of NameStartChar)
abbrev pub begins_part : ℕ → Bool
begins_part c = is_letter c || nat_eq c 95 || nat_le 128 c

-- and goes on with these, digits, `-` and `.` (NameChar)
abbrev pub continues_part : ℕ → Bool
continues_part c = begins_part c || is_digit c || nat_eq c 45 || nat_eq c 46

-- a character of a name of one or two parts
abbrev pub is_name_char : ℕ → Bool
is_name_char c = continues_part c || nat_eq c 58

-- a quote, double or single
abbrev pub is_quote : ℕ → Bool
is_quote c = nat_eq c 34 || nat_eq c 39

-- the text begins with the word; what is behind it
abbrev pub strip_at : List ℕ → List ℕ → Option (List ℕ)
strip_at [] cs = Some cs
strip_at (w ∷ ws) [] = None
strip_at (w ∷ ws) (c ∷ cs) = cond (nat_eq w c) (strip_at ws cs) None

-- the text behind the longest white space
abbrev pub behind_white : List ℕ → List ℕ
behind_white [] = []
behind_white (c ∷ cs) = cond (is_white c) (behind_white cs) (c ∷ cs)

abbrev pub begins_white : List ℕ → Bool
begins_white [] = false
begins_white (c ∷ cs) = is_white c

-- before and behind the first place where the word stands
abbrev pub until : List ℕ → List ℕ → Option (List ℕ × List ℕ)
until word [] = None
until word (c ∷ cs) = found (strip_at word (c ∷ cs)) (λ rest. Some ([], rest)) (until word cs >>= (λ p. Some (c ∷ p.0, p.1)))

-- a spelled name taken apart: an empty prefix is none
pub record Parts : Type 0 where
  pub prefix : List ℕ
  pub local : List ℕ

abbrev pub is_part : List ℕ → Bool
is_part [] = false
is_part (c ∷ cs) = begins_part c && list_all continues_part cs

abbrev pub parts_before : List ℕ → List ℕ → Option Parts
parts_before n [] = cond (is_part n) (Some (record { prefix = []; local = n })) None
parts_before n (c ∷ cs) = cond (is_part n && is_part cs) (Some (record { prefix = n; local = cs })) None

-- Namespaces in XML 1.0, section 4, the production QName: one part, or two joined by `:`
abbrev pub parts : List ℕ → Option Parts
parts n = let k = prefix_len (λ c. not (nat_eq c 58)) n in parts_before (take k n) (drop k n)

abbrev pub name_before : List ℕ → List ℕ → Option (List ℕ × List ℕ)
name_before n rest = parts n >>= (λ p. Some (n, rest))

-- the text begins with a name, taken as long as it goes; the name, and what is behind it
abbrev pub name_at : List ℕ → Option (List ℕ × List ℕ)
name_at cs = let k = prefix_len is_name_char cs in name_before (take k cs) (drop k cs)

pub a_prefix : parts (codes "a:b-1") ≡ Some (record { prefix = codes "a"; local = codes "b-1" })
a_prefix = refl

pub two_prefixes : parts (codes "a:b:c") ≡ None
two_prefixes = refl

pub a_digit_first : name_at (codes "1a ") ≡ None
a_digit_first = refl

pub a_name : name_at (codes "a:b =") ≡ Some (codes "a:b", codes " =")
a_name = refl

pub first_dashes : until (codes "--") (codes "x-y-->") ≡ Some (codes "x-y", codes ">")
first_dashes = refl
