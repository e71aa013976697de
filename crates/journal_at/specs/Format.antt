-- A journal's file: a gate byte 1, a length of four bytes, a body, repeated, up to a gate other than 1, and then anything.
use Rattle.std.specs.Prelude.{ℕ, List, Option, Some, None, [], ◌∷◌, ◌++◌, ◌≡◌, ◌≢◌, ◌≤◌, ◌⊎◌, length, cond, nat_eq, nat_lt, refl}
use Rattle.std.specs.Int.{to_be_bytes, from_be_bytes, w32}
use Rattle.journal_at.specs.declared.version.Version.{Version}
use Rattle.journal_at.specs.declared.version.Version.TheVariants.{One, Two}

pub record IsBody (body : List ℕ) : Type 0 where
  pub least : 1 ≤ length body
  pub most : length body ≤ 1060000

-- what stands behind a gate
abbrev pub behind : List ℕ → List ℕ
behind body = to_be_bytes w32 (length body) ++ body

abbrev pub frames : List (List ℕ) → List ℕ
frames [] = []
frames (body ∷ bodies) = 1 ∷ (behind body ++ frames bodies)

-- these bodies, a gate other than 1 that is there, then anything
pub record Closed (bodies : List (List ℕ)) (f : List ℕ) : Type 0 where
  pub gate : ℕ
  pub rest : List ℕ
  pub shut : gate ≢ 1
  pub is : f ≡ frames bodies ++ (gate ∷ rest)

-- a mark says a file's version and its generation
pub record Mark : Type 0 where
  pub version : Version
  pub generation : ℕ

-- version 1 counts its generations from 1, and has none that is the last number
abbrev pub old_mark : ℕ → Option Mark
old_mark g = cond (nat_lt 0 g) (cond (nat_lt g 4294967295) (Some (record { version = One; generation = g })) None) None

abbrev pub mark_from : ℕ → ℕ → Option Mark
mark_from tag g = cond (nat_eq tag 11) (Some (record { version = Two; generation = g })) (cond (nat_eq tag 9) (old_mark g) None)

-- the tag 0b or 09, and a generation
abbrev pub mark_of : List ℕ → Option Mark
mark_of (tag ∷ a ∷ b ∷ c ∷ d ∷ []) = mark_from tag (from_be_bytes w32 (a ∷ b ∷ c ∷ d ∷ []))
mark_of body = None

-- the mark of version 2 with that generation
abbrev pub mark_body : ℕ → List ℕ
mark_body g = 11 ∷ to_be_bytes w32 g

abbrev pub AreUnmarked : List (List ℕ) → Type 0
AreUnmarked [] = Unit {0}
AreUnmarked (body ∷ bodies) = (mark_of body ≡ None) × AreUnmarked bodies

abbrev pub AreBodies : List (List ℕ) → Type 0
AreBodies [] = Unit {0}
AreBodies (body ∷ bodies) = IsBody body × AreBodies bodies

-- a mark stands at no place but the first
abbrev pub AreInPlace : List (List ℕ) → Type 0
AreInPlace [] = Unit {0}
AreInPlace (body ∷ bodies) = AreUnmarked bodies

pub record AreListed (bodies : List (List ℕ)) : Type 0 where
  pub sized : AreBodies bodies
  pub placed : AreInPlace bodies

-- a file of at most one byte has no bodies
pub record FileOf (f : List ℕ) (bodies : List (List ℕ)) : Type 0 where
  pub listed : AreListed bodies
  pub is : ((length f ≤ 1) × (bodies ≡ [])) ⊎ Closed bodies f

abbrev pub marked : Option Mark → Mark
marked (Some mark) = mark
marked None = record { version = One; generation = 0 }

-- the version of a list and its generation
abbrev pub head_of : List (List ℕ) → Mark
head_of [] = record { version = One; generation = 0 }
head_of (body ∷ bodies) = marked (mark_of body)

abbrev pub without : Option Mark → List ℕ → List (List ℕ) → List (List ℕ)
without (Some mark) body bodies = bodies
without None body bodies = body ∷ bodies

-- the records of a list: all but its mark
abbrev pub records_of : List (List ℕ) → List (List ℕ)
records_of [] = []
records_of (body ∷ bodies) = without (mark_of body) body bodies

pub a_version_2_file : head_of ((11 ∷ 0 ∷ 0 ∷ 1 ∷ 2 ∷ []) ∷ (1 ∷ 0 ∷ 0 ∷ 0 ∷ 1 ∷ []) ∷ []) ≡ record { version = Two; generation = 258 }
a_version_2_file = refl

pub a_generation_of_none : head_of ((9 ∷ 0 ∷ 0 ∷ 0 ∷ 0 ∷ []) ∷ []) ≡ record { version = One; generation = 0 }
a_generation_of_none = refl
