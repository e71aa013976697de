-- What a text is read as, and what each refusal says of it.
use Rattle.std.specs.Prelude.{ℕ, List, length, Result, Ok, Err, ◌≤◌, ◌<◌, ◌≡◌, ◌⊎◌}
use Rattle.std.specs.Str.{IsUtf8}
use Rattle.std.specs.Str.Lossy.{utf8_valid_len}
use Rattle.xml_profile.specs.declared.tree.Tree.{Tree}
use Rattle.xml_grammar.specs.Spells.{Spells}
use Rattle.xml_grammar.specs.Limits.{IsWithin, levels_of, elements_of, widest_of}
use Rattle.xml_grammar.specs.declared.reader.TreeRefusal.{TreeRefusal}
use Rattle.xml_grammar.specs.declared.reader.TreeRefusal.TheVariants.{TooLong, NotUtf8, NotSpelled, TooDeep, TooMany, NoMemory}

-- at most 65,536 bytes
abbrev pub IsShort : List ℕ → Type 0
IsShort bytes = length bytes ≤ 65536

-- the bytes spell the tree, and both are within the limits
pub record Reads (bytes : List ℕ) (t : Tree) : Type 0 where
  pub short : IsShort bytes
  pub spells : Spells bytes t
  pub within : IsWithin t

pub record IsNoUtf8 (bytes : List ℕ) (place : ℕ) : Type 0 where
  pub short : IsShort bytes
  pub no_utf8 : ¬ (IsUtf8 bytes)
  -- the bytes before it are UTF-8, as many as there are
  pub first : place ≡ utf8_valid_len bytes

pub record IsNotSpelled (bytes : List ℕ) : Type 0 where
  pub short : IsShort bytes
  pub utf8 : IsUtf8 bytes
  pub spells_none : (t : Tree) → ¬ (Spells bytes t)

pub record IsTooDeep (bytes : List ℕ) : Type 0 where
  pub short : IsShort bytes
  pub tree : Tree
  pub spells : Spells bytes tree
  pub deep : 32 < levels_of tree

pub record IsTooMany (bytes : List ℕ) : Type 0 where
  pub short : IsShort bytes
  pub tree : Tree
  pub spells : Spells bytes tree
  pub shallow : levels_of tree ≤ 32
  pub many : (4096 < elements_of tree) ⊎ (32 < widest_of tree)

-- the first refusal that holds, in the order of the cases; want of memory says nothing of the text
abbrev pub Refuses : List ℕ → TreeRefusal → Type 0
Refuses bytes TooLong = 65536 < length bytes
Refuses bytes (NotUtf8 place) = IsNoUtf8 bytes place
Refuses bytes NotSpelled = IsNotSpelled bytes
Refuses bytes TooDeep = IsTooDeep bytes
Refuses bytes TooMany = IsTooMany bytes
Refuses bytes NoMemory = Unit {0}

-- the tree is answered, unless memory ran out
abbrev pub Answers : Result Tree TreeRefusal → Tree → Type 0
Answers (Ok found) t = found ≡ t
Answers (Err NoMemory) t = Unit {0}
Answers (Err TooLong) t = ⊥
Answers (Err (NotUtf8 place)) t = ⊥
Answers (Err NotSpelled) t = ⊥
Answers (Err TooDeep) t = ⊥
Answers (Err TooMany) t = ⊥
