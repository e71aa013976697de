-- What the reader finds in a text.
use Rattle.std.specs.Prelude.{ℕ, List, [], ◌∷◌, Option, Some, None, Result, Ok, Err, ◌≡◌, ◌⊎◌, ◌≤◌, ◌<◌, ◌-◌, cond, nat_le}
use Rattle.xml_grammar.specs.Spells.{Document}
use Rattle.xml_grammar.specs.Code.Machine.{Frame}
use Rattle.xml_grammar.specs.Code.Shallow.{Reading, cut_tree}
use Rattle.xml_grammar.specs.Limits.{levels_of, elements_of, widest_of}
use Rattle.xml_grammar.specs.declared.reader.TreeRefusal.{TreeRefusal}
use Rattle.xml_grammar.specs.declared.reader.TreeRefusal.TheVariants.{TooLong, NotUtf8, NotSpelled, TooDeep, TooMany, NoMemory}
use Rattle.xml_grammar.specs.declared.machine.Found.{Found}
use Rattle.xml_profile.specs.declared.tree.Tree.{Tree}

-- a document, its root down to the last level that is kept, and its levels
pub record IsFound (cs : List ℕ) (found : Found) : Type 0 where
  pub whole : Tree
  pub document : Document [] cs whole
  pub kept : found.tree ≡ cut_tree whole
  pub counted : found.levels ≡ levels_of whole

abbrev pub Finds : List ℕ → Option Found → Type 0
Finds cs None = (t : Tree) → ¬ (Document [] cs t)
Finds cs (Some found) = IsFound cs found

abbrev pub ended_at : List Frame → Option Tree → ℕ → Option Found
ended_at [] None n = None
ended_at [] (Some t) n = Some (record { tree = t; levels = n })
ended_at (f ∷ fs) e n = None

abbrev pub finish : Reading → Option Found
finish r = ended_at r.state.frames r.state.ended r.deepest

-- what is left of a number, where it is enough
abbrev pub spent : ℕ → ℕ → Option ℕ
spent budget n = cond (nat_le n budget) (Some (budget - n)) None

-- what the limits say of a document that was found
abbrev pub Judged : Found → Result Tree TreeRefusal → Type 0
Judged found (Ok t) = (t ≡ found.tree) × (found.levels ≤ 32) × (elements_of t ≤ 4096) × (widest_of t ≤ 32)
Judged found (Err TooDeep) = 32 < found.levels
Judged found (Err TooMany) = (found.levels ≤ 32) × ((4096 < elements_of found.tree) ⊎ (32 < widest_of found.tree))
Judged found (Err TooLong) = ⊥
Judged found (Err (NotUtf8 place)) = ⊥
Judged found (Err NotSpelled) = ⊥
Judged found (Err NoMemory) = ⊥
