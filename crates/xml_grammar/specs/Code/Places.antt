-- The bindings that a scope holds, and where the last one of a prefix stands.
use Rattle.std.specs.Prelude.{◌≡◌, ℕ, suc, List, [], ◌∷◌, map, take, slice_get, cond, Option, Some, None, option_map}
use Rattle.std.specs.BTreeMap.{BTreeMap, get_by}
use Rattle.std.specs.Cmp.Lexicographic.{slice_cmp}
use Rattle.std.specs.Ordering.{nat_cmp}
use denote.Ref.{Bor}
use Rattle.xml_grammar.specs.Characters.{same}
use Rattle.xml_grammar.specs.Namespaces.{Binding, or_else}
use Rattle.xml_grammar.specs.declared.scope.Binding.{Binding as BindingRead}
use Rattle.xml_grammar.specs.declared.scope.Held.{Held}

abbrev pub binding_of : BindingRead → Binding
binding_of b = record { prefix = b.prefix.now; space = b.space }

abbrev pub held_of : Held → Binding
held_of h = binding_of h.binding

-- the place of the last binding of a prefix, counted from the outermost
abbrev pub last_of : List ℕ → List Binding → Option ℕ
last_of prefix [] = None
last_of prefix (b ∷ bs) = or_else (option_map (λ n. suc n) (last_of prefix bs)) (cond (same prefix b.prefix) (Some 0) None)

-- the place that a map has for a prefix
abbrev pub place_in : BTreeMap (Bor (List ℕ)) ℕ → List ℕ → Option ℕ
place_in m prefix = get_by (λ k. slice_cmp nat_cmp prefix k.now) m

-- a map has the place of the last binding of each prefix
abbrev pub Finds : BTreeMap (Bor (List ℕ)) ℕ → List Held → Type 0
Finds m hs = (prefix : List ℕ) → place_in m prefix ≡ last_of prefix (map held_of hs)

-- each holds the place of the last binding before it with its prefix
abbrev pub HidesEach : List Held → Type 0
HidesEach hs = (i : ℕ) (h : Held) → slice_get hs i ≡ Some h → h.hidden ≡ last_of h.binding.prefix.now (map held_of (take i hs))
