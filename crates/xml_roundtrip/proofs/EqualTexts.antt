-- What canonical texts spell, and what follows from equal ones.
use Rattle.std.proofs.Common.{◌≡◌, sym, subst, ℕ, ◌^◌, ◌<◌, List, length, true, lt_of_le_of_lt}
use Rattle.xml_profile.specs.declared.tree.Tree.{Tree}
use Rattle.xml_profile.specs.CanonicalText.{canonical_text, numbered_by}
use Rattle.xml_profile.specs.SpellableTrees.{can_be_spelled}
use Rattle.xml_grammar.specs.Spells.{Spells}
use Rattle.xml_grammar.proofs.WholeLaws.{spells_one}
use Rattle.xml_roundtrip.proofs.Numbers.{fewer_numbers}
use Rattle.xml_roundtrip.proofs.Wholes.{canonical_spells}
use Rattle.xml_roundtrip.proofs.Trees.{spelled_well}
use Rattle.xml_roundtrip.proofs.Sizes.{numbers_fit}

pub text_spells : (t : Tree) → length (canonical_text t) < 2 ^ 63 → can_be_spelled t ≡ true → Spells (canonical_text t) t
text_spells t h k = canonical_spells t (lt_of_le_of_lt (fewer_numbers t) h) k

pub spells_only : (t u : Tree) → length (numbered_by t) < 2 ^ 63 → can_be_spelled t ≡ true → Spells (canonical_text t) u → t ≡ u
spells_only t u h k s = spells_one (canonical_text t) t u (canonical_spells t h k) s

pub equal_texts : (t u : Tree) → length (canonical_text t) < 2 ^ 63 → can_be_spelled t ≡ true → can_be_spelled u ≡ true → canonical_text t ≡ canonical_text u → t ≡ u
equal_texts t u h k l e =
    spells_one (canonical_text t) t u (text_spells t h k) (subst (λ v. Spells v u) (sym e) (text_spells u (subst (λ v. length v < 2 ^ 63) e h) l))

-- what was read

pub read_spells : (bytes : List ℕ) (t : Tree) → length bytes < 2 ^ 63 → Spells bytes t → Spells (canonical_text t) t
read_spells bytes t h s = canonical_spells t (lt_of_le_of_lt (numbers_fit bytes t s) h) (spelled_well bytes t s)

pub read_equal : (a b : List ℕ) (t u : Tree) → length a < 2 ^ 63 → length b < 2 ^ 63 → Spells a t → Spells b u → canonical_text t ≡ canonical_text u → t ≡ u
read_equal a b t u h k s r e = spells_one (canonical_text t) t u (read_spells a t h s) (subst (λ v. Spells v u) (sym e) (read_spells b u k r))
