-- Within the limits, what is written is read.
use Rattle.std.proofs.Common.{◌≡◌, arith, ℕ, List, length, ◌<◌, ◌≤◌, ◌^◌, true}
use Rattle.xml_grammar.specs.Limits.{IsWithin}
use Rattle.xml_grammar.specs.Refusals.{IsShort, Reads}
use Rattle.xml_profile.specs.CanonicalText.{canonical_text}
use Rattle.xml_profile.specs.SpellableTrees.{can_be_spelled}
use Rattle.xml_profile.specs.declared.tree.Tree.{Tree}
use Rattle.xml_roundtrip.proofs.EqualTexts.{text_spells}
use Rattle.xml_roundtrip.proofs.Trees.{spelled_well}

is_small : (n : ℕ) → n ≤ 65536 → n < 2 ^ 63
is_small n h = omega (arith, h)

pub written_reads : (t : Tree) → can_be_spelled t ≡ true → IsWithin t → IsShort (canonical_text t) → Reads (canonical_text t) t
written_reads t e w s = record { short = s; spells = text_spells t (is_small (length (canonical_text t)) s) e; within = w }

pub read_again : (bytes : List ℕ) (t : Tree) → Reads bytes t → IsShort (canonical_text t) → Reads (canonical_text t) t
read_again bytes t r s = written_reads t (spelled_well bytes t r.spells) r.within s
