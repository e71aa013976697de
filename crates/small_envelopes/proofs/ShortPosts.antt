-- The text of a brief post is short.
use Rattle.std.proofs.Common.{◌≤◌, List, [], ◌∷◌, length, arith, ap, refl, sym, subst}
use Rattle.std.specs.Prelude.{codes}
use Rattle.xml_profile.specs.declared.tree.Tree.{Tree}
use Rattle.xml_profile.specs.CanonicalText.{canonical_text}
use Rattle.xml_profile.specs.Prefixes.{soap}
use Rattle.soap_profile.specs.BuiltElements.{qualified}
use Rattle.soap_profile.specs.Envelopes.{envelope_tree}
use Rattle.addressing.specs.OutgoingHeaders.{blocks_of}
use Rattle.small_envelopes.specs.ShortEnvelopes.{BriefAreShort}
use Rattle.small_envelopes.proofs.ShortBodies.{body_short}
use Rattle.small_envelopes.proofs.ShortHeaders.{headers_short}
use Rattle.small_envelopes.proofs.ShortTrees.{AreShort, both_short, element_short}
use Rattle.small_envelopes.proofs.TextLengths.{canonical_short}

envelope_short : (blocks : List Tree) (body : Tree) → AreShort 20266 blocks → AreShort 12180 (body ∷ []) → AreShort 33946 (envelope_tree blocks body ∷ [])
envelope_short blocks body h b =
    element_short (qualified soap (codes "Envelope")) refl
    (both_short (element_short (qualified soap (codes "Header")) refl h) (element_short (qualified soap (codes "Body")) refl b))

short_text : (t : Tree) → AreShort 33946 (t ∷ []) → length (canonical_text t) ≤ 40000
short_text t h = omega (arith, canonical_short t h.plain, h.light)

pub are_short : BriefAreShort
are_short post text b is =
    let short : length (canonical_text is.tree) ≤ 40000 =
    subst (λ (t : Tree). length (canonical_text t) ≤ 40000) (sym is.of.whole)
    (short_text (envelope_tree (blocks_of is.of.headers) is.of.body)
    (envelope_short (blocks_of is.of.headers) is.of.body (headers_short post is.of.headers b is.of.headed) (body_short post.message is.of.body b.message is.of.said))) in
    omega (arith, ap length is.whole, short)
