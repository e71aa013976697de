-- The envelope of a post without reference parameters is within the limits of what is read.
use Rattle.std.proofs.Common.{List, [], ◌∷◌, arith, sym, subst}
use Rattle.std.specs.Prelude.{codes}
use Rattle.xml_profile.specs.declared.tree.Tree.{Tree}
use Rattle.xml_profile.specs.Prefixes.{soap}
use Rattle.xml_grammar.specs.Limits.{IsWithin}
use Rattle.soap_profile.specs.BuiltElements.{qualified}
use Rattle.soap_profile.specs.Envelopes.{envelope_tree}
use Rattle.addressing.specs.OutgoingHeaders.{blocks_of}
use Rattle.small_envelopes.specs.SmallEnvelopes.{BareAreInLimits}
use Rattle.small_envelopes.proofs.SmallBodies.{body_small}
use Rattle.small_envelopes.proofs.SmallHeaders.{headers_small}
use Rattle.small_envelopes.proofs.SmallTrees.{AreSmall, both_small, element_small}

envelope_small : (blocks : List Tree) (body : Tree) → AreSmall 4 14 blocks → AreSmall 4 9 (body ∷ []) → AreSmall 6 26 (envelope_tree blocks body ∷ [])
envelope_small blocks body h b =
    element_small (qualified soap (codes "Envelope"))
    (both_small (element_small (qualified soap (codes "Header")) h) (element_small (qualified soap (codes "Body")) b))

within : (t : Tree) → AreSmall 6 26 (t ∷ []) → IsWithin t
within t h = record { levels = omega arith; elements = omega arith; attributes = omega arith }

pub in_limits : BareAreInLimits
in_limits post b t e =
    subst IsWithin (sym e.whole)
    (within (envelope_tree (blocks_of e.headers) e.body)
    (envelope_small (blocks_of e.headers) e.body (headers_small post e.headers b e.headed) (body_small post.message e.body b.message e.said)))
