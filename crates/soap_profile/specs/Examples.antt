-- Small trees, and the envelopes that they are.
use Rattle.std.specs.Prelude.{ℕ, List, [], ◌∷◌, ◌≡◌, refl, Ok, Err, codes}
use Rattle.xml_profile.specs.declared.tree.Tree.{Tree}
use Rattle.xml_profile.specs.Forest.Forest.{End, Text_then}
use Rattle.xml_profile.specs.Prefixes.{soap}
use Rattle.soap_profile.specs.BuiltElements.{children_of, element, qualified, unqualified}
use Rattle.soap_profile.specs.Values.{text_value}
use Rattle.soap_profile.specs.Envelopes.{envelope_of}
use Rattle.soap_profile.specs.declared.envelope.SoapRefusal.TheVariants.{VersionMismatch, NotEnvelope, MustUnderstand}

abbrev of_soap : List ℕ → List Tree → Tree
of_soap local inside = element (qualified soap local) (children_of inside)

abbrev plain : List ℕ → Tree
plain local = element (unqualified local) End

-- a block that must be understood, for any node
abbrev block : Tree
block =
    record {
      name = unqualified (codes "x");
      attributes = record { name = qualified soap (codes "mustUnderstand"); value = codes "1" } ∷ [];
      children = End;
    }

-- <a> b </a>
pub white_space_goes : text_value (element (unqualified (codes "a")) (Text_then (codes " b ") End)) ≡ codes "b"
white_space_goes = refl

pub another_version : envelope_of (element (qualified (codes "http://www.w3.org/2003/05/soap-envelope") (codes "Envelope")) End) ≡ Err VersionMismatch
another_version = refl

pub no_namespace : envelope_of (plain (codes "Envelope")) ≡ Err NotEnvelope
no_namespace = refl

pub body_alone : envelope_of (of_soap (codes "Envelope") (of_soap (codes "Body") (plain (codes "a") ∷ []) ∷ []))
    ≡ Ok (record { headers = []; body = plain (codes "a") })
body_alone = refl

pub two_in_body : envelope_of (of_soap (codes "Envelope") (of_soap (codes "Body") (plain (codes "a") ∷ plain (codes "b") ∷ []) ∷ []))
    ≡ Err NotEnvelope
two_in_body = refl

pub block_not_understood : envelope_of (of_soap (codes "Envelope")
    (of_soap (codes "Header") (block ∷ []) ∷ of_soap (codes "Body") (plain (codes "a") ∷ []) ∷ []))
    ≡ Err (MustUnderstand (codes "x"))
block_not_understood = refl
