-- Bodies of coordination, and what they say.
use Rattle.std.specs.Prelude.{ℕ, List, [], ◌∷◌, ◌≡◌, refl, Ok, Err, Some, None, codes}
use Rattle.xml_profile.specs.declared.tree.Tree.{Tree}
use Rattle.xml_profile.specs.Prefixes.{coordination}
use Rattle.soap_profile.specs.BuiltElements.{children_of, element, qualified, text_children, unqualified}
use Rattle.context.specs.declared.parameter.Parameter.TheVariants.{Identifier, Expires, CoordinationType, ParticipantProtocolService}
use Rattle.context.specs.declared.parameter.ContextFault.TheVariants.{Parameters}
use Rattle.context.specs.Bodies.{create_of, expires_in, number_of, register_of}

abbrev child : List ℕ → List ℕ → Tree
child local text = element (qualified coordination local) (text_children text)

abbrev body : List Tree → Tree
body children = element (unqualified (codes "a")) (children_of children)

-- a plus and zeros may stand in front
pub with_plus : number_of (codes "+007") ≡ Some 7
with_plus = refl

pub greatest : number_of (codes "4294967295") ≡ Some 4294967295
greatest = refl

pub too_great : number_of (codes "4294967296") ≡ None
too_great = refl

pub with_minus : number_of (codes "-0") ≡ None
with_minus = refl

pub plus_alone : number_of (codes "+") ≡ None
plus_alone = refl

pub two_pluses : number_of (codes "++1") ≡ None
two_pluses = refl

pub no_digits : number_of [] ≡ None
no_digits = refl

pub type_alone : create_of (body (child (codes "CoordinationType") (codes " urn:t ") ∷ []))
    ≡ Ok (record { expires = None; current = None; coordination = codes "urn:t" })
type_alone = refl

pub no_type : create_of (body []) ≡ Err (Parameters CoordinationType)
no_type = refl

-- a child in no namespace is another
pub type_nowhere : create_of (body (element (unqualified (codes "CoordinationType")) (text_children (codes "urn:t")) ∷ []))
    ≡ Err (Parameters CoordinationType)
type_nowhere = refl

pub twice : expires_in (body (child (codes "Expires") (codes "1") ∷ child (codes "Expires") (codes "1") ∷ [])) ≡ Err (Parameters Expires)
twice = refl

-- a fault within the current context has the name of its own child
pub within_current : create_of (body (child (codes "CurrentContext") [] ∷ [])) ≡ Err (Parameters Identifier)
within_current = refl

pub no_participant : register_of (body (child (codes "ProtocolIdentifier") (codes "urn:p") ∷ [])) ≡ Err (Parameters ParticipantProtocolService)
no_participant = refl
