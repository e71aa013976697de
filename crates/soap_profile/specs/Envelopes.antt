-- What envelope a tree is (SOAP 1.1, section 4), and the tree of an envelope.
use Rattle.std.specs.Prelude.{ℕ, List, [], ◌∷◌, Bool, true, false, ◌&&◌, ◌||◌, Option, Some, None, if◌then◌else◌, codes, Result, Ok, Err, ◌≡◌, not}
use Rattle.std.specs.Str.{bytes_eq}
use Rattle.xml_profile.specs.declared.name.QName.{QName}
use Rattle.xml_profile.specs.declared.tree.Tree.{Tree}
use Rattle.xml_profile.specs.Prefixes.{soap, addressing, coordination}
use Rattle.soap_profile.specs.EnvelopeParts.{Envelope}
use Rattle.soap_profile.specs.declared.envelope.SoapRefusal.{SoapRefusal}
use Rattle.soap_profile.specs.declared.envelope.SoapRefusal.TheVariants.{VersionMismatch, NotEnvelope, MustUnderstand, NoMemory}
use Rattle.soap_profile.specs.BuiltElements.{children_of, element, qualified}
use Rattle.soap_profile.specs.Values.{elements, is_named, is_nowhere, attribute, is_empty}

-- what is wrong with the root: an Envelope of another namespace is of another version (SOAP 1.1, section 4.1.2)
abbrev pub root_refusal : QName → Option SoapRefusal
root_refusal name =
    if is_named name soap (codes "Envelope") then None
    else if bytes_eq name.local (codes "Envelope") && not (is_nowhere name.space) then Some VersionMismatch
    else Some NotEnvelope

abbrev pub first_of : List Tree → Option Tree
first_of [] = None
first_of (t ∷ ts) = Some t

-- the one element of a list of one
abbrev pub sole : List Tree → Option Tree
sole [] = None
sole (t ∷ []) = Some t
sole (t ∷ u ∷ ts) = None

abbrev pub enveloped : List Tree → Option Tree → Option Envelope
enveloped headers None = None
enveloped headers (Some body) = Some (record { headers = headers; body = body })

-- behind the header blocks stands a Body with exactly one element (SOAP 1.1, section 4.3)
abbrev pub with_body : List Tree → Option Tree → Option Envelope
with_body headers None = None
with_body headers (Some t) = if is_named t.name soap (codes "Body") then enveloped headers (sole (elements t.children)) else None

-- the root's elements are a Header or none, then the Body, then anything (SOAP 1.1, section 4)
abbrev pub parts_of : List Tree → Option Envelope
parts_of [] = None
parts_of (t ∷ ts) =
    if is_named t.name soap (codes "Header") then with_body (elements t.children) (first_of ts)
    else with_body [] (Some t)

-- the header blocks that a node of this project understands, beside reference parameters
abbrev pub is_message_header : QName → Bool
is_message_header name =
    is_named name addressing (codes "To") || (is_named name addressing (codes "Action")
    || (is_named name addressing (codes "MessageID") || is_named name addressing (codes "RelatesTo")))

abbrev pub is_endpoint_header : QName → Bool
is_endpoint_header name =
    is_named name addressing (codes "From") || (is_named name addressing (codes "ReplyTo")
    || is_named name addressing (codes "FaultTo"))

abbrev pub is_understood_name : QName → Bool
is_understood_name name =
    is_message_header name || (is_endpoint_header name || is_named name coordination (codes "CoordinationContext"))

abbrev pub is_true : Option (List ℕ) → Bool
is_true None = false
is_true (Some text) = bytes_eq text (codes "true") || bytes_eq text (codes "1")

-- whether a block is a reference parameter (WS-Addressing 1.0 SOAP Binding, section 3.3)
abbrev pub is_reference_parameter : Tree → Bool
is_reference_parameter block = is_true (attribute block.attributes addressing (codes "IsReferenceParameter"))

-- whether a block is for this node: it names no actor, or the next one (SOAP 1.1, section 4.2.2)
abbrev pub is_for_this_node : Option (List ℕ) → Bool
is_for_this_node None = true
is_for_this_node (Some actor) = is_empty actor || bytes_eq actor (codes "http://schemas.xmlsoap.org/soap/actor/next")

abbrev pub is_one : Option (List ℕ) → Bool
is_one None = false
is_one (Some text) = bytes_eq text (codes "1")

-- whether a block must be understood by this node (SOAP 1.1, section 4.2.3)
abbrev pub is_mandatory : Tree → Bool
is_mandatory block =
    is_one (attribute block.attributes soap (codes "mustUnderstand"))
    && is_for_this_node (attribute block.attributes soap (codes "actor"))

abbrev pub is_obstacle : Tree → Bool
is_obstacle block = is_mandatory block && not (is_understood_name block.name || is_reference_parameter block)

-- the local name of the first block that must be understood and isn't
abbrev pub not_understood : List Tree → Option (List ℕ)
not_understood [] = None
not_understood (block ∷ more) = if is_obstacle block then Some block.name.local else not_understood more

abbrev pub judged : Envelope → Option (List ℕ) → Result Envelope SoapRefusal
judged envelope None = Ok envelope
judged envelope (Some name) = Err (MustUnderstand name)

abbrev pub opened : Option Envelope → Result Envelope SoapRefusal
opened None = Err NotEnvelope
opened (Some envelope) = judged envelope (not_understood envelope.headers)

abbrev pub rooted : Option SoapRefusal → Option Envelope → Result Envelope SoapRefusal
rooted (Some refusal) envelope = Err refusal
rooted None envelope = opened envelope

-- the envelope that a tree is, or the first refusal that holds
abbrev pub envelope_of : Tree → Result Envelope SoapRefusal
envelope_of t = rooted (root_refusal t.name) (parts_of (elements t.children))

-- an answer is the expected one, unless memory ran out
abbrev pub Answers : {T : Type 0} → Result T SoapRefusal → Result T SoapRefusal → Type 0
Answers expected (Ok value) = expected ≡ Ok value
Answers expected (Err NoMemory) = Unit {0}
Answers expected (Err VersionMismatch) = expected ≡ Err VersionMismatch
Answers expected (Err NotEnvelope) = expected ≡ Err NotEnvelope
Answers expected (Err (MustUnderstand name)) = expected ≡ Err (MustUnderstand name)

-- the tree of an envelope: a Header of the blocks, and a Body of one element
abbrev pub envelope_tree : List Tree → Tree → Tree
envelope_tree headers body =
    element (qualified soap (codes "Envelope"))
    (children_of (element (qualified soap (codes "Header")) (children_of headers)
    ∷ element (qualified soap (codes "Body")) (children_of (body ∷ [])) ∷ []))
