-- The faults that are written (SOAP 1.1, section 4.4; WS-Addressing 1.0 SOAP Binding, section 6.4; WS-Coordination 1.2,
-- section 4; WS-AtomicTransaction 1.2, section 5), and which of them a refusal is.
use Rattle.std.specs.Prelude.{◌≡◌, refl, ℕ, List, [], ◌∷◌, ◌++◌, Option, Some, None, if◌then◌else◌, codes}
use Rattle.std.specs.Str.{bytes_eq}
use Rattle.at_base.specs.Names.{fault_name, fault_named}
use Rattle.at_base.specs.declared.fault.Fault.{Fault}
use Rattle.at_base.specs.declared.fault.Fault.TheVariants as faults
use Rattle.xml_profile.specs.declared.name.QName.{QName}
use Rattle.xml_profile.specs.declared.tree.Tree.{Tree}
use Rattle.xml_profile.specs.CanonicalText.{canonical_text}
use Rattle.xml_profile.specs.Prefixes.{addressing, coordination, soap, transaction}
use Rattle.soap_profile.specs.BuiltElements.{qualified}
use Rattle.soap_profile.specs.Envelopes.{envelope_tree}
use Rattle.soap_profile.specs.Faults.{fault_tree}
use Rattle.addressing.specs.OutgoingHeaders.{text_element}
use Rattle.wire_msgs.specs.declared.refusal.Refusal.{Refusal}
use Rattle.wire_msgs.specs.declared.refusal.Refusal.TheVariants as refusals
use Rattle.wire_posts.specs.declared.fault.WrittenFault.{WrittenFault}
use Rattle.wire_posts.specs.declared.fault.WrittenFault.TheVariants.{NotProfileDocument, VersionMismatch, NotEnvelope, MustUnderstand, HeaderRequired, InvalidHeader, ActionNotSupported, Protocol, Other}

-- the namespace of a protocol's fault
abbrev pub protocol_space : Fault → List ℕ
protocol_space faults.InvalidState = coordination
protocol_space faults.InvalidProtocol = coordination
protocol_space faults.InvalidParameters = coordination
protocol_space faults.CannotCreateContext = coordination
protocol_space faults.CannotRegisterParticipant = coordination
protocol_space faults.UnknownTransaction = transaction

-- the text that a reader is told of it
abbrev pub protocol_text : Fault → List ℕ
protocol_text faults.InvalidState = codes "invalid state"
protocol_text faults.InvalidProtocol = codes "invalid protocol"
protocol_text faults.InvalidParameters = codes "invalid parameters"
protocol_text faults.CannotCreateContext = codes "cannot create context"
protocol_text faults.CannotRegisterParticipant = codes "cannot register participant"
protocol_text faults.UnknownTransaction = codes "unknown transaction"

-- the namespace of its code
abbrev pub space_of : WrittenFault → List ℕ
space_of NotProfileDocument = soap
space_of VersionMismatch = soap
space_of NotEnvelope = soap
space_of MustUnderstand = soap
space_of HeaderRequired = addressing
space_of InvalidHeader = addressing
space_of ActionNotSupported = addressing
space_of (Protocol fault) = protocol_space fault
space_of Other = soap

-- the local name of its code
abbrev pub name_of : WrittenFault → List ℕ
name_of NotProfileDocument = codes "Client"
name_of VersionMismatch = codes "VersionMismatch"
name_of NotEnvelope = codes "Client"
name_of MustUnderstand = codes "MustUnderstand"
name_of HeaderRequired = codes "MessageAddressingHeaderRequired"
name_of InvalidHeader = codes "InvalidAddressingHeader"
name_of ActionNotSupported = codes "ActionNotSupported"
name_of (Protocol fault) = fault_name fault
name_of Other = codes "Server"

-- the text that a reader is told
abbrev pub text_of : WrittenFault → List ℕ
text_of NotProfileDocument = codes "not a profile document"
text_of VersionMismatch = codes "wrong envelope version"
text_of NotEnvelope = codes "not an envelope"
text_of MustUnderstand = codes "header not understood"
text_of HeaderRequired = codes "header required"
text_of InvalidHeader = codes "invalid header"
text_of ActionNotSupported = codes "action not supported"
text_of (Protocol fault) = protocol_text fault
text_of Other = codes "other fault"

-- the action: a fault of SOAP has one of WS-Addressing's (SOAP Binding, section 6), another that of its namespace
abbrev pub fault_action : WrittenFault → List ℕ
fault_action fault =
    if bytes_eq (space_of fault) soap then addressing ++ codes "/soap/fault" else space_of fault ++ codes "/fault"

-- the name of the element in its detail: a protocol's fault has one, of its own name
abbrev pub detail_of : WrittenFault → Option QName
detail_of (Protocol fault) = Some (qualified (protocol_space fault) (fault_name fault))
detail_of fault = None

-- a fault of a protocol, or another
abbrev pub protocol_or : Option Fault → WrittenFault
protocol_or (Some fault) = Protocol fault
protocol_or None = Other

-- the fault of a name
abbrev pub written_named : List ℕ → WrittenFault
written_named name = protocol_or (fault_named name)

abbrev pub fault_body : WrittenFault → Tree
fault_body fault = fault_tree (space_of fault) (name_of fault) (text_of fault) (detail_of fault)

-- the fault that a refusal is answered with: none where the answer has no body
abbrev pub refusal_fault : Refusal → Option WrittenFault
refusal_fault refusals.TooLong = None
refusal_fault (refusals.NotUtf8 place) = Some NotProfileDocument
refusal_fault refusals.NotSpelled = Some NotProfileDocument
refusal_fault refusals.TooDeep = Some NotProfileDocument
refusal_fault refusals.TooMany = Some NotProfileDocument
refusal_fault refusals.VersionMismatch = Some VersionMismatch
refusal_fault refusals.NotEnvelope = Some NotEnvelope
refusal_fault (refusals.MustUnderstand name) = Some MustUnderstand
refusal_fault (refusals.MissingHeader name) = Some HeaderRequired
refusal_fault (refusals.InvalidHeader name) = Some InvalidHeader
refusal_fault refusals.NoTarget = None
refusal_fault refusals.Action = Some ActionNotSupported
refusal_fault (refusals.Parameters name) = Some (Protocol faults.InvalidParameters)
refusal_fault refusals.NoMemory = None

-- its only header is the action
abbrev pub refusal_tree : WrittenFault → Tree
refusal_tree fault = envelope_tree (text_element (codes "Action") (fault_action fault) ∷ []) (fault_body fault)

-- none where the answer has no body
abbrev pub answer_text : Option WrittenFault → Option (List ℕ)
answer_text None = None
answer_text (Some fault) = Some (canonical_text (refusal_tree fault))

abbrev pub refusal_text : Refusal → Option (List ℕ)
refusal_text refusal = answer_text (refusal_fault refusal)

-- the HTTP status of the answer (RFC 9110, sections 15.5.5, 15.5.14, 15.6.1 and 15.6.4; SOAP 1.1, section 6.2)
abbrev pub refusal_status : Refusal → ℕ
refusal_status refusals.TooLong = 413
refusal_status refusals.NoTarget = 404
refusal_status refusals.NoMemory = 503
refusal_status (refusals.NotUtf8 place) = 500
refusal_status refusals.NotSpelled = 500
refusal_status refusals.TooDeep = 500
refusal_status refusals.TooMany = 500
refusal_status refusals.VersionMismatch = 500
refusal_status refusals.NotEnvelope = 500
refusal_status (refusals.MustUnderstand name) = 500
refusal_status (refusals.MissingHeader name) = 500
refusal_status (refusals.InvalidHeader name) = 500
refusal_status refusals.Action = 500
refusal_status (refusals.Parameters name) = 500

pub action_of_a_state : fault_action (Protocol faults.InvalidState) ≡ codes "http://docs.oasis-open.org/ws-tx/wscoor/2006/06/fault"
action_of_a_state = refl

pub fault_of_a_name : written_named (codes "UnknownTransaction") ≡ Protocol faults.UnknownTransaction
fault_of_a_name = refl
