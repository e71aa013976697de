-- The body of a brief message is short.
use Rattle.std.proofs.Common.{◌≡◌, ℕ, true, List, [], ◌∷◌, Option, Some, None, IfSome, length, refl, sym, subst, arith, leb-true}
use Rattle.std.specs.Prelude.{codes, nat_le}
use Rattle.xml_profile.specs.declared.tree.Tree.{Tree}
use Rattle.xml_profile.specs.Prefixes.{coordination, soap, work}
use Rattle.soap_profile.specs.BuiltElements.{qualified, unqualified}
use Rattle.soap_profile.specs.Faults.{code_text, detail_of as detail_trees}
use Rattle.at_base.specs.Names.{fault_name, kind_name, vote_name}
use Rattle.at_base.specs.declared.fault.Fault.{Fault}
use Rattle.at_base.specs.declared.fault.Fault.TheVariants as faults
use Rattle.at_base.specs.declared.message.Context.{Context}
use Rattle.at_base.specs.declared.message.Message.{Message}
use Rattle.at_base.specs.declared.message.Message.TheVariants as messages
use Rattle.at_base.specs.declared.message.Work.{Work}
use Rattle.at_base.specs.declared.notice.Kind.{Kind}
use Rattle.at_base.specs.declared.notice.Kind.TheVariants as kinds
use Rattle.at_base.specs.declared.notice.Notice.TheVariants as notices
use Rattle.at_base.specs.declared.notice.Vote.{Vote}
use Rattle.at_base.specs.declared.notice.Vote.TheVariants as votes
use Rattle.context.specs.declared.parameter.Parameter.TheVariants.{CoordinationType, CurrentContext, CoordinationContext, ProtocolIdentifier, ParticipantProtocolService, CoordinatorProtocolService}
use Rattle.context.specs.declared.writer.OutgoingContext.{OutgoingContext}
use Rattle.context.specs.BodyTrees.{IsNarrow, current_parameter, parameter_name}
use Rattle.endpoints.specs.declared.form.Form.{Form}
use Rattle.endpoints.specs.declared.form.Form.TheVariants as forms
use Rattle.provenance.specs.Forms.{IsMessage}
use Rattle.wire_msgs.specs.declared.part.Part.{Part}
use Rattle.wire_msgs.specs.declared.part.Part.TheVariants as parts
use Rattle.wire_msgs.specs.Forms.{local_of, space_of}
use Rattle.wire_msgs.specs.Parts.{part_name}
use Rattle.wire_posts.specs.declared.fault.WrittenFault.{WrittenFault}
use Rattle.wire_posts.specs.declared.fault.WrittenFault.TheVariants as written
use Rattle.wire_posts.specs.Envelopes.{AreBoth, IsBodyOf, IsContextOf, empty_tree, work_part, work_tree}
use Rattle.wire_posts.specs.Faults.{detail_of, fault_body, name_of, protocol_space, space_of as fault_space, text_of, written_named}
use Rattle.small_envelopes.specs.ShortEnvelopes.{IsBrief, IsBriefContext, brief}
use Rattle.small_envelopes.proofs.ShortParts.{context_short, endpoint_short, expires_short, same_brief}
use Rattle.small_envelopes.proofs.ShortTrees.{AreShort, both_short, element_short, none_short, text_short, within}
use Rattle.small_envelopes.proofs.TextLengths.{is_plain}

current_short : (current : Option Context) (out : Option OutgoingContext) → IfSome current IsBriefContext → AreBoth IsContextOf current out
    → AreShort 8120 (current_parameter out)
current_short None None b h = none_short 8120
current_short None (Some out) b h = absurd h
current_short (Some context) None b h = absurd h
current_short (Some context) (Some out) b h = context_short context out (parameter_name CurrentContext) refl b h

-- names

part_plain : (part : Part) → is_plain (qualified work (part_name part)) ≡ true
part_plain parts.Key = refl
part_plain parts.Value = refl
part_plain parts.Kind = refl
part_plain parts.Vote = refl

form_plain : (form : Form) → is_plain (qualified (space_of form) (local_of form)) ≡ true
form_plain forms.Create = refl
form_plain forms.CreateResponse = refl
form_plain forms.Register = refl
form_plain forms.RegisterResponse = refl
form_plain (forms.Notice notices.Prepare) = refl
form_plain (forms.Notice notices.Commit) = refl
form_plain (forms.Notice notices.Rollback) = refl
form_plain (forms.Notice notices.Prepared) = refl
form_plain (forms.Notice notices.ReadOnly) = refl
form_plain (forms.Notice notices.Aborted) = refl
form_plain (forms.Notice notices.Committed) = refl
form_plain forms.Work = refl
form_plain forms.WorkDone = refl
form_plain forms.WorkRefused = refl

detail_plain : (fault : Fault) → is_plain (qualified (protocol_space fault) (fault_name fault)) ≡ true
detail_plain faults.InvalidState = refl
detail_plain faults.InvalidProtocol = refl
detail_plain faults.InvalidParameters = refl
detail_plain faults.CannotCreateContext = refl
detail_plain faults.CannotRegisterParticipant = refl
detail_plain faults.UnknownTransaction = refl

-- texts

kind_brief : (kind : Kind) → IsBrief (kind_name kind)
kind_brief kinds.Durable = omega arith
kind_brief kinds.Volatile = omega arith

vote_brief : (vote : Vote) → IsBrief (vote_name vote)
vote_brief votes.Prepared = omega arith
vote_brief votes.ReadOnly = omega arith
vote_brief votes.Aborted = omega arith

code_brief : (fault : WrittenFault) → nat_le (length (code_text (fault_space fault) (name_of fault))) 256 ≡ true
code_brief written.NotProfileDocument = refl
code_brief written.VersionMismatch = refl
code_brief written.NotEnvelope = refl
code_brief written.MustUnderstand = refl
code_brief written.HeaderRequired = refl
code_brief written.InvalidHeader = refl
code_brief written.ActionNotSupported = refl
code_brief (written.Protocol faults.InvalidState) = refl
code_brief (written.Protocol faults.InvalidProtocol) = refl
code_brief (written.Protocol faults.InvalidParameters) = refl
code_brief (written.Protocol faults.CannotCreateContext) = refl
code_brief (written.Protocol faults.CannotRegisterParticipant) = refl
code_brief (written.Protocol faults.UnknownTransaction) = refl
code_brief written.Other = refl

reason_brief : (fault : WrittenFault) → nat_le (length (text_of fault)) 256 ≡ true
reason_brief written.NotProfileDocument = refl
reason_brief written.VersionMismatch = refl
reason_brief written.NotEnvelope = refl
reason_brief written.MustUnderstand = refl
reason_brief written.HeaderRequired = refl
reason_brief written.InvalidHeader = refl
reason_brief written.ActionNotSupported = refl
reason_brief (written.Protocol faults.InvalidState) = refl
reason_brief (written.Protocol faults.InvalidProtocol) = refl
reason_brief (written.Protocol faults.InvalidParameters) = refl
reason_brief (written.Protocol faults.CannotCreateContext) = refl
reason_brief (written.Protocol faults.CannotRegisterParticipant) = refl
reason_brief (written.Protocol faults.UnknownTransaction) = refl
reason_brief written.Other = refl

-- bodies

part_short : (part : Part) (text : List ℕ) → IsBrief text → AreShort 1780 (work_part part text ∷ [])
part_short part text b = text_short (qualified work (part_name part)) text (part_plain part) b

work_short : (body : Work) → IsBrief body.key → IsBrief body.value → AreShort 7620 (work_tree body ∷ [])
work_short body key value =
    element_short (qualified work (codes "Work")) refl
    (both_short (part_short parts.Key body.key key)
    (both_short (part_short parts.Value body.value value)
    (both_short (part_short parts.Kind (kind_name body.kind) (kind_brief body.kind)) (part_short parts.Vote (vote_name body.vote) (vote_brief body.vote)))))

form_short : (form : Form) → AreShort 12180 (empty_tree form ∷ [])
form_short form = element_short (qualified (space_of form) (local_of form)) (form_plain form) (none_short 11680)

detail_short : (fault : WrittenFault) → AreShort 1000 (detail_trees (detail_of fault))
detail_short (written.Protocol fault) =
    element_short (unqualified (codes "detail")) refl (element_short (qualified (protocol_space fault) (fault_name fault)) (detail_plain fault) (none_short 0))
detail_short written.NotProfileDocument = none_short 1000
detail_short written.VersionMismatch = none_short 1000
detail_short written.NotEnvelope = none_short 1000
detail_short written.MustUnderstand = none_short 1000
detail_short written.HeaderRequired = none_short 1000
detail_short written.InvalidHeader = none_short 1000
detail_short written.ActionNotSupported = none_short 1000
detail_short written.Other = none_short 1000

fault_short : (fault : WrittenFault) → AreShort 5060 (fault_body fault ∷ [])
fault_short fault =
    element_short (qualified soap (codes "Fault")) refl
    (both_short (text_short (unqualified (codes "faultcode")) (code_text (fault_space fault) (name_of fault)) refl (leb-true (length (code_text (fault_space fault) (name_of fault))) 256 (code_brief fault)))
    (both_short (text_short (unqualified (codes "faultstring")) (text_of fault) refl (leb-true (length (text_of fault)) 256 (reason_brief fault))) (detail_short fault)))

abbrev IsShortBody : Tree → Type 0
IsShortBody t = AreShort 12180 (t ∷ [])

pub body_short : (message : Message) (body : Tree) → IsMessage brief message → IsBodyOf message body → IsShortBody body
body_short (messages.Create create) body b h =
    subst IsShortBody (sym h.whole)
    (element_short (qualified coordination (codes "CreateCoordinationContext")) refl
    (both_short (both_short (expires_short h.out.expires (subst IsNarrow (sym h.of.expires) b.0)) (current_short create.current h.out.current b.1 h.of.current))
    (text_short (parameter_name CoordinationType) h.out.coordination refl (same_brief create.coordination h.out.coordination h.of.coordination b.2))))
body_short (messages.CreateResponse context) body b h =
    subst IsShortBody (sym h.whole)
    (within 12180 (omega arith)
    (element_short (qualified coordination (codes "CreateCoordinationContextResponse")) refl (context_short context h.out (parameter_name CoordinationContext) refl b h.of)))
body_short (messages.Register register) body b h =
    subst IsShortBody (sym h.whole)
    (within 12180 (omega arith)
    (element_short (qualified coordination (codes "Register")) refl
    (both_short (text_short (parameter_name ProtocolIdentifier) h.out.protocol refl (same_brief register.protocol h.out.protocol h.of.protocol b.0))
    (endpoint_short register.participant h.out.participant (parameter_name ParticipantProtocolService) refl b.1 h.of.participant))))
body_short (messages.RegisterResponse coordinator) body b h =
    subst IsShortBody (sym h.whole)
    (within 12180 (omega arith)
    (element_short (qualified coordination (codes "RegisterResponse")) refl (endpoint_short coordinator h.out (parameter_name CoordinatorProtocolService) refl b h.of)))
body_short (messages.Notice notice) body b h = subst IsShortBody (sym h) (form_short (forms.Notice notice))
body_short (messages.Work asked) body b h = subst IsShortBody (sym h) (within 12180 (omega arith) (work_short asked b.1 b.2))
body_short messages.WorkDone body b h = subst IsShortBody (sym h) (form_short forms.WorkDone)
body_short messages.WorkRefused body b h = subst IsShortBody (sym h) (form_short forms.WorkRefused)
body_short (messages.Fault name) body b h = subst IsShortBody (sym h) (within 12180 (omega arith) (fault_short (written_named name)))
