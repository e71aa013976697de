-- The body of a message without reference parameters is small.
use Rattle.std.proofs.Common.{ℕ, List, [], ◌∷◌, Option, Some, None, IfSome, sym, subst}
use Rattle.std.specs.Prelude.{codes}
use Rattle.xml_profile.specs.declared.name.QName.{QName}
use Rattle.xml_profile.specs.declared.tree.Tree.{Tree}
use Rattle.xml_profile.specs.Prefixes.{coordination, soap, work}
use Rattle.soap_profile.specs.BuiltElements.{qualified, unqualified}
use Rattle.soap_profile.specs.Faults.{code_text, detail_of as detail_trees}
use Rattle.at_base.specs.Names.{kind_name, vote_name}
use Rattle.at_base.specs.declared.message.Context.{Context}
use Rattle.at_base.specs.declared.message.Message.{Message}
use Rattle.at_base.specs.declared.message.Message.TheVariants as messages
use Rattle.at_base.specs.declared.message.Work.{Work}
use Rattle.context.specs.declared.parameter.Parameter.TheVariants.{CoordinationType, CurrentContext, CoordinationContext, ProtocolIdentifier, ParticipantProtocolService, CoordinatorProtocolService}
use Rattle.context.specs.declared.writer.OutgoingContext.{OutgoingContext}
use Rattle.context.specs.BodyTrees.{current_parameter, parameter_name}
use Rattle.endpoints.specs.declared.form.Form.{Form}
use Rattle.endpoints.specs.declared.form.Form.TheVariants as forms
use Rattle.provenance.specs.Forms.{IsMessage}
use Rattle.wire_msgs.specs.declared.part.Part.{Part}
use Rattle.wire_msgs.specs.declared.part.Part.TheVariants as parts
use Rattle.wire_msgs.specs.Forms.{local_of, space_of}
use Rattle.wire_msgs.specs.Parts.{part_name}
use Rattle.wire_posts.specs.declared.fault.WrittenFault.{WrittenFault}
use Rattle.wire_posts.specs.Envelopes.{AreBoth, IsBodyOf, IsContextOf, empty_tree, work_part, work_tree}
use Rattle.wire_posts.specs.Faults.{detail_of, fault_body, name_of, space_of as fault_space, text_of, written_named}
use Rattle.small_envelopes.specs.SmallEnvelopes.{bare}
use Rattle.small_envelopes.proofs.SmallParts.{context_small, endpoint_small, expires_small}
use Rattle.small_envelopes.proofs.SmallTrees.{AreSmall, both_small, element_small, empty_small, none_small, text_small}

current_small : (current : Option Context) (out : Option OutgoingContext) → IfSome current bare.context → AreBoth IsContextOf current out
    → AreSmall 3 6 (current_parameter out)
current_small None None b h = none_small 3 6
current_small None (Some out) b h = absurd h
current_small (Some context) None b h = absurd h
current_small (Some context) (Some out) b h = context_small 0 context out (parameter_name CurrentContext) b h

part_small : (part : Part) (text : List ℕ) → AreSmall 3 1 (work_part part text ∷ [])
part_small part text = text_small 2 (qualified work (part_name part)) text

work_small : (body : Work) → AreSmall 4 9 (work_tree body ∷ [])
work_small body =
    element_small (qualified work (codes "Work"))
    (both_small (part_small parts.Key body.key)
    (both_small (part_small parts.Value body.value)
    (both_small (part_small parts.Kind (kind_name body.kind))
    (both_small (part_small parts.Vote (vote_name body.vote)) (none_small 3 4)))))

form_small : (form : Form) → AreSmall 4 9 (empty_tree form ∷ [])
form_small form = element_small (qualified (space_of form) (local_of form)) (none_small 3 8)

detail_small : (detail : Option QName) → AreSmall 3 6 (detail_trees detail)
detail_small None = none_small 3 6
detail_small (Some name) = element_small (unqualified (codes "detail")) (both_small (empty_small 1 name) (none_small 2 4))

fault_small : (fault : WrittenFault) → AreSmall 4 9 (fault_body fault ∷ [])
fault_small fault =
    element_small (qualified soap (codes "Fault"))
    (both_small (text_small 2 (unqualified (codes "faultcode")) (code_text (fault_space fault) (name_of fault)))
    (both_small (text_small 2 (unqualified (codes "faultstring")) (text_of fault)) (detail_small (detail_of fault))))

abbrev IsSmallBody : Tree → Type 0
IsSmallBody t = AreSmall 4 9 (t ∷ [])

pub body_small : (message : Message) (body : Tree) → IsMessage bare message → IsBodyOf message body → IsSmallBody body
body_small (messages.Create create) body b h =
    subst IsSmallBody (sym h.whole)
    (element_small (qualified coordination (codes "CreateCoordinationContext"))
    (both_small (both_small (expires_small 2 h.out.expires) (current_small create.current h.out.current b.1 h.of.current))
    (text_small 2 (parameter_name CoordinationType) h.out.coordination)))
body_small (messages.CreateResponse context) body b h =
    subst IsSmallBody (sym h.whole)
    (element_small (qualified coordination (codes "CreateCoordinationContextResponse"))
    (both_small (context_small 0 context h.out (parameter_name CoordinationContext) b h.of) (none_small 3 2)))
body_small (messages.Register register) body b h =
    subst IsSmallBody (sym h.whole)
    (element_small (qualified coordination (codes "Register"))
    (both_small (text_small 2 (parameter_name ProtocolIdentifier) h.out.protocol)
    (both_small (endpoint_small 1 register.participant h.out.participant (parameter_name ParticipantProtocolService) b.1 h.of.participant) (none_small 3 5))))
body_small (messages.RegisterResponse coordinator) body b h =
    subst IsSmallBody (sym h.whole)
    (element_small (qualified coordination (codes "RegisterResponse"))
    (both_small (endpoint_small 1 coordinator h.out (parameter_name CoordinatorProtocolService) b h.of) (none_small 3 6)))
body_small (messages.Notice notice) body b h = subst IsSmallBody (sym h) (form_small (forms.Notice notice))
body_small (messages.Work asked) body b h = subst IsSmallBody (sym h) (work_small asked)
body_small messages.WorkDone body b h = subst IsSmallBody (sym h) (form_small forms.WorkDone)
body_small messages.WorkRefused body b h = subst IsSmallBody (sym h) (form_small forms.WorkRefused)
body_small (messages.Fault name) body b h = subst IsSmallBody (sym h) (fault_small (written_named name))
