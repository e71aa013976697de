-- What a body that is written is read as.
use Rattle.std.proofs.Common.{◌≡◌, ◌≤◌, ℕ, List, [], ◌∷◌, length, Bool, true, false, IfSome, Option, Some, None, Result, Ok, Err, refl, ap, subst, sym, ◌∙◌, cond}
use Rattle.std.specs.Prelude.{codes, nat_le}
use Rattle.std.specs.Option.{option_map}
use Rattle.std.proofs.lemmas.Bool.{le-leb}
use Rattle.std.proofs.lemmas.List.{append-nil}
use Rattle.std.proofs.lemmas.Slice.Eq.{bytes_eq-Decides}
use Rattle.xml_profile.specs.declared.name.QName.{QName}
use Rattle.xml_profile.specs.declared.tree.Tree.{Tree}
use Rattle.xml_profile.specs.Prefixes.{coordination as coordination_space, soap as soap_space}
use Rattle.soap_profile.specs.BuiltElements.{qualified, text_children}
use Rattle.soap_profile.specs.Faults.{fault_of}
use Rattle.soap_profile.specs.Values.{direct_text, is_named, text_value, trim}
use Rattle.at_base.specs.declared.limits.TheConstants.{MOST_FIELD}
use Rattle.at_base.specs.Names.{fault_name}
use Rattle.at_base.specs.declared.fault.Fault.{Fault}
use Rattle.at_base.specs.declared.fault.Fault.TheVariants as faults
use Rattle.at_base.specs.declared.epr.Epr.{Epr}
use Rattle.at_base.specs.declared.message.Context.{Context}
use Rattle.at_base.specs.declared.message.Create.{Create}
use Rattle.at_base.specs.declared.message.Register.{Register}
use Rattle.at_base.specs.declared.message.Work.{Work}
use Rattle.at_base.specs.declared.message.Message.{Message}
use Rattle.at_base.specs.declared.message.Message.TheVariants as messages
use Rattle.at_base.specs.declared.notice.Kind.{Kind}
use Rattle.at_base.specs.declared.notice.Kind.TheVariants as kinds
use Rattle.at_base.specs.declared.notice.Vote.{Vote}
use Rattle.at_base.specs.declared.notice.Vote.TheVariants as votes
use Rattle.at_base.specs.declared.target.Target.{Target}
use Rattle.addressing.specs.Message.{Headers}
use Rattle.addressing.specs.declared.writer.Endpoint.{Endpoint}
use Rattle.addressing.specs.StoredEndpoints.{IsEndpointOf}
use Rattle.addressing.specs.OutgoingHeaders.{IsTrimmed, context_block, epr_in}
use Rattle.addressing.proofs.EndpointRoundtrip.{endpoint_returns}
use Rattle.context.specs.declared.parameter.ContextFault.{ContextFault}
use Rattle.context.specs.declared.parameter.Parameter.TheVariants.{RegistrationService, CurrentContext, CoordinationContext, ParticipantProtocolService, CoordinatorProtocolService}
use Rattle.context.specs.declared.writer.OutgoingContext.{OutgoingContext}
use Rattle.context.specs.declared.writer.OutgoingCreate.{OutgoingCreate}
use Rattle.context.specs.declared.writer.OutgoingRegister.{OutgoingRegister}
use Rattle.context.specs.Bodies.{context_of, create_of, create_response_of, is_identifier, readable as context_readable, register_of, register_response_of}
use Rattle.context.specs.BodyTrees.{CurrentReturns, IsLegibleContext, IsLegibleCreate, IsLegibleRegister, IsNarrow, context_in as context_read_in, context_tree, create_in, create_tree, parameter_name, register_in, register_response_tree, register_tree}
use Rattle.context.proofs.BodyRoundtrip.{context_returns, create_returns, register_returns}
use Rattle.endpoints.specs.declared.form.Form.{Form}
use Rattle.endpoints.specs.declared.form.Form.TheVariants as forms
use Rattle.wire_msgs.specs.declared.part.Part.{Part}
use Rattle.wire_msgs.specs.declared.part.Part.TheVariants as parts
use Rattle.wire_msgs.specs.declared.refusal.ParameterName.TheVariants.{Body}
use Rattle.wire_msgs.specs.declared.refusal.Refusal.{Refusal}
use Rattle.wire_msgs.specs.declared.refusal.Refusal.TheVariants.{Action, Parameters}
use Rattle.wire_msgs.specs.Arrivals.{fault_at, message_of, named_at, said_at}
use Rattle.wire_msgs.specs.Bodies.{body_of, kind_in, readable, short, vote_in, work_of}
use Rattle.endpoints.specs.Forms.{form_of, takes_fault, takes_form}
use Rattle.wire_msgs.specs.Forms.{action_of, form_at, local_of, space_of}
use Rattle.wire_msgs.specs.Refusals.{coordination, fault, ◌>>=◌}
use Rattle.wire_msgs.proofs.Forms.{actions_differ}
use Rattle.wire_posts.specs.Envelopes.{AreBoth, IsBodyOf, IsContextOf, IsCreateOf, IsRegisterOf, IsWorkContext, context_in, work_part, work_tree}
use Rattle.wire_posts.specs.Faults.{fault_body, written_named}
use Rattle.wire_msgs.specs.WholeMessages.{IsWholeContext, IsWholeCreate, IsWholeEndpoint, IsWholeRegister, IsWholeWork}
use Rattle.wire_posts.specs.Returns.{CanBeWritten, IsProtocolFault}
use Rattle.wire_posts.proofs.Ends.{IsRead, is_read}

abbrev IsContextRead : Context → Option Tree → Type 0
IsContextRead context None = ⊥
IsContextRead context (Some header) = context_of header ≡ Ok context

abbrev pub named : Tree → QName
named t = t.name

some_form : (a b : Form) → Some a ≡ Some b → a ≡ b
some_form a b e = cc

-- what is written is the body of a message of this form
pub record IsSaid (form : Form) (context : Option Tree) (message : Message) (body : Tree) : Type 0 where
  pub named : body.name ≡ qualified (space_of form) (local_of form)
  pub said : body_of form context body ≡ Ok message

-- contexts

legible_context : (context : Context) (out : OutgoingContext) → IsContextOf context out → IsWholeContext context → IsLegibleContext out
legible_context context out h w = record {
  identifier = subst IsTrimmed (sym h.identifier) w.identifier.trimmed;
  within = ap is_identifier h.identifier ∙ w.within;
  coordination = subst IsTrimmed (sym h.coordination) w.coordination.trimmed;
  registration = (is_read context.registration out.registration w.registration.kept h.registration).legible;
}

same_context : (context : Context) (out : OutgoingContext) → IsContextOf context out → IsWholeContext context → context_read_in out ≡ context
same_context context out h w =
    let registration : epr_in out.registration ≡ context.registration = (is_read context.registration out.registration w.registration.kept h.registration).same in
    λ i. record { identifier = h.identifier i; expires = h.expires i; coordination = h.coordination i; registration = registration i }

pub context_read : (context : Context) (out : OutgoingContext) (name : QName) → IsContextOf context out → IsWholeContext context
    → context_of (context_tree out name) ≡ Ok context
context_read context out name h w =
    context_returns out name (endpoint_returns out.registration (parameter_name RegistrationService)) (subst IsNarrow (sym h.expires) w.expires)
    (legible_context context out h w)
    ∙ ap Ok (same_context context out h w)

-- Create

current_legible : (current : Option Context) (out : Option OutgoingContext) → AreBoth IsContextOf current out → IfSome current IsWholeContext
    → IfSome out IsLegibleContext
current_legible None None h w = tt
current_legible None (Some out) h w = absurd h
current_legible (Some context) None h w = absurd h
current_legible (Some context) (Some out) h w = legible_context context out h w

current_same : (current : Option Context) (out : Option OutgoingContext) → AreBoth IsContextOf current out → IfSome current IsWholeContext
    → option_map context_read_in out ≡ current
current_same None None h w = refl
current_same None (Some out) h w = absurd h
current_same (Some context) None h w = absurd h
current_same (Some context) (Some out) h w = ap Some (same_context context out h w)

current_returns : (current : Option Context) (out : Option OutgoingContext) → AreBoth IsContextOf current out → IfSome current IsWholeContext
    → CurrentReturns out
current_returns None None h w = tt
current_returns None (Some out) h w = absurd h
current_returns (Some context) None h w = absurd h
current_returns (Some context) (Some out) h w = λ legible.
    context_returns out (parameter_name CurrentContext) (endpoint_returns out.registration (parameter_name RegistrationService))
    (subst IsNarrow (sym h.expires) w.expires) legible

create_read : (body : Create) (out : OutgoingCreate) → IsCreateOf body out → IsWholeCreate body → create_of (create_tree out) ≡ Ok body
create_read body out h w =
    let legible : IsLegibleCreate out = record {
      current = current_legible body.current out.current h.current w.current;
      coordination = subst IsTrimmed (sym h.coordination) w.coordination.trimmed;
    } in
    let current : option_map context_read_in out.current ≡ body.current = current_same body.current out.current h.current w.current in
    let same : create_in out ≡ body = λ i. record { expires = h.expires i; current = current i; coordination = h.coordination i } in
    create_returns out (subst IsNarrow (sym h.expires) w.expires) (current_returns body.current out.current h.current w.current) legible
    ∙ ap Ok same

-- Register

register_read : (body : Register) (out : OutgoingRegister) → IsRegisterOf body out → IsWholeRegister body → register_of (register_tree out) ≡ Ok body
register_read body out h w =
    let read : IsRead body.participant out.participant = is_read body.participant out.participant w.participant.kept h.participant in
    let legible : IsLegibleRegister out = record { protocol = subst IsTrimmed (sym h.protocol) w.protocol.trimmed; participant = read.legible } in
    let same : register_in out ≡ body = λ i. record { protocol = h.protocol i; participant = read.same i } in
    register_returns out (endpoint_returns out.participant (parameter_name ParticipantProtocolService)) legible ∙ ap Ok same

coordinator_read : (epr : Epr) (out : Endpoint) → IsEndpointOf epr out → IsWholeEndpoint epr → register_response_of (register_response_tree out) ≡ Ok epr
coordinator_read epr out h w =
    let read : IsRead epr out = is_read epr out w.kept h in
    ap (context_readable CoordinatorProtocolService) (endpoint_returns out (parameter_name CoordinatorProtocolService) read.legible)
    ∙ ap Ok read.same

-- Work

texted : (text : List ℕ) → direct_text (text_children text) ≡ text
texted [] = refl
texted (c ∷ cs) = append-nil (c ∷ cs)

part_returns : (part : Part) (text : List ℕ) → IsTrimmed text → text_value (work_part part text) ≡ text
part_returns part text e = ap trim (texted text) ∙ e

short_by : (fits : Bool) (part : Part) (text : List ℕ) → fits ≡ true → readable part (cond fits (Some text) None) ≡ Ok text
short_by true part text h = refl
short_by false part text h = absurd cc

short_returns : (part : Part) (text : List ℕ) → IsTrimmed text → length text ≤ MOST_FIELD
    → readable part (short (text_value (work_part part text))) ≡ Ok text
short_returns part text e h =
    ap (λ (t : List ℕ). readable part (short t)) (part_returns part text e)
    ∙ short_by (nat_le (length text) MOST_FIELD) part text (le-leb (length text) MOST_FIELD h)

kind_returns : (key value : List ℕ) (context : Context) (kind : Kind) (vote : Vote)
    → kind_in (work_tree (record { context = context; key = key; value = value; kind = kind; vote = vote })) ≡ Ok kind
kind_returns key value context kinds.Durable vote = refl
kind_returns key value context kinds.Volatile vote = refl

vote_returns : (key value : List ℕ) (context : Context) (kind : Kind) (vote : Vote)
    → vote_in (work_tree (record { context = context; key = key; value = value; kind = kind; vote = vote })) ≡ Ok vote
vote_returns key value context kind votes.Prepared = refl
vote_returns key value context kind votes.ReadOnly = refl
vote_returns key value context kind votes.Aborted = refl

-- the parts of a Work together
abbrev worked : Result Context ContextFault → Result (List ℕ) Refusal → Result (List ℕ) Refusal → Result Kind Refusal → Result Vote Refusal → Result Work Refusal
worked said_context said_key said_value said_kind said_vote = do
  context ← coordination said_context
  key ← said_key
  value ← said_value
  kind ← said_kind
  vote ← said_vote
  Ok (record { context = context; key = key; value = value; kind = kind; vote = vote })

work_parts : (header : Tree) (body : Work)
    → work_of (Some header) (work_tree body)
    ≡ worked (context_of header) (readable parts.Key (short (text_value (work_part parts.Key body.key))))
    (readable parts.Value (short (text_value (work_part parts.Value body.value)))) (kind_in (work_tree body)) (vote_in (work_tree body))
work_parts header body = refl

work_read : (header : Tree) (body : Work) → context_of header ≡ Ok body.context → IsWholeWork body
    → work_of (Some header) (work_tree body) ≡ Ok body
work_read header body h w =
    work_parts header body
    ∙ (λ i. worked (h i) (short_returns parts.Key body.key w.key.trimmed w.short_key i) (short_returns parts.Value body.value w.value.trimmed w.short_value i)
    (kind_returns body.key body.value body.context body.kind body.vote i) (vote_returns body.key body.value body.context body.kind body.vote i))

work_under : (context : Option Tree) (body : Work) → IsContextRead body.context context → IsWholeWork body
    → work_of context (work_tree body) ≡ Ok body
work_under None body h w = absurd h
work_under (Some header) body h w = work_read header body h w

-- the header of a Work is read as its context
abbrev pub ContextRead : Message → Option Tree → Type 0
ContextRead (messages.Work body) context = IsContextRead body.context context
ContextRead message context = Unit {0}

block_read : (context : Context) (out : Option Tree) → AreBoth IsWorkContext (Some context) out → IsWholeContext context
    → IsContextRead context (option_map context_block out)
block_read context None h w = absurd h
block_read context (Some t) h w =
    ap context_of h.whole ∙ context_read context h.out (qualified coordination_space (codes "CoordinationContext")) h.of w

pub contexts_read : (message : Message) (out : Option Tree) → AreBoth IsWorkContext (context_in message) out → CanBeWritten message
    → ContextRead message (option_map context_block out)
contexts_read (messages.Work body) out h w = block_read body.context out h w.context
contexts_read message out h w = tt

-- faults

fault_read : (fault : Fault) → fault_of (fault_body (written_named (fault_name fault))) ≡ Ok (fault_name fault)
fault_read faults.InvalidState = refl
fault_read faults.InvalidProtocol = refl
fault_read faults.InvalidParameters = refl
fault_read faults.CannotCreateContext = refl
fault_read faults.CannotRegisterParticipant = refl
fault_read faults.UnknownTransaction = refl

-- each message, as the headers name it

form_named : (form : Form) → is_named (qualified (space_of form) (local_of form)) (space_of form) (local_of form) ≡ true
form_named form = rw ((bytes_eq-Decides (space_of form) (space_of form)).1 refl, (bytes_eq-Decides (local_of form) (local_of form)).1 refl) refl

pub no_fault : (form : Form) → is_named (qualified (space_of form) (local_of form)) soap_space (codes "Fault") ≡ false
no_fault forms.Create = refl
no_fault forms.CreateResponse = refl
no_fault forms.Register = refl
no_fault forms.RegisterResponse = refl
no_fault (forms.Notice notice) = refl
no_fault forms.Work = refl
no_fault forms.WorkDone = refl
no_fault forms.WorkRefused = refl

pub said_message : (form : Form) (headers : Headers) (target : Target) (message : Message) (body : Tree)
    → IsSaid form headers.context message body → headers.action ≡ action_of form → takes_form target form ≡ true
    → message_of headers target body ≡ Ok message
said_message form headers target message body h a t =
    let other : is_named body.name soap_space (codes "Fault") ≡ false = ap (λ n. is_named n soap_space (codes "Fault")) h.named ∙ no_fault form in
    let own : is_named body.name (space_of form) (local_of form) ≡ true = ap (λ n. is_named n (space_of form) (local_of form)) h.named ∙ form_named form in
    let found : form_at headers.action ≡ Some form = ap form_at a ∙ actions_differ form in
    ap (λ b. cond b (fault_at target body) (said_at (form_at headers.action) headers.context target body)) other
    ∙ (ap (λ f. said_at f headers.context target body) found
    ∙ (ap (λ b. cond b (named_at form headers.context body) (Err Action)) t
    ∙ (ap (λ b. cond b (body_of form headers.context body) (Err (Parameters Body))) own ∙ h.said)))

pub fault_message : (name : List ℕ) (headers : Headers) (target : Target) → IsProtocolFault name → takes_fault target ≡ true
    → message_of headers target (fault_body (written_named name)) ≡ Ok (messages.Fault name)
fault_message name headers target h t =
    let body : Tree = fault_body (written_named name) in
    let said : fault_of body ≡ Ok name =
    subst (λ n. fault_of (fault_body (written_named n)) ≡ Ok n) (sym h.named) (fault_read h.fault) in
    ap (λ b. cond b (fault (fault_of body) >>= λ n. Ok (messages.Fault n)) (Err Action)) t
    ∙ ap (λ r. fault r >>= λ n. Ok (messages.Fault n)) said

-- what a form's body says
pub said_body : (message : Message) (form : Form) → form_of message ≡ Some form → (context : Option Tree) (body : Tree) → IsBodyOf message body
    → CanBeWritten message → ContextRead message context → IsSaid form context message body
said_body (messages.Create create) form e context body h w k =
    subst (λ f. IsSaid f context (messages.Create create) body) (some_form forms.Create form e)
    (record { named = ap named h.whole; said = ap (λ r. coordination r >>= λ b. Ok (messages.Create b)) (ap create_of h.whole ∙ create_read create h.out h.of w) })
said_body (messages.CreateResponse given) form e context body h w k =
    subst (λ f. IsSaid f context (messages.CreateResponse given) body) (some_form forms.CreateResponse form e)
    (record {
      named = ap named h.whole;
      said =
          ap (λ r. coordination r >>= λ b. Ok (messages.CreateResponse b))
          (ap create_response_of h.whole ∙ context_read given h.out (parameter_name CoordinationContext) h.of w);
    })
said_body (messages.Register register) form e context body h w k =
    subst (λ f. IsSaid f context (messages.Register register) body) (some_form forms.Register form e)
    (record { named = ap named h.whole; said = ap (λ r. coordination r >>= λ b. Ok (messages.Register b)) (ap register_of h.whole ∙ register_read register h.out h.of w) })
said_body (messages.RegisterResponse coordinator) form e context body h w k =
    subst (λ f. IsSaid f context (messages.RegisterResponse coordinator) body) (some_form forms.RegisterResponse form e)
    (record {
      named = ap named h.whole;
      said =
          ap (λ r. coordination r >>= λ b. Ok (messages.RegisterResponse b))
          (ap register_response_of h.whole ∙ coordinator_read coordinator h.out h.of w);
    })
said_body (messages.Notice notice) form e context body h w k =
    subst (λ f. IsSaid f context (messages.Notice notice) body) (some_form (forms.Notice notice) form e) (record { named = ap named h; said = refl })
said_body (messages.Work work) form e context body h w k =
    subst (λ f. IsSaid f context (messages.Work work) body) (some_form forms.Work form e)
    (record { named = ap named h; said = ap (λ r. r >>= λ b. Ok (messages.Work b)) (ap (work_of context) h ∙ work_under context work k w) })
said_body messages.WorkDone form e context body h w k =
    subst (λ f. IsSaid f context messages.WorkDone body) (some_form forms.WorkDone form e) (record { named = ap named h; said = refl })
said_body messages.WorkRefused form e context body h w k =
    subst (λ f. IsSaid f context messages.WorkRefused body) (some_form forms.WorkRefused form e) (record { named = ap named h; said = refl })
said_body (messages.Fault name) form e context body h w k = absurd cc
