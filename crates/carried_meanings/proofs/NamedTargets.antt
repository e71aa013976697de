-- An envelope whose destination names a target isn't refused for want of one.
use Rattle.std.specs.Prelude.{ℕ, List, [], ◌∷◌, Option, Some, None, Bool, true, false, cond, ◌≡◌, Result, Ok, Err}
use Rattle.std.proofs.Common.{ap, sym, subst, ◌∙◌}
use Rattle.addressing.specs.Headers.{headers_of}
use Rattle.addressing.specs.Message.{Headers}
use Rattle.addressing.specs.OutgoingHeaders.{blocks_of, headers_in}
use Rattle.addressing.specs.Requests.{request_of}
use Rattle.addressing.specs.declared.headers.AddressingRefusal.{AddressingRefusal}
use Rattle.addressing.specs.declared.headers.AddressingRefusal.TheVariants as headings
use Rattle.addressing.specs.declared.writer.OutgoingHeaders.{OutgoingHeaders}
use Rattle.addressing.proofs.HeaderRoundtrip.{headers_return}
use Rattle.addressing.proofs.UnderstoodBlocks.{all_understood}
use Rattle.arrivals.specs.Worlds.{CanArrive}
use Rattle.at_base.specs.declared.message.Context.{Context}
use Rattle.at_base.specs.declared.message.Message.TheVariants as messages
use Rattle.at_base.specs.declared.message.Work.{Work}
use Rattle.at_base.specs.declared.notice.Kind.{Kind}
use Rattle.at_base.specs.declared.notice.Vote.{Vote}
use Rattle.at_base.specs.declared.outs.Post.{Post}
use Rattle.at_base.specs.declared.target.Target.{Target}
use Rattle.at_base.specs.Names.{kind_named, vote_named}
use Rattle.context.specs.Bodies.{context_of, create_of, create_response_of, register_of, register_response_of}
use Rattle.context.specs.declared.parameter.ContextFault.{ContextFault}
use Rattle.context.specs.declared.parameter.ContextFault.TheVariants as contexts
use Rattle.deliverables.proofs.LegiblePosts.{context_named, legible, to_same}
use Rattle.endpoints.specs.Forms.{takes_fault, takes_form}
use Rattle.endpoints.specs.declared.form.Form.{Form}
use Rattle.endpoints.specs.declared.form.Form.TheVariants as forms
use Rattle.soap_profile.specs.BuiltElements.{children_of}
use Rattle.soap_profile.specs.Envelopes.{enveloped, envelope_of, envelope_tree, judged, not_understood, opened, sole}
use Rattle.soap_profile.specs.Faults.{fault_of, is_fault}
use Rattle.soap_profile.specs.Values.{elements, is_named, text_value}
use Rattle.soap_profile.specs.declared.fault.FaultRefusal.{FaultRefusal}
use Rattle.soap_profile.specs.declared.fault.FaultRefusal.TheVariants as faults
use Rattle.soap_profile.proofs.Lists.{elements_of_children}
use Rattle.wire_msgs.specs.Arrivals.{arrival_in, arrival_of, arrival_under, arrived, fault_at, message_of, named_at, said_at, said_in, targeted}
use Rattle.wire_msgs.specs.Bodies.{body_of, kind_in, readable, required, short, short_in, text_in, vote_in, work_of}
use Rattle.wire_msgs.specs.Forms.{form_at, local_of, space_of}
use Rattle.wire_msgs.specs.Parts.{child_in}
use Rattle.wire_msgs.specs.Refusals.{addressing, coordination, fault, soap, ◌>>=◌}
use Rattle.wire_msgs.specs.Targets.{target_at}
use Rattle.wire_msgs.specs.declared.part.Part.{Part}
use Rattle.wire_msgs.specs.declared.part.Part.TheVariants as parts
use Rattle.wire_msgs.specs.declared.refusal.ParameterName.TheVariants.{Body}
use Rattle.wire_msgs.specs.declared.refusal.Refusal.{Refusal}
use Rattle.wire_msgs.specs.declared.refusal.Refusal.TheVariants.{Action, NoTarget, Parameters}
use Rattle.wire_posts.specs.Envelopes.{AreHeadersOf, context_in}
use Rattle.wire_posts.specs.Returns.{written_to}
use Rattle.xml_profile.specs.declared.tree.Tree.{Tree}

-- it isn't that refusal

abbrev IsOther : Refusal → Type 0
IsOther NoTarget = ⊥
IsOther refusal = Unit {0}

abbrev HasTarget : {A : Type 0} → Result A Refusal → Type 0
HasTarget (Ok x) = Unit {0}
HasTarget (Err refusal) = IsOther refusal

-- along chains

then_ok : {A B : Type 0} (first : Result A Refusal) (f : A → B) → HasTarget first → HasTarget (first >>= λ x. Ok (f x))
then_ok (Ok x) f h = tt
then_ok (Err e) f h = h

then_next : {A B : Type 0} (first : Result A Refusal) (next : A → Result B Refusal) → HasTarget first → ((x : A) → HasTarget (next x)) → HasTarget (first >>= next)
then_next (Ok x) next h k = k x
then_next (Err e) next h k = h

either_has : {A : Type 0} (b : Bool) (x y : Result A Refusal) → HasTarget x → HasTarget y → HasTarget (cond b x y)
either_has true x y h k = h
either_has false x y h k = k

addressing_has : {A : Type 0} (r : Result A AddressingRefusal) → HasTarget (addressing r)
addressing_has (Ok x) = tt
addressing_has (Err (headings.MissingHeader name)) = tt
addressing_has (Err (headings.InvalidHeader name)) = tt
addressing_has (Err headings.NoMemory) = tt

fault_has : {A : Type 0} (r : Result A FaultRefusal) → HasTarget (fault r)
fault_has (Ok x) = tt
fault_has (Err (faults.Unreadable part)) = tt
fault_has (Err faults.NoMemory) = tt

coordination_has : {A : Type 0} (r : Result A ContextFault) → HasTarget (coordination r)
coordination_has (Ok x) = tt
coordination_has (Err (contexts.Parameters name)) = tt
coordination_has (Err contexts.NoMemory) = tt

-- what a body says

required_has : (part : Part) (o : Option (Option Tree)) → HasTarget (required part o)
required_has part None = tt
required_has part (Some None) = tt
required_has part (Some (Some t)) = tt

readable_has : {A : Type 0} (part : Part) (o : Option A) → HasTarget (readable part o)
readable_has part None = tt
readable_has part (Some x) = tt

text_has : (t : Tree) (part : Part) → HasTarget (text_in t part)
text_has t part = then_ok (required part (child_in t part)) text_value (required_has part (child_in t part))

read_has : {A : Type 0} (t : Tree) (part : Part) (read : List ℕ → Option A) → HasTarget (text_in t part >>= λ text. readable part (read text))
read_has t part read = then_next (text_in t part) (λ text. readable part (read text)) (text_has t part) (λ text. readable_has part (read text))

abbrev work_from : Result Context Refusal → Result (List ℕ) Refusal → Result (List ℕ) Refusal → Result Kind Refusal → Result Vote Refusal → Result Work Refusal
work_from said_context said_key said_value said_kind said_vote = do
  context ← said_context
  key ← said_key
  value ← said_value
  kind ← said_kind
  vote ← said_vote
  Ok (record { context = context; key = key; value = value; kind = kind; vote = vote })

parts_have : (context : Result Context Refusal) (key value : Result (List ℕ) Refusal) (kind : Result Kind Refusal) (vote : Result Vote Refusal) → HasTarget context → HasTarget key → HasTarget value
    → HasTarget kind → HasTarget vote → HasTarget (work_from context key value kind vote)
parts_have (Err e) key value kind vote h i j k l = h
parts_have (Ok c) (Err e) value kind vote h i j k l = i
parts_have (Ok c) (Ok x) (Err e) kind vote h i j k l = j
parts_have (Ok c) (Ok x) (Ok y) (Err e) vote h i j k l = k
parts_have (Ok c) (Ok x) (Ok y) (Ok d) (Err e) h i j k l = l
parts_have (Ok c) (Ok x) (Ok y) (Ok d) (Ok v) h i j k l = tt

work_has : (context : Option Tree) (t : Tree) → HasTarget (work_of context t)
work_has None t = tt
work_has (Some header) t =
    parts_have (coordination (context_of header)) (short_in t parts.Key) (short_in t parts.Value) (kind_in t) (vote_in t) (coordination_has (context_of header))
    (read_has t parts.Key short) (read_has t parts.Value short) (read_has t parts.Kind kind_named) (read_has t parts.Vote vote_named)

body_has : (form : Form) (context : Option Tree) (t : Tree) → HasTarget (body_of form context t)
body_has forms.Create context t = then_ok (coordination (create_of t)) messages.Create (coordination_has (create_of t))
body_has forms.CreateResponse context t = then_ok (coordination (create_response_of t)) messages.CreateResponse (coordination_has (create_response_of t))
body_has forms.Register context t = then_ok (coordination (register_of t)) messages.Register (coordination_has (register_of t))
body_has forms.RegisterResponse context t = then_ok (coordination (register_response_of t)) messages.RegisterResponse (coordination_has (register_response_of t))
body_has (forms.Notice notice) context t = tt
body_has forms.Work context t = then_ok (work_of context t) messages.Work (work_has context t)
body_has forms.WorkDone context t = tt
body_has forms.WorkRefused context t = tt

said_has : (form : Option Form) (context : Option Tree) (target : Target) (body : Tree) → HasTarget (said_at form context target body)
said_has None context target body = tt
said_has (Some form) context target body =
    either_has (takes_form target form) (named_at form context body) (Err Action)
    (either_has (is_named body.name (space_of form) (local_of form)) (body_of form context body) (Err (Parameters Body)) (body_has form context body) tt) tt

message_has : (headers : Headers) (target : Target) (body : Tree) → HasTarget (message_of headers target body)
message_has headers target body =
    either_has (is_fault body.name) (fault_at target body) (said_at (form_at headers.action) headers.context target body)
    (either_has (takes_fault target) (fault (fault_of body) >>= λ name. Ok (messages.Fault name)) (Err Action) (then_ok (fault (fault_of body)) messages.Fault (fault_has (fault_of body))) tt)
    (said_has (form_at headers.action) headers.context target body)

-- what an envelope says

target_has : (found : Option Target) (target : Target) → found ≡ Some target → HasTarget (targeted found)
target_has None target e = absurd cc
target_has (Some other) target e = tt

under_has : (headers : Headers) (body : Tree) (path : List ℕ) (target : Target) → target_at headers.to path ≡ Some target → HasTarget (arrival_under headers body path)
under_has headers body path target e =
    then_ok (said_in headers body path) (λ said. arrived headers said.0 said.1)
    (then_next (addressing (request_of headers body.name)) (λ asked. targeted (target_at headers.to path) >>= λ found. message_of headers found body >>= λ message. Ok (found, message))
    (addressing_has (request_of headers body.name))
    (λ asked.
    then_next (targeted (target_at headers.to path)) (λ found. message_of headers found body >>= λ message. Ok (found, message)) (target_has (target_at headers.to path) target e)
    (λ found. then_ok (message_of headers found body) (λ message. (found, message)) (message_has headers found body))))

opens : (blocks : List Tree) (body : Tree) → not_understood blocks ≡ None → envelope_of (envelope_tree blocks body) ≡ Ok (record { headers = blocks; body = body })
opens blocks body h =
    ap (λ (bs : List Tree). opened (enveloped bs (sole (elements (children_of (body ∷ [])))))) (elements_of_children blocks)
    ∙ ap (λ o. judged (record { headers = blocks; body = body }) o) h

pub names_target : (post : Post) (path : List ℕ) (target : Target) (out : OutgoingHeaders) (body : Tree) → AreHeadersOf post out → CanArrive post
    → target_at (written_to post.to) path ≡ Some target → arrival_of (envelope_tree (blocks_of out) body) path ≡ Err NoTarget → ⊥
names_target post path target out body h c n e =
    let headers : Headers = headers_in out in
    let understood : not_understood (blocks_of out) ≡ None = all_understood out (context_named (context_in post.message) out.context h.context) in
    let said : headers_of (blocks_of out) ≡ Ok headers = headers_return out (legible post path target out h c n) in
    let opened_so : arrival_of (envelope_tree (blocks_of out) body) path ≡ arrival_under headers body path =
    ap (λ r. soap r >>= λ envelope. arrival_in envelope path) (opens (blocks_of out) body understood)
    ∙ ap (λ r. addressing r >>= λ found. arrival_under found body path) said in
    let found : target_at headers.to path ≡ Some target = ap (λ to. target_at to path) (to_same post.to out.to h.to) ∙ n in
    subst HasTarget (sym opened_so ∙ e) (under_has headers body path target found)
