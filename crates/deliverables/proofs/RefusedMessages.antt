-- A message that its target doesn't take is refused.
use Rattle.std.specs.Prelude.{ℕ, List, [], ◌∷◌, Option, Some, None, false, cond, ◌≡◌, Result, Ok, Err}
use Rattle.std.proofs.Common.{refl, ap, sym, ◌∙◌}
use Rattle.addressing.specs.Headers.{headers_of}
use Rattle.addressing.specs.Message.{Headers}
use Rattle.addressing.specs.OutgoingHeaders.{blocks_of, headers_in}
use Rattle.addressing.specs.Requests.{request_of}
use Rattle.addressing.specs.declared.writer.OutgoingHeaders.{OutgoingHeaders}
use Rattle.addressing.proofs.HeaderRoundtrip.{headers_return}
use Rattle.addressing.proofs.UnderstoodBlocks.{all_understood}
use Rattle.arrivals.specs.Worlds.{CanArrive}
use Rattle.at_base.specs.declared.message.Message.{Message}
use Rattle.at_base.specs.declared.message.Message.TheVariants as messages
use Rattle.at_base.specs.declared.outs.Post.{Post}
use Rattle.at_base.specs.declared.target.Target.{Target}
use Rattle.endpoints.specs.Forms.{form_of, takes, takes_any, takes_fault, takes_form}
use Rattle.endpoints.specs.declared.form.Form.{Form}
use Rattle.endpoints.specs.declared.form.Form.TheVariants as forms
use Rattle.soap_profile.specs.BuiltElements.{children_of, qualified}
use Rattle.soap_profile.specs.Envelopes.{enveloped, envelope_of, envelope_tree, judged, not_understood, opened, sole}
use Rattle.soap_profile.specs.Faults.{fault_of, is_fault}
use Rattle.soap_profile.specs.Values.{elements}
use Rattle.soap_profile.proofs.Lists.{elements_of_children}
use Rattle.wire_msgs.specs.Arrivals.{arrival_in, arrival_of, arrival_under, arrived, fault_at, message_of, named_at, said_at, targeted}
use Rattle.wire_msgs.specs.Forms.{action_of, form_at, local_of, space_of}
use Rattle.wire_msgs.specs.Refusals.{addressing, fault, soap, ◌>>=◌}
use Rattle.wire_msgs.specs.Targets.{target_at}
use Rattle.wire_msgs.specs.declared.decode.Arrival.{Arrival}
use Rattle.wire_msgs.specs.declared.refusal.Refusal.{Refusal}
use Rattle.wire_msgs.specs.declared.refusal.Refusal.TheVariants.{Action}
use Rattle.wire_msgs.proofs.Forms.{actions_differ}
use Rattle.wire_posts.specs.Envelopes.{AreHeadersOf, IsBodyOf, action_in, context_in}
use Rattle.wire_posts.specs.Faults.{fault_body, written_named}
use Rattle.wire_posts.specs.Returns.{written_to}
use Rattle.wire_posts.proofs.Bodies.{named, no_fault}
use Rattle.xml_profile.specs.declared.name.QName.{QName}
use Rattle.xml_profile.specs.declared.tree.Tree.{Tree}
use Rattle.deliverables.proofs.LegiblePosts.{context_named, legible, to_same}

opens : (blocks : List Tree) (body : Tree) → not_understood blocks ≡ None → envelope_of (envelope_tree blocks body) ≡ Ok (record { headers = blocks; body = body })
opens blocks body h =
    ap (λ (bs : List Tree). opened (enveloped bs (sole (elements (children_of (body ∷ [])))))) (elements_of_children blocks)
    ∙ ap (λ o. judged (record { headers = blocks; body = body }) o) h

abbrev form_name : Form → QName
form_name form = qualified (space_of form) (local_of form)

not_said : (form : Form) (headers : Headers) (target : Target) (body : Tree) → body.name ≡ form_name form → headers.action ≡ action_of form → takes_form target form ≡ false
    → message_of headers target body ≡ Err Action
not_said form headers target body n a t =
    let other : is_fault body.name ≡ false = ap is_fault n ∙ no_fault form in
    let found : form_at headers.action ≡ Some form = ap form_at a ∙ actions_differ form in
    ap (λ b. cond b (fault_at target body) (said_at (form_at headers.action) headers.context target body)) other
    ∙ (ap (λ f. said_at f headers.context target body) found
    ∙ ap (λ b. cond b (named_at form headers.context body) (Err Action)) t)

not_of_form : (message : Message) (form : Form) (headers : Headers) (target : Target) (body : Tree) → form_of message ≡ Some form → body.name ≡ form_name form
    → headers.action ≡ action_of form → takes target message ≡ false → message_of headers target body ≡ Err Action
not_of_form message form headers target body e n a t = not_said form headers target body n a (ap (takes_any target) (sym e) ∙ t)

not_fault : (name : List ℕ) (headers : Headers) (target : Target) → takes_fault target ≡ false → message_of headers target (fault_body (written_named name)) ≡ Err Action
not_fault name headers target t =
    let body : Tree = fault_body (written_named name) in
    ap (λ b. cond b (fault (fault_of body) >>= λ n. Ok (messages.Fault n)) (Err Action)) t

not_taken : (message : Message) (headers : Headers) (target : Target) (body : Tree) → headers.action ≡ action_in message → IsBodyOf message body → takes target message ≡ false
    → message_of headers target body ≡ Err Action
not_taken (messages.Create create) headers target body a h t = not_of_form (messages.Create create) forms.Create headers target body refl (ap named h.whole) a t
not_taken (messages.CreateResponse context) headers target body a h t =
    not_of_form (messages.CreateResponse context) forms.CreateResponse headers target body refl (ap named h.whole) a t
not_taken (messages.Register register) headers target body a h t = not_of_form (messages.Register register) forms.Register headers target body refl (ap named h.whole) a t
not_taken (messages.RegisterResponse coordinator) headers target body a h t =
    not_of_form (messages.RegisterResponse coordinator) forms.RegisterResponse headers target body refl (ap named h.whole) a t
not_taken (messages.Notice notice) headers target body a h t = not_of_form (messages.Notice notice) (forms.Notice notice) headers target body refl (ap named h) a t
not_taken (messages.Work work) headers target body a h t = not_of_form (messages.Work work) forms.Work headers target body refl (ap named h) a t
not_taken messages.WorkDone headers target body a h t = not_of_form messages.WorkDone forms.WorkDone headers target body refl (ap named h) a t
not_taken messages.WorkRefused headers target body a h t = not_of_form messages.WorkRefused forms.WorkRefused headers target body refl (ap named h) a t
not_taken (messages.Fault name) headers target body a h t = ap (message_of headers target) h ∙ not_fault name headers target t

-- nothing is heard then
abbrev said_by : Result (Unit {0}) Refusal → Result Target Refusal → (Target → Result Message Refusal) → Result (Target × Message) Refusal
said_by said_asked said_target said_message = do
  asked ← said_asked
  target ← said_target
  message ← said_message target
  Ok (target, message)

abbrev under : Headers → Result (Unit {0}) Refusal → Result Target Refusal → (Target → Result Message Refusal) → Result Arrival Refusal
under headers said_asked said_target said_message =
    said_by said_asked said_target said_message >>= λ said. Ok (arrived headers said.0 said.1)

none_said : (headers : Headers) (target : Target) (said : Result Message Refusal) (arrival : Arrival) → said ≡ Err Action
    → under headers (Ok tt) (Ok target) (λ found. said) ≡ Ok arrival → ⊥
none_said headers target said arrival s h = let again : under headers (Ok tt) (Ok target) (λ found. Err Action) ≡ Ok arrival = ap (λ (r : Result Message Refusal). under headers (Ok tt) (Ok target) (λ found. r)) (sym s) ∙ h in absurd cc

refused_under : (headers : Headers) (asked : Result (Unit {0}) Refusal) (found : Option Target) (said : Target → Result Message Refusal) (target : Target) (arrival : Arrival)
    → found ≡ Some target → said target ≡ Err Action → under headers asked (targeted found) said ≡ Ok arrival → ⊥
refused_under headers (Err e) found said target arrival f s h = absurd cc
refused_under headers (Ok x) found said target arrival f s h =
    none_said headers target (said target) arrival s (ap (λ o. under headers (Ok x) (targeted o) said) (sym f) ∙ h)

pub is_refused : (post : Post) (path : List ℕ) (target : Target) (out : OutgoingHeaders) (body : Tree) (arrival : Arrival) → AreHeadersOf post out → IsBodyOf post.message body
    → CanArrive post → target_at (written_to post.to) path ≡ Some target → takes target post.message ≡ false
    → arrival_of (envelope_tree (blocks_of out) body) path ≡ Ok arrival → ⊥
is_refused post path target out body arrival h b c n t e =
    let headers : Headers = headers_in out in
    let understood : not_understood (blocks_of out) ≡ None = all_understood out (context_named (context_in post.message) out.context h.context) in
    let said : headers_of (blocks_of out) ≡ Ok headers = headers_return out (legible post path target out h c n) in
    let opened_so : arrival_of (envelope_tree (blocks_of out) body) path ≡ arrival_under headers body path =
    ap (λ r. soap r >>= λ envelope. arrival_in envelope path) (opens (blocks_of out) body understood)
    ∙ ap (λ r. addressing r >>= λ found. arrival_under found body path) said in
    let found : target_at headers.to path ≡ Some target = ap (λ to. target_at to path) (to_same post.to out.to h.to) ∙ n in
    refused_under headers (addressing (request_of headers body.name)) (target_at headers.to path) (λ found. message_of headers found body) target arrival found
    (not_taken post.message headers target body h.action b t) (sym opened_so ∙ e)
