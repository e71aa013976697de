-- What is decoded is for its target.
use Rattle.std.proofs.Common.{◌≡◌, ℕ, List, Bool, true, false, Option, Some, None, Result, Ok, Err, IfOk, cond, refl, sym, ap, subst, ◌∙◌}
use Rattle.std.specs.Prelude.{codes}
use Rattle.xml_profile.specs.declared.tree.Tree.{Tree}
use Rattle.xml_profile.specs.Prefixes.{soap as soap_space}
use Rattle.soap_profile.specs.Values.{is_named}
use Rattle.soap_profile.specs.Envelopes.{envelope_of}
use Rattle.soap_profile.specs.Faults.{fault_of}
use Rattle.addressing.specs.Headers.{headers_of}
use Rattle.addressing.specs.Requests.{request_of}
use Rattle.context.specs.Bodies.{create_of, create_response_of, register_of, register_response_of}
use Rattle.at_base.specs.declared.message.Message.{Message}
use Rattle.at_base.specs.declared.message.Message.TheVariants as messages
use Rattle.at_base.specs.declared.target.Target.{Target}
use Rattle.wire_msgs.specs.declared.decode.Arrival.{Arrival}
use Rattle.endpoints.specs.declared.form.Form.{Form}
use Rattle.endpoints.specs.declared.form.Form.TheVariants as forms
use Rattle.wire_msgs.specs.declared.refusal.ParameterName.TheVariants.{Body}
use Rattle.wire_msgs.specs.declared.refusal.Refusal.{Refusal}
use Rattle.wire_msgs.specs.declared.refusal.Refusal.TheVariants.{Action, Parameters}
use Rattle.wire_msgs.specs.Arrivals.{Arrives, arrival_of, arrival_in, arrival_under, arrived, fault_at, message_of, named_at, said_at, said_in, targeted}
use Rattle.wire_msgs.specs.Bodies.{body_of, work_of}
use Rattle.endpoints.specs.Forms.{form_of, takes_any, takes_fault, takes_form, takes}
use Rattle.wire_msgs.specs.Forms.{form_at, local_of, space_of}
use Rattle.wire_msgs.specs.Refusals.{Answers, addressing, coordination, fault, soap, ◌>>=◌}
use Rattle.wire_msgs.specs.Targets.{target_at}

-- a chain that ends well has begun well
both_ok : {A B : Type 0} (first : Result A Refusal) (next : A → Result B Refusal) (b : B) → (first >>= next) ≡ Ok b
    → (a : A) × (first ≡ Ok a) × (next a ≡ Ok b)
both_ok (Ok x) next b e = (x, refl, e)
both_ok (Err r) next b e = absurd cc

same_ok : {A : Type 0} (x y : A) → ◌≡◌ {A = Result A Refusal} (Ok x) (Ok y) → x ≡ y
same_ok x y e = cc

then_ok : {A : Type 0} (b : Bool) (x : Result A Refusal) (r : Refusal) (a : A) → cond b x (Err r) ≡ Ok a → (b ≡ true) × (x ≡ Ok a)
then_ok true x r a e = (refl, e)
then_ok false x r a e = absurd cc

formed : {A : Type 0} (form : Form) (make : A → Message) (first : Result A Refusal) (m : Message)
    → ((a : A) → form_of (make a) ≡ Some form) → (first >>= λ a. Ok (make a)) ≡ Ok m → form_of m ≡ Some form
formed form make first m h e =
    let (a, found, made) = both_ok first (λ x. Ok (make x)) m e in
    sym (ap form_of (same_ok (make a) m made)) ∙ h a

body_form : (form : Form) (context : Option Tree) (t : Tree) (m : Message) → body_of form context t ≡ Ok m → form_of m ≡ Some form
body_form forms.Create context t m e = formed forms.Create messages.Create (coordination (create_of t)) m (λ a. refl) e
body_form forms.CreateResponse context t m e =
    formed forms.CreateResponse messages.CreateResponse (coordination (create_response_of t)) m (λ a. refl) e
body_form forms.Register context t m e = formed forms.Register messages.Register (coordination (register_of t)) m (λ a. refl) e
body_form forms.RegisterResponse context t m e =
    formed forms.RegisterResponse messages.RegisterResponse (coordination (register_response_of t)) m (λ a. refl) e
body_form (forms.Notice notice) context t m e = sym (ap form_of (same_ok (messages.Notice notice) m e))
body_form forms.Work context t m e = formed forms.Work messages.Work (work_of context t) m (λ a. refl) e
body_form forms.WorkDone context t m e = sym (ap form_of (same_ok messages.WorkDone m e))
body_form forms.WorkRefused context t m e = sym (ap form_of (same_ok messages.WorkRefused m e))

fault_taken : (target : Target) (t : Tree) (m : Message) → fault_at target t ≡ Ok m → takes_any target (form_of m) ≡ true
fault_taken target t m e =
    let (takes, said) = then_ok (takes_fault target) (fault (fault_of t) >>= λ name. Ok (messages.Fault name)) Action m e in
    let (name, found, made) = both_ok (fault (fault_of t)) (λ x. Ok (messages.Fault x)) m said in
    sym (ap (λ (n : Message). takes_any target (form_of n)) (same_ok (messages.Fault name) m made)) ∙ takes

said_taken : (form : Option Form) (context : Option Tree) (target : Target) (t : Tree) (m : Message) → said_at form context target t ≡ Ok m
    → takes_any target (form_of m) ≡ true
said_taken None context target t m e = absurd cc
said_taken (Some form) context target t m e =
    let (takes, named) = then_ok (takes_form target form) (named_at form context t) Action m e in
    let (same, said) = then_ok (is_named t.name (space_of form) (local_of form)) (body_of form context t) (Parameters Body) m named in
    ap (takes_any target) (body_form form context t m said) ∙ takes

message_by : (b : Bool) (form : Option Form) (context : Option Tree) (target : Target) (t : Tree) (m : Message)
    → cond b (fault_at target t) (said_at form context target t) ≡ Ok m → takes_any target (form_of m) ≡ true
message_by true form context target t m e = fault_taken target t m e
message_by false form context target t m e = said_taken form context target t m e

arrival_taken : (t : Tree) (path : List ℕ) (a : Arrival) → arrival_of t path ≡ Ok a → takes a.target a.message ≡ true
arrival_taken t path a e =
    let (envelope, f, inside) = both_ok (soap (envelope_of t)) (λ x. arrival_in x path) a e in
    let (headers, g, under) = both_ok (addressing (headers_of envelope.headers)) (λ x. arrival_under x envelope.body path) a inside in
    let (said, h, made) = both_ok (said_in headers envelope.body path) (λ x. Ok (arrived headers x.0 x.1)) a under in
    let (asked, i, later) = both_ok (addressing (request_of headers envelope.body.name)) (λ _. targeted (target_at headers.to path) >>= λ target. message_of headers target envelope.body >>= λ message. Ok (target, message)) said h in
    let (target, j, last) = both_ok (targeted (target_at headers.to path)) (λ target. message_of headers target envelope.body >>= λ message. Ok (target, message)) said later in
    let (message, k, pair) = both_ok (message_of headers target envelope.body) (λ message. Ok (target, message)) said last in
    let whole : Target × Message = (target, message) in
    let same : whole ≡ said = same_ok whole said pair in
    let same_arrival : arrived headers said.0 said.1 ≡ a = same_ok (arrived headers said.0 said.1) a made in
    let taken : takes_any target (form_of message) ≡ true =
    message_by (is_named envelope.body.name soap_space (codes "Fault")) (form_at headers.action) headers.context target envelope.body message k in
    subst (λ (x : Arrival). takes x.target x.message ≡ true) same_arrival
    (subst (λ (x : Target × Message). takes x.0 x.1 ≡ true) same taken)

pub is_taken : (t : Tree) (path : List ℕ) (result : Result Arrival Refusal) → Answers (arrival_of t path) result
    → IfOk result (λ a. takes a.target a.message ≡ true)
is_taken t path (Ok a) h = arrival_taken t path a h
is_taken t path (Err r) h = tt

pub arrives_taken : (bytes path : List ℕ) (a : Arrival) → Arrives bytes path a → takes a.target a.message ≡ true
arrives_taken bytes path a m = arrival_taken m.tree path a m.means
