-- What is decoded is whole.
use Rattle.std.proofs.Common.{◌≡◌, refl, subst, ℕ, ◌≤◌, List, [], ◌∷◌, length, Bool, true, false, cond, nat_le, IfOk, IfSome, Option, Some, None, Result, Ok, Err}
use Rattle.std.specs.Prelude.{codes}
use Rattle.std.proofs.lemmas.Bool.{leb-true}
use Rattle.xml_profile.specs.declared.tree.Tree.{Tree}
use Rattle.xml_profile.specs.Prefixes.{soap as soap_space, work as work_space}
use Rattle.xml_profile.specs.SpellableTrees.{is_text}
use Rattle.xml_grammar.specs.Refusals.{Reads}
use Rattle.soap_profile.specs.EnvelopeParts.{Envelope}
use Rattle.soap_profile.specs.declared.envelope.SoapRefusal.{SoapRefusal}
use Rattle.soap_profile.specs.declared.fault.FaultPart.{FaultPart}
use Rattle.soap_profile.specs.declared.fault.FaultPart.TheVariants.{Code, Text, Actor, Detail}
use Rattle.soap_profile.specs.declared.fault.FaultRefusal.{FaultRefusal}
use Rattle.soap_profile.specs.Faults as faults
use Rattle.soap_profile.specs.Faults.{fault_of}
use Rattle.soap_profile.specs.Envelopes.{enveloped, envelope_of, first_of, judged, not_understood, opened, parts_of, root_refusal, rooted, sole, with_body}
use Rattle.soap_profile.specs.Values.{elements, is_named, text_value}
use Rattle.at_base.specs.declared.limits.TheConstants.{MOST_FIELD}
use Rattle.at_base.specs.declared.message.Message.{Message}
use Rattle.at_base.specs.declared.message.Message.TheVariants as messages
use Rattle.at_base.specs.declared.target.Target.{Target}
use Rattle.addressing.specs.declared.headers.AddressingRefusal.{AddressingRefusal}
use Rattle.addressing.specs.Message.{Headers}
use Rattle.addressing.specs.Headers.{headers_of}
use Rattle.addressing.specs.Requests.{request_of}
use Rattle.context.specs.declared.parameter.ContextFault.{ContextFault}
use Rattle.context.specs.Bodies.{context_of, create_of, create_response_of, register_of, register_response_of}
use Rattle.wire_msgs.specs.declared.decode.Arrival.{Arrival}
use Rattle.endpoints.specs.declared.form.Form.{Form}
use Rattle.endpoints.specs.declared.form.Form.TheVariants as forms
use Rattle.wire_msgs.specs.declared.part.Part.{Part}
use Rattle.wire_msgs.specs.declared.part.Part.TheVariants as parts
use Rattle.wire_msgs.specs.declared.refusal.ParameterName.TheVariants.{Body}
use Rattle.wire_msgs.specs.declared.refusal.Refusal.{Refusal}
use Rattle.wire_msgs.specs.declared.refusal.Refusal.TheVariants.{Action, Parameters}
use Rattle.wire_msgs.specs.Arrivals.{Arrives, arrival_of, arrival_in, arrival_under, arrived, fault_at, message_of, said_at, said_in, targeted}
use Rattle.wire_msgs.specs.Bodies.{body_of, kind_in, readable, required, short, short_in, text_in, vote_in, work_of}
use Rattle.endpoints.specs.Forms.{takes_fault, takes_form}
use Rattle.wire_msgs.specs.Forms.{action_of, form_at, local_of, space_of}
use Rattle.wire_msgs.specs.Parts.{child_in, part_name}
use Rattle.wire_msgs.specs.Refusals.{Answers, addressing, coordination, fault, soap, ◌>>=◌}
use Rattle.wire_msgs.specs.Targets.{target_at}
use Rattle.wire_msgs.specs.WholeMessages.{IsAskedWell, IsClean, IsWhole, IsWholeContext, IsWholeCreate, IsWholeEndpoint, IsWholeMessage, IsWholeRegister, IsWholeWork}
use Rattle.wire_msgs.proofs.AnswerableRequests.{asked_well, create_asks, register_asks, work_asks}
use Rattle.wire_msgs.proofs.CleanTexts.{local_spelled}
use Rattle.wire_msgs.proofs.FittingTrees.{AllFit, Fit, IfOne, child_fit, fit_elements, read_fit, value_clean}
use Rattle.wire_msgs.proofs.WholeHeaders.{AreWhole, headers_whole}
use Rattle.wire_msgs.proofs.WholeBodies.{context_whole, create_response_whole, create_whole, register_response_whole, register_whole}
use Rattle.wire_msgs.proofs.Forms.{is_named as action_named}

chain : {A B : Type 0} (P : A → Type 0) (Q : B → Type 0) (first : Result A Refusal) (next : A → Result B Refusal)
    → IfOk first P → ((x : A) → P x → IfOk (next x) Q) → IfOk (first >>= next) Q
chain P Q (Ok x) next h k = k x h
chain P Q (Err f) next h k = tt

-- of a step of which nothing is asked
any : {A B : Type 0} (Q : B → Type 0) (first : Result A Refusal) (next : A → Result B Refusal)
    → ((x : A) → IfOk (next x) Q) → IfOk (first >>= next) Q
any Q (Ok x) next k = k x
any Q (Err f) next k = tt

-- what a layer below says, as this one says it
of_soap : {A : Type 0} (P : A → Type 0) (r : Result A SoapRefusal) → IfOk r P → IfOk (soap r) P
of_soap P (Ok x) h = h
of_soap P (Err f) h = tt

of_addressing : {A : Type 0} (P : A → Type 0) (r : Result A AddressingRefusal) → IfOk r P → IfOk (addressing r) P
of_addressing P (Ok x) h = h
of_addressing P (Err f) h = tt

of_coordination : {A : Type 0} (P : A → Type 0) (r : Result A ContextFault) → IfOk r P → IfOk (coordination r) P
of_coordination P (Ok x) h = h
of_coordination P (Err f) h = tt

-- envelopes

record FitEnvelope (e : Envelope) : Type 0 where
  headers : AllFit e.headers
  body : Fit e.body

first_fit : (ts : List Tree) → AllFit ts → IfSome (first_of ts) Fit
first_fit [] h = tt
first_fit (t ∷ ts) h = h.0

sole_fit : (ts : List Tree) → AllFit ts → IfSome (sole ts) Fit
sole_fit [] h = tt
sole_fit (t ∷ []) h = h.0
sole_fit (t ∷ u ∷ ts) h = tt

enveloped_fit : (headers : List Tree) (body : Option Tree) → AllFit headers → IfSome body Fit → IfSome (enveloped headers body) FitEnvelope
enveloped_fit headers None h k = tt
enveloped_fit headers (Some t) h k = record { headers = h; body = k }

body_fit : (headers : List Tree) (t : Option Tree) → AllFit headers → IfSome t Fit → IfSome (with_body headers t) FitEnvelope
body_fit headers None h k = tt
body_fit headers (Some t) h k = by_name (is_named t.name soap_space (codes "Body"))
  where
    by_name : (b : Bool) → IfSome (cond b (enveloped headers (sole (elements t.children))) None) FitEnvelope
    by_name true = enveloped_fit headers (sole (elements t.children)) h (sole_fit (elements t.children) (fit_elements t k))
    by_name false = tt

parts_fit_of : (ts : List Tree) → AllFit ts → IfSome (parts_of ts) FitEnvelope
parts_fit_of [] h = tt
parts_fit_of (t ∷ ts) h = by_name (is_named t.name soap_space (codes "Header"))
  where
    by_name : (b : Bool) → IfSome (cond b (with_body (elements t.children) (first_of ts)) (with_body [] (Some t))) FitEnvelope
    by_name true = body_fit (elements t.children) (first_of ts) (fit_elements t h.0) (first_fit ts h.1)
    by_name false = body_fit [] (Some t) tt h.0

judged_fit : (e : Envelope) (name : Option (List ℕ)) → FitEnvelope e → IfOk (judged e name) FitEnvelope
judged_fit e None h = h
judged_fit e (Some name) h = tt

opened_fit : (e : Option Envelope) → IfSome e FitEnvelope → IfOk (opened e) FitEnvelope
opened_fit None h = tt
opened_fit (Some e) h = judged_fit e (not_understood e.headers) h

rooted_fit : (refusal : Option SoapRefusal) (e : Option Envelope) → IfSome e FitEnvelope → IfOk (rooted refusal e) FitEnvelope
rooted_fit (Some refusal) e h = tt
rooted_fit None e h = opened_fit e h

envelope_fit : (t : Tree) → Fit t → IfOk (envelope_of t) FitEnvelope
envelope_fit t f = rooted_fit (root_refusal t.name) (parts_of (elements t.children)) (parts_fit_of (elements t.children) (fit_elements t f))

-- Work

required_fit : (part : Part) (child : Option (Option Tree)) → IfOne Fit child → IfOk (required part child) Fit
required_fit part None h = tt
required_fit part (Some None) h = tt
required_fit part (Some (Some t)) h = h

text_clean : (t : Tree) (part : Part) → Fit t → IfOk (text_in t part) IsClean
text_clean t part f =
    chain Fit IsClean (required part (child_in t part)) (λ child. Ok (text_value child))
    (required_fit part (child_in t part) (child_fit t (Some work_space) (part_name part) f))
    (λ u h. value_clean u h)

record IsShortText (text : List ℕ) : Type 0 where
  clean : IsClean text
  within : length text ≤ MOST_FIELD

readable_keeps : {A : Type 0} (P : A → Type 0) (part : Part) (value : Option A) → IfSome value P → IfOk (readable part value) P
readable_keeps P part None h = tt
readable_keeps P part (Some x) h = h

short_fits : (text : List ℕ) → IsClean text → IfSome (short text) IsShortText
short_fits text c = by_test (nat_le (length text) MOST_FIELD) refl
  where
    by_test : (b : Bool) → nat_le (length text) MOST_FIELD ≡ b → IfSome (cond b (Some text) None) IsShortText
    by_test true e = record { clean = c; within = leb-true (length text) MOST_FIELD e }
    by_test false e = tt

short_kept : (t : Tree) (part : Part) → Fit t → IfOk (short_in t part) IsShortText
short_kept t part f =
    chain IsClean IsShortText (text_in t part) (λ text. readable part (short text)) (text_clean t part f)
    (λ text c. readable_keeps IsShortText part (short text) (short_fits text c))

work_whole : (header : Option Tree) (t : Tree) → IfSome header Fit → Fit t → IfOk (work_of header t) IsWholeWork
work_whole None t h f = tt
work_whole (Some header) t h f =
    chain IsWholeContext IsWholeWork (coordination (context_of header)) _ (of_coordination IsWholeContext (context_of header) (context_whole header h))
    (λ context w. chain IsShortText IsWholeWork (short_in t parts.Key) _ (short_kept t parts.Key f)
    (λ key a. chain IsShortText IsWholeWork (short_in t parts.Value) _ (short_kept t parts.Value f)
    (λ value b. any IsWholeWork (kind_in t) _
    (λ kind. any IsWholeWork (vote_in t) _
    (λ vote. record { context = w; key = a.clean; short_key = a.within; value = b.clean; short_value = b.within })))))

-- a fault

abbrev IsFaultName : List ℕ → Type 0
IsFaultName name = is_text name ≡ true

fault_chain : {A B : Type 0} (P : A → Type 0) (Q : B → Type 0) (first : Result A FaultRefusal) (next : A → Result B FaultRefusal)
    → IfOk first P → ((x : A) → P x → IfOk (next x) Q) → IfOk (faults.◌>>=◌ first next) Q
fault_chain P Q (Ok x) next h k = k x h
fault_chain P Q (Err f) next h k = tt

fault_part : (part : FaultPart) (child : Option (Option Tree)) → IfOne Fit child → IfOk (faults.required part child) Fit
fault_part part None h = tt
fault_part part (Some None) h = tt
fault_part part (Some (Some t)) h = h

anything : {A : Type 0} (r : Result A FaultRefusal) → IfOk r (λ x. Unit {0})
anything (Ok x) = tt
anything (Err f) = tt

fault_name : (t : Tree) → Fit t → IfOk (fault_of t) IsFaultName
fault_name t f =
    fault_chain Fit IsFaultName (faults.required Code (faults.part_of t Code)) _ (fault_part Code (faults.part_of t Code) (child_fit t None (faults.part_name Code) f))
    (λ code c. fault_chain (λ x. Unit {0}) IsFaultName (faults.required Text (faults.part_of t Text)) _ (anything (faults.required Text (faults.part_of t Text)))
    (λ text _. fault_chain (λ x. Unit {0}) IsFaultName (faults.optional Actor (faults.part_of t Actor)) _ (anything (faults.optional Actor (faults.part_of t Actor)))
    (λ actor _. fault_chain (λ x. Unit {0}) IsFaultName (faults.optional Detail (faults.part_of t Detail)) _ (anything (faults.optional Detail (faults.part_of t Detail)))
    (λ detail _. local_spelled (text_value code) (value_clean code c)))))

of_fault : {A : Type 0} (P : A → Type 0) (r : Result A FaultRefusal) → IfOk r P → IfOk (fault r) P
of_fault P (Ok x) h = h
of_fault P (Err f) h = tt

-- a message, and what its action asks of the headers

record IsSaid (headers : Headers) (target : Target) (m : Message) : Type 0 where
  whole : IsWholeMessage m
  request : IsAskedWell m (arrived headers target m)

module _ (headers : Headers) (target : Target) (body : Tree) (w : AreWhole headers) (f : Fit body) (asked : request_of headers body.name ≡ Ok tt) where
  fault_said : IfOk (fault_at target body) (IsSaid headers target)
  fault_said = by_target (takes_fault target)
    where
      by_target : (b : Bool) → IfOk {E = Refusal} (cond b (fault (fault_of body) >>= λ name. Ok (messages.Fault name)) (Err Action)) (IsSaid headers target)
      by_target true =
          chain IsFaultName (IsSaid headers target) (fault (fault_of body)) _ (of_fault IsFaultName (fault_of body) (fault_name body f))
          (λ name h. record { whole = h; request = tt })
      by_target false = tt

  body_said : (form : Form) → headers.action ≡ action_of form → is_named body.name soap_space (codes "Fault") ≡ false
      → IfOk (body_of form headers.context body) (IsSaid headers target)
  body_said forms.Create e n =
      let g = asked_well headers body.name forms.Create create_asks e n asked in
      chain IsWholeCreate (IsSaid headers target) (coordination (create_of body)) _ (of_coordination IsWholeCreate (create_of body) (create_whole body f))
      (λ said k. record { whole = k; request = record { id = g.id; reply = g.reply; fault = g.fault } })
  body_said forms.CreateResponse e n =
      chain IsWholeContext (IsSaid headers target) (coordination (create_response_of body)) _ (of_coordination IsWholeContext (create_response_of body) (create_response_whole body f))
      (λ said k. record { whole = k; request = tt })
  body_said forms.Register e n =
      let g = asked_well headers body.name forms.Register register_asks e n asked in
      chain IsWholeRegister (IsSaid headers target) (coordination (register_of body)) _ (of_coordination IsWholeRegister (register_of body) (register_whole body f))
      (λ said k. record { whole = k; request = record { id = g.id; reply = g.reply; fault = g.fault } })
  body_said forms.RegisterResponse e n =
      chain IsWholeEndpoint (IsSaid headers target) (coordination (register_response_of body)) _ (of_coordination IsWholeEndpoint (register_response_of body) (register_response_whole body f))
      (λ said k. record { whole = k; request = tt })
  body_said (forms.Notice notice) e n = record { whole = tt; request = tt }
  body_said forms.Work e n =
      let g = asked_well headers body.name forms.Work work_asks e n asked in
      chain IsWholeWork (IsSaid headers target) (work_of headers.context body) _ (work_whole headers.context body w.context f)
      (λ said k. record { whole = k; request = record { id = g.id; reply = g.reply; fault = g.fault } })
  body_said forms.WorkDone e n = record { whole = tt; request = tt }
  body_said forms.WorkRefused e n = record { whole = tt; request = tt }

  form_said : (form : Option Form) → IfSome form (λ found. headers.action ≡ action_of found) → is_named body.name soap_space (codes "Fault") ≡ false
      → IfOk (said_at form headers.context target body) (IsSaid headers target)
  form_said None e n = tt
  form_said (Some form) e n = by_tests (takes_form target form) (is_named body.name (space_of form) (local_of form))
    where
      by_tests : (a b : Bool) → IfOk {E = Refusal} (cond a (cond b (body_of form headers.context body) (Err (Parameters Body))) (Err Action)) (IsSaid headers target)
      by_tests true true = body_said form e n
      by_tests true false = tt
      by_tests false b = tt

  message_said : IfOk (message_of headers target body) (IsSaid headers target)
  message_said = by_fault (is_named body.name soap_space (codes "Fault")) refl
    where
      by_fault : (b : Bool) → is_named body.name soap_space (codes "Fault") ≡ b
          → IfOk {E = Refusal} (cond b (fault_at target body) (said_at (form_at headers.action) headers.context target body)) (IsSaid headers target)
      by_fault true e = fault_said
      by_fault false e = form_said (form_at headers.action) (action_named headers.action (form_at headers.action) refl) e

-- an arrival

same_unit : (asked : Result (Unit {0}) AddressingRefusal) → IfOk asked (λ u. asked ≡ Ok tt)
same_unit (Ok u) = refl
same_unit (Err f) = tt

said_whole : (headers : Headers) (body : Tree) (path : List ℕ) → AreWhole headers → Fit body → IfOk (said_in headers body path) (λ said. IsSaid headers said.0 said.1)
said_whole headers body path w f =
    chain (λ u. request_of headers body.name ≡ Ok tt) (λ said. IsSaid headers said.0 said.1) (addressing (request_of headers body.name)) _
    (of_addressing (λ u. request_of headers body.name ≡ Ok tt) (request_of headers body.name) (same_unit (request_of headers body.name)))
    (λ u asked. any (λ said. IsSaid headers said.0 said.1) (targeted (target_at headers.to path)) _
    (λ target. chain (IsSaid headers target) (λ said. IsSaid headers said.0 said.1) (message_of headers target body) _ (message_said headers target body w f asked)
    (λ message h. h)))

under_whole : (headers : Headers) (body : Tree) (path : List ℕ) → AreWhole headers → Fit body → IfOk (arrival_under headers body path) IsWhole
under_whole headers body path w f =
    chain (λ said. IsSaid headers said.0 said.1) IsWhole (said_in headers body path) (λ said. Ok (arrived headers said.0 said.1)) (said_whole headers body path w f)
    (λ said h. record {
      to = w.to;
      id = w.id;
      relates = w.relates;
      from = w.from;
      reply = w.reply;
      fault = w.fault;
      message = h.whole;
      request = h.request;
    })

arrival_whole : (t : Tree) (path : List ℕ) → Fit t → IfOk (arrival_of t path) IsWhole
arrival_whole t path f =
    chain FitEnvelope IsWhole (soap (envelope_of t)) (λ envelope. arrival_in envelope path) (of_soap FitEnvelope (envelope_of t) (envelope_fit t f))
    (λ envelope e. chain AreWhole IsWhole (addressing (headers_of envelope.headers)) (λ headers. arrival_under headers envelope.body path)
    (of_addressing AreWhole (headers_of envelope.headers) (headers_whole envelope.headers e.headers))
    (λ headers w. under_whole headers envelope.body path w e.body))

pub is_whole : (bytes path : List ℕ) (t : Tree) → Reads bytes t → (result : Result Arrival Refusal) → Answers (arrival_of t path) result → IfOk result IsWhole
is_whole bytes path t r (Ok a) h = subst (λ (answer : Result Arrival Refusal). IfOk answer IsWhole) h (arrival_whole t path (read_fit bytes t r))
is_whole bytes path t r (Err refusal) h = tt

-- of what arrives

pub arrives_whole : (bytes path : List ℕ) (a : Arrival) → Arrives bytes path a → IsWhole a
arrives_whole bytes path a m = subst (λ (answer : Result Arrival Refusal). IfOk answer IsWhole) m.means (arrival_whole m.tree path (read_fit bytes m.tree m.reads))

abbrev IsNamed : List ℕ → Arrival → Type 0
IsNamed path a = target_at a.to path ≡ Some a.target

targeted_so : (target : Option Target) → IfOk (targeted target) (λ found. target ≡ Some found)
targeted_so None = tt
targeted_so (Some target) = refl

said_named : (headers : Headers) (body : Tree) (path : List ℕ) → IfOk (said_in headers body path) (λ said. target_at headers.to path ≡ Some said.0)
said_named headers body path =
    any (λ said. target_at headers.to path ≡ Some said.0) (addressing (request_of headers body.name)) _
    (λ asked. chain (λ found. target_at headers.to path ≡ Some found) (λ said. target_at headers.to path ≡ Some said.0) (targeted (target_at headers.to path)) _
    (targeted_so (target_at headers.to path))
    (λ target h. any (λ said. target_at headers.to path ≡ Some said.0) (message_of headers target body) _ (λ message. h)))

arrival_named : (t : Tree) (path : List ℕ) → IfOk (arrival_of t path) (IsNamed path)
arrival_named t path =
    any (IsNamed path) (soap (envelope_of t)) (λ envelope. arrival_in envelope path)
    (λ envelope. any (IsNamed path) (addressing (headers_of envelope.headers)) (λ headers. arrival_under headers envelope.body path)
    (λ headers. chain (λ said. target_at headers.to path ≡ Some said.0) (IsNamed path) (said_in headers envelope.body path) (λ said. Ok (arrived headers said.0 said.1))
    (said_named headers envelope.body path) (λ said h. h)))

pub arrives_named : (bytes path : List ℕ) (a : Arrival) → Arrives bytes path a → target_at a.to path ≡ Some a.target
arrives_named bytes path a m = subst (λ (answer : Result Arrival Refusal). IfOk answer (IsNamed path)) m.means (arrival_named m.tree path)
