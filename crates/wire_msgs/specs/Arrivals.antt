-- The message that arrives with a request: what its bytes and its path mean, or the first refusal that holds.
use Rattle.std.specs.Prelude.{◌≡◌, ℕ, List, Option, Some, None, Result, Ok, Err, if◌then◌else◌}
use Rattle.xml_profile.specs.declared.tree.Tree.{Tree}
use Rattle.xml_grammar.specs.Refusals.{Reads}
use Rattle.xml_grammar.specs.Refusals.{Refuses as RefusesTree}
use Rattle.xml_grammar.specs.declared.reader.TreeRefusal.TheVariants as trees
use Rattle.soap_profile.specs.Values.{is_named}
use Rattle.soap_profile.specs.Envelopes.{envelope_of}
use Rattle.soap_profile.specs.Faults.{fault_of, is_fault}
use Rattle.soap_profile.specs.EnvelopeParts.{Envelope}
use Rattle.addressing.specs.Headers.{headers_of}
use Rattle.addressing.specs.Requests.{request_of}
use Rattle.addressing.specs.Message.{Headers}
use Rattle.at_base.specs.declared.message.Message.{Message}
use Rattle.at_base.specs.declared.message.Message.TheVariants.{Fault}
use Rattle.at_base.specs.declared.target.Target.{Target}
use Rattle.wire_msgs.specs.declared.decode.Arrival.{Arrival}
use Rattle.endpoints.specs.declared.form.Form.{Form}
use Rattle.wire_msgs.specs.declared.refusal.ParameterName.TheVariants.{Body}
use Rattle.wire_msgs.specs.declared.refusal.Refusal.{Refusal}
use Rattle.wire_msgs.specs.declared.refusal.Refusal.TheVariants.{TooLong, NotUtf8, NotSpelled, TooDeep, TooMany, VersionMismatch, NotEnvelope, MustUnderstand, MissingHeader, InvalidHeader, NoTarget, Action, Parameters, NoMemory}
use Rattle.wire_msgs.specs.Bodies.{body_of}
use Rattle.endpoints.specs.Forms.{takes_fault, takes_form}
use Rattle.wire_msgs.specs.Forms.{form_at, local_of, space_of}
use Rattle.wire_msgs.specs.Refusals.{addressing, fault, soap, ◌>>=◌}
use Rattle.wire_msgs.specs.Targets.{target_at}

-- the path names a service or an item
abbrev pub targeted : Option Target → Result Target Refusal
targeted None = Err NoTarget
targeted (Some target) = Ok target

-- a fault at a target that takes faults
abbrev pub fault_at : Target → Tree → Result Message Refusal
fault_at target body =
    if takes_fault target then (fault (fault_of body) >>= λ name. Ok (Fault name))
    else Err Action

-- the element in the body is the action's (WS-Coordination 1.2 and WS-AtomicTransaction 1.2, section 1.3)
abbrev pub named_at : Form → Option Tree → Tree → Result Message Refusal
named_at form context body =
    if is_named body.name (space_of form) (local_of form) then body_of form context body
    else Err (Parameters Body)

-- the target takes messages of this action (WS-Addressing 1.0 SOAP Binding, section 6.4.4)
abbrev pub said_at : Option Form → Option Tree → Target → Tree → Result Message Refusal
said_at None context target body = Err Action
said_at (Some form) context target body = if takes_form target form then named_at form context body else Err Action

-- a body that is a Fault is one whatever the action (SOAP 1.1, section 4.4)
abbrev pub message_of : Headers → Target → Tree → Result Message Refusal
message_of headers target body =
    if is_fault body.name then fault_at target body
    else said_at (form_at headers.action) headers.context target body

abbrev pub arrived : Headers → Target → Message → Arrival
arrived headers target message =
    record {
      message = message;
      target = target;
      to = headers.to;
      id = headers.id;
      relates = headers.relates;
      from = headers.from;
      reply = headers.reply;
      fault = headers.fault;
    }

-- what the headers lack for a request, then the target, then the message
abbrev pub said_in : Headers → Tree → List ℕ → Result (Target × Message) Refusal
said_in headers body path = do
  asked ← addressing (request_of headers body.name)
  target ← targeted (target_at headers.to path)
  message ← message_of headers target body
  Ok (target, message)

abbrev pub arrival_under : Headers → Tree → List ℕ → Result Arrival Refusal
arrival_under headers body path = do
  said ← said_in headers body path
  Ok (arrived headers said.0 said.1)

-- what the headers say, then these
abbrev pub arrival_in : Envelope → List ℕ → Result Arrival Refusal
arrival_in envelope path = do
  headers ← addressing (headers_of envelope.headers)
  arrival_under headers envelope.body path

-- what a tree means at a path
abbrev pub arrival_of : Tree → List ℕ → Result Arrival Refusal
arrival_of t path = do
  envelope ← soap (envelope_of t)
  arrival_in envelope path

-- what bytes mean at a path: they spell a tree, and the tree means this
pub record Means (bytes path : List ℕ) (answer : Result Arrival Refusal) : Type 0 where
  pub tree : Tree
  pub reads : Reads bytes tree
  pub means : arrival_of tree path ≡ answer

-- the bytes mean this arrival
abbrev pub Arrives : List ℕ → List ℕ → Arrival → Type 0
Arrives bytes path arrival = Means bytes path (Ok arrival)

-- the first refusal that holds; want of memory says nothing of the request
abbrev pub IsRefused : List ℕ → List ℕ → Refusal → Type 0
IsRefused bytes path TooLong = RefusesTree bytes trees.TooLong
IsRefused bytes path (NotUtf8 place) = RefusesTree bytes (trees.NotUtf8 place)
IsRefused bytes path NotSpelled = RefusesTree bytes trees.NotSpelled
IsRefused bytes path TooDeep = RefusesTree bytes trees.TooDeep
IsRefused bytes path TooMany = RefusesTree bytes trees.TooMany
IsRefused bytes path VersionMismatch = Means bytes path (Err VersionMismatch)
IsRefused bytes path NotEnvelope = Means bytes path (Err NotEnvelope)
IsRefused bytes path (MustUnderstand name) = Means bytes path (Err (MustUnderstand name))
IsRefused bytes path (MissingHeader name) = Means bytes path (Err (MissingHeader name))
IsRefused bytes path (InvalidHeader name) = Means bytes path (Err (InvalidHeader name))
IsRefused bytes path NoTarget = Means bytes path (Err NoTarget)
IsRefused bytes path Action = Means bytes path (Err Action)
IsRefused bytes path (Parameters name) = Means bytes path (Err (Parameters name))
IsRefused bytes path NoMemory = Unit {0}
