-- What the body of each message but a fault says (WS-Coordination 1.2, section 3; this project's Work).
-- Children stand in any order, and others are skipped.
use Rattle.std.specs.Prelude.{ℕ, List, nat_le, length, Option, Some, None, Result, Ok, Err, if◌then◌else◌}
use Rattle.at_base.specs.declared.limits.TheConstants.{MOST_FIELD}
use Rattle.at_base.specs.Names.{kind_named, vote_named}
use Rattle.xml_profile.specs.declared.tree.Tree.{Tree}
use Rattle.soap_profile.specs.Values.{text_value}
use Rattle.addressing.specs.declared.headers.Header.TheVariants.{CoordinationContext}
use Rattle.at_base.specs.declared.notice.Kind.{Kind}
use Rattle.at_base.specs.declared.notice.Vote.{Vote}
use Rattle.at_base.specs.declared.message.Message.{Message}
use Rattle.at_base.specs.declared.message.Message.TheVariants as messages
use Rattle.at_base.specs.declared.message.Work.{Work}
use Rattle.context.specs.Bodies.{context_of, create_of, create_response_of, register_of, register_response_of}
use Rattle.endpoints.specs.declared.form.Form.{Form}
use Rattle.endpoints.specs.declared.form.Form.TheVariants as forms
use Rattle.wire_msgs.specs.declared.part.Part.{Part}
use Rattle.wire_msgs.specs.declared.part.Part.TheVariants as parts
use Rattle.wire_msgs.specs.declared.refusal.ParameterName.TheVariants as names
use Rattle.wire_msgs.specs.declared.refusal.Refusal.{Refusal}
use Rattle.wire_msgs.specs.declared.refusal.Refusal.TheVariants.{Parameters, MissingHeader}
use Rattle.wire_msgs.specs.Parts.{child_in}
use Rattle.wire_msgs.specs.Refusals.{coordination, ◌>>=◌}

-- a child that is missing, repeated or unreadable
abbrev pub unreadable : Part → Refusal
unreadable part = Parameters (names.Part part)

-- a child that must be there
abbrev pub required : Part → Option (Option Tree) → Result Tree Refusal
required part None = Err (unreadable part)
required part (Some None) = Err (unreadable part)
required part (Some (Some t)) = Ok t

-- a value that can be read
abbrev pub readable : {A : Type 0} → Part → Option A → Result A Refusal
readable part None = Err (unreadable part)
readable part (Some value) = Ok value

abbrev pub text_in : Tree → Part → Result (List ℕ) Refusal
text_in t part = do
  child ← required part (child_in t part)
  Ok (text_value child)

-- a text of at most 256 bytes
abbrev pub short : List ℕ → Option (List ℕ)
short text = if nat_le (length text) MOST_FIELD then Some text else None

abbrev pub short_in : Tree → Part → Result (List ℕ) Refusal
short_in t part = do
  text ← text_in t part
  readable part (short text)

abbrev pub kind_in : Tree → Result Kind Refusal
kind_in t = do
  name ← text_in t parts.Kind
  readable parts.Kind (kind_named name)

abbrev pub vote_in : Tree → Result Vote Refusal
vote_in t = do
  name ← text_in t parts.Vote
  readable parts.Vote (vote_named name)

-- a Work is done under the context in its header (WS-Coordination 1.2, section 2)
abbrev pub work_of : Option Tree → Tree → Result Work Refusal
work_of None t = Err (MissingHeader CoordinationContext)
work_of (Some header) t = do
  context ← coordination (context_of header)
  key ← short_in t parts.Key
  value ← short_in t parts.Value
  kind ← kind_in t
  vote ← vote_in t
  Ok (record { context = context; key = key; value = value; kind = kind; vote = vote })

-- the message that a body of this form says; a notification says nothing more (WS-AtomicTransaction 1.2, section 3)
abbrev pub body_of : Form → Option Tree → Tree → Result Message Refusal
body_of forms.Create context t = coordination (create_of t) >>= λ body. Ok (messages.Create body)
body_of forms.CreateResponse context t = coordination (create_response_of t) >>= λ body. Ok (messages.CreateResponse body)
body_of forms.Register context t = coordination (register_of t) >>= λ body. Ok (messages.Register body)
body_of forms.RegisterResponse context t = coordination (register_response_of t) >>= λ body. Ok (messages.RegisterResponse body)
body_of (forms.Notice notice) context t = Ok (messages.Notice notice)
body_of forms.Work context t = work_of context t >>= λ body. Ok (messages.Work body)
body_of forms.WorkDone context t = Ok messages.WorkDone
body_of forms.WorkRefused context t = Ok messages.WorkRefused
