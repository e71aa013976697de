-- The messages that a node sends, and where they go (WS-Addressing 1.0 Core, section 3; this project's profile of which
-- headers each message has).
use Rattle.std.specs.Prelude.{ℕ, List, [], ◌∷◌, Option, Some, None}
use Rattle.at_base.specs.Names.{fault_name}
use Rattle.at_base.specs.declared.epr.Epr.{Epr}
use Rattle.at_base.specs.declared.epr.Reply.{Reply}
use Rattle.at_base.specs.declared.epr.Reply.TheVariants as replies
use Rattle.at_base.specs.declared.notice.Notice.{Notice}
use Rattle.at_base.specs.declared.notice.Notice.TheVariants as notices
use Rattle.at_base.specs.declared.fault.Fault.{Fault}
use Rattle.at_base.specs.declared.message.Message.{Message}
use Rattle.at_base.specs.declared.message.Message.TheVariants as messages
use Rattle.at_base.specs.declared.target.Target.{Target}
use Rattle.at_base.specs.declared.outs.Post.{Post}
use Rattle.at_base.specs.declared.outs.Out.{Out}
use Rattle.at_base.specs.declared.outs.Out.TheVariants as outs
use Rattle.endpoints.specs.Addresses.{endpoint_of, register_id}

-- From stands on Prepare, Commit, Rollback and Prepared: these may draw an answer where nothing is known.
abbrev pub from_on : Notice → Epr → Option Epr
from_on notices.Prepare own = Some own
from_on notices.Commit own = Some own
from_on notices.Rollback own = Some own
from_on notices.Prepared own = Some own
from_on notices.ReadOnly own = None
from_on notices.Aborted own = None
from_on notices.Committed own = None

-- A notification of this sender's own, a one-way message: its reply endpoint is none.
abbrev pub notice_post : List ℕ → Target → Epr → Notice → Post
notice_post base own to n = record {
  own = Some own;
  to = Some to;
  id = None;
  relates = None;
  from = from_on n (endpoint_of base own);
  reply = Some replies.Nobody;
  message = messages.Notice n;
}

-- A notification from where nothing is known.
abbrev pub stranger_post : List ℕ → Target → Epr → Notice → Post
stranger_post base own to n = record {
  own = None;
  to = Some to;
  id = None;
  relates = None;
  from = from_on n (endpoint_of base own);
  reply = Some replies.Nobody;
  message = messages.Notice n;
}

-- A fault, related to the message that drew it where that had an id.
abbrev pub fault_post : Option Epr → Option (List ℕ) → Fault → Post
fault_post to relates fault = record {
  own = None;
  to = to;
  id = None;
  relates = relates;
  from = None;
  reply = None;
  message = messages.Fault (fault_name fault);
}

-- An answer to a request.
abbrev pub reply_post : Option Epr → Option (List ℕ) → Message → Post
reply_post to relates m = record {
  own = None;
  to = to;
  id = None;
  relates = relates;
  from = None;
  reply = None;
  message = m;
}

-- A request, which names the sender's own endpoint for its answer.
abbrev pub request_post : List ℕ → Target → Epr → List ℕ → Message → Post
request_post base own to id m = record {
  own = None;
  to = Some to;
  id = Some id;
  relates = None;
  from = None;
  reply = Some (replies.At (endpoint_of base own));
  message = m;
}

-- Register (WS-Coordination 1.2, section 3.2): the same message each time it is sent.
abbrev pub register_post : List ℕ → Target → List ℕ → Epr → Post
register_post base own protocol to =
    request_post base own to (register_id base own)
    (messages.Register (record { protocol = protocol; participant = endpoint_of base own }))

-- Where it goes: to the stored endpoint, or to the message's From while there is none.
abbrev pub stored_or : Option Epr → Option Epr → Option Epr
stored_or (Some stored) from = Some stored
stored_or None from = from

-- nothing is sent where there is no endpoint
abbrev pub to_each : Option Epr → (Epr → Post) → List Post
to_each None post = []
to_each (Some to) post = post to ∷ []

-- The answer of a one-way message that was accepted.
abbrev pub accepted : List Out
accepted = outs.Answer 202 None ∷ []

-- An answer to a request, on the connection where the reply endpoint is anonymous (WS-Addressing 1.0 SOAP Binding,
-- section 5.1).
abbrev pub replied : Reply → Option (List ℕ) → Message → List Out
replied replies.Anonymous relates m = outs.Answer 200 (Some (reply_post None relates m)) ∷ []
replied replies.Nobody relates m = accepted
replied (replies.At to) relates m = outs.Answer 202 None ∷ outs.Post (reply_post (Some to) relates m) ∷ []

-- A fault that answers a request.
abbrev pub faulted : Reply → Option (List ℕ) → Fault → List Out
faulted replies.Anonymous relates fault = outs.Answer 500 (Some (fault_post None relates fault)) ∷ []
faulted replies.Nobody relates fault = accepted
faulted (replies.At to) relates fault = outs.Answer 202 None ∷ outs.Post (fault_post (Some to) relates fault) ∷ []
