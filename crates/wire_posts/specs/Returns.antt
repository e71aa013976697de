-- When a post is read as what was sent, and what arrives then.
use Rattle.std.specs.Prelude.{◌≡◌, ℕ, List, true, IfSome, is_some, Option, Some, None, if◌then◌else◌}
use Rattle.std.specs.Option.{option_map}
use Rattle.std.specs.Str.{bytes_eq}
use Rattle.xml_profile.specs.declared.tree.Tree.{Tree}
use Rattle.xml_grammar.specs.Limits.{IsWithin}
use Rattle.xml_grammar.specs.Refusals.{IsShort}
use Rattle.at_base.specs.Names.{fault_name}
use Rattle.at_base.specs.declared.fault.Fault.{Fault}
use Rattle.at_base.specs.declared.epr.Epr.{Epr}
use Rattle.at_base.specs.declared.epr.Reply.{Reply}
use Rattle.at_base.specs.declared.epr.Reply.TheVariants as replies
use Rattle.at_base.specs.declared.message.Message.{Message}
use Rattle.at_base.specs.declared.message.Message.TheVariants as messages
use Rattle.at_base.specs.declared.outs.Post.{Post}
use Rattle.at_base.specs.declared.target.Target.{Target}
use Rattle.endpoints.specs.Forms.{takes}
use Rattle.addressing.specs.Endpoints.{anonymous}
use Rattle.addressing.specs.Requests.{is_answerable}
use Rattle.wire_msgs.specs.declared.decode.Arrival.{Arrival}
use Rattle.wire_msgs.specs.Arrivals.{Arrives}
use Rattle.wire_msgs.specs.Targets.{target_at}
use Rattle.wire_msgs.specs.WholeMessages.{IsClean, IsSource, IsWholeEndpoint, IsWholeMessage}
use Rattle.wire_posts.specs.declared.encode.Encoded.{Encoded}
use Rattle.wire_posts.specs.declared.encode.Encoded.TheVariants as encoded
use Rattle.wire_posts.specs.declared.encode.Outgoing.{Outgoing}
use Rattle.wire_posts.specs.declared.encode.Outgoing.TheVariants as outgoing
use Rattle.wire_posts.specs.Envelopes.{IsEnvelopeOf, reply_epr}

-- what arrives

-- a destination that is anonymous isn't written
abbrev pub written_to : Option Epr → Option (List ℕ)
written_to None = None
written_to (Some epr) = if bytes_eq epr.address anonymous then None else Some epr.address

-- the message at its target, with the headers that it was sent with
abbrev pub returned : Post → Target → Arrival
returned post target =
    record {
      message = post.message;
      target = target;
      to = written_to post.to;
      id = post.id;
      relates = post.relates;
      from = post.from;
      reply = option_map reply_epr post.reply;
      fault = None;
    }

-- when it does

abbrev pub IsWholeReply : Reply → Type 0
IsWholeReply replies.Anonymous = Unit {0}
IsWholeReply replies.Nobody = Unit {0}
IsWholeReply (replies.At epr) = IsWholeEndpoint epr

-- the name of a fault of the protocols
pub record IsProtocolFault (name : List ℕ) : Type 0 where
  pub fault : Fault
  pub named : name ≡ fault_name fault

-- what a body keeps when it is read; a fault that is written is one of the protocols'
abbrev pub CanBeWritten : Message → Type 0
CanBeWritten (messages.Fault name) = IsProtocolFault name
CanBeWritten message = IsWholeMessage message

-- a request has an id, and its reply endpoint can be answered (WS-Addressing 1.0 Core, sections 3.2 to 3.4)
pub record IsAnswerable (post : Post) : Type 0 where
  pub id : is_some post.id ≡ true
  pub reply : is_answerable (option_map reply_epr post.reply) ≡ true

abbrev pub IsRequest : Message → Post → Type 0
IsRequest (messages.Create body) post = IsAnswerable post
IsRequest (messages.Register body) post = IsAnswerable post
IsRequest (messages.Work body) post = IsAnswerable post
IsRequest message post = Unit {0}

-- a post that can be read at a path, at this target
pub record CanReturn (post : Post) (path : List ℕ) (target : Target) : Type 0 where
  pub to : IfSome post.to (λ epr. IsClean epr.address)
  pub named : target_at (written_to post.to) path ≡ Some target
  pub taken : takes target post.message ≡ true
  pub id : IfSome post.id IsClean
  pub relates : IfSome post.relates IsClean
  pub from : IfSome post.from IsSource
  pub reply : IfSome post.reply IsWholeReply
  pub message : CanBeWritten post.message
  pub request : IsRequest post.message post

-- its envelope is within the limits of what is read
abbrev pub IsInLimits : Post → Type 0
IsInLimits post = (t : Tree) → IsEnvelopeOf post t → IsWithin t

-- a text is read as the post that it was written of
abbrev pub Returns : Post → List ℕ → Type 0
Returns post text =
    (path : List ℕ) (target : Target) → CanReturn post path target → IsInLimits post → IsShort text → Arrives text path (returned post target)

-- a message that goes out is
abbrev pub IsReadBack : Outgoing → Encoded → Type 0
IsReadBack (outgoing.Post post) (encoded.Request bytes) = Returns post bytes.items
IsReadBack (outgoing.Post post) (encoded.Answer answer) = ⊥
IsReadBack (outgoing.Refusal refusal) _ = Unit {0}
