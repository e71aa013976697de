-- A post that has what is asked of endpoints and texts also has whatever is less.
use Rattle.std.proofs.Common.{ℕ, List, Option, Some, None, IfSome}
use Rattle.at_base.specs.declared.epr.Epr.{Epr}
use Rattle.at_base.specs.declared.epr.Reply.{Reply}
use Rattle.at_base.specs.declared.epr.Reply.TheVariants as replies
use Rattle.at_base.specs.declared.message.Context.{Context}
use Rattle.at_base.specs.declared.message.Message.{Message}
use Rattle.at_base.specs.declared.message.Message.TheVariants as messages
use Rattle.at_base.specs.declared.outs.Post.{Post}
use Rattle.provenance.specs.Forms.{Forms, IsMessage, IsPost, IsReply}

pub record AsksMore (F G : Forms) : Type 0 where
  pub endpoint : (e : Epr) → F.endpoint e → G.endpoint e
  pub context : (c : Context) → F.context c → G.context c
  pub span : (o : Option ℕ) → F.span o → G.span o
  pub id : (text : List ℕ) → F.id text → G.id text
  pub uri : (text : List ℕ) → F.uri text → G.uri text
  pub field : (text : List ℕ) → F.field text → G.field text

if_some : {A : Type 0} (P Q : A → Type 0) → ((x : A) → P x → Q x) → (o : Option A) → IfSome o P → IfSome o Q
if_some P Q f None h = tt
if_some P Q f (Some x) h = f x h

module _ (F G : Forms) (more : AsksMore F G) where
  weaker_reply : (r : Reply) → IsReply F r → IsReply G r
  weaker_reply replies.Anonymous h = tt
  weaker_reply replies.Nobody h = tt
  weaker_reply (replies.At e) h = more.endpoint e h

  weaker_message : (m : Message) → IsMessage F m → IsMessage G m
  weaker_message (messages.Create body) (span, current, uri) =
      (more.span body.expires span, if_some F.context G.context more.context body.current current, more.uri body.coordination uri)
  weaker_message (messages.CreateResponse context) h = more.context context h
  weaker_message (messages.Register body) (uri, endpoint) = (more.uri body.protocol uri, more.endpoint body.participant endpoint)
  weaker_message (messages.RegisterResponse coordinator) h = more.endpoint coordinator h
  weaker_message (messages.Notice notice) h = tt
  weaker_message (messages.Work body) (context, key, value) = (more.context body.context context, more.field body.key key, more.field body.value value)
  weaker_message messages.WorkDone h = tt
  weaker_message messages.WorkRefused h = tt
  weaker_message (messages.Fault name) h = h

  pub weaker_post : (p : Post) → IsPost F p → IsPost G p
  weaker_post p h = record {
    to = if_some F.endpoint G.endpoint more.endpoint p.to h.to;
    id = if_some F.id G.id more.id p.id h.id;
    relates = if_some F.id G.id more.id p.relates h.relates;
    from = if_some F.endpoint G.endpoint more.endpoint p.from h.from;
    reply = if_some (IsReply F) (IsReply G) weaker_reply p.reply h.reply;
    message = weaker_message p.message h.message;
    request = h.request;
  }
