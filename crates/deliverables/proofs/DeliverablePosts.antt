-- What has deliverable endpoints and texts can arrive.
use Rattle.std.specs.Prelude.{Option, Some, None, IfSome, Bool, true, false, ◌||◌, ◌≡◌}
use Rattle.std.specs.Option.{option_map}
use Rattle.std.proofs.Common.{refl}
use Rattle.addressing.specs.Endpoints.{is_anonymous, is_nobody}
use Rattle.addressing.specs.Requests.{is_answerable}
use Rattle.arrivals.specs.BookArrivals.{has_postable, is_postable}
use Rattle.arrivals.specs.Worlds.{CanArrive, IsProper, IsProperReply, IsWritten}
use Rattle.at_base.specs.declared.epr.Epr.{Epr}
use Rattle.at_base.specs.declared.epr.Reply.{Reply}
use Rattle.at_base.specs.declared.epr.Reply.TheVariants as replies
use Rattle.at_base.specs.declared.message.Message.{Message}
use Rattle.at_base.specs.declared.message.Message.TheVariants as messages
use Rattle.at_base.specs.declared.outs.Post.{Post}
use Rattle.provenance.specs.Forms.{IsAnswerable, IsAnswerableIn, IsMessage, IsPost, IsReply}
use Rattle.wire_msgs.specs.WholeMessages.{IsSource, IsWholeContext}
use Rattle.wire_posts.specs.Envelopes.{reply_epr}
use Rattle.wire_posts.specs.Returns.{CanBeWritten, IsRequest, IsWholeReply}
use Rattle.wire_posts.specs.Returns.{IsAnswerable as CanBeAnswered}
use Rattle.deliverables.specs.Deliverables.{IsDeliverable, IsDeliverableContext, deliverable}

if_some : {A : Type 0} (P Q : A → Type 0) → ((x : A) → P x → Q x) → (o : Option A) → IfSome o P → IfSome o Q
if_some P Q f None h = tt
if_some P Q f (Some x) h = f x h

first_false : (a b : Bool) → (a || b) ≡ false → a ≡ false
first_false true b e = absurd cc
first_false false b e = refl

second_false : (a b : Bool) → (a || b) ≡ false → b ≡ false
second_false true b e = absurd cc
second_false false b e = e

written : (e : Epr) → IsDeliverable e → IsWritten e
written e h = record {
  clean = record { trimmed = h.whole.kept.trimmed; spelled = h.whole.spelled };
  somewhere = first_false (is_anonymous e) (is_nobody e) h.somewhere;
}

source : (e : Epr) → IsDeliverable e → IsSource e
source e h = record { whole = h.whole; somewhere = h.somewhere }

whole_reply : (r : Reply) → IsReply deliverable r → IsWholeReply r
whole_reply replies.Anonymous h = tt
whole_reply replies.Nobody h = tt
whole_reply (replies.At e) h = h.whole

proper_reply : (r : Reply) → IsReply deliverable r → IsProperReply r
proper_reply replies.Anonymous h = tt
proper_reply replies.Nobody h = tt
proper_reply (replies.At e) h = h.somewhere

can_be_written : (m : Message) → IsMessage deliverable m → CanBeWritten m
can_be_written (messages.Create body) (expires, current, coordination) = record {
  expires = expires;
  current = if_some IsDeliverableContext IsWholeContext (λ c k. k.whole) body.current current;
  coordination = coordination;
}
can_be_written (messages.CreateResponse context) h = h.whole
can_be_written (messages.Register body) (protocol, endpoint) = record { protocol = protocol; participant = endpoint.whole }
can_be_written (messages.RegisterResponse coordinator) h = h.whole
can_be_written (messages.Notice notice) h = tt
can_be_written (messages.Work body) (context, key, value) = record {
  context = context.whole;
  key = key.clean;
  short_key = key.short;
  value = value.clean;
  short_value = value.short;
}
can_be_written messages.WorkDone h = tt
can_be_written messages.WorkRefused h = tt
can_be_written (messages.Fault name) (fault, named) = record { fault = fault; named = named }

or_true : (a b : Bool) → b ≡ true → (a || b) ≡ true
or_true true b e = refl
or_true false b e = e

at_answerable : (e : Epr) → IsDeliverable e → is_answerable (Some e) ≡ true
at_answerable e h = or_true (is_anonymous e) _ (or_true (is_nobody e) _ h.postable)

reply_answerable : (reply : Option Reply) → IfSome reply (IsReply deliverable) → (to : Epr) × (reply ≡ Some (replies.At to)) → is_answerable (option_map reply_epr reply) ≡ true
reply_answerable None h (to, e) = absurd cc
reply_answerable (Some replies.Anonymous) h (to, e) = absurd cc
reply_answerable (Some replies.Nobody) h (to, e) = absurd cc
reply_answerable (Some (replies.At from)) h (to, e) = at_answerable from h

answerable : (p : Post) → IsPost deliverable p → IsAnswerable p → CanBeAnswered p
answerable p h r = record { id = r.id; reply = reply_answerable p.reply h.reply r.reply }

request : (m : Message) (p : Post) → IsPost deliverable p → IsAnswerableIn m p → IsRequest m p
request (messages.Create body) p h r = answerable p h r
request (messages.CreateResponse context) p h r = tt
request (messages.Register body) p h r = answerable p h r
request (messages.RegisterResponse coordinator) p h r = tt
request (messages.Notice notice) p h r = tt
request (messages.Work body) p h r = answerable p h r
request messages.WorkDone p h r = tt
request messages.WorkRefused p h r = tt
request (messages.Fault name) p h r = tt

pub can_arrive : (p : Post) → IsPost deliverable p → CanArrive p
can_arrive p h = record {
  to = if_some IsDeliverable IsWritten written p.to h.to;
  id = h.id;
  relates = h.relates;
  from = if_some IsDeliverable IsSource source p.from h.from;
  reply = if_some (IsReply deliverable) IsWholeReply whole_reply p.reply h.reply;
  message = can_be_written p.message h.message;
  request = request p.message p h h.request;
}

participant : (m : Message) → IsMessage deliverable m → has_postable m ≡ true
participant (messages.Register body) (protocol, endpoint) = endpoint.postable
participant (messages.Create body) h = refl
participant (messages.CreateResponse context) h = refl
participant (messages.RegisterResponse coordinator) h = refl
participant (messages.Notice notice) h = refl
participant (messages.Work body) h = refl
participant messages.WorkDone h = refl
participant messages.WorkRefused h = refl
participant (messages.Fault name) h = refl

pub is_proper : (p : Post) → IsPost deliverable p → IsProper p
is_proper p h = record {
  from = if_some IsDeliverable (λ e. is_postable e ≡ true) (λ e k. k.postable) p.from h.from;
  reply = if_some (IsReply deliverable) IsProperReply proper_reply p.reply h.reply;
  participant = participant p.message h.message;
}
