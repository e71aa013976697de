-- What has arrived could be posted.
use Rattle.std.proofs.Common.{◌≡◌, refl, sym, subst, ℕ, List, Bool, true, false, cond, IfSome, Option, Some, None}
use Rattle.std.specs.Option.{option_map}
use Rattle.std.specs.Str.{bytes_eq, chars, is_utf8}
use Rattle.std.proofs.lemmas.Slice.Eq.{bytes_eq-Decides}
use Rattle.at_base.specs.declared.epr.Epr.{Epr}
use Rattle.at_base.specs.declared.epr.Reply.{Reply}
use Rattle.at_base.specs.declared.epr.Reply.TheVariants as replies
use Rattle.at_base.specs.declared.message.Message.{Message}
use Rattle.at_base.specs.declared.message.Message.TheVariants as messages
use Rattle.at_base.specs.declared.outs.Post.{Post}
use Rattle.at_base.specs.declared.target.Target.{Target}
use Rattle.addressing.specs.Endpoints.{anonymous}
use Rattle.wire_msgs.specs.Arrivals.{Arrives}
use Rattle.wire_msgs.specs.WholeMessages.{IsAskedWell, IsClean, IsWhole, IsWholeEndpoint, IsWholeMessage}
use Rattle.wire_msgs.proofs.MessageTargets.{arrives_taken}
use Rattle.wire_msgs.proofs.WholeMessages.{arrives_named, arrives_whole}
use Rattle.wire_posts.specs.Envelopes.{reply_epr}
use Rattle.wire_posts.specs.Returns.{CanBeWritten, CanReturn, IsRequest, IsWholeReply, returned, written_to}
use Rattle.arrivals.specs.Worlds.{HasProtocolFault}

anonymous_clean : IsClean anonymous
unfolding chars is_utf8 lib.Utf8.encode
anonymous_clean = record { trimmed = refl; spelled = refl }

to_clean : (to : Option Epr) → IfSome (written_to to) IsClean → IfSome to (λ epr. IsClean epr.address)
to_clean None h = tt
to_clean (Some epr) h = by_place (bytes_eq epr.address anonymous) refl h
  where
    by_place : (b : Bool) → bytes_eq epr.address anonymous ≡ b → IfSome (cond b None (Some epr.address)) IsClean → IsClean epr.address
    by_place true e k = subst IsClean (sym ((bytes_eq-Decides epr.address anonymous).0 e)) anonymous_clean
    by_place false e k = k

reply_whole : (reply : Option Reply) → IfSome (option_map reply_epr reply) IsWholeEndpoint → IfSome reply IsWholeReply
reply_whole None h = tt
reply_whole (Some replies.Anonymous) h = tt
reply_whole (Some replies.Nobody) h = tt
reply_whole (Some (replies.At epr)) h = h

written : (message : Message) → IsWholeMessage message → HasProtocolFault message → CanBeWritten message
written (messages.Create body) w f = w
written (messages.CreateResponse context) w f = w
written (messages.Register body) w f = w
written (messages.RegisterResponse coordinator) w f = w
written (messages.Notice notice) w f = w
written (messages.Work body) w f = w
written messages.WorkDone w f = w
written messages.WorkRefused w f = w
written (messages.Fault name) w f = f

asked : (message : Message) (post : Post) (target : Target) → IsAskedWell message (returned post target) → IsRequest message post
asked (messages.Create body) post target h = record { id = h.id; reply = h.reply }
asked (messages.CreateResponse context) post target h = tt
asked (messages.Register body) post target h = record { id = h.id; reply = h.reply }
asked (messages.RegisterResponse coordinator) post target h = tt
asked (messages.Notice notice) post target h = tt
asked (messages.Work body) post target h = record { id = h.id; reply = h.reply }
asked messages.WorkDone post target h = tt
asked messages.WorkRefused post target h = tt
asked (messages.Fault name) post target h = tt

pub can_return : (text path : List ℕ) (post : Post) (target : Target) → HasProtocolFault post.message → Arrives text path (returned post target)
    → CanReturn post path target
can_return text path post target f a =
    let w : IsWhole (returned post target) = arrives_whole text path (returned post target) a in
    record {
      to = to_clean post.to w.to;
      named = arrives_named text path (returned post target) a;
      taken = arrives_taken text path (returned post target) a;
      id = w.id;
      relates = w.relates;
      from = w.from;
      reply = reply_whole post.reply w.reply;
      message = written post.message w.message f;
      request = asked post.message post target w.request;
    }
