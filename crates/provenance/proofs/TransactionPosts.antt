-- Posts and answers have what their endpoints and texts have.
use Rattle.std.specs.Prelude.{ℕ, List, Option, Some, None, IfSome, refl}
use Rattle.at_base.specs.declared.epr.Epr.{Epr}
use Rattle.at_base.specs.declared.epr.Reply.{Reply}
use Rattle.at_base.specs.declared.epr.Reply.TheVariants as replies
use Rattle.at_base.specs.declared.fault.Fault.{Fault}
use Rattle.at_base.specs.declared.notice.Notice.{Notice}
use Rattle.at_base.specs.declared.notice.Notice.TheVariants as notices
use Rattle.at_base.specs.declared.message.Message.{Message}
use Rattle.at_base.specs.declared.outs.Post.{Post}
use Rattle.at_base.specs.declared.target.Target.{Target}
use Rattle.endpoints.specs.Addresses.{IsWritten, endpoint_of}
use Rattle.at_model.specs.Posts.{from_on, notice_post, stranger_post, fault_post, reply_post, register_post, stored_or, to_each, replied, faulted}
use Rattle.provenance.specs.Forms.{AreOuts, ArePosts, Forms, HaveOwn, IsAnswerableIn, IsMessage, IsPost, IsReply}

module _ (F : Forms) where
  pub fault_has : (to : Option Epr) (relates : Option (List ℕ)) (fault : Fault) → IfSome to F.endpoint → IfSome relates F.id → IsPost F (fault_post to relates fault)
  fault_has to relates fault h k = record { to = h; id = tt; relates = k; from = tt; reply = tt; message = (fault, refl); request = tt }

  pub reply_has : (to : Option Epr) (relates : Option (List ℕ)) (x : Message) → IfSome to F.endpoint → IfSome relates F.id → IsMessage F x
      → ((p : Post) → IsAnswerableIn x p) → IsPost F (reply_post to relates x)
  reply_has to relates x h k says asks = record { to = h; id = tt; relates = k; from = tt; reply = tt; message = says; request = asks (reply_post to relates x) }

  pub replied_have : (r : Reply) (relates : Option (List ℕ)) (x : Message) → IsReply F r → IfSome relates F.id → IsMessage F x
      → ((p : Post) → IsAnswerableIn x p) → AreOuts F (replied r relates x)
  replied_have replies.Anonymous relates x h k says asks = (reply_has None relates x tt k says asks, tt)
  replied_have replies.Nobody relates x h k says asks = (tt, tt)
  replied_have (replies.At to) relates x h k says asks = (tt, (reply_has (Some to) relates x h k says asks, tt))

  pub faulted_have : (r : Reply) (relates : Option (List ℕ)) (fault : Fault) → IsReply F r → IfSome relates F.id → AreOuts F (faulted r relates fault)
  faulted_have replies.Anonymous relates fault h k = (fault_has None relates fault tt k, tt)
  faulted_have replies.Nobody relates fault h k = (tt, tt)
  faulted_have (replies.At to) relates fault h k = (tt, (fault_has (Some to) relates fault h k, tt))

  pub stored_has : (stored from : Option Epr) → IfSome stored F.endpoint → IfSome from F.endpoint → IfSome (stored_or stored from) F.endpoint
  stored_has (Some stored) from h k = h
  stored_has None from h k = k

  pub each_has : (o : Option Epr) (f : Epr → Post) → IfSome o F.endpoint → ((to : Epr) → F.endpoint to → IsPost F (f to)) → ArePosts F (to_each o f)
  each_has None f h k = tt
  each_has (Some to) f h k = (k to h, tt)

  pub from_has : (n : Notice) (e : Epr) → F.endpoint e → IfSome (from_on n e) F.endpoint
  from_has notices.Prepare e h = h
  from_has notices.Commit e h = h
  from_has notices.Rollback e h = h
  from_has notices.Prepared e h = h
  from_has notices.ReadOnly e h = tt
  from_has notices.Aborted e h = tt
  from_has notices.Committed e h = tt

module _ (F : Forms) (base : List ℕ) (own : HaveOwn F base) where
  pub notice_has : (sender : Target) (to : Epr) (n : Notice) → IsWritten sender → F.endpoint to → IsPost F (notice_post base sender to n)
  notice_has sender to n h k = record {
    to = k;
    id = tt;
    relates = tt;
    from = from_has F n (endpoint_of base sender) (own.endpoints sender h);
    reply = tt;
    message = tt;
    request = tt;
  }

  pub stranger_has : (sender : Target) (to : Epr) (n : Notice) → IsWritten sender → F.endpoint to → IsPost F (stranger_post base sender to n)
  stranger_has sender to n h k = record {
    to = k;
    id = tt;
    relates = tt;
    from = from_has F n (endpoint_of base sender) (own.endpoints sender h);
    reply = tt;
    message = tt;
    request = tt;
  }

  pub registering_has : (sender : Target) (protocol : List ℕ) (to : Epr) → IsWritten sender → F.uri protocol → F.endpoint to → IsPost F (register_post base sender protocol to)
  registering_has sender protocol to h u k = record {
    to = k;
    id = own.registers sender;
    relates = tt;
    from = tt;
    reply = own.endpoints sender h;
    message = (u, own.endpoints sender h);
    request = record { id = refl; reply = (endpoint_of base sender, refl) };
  }
