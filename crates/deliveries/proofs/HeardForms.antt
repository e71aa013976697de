-- What was posted is decoded as it was.
use Rattle.std.specs.Prelude.{ℕ, List, Option, Some, None, IfSome, Bool, true, false, cond, ◌≡◌}
use Rattle.std.specs.Option.{option_and_then}
use Rattle.std.proofs.Common.{refl, subst}
use Rattle.at_base.specs.declared.epr.Epr.{Epr}
use Rattle.at_base.specs.declared.epr.Reply.{Reply}
use Rattle.at_base.specs.declared.event.Arrived.{Arrived}
use Rattle.at_base.specs.declared.outs.Post.{Post}
use Rattle.at_base.specs.declared.target.Target.{Target}
use Rattle.at_model.specs.World.{arrival_of, decoded, decoded_at, reply_of}
use Rattle.endpoints.specs.Addresses.{IsWritten, PathsNameTargets, after_prefix, target_at, target_of}
use Rattle.endpoints.specs.Forms.{takes}
use Rattle.at_base.specs.declared.message.Message.{Message}
use Rattle.at_base.specs.declared.message.Message.TheVariants as messages
use Rattle.provenance.specs.Forms.{Forms, IsArrived, IsHeard, IsMessage, IsPost, IsReply}

module _ (F : Forms) where
  replies_fit : (reply : Option Reply) → IfSome reply (IsReply F) → IsReply F (reply_of reply)
  replies_fit None h = tt
  replies_fit (Some r) h = h

  messages_fit : (m : Message) → IsMessage F m → IsHeard F m
  messages_fit (messages.Create body) h = h
  messages_fit (messages.CreateResponse context) h = h
  messages_fit (messages.Register body) h = h
  messages_fit (messages.RegisterResponse coordinator) h = h
  messages_fit (messages.Notice notice) h = h
  messages_fit (messages.Work body) h = h
  messages_fit messages.WorkDone h = h
  messages_fit messages.WorkRefused h = h
  messages_fit (messages.Fault name) h = tt

  module _ (paths : PathsNameTargets) where
    named : (rest : Option (List ℕ)) (target : Target) → option_and_then target_of rest ≡ Some target → IsWritten target
    named None target e = absurd cc
    named (Some rest) target e = (paths.alone rest target e).0

    arrives : (p : Post) (target : Target) → IsWritten target → IsPost F p → IsArrived F (arrival_of target p)
    arrives p target w h = record {
      target = w;
      id = h.id;
      from = h.from;
      reply = replies_fit p.reply h.reply;
      fault = replies_fit p.reply h.reply;
      message = messages_fit p.message h.message;
    }

    taken : (p : Post) (target : Target) (a : Arrived) (t : Bool) → IsWritten target → IsPost F p → cond t (Some (arrival_of target p)) None ≡ Some a → IsArrived F a
    taken p target a true w h e = let same : arrival_of target p ≡ a = cc in subst (IsArrived F) same (arrives p target w h)
    taken p target a false w h e = absurd cc

    at_place : (p : Post) (base address : List ℕ) (target : Option Target) (a : Arrived) → target_at base address ≡ target → IsPost F p → decoded_at target p ≡ Some a
        → IsArrived F a
    at_place p base address None a f h e = absurd cc
    at_place p base address (Some target) a f h e = taken p target a (takes target p.message) (named (after_prefix base address) target f) h e

    at_address : (p : Post) (base : List ℕ) (to : Option Epr) (a : Arrived) → IsPost F p → option_and_then (λ (epr : Epr). decoded_at (target_at base epr.address) p) to ≡ Some a
        → IsArrived F a
    at_address p base None a h e = absurd cc
    at_address p base (Some epr) a h e = at_place p base epr.address (target_at base epr.address) a refl h e

    pub heard : (p : Post) (base : List ℕ) (a : Arrived) → IsPost F p → decoded base p ≡ Some a → IsArrived F a
    heard p base a h e = at_address p base p.to a h e
