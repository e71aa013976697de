-- What of an arrival reaches a node's book (WS-Addressing 1.0 Core, section 3.4).
use Rattle.std.specs.Prelude.{Bool, true, false, is_some, Option, Some, None, if◌then◌else◌}
use Rattle.at_base.specs.declared.epr.Epr.{Epr}
use Rattle.at_base.specs.declared.event.Arrived.{Arrived}
use Rattle.at_base.specs.declared.message.Message.{Message}
use Rattle.at_base.specs.declared.message.Message.TheVariants as messages
use Rattle.addressing.specs.Endpoints.{fault_of, reply_of}
use Rattle.addressing.specs.PostAddresses.{post_to_of}
use Rattle.wire_msgs.specs.declared.decode.Arrival.{Arrival}

-- an address that is an http URL
abbrev pub is_postable : Epr → Bool
is_postable epr = is_some (post_to_of epr.address)

abbrev pub can_be_sent_to : Option Epr → Bool
can_be_sent_to None = false
can_be_sent_to (Some epr) = is_postable epr

-- a sender that nothing can be posted to is as none
abbrev pub sender_of : Bool → Option Epr → Option Epr
sender_of is_sent from = if is_sent then from else None

-- whether the participant that a Register names can be posted to (WS-Coordination 1.2, section 3.2)
abbrev pub has_postable : Message → Bool
has_postable (messages.Register body) = is_postable body.participant
has_postable message = true

abbrev pub reaches : Arrival → Arrived
reaches arrival =
    record {
      target = arrival.target;
      id = arrival.id;
      relates = arrival.relates;
      from = sender_of (can_be_sent_to arrival.from) arrival.from;
      reply = reply_of arrival.reply;
      fault = fault_of arrival.fault arrival.reply;
      postable = has_postable arrival.message;
      message = arrival.message;
    }
