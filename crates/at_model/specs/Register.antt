-- Register: which participants a transaction accepts, and what it answers.
use Rattle.std.specs.Prelude.{ℕ, List, [], ◌∷◌, ◌++◌, Option, Some, None, Bool, true, false, not, nat_lt, ◌&&◌, ◌+◌, if◌then◌else◌, bytes_eq, length, find, option_map, is_none}
use Rattle.at_base.specs.declared.fault.Fault.{Fault}
use Rattle.at_base.specs.declared.fault.Fault.TheVariants.{CannotRegisterParticipant, InvalidParameters, InvalidProtocol}
use Rattle.at_base.specs.Numbers.{Numbers}
use Rattle.at_base.specs.declared.epr.Epr.{Epr}
use Rattle.at_base.specs.declared.limits.TheConstants.{MOST_SEATS}
use Rattle.at_base.specs.declared.notice.Kind.{Kind}
use Rattle.at_base.specs.declared.notice.Kind.TheVariants as kinds
use Rattle.at_base.specs.declared.notice.Notice.TheVariants as notices
use Rattle.at_base.specs.declared.message.Message.TheVariants as messages
use Rattle.at_base.specs.declared.message.Register.{Register}
use Rattle.at_base.specs.declared.target.Target.TheVariants as targets
use Rattle.at_base.specs.declared.event.Arrived.{Arrived}
use Rattle.at_base.specs.declared.event.Moment.{Moment}
use Rattle.at_base.specs.declared.outs.Out.{Out}
use Rattle.at_base.specs.declared.outs.Out.TheVariants as outs
use Rattle.at_tables.specs.declared.cells.State.TheVariants as states
use Rattle.at_base.specs.Names.{is_kind}
use Rattle.at_model.specs.Book.{Transaction, Enlistment, Completion, Phase, is_epr}
use Rattle.endpoints.specs.Addresses.{endpoint_of, protocol_of, completion_protocol}
use Rattle.at_model.specs.Posts.{notice_post, replied, faulted}
use Rattle.at_model.specs.Seats.{seat_target}

-- The protocol that a Register names: Some kind, or Some None for Completion; none where it is unknown.
abbrev pub protocol_named : List ℕ → Option (Option Kind)
protocol_named protocol =
    if bytes_eq protocol (protocol_of kinds.Volatile) then Some (Some kinds.Volatile)
    else if bytes_eq protocol (protocol_of kinds.Durable) then Some (Some kinds.Durable)
    else if bytes_eq protocol completion_protocol then Some None
    else None

-- What a Register gives: the transaction after it, and what is sent.
pub record Registration : Type 0 where
  pub transaction : Transaction
  pub outs : List Out

-- the endpoint of the coordinator for a seat, and for the completion seat
abbrev pub seat_endpoint : List ℕ → Numbers → Enlistment → Epr
seat_endpoint base id s = endpoint_of base (seat_target id s)

abbrev pub completion_endpoint : List ℕ → Numbers → Epr
completion_endpoint base id = endpoint_of base (targets.Completion id)

-- the coordinator's endpoint of the seat that this endpoint has for this protocol, also where it has left
abbrev pub seat_for : List ℕ → Numbers → Epr → Option Kind → List Enlistment → Option Completion → Option Epr
seat_for base id participant (Some kind) seats c =
    option_map (seat_endpoint base id) (find (λ s. is_kind s.kind kind && is_epr s.participant participant) seats)
seat_for base id participant None seats None = None
seat_for base id participant None seats (Some c) =
    if is_epr c.initiator participant then Some (completion_endpoint base id) else None

-- Phases in which a new participant is accepted (WS-Coordination 1.2, section 3.2; this project's profile: until the
-- durable ones are asked).
abbrev pub accepts : Phase → Bool
accepts Phase.Registering = false
accepts Phase.Active = true
accepts Phase.Volatile = true
accepts Phase.Durable = false
accepts Phase.Voted = false
accepts Phase.Committing = false
accepts Phase.Aborting = false

-- Completion is for a root that has no initiator yet (WS-AtomicTransaction 1.2, section 3.2).
abbrev pub may_complete : Transaction → Option Kind → Bool
may_complete t (Some kind) = true
may_complete t None = is_none t.superior && is_none t.completion

-- A transaction has at most 512 seats.
abbrev pub may_register : Transaction → Option Kind → Bool
may_register t kind = accepts t.phase && nat_lt (length t.seats) MOST_SEATS && may_complete t kind

abbrev pub registered_reply : Arrived → Epr → List Out
registered_reply a coordinator = replied a.reply a.id (messages.RegisterResponse coordinator)

-- A volatile participant that registers while the volatile ones are asked is asked at once, behind its answer.
abbrev pub is_late : Phase → Kind → Bool
is_late Phase.Volatile kinds.Volatile = true
is_late phase kind = false

abbrev pub new_seat : Transaction → Epr → Kind → Enlistment
new_seat t participant kind = record {
  number = length t.seats + 1;
  kind = kind;
  participant = participant;
  state = if is_late t.phase kind then states.Preparing else states.Active;
}

abbrev pub late_prepare : Moment → Numbers → Bool → Enlistment → List Out
late_prepare m id late s =
    if late then outs.Post (notice_post m.base (seat_target id s) s.participant notices.Prepare) ∷ [] else []

abbrev pub with_seat : Moment → Transaction → Enlistment → Transaction
with_seat m t s = record t {
  seats = t.seats ++ s ∷ [];
  sent = if is_late t.phase s.kind then Some m.now else t.sent;
}

abbrev pub accept_seat : Moment → Arrived → Transaction → Enlistment → Registration
accept_seat m a t s = record {
  transaction = with_seat m t s;
  outs = registered_reply a (seat_endpoint m.base t.id s) ++ late_prepare m t.id (is_late t.phase s.kind) s;
}

-- Accepts a participant, or an initiator.
unfoldable pub accept : Moment → Arrived → Transaction → Epr → Option Kind → Registration
accept m a t participant (Some kind) = accept_seat m a t (new_seat t participant kind)
accept m a t participant None = record {
  transaction = record t { completion = Some (record { initiator = participant; state = states.Active }) };
  outs = registered_reply a (completion_endpoint m.base t.id);
}

abbrev pub refuse_register : Arrived → Transaction → Fault → Registration
refuse_register a t fault = record { transaction = t; outs = faulted a.fault a.id fault }

unfoldable pub register_new : Moment → Arrived → Register → Transaction → Option (Option Kind) → Registration
register_new m a r t None = refuse_register a t InvalidProtocol
register_new m a r t (Some kind) =
    if not a.postable then refuse_register a t InvalidParameters
    else if may_register t kind then accept m a t r.participant kind
    else refuse_register a t CannotRegisterParticipant

-- A repeated Register, of an endpoint for a protocol that it has a seat for, gets the same answer in every phase and
-- changes nothing.
unfoldable pub register_again : Moment → Arrived → Register → Transaction → Option (Option Kind) → Option Epr → Registration
register_again m a r t kind (Some coordinator) = record { transaction = t; outs = registered_reply a coordinator }
register_again m a r t kind None = register_new m a r t kind

abbrev pub held_seat : Moment → Register → Transaction → Option (Option Kind) → Option Epr
held_seat m r t None = None
held_seat m r t (Some kind) = seat_for m.base t.id r.participant kind t.seats t.completion

-- Register at a transaction (WS-Coordination 1.2, section 3.2).
unfoldable pub on_register : Moment → Arrived → Register → Transaction → Registration
on_register m a r t = register_again m a r t (protocol_named r.protocol) (held_seat m r t (protocol_named r.protocol))

-- Register where no such transaction is known.
unfoldable pub register_unknown : Arrived → Register → Option (Option Kind) → List Out
register_unknown a r None = faulted a.fault a.id InvalidProtocol
register_unknown a r (Some kind) = faulted a.fault a.id (if a.postable then CannotRegisterParticipant else InvalidParameters)
