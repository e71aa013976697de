-- What a Register gives (WS-Coordination 1.2, section 3.2).
use Rattle.std.specs.Prelude.{ℕ, List, Some, None, true, ◌≡◌}
use Rattle.at_base.specs.declared.fault.Fault.{Fault}
use Rattle.at_base.specs.declared.notice.Kind.{Kind}
use Rattle.at_base.specs.declared.message.Register.{Register}
use Rattle.at_base.specs.declared.event.Arrived.{Arrived}
use Rattle.at_base.specs.declared.event.Moment.{Moment}
use Rattle.at_tables.specs.declared.cells.State.TheVariants as states
use Rattle.at_model.specs.Book.{Completion, Enlistment, Transaction}
use Rattle.at_model.specs.Register.{Registration, accept_seat, completion_endpoint, may_register, new_seat, protocol_named, refuse_register, registered_reply, seat_endpoint}
use Rattle.model_laws.specs.Agreement.{IsIn}

pub data Enrolls (m : Moment) (a : Arrived) (r : Register) (t : Transaction) (g : Registration) : Type 0 where
  -- a participant gets a new seat
  takes_seat : (kind : Kind) → protocol_named r.protocol ≡ Some (Some kind) → may_register t (Some kind) ≡ true → g ≡ accept_seat m a t (new_seat t r.participant kind)
      → Enrolls m a r t g
  -- an initiator gets the completion seat
  takes_completion : protocol_named r.protocol ≡ Some None → may_register t None ≡ true
      → g ≡ record {
        transaction = record t { completion = Some (record { initiator = r.participant; state = states.Active }) };
        outs = registered_reply a (completion_endpoint m.base t.id);
      } → Enrolls m a r t g
  -- it has one already
  has_seat : (kind : Kind) (s : Enlistment) → protocol_named r.protocol ≡ Some (Some kind) → IsIn s t.seats → s.kind ≡ kind → s.participant ≡ r.participant
      → g ≡ record { transaction = t; outs = registered_reply a (seat_endpoint m.base t.id s) } → Enrolls m a r t g
  has_completion : (c : Completion) → protocol_named r.protocol ≡ Some None → t.completion ≡ Some c → c.initiator ≡ r.participant
      → g ≡ record { transaction = t; outs = registered_reply a (completion_endpoint m.base t.id) } → Enrolls m a r t g
  -- it is refused
  refuses : (drawn : Fault) → g ≡ refuse_register a t drawn → Enrolls m a r t g
