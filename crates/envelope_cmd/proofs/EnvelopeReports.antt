-- What is printed of an envelope that means something.
use Rattle.std.proofs.Common.{◌≡◌, sym, subst, ap, ℕ, List, IfOk, Some, Result, Ok, Err}
use Rattle.std.specs.Prelude.{codes}
use Rattle.at_tables.specs.declared.cells.State.{State}
use Rattle.wire_msgs.specs.declared.decode.Arrival.{Arrival}
use Rattle.wire_msgs.specs.declared.refusal.Refusal.{Refusal}
use Rattle.wire_msgs.specs.Arrivals.{Arrives}
use Rattle.envelope_cmd.specs.Output.{Output, accepted}
use Rattle.envelope_cmd.specs.Checks.{IsCheckOf, check_lines}
use Rattle.envelope_cmd.specs.Cells.{IsCellOf, IsMetPrinted, meets}

pub told : {E : Type 0} (bytes : List ℕ) (state : State) (said : Result Arrival Refusal) (a : Arrival) (r : Result Output E) → said ≡ Ok a
    → IfOk said (Arrives bytes (codes "/")) → IfOk r (IsMetPrinted a (meets a.target state a.message)) → IfOk r (IsCellOf bytes state)
told bytes state said a (Ok output) e h k =
    record { said = Ok a; says = subst (λ (s : Result Arrival Refusal). IfOk s (Arrives bytes (codes "/"))) e h; tells = k }
told bytes state said a (Err f) e h k = tt

pub checked : {E : Type 0} (bytes path : List ℕ) (said : Result Arrival Refusal) (a : Arrival) (r : Result Output E) → said ≡ Ok a
    → IfOk said (Arrives bytes path) → IfOk r (λ printed. printed ≡ accepted (check_lines a)) → IfOk r (IsCheckOf bytes path)
checked bytes path said a (Ok output) e h k =
    record { said = Ok a; says = subst (λ (s : Result Arrival Refusal). IfOk s (Arrives bytes path)) e h; prints = ap Some (sym k) }
checked bytes path said a (Err f) e h k = tt
