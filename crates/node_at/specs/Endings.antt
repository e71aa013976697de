-- A whole turn: its steps, and then its journal is written anew, where all steps were done and that is due.
use Rattle.std.specs.Prelude.{List, ◌≡◌, if◌then◌else◌}
use Rattle.at_base.specs.declared.record.Record.{Record}
use Rattle.decision_log.specs.KeptRecords.{kept_of}
use Rattle.journal_at.specs.StandingBodies.{Counted}
use Rattle.journal_at.specs.declared.version.Version.TheVariants.{Two}
use Rattle.site_model.specs.Told.{Told}
use Rattle.node_at.specs.declared.role.Role.{Role}
use Rattle.node_at.specs.declared.shrink.Shrunk.{Shrunk}
use Rattle.node_at.specs.declared.shrink.Shrunk.TheVariants.{NoMemory, NotDue}
use Rattle.node_at.specs.declared.turn.Turned.{Turned}
use Rattle.node_at.specs.declared.turn.Turned.TheVariants as turneds
use Rattle.node_at.specs.ShrunkJournals.{IsDue, Shrinks, Stays}
use Rattle.node_at.specs.Starts.{IsOpen}
use Rattle.node_at.specs.State.{State}
use Rattle.node_at.specs.Turns.{Turns}

-- The journal was written anew, or not; where it may stand or not, the node has halted. Where it isn't due, or there was no
-- memory, the machine is as the steps left it; and at each moment, whatever a crash leaves, the files stand for records that
-- make the same Kept.
pub record Renews {S : Type 0} (told : S → Told) (turned result : Turned) (shrunk : Shrunk) (n m : State) (old new : S) : Type 0 where
  pub shrinks : Shrinks shrunk n m (told old) (told new)
  pub idle : (IsDue n → ⊥) → new ≡ old
  pub memory : shrunk ≡ NoMemory → new ≡ old
  pub stays : (rs : List Record) → IsOpen Two rs n.journal (told old) → n.kept ≡ kept_of Two rs → Stays rs m (told old) (told new)
  pub counted : Counted (told old) (told new)
  pub answers : result ≡ (if m.halted then turneds.Halted else turned)

-- nothing more was done
pub record Rested {S : Type 0} (turned result : Turned) (shrunk : Shrunk) (n m : State) (old new : S) : Type 0 where
  pub answers : result ≡ turned
  pub not_due : shrunk ≡ NotDue
  pub node : m ≡ n
  pub site : new ≡ old

-- what became of a turn whose steps came to that
abbrev pub Ends : {S : Type 0} → (S → Told) → Turned → Turned → Shrunk → State → State → S → S → Type 0
Ends told (turneds.Served status) result shrunk n m old new = Renews told (turneds.Served status) result shrunk n m old new
Ends told turneds.Ticked result shrunk n m old new = Renews told turneds.Ticked result shrunk n m old new
Ends told turneds.Closed result shrunk n m old new = Rested turneds.Closed result shrunk n m old new
Ends told turneds.NoRoom result shrunk n m old new = Rested turneds.NoRoom result shrunk n m old new
Ends told turneds.Halted result shrunk n m old new = Rested turneds.Halted result shrunk n m old new
Ends told turneds.LinkDown result shrunk n m old new = Rested turneds.LinkDown result shrunk n m old new

-- the steps came to `first`, and left this node and this machine
pub record TakesTurn {S : Type 0} (told : S → Told) (result : Turned) (role : Role) (shrunk : Shrunk) (n m : State) (old new : S) : Type 0 where
  pub first : Turned
  pub node : State
  pub behind : S
  pub steps : Turns first role n node (told old) (told behind)
  pub ends : Ends told first result shrunk node m behind new
