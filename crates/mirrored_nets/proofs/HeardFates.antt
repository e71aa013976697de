-- The fates that an event asks for are those that the calls of its turn had.
use Rattle.std.specs.Prelude.{ℕ, List, ◌≡◌, Bool, Option, drop, length}
use Rattle.std.proofs.Common.{sym, subst}
use Rattle.at_model.specs.World.{Input, Node as Known, World}
use Rattle.fated_walks.specs.Fated.{all_fates}
use Rattle.node_at.specs.Endings.{TakesTurn}
use Rattle.node_at.specs.State.{seen}
use Rattle.node_at.specs.declared.node.Node.{Node}
use Rattle.node_at.specs.declared.role.Role.TheVariants.{All}
use Rattle.node_at.specs.declared.turn.Turned.{Turned}
use Rattle.node_worlds.specs.Nets.{Net, Place}
use Rattle.site_memory.specs.Sites.{told_of}
use Rattle.site_memory.specs.declared.machine.MemSite.{MemSite}
use Rattle.site_model.specs.Told.{Made}
use Rattle.mirrored_nets.specs.Fates.{AllDone, AreAsked, anew_of, fates_in}
use Rattle.mirrored_nets.proofs.TriedLines.{line_long}
use Rattle.mirrored_nets.proofs.TurnsRead.{steps_fates}
use Rattle.mirrored_nets.proofs.TurnsTaken.{HeardTurn}

pub heard_fates : (count : ℕ) (w : World) (net : Net) (i c : ℕ) (p : Place) (x : Known) (n m : Node) (from t : MemSite) (r : Turned) (turn : TakesTurn told_of r All m.shrunk (seen n) (seen m) from t) (input : Input)
    (lines : ℕ) (made : List Made) (H : HeardTurn count w net i c p x n m from t r turn input lines made) (fates : List Bool) (until : Option ℕ) → AreAsked lines made fates until
    → fates_in (drop lines made) ≡ all_fates H.is_turn.fated
heard_fates count w net i c p x n m from t r turn input lines made H fates until asked =
    let long : length H.did.line ≡ lines = line_long lines H.did.line H.line_is in
    subst (λ k. fates_in (drop k made) ≡ all_fates H.is_turn.fated) long
    (steps_fates n.journal H.did.line made H.did.whole.steps H.did.whole.doings H.is_turn.fated H.read (subst (λ k. AllDone (anew_of (drop k made))) (sym long) asked.anew))
