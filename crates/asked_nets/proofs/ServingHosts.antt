-- Hosts behind what was asked of them: a node that is up serves and hasn't halted, and its machine can be told which call is to fail.
use Rattle.std.specs.Prelude.{ℕ, List, ◌≡◌, Bool, Err, IfSome, None, Ok, Result, Some, false}
use Rattle.std.proofs.Common.{ap, subst, sym, ◌∙◌}
use Rattle.at_base.specs.declared.event.Local.{Local}
use Rattle.memory_net.specs.Calls.{Begins, IsServing}
use Rattle.memory_net.specs.Mails.{Mail}
use Rattle.memory_net.specs.declared.host.Host.{Host}
use Rattle.node_at.specs.Locals.{Asked}
use Rattle.node_at.specs.State.{State, seen}
use Rattle.node_at.specs.declared.fault.StartFault.{StartFault}
use Rattle.node_at.specs.declared.local.Locally.{Locally}
use Rattle.node_at.specs.declared.local.Locally.TheVariants as answers
use Rattle.node_at.specs.declared.node.Node.{Node}
use Rattle.site_memory.specs.Sites.{told_of}
use Rattle.site_memory.specs.ToldCalls.{LinksHold}
use Rattle.site_memory.specs.declared.machine.MemSite.{MemSite}
use Rattle.site_model.specs.Site.{Counts}
use Rattle.mirrored_nets.specs.Mirrors.{MayServe}
use Rattle.mirrored_nets.specs.Took.{AnswersSo, EndsSo}
use Rattle.mirrored_nets.specs.ToldMachines.{IsReady, IsTold}
use Rattle.mirrored_nets.specs.declared.came.Came.TheVariants as cames
use Rattle.mirrored_nets.proofs.AskedMachines.{request_kept}
use Rattle.mirrored_nets.proofs.EndedTurns.{turn_kept}
use Rattle.mirrored_nets.proofs.ReadyHosts.{kept_told, left_serves, whole_runs}
use Rattle.mirrored_nets.proofs.ToldMachines.{crashed_ready, told_ready}
use Rattle.call_readings.specs.Reads.{came_to}
use Rattle.call_readings.specs.declared.became.Became.{Became}
use Rattle.call_readings.specs.declared.became.Became.TheVariants as becomes
use Rattle.asked_nets.specs.DidRequest.{DidRequest}
use Rattle.asked_nets.specs.DidStart.{DidStart, LeftStart}
use Rattle.asked_nets.specs.DidTurn.{DidTurn}

abbrev Runs : Node → Type 0
Runs n = n.halted ≡ false

up_serves : (g : Host) (n : Node) → g.node ≡ Some n → IsServing n → n.halted ≡ false → IsReady g.site → MayServe g
up_serves g n up serves runs ready = record { serving = subst (λ o. IfSome o IsServing) (sym up) serves; runs = subst (λ o. IfSome o Runs) (sym up) runs; ready = ready }

off_serves : (g : Host) → g.node ≡ None → IsReady g.site → MayServe g
off_serves g down ready = record { serving = subst (λ o. IfSome o IsServing) (sym down) tt; runs = subst (λ o. IfSome o Runs) (sym down) tt; ready = ready }

pub turn_serves : LinksHold → (i count lines : ℕ) (bytes : List ℕ) (n : Node) (old : MemSite) (g : Host) (mails more : List Mail) (down : Bool) (calls : ℕ) → n.halted ≡ false → IsTold old
    → DidTurn i count lines bytes n old g mails more down calls → MayServe g
turn_serves law i count lines bytes n old g mails more down calls runs told t =
    left_serves law (came_to t.became) t.node old t.site g t.left t.turns.serving
    (λ stays. whole_runs t.turns.turn.first t.result t.node.shrunk t.turns.turn.node (seen t.node) t.turns.turn.behind t.site t.turns.turn.ends (subst (λ z. EndsSo z t.result) stays t.ends))
    (kept_told old t.site (turn_kept bytes t.result n t.node old t.site t.turns runs) told)

answered_runs : (answer : Locally) (n m : State) (request : Local) (old new : MemSite) → Asked answer n m request (told_of old) (told_of new) → AnswersSo cames.Stays answer → m.halted ≡ false
answered_runs (answers.Done id) n m request old new asked h = asked.3.3.went.runs
answered_runs (answers.Refused why) n m request old new asked h = ap (λ (z : State). z.halted) asked.2 ∙ asked.0
answered_runs answers.NoRoom n m request old new asked h = absurd h
answered_runs answers.Halted n m request old new asked h = absurd h

pub request_serves : LinksHold → (i count : ℕ) (request : Local) (n : Node) (old : MemSite) (g : Host) (mails more : List Mail) (calls : ℕ) → IsTold old
    → DidRequest i count request n old g mails more calls → MayServe g
request_serves law i count request n old g mails more calls told t =
    left_serves law (came_to t.became) t.node old t.site g t.left t.requests.serving
    (λ stays. answered_runs t.answer (seen n) (seen t.node) request old t.site t.requests.asked (subst (λ z. AnswersSo z t.answer) stays t.ends))
    (kept_told old t.site (request_kept request t.answer n t.node old t.site t.requests) told)

begins_kept : (base : List ℕ) (r : Result Node StartFault) (old new : MemSite) → Begins base r old new → (told_of new).counts.arming ≡ (told_of old).counts.arming
begins_kept base (Ok n) old new begins = ap (λ (k : Counts). k.arming) begins.0.counted.others
begins_kept base (Err fault) old new begins = ap (λ (k : Counts). k.arming) begins.counted.others

begun_runs : (base : List ℕ) (n : Node) (r : Result Node StartFault) (old t : MemSite) → r ≡ Ok n → Begins base r old t → n.halted ≡ false
begun_runs base n r old t is begins = let b : Begins base (Ok n) old t = subst (λ z. Begins base z old t) is begins in b.0.runs

pub start_serves : LinksHold → (base : List ℕ) (old : MemSite) (g : Host) (calls : ℕ) → IsTold old → DidStart base old g calls → MayServe g
start_serves law base old g calls told d = by d.became d.left
  where
    ready : IsReady d.site
    ready = told_ready law d.site (kept_told old d.site (begins_kept base d.result old d.site d.begins) told)

    by : (b : Became) → LeftStart b d.result old d.site d.made g → MayServe g
    by becomes.Stays up = up_serves g up.node up.up up.serving (begun_runs base up.node d.result old d.site up.is d.begins) (subst IsReady (sym up.site) ready)
    by (becomes.Falls kept choice) (off, fell) = off_serves g off (crashed_ready d.site g.site fell.left.arm fell.links ready.links)
    by becomes.Halts (off, fell) = off_serves g off (crashed_ready d.site g.site fell.left.arm fell.links ready.links)
    by (becomes.FallsAnew kept choice) h = absurd h
    by becomes.HaltsAnew h = absurd h
