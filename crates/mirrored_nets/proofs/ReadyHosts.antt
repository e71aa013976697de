-- Hosts behind events: a node that is up serves and hasn't halted, and its machine can be told which call is to fail.
use Rattle.std.specs.Prelude.{◌≡◌, Bool, true, false, IfSome, None, Some, if◌then◌else◌}
use Rattle.std.proofs.Common.{refl, sym, subst, ◌∙◌}
use Rattle.memory_net.specs.Calls.{IsServing}
use Rattle.memory_net.specs.declared.host.Host.{Host}
use Rattle.node_at.specs.Endings.{Ends}
use Rattle.node_at.specs.State.{State}
use Rattle.node_at.specs.declared.local.Locally.TheVariants as answers
use Rattle.node_at.specs.declared.node.Node.{Node}
use Rattle.node_at.specs.declared.shrink.Shrunk.{Shrunk}
use Rattle.node_at.specs.declared.turn.Turned.{Turned}
use Rattle.node_at.specs.declared.turn.Turned.TheVariants as turneds
use Rattle.site_memory.specs.Sites.{told_of}
use Rattle.site_memory.specs.ToldCalls.{LinksHold}
use Rattle.site_memory.specs.declared.machine.MemSite.{MemSite}
use Rattle.mirrored_nets.specs.Goings.{WentDown}
use Rattle.mirrored_nets.specs.Mirrors.{MayServe}
use Rattle.mirrored_nets.specs.Took.{IsWhole, LeftSo}
use Rattle.mirrored_nets.specs.ToldMachines.{IsReady, IsTold}
use Rattle.mirrored_nets.specs.declared.came.Came.{Came}
use Rattle.mirrored_nets.specs.declared.came.Came.TheVariants as cames
use Rattle.mirrored_nets.proofs.ToldMachines.{crashed_ready, told_ready}

abbrev Runs : Node → Type 0
Runs n = n.halted ≡ false

up_serves : (g : Host) (n : Node) → g.node ≡ Some n → IsServing n → n.halted ≡ false → IsReady g.site → MayServe g
up_serves g n up serves runs ready = record { serving = subst (λ o. IfSome o IsServing) (sym up) serves; runs = subst (λ o. IfSome o Runs) (sym up) runs; ready = ready }

off_serves : (g : Host) → g.node ≡ None → IsReady g.site → MayServe g
off_serves g down ready = record { serving = subst (λ o. IfSome o IsServing) (sym down) tt; runs = subst (λ o. IfSome o Runs) (sym down) tt; ready = ready }

pub down_serves : (old : MemSite) (g : Host) → IsReady old → WentDown old g → MayServe g
down_serves old g ready went = off_serves g went.down (crashed_ready old g.site went.left.arm went.links ready.links)

pub kept_told : (old new : MemSite) → (told_of new).counts.arming ≡ (told_of old).counts.arming → IsTold old → IsTold new
kept_told old new kept (arming, told) = (arming, kept ∙ told)

pub left_serves : LinksHold → (came : Came) (m : Node) (old t : MemSite) (g : Host) → LeftSo came m old t g → IsServing m → (came ≡ cames.Stays → m.halted ≡ false) → IsTold t → MayServe g
left_serves law cames.Stays m old t g left serves runs told = up_serves g m left.0 serves (runs refl) (subst IsReady (sym left.1) (told_ready law t told))
left_serves law (cames.Falls kept choice) m old t g left serves runs told = off_serves g left.0 (crashed_ready t g.site left.1.left.arm left.1.links (told_ready law t told).links)
left_serves law cames.Halts m old t g left serves runs told = off_serves g left.0 (crashed_ready t g.site left.1.arm left.2 (told_ready law t told).links)

-- a node whose turn went to its end hasn't halted
pub whole_runs : (first result : Turned) (shrunk : Shrunk) (n m : State) (old new : MemSite) → Ends told_of first result shrunk n m old new → IsWhole result → m.halted ≡ false
whole_runs (turneds.Served status) result shrunk n m old new e whole = by m.halted e.answers
  where
    by : (b : Bool) → result ≡ (if b then turneds.Halted else turneds.Served status) → b ≡ false
    by true same = absurd (subst IsWhole same whole)
    by false same = refl
whole_runs turneds.Ticked result shrunk n m old new e whole = by m.halted e.answers
  where
    by : (b : Bool) → result ≡ (if b then turneds.Halted else turneds.Ticked) → b ≡ false
    by true same = absurd (subst IsWhole same whole)
    by false same = refl
whole_runs turneds.NoRoom result shrunk n m old new e whole = absurd (subst IsWhole e.answers whole)
whole_runs turneds.Halted result shrunk n m old new e whole = absurd (subst IsWhole e.answers whole)
whole_runs turneds.Closed result shrunk n m old new e whole = absurd (subst IsWhole e.answers whole)
whole_runs turneds.LinkDown result shrunk n m old new e whole = absurd (subst IsWhole e.answers whole)
