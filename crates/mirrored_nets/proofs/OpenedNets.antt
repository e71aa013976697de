-- Hosts that serve, or haven't started.
use Rattle.std.specs.Prelude.{ℕ, List, [], ◌∷◌, ◌-◌, ◌≡◌, Bool, true, false, IfSome, Some, length, nat_eq, replicate}
use Rattle.std.specs.List.{AllByRecursion}
use Rattle.std.proofs.Common.{refl, subst, sym, ◌∙◌}
use Rattle.at_model.specs.World.{nth, put_nth}
use Rattle.memory_net.specs.Calls.{IsServing}
use Rattle.memory_net.specs.Hosts.{IsFresh}
use Rattle.memory_net.specs.declared.host.Host.{Host}
use Rattle.node_at.specs.declared.node.Node.{Node}
use Rattle.site_memory.specs.declared.arm.Arm.TheVariants.{Idle, Stopped}
use Rattle.site_memory.specs.declared.machine.MemSite.{MemSite}
use Rattle.mirrored_nets.specs.Mirrors.{AllServe, MayServe}
use Rattle.mirrored_nets.specs.NetSteps.{IsUnstarted}
use Rattle.mirrored_nets.specs.ToldMachines.{IsReady}

abbrev Runs : Node → Type 0
Runs n = n.halted ≡ false

pub fresh_serve : (hosts : List Host) → AllByRecursion IsFresh hosts → AllServe hosts
fresh_serve [] all = tt
fresh_serve (h ∷ hs) (first, rest) = (
  record {
    serving = subst (λ o. IfSome o IsServing) (sym first.node) tt;
    runs = subst (λ o. IfSome o Runs) (sym first.node) tt;
    ready = record { goes = λ stopped. let e : Idle ≡ Stopped = sym first.site.armed.0 ∙ stopped in absurd cc; links = first.site.links.0 };
  },
  fresh_serve hs rest,
)

pub unstarted : (count : ℕ) (hosts : List Host) (clocks : List ℕ) → length hosts ≡ count → AllByRecursion IsFresh hosts → clocks ≡ replicate count 0 → IsUnstarted count (record { hosts = hosts; clocks = clocks; letters = [] })
unstarted count hosts clocks many fresh all = record { many = many; fresh = fresh; clocks = all; letters = refl }

put_by : (b : Bool) (i : ℕ) (g h : Host) (hs : List Host) → nat_eq i 1 ≡ b → AllServe (put_nth (i - 1) g hs) → AllServe hs → MayServe h → MayServe g → AllServe (put_nth i g (h ∷ hs))
put_by true i g h hs e again rest first here = rw e (here, rest)
put_by false i g h hs e again rest first here = rw e (first, again)

-- one put anew
pub serve_put : (i : ℕ) (g : Host) (hosts : List Host) → AllServe hosts → MayServe g → AllServe (put_nth i g hosts)
serve_put i g [] all here = tt
serve_put i g (h ∷ hs) (first, rest) here = put_by (nat_eq i 1) i g h hs refl (serve_put (i - 1) g hs rest here) rest first here

at_by : (b : Bool) (i : ℕ) (x h : Host) (hs : List Host) → nat_eq i 1 ≡ b → (nth (i - 1) hs ≡ Some x → MayServe x) → MayServe h → nth i (h ∷ hs) ≡ Some x → MayServe x
at_by true i x h hs e again first here = subst MayServe (same_host h x (rw e at here)) first
  where
    same_host : (a b : Host) → Some a ≡ Some b → a ≡ b
    same_host a b e = cc
at_by false i x h hs e again first here = again (rw e at here)

serve_at : (i : ℕ) (x : Host) (hosts : List Host) → AllServe hosts → nth i hosts ≡ Some x → MayServe x
serve_at i x [] all here = absurd cc
serve_at i x (h ∷ hs) (first, rest) here = at_by (nat_eq i 1) i x h hs refl (serve_at (i - 1) x hs rest) first here

-- a node that is up there, on that machine
abbrev pub IsThere : List Host → ℕ → Node → MemSite → Type 0
IsThere hosts i n site = (h : Host) × (nth i hosts ≡ Some h) × (h.node ≡ Some n) × (site ≡ h.site)

pub there_serves : (i : ℕ) (hosts : List Host) (n : Node) (site : MemSite) → AllServe hosts → IsThere hosts i n site → IsServing n
there_serves i hosts n site all (h, here, up, same) = subst (λ o. IfSome o IsServing) up (serve_at i h hosts all here).serving

pub there_runs : (i : ℕ) (hosts : List Host) (n : Node) (site : MemSite) → AllServe hosts → IsThere hosts i n site → n.halted ≡ false
there_runs i hosts n site all (h, here, up, same) = subst (λ o. IfSome o Runs) up (serve_at i h hosts all here).runs

pub there_ready : (i : ℕ) (hosts : List Host) (h : Host) (site : MemSite) → AllServe hosts → nth i hosts ≡ Some h → site ≡ h.site → IsReady site
there_ready i hosts h site all here same = subst IsReady (sym same) (serve_at i h hosts all here).ready
