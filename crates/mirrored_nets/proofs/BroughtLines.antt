-- What a connection brings: how many calls come before its first step, and the time behind it.
use Rattle.std.specs.Prelude.{ℕ, List, ◌+◌, ◌≡◌, ◌≤◌, ◌<◌, ◌^◌, Bool, Some, true, false}
use Rattle.std.proofs.Common.{arith, subst, sym}
use Rattle.at_model.specs.World.{Input, Deliver, Raw, Tick, nth}
use Rattle.memory_net.specs.Mails.{Mail}
use Rattle.node_events.specs.NodeEvents.{one_if}
use Rattle.mirrored_nets.specs.Goings.{IsBrought, ms_of}
use Rattle.mirrored_nets.specs.MayCome.{FitsClock}

one_or_none : (waits : Bool) (lines : ℕ) → lines ≡ one_if waits → lines ≤ 1
one_or_none true lines e = omega (arith, e)
one_or_none false lines e = omega (arith, e)

-- at most one
pub few_lines : (mails : List Mail) (i : ℕ) (input : Input) (lines : ℕ) (bytes : List ℕ) → IsBrought mails i input lines bytes → lines ≤ 1
few_lines mails i (Deliver k) lines bytes (m, at, to, same, short, none) = omega (arith, none)
few_lines mails i (Tick ms) lines bytes (tick, none) = omega (arith, none)
few_lines mails i Raw lines bytes (status, waits, draws, short, e) = one_or_none waits lines e

-- the clock shows the time behind it
pub clock_fits : (clocks : List ℕ) (i c ms : ℕ) (input : Input) → FitsClock clocks i input → nth i clocks ≡ Some c → c < 2 ^ 64 → ms ≡ ms_of input → c + ms < 2 ^ 64
clock_fits clocks i c ms (Deliver k) fits here small e = omega (arith, small, e)
clock_fits clocks i c ms (Tick n) fits here small e = subst (λ k. c + k < 2 ^ 64) (sym e) (fits c here)
clock_fits clocks i c ms Raw fits here small e = omega (arith, small, e)
