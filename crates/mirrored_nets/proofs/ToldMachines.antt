-- Machines that were told which of their calls is to fail, or that none is.
use Rattle.std.specs.Prelude.{ℕ, List, ◌≡◌, ◌≤◌, ◌<◌, ◌+◌, ◌-◌, ◌&&◌, true, false, Some, None, cond, drop, length, nat_le, option_map}
use Rattle.std.proofs.Common.{zero, suc, refl, sym, ap, subst, arith, ◌∙◌}
use Rattle.std.proofs.lemmas.Bool.{and_parts, false≢true}
use Rattle.site_memory.specs.Armings.{are_armed, arming_of, call_number, is_armed, told_arming}
use Rattle.site_memory.specs.Arms.{armed}
use Rattle.site_memory.specs.Devices.{calls_in, opening_in}
use Rattle.site_memory.specs.Sites.{Same, told_of}
use Rattle.site_memory.specs.ToldCalls.{AreArmed, CallsFailAsTold, LinksHold}
use Rattle.site_memory.specs.declared.arm.Arm.{Arm}
use Rattle.site_memory.specs.declared.arm.Arm.TheVariants.{Fail, Idle, Stop, Stopped}
use Rattle.site_memory.specs.declared.arm.Arming.{Arming}
use Rattle.site_memory.specs.declared.links.Links.{Links}
use Rattle.site_memory.specs.declared.machine.MemSite.{MemSite}
use Rattle.site_model.specs.Counts.{Rose}
use Rattle.site_model.specs.Told.{Made}
use Rattle.mirrored_nets.specs.Fates.{refusals}
use Rattle.mirrored_nets.specs.Goings.{IsSet}
use Rattle.mirrored_nets.specs.Took.{Adds}
use Rattle.mirrored_nets.specs.ToldMachines.{IsReady, IsTold}

-- The calls since it was told which is to fail were done but for that one.
pub armed_row : CallsFailAsTold → LinksHold → (old new : MemSite) (made : List Made) (fails : ℕ) → (told_of old).counts.arming ≡ Some (record { since = length (calls_in old.device); fails = fails })
    → (told_of new).counts.arming ≡ (told_of old).counts.arming → Adds made old new → AreArmed (length (calls_in old.device)) fails made
armed_row calls links old new made fails told kept adds =
    let since = length (calls_in old.device) in
    let armed = (links new (record { since = since; fails = fails }) (kept ∙ told)).3 in
    subst (AreArmed since fails) (sym adds.calls) (calls new (record { since = since; fails = fails }) armed).1

isnt_stopped : (a : Arming) (made : List Made) → is_armed (Some a) Stopped made ≡ true → ⊥
isnt_stopped a made h =
    let (within, rest) = and_parts (nat_le a.since (length made)) (are_armed a.since a.fails (drop a.since made) && false) h in
    let (are, never) = and_parts (are_armed a.since a.fails (drop a.since made)) false rest in
    false≢true never

-- One that was told something hasn't stopped, and its links hold.
pub told_ready : LinksHold → (s : MemSite) → IsTold s → IsReady s
told_ready links s (told, is) = record {
  goes = λ stopped.
      isnt_stopped (record { since = told.since; fails = told.fails }) (calls_in s.device)
      (subst (λ arm. is_armed (Some (record { since = told.since; fails = told.fails })) arm (calls_in s.device) ≡ true) stopped
      (subst (λ o. is_armed o s.device.arm (calls_in s.device) ≡ true) (links s told is).3 s.device.as_armed));
  links = (links s told is).0;
}

-- one behind a crash
pub crashed_ready : (old new : MemSite) → new.device.arm ≡ Idle → new.links ≡ old.links → old.links.may_fail ≡ false → IsReady new
crashed_ready old new idle same holds = record {
  goes = λ stopped. let e : Idle ≡ Stopped = sym idle ∙ stopped in absurd cc;
  links = ap (λ (l : Links). l.may_fail) same ∙ holds;
}

armed_fail : (k : ℕ) (arm : Arm) → (arm ≡ Stopped → ⊥) → armed (Fail k) arm ≡ Fail k
armed_fail k Idle goes = refl
armed_fail k (Fail j) goes = refl
armed_fail k (Stop j choice) goes = refl
armed_fail k Stopped goes = absurd (goes refl)

-- one whose k-th call from now is to fail, or none where k is 0
pub set_told : (k now : ℕ) (old mid new : MemSite) → IsReady old → mid.device.arm ≡ armed (Fail k) old.device.arm → mid.device.arming ≡ arming_of (length (calls_in old.device)) mid.device.arm → Same old mid
    → new ≡ record mid { clock = now } → (told_of new).counts.arming ≡ Some (record { since = length (calls_in new.device); fails = call_number (length (calls_in new.device)) k })
set_told k now old mid new ready arm arming same later =
    subst (λ (s : MemSite). (told_of s).counts.arming ≡ Some (record { since = length (calls_in s.device); fails = call_number (length (calls_in s.device)) k })) (sym later)
    (subst (λ (l : List Made). (told_of mid).counts.arming ≡ Some (record { since = length l; fails = call_number (length l) k })) (sym same.calls)
    (ap (λ b. cond b None (option_map told_arming mid.device.arming)) (ap (λ (s : MemSite). s.links.may_fail) same.others ∙ ready.links)
    ∙ ap (option_map told_arming) (arming ∙ ap (arming_of (length (calls_in old.device))) (arm ∙ armed_fail k old.device.arm ready.goes))))

pub is_set : (k now : ℕ) (old mid new : MemSite) → mid.device.arm ≡ armed (Fail k) old.device.arm → mid.device.arming ≡ arming_of (length (calls_in old.device)) mid.device.arm → Same old mid → new ≡ record mid { clock = now }
    → IsSet now old new
is_set k now old mid new arm arming same later = record {
  opening = ap (λ (s : MemSite). opening_in s.device) later ∙ same.opening;
  calls = ap (λ (s : MemSite). calls_in s.device) later ∙ same.calls;
  clock = ap (λ (s : MemSite). s.clock) later;
  told = λ ready. (_, set_told k now old mid new ready arm arming same later);
}

-- No gate failed beside those of whose calls one is among those that failed.
pub gates_stand : (old new : MemSite) (made : List Made) → Adds made old new → refusals made ≡ 0 → Rose old.tally.gate new.tally.gate → ⊥
gates_stand old new made adds none rose =
    let most = adds.raised in
    let below = adds.under in
    omega (arith, none, most, below, rose)

-- the call that is to fail, by its number among all
pub numbered : (since call : ℕ) → 1 ≤ call → call_number since call ≡ since + call
numbered since zero some = absurd (omega (arith, some))
numbered since (suc call) some = refl
