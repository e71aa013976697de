-- Polls and pauses are calls later.
use Rattle.std.proofs.Common.{ℤ, pos, Bool, true, false, List, ◌≡◌, ◌∙◌, ap, inl, inr, refl, subst, sym}
use Rattle.std.specs.Int.Signed.{le_z}
use Rattle.std.proofs.Math.Facts.{to_z-of_z}
use mir.Syntax.{w32}
use mir.Val.{SFits, of_z, to_z}
use Rattle.libc.specs.declared.types.pollfd.{pollfd}
use Rattle.system_calls.specs.Calls.{Calls, then}
use Rattle.system_calls.specs.Calls.Call.{Poll}
use Rattle.atx_sites.specs.LinkCalls.{Later, Looks, Pauses, Polls}
use Rattle.atx_sites.specs.LinkCalls.Later.{none, more}
use Rattle.atx_sites.proofs.Comings.{later_still}

pub polled : (asks found : List pollfd) (millis count : ℤ) (done : Bool) (old new : Calls) → SFits w32 millis → SFits w32 count
    → new ≡ then (Poll asks (to_z w32 (of_z w32 millis)) found count) old → done ≡ le_z (pos 0) (to_z w32 (of_z w32 count)) → Polls asks millis found done old new
polled asks found millis count done old new f h e d =
    (count, e ∙ ap (λ m. then (Poll asks m found count) old) (to_z-of_z f), sym (d ∙ ap (le_z (pos 0)) (to_z-of_z h)))

pub no_pause : (calls : Calls) → Later calls calls
no_pause calls = none refl

pub pauses_later : (old new : Calls) → Pauses old new → Later old new
pauses_later old new (found, count, e) = more _ (none refl) e

polls_later : (asks : List pollfd) (millis : ℤ) (found : List pollfd) (done : Bool) (old new : Calls) → Polls asks millis found done old new → Later old new
polls_later asks millis found done old new (count, e, z) = more _ (none refl) e

pub looks_later : (asks : List pollfd) (millis : ℤ) (found : List pollfd) (old new : Calls) → Looks asks millis found old new → Later old new
looks_later asks millis found old new (inl p) = polls_later asks millis found _ old new p
looks_later asks millis found old new (inr (looked, mid, p, inl q)) =
    later_still old mid new (polls_later asks millis looked _ old mid p) (polls_later looked millis found _ mid new q)
looks_later asks millis found old new (inr (looked, mid, p, inr (late, q, r))) =
    later_still old late new (later_still old mid late (polls_later asks millis looked _ old mid p) (polls_later looked millis found _ mid late q)) (pauses_later late new r)

module _ (asks : List pollfd) (millis : ℤ) where
  polls_as : (found : List pollfd) (done as_is : Bool) (old new : Calls) → done ≡ as_is → Polls asks millis found done old new → Polls asks millis found as_is old new
  polls_as found done as_is old new e p = subst (λ b. Polls asks millis found b old new) e p

  pub looks_once : (found : List pollfd) (done : Bool) (old new : Calls) → done ≡ true → Polls asks millis found done old new → Looks asks millis found old new
  looks_once found done old new e p = inl (polls_as found done true old new e p)

module _ (asks looked found : List pollfd) (millis : ℤ) (done done_now : Bool) (old mid : Calls) where
  pub looks_again : (new : Calls) → done ≡ false → Polls asks millis looked done old mid → done_now ≡ true → Polls looked millis found done_now mid new → Looks asks millis found old new
  looks_again new e p f q = inr (looked, mid, polls_as asks millis looked done false old mid e p, inl (polls_as looked millis found done_now true mid new f q))

  pub looks_paused : (late new : Calls) → done ≡ false → Polls asks millis looked done old mid → done_now ≡ false → Polls looked millis found done_now mid late → Pauses late new
      → Looks asks millis found old new
  looks_paused late new e p f q r =
      inr (looked, mid, polls_as asks millis looked done false old mid e p, inr (late, polls_as looked millis found done_now false mid late f q, r))

pub looks_with : (asks found : List pollfd) (millis : ℤ) (old new : Calls) → SFits w32 millis → Looks asks (to_z w32 (of_z w32 millis)) found old new → Looks asks millis found old new
looks_with asks found millis old new f h = subst (λ m. Looks asks m found old new) (to_z-of_z f) h
