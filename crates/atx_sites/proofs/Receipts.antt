-- What a connection gives, of a machine that tells its counts alone.
use Rattle.std.proofs.Common.{ℕ, List, Result, Ok, Err, None, Some, ◌≡◌, ◌≤◌, refl, subst, length, OnOk, IfOk, IsErr}
use Rattle.std.specs.Io.{ReadsAtMost}
use Rattle.site_model.specs.Attachments.{Names}
use Rattle.site_model.specs.Counts.{HasCause}
use Rattle.site_model.specs.Site.{OnLink}
use Rattle.site_model.specs.Calls.{Received}
use Rattle.site_model.specs.Told.{Link, silent}
use Rattle.atx_sites.specs.Disks.{Tallied}
use Rattle.atx_sites.specs.Networks.{counts_with}
use Rattle.atx_sites.specs.declared.disk.Disk.{Disk}
use Rattle.atx_sites.proofs.SilentMachines.{elapsed}

pub untold_link : (link : Link) → None ≡ Some link → ⊥
untold_link link h = cc

pub quiet : {T E : Type 0} (before now : ℕ) (result : Result T E) → Tallied before now result → OnOk result (now ≡ before)
quiet before now (Ok x) h = h
quiet before now (Err e) h = tt

pub bounded : {E G : Type 0} (buf : List ℕ) (answer : Result ℕ G) (result : Result ℕ E) → IfOk result (λ x. answer ≡ Ok x) → ReadsAtMost answer buf → IfOk result (λ n. n ≤ length buf)
bounded buf answer (Err e) h r = tt
bounded buf (Err e) (Ok n) h r = cc
bounded buf (Ok m) (Ok n) h r = let e : m ≡ n = cc in subst (λ k. k ≤ length buf) e r.0

pub if_failed : {T E : Type 0} (P : T → Type 0) (result : Result T E) → IsErr result → IfOk result P
if_failed P (Ok x) h = cc
if_failed P (Err e) h = tt

module _ {F : Type 0} (disk : Disk F) (accept taken : ℕ) (names : List Names) where
  pub received : {E : Type 0} (old new link : ℕ) (result : Result ℕ E) (buf : List ℕ) → IfOk result (λ n. n ≤ length buf) → HasCause old new result → Tallied old new result
      → Received result buf (silent (counts_with disk accept old link taken names)) (silent (counts_with disk accept new link taken names))
  received old new link result buf bound cause tally =
      record {
        bound = bound;
        still = record { files = refl; images = λ c h. h; calls = refl; time = elapsed _ _ _ };
        clock = refl;
        told = λ before h. absurd (untold_link before h);
        untold = λ h. refl;
        counts = record { cause = cause; quiet = quiet old new result tally; others = refl };
      }

  pub on_link : {T E : Type 0} (receive old new : ℕ) (result : Result T E) → HasCause old new result → OnLink (counts_with disk accept receive old taken names) (counts_with disk accept receive new taken names) result
  on_link receive old new result cause = record { cause = cause; others = refl }
