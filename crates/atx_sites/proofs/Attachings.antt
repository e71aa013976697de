-- What attaching does, and taking a connection, of a machine that tells its counts alone.
use Rattle.std.proofs.Common.{ℕ, List, Result, Ok, Err, [], ◌++◌, ◌≡◌, ◌≤◌, ◌+◌, None, refl, sym, arith, true, false, is_err, OnOk, OnErr}
use Rattle.std.proofs.lemmas.List.{append-nil}
use Rattle.site_model.specs.Attachments.{Names, attached_by}
use Rattle.site_model.specs.Calls.{Attaches, Takes}
use Rattle.site_model.specs.Counts.{HasCause, RisesBy, capped}
use Rattle.site_model.specs.Site.{AttachCause}
use Rattle.site_model.specs.Told.{silent}
use Rattle.site_model.specs.declared.site.AttachFailed.{AttachFailed}
use Rattle.site_model.specs.declared.site.Taken.TheVariants.{Opened}
use Rattle.system_calls.specs.Calls.{Calls, Number}
use Rattle.atx_sites.specs.Disks.{IfHeld, Tallied}
use Rattle.atx_sites.specs.FileCalls.{OpensBoth}
use Rattle.atx_sites.specs.Files.{number_of}
use Rattle.atx_sites.specs.LinkCalls.{IfListens, Listens}
use Rattle.atx_sites.specs.Networks.{counts_with}
use Rattle.atx_sites.specs.declared.disk.Disk.{Disk}
use Rattle.atx_sites.proofs.Receipts.{untold_link}
use Rattle.atx_sites.proofs.SilentMachines.{elapsed}

pub stands : (n : ℕ) → n ≤ n
stands n = omega arith

pub no_more : (names : List Names) → names ≡ names ++ []
no_more names = sym (append-nil names)

pub listens : {E : Type 0} (address : List ℕ) (listener : Number) (old new : Calls) (answer : Result (Unit {0}) E) (done : Unit {0}) → answer ≡ Ok done
    → IfListens address answer listener old new → Listens address listener old new
listens address listener old new (Ok x) done is h = h
listens address listener old new (Err why) done is h = cc

pub rises : (before now : ℕ) → now ≡ capped (before + 1) → RisesBy 1 before now
rises before now h = record { at_least = omega (arith, h); at_most = omega (arith, h) }

-- what a failed call ensures, and one that didn't fail
pub on_failed : {T E P : Type 0} (result : Result T E) → true ≡ is_err result → OnErr result P → P
on_failed (Ok x) h p = cc
on_failed (Err why) h p = p

pub on_passed : {T E P : Type 0} (result : Result T E) → false ≡ is_err result → OnOk result P → P
on_passed (Ok x) h p = p
on_passed (Err why) h p = cc

pub failed_tally : {T E : Type 0} (before now : ℕ) (result : Result T E) → true ≡ is_err result → Tallied before now result → now ≡ capped (before + 1)
failed_tally before now (Ok x) h t = cc
failed_tally before now (Err why) h t = t

pub passed_tally : {T E : Type 0} (before now : ℕ) (result : Result T E) → false ≡ is_err result → Tallied before now result → now ≡ before
passed_tally before now (Ok x) h t = t
passed_tally before now (Err why) h t = cc

pub held : {F E : Type 0} (number : F → Number) (journal : List ℕ) (result : Result (Unit {0}) E) (disk : Disk F) (old new : Calls) → false ≡ is_err result
    → IfHeld number journal result disk old new → OpensBoth journal (number_of number disk.first) (number_of number disk.second) old new
held number journal (Ok done) disk old new h p = p
held number journal (Err why) disk old new h p = cc

module _ {F : Type 0} (old new : Disk F) (accept accept_now receive link taken : ℕ) (names names_now : List Names) where
  pub attaches : {T : Type 0} (journal listen : List ℕ) (result : Result T AttachFailed) → old.disk ≤ new.disk → accept ≤ accept_now
      → AttachCause (counts_with old accept receive link taken names) (counts_with new accept_now receive link taken names_now) result
      → names_now ≡ names ++ attached_by journal listen result → new.gate ≡ old.gate
      → Attaches journal listen result (silent (counts_with old accept receive link taken names)) (silent (counts_with new accept_now receive link taken names_now))
  attaches journal listen result disk_later accept_later cause names_are same =
      record {
        still = record { files = refl; images = λ c h. h; calls = refl; time = elapsed _ _ _ };
        apart = record { link = refl; clock = refl };
        counts = record {
          disk = disk_later;
          accept = accept_later;
          cause = cause;
          names = names_are;
          others = λ i. record { arming = None; disk = new.disk; gate = same i; accept = accept_now; receive = receive; link = link; taken = taken; closings = 0; attached = names_now };
        };
      }

module _ {F : Type 0} (disk : Disk F) (accept now receive link taken : ℕ) (names : List Names) where
  pub opened : {T E G : Type 0} (x : T) (taken_now : ℕ) → HasCause {T = T} {E = E} accept now (Ok x) → taken_now ≡ capped (taken + 1)
      → Takes {E = G} (Ok Opened) (silent (counts_with disk accept receive link taken names)) (silent (counts_with disk now receive link taken_now names))
  opened x taken_now cause once =
      record {
        still = record { files = refl; images = λ c h. h; calls = refl; time = elapsed _ _ _ };
        clock = refl;
        told = λ before h. absurd (untold_link before h);
        untold = λ h. refl;
        counts = record { cause = record { later = cause.later; failed = tt }; counted = (rises taken taken_now once, refl); others = refl };
      }

  pub unopened : {T E : Type 0} (fault : E) → HasCause {T = T} {E = E} accept now (Err fault)
      → Takes {E = E} (Err fault) (silent (counts_with disk accept receive link taken names)) (silent (counts_with disk now receive link taken names))
  unopened fault cause =
      record {
        still = record { files = refl; images = λ c h. h; calls = refl; time = elapsed _ _ _ };
        clock = refl;
        told = λ before h. absurd (untold_link before h);
        untold = λ h. refl;
        counts = record { cause = record { later = cause.later; failed = cause.failed }; counted = (refl, refl); others = refl };
      }
