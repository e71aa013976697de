-- The calls of a machine that tells its counts alone.
use Rattle.std.proofs.Common.{ℕ, List, None, Result, Ok, Err, [], ◌∷◌, ◌≡◌, inr, refl, map, OnOk, OnErr, IfOk, IsErr}
use Rattle.shown_pages.specs.Quiet.{Quiet}
use Rattle.site_model.specs.Told.{Call, Made, Files, Elapses, Is, done, silent}
use Rattle.site_model.specs.Told.Call.{Write, Sync}
use Rattle.site_model.specs.Attachments.{Names}
use Rattle.site_model.specs.Counts.{HasCause}
use Rattle.site_model.specs.Site.{Counts, OnDisk, OnGate, OnLink}
use Rattle.site_model.specs.Calls.{Looked, Runs, Wrote, Synced, Raised, Gave}
use Rattle.atx_sites.specs.Networks.{counts_with}
use Rattle.atx_sites.specs.declared.disk.Disk.{Disk}

untold : (c : Files) → Is None c → ⊥
untold c h = cc

pub elapsed : (a b : Counts) (P : List Made → Files → Type 0) → Elapses (silent a) (silent b) P
elapsed a b P = record { adds = λ l c past. absurd past; keeps = λ l c past. past }

pub if_ok : {T E P : Type 0} (result : Result T E) → P → OnOk result P
if_ok (Ok x) p = p
if_ok (Err e) p = tt

pub if_err : {T E P : Type 0} (result : Result T E) → P → OnErr result P
if_err (Ok x) p = tt
if_err (Err e) p = p

pub untold_ok : {T E : Type 0} (P : T → Files → Type 0) (result : Result T E) → IfOk result (λ n. (f : Files) → Is None f → P n f)
untold_ok P (Ok n) = λ f h. absurd (untold f h)
untold_ok P (Err e) = tt

-- a failure that is handed on is one
pub stays_err : {T E G : Type 0} (answer : Result T G) (result : Result T E) → IfOk result (λ x. answer ≡ Ok x) → IsErr answer → IsErr result
stays_err (Ok y) (Ok x) h e = cc
stays_err (Err why) (Ok x) h e = cc
stays_err answer (Err why) h e = refl

pub looked : {T E : Type 0} (a b : Counts) (result : Result T E) → OnDisk a b result → Looked result (silent a) (silent b)
looked a b result counts =
    record {
      still = record { files = refl; images = λ c h. h; calls = refl; time = elapsed a b _ };
      apart = record { link = refl; clock = refl };
      counts = counts;
    }

pub quiet : (a b : Counts) → b ≡ a → Quiet (silent a) (silent b)
quiet a b same = record { still = record { files = refl; images = λ c h. h; calls = refl; time = elapsed a b _ }; apart = record { link = refl; clock = refl }; counts = same }

module _ {F T E : Type 0} (old new : Disk F) (accept receive link taken : ℕ) (names : List Names) (result : Result T E) where
  pub on_disk : HasCause old.disk new.disk result → new.gate ≡ old.gate
      → OnDisk (counts_with old accept receive link taken names) (counts_with new accept receive link taken names) result
  on_disk cause same =
      record {
        cause = cause;
        others = λ i. record { arming = None; disk = new.disk; gate = same i; accept = accept; receive = receive; link = link; taken = taken; closings = 0; attached = names };
      }

  pub on_gate : HasCause old.gate new.gate result → new.disk ≡ old.disk
      → OnGate (counts_with old accept receive link taken names) (counts_with new accept receive link taken names) result
  on_gate cause same =
      record {
        cause = cause;
        others = λ i. record { arming = None; disk = same i; gate = new.gate; accept = accept; receive = receive; link = link; taken = taken; closings = 0; attached = names };
      }

module _ {T E : Type 0} (a b : Counts) where
  -- the first call of these ran, or wasn't tried
  pub ran : (call : Call) (rest : List Call) (result : Result T E) → Runs (call ∷ rest) result (silent a) (silent b)
  ran call rest (Ok x) = record { made = map done (call ∷ rest); outcome = refl; grown = refl }
  ran call rest (Err e) = record { made = []; outcome = record { front = []; call = call; rest = rest; split = refl; is = inr refl }; grown = refl }

  pub wrote : (file at : ℕ) (bytes : List ℕ) (result : Result T E) → OnDisk a b result → Wrote file at bytes result (silent a) (silent b)
  wrote file at bytes result counts =
      record {
        calls = ran (Write file at bytes) [] result;
        done = if_ok result refl;
        failed = if_err result (λ c h. absurd (untold c h));
        images = λ c h. absurd h;
        time = elapsed a b _;
        apart = record { link = refl; clock = refl };
        counts = counts;
      }

  pub synced : (file : ℕ) (result : Result T E) → OnDisk a b result → Synced file result (silent a) (silent b)
  synced file result counts =
      record {
        calls = ran (Sync file) [] result;
        done = if_ok result (λ c h. absurd h);
        files = refl;
        images = λ c h. h;
        time = elapsed a b _;
        apart = record { link = refl; clock = refl };
        counts = counts;
      }

  pub raised : (file at : ℕ) (result : Result T E) → OnGate a b result → Raised file at result (silent a) (silent b)
  raised file at result counts =
      record {
        calls = ran (Write file at (1 ∷ [])) (Sync file ∷ []) result;
        done = if_ok result refl;
        settled = if_ok result (λ c h. absurd h);
        failed = if_err result (λ c h. absurd (untold c h));
        images = λ c h. absurd h;
        time = elapsed a b _;
        apart = record { link = refl; clock = refl };
        counts = counts;
      }

  pub gave : (call : Call) (result : Result T E) → OnLink a b result → Gave call result (silent a) (silent b)
  gave call result counts =
      record {
        calls = ran call [] result;
        files = refl;
        images = λ c h. h;
        time = elapsed a b _;
        apart = record { link = refl; clock = refl };
        counts = counts;
      }
