-- What is told of a call that failed.
use Rattle.std.proofs.Common.{ℕ, false, zero, suc, List, Option, None, Result, Ok, Err, ◌≡◌, ◌∙◌, ap, inl, inr, refl, subst, sym, IfOk}
use Rattle.std.specs.Prelude.{IfErr}
use Rattle.std.specs.IoError.{error_kind, raw_os_error}
use Rattle.std.specs.declared.io.ErrorKind.TheVariants as kinds
use Rattle.std.specs.declared.io.Error.{Error}
use Rattle.std.specs.declared.net.SocketAddr.{SocketAddr}
use Rattle.std.specs.declared.time.Duration.{Duration}
use Rattle.system_calls.specs.Calls.{Answer, Calls, Number, answer, came, given, then}
use Rattle.system_calls.specs.Calls.Call.{Accept, Duplicate, Examine, Forget, Listen, Lock, Monotonic, Open, OpenFolder, ReadAt, Sync, WriteAt}
use Rattle.system_calls.specs.declared.system.Stat.{Stat}
use Rattle.atx_sites.specs.Disks.{file_at}
use Rattle.atx_sites.specs.Files.{number_of}
use Rattle.atx_sites.specs.LinkCalls.{number_at}
use Rattle.atx_sites.specs.declared.disk.Disk.{Disk}
use Rattle.atx_sites.specs.declared.open_file.Held.{Held}
use Rattle.atx_sites.specs.Failures.{Ends, Notes, Tells}
use Rattle.atx_sites.specs.declared.troubles.Step.{Step}
use Rattle.atx_sites.specs.declared.troubles.Step.TheVariants as steps
use Rattle.atx_sites.specs.declared.troubles.Trouble.{Trouble}

-- what is noted of an answer is told of the call that gives it
pub tells : {T E : Type 0} (number : Number) (step : Step) (was now : Option Trouble) (answer : Result T Error) (result : Result T E) (calls : Calls)
    → ((x : T) → answer ≡ Ok x → result ≡ Ok x) → IfOk result (λ x. answer ≡ Ok x)
    → Notes step answer was now → IfErr answer (λ e. Ends number step e calls) → Tells number step result was now calls
tells number step was now (Ok x) (Ok y) calls stays ok noted ends = noted
tells number step was now (Ok x) (Err f) calls stays ok noted ends = absurd (let e = stays x refl in cc)
tells number step was now (Err e) (Ok y) calls stays ok noted ends = cc
tells number step was now (Err e) (Err f) calls stays ok noted ends = (e, noted, ends)

-- the error of the last call
module _ (number : Number) (e : Error) (mid new : Calls) where
  pub no_memory : raw_os_error e ≡ None → error_kind e ≡ kinds.OutOfMemory → Ends number steps.Listen e new
  no_memory h k = inl (h, k)

  pub too_long : (file : ℕ) → raw_os_error e ≡ None → error_kind e ≡ kinds.InvalidInput → Ends number (steps.Write file) e new
  too_long file h k = inl (h, inr (inl k))

  pub cut_off : (file : ℕ) → raw_os_error e ≡ None → error_kind e ≡ kinds.Interrupted → Ends number (steps.Write file) e new
  cut_off file h k = inl (h, inr (inr (inl k)))

  pub took_none : (file : ℕ) (at : ℕ) (bytes : List ℕ) (got : Answer ℕ) → raw_os_error e ≡ None → error_kind e ≡ kinds.WriteZero → new ≡ then (WriteAt number at bytes got) mid → got ≡ Ok 0
      → Ends number (steps.Write file) e new
  took_none file at bytes got h k is r = inl (h, inr (inr (inr (k, (at, bytes, mid, is ∙ ap (λ g. then (WriteAt number at bytes g) mid) r)))))

  pub read_cut_off : (file : ℕ) → raw_os_error e ≡ None → error_kind e ≡ kinds.Interrupted → Ends number (steps.Read file) e new
  read_cut_off file h k = inl (h, inr k)

  pub lost_before : (file : ℕ) → raw_os_error e ≡ None → error_kind e ≡ kinds.Other → Ends number (steps.Sync file) e new
  lost_before file h k = inl (h, inr k)

  pub ended_clock : (got : Answer Duration) → new ≡ then (Monotonic got) mid → got ≡ Err e → Ends number steps.Accept e new
  ended_clock got h r = inr (_, mid, h ∙ ap (λ g. then (Monotonic g) mid) r, inr refl)

  pub ended_size : (file : ℕ) (got : Answer Stat) → new ≡ then (Examine number got) mid → got ≡ Err e → Ends number (steps.Size file) e new
  ended_size file got h r = inr (_, mid, h ∙ ap (λ g. then (Examine number g) mid) r, refl)

  pub ended_read : (file : ℕ) (at : ℕ) (buf : List ℕ) (got : Answer ℕ) → new ≡ then (ReadAt number at (given buf got)) mid → got ≡ Err e → Ends number (steps.Read file) e new
  ended_read file at buf got h r = inr (_, mid, h ∙ ap (λ g. then (ReadAt number at (given buf g)) mid) r, (at, refl))

  pub ended_write : (file : ℕ) (at : ℕ) (bytes : List ℕ) (got : Answer ℕ) → new ≡ then (WriteAt number at bytes got) mid → got ≡ Err e → Ends number (steps.Write file) e new
  ended_write file at bytes got h r = inr (_, mid, h ∙ ap (λ g. then (WriteAt number at bytes g) mid) r, (at, bytes, refl))

  pub ended_sync : (file : ℕ) (got : Answer (Unit {0})) → new ≡ then (Sync number got) mid → got ≡ Err e → Ends number (steps.Sync file) e new
  ended_sync file got h r = inr (_, mid, h ∙ ap (λ g. then (Sync number g) mid) r, refl)

  pub ended_kind : (file : ℕ) (opened : Number) (got : Answer Stat) → new ≡ then (Examine opened got) mid → got ≡ Err e → Ends number (steps.Kind file) e new
  ended_kind file opened got h r = inr (_, mid, h ∙ ap (λ g. then (Examine opened g) mid) r, (opened, refl))

  pub ended_lock : (file : ℕ) (opened : Number) (got : Answer (Unit {0})) → new ≡ then (Lock opened got) mid → got ≡ Err e → Ends number (steps.Lock file) e new
  ended_lock file opened got h r = inr (_, mid, h ∙ ap (λ g. then (Lock opened g) mid) r, (opened, refl))

  pub ended_settle : (file : ℕ) (opened : Number) (got : Answer (Unit {0})) → new ≡ then (Sync opened got) mid → got ≡ Err e → Ends number (steps.Settle file) e new
  ended_settle file opened got h r = inr (_, mid, h ∙ ap (λ g. then (Sync opened g) mid) r, (opened, inl refl))

  pub ended_forget : (file : ℕ) (opened : Number) (got : Answer (Unit {0})) → new ≡ then (Forget opened got) mid → got ≡ Err e → Ends number (steps.Settle file) e new
  ended_forget file opened got h r = inr (_, mid, h ∙ ap (λ g. then (Forget opened g) mid) r, (opened, inr refl))

  pub ended_folder : (folder : Number) (got : Answer (Unit {0})) → new ≡ then (Sync folder got) mid → got ≡ Err e → Ends number steps.Folder e new
  ended_folder folder got h r = inr (_, mid, h ∙ ap (λ g. then (Sync folder g) mid) r, inr (folder, refl))

module _ {C : Type 0} (as_number : C → Number) (number : Number) (e : Error) (mid new : Calls) where
  pub ended_accept : (got : Answer (C × SocketAddr)) → new ≡ then (Accept number (answer (came as_number) got)) mid → got ≡ Err e → Ends number steps.Accept e new
  ended_accept got h r = inr (_, mid, h ∙ ap (λ g. then (Accept number (answer (came as_number) g)) mid) r, inl refl)

  pub ended_open : (file : ℕ) (name : List ℕ) (got : Answer C) → new ≡ then (Open name (answer as_number got)) mid → got ≡ Err e → Ends number (steps.Open file) e new
  ended_open file name got h r = inr (_, mid, h ∙ ap (λ g. then (Open name (answer as_number g)) mid) r, inl (name, refl))

  pub ended_low : (file : ℕ) (low : Number) (got : Answer C) → new ≡ then (Duplicate low (answer as_number got)) mid → got ≡ Err e → Ends number (steps.Open file) e new
  ended_low file low got h r = inr (_, mid, h ∙ ap (λ g. then (Duplicate low (answer as_number g)) mid) r, inr (low, refl))

  pub ended_name : (name : List ℕ) (got : Answer C) → new ≡ then (OpenFolder name (answer as_number got)) mid → got ≡ Err e → Ends number steps.Folder e new
  ended_name name got h r = inr (_, mid, h ∙ ap (λ g. then (OpenFolder name (answer as_number g)) mid) r, inl (name, refl))

  pub ended_listen : (address : List ℕ) (got : Answer C) → new ≡ then (Listen address (answer as_number got)) mid → got ≡ Err e → Ends number steps.Listen e new
  ended_listen address got h r = inr (_, mid, h ∙ ap (λ g. then (Listen address (answer as_number g)) mid) r, (address, refl))

-- of a file that isn't open, and where nothing listens
module _ {F : Type 0} (number : F → Number) (e : Error) (calls : Calls) where
  pub shut_size : (held : Option (Held F)) (file : ℕ) → raw_os_error e ≡ None → error_kind e ≡ kinds.NotFound → held ≡ None → Ends (number_of number held) (steps.Size file) e calls
  shut_size held file h k is = inl (h, (k, ap (number_of number) is))

  pub shut_read : (held : Option (Held F)) (file : ℕ) → raw_os_error e ≡ None → error_kind e ≡ kinds.NotFound → held ≡ None → Ends (number_of number held) (steps.Read file) e calls
  shut_read held file h k is = inl (h, inl (k, ap (number_of number) is))

  pub shut_write : (held : Option (Held F)) (file : ℕ) → raw_os_error e ≡ None → error_kind e ≡ kinds.NotFound → held ≡ None → Ends (number_of number held) (steps.Write file) e calls
  shut_write held file h k is = inl (h, inl (k, ap (number_of number) is))

  pub shut_sync : (held : Option (Held F)) (file : ℕ) → raw_os_error e ≡ None → error_kind e ≡ kinds.NotFound → held ≡ None → Ends (number_of number held) (steps.Sync file) e calls
  shut_sync held file h k is = inl (h, inl (k, ap (number_of number) is))

  pub unlistening : (listener : Option F) → raw_os_error e ≡ None → error_kind e ≡ kinds.NotConnected → listener ≡ None → Ends (number_at number listener) steps.Accept e calls
  unlistening listener h k is = inl (h, (k, ap (number_at number) is))

pub not_regular : (number opened : Number) (t : Trouble) (file : ℕ) (got : Answer Stat) (stat : Stat) (mid new : Calls)
    → (t.step ≡ steps.Kind file) × (raw_os_error t.fault ≡ None) × (error_kind t.fault ≡ kinds.Unsupported) → new ≡ then (Examine opened got) mid → got ≡ Ok stat → stat.is_file ≡ false
    → Ends number t.step t.fault new
not_regular number opened t file got stat mid new (a, h, k) e r plain =
    subst (λ (s : Step). Ends number s t.fault new) (sym a) (inl (h, (k, (opened, stat, mid, plain, e ∙ ap (λ g. then (Examine opened g) mid) r))))

pub long_name : (number : Number) (t : Trouble) (calls : Calls) → (t.step ≡ steps.Open 1) × (raw_os_error t.fault ≡ None) × (error_kind t.fault ≡ kinds.InvalidFilename) → Ends number t.step t.fault calls
long_name number t calls (a, h, k) = subst (λ (s : Step). Ends number s t.fault calls) (sym a) (inl (h, (k, refl)))

-- a gate is raised by a write and a sync
module _ (number : Number) (file : ℕ) (calls : Calls) where
  pub of_write : {T : Type 0} (r : Result T Error) → IfErr r (λ e. Ends number (steps.Write file) e calls) → IfErr r (λ e. Ends number (steps.Gate file) e calls)
  of_write (Ok x) h = tt
  of_write (Err e) (inl (h, own)) = inl (h, inl own)
  of_write (Err e) (inr (call, mid, h, (at, bytes, i))) = inr (call, mid, h, inl (at, bytes, i))

  pub of_sync : {T : Type 0} (r : Result T Error) → IfErr r (λ e. Ends number (steps.Sync file) e calls) → IfErr r (λ e. Ends number (steps.Gate file) e calls)
  of_sync (Ok x) h = tt
  of_sync (Err e) (inl (h, own)) = inl (h, inr own)
  of_sync (Err e) (inr (call, mid, h, i)) = inr (call, mid, h, inr i)

-- the first file's and the second's
pub of_open : (number : Number) (file : ℕ) (e : Error) (calls : Calls) → Ends number (steps.Open 0) e calls → Ends number (steps.Open file) e calls
of_open number file e calls (inl (h, (k, first))) = cc
of_open number file e calls (inr h) = inr h

-- of an answer as it came
pub any_low : {C : Type 0} (as_number : C → Number) (low number : Number) (file : ℕ) (got : Answer C) (mid new : Calls) → new ≡ then (Duplicate low (answer as_number got)) mid
    → IfErr got (λ e. Ends number (steps.Open file) e new)
any_low as_number low number file (Ok x) mid new h = tt
any_low as_number low number file (Err e) mid new h = inr (_, mid, h, inr (low, refl))

pub any_sync : (number : Number) (file : ℕ) (got : Answer (Unit {0})) (mid new : Calls) → new ≡ then (Sync number got) mid → IfErr got (λ e. Ends number (steps.Sync file) e new)
any_sync number file (Ok x) mid new h = tt
any_sync number file (Err e) mid new h = inr (_, mid, h, refl)

pub ended_as : (number : Number) (t : Trouble) (step : Step) (fault : Error) (calls : Calls) → (t.step ≡ step) × (t.fault ≡ fault) → Ends number step fault calls → Ends number t.step t.fault calls
ended_as number t step fault calls (a, b) h =
    subst (λ (s : Step). Ends number s t.fault calls) (sym a) (subst (λ (f : Error). Ends number step f calls) (sym b) h)

-- of the one file or the other
module _ {F T : Type 0} (number : F → Number) (disk : Disk F) (answer result : Result T Error) (calls now : Calls) (same : answer ≡ result) (same_calls : calls ≡ now) where
  pub gate_of_first : (file : ℕ) → file ≡ 0 → IfErr result (λ e. Ends (number_of number disk.first) (steps.Gate 0) e now)
      → IfErr answer (λ e. Ends (number_of number (file_at file disk)) (steps.Gate file) e calls)
  gate_of_first zero is h =
      subst (λ (k : Calls). IfErr answer (λ e. Ends (number_of number disk.first) (steps.Gate 0) e k)) (sym same_calls)
      (subst (λ (r : Result T Error). IfErr r (λ e. Ends (number_of number disk.first) (steps.Gate 0) e now)) (sym same) h)
  gate_of_first (suc n) is h = cc

  pub gate_of_second : (file : ℕ) → (file ≡ 0 → ⊥) → IfErr result (λ e. Ends (number_of number disk.second) (steps.Gate 0) e now)
      → IfErr answer (λ e. Ends (number_of number (file_at file disk)) (steps.Gate file) e calls)
  gate_of_second zero is h = absurd (is refl)
  gate_of_second (suc n) is h =
      subst (λ (k : Calls). IfErr answer (λ e. Ends (number_of number disk.second) (steps.Gate 0) e k)) (sym same_calls)
      (subst (λ (r : Result T Error). IfErr r (λ e. Ends (number_of number disk.second) (steps.Gate 0) e now)) (sym same) h)

  pub write_of_first : (file : ℕ) → file ≡ 0 → IfErr result (λ e. Ends (number_of number disk.first) (steps.Write 0) e now)
      → IfErr answer (λ e. Ends (number_of number (file_at file disk)) (steps.Write file) e calls)
  write_of_first zero is h =
      subst (λ (k : Calls). IfErr answer (λ e. Ends (number_of number disk.first) (steps.Write 0) e k)) (sym same_calls)
      (subst (λ (r : Result T Error). IfErr r (λ e. Ends (number_of number disk.first) (steps.Write 0) e now)) (sym same) h)
  write_of_first (suc n) is h = cc

  pub write_of_second : (file : ℕ) → (file ≡ 0 → ⊥) → IfErr result (λ e. Ends (number_of number disk.second) (steps.Write 0) e now)
      → IfErr answer (λ e. Ends (number_of number (file_at file disk)) (steps.Write file) e calls)
  write_of_second zero is h = absurd (is refl)
  write_of_second (suc n) is h =
      subst (λ (k : Calls). IfErr answer (λ e. Ends (number_of number disk.second) (steps.Write 0) e k)) (sym same_calls)
      (subst (λ (r : Result T Error). IfErr r (λ e. Ends (number_of number disk.second) (steps.Write 0) e now)) (sym same) h)
