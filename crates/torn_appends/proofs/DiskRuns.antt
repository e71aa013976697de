-- What a row of calls does to a file, and what is chosen of it.
use Rattle.std.specs.Prelude.{ℕ, List, Bool, zero, suc, [], ◌∷◌, ◌++◌, ◌≡◌, replicate}
use Rattle.std.specs.List.{AllByRecursion}
use Rattle.std.proofs.Common.{refl, ap, ◌∙◌}
use Rattle.site_model.specs.Told.{Call, Made, Files, file_of, other_than, written}
use Rattle.site_model.specs.Told.Call.{Write, Sync, Send, Post}
use Rattle.site_memory.specs.Disk.{Disk, after_call, chosen, chosen_files, disk, filled, run, which_of}
use Rattle.site_memory.specs.declared.arm.Choice.{Choice}
use Rattle.site_memory.specs.declared.range.Range.{Range}
use Rattle.site_memory.specs.declared.range.Which.{Which}
use Rattle.site_memory.specs.declared.range.Which.TheVariants.{First, Second}
use Rattle.torn_appends.specs.TornAppends.{IsSending, TouchesNone}

-- the file that isn't live
abbrev pub beside_of : ℕ → Which
beside_of zero = Second
beside_of (suc n) = First

pub live_chosen : (live : ℕ) (choice : Choice) (opening : Files) (log : List Made) → file_of live (chosen_files choice opening log) ≡ chosen choice (disk (which_of live) opening log)
live_chosen zero choice opening log = refl
live_chosen (suc n) choice opening log = refl

pub other_chosen : (live : ℕ) (choice : Choice) (opening : Files) (log : List Made) → other_than live (chosen_files choice opening log) ≡ chosen choice (disk (beside_of live) opening log)
other_chosen zero choice opening log = refl
other_chosen (suc n) choice opening log = refl

pub run_on : (which : Which) (d : Disk) (log made : List Made) → run which d (log ++ made) ≡ run which (run which d log) made
run_on which d [] made = refl
run_on which d (m ∷ log) made = run_on which (after_call which d m.call m.done) log made

pub filled_on : (b : ℕ) (f : List ℕ) (rs : List Range) (r : Range) → filled b f (rs ++ r ∷ []) ≡ written r.at (replicate r.len b) (filled b f rs)
filled_on b f [] r = refl
filled_on b f (s ∷ rs) r = filled_on b (written s.at (replicate s.len b) f) rs r

untouched : (which : Which) (d : Disk) (call : Call) (b : Bool) → TouchesNone call → after_call which d call b ≡ d
untouched which d (Write file at bytes) b none = absurd none
untouched which d (Sync file) b none = absurd none
untouched which d (Send bytes) b none = refl
untouched which d (Post host port bytes) b none = refl

pub sendings : (which : Which) (d : Disk) (rest : List Made) → AllByRecursion IsSending rest → run which d rest ≡ d
sendings which d [] all = refl
sendings which d (m ∷ rest) all = ap (λ z. run which z rest) (untouched which d m.call m.done all.0) ∙ sendings which d rest all.1
