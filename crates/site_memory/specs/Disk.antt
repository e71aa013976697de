-- The disk of a machine in memory, file by file, and what a crash may leave of it.
use Rattle.std.specs.Prelude.{ℕ, List, Bool, true, false, [], ◌∷◌, refl, ◌≡◌, ◌+◌, ◌++◌, max, length, zero, suc, cond, replicate}
use Rattle.site_model.specs.Told.{Call, Made, Files, Torn, written, done, failed}
use Rattle.site_model.specs.Told.Call.{Write, Sync, Send, Post}
use Rattle.site_memory.specs.declared.range.Range.{Range}
use Rattle.site_memory.specs.declared.range.Which.{Which}
use Rattle.site_memory.specs.declared.range.Which.TheVariants.{First, Second}
use Rattle.site_memory.specs.declared.arm.Choice.{Choice}
use Rattle.site_memory.specs.declared.arm.Choice.TheVariants.{Keep, Drop, Fill}

-- one file: what is there for certain, what reads give, and the ranges that a crash may leave as anything
pub record Disk : Type 0 where
  pub stable : List ℕ
  pub seen : List ℕ
  pub pending : List Range

abbrev pub opened : List ℕ → Disk
opened f = record { stable = f; seen = f; pending = [] }

-- reads see no failed write, but its range is pending
abbrev pub after_write : ℕ → List ℕ → Bool → Disk → Disk
after_write at bytes done d =
    record { stable = d.stable; seen = cond done (written at bytes d.seen) d.seen; pending = d.pending ++ record { at = at; len = length bytes } ∷ [] }

-- a failed sync settles nothing
abbrev pub after_sync : Bool → Disk → Disk
after_sync true d = opened d.seen
after_sync false d = d

-- file 0 is the first, any other number the second
abbrev pub which_of : ℕ → Which
which_of zero = First
which_of (suc n) = Second

abbrev pub same : Which → Which → Bool
same First First = true
same First Second = false
same Second First = false
same Second Second = true

abbrev pub after_call : Which → Disk → Call → Bool → Disk
after_call which d (Write g at bytes) done = cond (same which (which_of g)) (after_write at bytes done d) d
after_call which d (Sync g) done = cond (same which (which_of g)) (after_sync done d) d
after_call which d (Send bytes) done = d
after_call which d (Post host port bytes) done = d

abbrev pub run : Which → Disk → List Made → Disk
run which d [] = d
run which d (made ∷ rest) = run which (after_call which d made.call made.done) rest

abbrev pub file_in : Which → Files → List ℕ
file_in First files = files.first
file_in Second files = files.second

abbrev pub disk : Which → Files → List Made → Disk
disk which opening log = run which (opened (file_in which opening)) log

abbrev pub TornAt : ℕ → ℕ → (List ℕ → Type 0) → List ℕ → Type 0
TornAt at n from c = (d : List ℕ) × from d × Torn at n d c

-- each range, in order, may be torn
abbrev pub torn_by : (List ℕ → Type 0) → List Range → List ℕ → Type 0
torn_by from [] = from
torn_by from (r ∷ rs) = torn_by (TornAt r.at r.len from) rs

abbrev pub MayBe : Disk → List ℕ → Type 0
MayBe d c = torn_by (λ f. f ≡ d.stable) d.pending c

-- where the last of them ends
abbrev pub end_of : List Range → ℕ
end_of [] = 0
end_of (r ∷ rs) = max (r.at + r.len) (end_of rs)

-- a crash leaves one image of the pair
abbrev pub Image : Files → List Made → Files → Type 0
Image opening log c = MayBe (disk First opening log) c.first × MayBe (disk Second opening log) c.second

-- each pending byte is that one
abbrev pub filled : ℕ → List ℕ → List Range → List ℕ
filled b f [] = f
filled b f (r ∷ rs) = filled b (written r.at (replicate r.len b) f) rs

-- what a chosen crash leaves of a file
abbrev pub chosen : Choice → Disk → List ℕ
chosen Keep d = d.seen
chosen Drop d = d.stable
chosen (Fill b) d = filled b d.stable d.pending

-- of both files
abbrev pub chosen_files : Choice → Files → List Made → Files
chosen_files choice opening log = record { first = chosen choice (disk First opening log); second = chosen choice (disk Second opening log) }

-- it is one of those that a crash may leave
abbrev pub ChosenAreImages : Type 0
ChosenAreImages = (choice : Choice) (opening : Files) (log : List Made) → Image opening log (chosen_files choice opening log)

pub a_failed_write_is_filled : chosen (Fill 7) (disk First (record { first = 1 ∷ []; second = [] }) (failed (Write 0 1 (5 ∷ 6 ∷ [])) ∷ done (Write 1 0 (9 ∷ [])) ∷ [])) ≡ 1 ∷ 7 ∷ 7 ∷ []
a_failed_write_is_filled = refl
