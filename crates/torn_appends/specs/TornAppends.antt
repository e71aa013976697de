-- What a machine in memory leaves of a journal's files where it stops at a call of an append, or where such a call fails and the
-- machine is opened anew.
use Rattle.std.specs.Prelude.{ℕ, List, [], ◌∷◌, ◌++◌, Bool, true, false, ◌&&◌, ◌≡◌, ◌≤◌, ◌⊎◌, if◌then◌else◌, map, nat_eq, nat_le, zero, suc}
use Rattle.std.specs.List.{AllByRecursion}
use Rattle.journal_at.specs.Pairs.{Holds}
use Rattle.journal_at.specs.StandingBodies.{Keeps, MayFollow, lay, raise}
use Rattle.journal_at.specs.declared.journal.Journal.{Journal}
use Rattle.site_memory.specs.Devices.{calls_in, opening_in}
use Rattle.site_memory.specs.Disk.{chosen_files}
use Rattle.site_memory.specs.Sites.{told_of}
use Rattle.site_memory.specs.declared.arm.Choice.{Choice}
use Rattle.site_memory.specs.declared.arm.Choice.TheVariants.{Keep, Drop, Fill}
use Rattle.site_memory.specs.declared.machine.MemSite.{MemSite}
use Rattle.site_model.specs.Told.{Call, Made, done}
use Rattle.site_model.specs.Told.Call.{Write, Sync, Send, Post}

-- an append's four calls: its body is written and synced, and then its gate
abbrev pub append_calls : Journal → List ℕ → List Call
append_calls journal body = lay journal.live journal.end body ++ raise journal.live journal.end

-- The first calls, up to the k-th: those before it were done, and it was or wasn't.
abbrev pub up_to : ℕ → Bool → List Call → List Made
up_to zero last calls = []
up_to (suc k) last [] = []
up_to (suc zero) last (c ∷ cs) = record { call = c; done = last } ∷ []
up_to (suc (suc k)) last (c ∷ cs) = done c ∷ up_to (suc k) last cs

-- whether a stop leaves a gate raised whose write isn't synced
abbrev pub gate_stands : Choice → Bool
gate_stands Keep = true
gate_stands Drop = false
gate_stands (Fill byte) = nat_eq byte 1

-- whether the body stands behind a crash that comes behind so many of the calls, all of which were done
abbrev pub stands_behind : ℕ → Choice → Bool
stands_behind n choice = if nat_le 4 n then true else (nat_le 3 n && gate_stands choice)

-- these, with the body or without it
abbrev pub with_body : Bool → List (List ℕ) → List ℕ → List (List ℕ)
with_body true bodies body = bodies ++ body ∷ []
with_body false bodies body = bodies

-- it touches no file
abbrev pub TouchesNone : Call → Type 0
TouchesNone (Write file at bytes) = ⊥
TouchesNone (Sync file) = ⊥
TouchesNone (Send bytes) = Unit {0}
TouchesNone (Post host port bytes) = Unit {0}

abbrev pub IsSending : Made → Type 0
IsSending made = TouchesNone made.call

-- the machine's journal holds these bodies, and one may follow
pub record MayAppend (journal : Journal) (bodies : List (List ℕ)) (body : List ℕ) (s : MemSite) : Type 0 where
  pub keeps : Keeps journal bodies (told_of s)
  pub follows : MayFollow bodies body

pub record AppendsTorn : Type 0 where
  -- a crash behind the first of them
  pub stopped : (journal : Journal) (bodies : List (List ℕ)) (body : List ℕ) (s : MemSite) (n : ℕ) (choice : Choice) → MayAppend journal bodies body s → n ≤ 4
      → Holds journal.live (with_body (stands_behind n choice) bodies body)
      (chosen_files choice (opening_in s.device) (calls_in s.device ++ up_to n true (append_calls journal body)))
  -- the gate's write or its sync fails, and the files are as they read
  pub halted : (journal : Journal) (bodies : List (List ℕ)) (body : List ℕ) (s : MemSite) (k : ℕ) → MayAppend journal bodies body s → (k ≡ 3) ⊎ (k ≡ 4)
      → Holds journal.live (with_body (nat_eq k 4) bodies body)
      (chosen_files Keep (opening_in s.device) (calls_in s.device ++ up_to k false (append_calls journal body)))
  -- all four were done, and then nothing but answers and posts came
  pub appended : (journal : Journal) (bodies : List (List ℕ)) (body : List ℕ) (s : MemSite) (rest : List Made) (choice : Choice) → MayAppend journal bodies body s → AllByRecursion IsSending rest
      → Holds journal.live (bodies ++ body ∷ [])
      (chosen_files choice (opening_in s.device) (calls_in s.device ++ (map done (append_calls journal body) ++ rest)))
  -- nothing but answers and posts came
  pub untouched : (journal : Journal) (bodies : List (List ℕ)) (s : MemSite) (rest : List Made) (choice : Choice) → Keeps journal bodies (told_of s) → AllByRecursion IsSending rest
      → Holds journal.live bodies (chosen_files choice (opening_in s.device) (calls_in s.device ++ rest))
