-- What the calls that a node made in one event come to, of which one was armed: what became of the node, and the fates and the stop of its event.
use Rattle.std.specs.Prelude.{ℕ, List, [], ◌∷◌, ◌++◌, ◌-◌, ◌≡◌, ◌≤◌, ◌<◌, ◌⊎◌, Bool, true, false, Option, Some, None, drop, if◌then◌else◌, length, nat_le, suc}
use Rattle.node_at.specs.declared.local.Locally.{Locally}
use Rattle.node_at.specs.declared.turn.Turned.{Turned}
use Rattle.site_memory.specs.declared.arm.Choice.{Choice}
use Rattle.site_memory.specs.ToldCalls.{AreArmed}
use Rattle.site_model.specs.Told.{Made}
use Rattle.mirrored_nets.specs.Fates.{AllDone, anew_of, disk_part, fates_in}
use Rattle.mirrored_nets.specs.Kept.{kept_at}
use Rattle.mirrored_nets.specs.Took.{AnswersSo, EndsSo, HaltsSo, StopsBefore, StopsInStep}
use Rattle.mirrored_nets.specs.AnewCalls.{before_anew}
use Rattle.mirrored_nets.specs.declared.came.Came.{Came}
use Rattle.mirrored_nets.specs.declared.came.Came.TheVariants as cames
use Rattle.mirrored_nets.specs.declared.armed.Armed.{Armed}
use Rattle.mirrored_nets.specs.declared.armed.Armed.TheVariants as calls
use Rattle.call_readings.specs.declared.became.Became.{Became}
use Rattle.call_readings.specs.declared.became.Became.TheVariants.{Stays, Falls, Halts, FallsAnew, HaltsAnew}

-- Each fate behind the last of a list is yes, so those at its end are not named.
abbrev pub led_by : Bool → List Bool → List Bool
led_by true [] = []
led_by true (f ∷ fates) = true ∷ f ∷ fates
led_by false fates = false ∷ fates

abbrev pub named : List Bool → List Bool
named [] = []
named (f ∷ fates) = led_by f (named fates)

-- The fates that these calls had, behind so many that have none.
abbrev pub read_fates : (lines : ℕ) → List Made → List Bool
read_fates lines made = named (fates_in (drop lines made))

-- The number, from 1, of the fate that the k-th of calls has: the four of a record's append have the first, if they come, and each answer and
-- post behind them has one of its own.
abbrev pub fate_behind : (append : List Made) → (k : ℕ) → ℕ
fate_behind [] k = k
fate_behind (m ∷ append) k = suc (k - 4)

-- The same behind so many that have none, which count as before the first.
abbrev pub fate_number : (lines : ℕ) → List Made → (k : ℕ) → ℕ
fate_number lines made k = if nat_le k lines then 0 else fate_behind (disk_part (drop lines made)) (k - lines)

-- The machine was to stop at the k-th of these calls, and it came; so many are kept.
pub record IsCutAt (armed : Armed) (made : List Made) (k kept : ℕ) (choice : Choice) : Type 0 where
  pub armed_is : armed ≡ calls.Stop k choice
  pub least : 1 ≤ k
  pub within : k ≤ length made
  pub kept_is : kept ≡ kept_at made k choice

-- It is one of the calls of the steps, or one before them, and the stop is at its fate.
pub record IsCutInSteps (armed : Armed) (lines : ℕ) (made : List Made) (kept : ℕ) (choice : Choice) (until : Option ℕ) : Type 0 where
  pub k : ℕ
  pub cut : IsCutAt armed made k kept choice
  pub most : k ≤ before_anew lines made
  pub until_is : until ≡ Some (fate_number lines made k)

-- It is one of the calls behind the steps, by which the journal is written anew.
pub record IsCutAnew (armed : Armed) (lines : ℕ) (made : List Made) (kept : ℕ) (choice : Choice) : Type 0 where
  pub k : ℕ
  pub cut : IsCutAt armed made k kept choice
  pub behind : before_anew lines made < k

-- No call came at which the machine was to stop.
abbrev pub IsUncut : Armed → List Made → Type 0
IsUncut calls.No made = Unit {0}
IsUncut (calls.Fail k) made = Unit {0}
IsUncut (calls.Stop k choice) made = (k ≡ 0) ⊎ (length made < k)

-- the call that is to fail, counted from 1, or 0
abbrev pub failing_call : Armed → ℕ
failing_call calls.No = 0
failing_call (calls.Fail k) = k
failing_call (calls.Stop k choice) = 0

-- one is armed to fail
abbrev pub IsFailing : Armed → Type 0
IsFailing armed = (k : ℕ) × (armed ≡ calls.Fail k)

-- of these calls the last one failed, and no other
pub record FailsLast (made : List Made) : Type 0 where
  pub front : List Made
  pub last : Made
  pub all : made ≡ front ++ last ∷ []
  pub done : AllDone front
  pub fails : last.done ≡ false

-- What so many calls without a fate, and those behind them, come to: of a record's append, answers and posts, and calls by which the journal is
-- written anew.
abbrev pub ReadsAs : Armed → (lines : ℕ) → List Made → Became → List Bool → Option ℕ → Type 0
-- its steps went to their end; and the journal was written anew, or not, or the last call for that failed and left it as it was
ReadsAs armed lines made Stays fates until =
    IsUncut armed made × (AllDone (anew_of (drop lines made)) ⊎ FailsLast (anew_of (drop lines made))) × (fates ≡ read_fates lines made) × (until ≡ None)
-- all were done, and the machine goes back to the armed one
ReadsAs armed lines made (Falls kept choice) fates until =
    AllDone made × IsCutInSteps armed lines made kept choice until × (StopsInStep lines made choice fates until kept ⊎ StopsBefore lines fates until kept)
-- a call of a record's gate failed, and none came behind it
ReadsAs armed lines made Halts fates until = IsFailing armed × HaltsSo lines made fates until × (anew_of (drop lines made) ≡ [])
ReadsAs armed lines made (FallsAnew kept choice) fates until = AllDone made × IsCutAnew armed lines made kept choice × (fates ≡ []) × (until ≡ None)
-- a call of a first gate failed
ReadsAs armed lines made HaltsAnew fates until = IsFailing armed × FailsLast (anew_of (drop lines made)) × (fates ≡ read_fates lines made) × (until ≡ None)

-- The calls of an event, of which this one was armed: all were done but that, where it is to fail.
pub record Reads (armed : Armed) (lines : ℕ) (made : List Made) (became : Became) (fates : List Bool) (until : Option ℕ) : Type 0 where
  pub failed : AreArmed 0 (failing_call armed) made
  pub are : ReadsAs armed lines made became fates until

-- What became of the node, but for where.
abbrev pub came_to : Became → Came
came_to Stays = cames.Stays
came_to (Falls kept choice) = cames.Falls kept choice
came_to Halts = cames.Halts
came_to (FallsAnew kept choice) = cames.Falls kept choice
came_to HaltsAnew = cames.Halts

-- it halted
abbrev pub is_halted : Became → Bool
is_halted Stays = false
is_halted (Falls kept choice) = false
is_halted Halts = true
is_halted (FallsAnew kept choice) = false
is_halted HaltsAnew = true

-- The calls are read so, of a turn that came to this.
pub record ReadsTurn (armed : Armed) (lines : ℕ) (made : List Made) (result : Turned) : Type 0 where
  pub became : Became
  pub fates : List Bool
  pub until : Option ℕ
  pub reads : Reads armed lines made became fates until
  pub ends : EndsSo (came_to became) result

-- Of a request, before whose step no call comes, and behind which the journal isn't written anew.
abbrev pub IsOfSteps : Became → Type 0
IsOfSteps Stays = Unit {0}
IsOfSteps (Falls kept choice) = Unit {0}
IsOfSteps Halts = Unit {0}
IsOfSteps (FallsAnew kept choice) = ⊥
IsOfSteps HaltsAnew = ⊥

pub record ReadsRequest (armed : Armed) (made : List Made) (answer : Locally) : Type 0 where
  pub became : Became
  pub fates : List Bool
  pub until : Option ℕ
  pub reads : Reads armed 0 made became fates until
  pub ends : AnswersSo (came_to became) answer
  pub of_steps : IsOfSteps became
