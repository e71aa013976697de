-- What a call of a node on its machine came to, in the terms of an event's fates and its stop.
use Rattle.std.specs.Prelude.{ℕ, List, [], ◌∷◌, ◌++◌, ◌+◌, ◌-◌, ◌≡◌, ◌≤◌, ◌<◌, ◌^◌, ◌⊎◌, Bool, true, false, Option, Some, None, drop, length, take}
use Rattle.at_base.specs.declared.event.Local.{Local}
use Rattle.http_post.specs.Conversations.{said, unsaid}
use Rattle.memory_net.specs.Calls.{Requests, Turns}
use Rattle.memory_net.specs.Mails.{Mail, mails_in}
use Rattle.memory_net.specs.declared.host.Host.{Host}
use Rattle.node_at.specs.declared.local.Locally.{Locally}
use Rattle.node_at.specs.declared.local.Locally.TheVariants as answers
use Rattle.node_at.specs.declared.node.Node.{Node}
use Rattle.node_at.specs.declared.shrink.Shrunk.TheVariants.{NoMemory}
use Rattle.node_at.specs.declared.turn.Turned.{Turned}
use Rattle.node_at.specs.declared.turn.Turned.TheVariants as turneds
use Rattle.node_events.specs.NodeEvents.{one_if, struck}
use Rattle.site_memory.specs.Devices.{GoesBack, Leaves, calls_in, opening_in}
use Rattle.site_memory.specs.declared.arm.Choice.{Choice}
use Rattle.site_memory.specs.declared.arm.Choice.TheVariants.{Keep}
use Rattle.site_memory.specs.declared.machine.MemSite.{MemSite}
use Rattle.site_memory.specs.Tells.{reads}
use Rattle.site_model.specs.Told.{Call, Made, failed, sent_by}
use Rattle.torn_appends.specs.TornAppends.{stands_behind}
use Rattle.mirrored_nets.specs.declared.came.Came.{Came}
use Rattle.mirrored_nets.specs.declared.came.Came.TheVariants as cames
use Rattle.mirrored_nets.specs.Fates.{AllDone, AreAsked, disk_part, failures, refusals, sent_of}

-- the calls that it made are these, and no answer or post failed, and no record was refused and no gate left shut, beside those among them; nor
-- both beside one of them
pub record Adds (made : List Made) (old new : MemSite) : Type 0 where
  pub calls : made ≡ drop (length (calls_in old.device)) (calls_in new.device)
  pub counted : new.tally.link ≡ old.tally.link + failures made
  pub uncapped : new.tally.link < 2 ^ 63
  pub refused : new.tally.disk ≤ old.tally.disk + refusals made
  pub below : new.tally.disk < 2 ^ 63
  pub raised : new.tally.gate ≤ old.tally.gate + refusals made
  pub under : new.tally.gate < 2 ^ 63
  pub both : new.tally.disk + new.tally.gate ≤ old.tally.disk + old.tally.gate + refusals made

-- there is room for a record of any length in both files
pub record HasRoom (s : MemSite) : Type 0 where
  pub first : length (reads (opening_in s.device) (calls_in s.device)).first + 1060010 ≤ 4294967295
  pub second : length (reads (opening_in s.device) (calls_in s.device)).second + 1060010 ≤ 4294967295

-- one of them has none
abbrev pub IsFull : MemSite → Type 0
IsFull s = (4293907285 < length (reads (opening_in s.device) (calls_in s.device)).first) ⊎ (4293907285 < length (reads (opening_in s.device) (calls_in s.device)).second)

-- the turn answered a request, and went to its end
abbrev pub IsWhole : Turned → Type 0
IsWhole (turneds.Served status) = status ≡ 0 → ⊥
IsWhole turneds.Ticked = Unit {0}
IsWhole other = ⊥

-- the machine went back to behind so many of these calls, and crashed there
pub record FellBack (old t : MemSite) (kept : ℕ) (choice : Choice) (new : MemSite) : Type 0 where
  pub mid : MemSite
  pub back : GoesBack (length (calls_in old.device) + kept) t.device mid.device
  pub left : Leaves choice mid.device new.device
  pub links : new.links ≡ t.links

-- How many calls are kept at a stop behind so many fates and one more, which is yes or no, of calls all of which were done: of a record's
-- append so many as leave it standing exactly where that is yes; else all of the append's, and then one for each answer and post.
pub record KeptAtRecord (lines : ℕ) (made : List Made) (choice : Choice) (before : ℕ) (last : Bool) (kept : ℕ) : Type 0 where
  pub some : disk_part (drop lines made) ≡ [] → ⊥
  pub first : before ≡ 0
  pub calls : ℕ
  pub most : calls ≤ 4
  pub last_is : last ≡ stands_behind calls choice
  pub are : kept ≡ lines + calls

pub record KeptBehindRecord (lines : ℕ) (made : List Made) (before : ℕ) (last : Bool) (kept : ℕ) : Type 0 where
  pub some : disk_part (drop lines made) ≡ [] → ⊥
  pub least : 1 ≤ before
  pub within : before ≤ length (sent_of (drop lines made))
  pub are : kept ≡ lines + (4 + (before - 1 + one_if last))

pub record KeptAtOut (lines : ℕ) (made : List Made) (before : ℕ) (last : Bool) (kept : ℕ) : Type 0 where
  pub none : disk_part (drop lines made) ≡ []
  pub within : before < length (sent_of (drop lines made))
  pub are : kept ≡ lines + (before + one_if last)

abbrev pub IsKept : (lines : ℕ) → List Made → Choice → (before : ℕ) → (last : Bool) → (kept : ℕ) → Type 0
IsKept lines made choice before last kept =
    KeptAtRecord lines made choice before last kept ⊎ (KeptBehindRecord lines made before last kept ⊎ KeptAtOut lines made before last kept)

-- at a stop in one of its steps
pub record StopsInStep (lines : ℕ) (made : List Made) (choice : Choice) (fates : List Bool) (until : Option ℕ) (kept : ℕ) : Type 0 where
  pub before : ℕ
  pub last : Bool
  pub fates_are : fates ≡ struck before last
  pub until_is : until ≡ Some (before + 1)
  pub is_kept : IsKept lines made choice before last kept

-- at one before its first step
pub record StopsBefore (lines : ℕ) (fates : List Bool) (until : Option ℕ) (kept : ℕ) : Type 0 where
  pub fates_are : fates ≡ []
  pub until_is : until ≡ Some 0
  pub within : kept ≤ lines

-- at the gate's write, which leaves the record absent, or at its sync, which leaves it standing: the last of the calls failed
pub record HaltsSo (lines : ℕ) (made : List Made) (fates : List Bool) (until : Option ℕ) : Type 0 where
  pub stands : Bool
  pub fates_are : fates ≡ stands ∷ []
  pub until_is : until ≡ Some 1
  pub file : ℕ
  pub calls : ((place : ℕ) × (bytes : List ℕ) × (drop (lines + 2) made ≡ failed (Call.Write file place bytes) ∷ []) × (stands ≡ false))
      ⊎ ((drop (lines + 3) made ≡ failed (Call.Sync file) ∷ []) × (stands ≡ true))

-- what the event asks for is what came
abbrev pub ComesTo : Came → (lines : ℕ) → List Made → List Bool → Option ℕ → Type 0
ComesTo cames.Stays lines made fates until = AreAsked lines made fates until
ComesTo (cames.Falls kept choice) lines made fates until = AllDone made × (StopsInStep lines made choice fates until kept ⊎ StopsBefore lines fates until kept)
ComesTo cames.Halts lines made fates until = HaltsSo lines made fates until

-- how many of its calls count
abbrev pub kept_of : Came → List Made → ℕ
kept_of cames.Stays made = length made
kept_of (cames.Falls kept choice) made = kept
kept_of cames.Halts made = length made

-- the host behind it: up on its machine, or down on what a crash left
abbrev pub LeftSo : Came → Node → (old t : MemSite) → Host → Type 0
LeftSo cames.Stays m old t new = (new.node ≡ Some m) × (new.site ≡ t)
LeftSo (cames.Falls kept choice) m old t new = (new.node ≡ None) × FellBack old t kept choice new.site
LeftSo cames.Halts m old t new = (new.node ≡ None) × Leaves Keep t.device new.site.device × (new.site.links ≡ t.links)

-- the turn went to its end, or halted
abbrev pub EndsSo : Came → Turned → Type 0
EndsSo cames.Stays result = IsWhole result
EndsSo (cames.Falls kept choice) result = IsWhole result
EndsSo cames.Halts result = result ≡ turneds.Halted

-- so many calls tried the interim line: where one is to, it was said, or its call failed
abbrev pub IsTriedLine : ℕ → List Made → Type 0
IsTriedLine lines made = ((lines ≡ 0) × (made ≡ [])) ⊎ ((lines ≡ 1) × ((made ≡ said true) ⊎ (made ≡ unsaid)))

-- a turn of a connection that brings these bytes, before whose first step so many calls come
pub record TookTurn (i count lines : ℕ) (bytes : List ℕ) (n : Node) (old : MemSite) (new : Host) (mails more : List Mail) (fates : List Bool) (until : Option ℕ) : Type 0 where
  pub room : HasRoom old
  pub result : Turned
  pub node : Node
  pub site : MemSite
  pub turns : Turns bytes result n node old site
  pub made : List Made
  pub adds : Adds made old site
  -- those that come before the first step tried the interim line
  pub tried : IsTriedLine lines (take lines made)
  pub came : Came
  pub ends : EndsSo came result
  pub comes : ComesTo came lines made fates until
  pub left : LeftSo came node old site new
  -- there was memory at its end, where the journal is written anew
  pub remembers : node.shrunk ≡ NoMemory → ⊥
  pub posted : more ≡ mails ++ mails_in i count (sent_by (take (kept_of came made) made))

-- it was taken, or refused; or the node halted
abbrev pub AnswersSo : Came → Locally → Type 0
AnswersSo cames.Halts answer = answer ≡ answers.Halted
AnswersSo other (answers.Done id) = Unit {0}
AnswersSo other (answers.Refused why) = Unit {0}
AnswersSo other answer = ⊥

-- a request of its program, before whose step no call comes
pub record TookRequest (i count : ℕ) (request : Local) (n : Node) (old : MemSite) (new : Host) (mails more : List Mail) (fates : List Bool) (until : Option ℕ) : Type 0 where
  pub room : HasRoom old
  pub answer : Locally
  pub node : Node
  pub site : MemSite
  pub requests : Requests request answer n node old site
  pub made : List Made
  pub adds : Adds made old site
  pub came : Came
  pub ends : AnswersSo came answer
  pub comes : ComesTo came 0 made fates until
  pub left : LeftSo came node old site new
  pub posted : more ≡ mails ++ mails_in i count (sent_by (take (kept_of came made) made))
