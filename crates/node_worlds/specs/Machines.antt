-- Nets of nodes with the machines that they run on: each machine's files are touched by the calls of its own node alone, and a crash
-- leaves of them what it may.
use Rattle.std.specs.Prelude.{ℕ, List, [], ◌∷◌, ◌++◌, ◌≡◌, ◌<◌, ◌⊎◌, Some, None}
use Rattle.at_base.specs.Numbers.{Numbers}
use Rattle.at_base.specs.declared.event.Event.TheVariants as events
use Rattle.at_base.specs.declared.event.Local.{Local}
use Rattle.at_base.specs.declared.outs.Post.{Post}
use Rattle.at_model.specs.Recovery.{last_incarnation}
use Rattle.at_model.specs.Step.{plan}
use Rattle.at_model.specs.World.{nth, Hosts, HaveOwnAddresses}
use Rattle.site_model.specs.Told.{Told, Files, Is, Made, Between, Within}
use Rattle.node_at.specs.Doings.{Doing}
use Rattle.node_at.specs.Endings.{TakesTurn}
use Rattle.node_at.specs.Locals.{Asked}
use Rattle.node_at.specs.StartedNodes.{IsStarted}
use Rattle.node_at.specs.Starts.{CannotStart, start_after}
use Rattle.node_at.specs.State.{State}
use Rattle.node_at.specs.Steps.{if_landed}
use Rattle.node_at.specs.TurnText.{IsStep, TurnStep}
use Rattle.node_at.specs.declared.fault.StartFault.{StartFault}
use Rattle.node_at.specs.declared.local.Locally.{Locally}
use Rattle.node_at.specs.declared.local.Locally.TheVariants as answers
use Rattle.node_at.specs.declared.role.Role.{Role}
use Rattle.node_at.specs.declared.shrink.Shrunk.{Shrunk}
use Rattle.node_at.specs.declared.turn.Turned.{Turned}
use Rattle.node_at.specs.declared.turn.Turned.TheVariants as turneds
use Rattle.node_worlds.specs.Agreement.{IsAgreedNet}
use Rattle.node_worlds.specs.Nets.{Brings, IsOpened, Net, Place, Runs, after, begun_in, broken, doings_in, new_net, rested, steps_in, with_start, with_started, without}
use Rattle.node_worlds.specs.Restarts.{StandsFor}
use Rattle.node_worlds.specs.SentPosts.{AreSent, Sent, accepted_along, accepted_between, recorded, records_by}

-- a machine that comes up on these files: reads give them, and a crash leaves them
pub record IsOn (c : Files) (s : Told) : Type 0 where
  pub files : Is s.files c
  pub images : (d : Files) → s.images d → d ≡ c

-- at one moment of the calls that lead from one machine to the other, a crash leaves these files
pub record IsLeft (old new : Told) (l : List Made) (c : Files) : Type 0 where
  pub between : Between old new l
  pub past : new.past l c

-- neither the files change nor what a crash leaves of them; connections come, and time passes
pub record IsLeftAlone (old new : Told) : Type 0 where
  pub files : new.files ≡ old.files
  pub images : Within old.images new.images

-- one machine goes on to this one, and the others stay
pub record Goes {S : Type 0} (i : ℕ) (t : S) (before behind : ℕ → S) : Type 0 where
  pub this : behind i ≡ t
  pub others : (j : ℕ) → (j ≡ i → ⊥) → behind j ≡ before j

-- a start, whether the node starts or not
abbrev pub Begins : List ℕ → ℕ → Told → Told → Type 0
Begins base limit old new = ((n : State) × IsStarted base limit n old new) ⊎ ((e : StartFault) × CannotStart e limit old new)

-- A crash in a call of a node left these files, with which its machine comes up.
pub record Crashes {S : Type 0} (told : S → Told) (i : ℕ) (t s : S) (l : List Made) (c : Files) (before behind : ℕ → S) : Type 0 where
  pub left : IsLeft (told (before i)) (told t) l c
  pub on : IsOn c (told s)
  pub goes : Goes i s before behind

-- What nodes that serve can come to on machines whose files they alone touch. Nothing is asked of files but that they are empty at the
-- beginning, and that a machine whose node starts tells them.
pub data RunsOn {S : Type 0} (told : S → Told) (hosts : Hosts) : Net → (ℕ → S) → Type 0 where
  opened : {w : Net} {ms : ℕ → S} → w ≡ new_net hosts → ((i : ℕ) → IsOn (record { first = []; second = [] }) (told (ms i))) → RunsOn told hosts w ms
  -- between calls
  waited : {w : Net} {ms : ℕ → S} (ls : ℕ → S) → RunsOn told hosts w ls → ((i : ℕ) → IsLeftAlone (told (ls i)) (told (ms i))) → RunsOn told hosts w ms
  -- a node starts under its base
  started : {w : Net} {ms : ℕ → S} (u : Net) (ls : ℕ → S) (i : ℕ) (p : Place) (n : State) (limit : ℕ) (t : S) (f : Files) → RunsOn told hosts u ls
      → nth i u.places ≡ Some p → p.node ≡ None → Is (told (ls i)).files f → IsStarted (hosts.base_of i) limit n (told (ls i)) (told t) → Goes i t ls ms
      → w ≡ with_started i u p n → RunsOn told hosts w ms
  -- It fails to, or is cut off, and its Start doesn't stand, or it does.
  start_cut_off : {w : Net} {ms : ℕ → S} (u : Net) (ls : ℕ → S) (i : ℕ) (p : Place) (limit : ℕ) (t s : S) (l : List Made) (c f : Files) → RunsOn told hosts u ls
      → nth i u.places ≡ Some p → p.node ≡ None → Is (told (ls i)).files f → Begins (hosts.base_of i) limit (told (ls i)) (told t) → Crashes told i t s l c ls ms
      → StandsFor p.records c → w ≡ u → RunsOn told hosts w ms
  start_recorded : {w : Net} {ms : ℕ → S} (u : Net) (ls : ℕ → S) (i : ℕ) (p : Place) (limit : ℕ) (t s : S) (l : List Made) (c f : Files) → RunsOn told hosts u ls
      → nth i u.places ≡ Some p → p.node ≡ None → Is (told (ls i)).files f → Begins (hosts.base_of i) limit (told (ls i)) (told t) → Crashes told i t s l c ls ms
      → last_incarnation p.records < 4294967295 → StandsFor (p.records ++ start_after p.records ∷ []) c → w ≡ with_start i u p → RunsOn told hosts w ms
  -- it takes a turn, and doesn't halt
  turned : {w : Net} {ms : ℕ → S} (u : Net) (ls : ℕ → S) (i : ℕ) (p : Place) (n m : State) (result : Turned) (role : Role) (shrunk : Shrunk) (t : S) (ps : List Post) → RunsOn told hosts u ls
      → nth i u.places ≡ Some p → p.node ≡ Some n → (turn : TakesTurn told result role shrunk n m (ls i) t) → (result ≡ turneds.Halted → ⊥)
      → (IsOpened turn.first → Brings hosts u i role (told (ls i)))
      → AreSent (steps_in turn.first role n turn.node (told (ls i)) (told turn.behind) turn.steps) (doings_in turn.first role n turn.node (told (ls i)) (told turn.behind) turn.steps) ps
      → Goes i t ls ms
      → w ≡ after hosts i u p m (recorded (steps_in turn.first role n turn.node (told (ls i)) (told turn.behind) turn.steps)) ps
      (accepted_along hosts i n.book (steps_in turn.first role n turn.node (told (ls i)) (told turn.behind) turn.steps))
      → RunsOn told hosts w ms
  -- it does what its program requests
  asked : {w : Net} {ms : ℕ → S} (u : Net) (ls : ℕ → S) (i : ℕ) (p : Place) (n m : State) (id : Numbers) (l : Local) (t : S) (ps : List Post) → RunsOn told hosts u ls
      → nth i u.places ≡ Some p → p.node ≡ Some n → (done : Asked (answers.Done id) n m l (told (ls i)) (told t)) → Sent done.3.3.leaving done.3.3.went.made ps
      → Goes i t ls ms
      → w ≡ after hosts i u p m (records_by (if_landed done.3.3.landed (plan n.book (events.Local l) done.3.0).entry)) ps (accepted_between hosts i n.book m.book)
      → RunsOn told hosts w ms
  -- A turn is cut off, or it halts: the first of its steps were done, as the files say that the crash left, and some of what they post
  -- was sent.
  cut_off : {w : Net} {ms : ℕ → S} (u : Net) (ls : ℕ → S) (i : ℕ) (p : Place) (n m : State) (result : Turned) (role : Role) (shrunk : Shrunk) (t s : S) (l : List Made) (c : Files)
      (front rest : List TurnStep) (doings : List Doing) (ps : List Post) → RunsOn told hosts u ls → nth i u.places ≡ Some p → p.node ≡ Some n
      → (turn : TakesTurn told result role shrunk n m (ls i) t) → (IsOpened turn.first → Brings hosts u i role (told (ls i))) → Crashes told i t s l c ls ms
      → begun_in turn.first role n turn.node (told (ls i)) (told turn.behind) turn.steps ≡ front ++ rest → AreSent front doings ps → StandsFor (p.records ++ recorded front) c
      → w ≡ broken hosts i u p n front ps → RunsOn told hosts w ms
  -- a request is cut off before its step, or behind its record, which stands or doesn't
  asked_cut_off : {w : Net} {ms : ℕ → S} (u : Net) (ls : ℕ → S) (i : ℕ) (p : Place) (n m : State) (answer : Locally) (l : Local) (t s : S) (made : List Made) (c : Files) (now : ℕ)
      (step : TurnStep) (doing : Doing) (ps : List Post) → RunsOn told hosts u ls → nth i u.places ≡ Some p → p.node ≡ Some n → Asked answer n m l (told (ls i)) (told t)
      → Crashes told i t s made c ls ms → IsStep n.book (events.Local l) now step → Sent step.leaving doing.made ps
      → StandsFor (p.records ++ records_by (if_landed step.landed step.entry)) c → w ≡ broken hosts i u p n (step ∷ []) ps → RunsOn told hosts w ms
  asked_undone : {w : Net} {ms : ℕ → S} (u : Net) (ls : ℕ → S) (i : ℕ) (p : Place) (n m : State) (answer : Locally) (l : Local) (t s : S) (made : List Made) (c : Files) → RunsOn told hosts u ls
      → nth i u.places ≡ Some p → p.node ≡ Some n → Asked answer n m l (told (ls i)) (told t) → Crashes told i t s made c ls ms → StandsFor p.records c
      → w ≡ without i u p n → RunsOn told hosts w ms
  -- a call does nothing
  idled : {w : Net} {ms : ℕ → S} (u : Net) (i : ℕ) (p : Place) (n : State) → RunsOn told hosts u ms → nth i u.places ≡ Some p → p.node ≡ Some n → w ≡ rested i u p n → RunsOn told hosts w ms
  -- it ends
  ended : {w : Net} {ms : ℕ → S} (u : Net) (i : ℕ) (p : Place) (n : State) → RunsOn told hosts u ms → nth i u.places ≡ Some p → p.node ≡ Some n → w ≡ without i u p n → RunsOn told hosts w ms
  -- a machine crashes between calls on which no node runs
  crashed : {w : Net} {ms : ℕ → S} (ls : ℕ → S) (i : ℕ) (s : S) (p : Place) (c : Files) → RunsOn told hosts w ls → nth i w.places ≡ Some p → p.node ≡ None
      → (told (ls i)).images c → IsOn c (told s) → Goes i s ls ms → RunsOn told hosts w ms

-- They are nets as they are without machines: each start meets files that stand for what its journal was told to hold.
abbrev pub RunsOnMachines : {S : Type 0} → (S → Told) → Type 0
RunsOnMachines {S} told = (hosts : Hosts) (net : Net) (ms : ℕ → S) → RunsOn told hosts net ms → Runs told hosts net

-- and so they agree
abbrev pub MachinesAgree : {S : Type 0} → (S → Told) → Type 0
MachinesAgree {S} told = (hosts : Hosts) (net : Net) (ms : ℕ → S) → HaveOwnAddresses hosts → RunsOn told hosts net ms → IsAgreedNet hosts net
