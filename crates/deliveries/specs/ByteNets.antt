-- Nets of nodes on machines over a network that carries bytes: what comes on a connection are the bytes by which some node posted a
-- message to this one, however often and in whatever order, or bytes that are no message.
use Rattle.std.specs.Prelude.{ℕ, List, [], ◌∷◌, ◌++◌, ◌≡◌, ◌<◌, ◌⊎◌, Some, None}
use Rattle.at_base.specs.Numbers.{Numbers}
use Rattle.at_base.specs.declared.event.Arrived.{Arrived}
use Rattle.at_base.specs.declared.event.Event.TheVariants as events
use Rattle.at_base.specs.declared.event.Local.{Local}
use Rattle.at_base.specs.declared.outs.Post.{Post}
use Rattle.at_model.specs.Recovery.{last_incarnation}
use Rattle.at_model.specs.Step.{plan}
use Rattle.at_model.specs.World.{HaveOwnAddresses, Hosts, nth}
use Rattle.deliverables.specs.Deliverables.{deliverable}
use Rattle.deliveries.specs.DeliverableNets.{AreNodeHosts, IsDeliverableNet}
use Rattle.deliveries.specs.Deliveries.{IsCarried}
use Rattle.node_at.specs.Doings.{Doing}
use Rattle.node_at.specs.Endings.{TakesTurn}
use Rattle.node_at.specs.Locals.{Asked}
use Rattle.node_at.specs.Meanings.{Means, next_input}
use Rattle.node_at.specs.Meanings.Meaning.{Steps}
use Rattle.node_at.specs.StartedNodes.{IsStarted}
use Rattle.node_at.specs.Starts.{start_after}
use Rattle.node_at.specs.State.{State}
use Rattle.node_at.specs.Steps.{if_landed}
use Rattle.node_at.specs.TurnText.{IsStep, TurnStep}
use Rattle.node_at.specs.declared.local.Locally.{Locally}
use Rattle.node_at.specs.declared.local.Locally.TheVariants as answers
use Rattle.node_at.specs.declared.role.Role.{Role}
use Rattle.node_at.specs.declared.shrink.Shrunk.{Shrunk}
use Rattle.node_at.specs.declared.turn.Turned.{Turned}
use Rattle.node_at.specs.declared.turn.Turned.TheVariants as turneds
use Rattle.node_worlds.specs.Agreement.{IsAgreedNet}
use Rattle.node_worlds.specs.Machines.{Begins, Crashes, Goes, IsLeftAlone, IsOn, RunsOn}
use Rattle.node_worlds.specs.Nets.{IsOpened, Net, Place, after, begun_in, broken, doings_in, new_net, rested, steps_in, with_start, with_started, without}
use Rattle.node_worlds.specs.Restarts.{StandsFor}
use Rattle.node_worlds.specs.SentPosts.{AreSent, Sent, accepted_along, accepted_between, recorded, records_by}
use Rattle.provenance.specs.Forms.{IsLocal}
use Rattle.site_model.specs.Told.{Files, Is, Made, Told}

-- a node of that role takes no message of them
abbrev pub IsNoMessage : Role → List ℕ → Type 0
IsNoMessage role input = (a : Arrived) → Means role input (Steps (events.Arrived a)) → ⊥

-- the machine tells what the connection that is opened next brings
pub record Carries (hosts : Hosts) (net : Net) (i : ℕ) (role : Role) (s : Told) : Type 0 where
  pub input : List ℕ
  pub tells : next_input s.link ≡ Some input
  pub carried : IsCarried hosts net i input ⊎ IsNoMessage role input

-- What such nodes can come to, each by the contract of the call that it does; their programs ask for what can be delivered.
pub data Serves {S : Type 0} (told : S → Told) (hosts : Hosts) : Net → (ℕ → S) → Type 0 where
  opened : {w : Net} {ms : ℕ → S} → w ≡ new_net hosts → ((i : ℕ) → IsOn (record { first = []; second = [] }) (told (ms i))) → Serves told hosts w ms
  -- between calls
  waited : {w : Net} {ms : ℕ → S} (ls : ℕ → S) → Serves told hosts w ls → ((i : ℕ) → IsLeftAlone (told (ls i)) (told (ms i))) → Serves told hosts w ms
  -- a node starts under its base
  started : {w : Net} {ms : ℕ → S} (u : Net) (ls : ℕ → S) (i : ℕ) (p : Place) (n : State) (limit : ℕ) (t : S) (f : Files) → Serves told hosts u ls
      → nth i u.places ≡ Some p → p.node ≡ None → Is (told (ls i)).files f → IsStarted (hosts.base_of i) limit n (told (ls i)) (told t) → Goes i t ls ms
      → w ≡ with_started i u p n → Serves told hosts w ms
  -- It fails to, or is cut off, and its Start doesn't stand, or it does.
  start_cut_off : {w : Net} {ms : ℕ → S} (u : Net) (ls : ℕ → S) (i : ℕ) (p : Place) (limit : ℕ) (t s : S) (l : List Made) (c f : Files) → Serves told hosts u ls
      → nth i u.places ≡ Some p → p.node ≡ None → Is (told (ls i)).files f → Begins (hosts.base_of i) limit (told (ls i)) (told t) → Crashes told i t s l c ls ms
      → StandsFor p.records c → w ≡ u → Serves told hosts w ms
  start_recorded : {w : Net} {ms : ℕ → S} (u : Net) (ls : ℕ → S) (i : ℕ) (p : Place) (limit : ℕ) (t s : S) (l : List Made) (c f : Files) → Serves told hosts u ls
      → nth i u.places ≡ Some p → p.node ≡ None → Is (told (ls i)).files f → Begins (hosts.base_of i) limit (told (ls i)) (told t) → Crashes told i t s l c ls ms
      → last_incarnation p.records < 4294967295 → StandsFor (p.records ++ start_after p.records ∷ []) c → w ≡ with_start i u p → Serves told hosts w ms
  -- it takes a turn, and doesn't halt
  turned : {w : Net} {ms : ℕ → S} (u : Net) (ls : ℕ → S) (i : ℕ) (p : Place) (n m : State) (result : Turned) (role : Role) (shrunk : Shrunk) (t : S) (ps : List Post) → Serves told hosts u ls
      → nth i u.places ≡ Some p → p.node ≡ Some n → (turn : TakesTurn told result role shrunk n m (ls i) t) → (result ≡ turneds.Halted → ⊥)
      → (IsOpened turn.first → Carries hosts u i role (told (ls i)))
      → AreSent (steps_in turn.first role n turn.node (told (ls i)) (told turn.behind) turn.steps) (doings_in turn.first role n turn.node (told (ls i)) (told turn.behind) turn.steps) ps
      → Goes i t ls ms
      → w ≡ after hosts i u p m (recorded (steps_in turn.first role n turn.node (told (ls i)) (told turn.behind) turn.steps)) ps
      (accepted_along hosts i n.book (steps_in turn.first role n turn.node (told (ls i)) (told turn.behind) turn.steps))
      → Serves told hosts w ms
  -- it does what its program requests
  asked : {w : Net} {ms : ℕ → S} (u : Net) (ls : ℕ → S) (i : ℕ) (p : Place) (n m : State) (id : Numbers) (l : Local) (t : S) (ps : List Post) → Serves told hosts u ls
      → nth i u.places ≡ Some p → p.node ≡ Some n → IsLocal deliverable l → (done : Asked (answers.Done id) n m l (told (ls i)) (told t)) → Sent done.3.3.leaving done.3.3.went.made ps
      → Goes i t ls ms
      → w ≡ after hosts i u p m (records_by (if_landed done.3.3.landed (plan n.book (events.Local l) done.3.0).entry)) ps (accepted_between hosts i n.book m.book)
      → Serves told hosts w ms
  -- A turn is cut off, or it halts: the first of its steps were done, as the files say that the crash left, and some of what they post
  -- was sent.
  cut_off : {w : Net} {ms : ℕ → S} (u : Net) (ls : ℕ → S) (i : ℕ) (p : Place) (n m : State) (result : Turned) (role : Role) (shrunk : Shrunk) (t s : S) (l : List Made) (c : Files)
      (front rest : List TurnStep) (doings : List Doing) (ps : List Post) → Serves told hosts u ls → nth i u.places ≡ Some p → p.node ≡ Some n
      → (turn : TakesTurn told result role shrunk n m (ls i) t) → (IsOpened turn.first → Carries hosts u i role (told (ls i))) → Crashes told i t s l c ls ms
      → begun_in turn.first role n turn.node (told (ls i)) (told turn.behind) turn.steps ≡ front ++ rest → AreSent front doings ps → StandsFor (p.records ++ recorded front) c
      → w ≡ broken hosts i u p n front ps → Serves told hosts w ms
  -- a request is cut off before its step, or behind its record, which stands or doesn't
  asked_cut_off : {w : Net} {ms : ℕ → S} (u : Net) (ls : ℕ → S) (i : ℕ) (p : Place) (n m : State) (answer : Locally) (l : Local) (t s : S) (made : List Made) (c : Files) (now : ℕ)
      (step : TurnStep) (doing : Doing) (ps : List Post) → Serves told hosts u ls → nth i u.places ≡ Some p → p.node ≡ Some n → IsLocal deliverable l → Asked answer n m l (told (ls i)) (told t)
      → Crashes told i t s made c ls ms → IsStep n.book (events.Local l) now step → Sent step.leaving doing.made ps
      → StandsFor (p.records ++ records_by (if_landed step.landed step.entry)) c → w ≡ broken hosts i u p n (step ∷ []) ps → Serves told hosts w ms
  asked_undone : {w : Net} {ms : ℕ → S} (u : Net) (ls : ℕ → S) (i : ℕ) (p : Place) (n m : State) (answer : Locally) (l : Local) (t s : S) (made : List Made) (c : Files) → Serves told hosts u ls
      → nth i u.places ≡ Some p → p.node ≡ Some n → Asked answer n m l (told (ls i)) (told t) → Crashes told i t s made c ls ms → StandsFor p.records c
      → w ≡ without i u p n → Serves told hosts w ms
  -- a call does nothing
  idled : {w : Net} {ms : ℕ → S} (u : Net) (i : ℕ) (p : Place) (n : State) → Serves told hosts u ms → nth i u.places ≡ Some p → p.node ≡ Some n → w ≡ rested i u p n → Serves told hosts w ms
  -- it ends
  ended : {w : Net} {ms : ℕ → S} (u : Net) (i : ℕ) (p : Place) (n : State) → Serves told hosts u ms → nth i u.places ≡ Some p → p.node ≡ Some n → w ≡ without i u p n → Serves told hosts w ms
  -- a machine crashes between calls on which no node runs
  crashed : {w : Net} {ms : ℕ → S} (ls : ℕ → S) (i : ℕ) (s : S) (p : Place) (c : Files) → Serves told hosts w ls → nth i w.places ≡ Some p → p.node ≡ None
      → (told (ls i)).images c → IsOn c (told s) → Goes i s ls ms → Serves told hosts w ms

-- What they hold, record and post can be delivered, and each connection brings what was posted: so they are nets as they are with a
-- network of messages.
pub record AreNets {S : Type 0} (told : S → Told) (hosts : Hosts) (net : Net) (ms : ℕ → S) : Type 0 where
  pub runs : RunsOn told hosts net ms
  pub deliverable : IsDeliverableNet hosts net

abbrev pub ServeAsNets : {S : Type 0} → (S → Told) → Type 0
ServeAsNets {S} told = (hosts : Hosts) (net : Net) (ms : ℕ → S) → AreNodeHosts hosts → Serves told hosts net ms → AreNets told hosts net ms

-- and so they agree
abbrev pub ServersAgree : {S : Type 0} → (S → Told) → Type 0
ServersAgree {S} told = (hosts : Hosts) (net : Net) (ms : ℕ → S) → AreNodeHosts hosts → HaveOwnAddresses hosts → Serves told hosts net ms → IsAgreedNet hosts net
