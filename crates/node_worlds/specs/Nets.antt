-- Nets of nodes that serve and post to one another, and the worlds that they are.
use Rattle.std.specs.Prelude.{ℕ, List, [], ◌∷◌, ◌++◌, ◌+◌, ◌≡◌, ◌<◌, Option, Some, None, map, option_map, zero, suc}
use Rattle.std.proofs.Common.{inl, inr}
use Rattle.at_base.specs.Numbers.{Numbers}
use Rattle.at_base.specs.declared.event.Arrived.{Arrived}
use Rattle.at_base.specs.declared.event.Event.TheVariants as events
use Rattle.at_base.specs.declared.event.Local.{Local}
use Rattle.at_base.specs.declared.outs.Post.{Post}
use Rattle.at_base.specs.declared.record.Record.{Record}
use Rattle.at_model.specs.Recovery.{last_incarnation}
use Rattle.at_model.specs.Step.{plan}
use Rattle.at_model.specs.World.{Accepted, Happened, Node, Posted, World, decoded, happened_at, lost_in, new_nodes, nth, put_nth, Hosts}
use Rattle.model_laws.specs.Agreement.{IsIn}
use Rattle.model_laws.specs.ReachedWorlds.{Reached}
use Rattle.site_model.specs.Told.{Told}
use Rattle.node_at.specs.Doings.{Doing, book_behind, came_of}
use Rattle.node_at.specs.Endings.{TakesTurn}
use Rattle.node_at.specs.Locals.{Asked}
use Rattle.node_at.specs.Meanings.{Means, next_input}
use Rattle.node_at.specs.Meanings.Meaning.{Steps}
use Rattle.node_at.specs.ShrunkJournals.{AreSame}
use Rattle.node_at.specs.StartedNodes.{IsStarted}
use Rattle.node_at.specs.Starts.{carried, start_after}
use Rattle.node_at.specs.State.{State}
use Rattle.node_at.specs.Steps.{if_landed}
use Rattle.node_at.specs.TurnText.{IsStep, TurnStep}
use Rattle.node_at.specs.Turns.{Turns, busy}
use Rattle.node_at.specs.declared.local.Locally.TheVariants as answers
use Rattle.node_at.specs.declared.role.Role.{Role}
use Rattle.node_at.specs.declared.shrink.Shrunk.{Shrunk}
use Rattle.node_at.specs.declared.turn.Turned.{Turned}
use Rattle.node_at.specs.declared.turn.Turned.TheVariants as turneds
use Rattle.node_worlds.specs.Leads.{posted_at}
use Rattle.node_worlds.specs.SentPosts.{AreSent, Sent, accepted_along, accepted_between, recorded, records_by}

-- The place of a node: the node, where one runs there, and the records that its journal was told to hold, in order.
pub record Place : Type 0 where
  pub node : Option State
  pub records : List Record

-- Several places, numbered from 1, the messages that their nodes posted, the registrations that their steps accepted, and the effects of
-- their calls with what crashes took.
pub record Net : Type 0 where
  pub places : List Place
  pub posted : List Posted
  pub accepted : List Accepted
  pub happened : List Happened

abbrev pub new_place : Place
new_place = record { node = None; records = [] }

abbrev pub new_places : ℕ → List Place
new_places zero = []
new_places (suc k) = new_place ∷ new_places k

-- no node has started, and no journal has a record
abbrev pub new_net : Hosts → Net
new_net hosts = record { places = new_places hosts.count; posted = []; accepted = []; happened = [] }

-- a message that some node posted to this one, as it is decoded there
abbrev pub IsPostedTo : Hosts → Net → ℕ → Arrived → Type 0
IsPostedTo hosts net i a = (p : Posted) × IsIn p net.posted × (p.receiver ≡ Some i) × (decoded (hosts.base_of i) p.content ≡ Some a)

-- The machine tells what the connection that is opened next brings; and if that is a message, some node posted it to this one.
pub record Brings (hosts : Hosts) (net : Net) (i : ℕ) (role : Role) (s : Told) : Type 0 where
  pub input : List ℕ
  pub tells : next_input s.link ≡ Some input
  pub posted : (a : Arrived) → Means role input (Steps (events.Arrived a)) → IsPostedTo hosts net i a

-- whether a turn opened a connection
abbrev pub IsOpened : Turned → Type 0
IsOpened (turneds.Served status) = Unit {0}
IsOpened turneds.Ticked = Unit {0}
IsOpened turneds.NoRoom = Unit {0}
IsOpened turneds.Halted = Unit {0}
IsOpened turneds.Closed = ⊥
IsOpened turneds.LinkDown = ⊥

-- the steps of a turn
abbrev pub steps_in : (r : Turned) (role : Role) (n m : State) (old new : Told) → Turns r role n m old new → List TurnStep
steps_in (turneds.Served status) role n m old new t = t.serves.works.0.steps
steps_in turneds.Ticked role n m old new t = t.serves.works.0.steps
steps_in turneds.NoRoom role n m old new t = t.serves.works.steps ++ busy n.book t.serves.works.steps
steps_in turneds.Halted role n m old new t = []
steps_in turneds.Closed role n m old new t = []
steps_in turneds.LinkDown role n m old new t = []

abbrev pub doings_in : (r : Turned) (role : Role) (n m : State) (old new : Told) → Turns r role n m old new → List Doing
doings_in (turneds.Served status) role n m old new t = t.serves.works.0.doings
doings_in turneds.Ticked role n m old new t = t.serves.works.0.doings
doings_in turneds.NoRoom role n m old new t = t.serves.works.doings
doings_in turneds.Halted role n m old new t = []
doings_in turneds.Closed role n m old new t = []
doings_in turneds.LinkDown role n m old new t = []

-- the steps that a turn began
abbrev pub begun_in : (r : Turned) (role : Role) (n m : State) (old new : Told) → Turns r role n m old new → List TurnStep
begun_in (turneds.Served status) role n m old new t = t.serves.works.0.steps
begun_in turneds.Ticked role n m old new t = t.serves.works.0.steps
begun_in turneds.NoRoom role n m old new t = t.serves.works.steps
begun_in turneds.Halted role n m old new (inl t) = []
begun_in turneds.Halted role n m old new (inr t) = t.1.serves.works.step ∷ []
begun_in turneds.Closed role n m old new t = []
begun_in turneds.LinkDown role n m old new t = []

-- a post reaches the node whose base its address has
abbrev pub posts_from : Hosts → ℕ → List Post → List Posted
posts_from hosts i ps = map (posted_at i (new_nodes hosts.base_of hosts.count 1)) ps

-- One node did this: it stands so now, with further records, and posted and accepted these; its effects came.
abbrev pub after : Hosts → ℕ → Net → Place → State → List Record → List Post → List Accepted → Net
after hosts i u p m rs ps joins = record {
  places = put_nth i (record { node = Some m; records = p.records ++ rs }) u.places;
  posted = u.posted ++ posts_from hosts i ps;
  accepted = u.accepted ++ joins;
  happened = u.happened ++ map (happened_at i) m.effects;
}

-- the net behind a start
abbrev pub with_started : ℕ → Net → Place → State → Net
with_started i u p n = record u { places = put_nth i (record { node = Some n; records = p.records ++ start_after p.records ∷ [] }) u.places }

-- the net behind a start that was cut off behind its record, or that failed there
abbrev pub with_start : ℕ → Net → Place → Net
with_start i u p = record u { places = put_nth i (record { node = None; records = p.records ++ start_after p.records ∷ [] }) u.places }

-- the net behind the end of a node, and what that takes
abbrev pub without : ℕ → Net → Place → State → Net
without i u p n = record {
  places = put_nth i (record { node = None; records = p.records }) u.places;
  posted = u.posted;
  accepted = u.accepted;
  happened = u.happened ++ lost_in i n.book;
}

-- the node as far as these steps brought it
abbrev pub as_far : State → List TurnStep → State
as_far n steps = record n { book = book_behind n.book steps; effects = came_of steps }

-- a node that did these steps, and ended
abbrev pub broken : Hosts → ℕ → Net → Place → State → List TurnStep → List Post → Net
broken hosts i u p n steps ps =
    without i (after hosts i u p (as_far n steps) (recorded steps) ps (accepted_along hosts i n.book steps))
    (record { node = Some (as_far n steps); records = p.records ++ recorded steps }) (as_far n steps)

-- a node that has forgotten the effects of its last call
abbrev pub rested : ℕ → Net → Place → State → Net
rested i u p n = record u { places = put_nth i (record { node = Some (record n { effects = [] }); records = p.records }) u.places }

-- What nodes that serve can come to, each by the contract of the call that it does, over any machine.
pub data Runs {S : Type 0} (told : S → Told) (hosts : Hosts) : Net → Type 0 where
  opened : {w : Net} → w ≡ new_net hosts → Runs told hosts w
  -- A node starts, under its base, and on files that stand for what its journal was told to hold, or for what is left of that.
  started : {w : Net} (u : Net) (i : ℕ) (p : Place) (n : State) (limit : ℕ) (s t : S) → Runs told hosts u → nth i u.places ≡ Some p → p.node ≡ None
      → (start : IsStarted (hosts.base_of i) limit n (told s) (told t)) → AreSame (carried start.version start.rs) p.records → w ≡ with_started i u p n → Runs told hosts w
  -- a start is cut off behind its record, or fails there
  start_recorded : {w : Net} (u : Net) (i : ℕ) (p : Place) → Runs told hosts u → nth i u.places ≡ Some p → p.node ≡ None → last_incarnation p.records < 4294967295
      → w ≡ with_start i u p → Runs told hosts w
  -- it takes a turn, and doesn't halt
  turned : {w : Net} (u : Net) (i : ℕ) (p : Place) (n m : State) (result : Turned) (role : Role) (shrunk : Shrunk) (s t : S) (ps : List Post) → Runs told hosts u
      → nth i u.places ≡ Some p → p.node ≡ Some n → (turn : TakesTurn told result role shrunk n m s t) → (result ≡ turneds.Halted → ⊥)
      → (IsOpened turn.first → Brings hosts u i role (told s))
      → AreSent (steps_in turn.first role n turn.node (told s) (told turn.behind) turn.steps) (doings_in turn.first role n turn.node (told s) (told turn.behind) turn.steps) ps
      → w ≡ after hosts i u p m (recorded (steps_in turn.first role n turn.node (told s) (told turn.behind) turn.steps)) ps
      (accepted_along hosts i n.book (steps_in turn.first role n turn.node (told s) (told turn.behind) turn.steps))
      → Runs told hosts w
  -- it does what its program requests
  asked : {w : Net} (u : Net) (i : ℕ) (p : Place) (n m : State) (id : Numbers) (l : Local) (s t : S) (ps : List Post) → Runs told hosts u
      → nth i u.places ≡ Some p → p.node ≡ Some n → (done : Asked (answers.Done id) n m l (told s) (told t)) → Sent done.3.3.leaving done.3.3.went.made ps
      → w ≡ after hosts i u p m (records_by (if_landed done.3.3.landed (plan n.book (events.Local l) done.3.0).entry)) ps (accepted_between hosts i n.book m.book)
      → Runs told hosts w
  -- A turn is cut off, or it halts: the first of its steps were done, and some of what they post was sent.
  cut_off : {w : Net} (u : Net) (i : ℕ) (p : Place) (n m : State) (result : Turned) (role : Role) (shrunk : Shrunk) (s t : S) (front rest : List TurnStep) (doings : List Doing) (ps : List Post)
      → Runs told hosts u → nth i u.places ≡ Some p → p.node ≡ Some n → (turn : TakesTurn told result role shrunk n m s t)
      → (IsOpened turn.first → Brings hosts u i role (told s))
      → begun_in turn.first role n turn.node (told s) (told turn.behind) turn.steps ≡ front ++ rest → AreSent front doings ps
      → w ≡ broken hosts i u p n front ps → Runs told hosts w
  -- a request is cut off behind its record, which stands or doesn't
  asked_cut_off : {w : Net} (u : Net) (i : ℕ) (p : Place) (n : State) (l : Local) (now : ℕ) (step : TurnStep) (doing : Doing) (ps : List Post)
      → Runs told hosts u → nth i u.places ≡ Some p → p.node ≡ Some n → IsStep n.book (events.Local l) now step → Sent step.leaving doing.made ps
      → w ≡ broken hosts i u p n (step ∷ []) ps → Runs told hosts w
  -- a call does nothing
  idled : {w : Net} (u : Net) (i : ℕ) (p : Place) (n : State) → Runs told hosts u → nth i u.places ≡ Some p → p.node ≡ Some n → w ≡ rested i u p n → Runs told hosts w
  -- it ends
  ended : {w : Net} (u : Net) (i : ℕ) (p : Place) (n : State) → Runs told hosts u → nth i u.places ≡ Some p → p.node ≡ Some n → w ≡ without i u p n → Runs told hosts w

-- A node of the world is this one: it has its base, its book where it is up, and the records of its journal.
pub record StandsAs (hosts : Hosts) (i : ℕ) (p : Place) (x : Node) : Type 0 where
  pub base : x.base ≡ hosts.base_of i
  pub book : x.book ≡ option_map (λ (n : State). n.book) p.node
  pub journal : x.journal ≡ p.records

-- The world is the net: each node stands there as it does here, and what was posted, what was accepted and what happened is the same.
pub record IsWorldOf (hosts : Hosts) (net : Net) (w : World) : Type 0 where
  pub nodes : (i : ℕ) (p : Place) → nth i net.places ≡ Some p → (x : Node) × (nth i w.nodes ≡ Some x) × StandsAs hosts i p x
  pub posted : w.posted ≡ net.posted
  pub accepted : w.accepted ≡ net.accepted
  pub happened : w.happened ≡ net.happened

-- A node as its place shows it. A place shows no clock: the time of a step is that of the call which did it.
abbrev pub shown_node : Hosts → ℕ → Place → Node
shown_node hosts i p = record { base = hosts.base_of i; book = option_map (λ (n : State). n.book) p.node; journal = p.records; clock = 0 }

-- those of places numbered from this one on
abbrev pub shown_nodes : Hosts → ℕ → List Place → List Node
shown_nodes hosts k [] = []
shown_nodes hosts k (p ∷ ps) = shown_node hosts k p ∷ shown_nodes hosts (k + 1) ps

-- the world that a net shows
abbrev pub shown_world : Hosts → Net → World
shown_world hosts net = record { nodes = shown_nodes hosts 1 net.places; posted = net.posted; accepted = net.accepted; happened = net.happened }

-- Whatever nodes do that serve and post to one another, the world that they show is one that the model reaches.
abbrev pub NetsAreWorlds : {S : Type 0} → (S → Told) → Type 0
NetsAreWorlds told = (hosts : Hosts) (net : Net) → Runs told hosts net → Reached hosts (shown_world hosts net) × IsWorldOf hosts net (shown_world hosts net)
