-- What a call of a node does is one event of the model's world.
use Rattle.std.specs.Prelude.{ℕ, List, [], ◌∷◌, ◌++◌, ◌+◌, ◌-◌, ◌≡◌, ◌<◌, Bool, true, false, Option, Some, None, length, nat_lt, take}
use Rattle.at_base.specs.declared.event.Arrived.{Arrived}
use Rattle.at_base.specs.declared.event.Event.TheVariants as events
use Rattle.at_base.specs.declared.event.Local.{Local}
use Rattle.at_base.specs.declared.outs.Post.{Post}
use Rattle.at_base.specs.declared.record.Record.{Record}
use Rattle.at_model.specs.Activities.{Refusal}
use Rattle.at_model.specs.Book.{Book}
use Rattle.at_model.specs.Recovery.{last_incarnation, recover}
use Rattle.at_model.specs.Step.{Plan, plan, refuses}
use Rattle.at_model.specs.World.{Hosts, Input, Node, Posted, World, WorldEvent, Deliver, Tick, Raw, Turn, Ask, Crash, Up, decoded, new_nodes, nth, place_of, world_step}
use Rattle.fated_walks.specs.Fated.{AllLeft, AreFirstDue, Fated, IsBeyond, IsPlanned, StartsWith, all_fates, all_posts, fates_of, posts_of}
use Rattle.model_laws.specs.Order.{IsInOrder}
use Rattle.node_at.specs.Doings.{AreDoings, Doing, IsDoing, book_behind, came_of}
use Rattle.node_at.specs.Meanings.{Meaning}
use Rattle.node_at.specs.Meanings.Meaning.{Refused, Steps}
use Rattle.node_at.specs.Starts.{start_after}
use Rattle.node_at.specs.State.{State}
use Rattle.node_at.specs.Steps.{if_landed}
use Rattle.node_at.specs.TurnText.{IsFirst, IsStep, Steppings, TurnStep}
use Rattle.node_worlds.specs.Nets.{IsWorldOf, Net, Place, after, broken, rested, with_start, with_started, without}
use Rattle.node_worlds.specs.SentPosts.{AreSent, Sent, accepted_along, accepted_between, recorded, records_by}
use Rattle.site_model.specs.Told.{Made}
use Rattle.world_laws.specs.Fates.{behind_done}
use Rattle.world_laws.specs.Firsts.{input_plan}
use Rattle.node_events.specs.Fares.{AreFared, IsFared}

-- What a posted message is at a node of this base: it is taken as the world decodes it there; and where the world decodes nothing, it is
-- refused with 500.
pub data Brings (base : List ℕ) (p : Post) : Meaning → Type 0 where
  arrives : (a : Arrived) → decoded base p ≡ Some a → Brings base p (Steps (events.Arrived a))
  draws : (text : Option (List ℕ)) → decoded base p ≡ None → Brings base p (Refused 500 text)

-- What a node heard, and when, is this input of the world's event at it: a message that was posted to it, as it is decoded there; a tick; or
-- bytes that are refused.
abbrev pub IsInput : World → ℕ → Node → Input → Meaning → ℕ → Type 0
IsInput w i x (Deliver k) meaning now = (p : Posted) × (nth k w.posted ≡ Some p) × (p.receiver ≡ Some i) × Brings x.base p.content meaning × (now ≡ x.clock)
IsInput w i x (Tick ms) meaning now = (meaning ≡ Steps events.Tick) × (now ≡ x.clock + ms)
IsInput w i x Raw meaning now = (status : ℕ) × (text : Option (List ℕ)) × (meaning ≡ Refused status text) × (now ≡ x.clock)

-- Only that node moved, and its clock shows this; each address leads where it led.
pub record MovesOne (i now : ℕ) (w v : World) : Type 0 where
  pub node : Node
  pub this : nth i v.nodes ≡ Some node
  pub clock : node.clock ≡ now
  pub others : (j : ℕ) → (j ≡ i → ⊥) → nth j v.nodes ≡ nth j w.nodes
  pub reach : (address : List ℕ) → place_of 1 v.nodes address ≡ place_of 1 w.nodes address

-- The event leads the world of that net to one of this net, and moves that node alone.
pub record Leads (hosts : Hosts) (i now : ℕ) (w : World) (e : WorldEvent) (net : Net) : Type 0 where
  pub world : IsWorldOf hosts net (world_step w e)
  pub moves : MovesOne i now w (world_step w e)

-- A world of this net, with a node that is up there. An address leads to the node whose base it has.
pub record IsAt (hosts : Hosts) (net : Net) (w : World) (i : ℕ) (p : Place) (x : Node) (n : State) : Type 0 where
  pub world : IsWorldOf hosts net w
  pub place : nth i net.places ≡ Some p
  pub node : nth i w.nodes ≡ Some x
  pub up : p.node ≡ Some n
  pub reach : (address : List ℕ) → place_of 1 w.nodes address ≡ place_of 1 (new_nodes hosts.base_of hosts.count 1) address

-- These are the model's steps of that input: one for what is heard, and one for each item that is due.
pub record AreStepsOf (w : World) (i : ℕ) (x : Node) (b : Book) (input : Input) (now : ℕ) (fated : List Fated) : Type 0 where
  pub begun : Plan
  pub is : input_plan i input w.posted x (Some b) ≡ Some begun
  pub first : Fated
  pub rest : List Fated
  pub all : fated ≡ first ∷ rest
  pub planned : IsPlanned begun first
  pub due : AreFirstDue now first.outcome.book [] rest

-- Steps that a node did are those of this event, whatever its further fates would be, and wherever it would stop behind them.
pub record IsTurn (hosts : Hosts) (net : Net) (w : World) (i : ℕ) (p : Place) (x : Node) (n m : State) (input : Input) (now : ℕ) (steps : List TurnStep) (doings : List Doing) : Type 0 where
  pub fated : List Fated
  pub are : AreStepsOf w i x n.book input now fated
  pub fared : AreFared steps doings fated
  pub sent : AreSent steps doings (all_posts fated)
  pub leads : (all : List Bool) (until : Option ℕ) → StartsWith (all_fates fated) all → IsBeyond until (length (all_fates fated))
      → Leads hosts i now w (Turn i input all until) (after hosts i net p m (recorded steps) (all_posts fated) (accepted_along hosts i n.book steps))

-- Whatever a node did in a turn that went to its end, its calls done or failed.
abbrev pub TurnsAreEvents : Type 0
TurnsAreEvents =
    (hosts : Hosts) (net : Net) (w : World) (i : ℕ) (p : Place) (x : Node) (n m : State) (input : Input) (meaning : Meaning) (now status : ℕ) (steps : List TurnStep) (doings : List Doing)
    → IsAt hosts net w i p x n → IsInput w i x input meaning now → Steppings now n.book [] meaning steps status → AreDoings n.kept steps doings → m.book ≡ book_behind n.book steps → m.effects ≡ came_of steps
    → IsTurn hosts net w i p x n m input now steps doings

-- one, where it counts
abbrev pub one_if : Bool → ℕ
one_if true = 1
one_if false = 0

abbrev pub all_made : List Doing → List Made
all_made [] = []
all_made (d ∷ ds) = d.made ++ all_made ds

abbrev pub records_if : Bool → List Record → List Record
records_if true rs = rs
records_if false rs = []

-- so many fates are yes, and then one more comes, which is this; the node stops there
abbrev pub struck : ℕ → Bool → List Bool
struck before last = behind_done before (last ∷ [])

-- Of steps all of whose calls were done the first, up to a stop that comes behind so many fates at one that is yes or no: their records, and
-- what was sent by then.
pub record IsStruck (hosts : Hosts) (net : Net) (w : World) (i : ℕ) (p : Place) (n : State) (event : WorldEvent) (now before : ℕ) (last : Bool) (steps : List TurnStep) (doings : List Doing) : Type 0 where
  pub front : List TurnStep
  pub rest : List TurnStep
  pub of : steps ≡ front ++ rest
  pub records : recorded front ≡ records_if (nat_lt 0 (before + one_if last)) (recorded steps)
  pub made : List Doing
  pub kept : all_made made ≡ take (before + one_if last - length (recorded steps)) (all_made doings)
  pub posts : List Post
  pub sent : AreSent front made posts
  pub leads : Leads hosts i now w event (broken hosts i net p n front posts)

-- A stop in such a turn, at one of its calls.
abbrev pub StopsAreEvents : Type 0
StopsAreEvents =
    (hosts : Hosts) (net : Net) (w : World) (i : ℕ) (p : Place) (x : Node) (n : State) (input : Input) (meaning : Meaning) (now status : ℕ) (steps : List TurnStep) (doings : List Doing) (fated : List Fated)
    → IsAt hosts net w i p x n → IsInput w i x input meaning now → Steppings now n.book [] meaning steps status → AreStepsOf w i x n.book input now fated → AreFared steps doings fated
    → AllLeft fated
    → (before : ℕ) (last : Bool) → before < length (all_fates fated)
    → IsStruck hosts net w i p n (Turn i input (struck before last) (Some (before + 1))) now before last steps doings

-- the step, where its record stands
abbrev pub front_by : Bool → TurnStep → List TurnStep
front_by true step = step ∷ []
front_by false step = []

-- A turn that halts, since the record of its first step may stand or not: it is this event where it stands, and that one where it doesn't.
abbrev pub HaltsAreEvents : Type 0
HaltsAreEvents =
    (hosts : Hosts) (net : Net) (w : World) (i : ℕ) (p : Place) (x : Node) (n : State) (input : Input) (meaning : Meaning) (now status : ℕ) (step : TurnStep) (entry : Record) (stands : Bool)
    → IsAt hosts net w i p x n → IsInput w i x input meaning now → IsFirst n.book now meaning step status → step.entry ≡ Some entry → step.landed ≡ true
    → Leads hosts i now w (Turn i input (stands ∷ []) (Some 1)) (broken hosts i net p n (front_by stands step) [])

-- A turn at whose node the machine stops before the first step.
abbrev pub UnbegunAreEvents : Type 0
UnbegunAreEvents =
    (hosts : Hosts) (net : Net) (w : World) (i : ℕ) (p : Place) (x : Node) (n : State) (input : Input) (meaning : Meaning) (now : ℕ) → IsAt hosts net w i p x n → IsInput w i x input meaning now
    → Leads hosts i now w (Turn i input [] (Some 0)) (broken hosts i net p n [] [])

-- The same of a request, which has one step, at the clock of its node.
pub record IsAsk (hosts : Hosts) (net : Net) (w : World) (i : ℕ) (p : Place) (x : Node) (n m : State) (l : Local) (step : TurnStep) (doing : Doing) : Type 0 where
  pub fated : Fated
  pub planned : IsPlanned (plan n.book (events.Local l) x.clock) fated
  pub fared : IsFared step doing fated
  pub sent : Sent step.leaving doing.made (posts_of fated.ways)
  pub leads : (all : List Bool) (until : Option ℕ) → StartsWith (fates_of fated) all → IsBeyond until (length (fates_of fated))
      → Leads hosts i x.clock w (Ask i l all until) (after hosts i net p m (records_by (if_landed step.landed step.entry)) (posts_of fated.ways)
      (accepted_between hosts i n.book m.book))

pub record RequestsAreEvents : Type 0 where
  pub whole : (hosts : Hosts) (net : Net) (w : World) (i : ℕ) (p : Place) (x : Node) (n m : State) (l : Local) (step : TurnStep) (doing : Doing)
      → IsAt hosts net w i p x n → IsStep n.book (events.Local l) x.clock step → IsDoing n.kept step doing → (step.entry ≡ None → step.landed ≡ true) → m.book ≡ step.behind → m.effects ≡ step.came
      → IsAsk hosts net w i p x n m l step doing
  pub stopped : (hosts : Hosts) (net : Net) (w : World) (i : ℕ) (p : Place) (x : Node) (n : State) (l : Local) (step : TurnStep) (doing : Doing) (fated : Fated)
      → IsAt hosts net w i p x n → IsStep n.book (events.Local l) x.clock step → IsPlanned (plan n.book (events.Local l) x.clock) fated
      → IsFared step doing fated → AllLeft (fated ∷ [])
      → (before : ℕ) (last : Bool) → before < length (fates_of fated)
      → IsStruck hosts net w i p n (Ask i l (struck before last) (Some (before + 1))) x.clock before last (step ∷ []) (doing ∷ [])
  pub halted : (hosts : Hosts) (net : Net) (w : World) (i : ℕ) (p : Place) (x : Node) (n : State) (l : Local) (step : TurnStep) (entry : Record) (stands : Bool)
      → IsAt hosts net w i p x n → IsStep n.book (events.Local l) x.clock step → step.entry ≡ Some entry → step.landed ≡ true
      → Leads hosts i x.clock w (Ask i l (stands ∷ []) (Some 1)) (broken hosts i net p n (front_by stands step) [])
  -- one that is refused changes nothing, where the node's book is in order
  pub refused : (hosts : Hosts) (net : Net) (w : World) (i : ℕ) (p : Place) (x : Node) (n : State) (l : Local) (why : Refusal) (fates : List Bool) (until : Option ℕ)
      → IsAt hosts net w i p x n → refuses n.book l ≡ Some why → IsInOrder n.book → (until ≡ Some 0 → ⊥) → Leads hosts i x.clock w (Ask i l fates until) (rested i net p n)

-- A node that starts, or fails to, and one that ends.
pub record StartsAreEvents : Type 0 where
  pub started : (hosts : Hosts) (net : Net) (w : World) (i : ℕ) (p : Place) (x : Node) (n : State) → IsWorldOf hosts net w → nth i net.places ≡ Some p → nth i w.nodes ≡ Some x → p.node ≡ None
      → last_incarnation p.records < 4294967295 → n.book ≡ recover (hosts.base_of i) (p.records ++ start_after p.records ∷ [])
      → Leads hosts i x.clock w (Up i true false) (with_started i net p n)
  pub recorded : (hosts : Hosts) (net : Net) (w : World) (i : ℕ) (p : Place) (x : Node) → IsWorldOf hosts net w → nth i net.places ≡ Some p → nth i w.nodes ≡ Some x → p.node ≡ None
      → last_incarnation p.records < 4294967295 → Leads hosts i x.clock w (Up i true true) (with_start i net p)
  pub unrecorded : (hosts : Hosts) (net : Net) (w : World) (i : ℕ) (p : Place) (x : Node) (stop : Bool) → IsWorldOf hosts net w → nth i net.places ≡ Some p → nth i w.nodes ≡ Some x → p.node ≡ None
      → Leads hosts i x.clock w (Up i false stop) net
  pub ended : (hosts : Hosts) (net : Net) (w : World) (i : ℕ) (p : Place) (x : Node) (n : State) → IsAt hosts net w i p x n → Leads hosts i x.clock w (Crash i) (without i net p n)
