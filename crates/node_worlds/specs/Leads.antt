-- Where the steps of a node lead a world of the model.
use Rattle.std.specs.Prelude.{ℕ, List, ◌++◌, ◌≡◌, Some, map}
use Rattle.at_base.specs.declared.event.Event.{Event}
use Rattle.at_base.specs.declared.outs.Effect.{Effect}
use Rattle.at_base.specs.declared.outs.Post.{Post}
use Rattle.at_base.specs.declared.record.Record.{Record}
use Rattle.at_model.specs.Book.{Book}
use Rattle.at_model.specs.Step.{Outcome}
use Rattle.at_model.specs.World.{Accepted, Node, Posted, World, nth, put_nth, receiver_of, happened_at, Hosts}
use Rattle.model_laws.specs.ReachedWorlds.{Heard, Reached}
use Rattle.node_at.specs.Doings.{Doing, book_behind, came_of}
use Rattle.node_at.specs.Meanings.{Meaning}
use Rattle.node_at.specs.Meanings.Meaning.{Steps}
use Rattle.node_at.specs.TurnText.{IsStep, Steppings, TurnStep}
use Rattle.node_at.specs.Steps.{if_landed}
use Rattle.node_worlds.specs.SentPosts.{AreSent, Sent, accepted_along, accepted_between, recorded, records_by}

-- a post of a node, with the receiver that it has among these nodes
abbrev pub posted_at : ℕ → List Node → Post → Posted
posted_at i nodes p = record { sender = i; receiver = receiver_of nodes p.to; content = p }

abbrev pub moved : Node → Book → List Record → Node
moved x b rs = record x { book = Some b; journal = x.journal ++ rs }

-- A world that is reached: one node has this book now, and further records; it posted these messages, these effects came, and these
-- registrations were accepted. All else is as it was.
pub record Leads (hosts : Hosts) (i : ℕ) (u : World) (x : Node) (b : Book) (rs : List Record) (ps : List Post) (es : List Effect) (joins : List Accepted) : Type 0 where
  pub world : World
  pub reached : Reached hosts world
  pub nodes : world.nodes ≡ put_nth i (moved x b rs) u.nodes
  pub posted : world.posted ≡ u.posted ++ map (posted_at i u.nodes) ps
  pub happened : world.happened ≡ u.happened ++ map (happened_at i) es
  pub accepted : world.accepted ≡ u.accepted ++ joins

-- a node that is up, in a world that is reached
pub record IsUp (hosts : Hosts) (i : ℕ) (u : World) (x : Node) (b : Book) : Type 0 where
  pub reached : Reached hosts u
  pub found : nth i u.nodes ≡ Some x
  pub up : x.book ≡ Some b

-- A step that a node did is one of the world that it stands in, of the same event: its record landed there as it did here, what was sent
-- here is posted there, and what it accepted is accepted there.
abbrev pub StepsLead : Type 0
StepsLead =
    (hosts : Hosts) (i : ℕ) (u : World) (x : Node) (b : Book) (e : Event) (now : ℕ) (s : TurnStep) (d : Doing) (ps : List Post) → IsUp hosts i u x b → Heard u i x e → IsStep b e now s
    → Sent s.leaving d.made ps → Leads hosts i u x s.behind (records_by (if_landed s.landed s.entry)) ps s.came (accepted_between hosts i b s.behind)

-- what is asked, the node may step on
abbrev pub IsHeard : World → ℕ → Node → Meaning → Type 0
IsHeard u i x meaning = (e : Event) → meaning ≡ Steps e → Heard u i x e

-- So are the steps of a turn, as many as were done: that of what the connection asks, and those of the items that are due.
abbrev pub TurnsLead : Type 0
TurnsLead =
    (hosts : Hosts) (i : ℕ) (u : World) (x : Node) (b : Book) (now status : ℕ) (left : List Outcome) (meaning : Meaning) (steps : List TurnStep) (doings : List Doing) (ps : List Post)
    → IsUp hosts i u x b → IsHeard u i x meaning → Steppings now b left meaning steps status → AreSent steps doings ps
    → Leads hosts i u x (book_behind b steps) (recorded steps) ps (came_of steps) (accepted_along hosts i b steps)
