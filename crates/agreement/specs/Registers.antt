-- Whose the Registers are that are posted.
use Rattle.std.specs.Prelude.{ℕ, List, Option, Some, None, ◌≡◌, ◌≤◌}
use Rattle.at_base.specs.Numbers.{Numbers}
use Rattle.at_base.specs.IdText.{IsId}
use Rattle.at_base.specs.declared.epr.Epr.{Epr}
use Rattle.at_base.specs.declared.epr.Reply.TheVariants as replies
use Rattle.at_base.specs.declared.message.Message.{Message}
use Rattle.at_base.specs.declared.message.Message.TheVariants as messages
use Rattle.at_base.specs.declared.message.Register.{Register}
use Rattle.at_base.specs.declared.target.Target.{Target}
use Rattle.at_base.specs.declared.target.Target.TheVariants as targets
use Rattle.at_base.specs.declared.record.Record.{Record}
use Rattle.at_base.specs.declared.outs.Post.{Post}
use Rattle.at_model.specs.Book.{Book}
use Rattle.endpoints.specs.Addresses.{endpoint_of, protocol_of, completion_protocol}
use Rattle.at_model.specs.Posts.{register_post}
use Rattle.at_model.specs.Recovery.{last_incarnation}
use Rattle.at_model.specs.World.{Node, Posted, World, WorldEvent, nth, run_of, Hosts, HaveOwnAddresses}
use Rattle.model_laws.specs.Agreement.{IsIn}
use Rattle.model_laws.specs.Laws.{IsDrawn}

-- The target of the item of this id that registers for this protocol: a participant for that of its kind, Volatile or Durable
-- Two Phase Commit, and an initiator for Completion (WS-AtomicTransaction 1.2, sections 3.2 and 3.3).
abbrev pub RegistersFor : Target → Numbers → List ℕ → Type 0
RegistersFor (targets.Participant item kind) id protocol = (item ≡ id) × (protocol ≡ protocol_of kind)
RegistersFor (targets.Initiator item) id protocol = (item ≡ id) × (protocol ≡ completion_protocol)
RegistersFor other id protocol = ⊥

-- A Register that one of a node's own items posts: what it asks for, and whom it names, is the item itself, and so is the
-- endpoint for its answer.
pub record IsOwnRegister (P : Target → Numbers → Type 0) (base : List ℕ) (p : Post) (r : Register) : Type 0 where
  pub own : Target
  pub id : Numbers
  pub registers : RegistersFor own id r.protocol
  pub known : P own id
  pub participant : r.participant ≡ endpoint_of base own
  pub reply : p.reply ≡ Some (replies.At r.participant)
  -- it is the same message each time it is sent, wherever it goes
  pub to : Epr
  pub whole : p ≡ register_post base own r.protocol to

-- A post that is one of an item's own where it is a Register.
abbrev pub Whose : (Target → Numbers → Type 0) → List ℕ → Post → Message → Type 0
Whose P base p (messages.Register r) = IsOwnRegister P base p r
Whose P base p other = Unit {0}

abbrev pub IsWhose : (Target → Numbers → Type 0) → List ℕ → Post → Type 0
IsWhose P base p = Whose P base p p.message

-- the node made the id: while it is down, in one of the incarnations of its records
abbrev pub HasDrawn : List Record → Option Book → Numbers → Type 0
HasDrawn rs None id = id.incarnation ≤ last_incarnation rs
HasDrawn rs (Some b) id = IsDrawn b id

abbrev pub WasDrawn : World → ℕ → Numbers → Type 0
WasDrawn w n id = (x : Node) × (nth n w.nodes ≡ Some x) × HasDrawn x.journal x.book id

-- an id that this node made, and that a path can name
abbrev pub IsOwnId : World → ℕ → Target → Numbers → Type 0
IsOwnId w n own id = IsId id × WasDrawn w n id

-- In every run each Register that was posted is one of an item of its sender, and names that item.
abbrev pub RegistersNameTheirSender : Type 0
RegistersNameTheirSender =
    (hosts : Hosts) (es : List WorldEvent) → HaveOwnAddresses hosts → (p : Posted) (r : Register) → IsIn p (run_of hosts es).posted → p.content.message ≡ messages.Register r
    → IsOwnRegister (IsOwnId (run_of hosts es) p.sender) (hosts.base_of p.sender) p.content r
