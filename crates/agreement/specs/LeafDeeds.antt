-- What one step may do to a leaf, a participant that does work of its own (WS-AtomicTransaction 1.2, section 3.3): with which record,
-- which effect and which messages, and what is left of it.
use Rattle.std.specs.Prelude.{ℕ, List, [], ◌∷◌, Option, Some, None, Bool, true, ◌≡◌, ◌⊎◌}
use Rattle.std.specs.List.{AllByRecursion}
use Rattle.at_base.specs.Names.{fault_name}
use Rattle.at_base.specs.declared.fault.Fault.TheVariants.{InvalidState, UnknownTransaction}
use Rattle.at_base.specs.declared.epr.Epr.{Epr}
use Rattle.at_base.specs.declared.notice.Kind.{Kind}
use Rattle.at_base.specs.declared.notice.Kind.TheVariants as kinds
use Rattle.at_base.specs.declared.notice.Vote.TheVariants as votes
use Rattle.at_base.specs.declared.notice.Notice.{Notice}
use Rattle.at_base.specs.declared.notice.Notice.TheVariants as notices
use Rattle.at_base.specs.declared.message.Message.{Message}
use Rattle.at_base.specs.declared.message.Message.TheVariants as messages
use Rattle.at_base.specs.declared.record.Record.{Record}
use Rattle.at_base.specs.declared.record.Record.TheVariants as records
use Rattle.at_base.specs.declared.event.Arrived.{Arrived}
use Rattle.at_base.specs.declared.event.Item.TheVariants as items
use Rattle.at_base.specs.declared.event.Event.{Event}
use Rattle.at_base.specs.declared.event.Event.TheVariants as events
use Rattle.at_base.specs.declared.event.Moment.{Moment}
use Rattle.at_base.specs.declared.outs.Out.{Out}
use Rattle.at_base.specs.declared.outs.Post.{Post}
use Rattle.at_base.specs.declared.outs.Ending.TheVariants as endings
use Rattle.at_tables.specs.declared.cells.State.TheVariants as states
use Rattle.at_model.specs.Book.{Book, Leaf, WorkRequest}
use Rattle.at_model.specs.Posts.{fault_post, notice_post, reply_post, stored_or, to_each}
use Rattle.at_model.specs.Moves.{Change, Decision}
use Rattle.at_model.specs.Leaves.{answers_leaf, leaf_ended, leaf_register, leaf_target}
use Rattle.at_model.specs.Due.{has_come}
use Rattle.at_model.specs.Recovery.{recover}
use Rattle.at_model.specs.Step.{at_time, leaf_plan, moment_of, put_leaf, step}
use Rattle.at_model.specs.World.{Node, WorldEvent, nth, run_of, Hosts}
use Rattle.model_laws.specs.Shapes.{MovesLeaf}
use Rattle.agreement.specs.Branches.{Became, InBranches, IsNoNotice}

-- A leaf registers, works under a coordinator that it knows, or has voted Prepared and waits for the outcome.
pub data LeafStands (l : Leaf) : Type 0 where
  registers : (r : WorkRequest) → l.state ≡ states.Registering → l.coordinator ≡ None → l.request ≡ Some r → LeafStands l
  works : (coordinator : Epr) → l.state ≡ states.Active → l.coordinator ≡ Some coordinator → l.request ≡ None → LeafStands l
  waits : (coordinator : Epr) → l.state ≡ states.PreparedSuccess → l.coordinator ≡ Some coordinator → l.request ≡ None → l.vote ≡ votes.Prepared → LeafStands l

abbrev pub LeavesStand : Book → Type 0
LeavesStand b = AllByRecursion LeafStands b.leaves

-- So stands each leaf over each start and each step, and so in every run.
pub record LeafStates : Type 0 where
  pub book : (b : Book) (e : Event) (now : ℕ) (landed : Bool) → LeavesStand b → LeavesStand (step b e now landed).book
  pub recovered : (base : List ℕ) (rs : List Record) → LeavesStand (recover base rs)
  pub books : (hosts : Hosts) (es : List WorldEvent) (n : ℕ) (x : Node) (b : Book) → nth n (run_of hosts es).nodes ≡ Some x → x.book ≡ Some b → LeavesStand b

-- a message that came to the leaf
pub record CameTo (e : Event) (l : Leaf) (what : Message) : Type 0 where
  pub arrived : Arrived
  pub event : e ≡ events.Arrived arrived
  pub target : arrived.target ≡ leaf_target l
  pub message : arrived.message ≡ what

abbrev pub Notified : Event → Leaf → Notice → Type 0
Notified e l n = CameTo e l (messages.Notice n)

-- what the leaf tells its coordinator
abbrev pub leaf_notice_to : Moment → Leaf → Epr → Notice → Post
leaf_notice_to m l to n = notice_post m.base (leaf_target l) to n

-- What is recorded first: of a durable leaf alone.
abbrev pub for_durable : Kind → Record → Option Record
for_durable kinds.Durable r = Some r
for_durable kinds.Volatile r = None

-- What is left of a leaf that goes on as it did, and what it says.
pub data LeafIdles (m : Moment) (e : Event) (l : Leaf) (left : Leaf) (ps : List Post) : Type 0 where
  -- nothing
  rests : left ≡ l → ps ≡ [] → LeafIdles m e l left ps
  -- its Register was answered, and so is its Work
  registered : (coordinator : Epr) (r : WorkRequest) (came : CameTo e l (messages.RegisterResponse coordinator)) → answers_leaf m came.arrived.relates l ≡ true
      → l.state ≡ states.Registering → l.request ≡ Some r → left ≡ record l { state = states.Active; coordinator = Some coordinator; request = None }
      → ps ≡ reply_post (Some r.reply) r.id messages.WorkDone ∷ [] → LeafIdles m e l left ps
  -- it is due, and registers again
  registers_again : (r : WorkRequest) → e ≡ events.Due (items.Leaf l.id) → l.state ≡ states.Registering → l.request ≡ Some r → left ≡ record l { sent = Some m.now }
      → ps ≡ leaf_register m l r.registration ∷ [] → LeafIdles m e l left ps
  -- it has voted Prepared, and says so again: when it is due, or on a further Prepare
  votes_again : (to : Epr) → (e ≡ events.Due (items.Leaf l.id)) ⊎ Notified e l notices.Prepare → l.state ≡ states.PreparedSuccess → l.coordinator ≡ Some to
      → left ≡ record l { sent = Some m.now } → ps ≡ leaf_notice_to m l to notices.Prepared ∷ [] → LeafIdles m e l left ps

-- Why a leaf aborts that hasn't voted Prepared, and what it says.
pub data LeafAborts (m : Moment) (e : Event) (l : Leaf) (ps : List Post) : Type 0 where
  -- a Rollback came; while it registers, the answer goes to its From
  asked : (came : Notified e l notices.Rollback) → ps ≡ to_each (stored_or l.coordinator came.arrived.from) (λ to. leaf_notice_to m l to notices.Aborted) → LeafAborts m e l ps
  -- a Commit came, too early
  misled : (came : Notified e l notices.Commit)
      → ps ≡ to_each (stored_or l.coordinator came.arrived.from) (λ to. fault_post (Some to) came.arrived.id InvalidState) → LeafAborts m e l ps
  -- a Prepare came: it votes Aborted, or its vote Prepared isn't recorded
  unprepared : (to : Epr) → Notified e l notices.Prepare → l.state ≡ states.Active → (l.vote ≡ votes.Aborted) ⊎ ((l.vote ≡ votes.Prepared) × (l.kind ≡ kinds.Durable))
      → l.coordinator ≡ Some to → ps ≡ leaf_notice_to m l to notices.Aborted ∷ [] → LeafAborts m e l ps
  -- its Register was refused, and so is its Work
  refused : (name : List ℕ) (r : WorkRequest) (came : CameTo e l (messages.Fault name)) → answers_leaf m came.arrived.relates l ≡ true → l.state ≡ states.Registering
      → l.request ≡ Some r → ps ≡ reply_post (Some r.reply) r.id messages.WorkRefused ∷ [] → LeafAborts m e l ps
  -- its time is over before it was registered
  expired : (r : WorkRequest) → e ≡ events.Due (items.Leaf l.id) → has_come m.now l.deadline ≡ true → l.state ≡ states.Registering → l.request ≡ Some r
      → ps ≡ reply_post (Some r.reply) r.id messages.WorkRefused ∷ [] → LeafAborts m e l ps
  -- or while it works
  gave_up : (to : Epr) → e ≡ events.Due (items.Leaf l.id) → has_come m.now l.deadline ≡ true → l.state ≡ states.Active → l.coordinator ≡ Some to
      → ps ≡ leaf_notice_to m l to notices.Aborted ∷ [] → LeafAborts m e l ps

-- What happens to a leaf, behind this record or none.
pub data LeafDeed (m : Moment) (e : Event) (l : Leaf) (entry : Option Record) (c : Change Leaf) : Type 0 where
  idles : (left : Leaf) → LeafIdles m e l left c.posts → entry ≡ None → c.item ≡ Some left → c.effects ≡ [] → LeafDeed m e l entry c
  aborts : (l.state ≡ states.Registering) ⊎ (l.state ≡ states.Active) → LeafAborts m e l c.posts → entry ≡ None → c.item ≡ None
      → c.effects ≡ leaf_ended l endings.Aborted ∷ [] → LeafDeed m e l entry c
  -- it votes Prepared on a Prepare, where it is durable behind its record
  prepares : (to : Epr) → Notified e l notices.Prepare → l.state ≡ states.Active → l.vote ≡ votes.Prepared → l.coordinator ≡ Some to
      → entry ≡ for_durable l.kind (records.LeafPrepared l.id to l.key l.value) → c.item ≡ Some (record l { state = states.PreparedSuccess; sent = Some m.now })
      → c.effects ≡ [] → c.posts ≡ leaf_notice_to m l to notices.Prepared ∷ [] → LeafDeed m e l entry c
  -- it votes ReadOnly on a Prepare
  leaves : (to : Epr) → Notified e l notices.Prepare → l.state ≡ states.Active → l.vote ≡ votes.ReadOnly → l.coordinator ≡ Some to → entry ≡ None → c.item ≡ None
      → c.effects ≡ [] → c.posts ≡ leaf_notice_to m l to notices.ReadOnly ∷ [] → LeafDeed m e l entry c
  -- its coordinator knows it no more
  dropped : CameTo e l (messages.Fault (fault_name UnknownTransaction)) → l.kind ≡ kinds.Volatile → entry ≡ None → c.item ≡ None → c.effects ≡ [] → c.posts ≡ [] → LeafDeed m e l entry c
  -- it commits on a Commit, where it is durable behind its record
  commits : (to : Epr) → Notified e l notices.Commit → l.state ≡ states.PreparedSuccess → l.coordinator ≡ Some to → entry ≡ for_durable l.kind (records.LeafCommitted l.id)
      → c.item ≡ None → c.effects ≡ leaf_ended l endings.Committed ∷ [] → c.posts ≡ leaf_notice_to m l to notices.Committed ∷ [] → LeafDeed m e l entry c
  -- and rolls back on a Rollback likewise
  rolls_back : (to : Epr) → Notified e l notices.Rollback → l.state ≡ states.PreparedSuccess → l.coordinator ≡ Some to → entry ≡ for_durable l.kind (records.LeafAborted l.id)
      → c.item ≡ None → c.effects ≡ leaf_ended l endings.Aborted ∷ [] → c.posts ≡ leaf_notice_to m l to notices.Aborted ∷ [] → LeafDeed m e l entry c

-- an outcome that isn't recorded is waited for as before: the coordinator asks again
abbrev pub LeafWaitsOn : Leaf → Record → Type 0
LeafWaitsOn l r = (r ≡ records.LeafCommitted l.id) ⊎ (r ≡ records.LeafAborted l.id)

-- Why a leaf posts a message, by what happens to it then.
pub data LeafSays (m : Moment) (e : Event) (l : Leaf) (c : Change Leaf) (p : Post) : Type 0 where
  -- Prepared: it waits for the outcome
  prepared : (to : Epr) (left : Leaf) → l.coordinator ≡ Some to → p ≡ leaf_notice_to m l to notices.Prepared → c.item ≡ Some left → left.state ≡ states.PreparedSuccess
      → LeafSays m e l c p
  -- ReadOnly: it leaves without a trace
  read_only : (to : Epr) → l.coordinator ≡ Some to → p ≡ leaf_notice_to m l to notices.ReadOnly → l.state ≡ states.Active → c.item ≡ None → c.effects ≡ [] → LeafSays m e l c p
  -- Committed: it commits
  committed : (to : Epr) → l.coordinator ≡ Some to → p ≡ leaf_notice_to m l to notices.Committed → c.item ≡ None → c.effects ≡ leaf_ended l endings.Committed ∷ []
      → LeafSays m e l c p
  -- Aborted: it aborts; while it knows no coordinator, it says so to the From of the Rollback that came
  aborted : (to : Epr) → (l.coordinator ≡ Some to) ⊎ ((came : Notified e l notices.Rollback) × (came.arrived.from ≡ Some to)) → p ≡ leaf_notice_to m l to notices.Aborted
      → c.item ≡ None → c.effects ≡ leaf_ended l endings.Aborted ∷ [] → LeafSays m e l c p
  -- no notification
  tells_nothing : IsNoNotice p.message → LeafSays m e l c p

-- Whatever comes to a leaf and whenever it is due, one of these happens, with the record and without.
pub record LeavesDo : Type 0 where
  pub deed : (b : Book) (e : Event) (now : ℕ) (l : Leaf) (d : Decision Leaf) → LeafStands l → MovesLeaf b e now l d
      → InBranches (LeafDeed (moment_of b now) e l) (LeafWaitsOn l) d
  -- so each step that moves a leaf is one of these, or undone
  pub step : (b : Book) (e : Event) (now : ℕ) (landed : Bool) (l : Leaf) (answer : List Out) (d : Decision Leaf) → LeafStands l → MovesLeaf b e now l d
      → Became (LeafDeed (moment_of b now) e l) (LeafWaitsOn l) b (put_leaf l.id (at_time now b)) answer (leaf_plan b now answer l d) landed
  -- and each message that it posts has its reason
  pub says : (m : Moment) (e : Event) (l : Leaf) (entry : Option Record) (c : Change Leaf) → LeafDeed m e l entry c → AllByRecursion (LeafSays m e l c) c.posts
