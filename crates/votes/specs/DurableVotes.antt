-- What a durable participant's vote leaves behind it (WS-AtomicTransaction 1.2, section 3.3.2): a Prepared is recorded, and who
-- votes ReadOnly is gone without a trace.
use Rattle.std.specs.Prelude.{List, [], Some, None, Bool, true, ◌||◌, ◌≡◌}
use Rattle.at_base.specs.Numbers.{Numbers}
use Rattle.at_base.specs.declared.notice.Kind.TheVariants as kinds
use Rattle.at_base.specs.declared.notice.Notice.TheVariants as notices
use Rattle.at_base.specs.declared.record.Record.{Record}
use Rattle.at_model.specs.Recovery.{is_leaf_prepared, is_voted}
use Rattle.at_model.specs.Step.{leaf_at, transaction_at}
use Rattle.at_model.specs.World.{Node, Who, World, WorldEvent, nth, run_of, Hosts, HaveOwnAddresses}
use Rattle.model_laws.specs.Agreement.{HasPosted, Stands}
use Rattle.model_laws.specs.ReachedWorlds.{Reached}
use Rattle.agreement.specs.Lives.{book_of, ends, happened_on}
use Rattle.agreement.specs.Registers.{HasDrawn}

-- a vote Prepared of this id: a leaf's, or a subordinate's
abbrev pub is_vote : Numbers → Record → Bool
is_vote id r = is_leaf_prepared id r || is_voted id r

-- the item's vote Prepared stands in its node's journal
abbrev pub HasVoted : World → Who → Type 0
HasVoted w x = (r : Record) × Stands w x.node r × (is_vote x.id r ≡ true)

abbrev pub PreparedIsRecorded : World → Type 0
PreparedIsRecorded w = (x : Who) → HasPosted w x kinds.Durable notices.Prepared → HasVoted w x

-- Its node made the item, holds it no more, and it hasn't ended.
pub record LeftNoTrace (w : World) (x : Who) : Type 0 where
  pub node : Node
  pub found : nth x.node w.nodes ≡ Some node
  pub drawn : HasDrawn node.journal node.book x.id
  pub transaction : transaction_at (book_of node) x.id ≡ None
  pub leaf : leaf_at (book_of node) x.id ≡ None
  pub ended : ends x.id (happened_on x.node w.happened) ≡ []

abbrev pub ReadOnlyIsGone : World → Type 0
ReadOnlyIsGone w = (x : Who) → HasPosted w x kinds.Durable notices.ReadOnly → LeftNoTrace w x

-- So it is in every world that is reached, and in every run.
pub record VotesAreKept : Type 0 where
  pub prepared : (hosts : Hosts) (w : World) → HaveOwnAddresses hosts → Reached hosts w → PreparedIsRecorded w
  pub read_only : (hosts : Hosts) (w : World) → HaveOwnAddresses hosts → Reached hosts w → ReadOnlyIsGone w
  pub prepared_run : (hosts : Hosts) (es : List WorldEvent) → HaveOwnAddresses hosts → PreparedIsRecorded (run_of hosts es)
  pub read_only_run : (hosts : Hosts) (es : List WorldEvent) → HaveOwnAddresses hosts → ReadOnlyIsGone (run_of hosts es)
