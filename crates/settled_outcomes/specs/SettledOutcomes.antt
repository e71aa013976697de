-- What has become of everybody in a world at rest: not only that nobody waits, but that each who has voted has its outcome, and that
-- all under one root have the same (WS-AtomicTransaction 1.2, sections 1 and 3.3).
use Rattle.std.specs.Prelude.{ℕ, List, ◌++◌, Some, true, ◌≡◌, ◌⊎◌}
use Rattle.std.specs.List.{AllByRecursion}
use Rattle.at_base.specs.declared.notice.Kind.TheVariants as kinds
use Rattle.at_base.specs.declared.notice.Notice.TheVariants as notices
use Rattle.at_model.specs.Book.{Book, Transaction}
use Rattle.at_model.specs.Due.{may_expire}
use Rattle.at_model.specs.Step.{transaction_at}
use Rattle.at_model.specs.World.{Node, Who, World, WorldEvent, nth, run_of, run_on, Hosts, HaveOwnAddresses}
use Rattle.model_laws.specs.Agreement.{HasAborted, HasCommitted, HasPosted, IsOf}
use Rattle.model_laws.specs.ReachedWorlds.{Reached}
use Rattle.model_laws.specs.Settlement.{MayStart, is_settled, settle}
use Rattle.votes.specs.DurableVotes.{HasVoted}
use Rattle.votes.specs.NamedParticipants.{HasSeat}
use Rattle.outcomes.specs.Bonds.{IsUnderOne}

-- A durable participant has voted: its vote Prepared was ever recorded at its node, or it ever posted Prepared.
abbrev pub HasPromised : World → Who → Type 0
HasPromised w x = HasVoted w x ⊎ HasPosted w x kinds.Durable notices.Prepared

-- neither committed nor aborted
pub record IsUndecided (w : World) (root : Who) : Type 0 where
  pub uncommitted : HasCommitted w root → ⊥
  pub unaborted : HasAborted w root → ⊥

-- its node is up and has it in its book, undecided: it may still complete, or expire
pub record StandsOpen (w : World) (t : Who) : Type 0 where
  pub node : Node
  pub found : nth t.node w.nodes ≡ Some node
  pub book : Book
  pub up : node.book ≡ Some book
  pub transaction : Transaction
  pub stands : transaction_at book t.id ≡ Some transaction
  pub undecided : may_expire transaction.phase ≡ true

pub record HasOutcomes (w : World) : Type 0 where
  -- who has voted has committed or aborted: nobody is in doubt, and no vote is forgotten
  pub decided : (x : Who) → HasPromised w x → HasCommitted w x ⊎ HasAborted w x
  -- under a root that has committed each durable participant, through any depth, has committed or has left by ReadOnly
  pub committed : (root x : Who) → HasCommitted w root → IsOf w x root → HasCommitted w x ⊎ HasPosted w x kinds.Durable notices.ReadOnly
  -- and each that has voted has committed
  pub kept : (root x : Who) → HasCommitted w root → IsOf w x root → HasPromised w x → HasCommitted w x
  -- under a root that aborted or was lost each that has voted has aborted
  pub aborted : (root x : Who) → HasAborted w root → IsOf w x root → HasPromised w x → HasAborted w x
  -- under an undecided root too, and then it is under a subordinate that has aborted
  pub undecided : (root x : Who) → IsUndecided w root → IsOf w x root → HasPromised w x → HasAborted w x × IsUnderOne w (HasAborted w) x
  -- so of the participants of the root itself none has voted
  pub unvoted : (root x : Who) (number : ℕ) → IsUndecided w root → HasSeat w root number kinds.Durable x → HasPromised w x → ⊥
  -- and such a root isn't forgotten, or its participants have left
  pub held : (root x : Who) (number : ℕ) → IsUndecided w root → HasSeat w root number kinds.Durable x
      → StandsOpen w root ⊎ HasPosted w x kinds.Durable notices.ReadOnly

-- So it is in every settled world that is reached, in every run that ends settled, and where the events of `settle` have
-- happened behind any run in which no node has spent its incarnations.
pub record OutcomesAreSettled : Type 0 where
  pub reached : (hosts : Hosts) (w : World) → HaveOwnAddresses hosts → Reached hosts w → is_settled w ≡ true → HasOutcomes w
  pub runs : (hosts : Hosts) (es : List WorldEvent) → HaveOwnAddresses hosts → is_settled (run_of hosts es) ≡ true → HasOutcomes (run_of hosts es)
  pub settles : (hosts : Hosts) (es : List WorldEvent) → HaveOwnAddresses hosts → AllByRecursion MayStart (run_of hosts es).nodes
      → HasOutcomes (run_on (run_of hosts es) (settle (run_of hosts es)))
  -- who has voted once has voted for good: so whoever had voted before those events has its outcome behind them
  pub stands : (hosts : Hosts) (es more : List WorldEvent) (x : Who) → HasPromised (run_of hosts es) x → HasPromised (run_of hosts (es ++ more)) x
