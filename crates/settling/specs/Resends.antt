-- Once a node has ticked, long enough that all is quiet, each of its transactions and leaves has sent again what it waits for.
use Rattle.std.specs.Prelude.{ℕ, List, [], ◌++◌, Some, None, ◌≡◌, ◌⊎◌}
use Rattle.std.specs.List.{AllByRecursion}
use Rattle.at_base.specs.Numbers.{Numbers}
use Rattle.at_base.specs.declared.outs.Post.{Post}
use Rattle.at_model.specs.Book.{Book, Leaf, Phase, Transaction}
use Rattle.at_model.specs.Due.{leaf_again, transaction_again}
use Rattle.at_base.specs.declared.limits.TheConstants.{RESEND_AFTER}
use Rattle.at_model.specs.Step.{leaf_at, moment_of, transaction_at}
use Rattle.at_model.specs.World.{Node, Posted, Tick, Turn, World, WorldEvent, nth, run_of, world_step, Hosts}
use Rattle.model_laws.specs.Agreement.{IsIn}

-- it is among these messages
abbrev pub HasPosted : List Posted → Post → Type 0
HasPosted ps p = (q : Posted) × IsIn q ps × (q.content ≡ p)

-- these were posted in between
pub record ArePosted (w v : World) (ps : List Post) : Type 0 where
  pub new : List Posted
  pub posted : v.posted ≡ w.posted ++ new
  pub each : AllByRecursion (HasPosted new) ps

abbrev pub ticked_at : ℕ → World → World
ticked_at n w = world_step w (Turn n (Tick RESEND_AFTER) [] None)

-- In every run; a transaction that aborts asks nobody for an answer.
pub record TicksAsk : Type 0 where
  pub transactions : (hosts : Hosts) (es : List WorldEvent) (n : ℕ) (x : Node) (b : Book) (id : Numbers) (t : Transaction) → nth n (ticked_at n (run_of hosts es)).nodes ≡ Some x → x.book ≡ Some b
      → transaction_at b id ≡ Some t → (t.phase ≡ Phase.Aborting) ⊎ ArePosted (run_of hosts es) (ticked_at n (run_of hosts es)) (transaction_again b.base t)
  pub leaves : (hosts : Hosts) (es : List WorldEvent) (n : ℕ) (x : Node) (b : Book) (id : Numbers) (l : Leaf) → nth n (ticked_at n (run_of hosts es)).nodes ≡ Some x → x.book ≡ Some b
      → leaf_at b id ≡ Some l → ArePosted (run_of hosts es) (ticked_at n (run_of hosts es)) (leaf_again (moment_of b x.clock) l)
