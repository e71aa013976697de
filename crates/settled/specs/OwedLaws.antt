-- What is owed is put on its way by each tick, and stays owed; and where nothing is on its way any more, a world is at rest.
use Rattle.std.specs.Prelude.{ℕ, List, Some, None, true, false, is_none, drop, length, ◌≡◌, ◌≤◌}
use Rattle.at_model.specs.World.{Node, Posted, World, WorldEvent, nth, run_of, Hosts, HaveOwnAddresses}
use Rattle.model_laws.specs.Agreement.{IsIn}
use Rattle.model_laws.specs.Settlement.{is_settled}
use Rattle.settling.specs.Resends.{ticked_at}
use Rattle.settled.specs.CalmSteps.{Goes}
use Rattle.settled.specs.OwedMessages.{CommitsAreOwed, OutcomesAreOwed, RegistrationsAreOwed, VotesAreOwed}
use Rattle.settled.specs.EndedRegistrations.{NoneRouted}

-- Behind a tick of its node all that is owed to a node's seats and participants is on its way, behind messages that were passed by.
pub record TicksAskForAll : Type 0 where
  pub votes : (hosts : Hosts) (es : List WorldEvent) (n passed : ℕ) → HaveOwnAddresses hosts → passed ≤ length (run_of hosts es).posted
      → VotesAreOwed hosts (λ m. m ≡ n) (ticked_at n (run_of hosts es)) (drop passed (ticked_at n (run_of hosts es)).posted)
  pub commits : (hosts : Hosts) (es : List WorldEvent) (n passed : ℕ) → HaveOwnAddresses hosts → passed ≤ length (run_of hosts es).posted
      → CommitsAreOwed hosts (λ m. m ≡ n) (ticked_at n (run_of hosts es)) (drop passed (ticked_at n (run_of hosts es)).posted)
  pub outcomes : (hosts : Hosts) (es : List WorldEvent) (n passed : ℕ) → HaveOwnAddresses hosts → passed ≤ length (run_of hosts es).posted
      → OutcomesAreOwed hosts (λ m. m ≡ n) (ticked_at n (run_of hosts es)) (drop passed (ticked_at n (run_of hosts es)).posted)
  pub registrations : (hosts : Hosts) (es : List WorldEvent) (n passed : ℕ) → HaveOwnAddresses hosts → passed ≤ length (run_of hosts es).posted
      → RegistrationsAreOwed hosts (λ m. m ≡ n) (ticked_at n (run_of hosts es)) (drop passed (ticked_at n (run_of hosts es)).posted)

-- Each step keeps what is owed to the nodes up to some number. A vote is kept where nobody that has a seat registers any more: who
-- registers ignores a Prepare.
pub record OwedIsKept : Type 0 where
  pub votes : (hosts : Hosts) (most : ℕ) (u v : World) (before after : List Posted) → Goes hosts u v before after → NoneRouted hosts u → VotesAreOwed hosts (λ n. n ≤ most) u before
      → VotesAreOwed hosts (λ n. n ≤ most) v after
  pub commits : (hosts : Hosts) (most : ℕ) (u v : World) (before after : List Posted) → Goes hosts u v before after → CommitsAreOwed hosts (λ n. n ≤ most) u before
      → CommitsAreOwed hosts (λ n. n ≤ most) v after
  pub outcomes : (hosts : Hosts) (most : ℕ) (u v : World) (before after : List Posted) → Goes hosts u v before after → OutcomesAreOwed hosts (λ n. n ≤ most) u before
      → OutcomesAreOwed hosts (λ n. n ≤ most) v after
  pub registrations : (hosts : Hosts) (most : ℕ) (u v : World) (before after : List Posted) → Goes hosts u v before after → RegistrationsAreOwed hosts (λ n. n ≤ most) u before
      → RegistrationsAreOwed hosts (λ n. n ≤ most) v after
  pub routed : (hosts : Hosts) (u v : World) (before after : List Posted) → Goes hosts u v before after → NoneRouted hosts u → NoneRouted hosts v

-- Where every node is up, nobody gets a message of these any more, and votes, commits and outcomes are owed by these messages alone or
-- by who is busy, the world is at rest.
pub record QuietWorldsRest : Type 0 where
  pub rests : (hosts : Hosts) (es : List WorldEvent) (queue : List Posted) → HaveOwnAddresses hosts → ((n : ℕ) (x : Node) → nth n (run_of hosts es).nodes ≡ Some x → is_none x.book ≡ false)
      → ((q : Posted) → IsIn q queue → q.receiver ≡ None) → VotesAreOwed hosts (λ n. Unit {0}) (run_of hosts es) queue → CommitsAreOwed hosts (λ n. Unit {0}) (run_of hosts es) queue
      → OutcomesAreOwed hosts (λ n. Unit {0}) (run_of hosts es) queue → is_settled (run_of hosts es) ≡ true
