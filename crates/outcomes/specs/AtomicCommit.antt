-- Atomic commit as a machine of its own, small enough to be read first (WS-AtomicTransaction 1.2, section 1). Each member of an
-- activity works, votes, and commits or aborts: it commits only where everybody is ready, and aborts only where nobody has
-- committed. No node, journal or message occurs in it. Every event of a run of the model, seen at one root, is one step of this
-- machine (specs/Statuses); and wherever the machine goes, none that committed is beside one that aborted.
use Rattle.std.specs.Prelude.{List, ◌≡◌, ◌⊎◌}
use Rattle.at_model.specs.World.{Who}
use Rattle.model_laws.specs.Agreement.{IsIn}

-- What a member has done: nothing yet; voted Prepared; voted ReadOnly, and left; committed; or aborted.
pub data Status : Type 0 where
  Working : Status
  Prepared : Status
  Left : Status
  Committed : Status
  Aborted : Status

-- who joined, and under whom
pub record Joined : Type 0 where
  pub under : Who
  pub member : Who

-- A state of the machine: who has joined, and where everybody stands.
pub record State : Type 0 where
  pub joined : List Joined
  pub status : Who → Status

-- The members: the root, and whoever joined under a member.
pub data IsMember (s : State) (root : Who) : Who → Type 0 where
  leads : {x : Who} → x ≡ root → IsMember s root x
  under : {x : Who} (t : Who) → IsIn (record { under = t; member = x }) s.joined → IsMember s root t → IsMember s root x

-- it has voted, and won't abort by itself
abbrev pub IsReady : Status → Type 0
IsReady Status.Working = ⊥
IsReady Status.Prepared = Unit {0}
IsReady Status.Left = Unit {0}
IsReady Status.Committed = Unit {0}
IsReady Status.Aborted = ⊥

abbrev pub AllReady : Who → State → Type 0
AllReady root s = (y : Who) → IsMember s root y → IsReady (s.status y)

abbrev pub NoneCommitted : Who → State → Type 0
NoneCommitted root s = (y : Who) → IsMember s root y → s.status y ≡ Status.Committed → ⊥

-- What one member does in a step: nothing; it votes; it commits, where everybody is ready, the root by its decision and any
-- other behind its vote; or it aborts, where nobody has committed. What it has done it never undoes.
pub data Move (before after : Status) (root ready uncommitted : Type 0) : Type 0 where
  stays : after ≡ before → Move before after root ready uncommitted
  prepares : before ≡ Status.Working → after ≡ Status.Prepared → Move before after root ready uncommitted
  leaves : before ≡ Status.Working → after ≡ Status.Left → Move before after root ready uncommitted
  commits : (before ≡ Status.Prepared) ⊎ ((before ≡ Status.Working) × root) → after ≡ Status.Committed → ready → Move before after root ready uncommitted
  aborts : (before ≡ Status.Working) ⊎ (before ≡ Status.Prepared) → after ≡ Status.Aborted → uncommitted → Move before after root ready uncommitted

-- A step of the machine: each member moves or stays, nobody drops out, and others join while nobody has committed.
pub record Step (root : Who) (before after : State) : Type 0 where
  pub moves : (x : Who) → IsMember after root x → Move (before.status x) (after.status x) (x ≡ root) (AllReady root after) (NoneCommitted root after)
  pub keeps : (x : Who) → IsMember before root x → IsMember after root x
  pub joins : (x y : Who) → IsMember after root x → IsMember after root y → after.status y ≡ Status.Committed → IsMember before root x

-- The states to which the machine goes from one in which everybody works.
pub data Goes (root : Who) : State → Type 0 where
  begins : {s : State} → ((x : Who) → s.status x ≡ Status.Working) → Goes root s
  goes : {s : State} (before : State) → Goes root before → Step root before s → Goes root s

-- The machine is consistent: wherever it goes, none that committed is beside one that aborted.
abbrev pub IsConsistent : Type 0
IsConsistent =
    (root : Who) (s : State) → Goes root s → (x y : Who) → IsMember s root x → IsMember s root y → s.status x ≡ Status.Committed → s.status y ≡ Status.Aborted → ⊥
