-- What the records of journals say of the world in which they stand.
use Rattle.std.specs.Prelude.{ℕ, List, [], ◌∷◌, Some, true, ◌≡◌, ◌⊎◌, ◌<◌}
use Rattle.std.specs.List.{AllByRecursion}
use Rattle.at_base.specs.Numbers.{Numbers}
use Rattle.at_base.specs.declared.epr.Epr.{Epr}
use Rattle.at_base.specs.declared.record.Record.{Record}
use Rattle.at_base.specs.declared.record.Record.TheVariants as records
use Rattle.at_base.specs.declared.record.Seated.{Seated}
use Rattle.at_base.specs.declared.target.Target.{Target}
use Rattle.at_model.specs.Recovery.{is_voted}
use Rattle.at_model.specs.World.{HaveOwnAddresses, Hosts, Node, Who, World, WorldEvent, nth, run_of}
use Rattle.model_laws.specs.Agreement.{HasAborted, HasCommitted, IsIn, Stands}
use Rattle.enlistments.specs.Leads.{LeadsTo}
use Rattle.outcomes.specs.Bonds.{IsUnder}

-- The endpoint is that of a target of a node.
pub record IsLed (hosts : Hosts) (c : Epr) : Type 0 where
  pub node : ℕ
  pub target : Target
  pub leads : LeadsTo hosts c node target

-- so the superior of a vote
abbrev pub RecordLed : Hosts → Record → Type 0
RecordLed hosts (records.LeafPrepared id coordinator key value) = IsLed hosts coordinator
RecordLed hosts (records.Voted id coordinator seats) = IsLed hosts coordinator
RecordLed hosts other = Unit {0}

-- a record of a transaction's commit stands there
abbrev pub CommitStands : World → ℕ → Numbers → Type 0
CommitStands w n id = Stands w n (records.SubCommitted id) ⊎ ((seats : List Seated) × Stands w n (records.Decided id seats))

-- What a record says of how its item ended. An end alone says that it aborted (abort is presumed: WS-AtomicTransaction 1.2, section
-- 3.3.4).
abbrev pub RecordSays : World → ℕ → Record → Type 0
RecordSays w n (records.LeafCommitted id) = HasCommitted w (record { node = n; id = id })
RecordSays w n (records.LeafAborted id) = HasAborted w (record { node = n; id = id })
RecordSays w n (records.SubCommitted id) = HasCommitted w (record { node = n; id = id })
RecordSays w n (records.Ended id) = HasAborted w (record { node = n; id = id }) ⊎ CommitStands w n id
RecordSays w n other = Unit {0}

-- behind a subordinate's commit stands no vote of it
abbrev pub HasNoVote : Numbers → List Record → Type 0
HasNoVote id rs = (r : Record) → IsIn r rs → is_voted id r ≡ true → ⊥

abbrev pub IsBefore : Record → List Record → Type 0
IsBefore (records.SubCommitted id) rs = HasNoVote id rs
IsBefore other rs = Unit {0}

abbrev pub IsOrdered : List Record → Type 0
IsOrdered [] = Unit {0}
IsOrdered (r ∷ rs) = IsBefore r rs × IsOrdered rs

pub record JournalSays (w : World) (n : ℕ) (rs : List Record) : Type 0 where
  pub says : AllByRecursion (RecordSays w n) rs
  pub ordered : IsOrdered rs

-- it has voted, as a subordinate
abbrev pub VotesUp : World → Who → Type 0
VotesUp w x = (superior : Epr) × (seats : List Seated) × Stands w x.node (records.Voted x.id superior seats)

-- Subordinates that have voted can be ranked: who is under another has the lesser rank. So no superiors come back to one.
pub record AreRanked (w : World) : Type 0 where
  pub rank : Who → ℕ
  pub bound : ℕ
  pub within : (x : Who) → VotesUp w x → rank x < bound
  pub rises : (t x : Who) → VotesUp w t → VotesUp w x → IsUnder w t x → rank x < rank t

pub record RunsRecord : Type 0 where
  pub led : (hosts : Hosts) (es : List WorldEvent) → HaveOwnAddresses hosts → (n : ℕ) (x : Node) → nth n (run_of hosts es).nodes ≡ Some x → (r : Record) → IsIn r x.journal → RecordLed hosts r
  pub says : (hosts : Hosts) (es : List WorldEvent) → HaveOwnAddresses hosts → (n : ℕ) (x : Node) → nth n (run_of hosts es).nodes ≡ Some x → JournalSays (run_of hosts es) n x.journal
  pub ranked : (hosts : Hosts) (es : List WorldEvent) → HaveOwnAddresses hosts → AreRanked (run_of hosts es)
