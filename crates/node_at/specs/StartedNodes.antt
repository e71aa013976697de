-- A node that was started.
use Rattle.std.specs.Prelude.{ℕ, List, Bool, Result, Ok, Err, false, [], ◌++◌, ◌≡◌, ◌≤◌, ◌<◌, ◌⊎◌, map, option_map}
use Rattle.at_base.specs.declared.record.Record.{Record}
use Rattle.at_model.specs.Recovery.{last_incarnation, recover}
use Rattle.decision_log.specs.KeptRecords.{kept_of}
use Rattle.journal_at.specs.declared.journal.Journal.{Journal}
use Rattle.journal_at.specs.declared.version.Version.{Version}
use Rattle.journal_at.specs.declared.version.Version.TheVariants.{Two}
use Rattle.journal_at.specs.StandingBodies.{Counted}
use Rattle.site_model.specs.Told.{Told, Files, Between, Elapses, done, sent_by}
use Rattle.node_at.specs.declared.fault.StartFault.{StartFault}
use Rattle.node_at.specs.declared.node.Node.{Node}
use Rattle.node_at.specs.declared.role.Role.{Role}
use Rattle.node_at.specs.Sizes.{size_of}
use Rattle.node_at.specs.Starts.{CannotStart, IsJournalBehind, IsLiveBehind, IsOpen, IsRead, OnTheWay, StandFor, start_calls, started}
use Rattle.node_at.specs.State.{State, seen}

-- A node started: its book is that of the records that the files stood for and of its Start, which stands whatever a crash
-- leaves.
pub record IsStarted (base : List ℕ) (limit : ℕ) (n : State) (old new : Told) : Type 0 where
  pub version : Version
  pub rs : List Record
  pub bare : Bool
  pub journal : Journal
  pub was : IsRead bare version rs journal old
  pub live : IsLiveBehind version journal n.journal.live
  pub behind : IsJournalBehind version journal n.journal
  pub least : last_incarnation rs < 4294967295
  pub fits : size_of (started version rs) ≤ limit
  pub book : n.book ≡ recover base (started version rs)
  pub kept : n.kept ≡ kept_of Two (started version rs)
  pub holds : IsOpen Two (started version rs) n.journal new
  pub limit_is : n.journal.limit ≡ limit
  pub effects : n.effects ≡ []
  pub runs : n.halted ≡ false
  pub grown : new.calls ≡ option_map (λ l. l ++ map done (start_calls bare version rs journal n.journal.live)) old.calls
  pub silent : sent_by (map done (start_calls bare version rs journal n.journal.live)) ≡ []
  pub images : (c : Files) → new.images c → StandFor Two (started version rs) c
  pub time : Elapses old new (λ l c. Between old new l × (old.images c ⊎ OnTheWay version rs c))
  pub counted : Counted old new

abbrev pub Starts : Result Node StartFault → List ℕ → Role → ℕ → Told → Told → Type 0
Starts (Ok n) base role limit old new = IsStarted base limit (seen n) old new × (n.role ≡ role)
Starts (Err e) base role limit old new = CannotStart e limit old new
