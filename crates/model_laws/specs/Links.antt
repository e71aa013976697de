-- A subordinate's two links in each of its phases.
use Rattle.std.specs.Prelude.{ℕ, List, Option, Some, None, Bool, ◌≡◌, ◌⊎◌}
use Rattle.std.specs.List.{AllByRecursion}
use Rattle.at_base.specs.declared.record.Record.{Record}
use Rattle.at_base.specs.declared.event.Event.{Event}
use Rattle.at_tables.specs.declared.cells.State.{State}
use Rattle.at_tables.specs.declared.cells.State.TheVariants as states
use Rattle.at_model.specs.Book.{Book, Completion, Superior, Phase}
use Rattle.at_model.specs.Step.{step}
use Rattle.at_model.specs.Recovery.{recover}

-- it registers, or has registered
abbrev pub IsJoining : State → Type 0
IsJoining states.Registering = Unit {0}
IsJoining states.Active = Unit {0}
IsJoining other = ⊥

-- it has registered, or is answered for
abbrev pub IsIdle : State → Type 0
IsIdle states.None = Unit {0}
IsIdle states.Active = Unit {0}
IsIdle other = ⊥

-- The states of the volatile and of the durable link. Once the durable link is asked, the volatile one is None
-- (WS-AtomicTransaction 1.2, section 3.3.1: volatile participants are asked first).
abbrev pub AreIn : Phase → State → State → Type 0
AreIn Phase.Registering volatile durable = IsJoining volatile × IsJoining durable
AreIn Phase.Active volatile durable = IsIdle volatile × IsJoining durable
AreIn Phase.Volatile volatile durable =
    ((volatile ≡ states.Preparing) × IsJoining durable) ⊎ ((volatile ≡ states.None) × (durable ≡ states.Preparing))
AreIn Phase.Durable volatile durable = (volatile ≡ states.None) × (durable ≡ states.Preparing)
AreIn Phase.Voted volatile durable = (volatile ≡ states.None) × (durable ≡ states.PreparedSuccess)
AreIn Phase.Committing volatile durable = (volatile ≡ states.None) × (durable ≡ states.Committing)
AreIn Phase.Aborting volatile durable = (volatile ≡ states.None) × (durable ≡ states.None)

-- A subordinate's links are as its phase wants, and it has no initiator of its own.
abbrev pub AreLinked : Phase → Option Superior → Option Completion → Type 0
AreLinked phase None completion = Unit {0}
AreLinked phase (Some s) completion = AreIn phase s.volatile.state s.durable.state × (completion ≡ None)

abbrev pub IsLinked : Book → Type 0
IsLinked b = AllByRecursion (λ t. AreLinked t.phase t.superior t.completion) b.transactions

-- Each subordinate's links follow its phase, over steps and recovery.
pub record LinksFollowPhases : Type 0 where
  pub book : (b : Book) (e : Event) (now : ℕ) (landed : Bool) → IsLinked b → IsLinked (step b e now landed).book
  pub recovered : (base : List ℕ) (rs : List Record) → IsLinked (recover base rs)
