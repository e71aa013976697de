-- What an audit says of the journals of the nodes of a run.
use Rattle.std.specs.Prelude.{ℕ, List, Some, map, ◌≡◌}
use Rattle.at_model.specs.World.{HaveOwnAddresses, Hosts, Node, World, WorldEvent, nth, run_of}
use Rattle.audit_at.specs.Superiors.{Log}
use Rattle.audit_at.specs.Verdicts.{verdict_of}
use Rattle.audit_at.specs.declared.verdict.Verdict.{Verdict}
use Rattle.audit_at.specs.declared.verdict.Verdict.TheVariants as verdicts
use Rattle.model_laws.specs.Agreement.{IsIn}

-- a node's journal, under its base
abbrev pub log_of : Node → Log
log_of x = record { base = x.base; records = x.journal }

abbrev pub logs_of : World → List Log
logs_of w = map log_of w.nodes

-- each is that of a node
abbrev pub AreJournalsOf : World → List Log → Type 0
AreJournalsOf w logs = (log : Log) → IsIn log logs → (n : ℕ) × (x : Node) × (nth n w.nodes ≡ Some x) × (log ≡ log_of x)

abbrev pub SaysAgreed : Verdict → Type 0
SaysAgreed (verdicts.Agreed committed aborted) = Unit {0}
SaysAgreed other = ⊥

pub record JournalsAgree : Type 0 where
  -- all journals of a run
  pub all : (hosts : Hosts) (es : List WorldEvent) → HaveOwnAddresses hosts → SaysAgreed (verdict_of (logs_of (run_of hosts es)))
  -- and any of them, in any order
  pub each : (hosts : Hosts) (es : List WorldEvent) (logs : List Log) → HaveOwnAddresses hosts → AreJournalsOf (run_of hosts es) logs → SaysAgreed (verdict_of logs)
