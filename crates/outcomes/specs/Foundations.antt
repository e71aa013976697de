-- What stands behind each outcome: the record or the Commit behind which it happened, and the root whose outcome is told.
use Rattle.std.specs.Prelude.{ℕ, List, Some, ◌≡◌}
use Rattle.std.specs.List.{AllByRecursion}
use Rattle.at_base.specs.Numbers.{Numbers}
use Rattle.at_base.specs.declared.epr.Epr.{Epr}
use Rattle.at_base.specs.declared.notice.Kind.TheVariants as kinds
use Rattle.at_base.specs.declared.notice.Notice.{Notice}
use Rattle.at_base.specs.declared.notice.Notice.TheVariants as notices
use Rattle.at_base.specs.declared.message.Message.TheVariants as messages
use Rattle.at_base.specs.declared.outs.Effect.{Effect}
use Rattle.at_base.specs.declared.outs.Effect.TheVariants as effects
use Rattle.at_base.specs.declared.outs.Ending.{Ending}
use Rattle.at_base.specs.declared.outs.Ending.TheVariants as endings
use Rattle.at_base.specs.declared.outs.Post.{Post}
use Rattle.at_base.specs.declared.outs.Told.TheVariants as tellings
use Rattle.at_base.specs.declared.record.Record.TheVariants as records
use Rattle.at_base.specs.declared.record.Seated.{Seated}
use Rattle.at_base.specs.declared.target.Target.TheVariants as targets
use Rattle.at_model.specs.World.{World, Hosts, HaveOwnAddresses}
use Rattle.model_laws.specs.Agreement.{IsOutcomeOf, Stands}
use Rattle.model_laws.specs.ReachedWorlds.{Reached}
use Rattle.enlistments.specs.Leads.{LeadsTo}
use Rattle.votes.specs.ToldOutcomes.{IsUnderCommitted}
use Rattle.votes.specs.DurableVotes.{HasVoted}

-- A root commits behind its recorded decision; a subordinate behind its recorded vote and, as a durable leaf, under a
-- transaction that has committed; and an activity is told what its root did (WS-AtomicTransaction 1.2, sections 3.2 and 3.3.3).
abbrev pub IsFounded : World → ℕ → Effect → Type 0
IsFounded w n (effects.Root id endings.Committed) = (seats : List Seated) × Stands w n (records.Decided id seats)
IsFounded w n (effects.Sub id endings.Committed) =
    HasVoted w (record { node = n; id = id }) × IsUnderCommitted w (record { node = n; id = id }) kinds.Durable
IsFounded w n (effects.Leaf id kinds.Durable endings.Committed) = IsUnderCommitted w (record { node = n; id = id }) kinds.Durable
IsFounded w n (effects.Told id tellings.Committed) = IsOutcomeOf w (record { node = n; id = id }) endings.Committed
IsFounded w n (effects.Told id tellings.Aborted) = IsOutcomeOf w (record { node = n; id = id }) endings.Aborted
IsFounded w n other = Unit {0}

abbrev pub AreFounded : World → Type 0
AreFounded w = AllByRecursion (λ h. IsFounded w h.node h.what) w.happened

-- A Committed or an Aborted that goes to an initiator says what the root did that accepted it.
abbrev pub SaysOutcome : Hosts → World → Notice → Ending → Post → Type 0
SaysOutcome hosts w n what p =
    (to : Epr) (m : ℕ) (i : Numbers) → p.message ≡ messages.Notice n → p.to ≡ Some to → LeadsTo hosts to m (targets.Initiator i) → IsOutcomeOf w (record { node = m; id = i }) what

abbrev pub SaysWhatRootDid : Hosts → World → Post → Type 0
SaysWhatRootDid hosts w p = SaysOutcome hosts w notices.Committed endings.Committed p × SaysOutcome hosts w notices.Aborted endings.Aborted p

-- So it is in every world that is reached.
pub record OutcomesAreFounded : Type 0 where
  pub told : (hosts : Hosts) (w : World) → HaveOwnAddresses hosts → Reached hosts w → AllByRecursion (λ p. SaysWhatRootDid hosts w p.content) w.posted
  pub founded : (hosts : Hosts) (w : World) → HaveOwnAddresses hosts → Reached hosts w → AreFounded w
