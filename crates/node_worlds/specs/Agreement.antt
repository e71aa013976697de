-- Agreement of what served nodes do.
use Rattle.at_model.specs.World.{World, Hosts, HaveOwnAddresses}
use Rattle.model_laws.specs.Agreement.{IsAgreed, IsBehindAnswers, IsToldTruly}
use Rattle.model_laws.specs.ReachedWorlds.{Reached}
use Rattle.site_model.specs.Told.{Told}
use Rattle.node_worlds.specs.Nets.{IsWorldOf, Net, Runs, shown_world}

-- No transaction is split and nothing ends twice; a root's commit and a subordinate's vote stand behind every answer; and an
-- initiator is told what its root did (WS-AtomicTransaction 1.2, section 1).
pub record IsOneOutcome (w : World) : Type 0 where
  pub agreed : IsAgreed w
  pub behind : IsBehindAnswers w
  pub told : IsToldTruly w

-- so it is in every world that is reached, and not only at the end of an event
abbrev pub AgreesWherever : Type 0
AgreesWherever = (hosts : Hosts) (w : World) → HaveOwnAddresses hosts → Reached hosts w → IsOneOutcome w

-- The world that a net shows is one that the model reaches, and there is one outcome in it: of what the net's own steps accepted, posted
-- and brought about, and of the records of its own journals.
pub record IsAgreedNet (hosts : Hosts) (net : Net) : Type 0 where
  pub reached : Reached hosts (shown_world hosts net)
  pub shown : IsWorldOf hosts net (shown_world hosts net)
  pub outcome : IsOneOutcome (shown_world hosts net)

-- so it is among nodes that serve
abbrev pub NetsAgree : {S : Type 0} → (S → Told) → Type 0
NetsAgree told = (hosts : Hosts) (net : Net) → HaveOwnAddresses hosts → Runs told hosts net → IsAgreedNet hosts net
