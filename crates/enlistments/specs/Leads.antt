-- Whom endpoints lead to, in a world of so many nodes.
use Rattle.std.specs.Prelude.{ℕ, Option, Some, None, ◌≡◌}
use Rattle.at_base.specs.Numbers.{Numbers}
use Rattle.at_base.specs.declared.epr.Epr.{Epr}
use Rattle.at_base.specs.declared.notice.Kind.{Kind}
use Rattle.at_base.specs.declared.target.Target.{Target}
use Rattle.at_base.specs.declared.target.Target.TheVariants as targets
use Rattle.at_model.specs.World.{Who, World, new_nodes, place_of, Hosts}
use Rattle.model_laws.specs.Agreement.{IsAccepted}

-- The endpoint leads to this target of this node. An endpoint that leads nowhere is never delivered to.
abbrev pub LeadsTo : Hosts → Epr → ℕ → Target → Type 0
LeadsTo hosts e n T = place_of 1 (new_nodes hosts.base_of hosts.count 1) e.address ≡ Some (n, T)

-- Where a coordinator's endpoint leads anywhere, it is the seat at which this participant was accepted
-- (WS-Coordination 1.2, section 3.2).
abbrev pub Enlists : Hosts → World → Epr → Who → Kind → Type 0
Enlists hosts w c x kind =
    (n : ℕ) (T : Target) → LeadsTo hosts c n T
    → (id : Numbers) × (number : ℕ) × (T ≡ targets.Coordinator id (record { number = number; kind = kind }))
    × IsAccepted w (record { node = n; id = id }) (Some (record { number = number; kind = kind })) x

-- Where it leads anywhere, it is the completion seat at which this initiator was accepted.
abbrev pub Completes : Hosts → World → Epr → Who → Type 0
Completes hosts w c x =
    (n : ℕ) (T : Target) → LeadsTo hosts c n T → (id : Numbers) × (T ≡ targets.Completion id) × IsAccepted w (record { node = n; id = id }) None x

-- so where there is one
abbrev pub EnlistsIfKnown : Hosts → World → Option Epr → Who → Kind → Type 0
EnlistsIfKnown hosts w None x kind = Unit {0}
EnlistsIfKnown hosts w (Some c) x kind = Enlists hosts w c x kind

abbrev pub CompletesIfKnown : Hosts → World → Option Epr → Who → Type 0
CompletesIfKnown hosts w None x = Unit {0}
CompletesIfKnown hosts w (Some c) x = Completes hosts w c x

-- Where an endpoint leads anywhere, it is that of a participant of this kind.
abbrev pub IsOfKind : Hosts → Epr → Kind → Type 0
IsOfKind hosts e kind = (m : ℕ) (T : Target) → LeadsTo hosts e m T → (i : Numbers) × (T ≡ targets.Participant i kind)
