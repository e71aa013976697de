-- Where the endpoints that a node writes lead.
use Rattle.std.specs.Prelude.{ℕ, Some, ◌^◌, ◌≡◌, ◌<◌, ◌≤◌}
use Rattle.at_base.specs.IdText.{IsId}
use Rattle.at_base.specs.declared.target.Target.{Target}
use Rattle.at_base.specs.declared.target.Target.TheVariants as targets
use Rattle.endpoints.specs.Addresses.{endpoint_of}
use Rattle.at_model.specs.World.{new_nodes, place_of, Hosts, HaveOwnAddresses, IsNumber}

-- Its numbers are those that a path can name: an id's from 1 up to below 2^32, a seat's from 1 up to below 2^16.
abbrev pub HasPath : Target → Type 0
HasPath targets.Activation = Unit {0}
HasPath targets.Work = Unit {0}
HasPath (targets.Registration id) = IsId id
HasPath (targets.Completion id) = IsId id
HasPath (targets.Coordinator id seat) = IsId id × (1 ≤ seat.number) × (seat.number < 2 ^ 16)
HasPath (targets.Participant id kind) = IsId id
HasPath (targets.Initiator id) = IsId id

-- Where the endpoint that a node writes for one of its targets leads anywhere, it leads to that node and that target: neither
-- another node of the world nor another target of the same node has an address that is read as this one.
abbrev pub AddressesLeadHome : Type 0
AddressesLeadHome =
    (hosts : Hosts) (n m : ℕ) (T S : Target) → HaveOwnAddresses hosts → IsNumber hosts n → HasPath T → place_of 1 (new_nodes hosts.base_of hosts.count 1) (endpoint_of (hosts.base_of n) T).address ≡ Some (m, S)
    → (m ≡ n) × (S ≡ T)
