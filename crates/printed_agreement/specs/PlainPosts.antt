-- Messages among nodes of the examples alone.
use Rattle.std.specs.Prelude.{ℕ, ◌≡◌, ◌≤◌, ◌<◌, ◌^◌, Some}
use Rattle.at_base.specs.Names.{fault_name}
use Rattle.at_base.specs.declared.epr.Epr.{Epr}
use Rattle.at_base.specs.declared.fault.Fault.{Fault}
use Rattle.at_base.specs.declared.message.Message.{Message}
use Rattle.at_base.specs.declared.message.Message.TheVariants as messages
use Rattle.at_base.specs.declared.target.Target.{Target}
use Rattle.at_model.specs.World.{Posted, example_base, new_nodes, receiver_of}
use Rattle.endpoints.specs.Addresses.{IsWritten, endpoint_of}

-- an endpoint that such a node writes
pub record IsOfNode (e : Epr) : Type 0 where
  pub number : ℕ
  pub least : 1 ≤ number
  pub small : number < 2 ^ 64
  pub target : Target
  pub written : IsWritten target
  pub same : e ≡ endpoint_of (example_base number) target

-- An answer to a Register names such an endpoint, and a fault is one of the protocols'.
abbrev pub IsPlainMessage : Message → Type 0
IsPlainMessage (messages.RegisterResponse c) = IsOfNode c
IsPlainMessage (messages.Fault name) = (f : Fault) × (name ≡ fault_name f)
IsPlainMessage other = Unit {0}

-- It goes to such an endpoint, among so many nodes.
pub record IsPlain (count : ℕ) (p : Posted) : Type 0 where
  pub to : (e : Epr) → p.content.to ≡ Some e → IsOfNode e
  pub received : p.receiver ≡ receiver_of (new_nodes example_base count 1) p.content.to
  pub message : IsPlainMessage p.content.message
