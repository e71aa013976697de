-- What an answer to a Register names.
use Rattle.std.specs.Prelude.{ℕ, List, Some, ◌++◌, ◌≡◌}
use Rattle.std.specs.List.{AllByRecursion}
use Rattle.at_base.specs.Numbers.{Numbers}
use Rattle.at_base.specs.declared.epr.Epr.{Epr}
use Rattle.at_base.specs.declared.event.Arrived.{Arrived}
use Rattle.at_base.specs.declared.message.Message.TheVariants as messages
use Rattle.at_base.specs.declared.target.Target.{Target}
use Rattle.at_base.specs.declared.target.Target.TheVariants as targets
use Rattle.at_model.specs.World.{Posted, World, WorldEvent, Turn, Deliver, decoded, nth, world_step, Hosts, HaveOwnAddresses}
use Rattle.endpoints.specs.Addresses.{endpoint_of}
use Rattle.model_laws.specs.ReachedWorlds.{Reached}

-- a seat, or the completion seat, of this transaction
abbrev pub IsSeatOf : Numbers → Target → Type 0
IsSeatOf id (targets.Coordinator i seat) = i ≡ id
IsSeatOf id (targets.Completion i) = i ≡ id
IsSeatOf id other = ⊥

-- It came to the registration of a transaction, and this endpoint is of a seat of that transaction.
pub record AsksAt (base : List ℕ) (a : Arrived) (c : Epr) : Type 0 where
  pub id : Numbers
  pub target : a.target ≡ targets.Registration id
  pub seat : Target
  pub of : IsSeatOf id seat
  pub is : c ≡ endpoint_of base seat

-- The message asks a transaction of the node to which it was posted, and the endpoint is of a seat of that transaction.
pub record Answers (hosts : Hosts) (p : Posted) (c : Epr) : Type 0 where
  pub number : ℕ
  pub received : p.receiver ≡ Some number
  pub arrived : Arrived
  pub read : decoded (hosts.base_of number) p.content ≡ Some arrived
  pub asks : AsksAt (hosts.base_of number) arrived c

-- an event that delivers no message
abbrev pub IsNoDelivery : WorldEvent → Type 0
IsNoDelivery (Turn n (Deliver k) fates until) = ⊥
IsNoDelivery other = Unit {0}

-- the message that an event delivers
abbrev pub Delivers : ℕ → WorldEvent → Type 0
Delivers k (Turn n (Deliver l) fates until) = l ≡ k
Delivers k other = ⊥

-- An answer to a Register answers the message that the event delivers.
abbrev pub IsBrought : Hosts → World → WorldEvent → Posted → Type 0
IsBrought hosts w e q =
    (c : Epr) → q.content.message ≡ messages.RegisterResponse c → (k : ℕ) × Delivers k e × (p : Posted) × (nth k w.posted ≡ Some p) × Answers hosts p c

-- So it is with all that an event posts in a world that is reached.
abbrev pub EventsBring : Type 0
EventsBring =
    (hosts : Hosts) (w : World) (e : WorldEvent) → HaveOwnAddresses hosts → Reached hosts w
    → (more : List Posted) × ((world_step w e).posted ≡ w.posted ++ more) × AllByRecursion (IsBrought hosts w e) more
