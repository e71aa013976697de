-- Agreement: what holds of every world, whatever is delivered, lost, repeated, reordered, timed out or crashed.
use Rattle.std.specs.Prelude.{ℕ, List, [], ◌∷◌, Option, Some, None, Bool, false, nat_eq, ◌&&◌, length, filter, ◌≡◌, ◌⊎◌, ◌≤◌}
use Rattle.at_base.specs.Numbers.{Numbers}
use Rattle.at_base.specs.declared.epr.Epr.{Epr}
use Rattle.at_base.specs.declared.notice.Kind.{Kind}
use Rattle.at_base.specs.declared.notice.Kind.TheVariants as kinds
use Rattle.at_base.specs.declared.notice.Notice.{Notice}
use Rattle.at_base.specs.declared.notice.Notice.TheVariants as notices
use Rattle.at_base.specs.declared.message.Message.TheVariants as messages
use Rattle.at_base.specs.declared.target.Seat.{Seat}
use Rattle.at_base.specs.declared.target.Target.TheVariants as targets
use Rattle.at_base.specs.declared.record.Seated.{Seated}
use Rattle.at_base.specs.declared.record.Record.{Record}
use Rattle.at_base.specs.declared.record.Record.TheVariants as records
use Rattle.at_base.specs.declared.outs.Ending.{Ending}
use Rattle.at_base.specs.declared.outs.Ending.TheVariants as endings
use Rattle.at_base.specs.declared.outs.Told.TheVariants as tellings
use Rattle.at_base.specs.declared.outs.Effect.{Effect}
use Rattle.at_base.specs.declared.outs.Effect.TheVariants as effects
use Rattle.at_model.specs.Book.{is_id}
use Rattle.at_model.specs.World.{Node, Who, Posted, Happened, World, WorldEvent, nth, happened_at, run_of, Hosts, HaveOwnAddresses}

abbrev pub IsIn : {A : Type 0} → A → List A → Type 0
IsIn x [] = ⊥
IsIn x (y ∷ ys) = (x ≡ y) ⊎ IsIn x ys

-- The item ended so: as a root, as a subordinate, or as a durable leaf.
abbrev pub HasEnded : World → Who → Ending → Type 0
HasEnded w x what =
    IsIn (happened_at x.node (effects.Root x.id what)) w.happened
    ⊎ (IsIn (happened_at x.node (effects.Sub x.id what)) w.happened
    ⊎ IsIn (happened_at x.node (effects.Leaf x.id kinds.Durable what)) w.happened)

abbrev pub HasCommitted : World → Who → Type 0
HasCommitted w x = HasEnded w x endings.Committed

-- What was lost counts as aborted: abort is presumed (WS-AtomicTransaction 1.2, section 3.3.4).
abbrev pub HasAborted : World → Who → Type 0
HasAborted w x = HasEnded w x endings.Aborted ⊎ HasEnded w x endings.Lost

-- A transaction accepted a registration of this item: at a seat, or none for Completion.
abbrev pub IsAccepted : World → Who → Option Seat → Who → Type 0
IsAccepted w t seat x = IsIn (record { transaction = t; seat = seat; participant = Some x }) w.accepted

-- An item is of a root where the root, or a subordinate that is of the root, accepted its durable registration; the root
-- is of itself.
pub data IsOf (w : World) : Who → Who → Type 0 where
  itself : {x root : Who} → x ≡ root → IsOf w x root
  below : {x root : Who} (t : Who) (number : ℕ) → IsAccepted w t (Some (record { number = number; kind = kinds.Durable })) x → IsOf w t root → IsOf w x root

-- Two that are of one root, of which one committed and the other aborted or was lost.
pub record IsSplit (w : World) : Type 0 where
  pub root : Who
  pub one : Who
  pub other : Who
  pub one_of : IsOf w one root
  pub other_of : IsOf w other root
  pub committed : HasCommitted w one
  pub aborted : HasAborted w other

-- whether an effect is how this item ended
abbrev pub ends_as : Numbers → Effect → Bool
ends_as id (effects.Root i what) = is_id i id
ends_as id (effects.Sub i what) = is_id i id
ends_as id (effects.Leaf i kind what) = is_id i id
ends_as id (effects.Told i what) = false

abbrev pub is_end_of : Who → Happened → Bool
is_end_of x h = nat_eq h.node x.node && ends_as x.id h.what

-- Agreement: no transaction is split, and nothing ends twice (WS-AtomicTransaction 1.2, section 1: all participants
-- reach the same outcome).
pub record IsAgreed (w : World) : Type 0 where
  pub whole : IsSplit w → ⊥
  pub once : (x : Who) → length (filter (is_end_of x) w.happened) ≤ 1

-- The participant posted this notification, as this participant.
abbrev pub HasPosted : World → Who → Kind → Notice → Type 0
HasPosted w x kind n =
    (p : Posted) × IsIn p w.posted × (p.sender ≡ x.node) × (p.content.own ≡ Some (targets.Participant x.id kind))
    × (p.content.message ≡ messages.Notice n)

-- Every participant that the transaction ever accepted, volatile or durable, has posted Prepared or ReadOnly.
abbrev pub IsAnswered : World → Who → Type 0
IsAnswered w t =
    (number : ℕ) (kind : Kind) (x : Who) → IsAccepted w t (Some (record { number = number; kind = kind })) x
    → HasPosted w x kind notices.Prepared ⊎ HasPosted w x kind notices.ReadOnly

-- The record stands in the node's journal.
abbrev pub Stands : World → ℕ → Record → Type 0
Stands w n r = (x : Node) × (nth n w.nodes ≡ Some x) × IsIn r x.journal

-- A root is committed, and a subordinate has voted, only behind every answer.
pub record IsBehindAnswers (w : World) : Type 0 where
  pub root : (t : Who) → IsIn (happened_at t.node (effects.Root t.id endings.Committed)) w.happened → IsAnswered w t
  pub voted : (t : Who) (superior : Epr) (seats : List Seated) → Stands w t.node (records.Voted t.id superior seats) → IsAnswered w t

-- The root of an activity: the transaction that accepted its Completion registration; it ended so.
pub record IsOutcomeOf (w : World) (activity : Who) (what : Ending) : Type 0 where
  pub root : Who
  pub accepted : IsAccepted w root None activity
  pub ended : IsIn (happened_at root.node (effects.Root root.id what)) w.happened

-- An activity is told what its root did.
pub record IsToldTruly (w : World) : Type 0 where
  pub committed : (a : Who) → IsIn (happened_at a.node (effects.Told a.id tellings.Committed)) w.happened → IsOutcomeOf w a endings.Committed
  pub aborted : (a : Who) → IsIn (happened_at a.node (effects.Told a.id tellings.Aborted)) w.happened → IsOutcomeOf w a endings.Aborted

-- An item's registrations were all accepted by one transaction.
abbrev pub HasOneSuperior : World → Type 0
HasOneSuperior w =
    (x s t : Who) (one other : Option Seat) → IsAccepted w s one x → IsAccepted w t other x → s ≡ t

-- Agreement, stated of every run of nodes with addresses of their own, whatever is delivered, lost, repeated, reordered, stopped or
-- crashed.
pub record Agrees : Type 0 where
  pub agreed : (hosts : Hosts) (es : List WorldEvent) → HaveOwnAddresses hosts → IsAgreed (run_of hosts es)
  pub behind : (hosts : Hosts) (es : List WorldEvent) → HaveOwnAddresses hosts → IsBehindAnswers (run_of hosts es)
  pub told : (hosts : Hosts) (es : List WorldEvent) → HaveOwnAddresses hosts → IsToldTruly (run_of hosts es)
