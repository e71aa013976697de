-- What binds those who take part in one activity: their registrations, votes and outcomes.
use Rattle.std.specs.Prelude.{ℕ, List, Some, ◌⊎◌}
use Rattle.at_base.specs.declared.epr.Epr.{Epr}
use Rattle.at_base.specs.declared.notice.Kind.TheVariants as kinds
use Rattle.at_base.specs.declared.notice.Notice.TheVariants as notices
use Rattle.at_base.specs.declared.record.Record.TheVariants as records
use Rattle.at_base.specs.declared.record.Seated.{Seated}
use Rattle.at_base.specs.declared.outs.Ending.TheVariants as endings
use Rattle.at_base.specs.declared.outs.Effect.TheVariants as effects
use Rattle.at_model.specs.World.{Hosts, Who, World, happened_at}
use Rattle.model_laws.specs.Agreement.{HasAborted, HasCommitted, HasOneSuperior, HasPosted, IsAccepted, IsAnswered, IsIn, Stands}
use Rattle.agreement.specs.Sorts.{AreSorted}
use Rattle.votes.specs.DurableVotes.{HasVoted}

-- The transaction accepted the item's durable registration.
abbrev pub IsUnder : World → Who → Who → Type 0
IsUnder w t x = (number : ℕ) × IsAccepted w t (Some (record { number = number; kind = kinds.Durable })) x

-- It committed as a participant: as a subordinate, or as a durable leaf.
abbrev pub CommittedBelow : World → Who → Type 0
CommittedBelow w x =
    IsIn (happened_at x.node (effects.Sub x.id endings.Committed)) w.happened ⊎ IsIn (happened_at x.node (effects.Leaf x.id kinds.Durable endings.Committed)) w.happened

-- One of which this holds accepted its durable registration.
abbrev pub IsUnderOne : World → (Who → Type 0) → Who → Type 0
IsUnderOne w P x = (t : Who) × IsUnder w t x × P t

pub record IsBound (w : World) : Type 0 where
  -- nothing both commits and aborts
  pub one : (x : Who) → HasCommitted w x → HasAborted w x → ⊥
  -- the hosts whose world it is, and the sorts of their items
  pub hosts : Hosts
  pub sorted : AreSorted hosts w
  pub superior : HasOneSuperior w
  -- a participant commits only under one that has committed
  pub told : (x : Who) → CommittedBelow w x → IsUnderOne w (HasCommitted w) x
  -- and one that has voted Prepared aborts only under one that has aborted (WS-AtomicTransaction 1.2, section 3.3.3)
  pub rolled_back : (x : Who) → HasVoted w x → HasAborted w x → IsUnderOne w (HasAborted w) x
  -- a vote Prepared is recorded
  pub recorded : (x : Who) → HasPosted w x kinds.Durable notices.Prepared → HasVoted w x
  -- who votes ReadOnly never commits and never aborts, and everybody under it has voted ReadOnly or has committed
  pub left : (x : Who) → HasPosted w x kinds.Durable notices.ReadOnly → HasAborted w x ⊎ HasCommitted w x → ⊥
  pub left_below : (t x : Who) → HasPosted w t kinds.Durable notices.ReadOnly → IsUnder w t x → HasPosted w x kinds.Durable notices.ReadOnly ⊎ HasCommitted w x
  -- a subordinate votes, and a root commits, behind every answer
  pub voted : (t : Who) (superior : Epr) (seats : List Seated) → Stands w t.node (records.Voted t.id superior seats) → IsAnswered w t
  pub answered : (t : Who) → IsIn (happened_at t.node (effects.Root t.id endings.Committed)) w.happened → IsAnswered w t
  -- a subordinate commits behind its vote
  pub behind : (t : Who) → IsIn (happened_at t.node (effects.Sub t.id endings.Committed)) w.happened → HasVoted w t
