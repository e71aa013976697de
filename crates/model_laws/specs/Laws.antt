-- Laws of steps and of recovery.
use Rattle.std.specs.Prelude.{ℕ, List, [], ◌∷◌, ◌++◌, Bool, ◌+◌, ◌≡◌, ◌≤◌, ◌<◌}
use Rattle.std.specs.List.{AllByRecursion}
use Rattle.at_base.specs.declared.record.Record.{Record}
use Rattle.at_base.specs.declared.record.Record.TheVariants as records
use Rattle.at_base.specs.declared.event.Event.{Event}
use Rattle.at_base.specs.declared.outs.Out.{Out}
use Rattle.at_base.specs.declared.outs.Out.TheVariants as outs
use Rattle.at_model.specs.Book.{Book}
use Rattle.at_model.specs.Step.{step}
use Rattle.at_model.specs.Recovery.{live, incarnation_of, last_incarnation, recovered_transactions, recovered_leaves}
use Rattle.std.specs.Prelude.{Option, None, Some, ◌⊎◌}
use Rattle.at_base.specs.Numbers.{Numbers}
use Rattle.at_base.specs.declared.event.Moment.{Moment}
use Rattle.at_base.specs.declared.event.Arrived.{Arrived}
use Rattle.at_base.specs.declared.message.Create.{Create}
use Rattle.at_base.specs.declared.message.Work.{Work}
use Rattle.at_base.specs.declared.message.Context.{Context}
use Rattle.at_model.specs.Book.{Transaction, Leaf, next_id}
use Rattle.at_model.specs.Create.{on_create}
use Rattle.at_model.specs.Leaves.{on_work}
use Rattle.at_model.specs.Activities.{on_begin, on_interpose}

-- What is answered on the connection, and then only posts.
abbrev pub ArePosts : List Out → Type 0
ArePosts [] = Unit {0}
ArePosts (outs.Post p ∷ rest) = ArePosts rest
ArePosts (outs.Answer status reply ∷ rest) = ⊥

abbrev pub IsOrdered : List Out → Type 0
IsOrdered [] = Unit {0}
IsOrdered (outs.Post p ∷ rest) = ArePosts rest
IsOrdered (outs.Answer status reply ∷ rest) = ArePosts rest

-- A step sends at most one answer, and then posts.
abbrev pub StepsAnswerFirst : Type 0
StepsAnswerFirst = (b : Book) (e : Event) (now : ℕ) (landed : Bool) → IsOrdered (step b e now landed).outs

-- A step draws at most one id, and leaves base and incarnation as they are.
pub record KeepsPlace (before after : Book) : Type 0 where
  pub base : after.base ≡ before.base
  pub incarnation : after.incarnation ≡ before.incarnation
  pub counter : before.counter ≤ after.counter
  pub one : after.counter ≤ before.counter + 1

abbrev pub StepsKeepPlace : Type 0
StepsKeepPlace = (b : Book) (e : Event) (now : ℕ) (landed : Bool) → KeepsPlace b (step b e now landed).book

-- Recovery depends on live records alone.
abbrev pub RecoversTheLive : Type 0
RecoversTheLive =
    (base : List ℕ) (rs : List Record)
    → (recovered_transactions base (live rs) ≡ recovered_transactions base rs) × (recovered_leaves (live rs) ≡ recovered_leaves rs)

-- The incarnation behind a Start of the next one is that one, and greater than each in the records.
abbrev pub IncarnationsRise : Type 0
IncarnationsRise =
    (rs : List Record)
    → (last_incarnation (rs ++ records.Start (last_incarnation rs + 1) ∷ []) ≡ last_incarnation rs + 1)
    × AllByRecursion (λ r. incarnation_of r < last_incarnation rs + 1) rs

-- Drawn in an earlier incarnation, or earlier in this one.
abbrev pub IsDrawn : Book → Numbers → Type 0
IsDrawn b id = (id.incarnation < b.incarnation) ⊎ ((id.incarnation ≡ b.incarnation) × (id.counter ≤ b.counter))

abbrev pub HasId : Numbers → Option Transaction → Type 0
HasId id None = Unit {0}
HasId id (Some t) = t.id ≡ id

abbrev pub HasLeafId : Numbers → Option Leaf → Type 0
HasLeafId id None = Unit {0}
HasLeafId id (Some l) = l.id ≡ id

-- The next id is none that was drawn, and what is made under it has it.
pub record MakesUnderTheNextId : Type 0 where
  pub next : (b : Book) (id : Numbers) → next_id b ≡ Some id → IsDrawn b id → ⊥
  pub transaction : (m : Moment) (live : ℕ) (a : Arrived) (c : Create) (id : Numbers) → HasId id (on_create m live a c (Some id)).transaction
  pub leaf : (m : Moment) (live : ℕ) (a : Arrived) (w : Work) (id : Numbers) → HasLeafId id (on_work m live a w (Some id)).leaf
  pub begun : (m : Moment) (id : Numbers) (coordinator : List ℕ) (ms : ℕ) → (on_begin m id coordinator ms).activity.id ≡ id
  pub interposed : (m : Moment) (id : Numbers) (coordinator : List ℕ) (root : Numbers) (context : Option Context) → (on_interpose m id coordinator root context).activity.id ≡ id
  pub none : (m : Moment) (live : ℕ) (a : Arrived) (c : Create) (w : Work) → ((on_create m live a c None).transaction ≡ None) × ((on_work m live a w None).leaf ≡ None)
