-- The lists of a book stay in the order of making, as far as a walk comes.
use Rattle.std.proofs.Common.{ℕ, List, [], ◌∷◌, Bool, true, false, Option, Some, None}
use Rattle.std.specs.Prelude.{if◌then◌else◌}
use Rattle.std.specs.List.{AllByRecursion}
use Rattle.at_base.specs.declared.event.Arrived.{Arrived}
use Rattle.at_base.specs.declared.event.Event.TheVariants as events
use Rattle.at_base.specs.declared.event.Event.{Event}
use Rattle.at_base.specs.declared.event.Item.{Item}
use Rattle.at_base.specs.declared.record.Record.{Record}
use Rattle.at_model.specs.Book.{Book}
use Rattle.at_model.specs.Step.{Outcome, Plan, items_of, is_due, plan}
use Rattle.at_model.specs.World.{arrival_plan}
use Rattle.interposition.specs.Due.{due_outcome, due_outcomes}
use Rattle.model_laws.specs.Order.{IdsRise, IsInOrder}
use Rattle.world_laws.specs.Walks.{Walk, asked, branch, counted, counted_all, counted_by, is_over, recorded, stepped, turned}

-- Both outcomes of a plan are in order.
pub record IsOrderly (p : Plan) : Type 0 where
  pub landed : IsInOrder p.landed.book
  pub absent : IsInOrder p.absent.book

kept_order : (entry : Option Record) (w : Walk) → IsInOrder w.book → IsInOrder (recorded entry w).book
kept_order None w h = h
kept_order (Some entry) w h = h

by_order : (way : Option Bool) (p : Plan) (w : Walk) → IsOrderly p → IsInOrder w.book → IsInOrder (counted_by way p w).book
by_order None p w o h = h
by_order (Some true) p w o h = o.landed
by_order (Some false) p w o h = o.absent

pub stepped_order : (p : Plan) (w : Walk) → IsOrderly p → IsInOrder w.book → IsInOrder (stepped p w).book
stepped_order p w o h = at (is_over w.luck)
  where
    at : (b : Bool) → IsInOrder (if b then w else counted_by (branch p.entry w.luck) p (recorded p.entry w)).book
    at true = h
    at false = by_order (branch p.entry w.luck) p (recorded p.entry w) o (kept_order p.entry w h)

all_order : (os : List Outcome) (w : Walk) → AllByRecursion (λ o. IsInOrder o.book) os → IsInOrder w.book → IsInOrder (counted_all os w).book
all_order [] w all h = h
all_order (o ∷ os) w (p, all) h = at (λ v k. all_order os v all k) (is_over w.luck)
  where
    at : ((v : Walk) → IsInOrder v.book → IsInOrder (counted_all os v).book) → (b : Bool) → IsInOrder (counted_all os (if b then w else counted o w)).book
    at again true = again w h
    at again false = again (counted o w) p

module _ (ids : IdsRise) where
  due_order : (now : ℕ) (items : List Item) (b : Book) → IsInOrder b → AllByRecursion (λ o. IsInOrder o.book) (due_outcomes now items b)
  due_order now [] b h = tt
  due_order now (item ∷ rest) b h = at (due_order now rest) (is_due b now item)
    where
      next : IsInOrder (due_outcome b now item).book
      next = ids.stays b (events.Due item) now true h

      at : ((c : Book) → IsInOrder c → AllByRecursion (λ o. IsInOrder o.book) (due_outcomes now rest c)) → (t : Bool)
          → AllByRecursion (λ o. IsInOrder o.book)
          (if t then due_outcome b now item ∷ due_outcomes now rest (due_outcome b now item).book else due_outcomes now rest b)
      at again true = (next, again (due_outcome b now item).book next)
      at again false = again b h

  asked_order : (now : ℕ) (w : Walk) → IsInOrder w.book → IsInOrder (asked now w).book
  asked_order now w h = all_order (due_outcomes now (items_of w.book) w.book) w (due_order now (items_of w.book) w.book h) h

  pub turned_order : (now : ℕ) (p : Plan) (w : Walk) → IsOrderly p → IsInOrder w.book → IsInOrder (turned now p w).book
  turned_order now p w o h = asked_order now (stepped p w) (stepped_order p w o h)

  pub plan_order : (b : Book) (e : Event) (now : ℕ) → IsInOrder b → IsOrderly (plan b e now)
  plan_order b e now h = record { landed = ids.stays b e now true h; absent = ids.stays b e now false h }

  pub arrival_order : (b : Book) (now : ℕ) (a : Option Arrived) → IsInOrder b → IsOrderly (arrival_plan b now a)
  arrival_order b now None h = record { landed = h; absent = h }
  arrival_order b now (Some a) h = plan_order b (events.Arrived a) now h
