-- Which item of a book is asked next: transactions, then leaves, then activities, each in the order of making.
use Rattle.std.specs.Prelude.{ℕ, List, [], ◌∷◌, ◌++◌, Option, Some, None, Bool, true, false, if◌then◌else◌, option_map, filter, find, length, ◌≡◌, ◌<◌}
use Rattle.at_base.specs.Numbers.{Numbers}
use Rattle.at_base.specs.declared.event.Event.TheVariants as events
use Rattle.at_base.specs.declared.event.Item.{Item}
use Rattle.at_base.specs.declared.event.Item.TheVariants as items
use Rattle.at_model.specs.Book.{Book, transaction_id, leaf_id, activity_id}
use Rattle.endpoints.specs.Addresses.{or_else}
use Rattle.at_model.specs.Due.{transaction_due, leaf_due, activity_due}
use Rattle.model_laws.specs.Order.{IsRising}
use Rattle.at_model.specs.Recovery.{is_before}
use Rattle.at_model.specs.Step.{Outcome, moment_of, is_reached, is_due, items_of, plan, step}
use Rattle.at_model.specs.World.{Turning, due_step, due_steps}
use Rattle.by_id.specs.Lists.{next_due}

abbrev pub next_activity : Book → ℕ → Option Numbers → Option Item
next_activity b now after =
    option_map items.Activity (next_due activity_id (λ a. is_reached (activity_due (moment_of b now) a)) after b.activities)

abbrev pub next_leaf : Book → ℕ → Option Numbers → Option Item
next_leaf b now after =
    or_else (option_map items.Leaf (next_due leaf_id (λ l. is_reached (leaf_due (moment_of b now) l)) after b.leaves))
    (next_activity b now None)

abbrev pub next_transaction : Book → ℕ → Option Numbers → Option Item
next_transaction b now after =
    or_else (option_map items.Transaction (next_due transaction_id (λ t. is_reached (transaction_due (moment_of b now) t)) after b.transactions))
    (next_leaf b now None)

-- the first item that is due behind this one, or the first at all
abbrev pub next_item : Book → ℕ → Option Item → Option Item
next_item b now None = next_transaction b now None
next_item b now (Some (items.Transaction id)) = next_transaction b now (Some id)
next_item b now (Some (items.Leaf id)) = next_leaf b now (Some id)
next_item b now (Some (items.Activity id)) = next_activity b now (Some id)

-- Whether an item comes behind this one: transactions, then leaves, then activities, each in the order of making, which
-- is by rising id.
abbrev pub comes_behind : Option Item → Item → Bool
comes_behind None item = true
comes_behind (Some (items.Transaction last)) (items.Transaction id) = is_before last id
comes_behind (Some (items.Transaction last)) (items.Leaf id) = true
comes_behind (Some (items.Transaction last)) (items.Activity id) = true
comes_behind (Some (items.Leaf last)) (items.Transaction id) = false
comes_behind (Some (items.Leaf last)) (items.Leaf id) = is_before last id
comes_behind (Some (items.Leaf last)) (items.Activity id) = true
comes_behind (Some (items.Activity last)) (items.Transaction id) = false
comes_behind (Some (items.Activity last)) (items.Leaf id) = false
comes_behind (Some (items.Activity last)) (items.Activity id) = is_before last id

-- The items of a book that come behind this one, whether it still stands in the book or not; or all.
abbrev pub items_behind : Book → Option Item → List Item
items_behind b after = filter (comes_behind after) (items_of b)

-- The first of them that is due.
abbrev pub first_due : Book → ℕ → Option Item → Option Item
first_due b now after = find (is_due b now) (items_behind b after)

-- What comes behind an item that stands in a book in order is what follows it; and the item that is asked next is the
-- first that is due of those that come behind.
pub record FindsTheDue : Type 0 where
  pub all : (b : Book) → items_behind b None ≡ items_of b
  pub follows : (b : Book) (front : List Item) (item : Item) (rest : List Item) → IsRising b → items_of b ≡ front ++ item ∷ rest → items_behind b (Some item) ≡ rest
  pub first : (b : Book) (now : ℕ) (after : Option Item) → IsRising b → next_item b now after ≡ first_due b now after

-- The step of an item that is due; it has no record.
abbrev pub due_outcome : Book → ℕ → Item → Outcome
due_outcome b now item = step b (events.Due item) now true

-- The steps of the items that are due, of a list that is fixed at the beginning: each is asked when its place comes.
abbrev pub due_outcomes : ℕ → List Item → Book → List Outcome
due_outcomes now [] b = []
due_outcomes now (item ∷ rest) b =
    if is_due b now item
    then due_outcome b now item ∷ due_outcomes now rest (due_outcome b now item).book
    else due_outcomes now rest b

-- Asking the items of a fixed list, each when its place comes, is finding the next due one in the book as it now is,
-- again and again: where none is found nothing is left to do; and where one is found, its step comes next, and then what
-- comes behind it in the book behind that step, which is in order too and leaves fewer to ask. The same of the due steps
-- of a turn, whatever its fates and its stop.
pub record WalksTheDue : Type 0 where
  pub unrecorded : (b : Book) (now : ℕ) (item : Item) → (plan b (events.Due item) now).entry ≡ None
  pub over : (b : Book) (now : ℕ) (after : Option Item) → IsRising b → next_item b now after ≡ None → due_outcomes now (items_behind b after) b ≡ []
  pub found : (b : Book) (now : ℕ) (after : Option Item) (item : Item) → IsRising b → next_item b now after ≡ Some item → is_due b now item ≡ true
  pub next : (b : Book) (now : ℕ) (after : Option Item) (item : Item) → IsRising b → next_item b now after ≡ Some item
      → due_outcomes now (items_behind b after) b
      ≡ due_outcome b now item ∷ due_outcomes now (items_behind (due_outcome b now item).book (Some item)) (due_outcome b now item).book
  pub rising : (b : Book) (now : ℕ) (item : Item) → IsRising b → IsRising (due_outcome b now item).book
  pub fewer : (b : Book) (now : ℕ) (after : Option Item) (item : Item) → IsRising b → next_item b now after ≡ Some item
      → length (items_behind (due_outcome b now item).book (Some item)) < length (items_behind b after)
  pub turn_over : (n now : ℕ) (after : Option Item) (r : Turning) → IsRising r.book → next_item r.book now after ≡ None
      → due_steps n now (items_behind r.book after) r ≡ r
  pub turn_next : (n now : ℕ) (after : Option Item) (item : Item) (r : Turning) → IsRising r.book → next_item r.book now after ≡ Some item
      → due_steps n now (items_behind r.book after) r
      ≡ due_steps n now (items_behind (due_step n now item r).book (Some item)) (due_step n now item r)
  pub turn_rising : (n now : ℕ) (item : Item) (r : Turning) → IsRising r.book → IsRising (due_step n now item r).book
