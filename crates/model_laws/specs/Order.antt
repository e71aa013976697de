-- The lists of a book in the order of making: ids rise.
use Rattle.std.specs.Prelude.{ℕ, List, [], ◌∷◌, Option, Some, None, Bool, true, map, ◌≡◌, ◌⊎◌}
use Rattle.std.specs.List.{AllByRecursion}
use Rattle.at_base.specs.Numbers.{Numbers}
use Rattle.at_base.specs.declared.record.Record.{Record}
use Rattle.at_base.specs.declared.event.Item.{Item}
use Rattle.at_base.specs.declared.event.Event.{Event}
use Rattle.at_base.specs.declared.event.Event.TheVariants as events
use Rattle.at_model.specs.Book.{Book, transaction_id, leaf_id, activity_id}
use Rattle.at_model.specs.Recovery.{is_before, recover}
use Rattle.at_model.specs.Step.{plan, step}
use Rattle.model_laws.specs.DrawnIds.{HoldsDrawn, restarted, LifeEvent, newborn, life_of}

-- Each id is before all that stand behind it.
abbrev pub AreRising : List Numbers → Type 0
AreRising [] = Unit {0}
AreRising (id ∷ rest) = AllByRecursion (λ i. is_before id i ≡ true) rest × AreRising rest

-- Each list of a book is in the order of making, and holds no id twice.
pub record IsRising (b : Book) : Type 0 where
  pub transactions : AreRising (map transaction_id b.transactions)
  pub leaves : AreRising (map leaf_id b.leaves)
  pub activities : AreRising (map activity_id b.activities)

-- Each list of a book is in the order of making, and each id that it holds was drawn.
pub record IsInOrder (b : Book) : Type 0 where
  pub rising : IsRising b
  pub drawn : HoldsDrawn b

-- These ids, of which some may be left out.
abbrev pub AreOf : List Numbers → List Numbers → Type 0
AreOf [] [] = Unit {0}
AreOf [] (i ∷ is) = ⊥
AreOf (id ∷ ids) [] = AreOf ids []
AreOf (id ∷ ids) (i ∷ is) = AreOf ids (i ∷ is) ⊎ ((id ≡ i) × AreOf ids is)

-- A book that holds the ids of another, or some of them, in the same order.
pub record HoldsNoMore (before after : Book) : Type 0 where
  pub transactions : AreOf (map transaction_id before.transactions) (map transaction_id after.transactions)
  pub leaves : AreOf (map leaf_id before.leaves) (map leaf_id after.leaves)
  pub activities : AreOf (map activity_id before.activities) (map activity_id after.activities)

abbrev pub IsInOrderWhileUp : Option Book → Type 0
IsInOrderWhileUp None = Unit {0}
IsInOrderWhileUp (Some b) = IsInOrder b

-- Recovered lists are in order, whatever the journal. A node that starts has a book in order, each step keeps it so, and
-- so does the whole life of a node. A book that holds no more is in order too; the step of an item that is due makes no
-- item, and has no record.
pub record IdsRise : Type 0 where
  pub recovered : (base : List ℕ) (rs : List Record) → IsRising (recover base rs)
  pub started : (base : List ℕ) (rs : List Record) → IsInOrder (recover base (restarted rs))
  pub stays : (b : Book) (e : Event) (now : ℕ) (landed : Bool) → IsInOrder b → IsInOrder (step b e now landed).book
  pub fewer : (before after : Book) → HoldsNoMore before after → IsRising before → IsRising after
  pub due : (b : Book) (now : ℕ) (item : Item) (landed : Bool) → HoldsNoMore b (step b (events.Due item) now landed).book
  pub unrecorded : (b : Book) (now : ℕ) (item : Item) → (plan b (events.Due item) now).entry ≡ None
  pub life : (base : List ℕ) (es : List LifeEvent) → IsInOrderWhileUp (life_of base es newborn).book
