-- What an audit's steps up come to: who is above whom, and the top of an item.
use Rattle.std.specs.Prelude.{List, Some, None, true, ◌≡◌}
use Rattle.audit_at.specs.Superiors.{comes_back, superior_of, top_of}
use Rattle.audit_at.specs.declared.item.Item.{Item}
use Rattle.audit_at.specs.declared.subordinate.Subordinate.{Subordinate}

-- above an item are its superior, and whoever is above that
pub data IsOver (subs : List Subordinate) (up : Item) : Item → Type 0 where
  superior : {item : Item} → superior_of subs item ≡ Some up → IsOver subs up item
  further : {item : Item} (next : Item) → superior_of subs item ≡ Some next → IsOver subs up next → IsOver subs up item

-- the top of an item is itself where it has no superior, and else its superior's
pub data IsTop (subs : List Subordinate) (top : Item) : Item → Type 0 where
  itself : {item : Item} → superior_of subs item ≡ None → item ≡ top → IsTop subs top item
  above : {item : Item} (next : Item) → superior_of subs item ≡ Some next → IsTop subs top next → IsTop subs top item

pub record TopsAreTops : Type 0 where
  -- an item is named for its superiors exactly where it is above itself
  pub back : (subs : List Subordinate) (item : Item) → comes_back subs item ≡ true → IsOver subs item item
  pub comes : (subs : List Subordinate) (item : Item) → IsOver subs item item → comes_back subs item ≡ true
  -- where none is, each item has one top
  pub top : (subs : List Subordinate) → ((item : Item) → IsOver subs item item → ⊥) → (item : Item) → IsTop subs (top_of subs item) item
  pub one : (subs : List Subordinate) (item a b : Item) → IsTop subs a item → IsTop subs b item → a ≡ b
