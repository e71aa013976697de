-- Which transactions voted to which, in the journals of several nodes (WS-AtomicTransaction 1.2, section 3.3).
use Rattle.std.specs.Prelude.{ℕ, zero, suc, List, [], ◌∷◌, ◌++◌, Bool, false, ◌&&◌, ◌||◌, nat_eq, Option, Some, None, if◌then◌else◌, bytes_eq, length, option_map, unwrap_or}
use Rattle.std.specs.List.{list_any}
use Rattle.at_base.specs.Numbers.{Numbers}
use Rattle.at_base.specs.declared.notice.Kind.{Kind}
use Rattle.at_base.specs.declared.notice.Kind.TheVariants as kinds
use Rattle.at_base.specs.declared.record.Record.{Record}
use Rattle.at_base.specs.declared.record.Record.TheVariants as records
use Rattle.at_base.specs.declared.target.Target.{Target}
use Rattle.at_base.specs.declared.target.Target.TheVariants as targets
use Rattle.at_model.specs.Book.{is_id}
use Rattle.at_model.specs.Recovery.{is_voted}
use Rattle.endpoints.specs.Addresses.{or_else, slash, target_at}
use Rattle.audit_at.specs.declared.item.Item.{Item}
use Rattle.audit_at.specs.declared.subordinate.Subordinate.{Subordinate}

-- the base of a node, and the records of its journal
pub record Log : Type 0 where
  pub base : List ℕ
  pub records : List Record

abbrev pub item_at : List ℕ → Numbers → Item
item_at base id = record { base = base; id = id }

abbrev pub is_item : Item → Item → Bool
is_item a b = bytes_eq a.base b.base && is_id a.id b.id

-- the transaction that has the durable seat
abbrev pub of_kind : Numbers → Kind → Option Numbers
of_kind id kinds.Durable = Some id
of_kind id kinds.Volatile = None

abbrev pub durable_seat : Option Target → Option Numbers
durable_seat (Some (targets.Coordinator id seat)) = of_kind id seat.kind
durable_seat other = None

-- the same, of the node at this base
abbrev pub named_at : List ℕ → List ℕ → Option Item
named_at address base = option_map (item_at base) (durable_seat (target_at base address))

-- of a node whose base goes on from there
abbrev pub named_from : List ℕ → List ℕ → List ℕ → Option Item
named_from address base [] = None
named_from address base (b ∷ rest) =
    or_else (if nat_eq b slash then named_at address base else None) (named_from address (base ++ b ∷ []) rest)

-- The transaction that an address names as the one that accepted a durable registration: behind the base of its node stands the path
-- of a durable seat, `/c/d/ID/SEAT` (this project's profile). Another address names none.
abbrev pub named : List ℕ → Option Item
named address = named_from address [] address

-- Of several votes of one transaction the last counts. Its superior is the one that the vote was for.
abbrev pub subordinate_at : List ℕ → Record → List Record → List Subordinate
subordinate_at base (records.Voted id superior seats) rest =
    if list_any (is_voted id) rest then [] else record { item = item_at base id; superior = named superior.address } ∷ []
subordinate_at base other rest = []

abbrev pub subordinates_in : List ℕ → List Record → List Subordinate
subordinates_in base [] = []
subordinates_in base (r ∷ rest) = subordinate_at base r rest ++ subordinates_in base rest

-- all that voted
abbrev pub subordinates : List Log → List Subordinate
subordinates [] = []
subordinates (log ∷ logs) = subordinates_in log.base log.records ++ subordinates logs

-- the superior of an item; none of what never voted, or voted for an endpoint that names no transaction
abbrev pub superior_of : List Subordinate → Item → Option Item
superior_of [] item = None
superior_of (s ∷ subs) item = if is_item s.item item then s.superior else superior_of subs item

-- so many steps up, as far as there is a superior
abbrev pub climb : List Subordinate → ℕ → Item → Item
climb subs zero item = item
climb subs (suc n) item = climb subs n (unwrap_or (superior_of subs item) item)

-- No way up is longer than there are subordinates, unless it comes back to one.
abbrev pub top_of : List Subordinate → Item → Item
top_of subs item = climb subs (length subs) item

abbrev pub is_some_and : {A : Type 0} → (A → Bool) → Option A → Bool
is_some_and test None = false
is_some_and test (Some x) = test x

-- one of so many steps up from there comes to the item
abbrev pub comes_to : List Subordinate → ℕ → Item → Item → Bool
comes_to subs zero item from = false
comes_to subs (suc n) item from = is_some_and (λ up. is_item up item || comes_to subs n item up) (superior_of subs from)

-- a subordinate whose superiors come back to it
abbrev pub comes_back : List Subordinate → Item → Bool
comes_back subs item = comes_to subs (length subs) item item
