-- Ids over a node's life: each id that it holds was drawn, and none is made twice.
use Rattle.std.specs.Prelude.{ℕ, List, [], ◌∷◌, ◌++◌, Option, Some, None, Bool, not, nat_lt, ◌&&◌, ◌+◌, if◌then◌else◌, length, map, filter, codes, ◌≡◌, ◌≤◌, refl, true, false}
use Rattle.std.specs.List.{list_any, AllByRecursion}
use Rattle.at_base.specs.Numbers.{Numbers}
use Rattle.at_base.specs.declared.record.Record.{Record}
use Rattle.at_base.specs.declared.record.Record.TheVariants as records
use Rattle.at_base.specs.declared.event.Local.TheVariants as locals
use Rattle.at_base.specs.declared.event.Event.{Event}
use Rattle.at_base.specs.declared.event.Event.TheVariants as events
use Rattle.at_model.specs.Book.{Book, Activity, is_id, transaction_id, leaf_id, activity_id, last_counter}
use Rattle.at_model.specs.Activities.{on_begin}
use Rattle.at_model.specs.Step.{request_plan, plan, step}
use Rattle.sha1.specs.Sha1.{sha1, first_words, schedule, rounds, compress, hash_after, digest_bytes}
use Rattle.uuid.specs.Text.{by_index}
use Rattle.std.specs.Fmt.{digits}
use Rattle.at_model.specs.Recovery.{last_incarnation, recover}
use Rattle.model_laws.specs.Agreement.{IsIn}
use Rattle.model_laws.specs.Laws.{IsDrawn}

-- an activity's own id, and its root's
pub record AreDrawn (b : Book) (a : Activity) : Type 0 where
  pub own : IsDrawn b a.id
  pub root : IsDrawn b a.root

-- Each id in the book was drawn.
pub record HoldsDrawn (b : Book) : Type 0 where
  pub transactions : AllByRecursion (λ t. IsDrawn b t.id) b.transactions
  pub leaves : AllByRecursion (λ l. IsDrawn b l.id) b.leaves
  pub activities : AllByRecursion (AreDrawn b) b.activities

-- The id that a record is about was drawn; the incarnation of a Start is this one or an earlier one.
abbrev pub IsDrawnRecord : Book → Record → Type 0
IsDrawnRecord b (records.Start incarnation) = incarnation ≤ b.incarnation
IsDrawnRecord b (records.LeafPrepared id coordinator key value) = IsDrawn b id
IsDrawnRecord b (records.LeafCommitted id) = IsDrawn b id
IsDrawnRecord b (records.LeafAborted id) = IsDrawn b id
IsDrawnRecord b (records.Voted id superior seats) = IsDrawn b id
IsDrawnRecord b (records.Decided id seats) = IsDrawn b id
IsDrawnRecord b (records.SubCommitted id) = IsDrawn b id
IsDrawnRecord b (records.Ended id) = IsDrawn b id
IsDrawnRecord b (records.Done id) = IsDrawn b id

-- the journal of a node that starts behind these records
abbrev pub restarted : List Record → List Record
restarted rs = rs ++ records.Start (last_incarnation rs + 1) ∷ []

-- Each id that a book holds stays drawn: over a step, whether its record landed or not, and over a new start, behind
-- which each id in the journal is of an earlier incarnation. A record is about an id that was drawn before.
pub record IdsStayDrawn : Type 0 where
  pub book : (b : Book) (e : Event) (now : ℕ) (landed : Bool) → HoldsDrawn b → HoldsDrawn (step b e now landed).book
  pub entry : (b : Book) (e : Event) (now : ℕ) (r : Record) → HoldsDrawn b → (plan b e now).entry ≡ Some r → IsDrawnRecord b r
  pub stays : (b : Book) (e : Event) (now : ℕ) (landed : Bool) (id : Numbers) → IsDrawn b id → IsDrawn (step b e now landed).book id
  pub recovered : (base : List ℕ) (rs : List Record) → HoldsDrawn (recover base (restarted rs))
  pub journal : (base : List ℕ) (rs : List Record) → AllByRecursion (IsDrawnRecord (recover base (restarted rs))) (restarted rs)

-- The life of one node: its journal, and its book while it is up.
pub record Life : Type 0 where
  pub journal : List Record
  pub book : Option Book

-- What happens in it: an event at a time, whose record lands or is absent; a stop; a start, whose record lands or not.
pub data LifeEvent : Type 0 where
  Stepped : (e : Event) (now : ℕ) (landed : Bool) → LifeEvent
  Stopped : LifeEvent
  Started : (landed : Bool) → LifeEvent

abbrev pub newborn : Life
newborn = record { journal = []; book = None }

abbrev pub with_entry : Option Record → Bool → List Record → List Record
with_entry None landed rs = rs
with_entry (Some r) landed rs = if landed then rs ++ r ∷ [] else rs

abbrev pub stepped : Event → ℕ → Bool → Life → Option Book → Life
stepped e now landed l None = l
stepped e now landed l (Some b) =
    record { journal = with_entry (plan b e now).entry landed l.journal; book = Some (step b e now landed).book }

-- A start while it is down, of the next incarnation; the last incarnation leaves no next one.
abbrev pub come_up : List ℕ → Bool → Life → Option Book → Life
come_up base landed l (Some b) = l
come_up base landed l None =
    if landed && nat_lt (last_incarnation l.journal) last_counter
    then record { journal = restarted l.journal; book = Some (recover base (restarted l.journal)) }
    else l

abbrev pub live_through : List ℕ → LifeEvent → Life → Life
live_through base (Stepped e now landed) l = stepped e now landed l l.book
live_through base Stopped l = record { journal = l.journal; book = None }
live_through base (Started landed) l = come_up base landed l l.book

-- the life behind these events
abbrev pub life_of : List ℕ → List LifeEvent → Life → Life
life_of base [] l = l
life_of base (e ∷ es) l = life_of base es (live_through base e l)

-- the ids of a book's items
abbrev pub ids_of : Book → List Numbers
ids_of b = map transaction_id b.transactions ++ (map leaf_id b.leaves ++ map activity_id b.activities)

abbrev pub is_among : List Numbers → Numbers → Bool
is_among ids id = list_any (is_id id) ids

-- An id is made where a step's book holds it, and the book before did not.
abbrev pub new_ids : Book → Book → List Numbers
new_ids before after = filter (λ id. not (is_among (ids_of before) id)) (ids_of after)

abbrev pub made_by_step : Event → ℕ → Bool → Option Book → List Numbers
made_by_step e now landed None = []
made_by_step e now landed (Some b) = new_ids b (step b e now landed).book

-- A start makes no id: what it recovers was made before.
abbrev pub made_in : LifeEvent → Life → List Numbers
made_in (Stepped e now landed) l = made_by_step e now landed l.book
made_in Stopped l = []
made_in (Started landed) l = []

-- the ids that a node makes from here on
abbrev pub made_through : List ℕ → List LifeEvent → Life → List Numbers
made_through base [] l = []
made_through base (e ∷ es) l = made_in e l ++ made_through base es (live_through base e l)

abbrev pub AreApart : List Numbers → Type 0
AreApart [] = Unit {0}
AreApart (id ∷ rest) = (IsIn id rest → ⊥) × AreApart rest

-- A step makes one id at most, which was not drawn before; and over its whole life, however often it stops and starts, a
-- node makes no id twice.
pub record NoIdMadeTwice : Type 0 where
  pub one : (b : Book) (e : Event) (now : ℕ) (landed : Bool) → length (new_ids b (step b e now landed).book) ≤ 1
  pub new : (b : Book) (e : Event) (now : ℕ) (landed : Bool) → AllByRecursion (λ id. IsDrawn b id → ⊥) (new_ids b (step b e now landed).book)
  pub life : (base : List ℕ) (es : List LifeEvent) → AreApart (made_through base es newborn)

-- A begun activity on each side of a stop: two ids.
abbrev pub two_lives : List LifeEvent
two_lives =
    Started true
    ∷ Stepped (events.Local (locals.Begin (codes "http://c") 0)) 5 true
    ∷ Stopped
    ∷ Started false
    ∷ Started true
    ∷ Stepped (events.Local (locals.Begin (codes "http://c") 0)) 7 true ∷ []

pub makes_two :
    made_through (codes "http://a") two_lives newborn
    ≡ record { incarnation = 1; counter = 1 } ∷ record { incarnation = 2; counter = 1 } ∷ []
unfolding request_plan on_begin sha1 first_words schedule rounds compress hash_after digest_bytes by_index digits
makes_two = refl
