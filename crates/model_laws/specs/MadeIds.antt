-- What a node makes through the events of a world.
use Rattle.std.specs.Prelude.{ℕ, List, [], ◌∷◌, ◌++◌, Some, None, true, false, nat_eq, if◌then◌else◌, ◌≡◌, codes, refl}
use Rattle.std.specs.Fmt.{digits}
use Rattle.at_base.specs.Numbers.{Numbers}
use Rattle.at_base.specs.declared.event.Local.TheVariants as locals
use Rattle.at_model.specs.Book.{Book}
use Rattle.at_model.specs.Activities.{on_begin}
use Rattle.model_laws.specs.DrawnIds.{LifeEvent, newborn, life_of, made_through, new_ids, AreApart, ids_of}
use Rattle.model_laws.specs.Order.{IsInOrderWhileUp}
use Rattle.at_model.specs.Step.{request_plan}
use Rattle.at_model.specs.World.{Node, World, WorldEvent, Ask, Crash, Up, Traced, nth, opening, node_of, trace_of, world_step, run_of, Hosts, example_hosts}
use Rattle.sha1.specs.Sha1.{sha1, first_words, schedule, rounds, compress, hash_after, digest_bytes}
use Rattle.uuid.specs.Text.{by_index}

-- The ids that steps make: those that the book behind each holds, and the book before it did not.
abbrev pub made_in : List Traced → List Numbers
made_in [] = []
made_in (t ∷ ts) = new_ids t.before t.outcome.book ++ made_in ts

abbrev pub made_by_event : World → WorldEvent → List Numbers
made_by_event w e = made_in (trace_of w e)

-- The ids that events make on one node, in order. A start makes none: what it recovers was made before.
abbrev pub made_on : ℕ → World → List WorldEvent → List Numbers
made_on n w [] = []
made_on n w (e ∷ es) =
    (if nat_eq (node_of e) n then made_by_event w e else []) ++ made_on n (world_step w e) es

-- A node in a run lived a life: its journal and its book are what that life left, and it made what that life made.
pub record HasLived (base : List ℕ) (x : Node) (ids : List Numbers) : Type 0 where
  pub events : List LifeEvent
  pub journal : (life_of base events newborn).journal ≡ x.journal
  pub book : (life_of base events newborn).book ≡ x.book
  pub made : made_through base events newborn ≡ ids

-- In every run of a world each node lives a life, in which its book is always in order, and the items that the events
-- make on one node have different ids, however often it stops and starts.
pub record MakesNoIdTwice : Type 0 where
  pub apart : (hosts : Hosts) (n : ℕ) (es : List WorldEvent) → AreApart (made_on n (opening hosts) es)
  pub lived : (hosts : Hosts) (n : ℕ) (es : List WorldEvent) (x : Node) → nth n (run_of hosts es).nodes ≡ Some x → HasLived (hosts.base_of n) x (made_on n (opening hosts) es)
  pub order : (hosts : Hosts) (n : ℕ) (es : List WorldEvent) (x : Node) → nth n (run_of hosts es).nodes ≡ Some x → IsInOrderWhileUp x.book

-- In every run the ids of one book differ, over all three of its lists.
abbrev pub HoldsNoIdTwice : Type 0
HoldsNoIdTwice = (hosts : Hosts) (n : ℕ) (es : List WorldEvent) (x : Node) (b : Book) → nth n (run_of hosts es).nodes ≡ Some x → x.book ≡ Some b → AreApart (ids_of b)

-- A begun activity on each side of a crash: two ids.
abbrev pub begins_twice : List WorldEvent
begins_twice =
    Up 1 true false
    ∷ Ask 1 (locals.Begin (codes "http://n2.example") 0) [] None
    ∷ Crash 1
    ∷ Up 1 true false
    ∷ Ask 1 (locals.Begin (codes "http://n2.example") 0) [] None ∷ []

pub makes_two : made_on 1 (opening (example_hosts 2)) begins_twice ≡ record { incarnation = 1; counter = 1 } ∷ record { incarnation = 2; counter = 1 } ∷ []
unfolding request_plan on_begin world_step sha1 first_words schedule rounds compress hash_after digest_bytes by_index digits
makes_two = refl
