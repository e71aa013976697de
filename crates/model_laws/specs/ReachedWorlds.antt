-- The worlds that a run comes through, step by step: each step of a turn is one, its record landed or absent, and any of
-- its posts are sent. A node always holds its newest book.
use Rattle.std.specs.Prelude.{ℕ, List, [], ◌∷◌, ◌++◌, Some, None, Bool, ◌+◌, map, ◌≡◌, ◌<◌, ◌^◌}
use Rattle.std.specs.List.{AllByRecursion}
use Rattle.at_base.specs.declared.event.Event.{Event}
use Rattle.at_base.specs.declared.event.Event.TheVariants as events
use Rattle.at_base.specs.declared.outs.Post.{Post}
use Rattle.at_base.specs.declared.outs.Out.TheVariants as outs
use Rattle.at_model.specs.Book.{Book, last_counter}
use Rattle.at_model.specs.Recovery.{last_incarnation}
use Rattle.at_model.specs.Step.{plan, step}
use Rattle.at_model.specs.World.{Node, Posted, World, WorldEvent, nth, put_nth, opening, decoded, with_post, accepted_in, happened_at, goes_down, started, up_after, run_of, Hosts, HaveOwnAddresses, example_hosts}
use Rattle.model_laws.specs.Agreement.{IsIn}
use Rattle.model_laws.specs.DrawnIds.{with_entry}

-- A message that arrives was posted to this node.
abbrev pub Heard : World → ℕ → Node → Event → Type 0
Heard u n x (events.Arrived a) = (p : Posted) × IsIn p u.posted × (p.receiver ≡ Some n) × (decoded x.base p.content ≡ Some a)
Heard u n x (events.Local l) = Unit {0}
Heard u n x (events.Due item) = Unit {0}
Heard u n x events.Tick = Unit {0}

-- posts, one behind the other
abbrev pub post_all : ℕ → List Post → World → World
post_all n [] w = w
post_all n (p ∷ ps) w = post_all n ps (with_post n p w)

-- The world behind a step that counts, before its posts.
abbrev pub counts : World → ℕ → Node → Book → Event → ℕ → Bool → World
counts u n x b e now landed = record u {
  nodes = put_nth n (record x { book = Some (step b e now landed).book; journal = with_entry (plan b e now).entry landed x.journal }) u.nodes;
  accepted = u.accepted ++ accepted_in n u.nodes b (step b e now landed).book.transactions;
  happened = u.happened ++ map (happened_at n) (step b e now landed).effects;
}

pub data Reached (hosts : Hosts) : World → Type 0 where
  -- the opening world
  opened : {w : World} → w ≡ opening hosts → Reached hosts w
  -- a step of a node that is up, and any of its posts
  stepped : {w : World} (u : World) (n : ℕ) (x : Node) (b : Book) (e : Event) (now : ℕ) (landed : Bool) (ps : List Post) → Reached hosts u → nth n u.nodes ≡ Some x → x.book ≡ Some b
      → Heard u n x e → AllByRecursion (λ p. IsIn (outs.Post p) (step b e now landed).outs) ps → w ≡ post_all n ps (counts u n x b e now landed) → Reached hosts w
  -- a node goes down
  fell : {w : World} (u : World) (n : ℕ) (x : Node) (b : Book) → Reached hosts u → nth n u.nodes ≡ Some x → x.book ≡ Some b → w ≡ goes_down n b u → Reached hosts w
  -- a node that is down writes its next Start, and is up with what its records stand for, or stops at once
  rose : {w : World} (u : World) (n : ℕ) (x : Node) (stop : Bool) → Reached hosts u → nth n u.nodes ≡ Some x → x.book ≡ None → last_incarnation x.journal < last_counter
      → w ≡ record u { nodes = put_nth n (up_after (started (last_incarnation x.journal + 1) x) stop) u.nodes } → Reached hosts w
  -- time passes at a node
  waited : {w : World} (u : World) (n : ℕ) (x : Node) (clock : ℕ) → Reached hosts u → nth n u.nodes ≡ Some x → w ≡ record u { nodes = put_nth n (record x { clock = clock }) u.nodes } → Reached hosts w

-- Every run leads to a world that is reached so, whatever is delivered, lost, repeated, stopped or crashed.
abbrev pub RunsAreReached : Type 0
RunsAreReached = (hosts : Hosts) (es : List WorldEvent) → Reached hosts (run_of hosts es)

-- The bases of examples are apart.
abbrev pub ExamplesAreApart : Type 0
ExamplesAreApart = (count : ℕ) → count < 2 ^ 64 → HaveOwnAddresses (example_hosts count)
