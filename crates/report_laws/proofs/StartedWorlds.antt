-- Nodes that haven't started, and one that comes up.
use Rattle.std.proofs.Common.{ℕ, zero, suc, ◌+◌, ◌-◌, ◌++◌, ◌≡◌, ◌≤◌, ◌<◌, refl, List, [], ◌∷◌, ap, subst, sym, arith, ◌∙◌}
use Rattle.std.proofs.lemmas.Bool.{eqb-false}
use Rattle.std.specs.Prelude.{Bool, true, false, Option, Some, None, nat_eq}
use Rattle.at_base.specs.declared.record.Record.{Record}
use Rattle.at_model.specs.Views.{up}
use Rattle.at_model.specs.World.{Node, World, example_base, example_hosts, new_node, new_nodes, nth, opening, put_nth, started, up_after, world_step}
use Rattle.model_laws.proofs.NodeLives.{put_other, put_this}
use Rattle.report_laws.proofs.AlikePlays.{HasRecords}

-- a node that hasn't started
pub record IsUnstartedAt (w : World) (n : ℕ) : Type 0 where
  pub node : Node
  pub found : nth n w.nodes ≡ Some node
  pub down : node.book ≡ None
  pub none : node.journal ≡ []

-- it comes up, and the others stay as they are
abbrev risen : Node → Node
risen x = up_after (started 1 x) false

up_nodes : (w : World) (n : ℕ) (h : IsUnstartedAt w n) → (world_step w (up n)).nodes ≡ put_nth n (risen h.node) w.nodes
unfolding world_step
up_nodes w n h = at h.node h.found h.down h.none
  where
    at : (x : Node) → nth n w.nodes ≡ Some x → x.book ≡ None → x.journal ≡ [] → (world_step w (up n)).nodes ≡ put_nth n (risen x) w.nodes
    at x found down none = rw (found, down, none) refl

pub up_begins : (w : World) (n : ℕ) → IsUnstartedAt w n → HasRecords (world_step w (up n)) n
up_begins w n h = record {
  node = risen h.node;
  found = ap (nth n) (up_nodes w n h) ∙ put_this w.nodes n h.node (risen h.node) h.found;
  some = λ e. some_behind _ h.node.journal e;
}
  where
    some_behind : (y : Record) (rs : List Record) → rs ++ y ∷ [] ≡ [] → ⊥
    some_behind y [] e = absurd cc
    some_behind y (r ∷ rs) e = absurd cc

pub up_others : (w : World) (n m : ℕ) → IsUnstartedAt w n → (m ≡ n → ⊥) → IsUnstartedAt w m → IsUnstartedAt (world_step w (up n)) m
up_others w n m h other k = record {
  node = k.node;
  found = ap (nth m) (up_nodes w n h) ∙ (put_other w.nodes m n (risen h.node) other ∙ k.found);
  down = k.down;
  none = k.none;
}

-- none has started in the opening world

abbrev IsNewIn : ℕ → List Node → Type 0
IsNewIn m xs = (x : Node) × (nth m xs ≡ Some x) × (x.book ≡ None) × (x.journal ≡ [])

new_by : (b : Bool) (m : ℕ) (x : Node) (xs : List Node) → nat_eq m 1 ≡ b → x.book ≡ None → x.journal ≡ [] → ((m ≡ 1 → ⊥) → IsNewIn (m - 1) xs) → IsNewIn m (x ∷ xs)
new_by true m x xs t down none again = (x, rw t refl, down, none)
new_by false m x xs t down none again = let (y, found, off, nil) = again (eqb-false m 1 t) in (y, rw t found, off, nil)

new_at : (count first m : ℕ) → 1 ≤ m → m ≤ count → IsNewIn m (new_nodes example_base count first)
new_at zero first m least most = absurd (omega (arith, least, most))
new_at (suc count) first m least most =
    new_by (nat_eq m 1) m (new_node (example_base first)) (new_nodes example_base count (first + 1)) refl refl refl (λ other. new_at count (first + 1) (m - 1) (omega (arith, least, other)) (omega (arith, most)))

pub opening_unstarted : (count n : ℕ) → 1 ≤ n → n ≤ count → IsUnstartedAt (opening (example_hosts count)) n
opening_unstarted count n least most = let (x, found, down, none) = new_at count 1 n least most in record { node = x; found = found; down = down; none = none }
