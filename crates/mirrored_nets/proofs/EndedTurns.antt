-- What a machine was told of stands through a turn.
use Rattle.std.specs.Prelude.{ℕ, List, [], ◌∷◌, ◌≡◌, true, false}
use Rattle.std.proofs.Common.{refl, sym, ap, subst, ◌∙◌, inl, inr}
use Rattle.memory_net.specs.Calls.{Turns}
use Rattle.node_at.specs.Endings.{Ends}
use Rattle.node_at.specs.State.{State, seen}
use Rattle.node_at.specs.Turns.{Turns as Steps}
use Rattle.node_at.specs.declared.node.Node.{Node}
use Rattle.node_at.specs.declared.role.Role.TheVariants.{All}
use Rattle.node_at.specs.declared.shrink.Shrunk.{Shrunk}
use Rattle.node_at.specs.declared.turn.Turned.{Turned}
use Rattle.node_at.specs.declared.turn.Turned.TheVariants as turneds
use Rattle.site_memory.specs.Sites.{link_of, told_of}
use Rattle.site_memory.specs.declared.machine.MemSite.{MemSite}
use Rattle.site_model.specs.Site.{Counts}
use Rattle.site_model.specs.Told.{Link}

-- what the machine was told stays
kept_by_steps : (first : Turned) (n node : State) (c behind : MemSite) → n.halted ≡ false → (first ≡ turneds.Closed → ⊥) → Steps first All n node (told_of c) (told_of behind)
    → (told_of behind).counts.arming ≡ (told_of c).counts.arming
kept_by_steps (turneds.Served status) n node c behind runs closed steps = steps.serves.later.arming
kept_by_steps turneds.Ticked n node c behind runs closed steps = steps.serves.later.arming
kept_by_steps turneds.NoRoom n node c behind runs closed steps = steps.serves.later.arming
kept_by_steps turneds.Halted n node c behind runs closed (inl (halted, rests)) = let e : true ≡ false = sym halted ∙ runs in absurd cc
kept_by_steps turneds.Halted n node c behind runs closed (inr (going, opens)) = opens.serves.later.arming
kept_by_steps turneds.Closed n node c behind runs closed steps = absurd (closed refl)
kept_by_steps turneds.LinkDown n node c behind runs closed steps = steps.3

kept_at_end : (first result : Turned) (shrunk : Shrunk) (n m : State) (old new : MemSite) → Ends told_of first result shrunk n m old new → (told_of new).counts.arming ≡ (told_of old).counts.arming
kept_at_end (turneds.Served status) result shrunk n m old new e = ap (λ (k : Counts). k.arming) e.counted.others
kept_at_end turneds.Ticked result shrunk n m old new e = ap (λ (k : Counts). k.arming) e.counted.others
kept_at_end turneds.NoRoom result shrunk n m old new e = ap (λ (s : MemSite). (told_of s).counts.arming) e.site
kept_at_end turneds.Halted result shrunk n m old new e = ap (λ (s : MemSite). (told_of s).counts.arming) e.site
kept_at_end turneds.Closed result shrunk n m old new e = ap (λ (s : MemSite). (told_of s).counts.arming) e.site
kept_at_end turneds.LinkDown result shrunk n m old new e = ap (λ (s : MemSite). (told_of s).counts.arming) e.site

module _ (bytes : List ℕ) (r : Turned) (n m : Node) (old new : MemSite) (turns : Turns bytes r n m old new) (runs : n.halted ≡ false) where
  -- the connection waits
  closed : turns.turn.first ≡ turneds.Closed → ⊥
  closed e =
      let none = (subst (λ z. Steps z All (seen n) turns.turn.node (told_of turns.connected) (told_of turns.turn.behind)) e turns.turn.steps).3 (link_of turns.connected.line) refl in
      let one : [] ≡ bytes ∷ [] = sym none ∙ ap (λ (l : Link). l.waiting) turns.connects.brings in
      absurd cc

  pub turn_kept : (told_of new).counts.arming ≡ (told_of old).counts.arming
  turn_kept =
      kept_at_end turns.turn.first r m.shrunk turns.turn.node (seen m) turns.turn.behind new turns.turn.ends
      ∙ kept_by_steps turns.turn.first (seen n) turns.turn.node turns.connected turns.turn.behind runs closed turns.turn.steps ∙ ap (λ (s : MemSite). (told_of s).counts.arming) turns.connects.others
