-- A turn on a machine none of whose links may fail.
use Rattle.std.specs.Prelude.{ℕ, List, [], ◌∷◌, ◌≡◌, Bool, true, false, Some, if◌then◌else◌}
use Rattle.std.proofs.Common.{refl, sym, ◌∙◌, ap, subst, arith}
use Rattle.node_at.specs.Endings.{Ends}
use Rattle.node_at.specs.State.{State, seen}
use Rattle.node_at.specs.Turns.{Turns as Steps}
use Rattle.node_at.specs.declared.node.Node.{Node}
use Rattle.node_at.specs.declared.role.Role.TheVariants.{All}
use Rattle.node_at.specs.declared.shrink.Shrunk.{Shrunk}
use Rattle.node_at.specs.declared.turn.Turned.{Turned}
use Rattle.node_at.specs.declared.turn.Turned.TheVariants as turneds
use Rattle.node_worlds.specs.Nets.{IsOpened}
use Rattle.site_model.specs.Counts.{Rose}
use Rattle.site_model.specs.Site.{Arming, Counts}
use Rattle.site_model.specs.Told.{Link}
use Rattle.site_memory.specs.Sites.{link_of, told_of}
use Rattle.site_memory.specs.ToldCalls.{LinksHold}
use Rattle.site_memory.specs.declared.machine.MemSite.{MemSite}
use Rattle.memory_net.specs.Calls.{Turns, TurnsAreHeard}

none_rose : (old new : ℕ) → Rose old new → new ≡ 0 → ⊥
none_rose old new rose none = omega (arith, rose, none)

abbrev IsSome : List (List ℕ) → Type 0
IsSome [] = ⊥
IsSome (x ∷ xs) = Unit {0}

abbrev IsServed : Turned → Type 0
IsServed (turneds.Served status) = Unit {0}
IsServed other = ⊥

module _ (hold : LinksHold) (a : Arming) (bytes : List ℕ) (c new : MemSite) (brings : link_of c.line ≡ record { open_bytes = []; waiting = bytes ∷ [] }) (tells : (told_of c).counts.arming ≡ Some a) where
  received : (told_of new).counts.arming ≡ (told_of c).counts.arming → Rose (told_of c).counts.receive (told_of new).counts.receive → ⊥
  received same rose = none_rose _ _ rose (hold new a (same ∙ tells)).2

  heard : (first result : Turned) (shrunk : Shrunk) (n k m : State) (mid : MemSite) → (result ≡ turneds.Served 0 → Rose (told_of c).counts.receive (told_of new).counts.receive)
      → Steps first All n k (told_of c) (told_of mid) → Ends told_of first result shrunk k m mid new → IsOpened result × (result ≡ turneds.Served 0 → ⊥)
  heard (turneds.Served status) result shrunk n k m mid rose steps ends =
      (subst IsOpened (sym ends.answers) (opened m.halted), λ e. received (ap (λ (z : Counts). z.arming) ends.counted.others ∙ steps.serves.later.arming) (rose e)) where
        opened : (halted : Bool) → IsOpened (if halted then turneds.Halted else turneds.Served status)
        opened true = tt
        opened false = tt
  heard turneds.Ticked result shrunk n k m mid rose steps ends =
      (subst IsOpened (sym ends.answers) (opened m.halted), λ e. received (ap (λ (z : Counts). z.arming) ends.counted.others ∙ steps.serves.later.arming) (rose e)) where
        opened : (halted : Bool) → IsOpened (if halted then turneds.Halted else turneds.Ticked)
        opened true = tt
        opened false = tt
  heard turneds.NoRoom result shrunk n k m mid rose steps ends = (subst IsOpened (sym ends.answers) tt, λ e. subst IsServed (sym e ∙ ends.answers) tt)
  heard turneds.Halted result shrunk n k m mid rose steps ends = (subst IsOpened (sym ends.answers) tt, λ e. subst IsServed (sym e ∙ ends.answers) tt)
  heard turneds.Closed result shrunk n k m mid rose steps ends =
      absurd (subst IsSome (steps.3 (link_of c.line) refl) (subst (λ (l : Link). IsSome l.waiting) (sym brings) tt))
  heard turneds.LinkDown result shrunk n k m mid rose steps ends = absurd (none_rose _ _ steps.2 (hold mid a (steps.3 ∙ tells)).1)

pub turns_are_heard : LinksHold → TurnsAreHeard
turns_are_heard hold bytes result n m old new a t tells =
    heard hold a bytes t.connected new t.connects.brings (ap (λ (z : MemSite). (told_of z).counts.arming) t.connects.others ∙ tells)
    t.turn.first result m.shrunk (seen n) t.turn.node (seen m) t.turn.behind t.unanswered t.turn.steps t.turn.ends
