-- A law over every world that is reached: what holds at the opening, over each step and each of its posts, and where a
-- node falls, rises or waits.
use Rattle.std.specs.Prelude.{ℕ, List, [], ◌∷◌, Some, None, Bool, ◌+◌, ◌≡◌, ◌<◌}
use Rattle.std.specs.List.{AllByRecursion}
use Rattle.std.proofs.Common.{inl, inr, sym, subst}
use Rattle.at_base.specs.declared.event.Event.{Event}
use Rattle.at_base.specs.declared.outs.Post.{Post}
use Rattle.at_base.specs.declared.outs.Out.{Out}
use Rattle.at_base.specs.declared.outs.Out.TheVariants as outs
use Rattle.at_model.specs.Book.{Book, last_counter}
use Rattle.at_model.specs.Recovery.{last_incarnation}
use Rattle.at_model.specs.Step.{step}
use Rattle.at_model.specs.World.{Node, World, nth, put_nth, opening, with_post, goes_down, started, up_after, Hosts}
use Rattle.model_laws.specs.Agreement.{IsIn}
use Rattle.model_laws.specs.ReachedWorlds.{Heard, post_all, counts, Reached, opened, stepped, fell, rose, waited}

abbrev pub OutFine : (Post → Type 0) → Out → Type 0
OutFine F (outs.Post p) = F p
OutFine F (outs.Answer status reply) = Unit {0}

-- Good holds of every reached world; Fine is what a post asks of the world that it is put into.
pub record Law (hosts : Hosts) : Type 1 where
  pub Good : World → Type 0
  pub Fine : (w : World) → Good w → ℕ → Post → Type 0
  pub opens : Good (opening hosts)
  pub steps : (u : World) (n : ℕ) (x : Node) (b : Book) (e : Event) (now : ℕ) (landed : Bool) → Reached hosts u → nth n u.nodes ≡ Some x → x.book ≡ Some b → Heard u n x e → Good u
      → (g : Good (counts u n x b e now landed)) × AllByRecursion (OutFine (Fine (counts u n x b e now landed) g n)) (step b e now landed).outs
  pub posts : (w : World) (g : Good w) (n : ℕ) (p : Post) → Fine w g n p → Good (with_post n p w)
  pub still_fine : (w : World) (g : Good w) (n : ℕ) (p q : Post) → (f : Fine w g n p) → Fine w g n q → Fine (with_post n p w) (posts w g n p f) n q
  pub falls : (u : World) (n : ℕ) (x : Node) (b : Book) → Reached hosts u → nth n u.nodes ≡ Some x → x.book ≡ Some b → Good u → Good (goes_down n b u)
  pub rises : (u : World) (n : ℕ) (x : Node) (stop : Bool) → Reached hosts u → nth n u.nodes ≡ Some x → x.book ≡ None → last_incarnation x.journal < last_counter → Good u
      → Good (record u { nodes = put_nth n (up_after (started (last_incarnation x.journal + 1) x) stop) u.nodes })
  pub waits : (u : World) (n : ℕ) (x : Node) (clock : ℕ) → Reached hosts u → nth n u.nodes ≡ Some x → Good u → Good (record u { nodes = put_nth n (record x { clock = clock }) u.nodes })

-- what all outs have, each post among them has
pub one_fine : (F : Post → Type 0) (os : List Out) (p : Post) → AllByRecursion (OutFine F) os → IsIn (outs.Post p) os → F p
one_fine F [] p h i = absurd i
one_fine F (o ∷ os) p (h, k) (inl e) = subst (OutFine F) (sym e) h
one_fine F (o ∷ os) p (h, k) (inr i) = one_fine F os p k i

pub all_fine : (F : Post → Type 0) (os : List Out) (ps : List Post) → AllByRecursion (OutFine F) os → AllByRecursion (λ p. IsIn (outs.Post p) os) ps → AllByRecursion F ps
all_fine F os [] h i = tt
all_fine F os (p ∷ ps) h (i, is) = (one_fine F os p h i, all_fine F os ps h is)

posted : (hosts : Hosts) (l : Law hosts) (n : ℕ) (ps : List Post) (w : World) (g : l.Good w) → AllByRecursion (l.Fine w g n) ps → l.Good (post_all n ps w)
posted hosts l n [] w g h = g
posted hosts l n (p ∷ ps) w g (h, k) = posted hosts l n ps (with_post n p w) (l.posts w g n p h) (still ps k)
  where
    still : (qs : List Post) → AllByRecursion (l.Fine w g n) qs → AllByRecursion (l.Fine (with_post n p w) (l.posts w g n p h) n) qs
    still [] i = tt
    still (q ∷ qs) (i, is) = (l.still_fine w g n p q h i, still qs is)

pub holds : (hosts : Hosts) (l : Law hosts) (w : World) → Reached hosts w → l.Good w
holds hosts l w (opened is) = subst l.Good (sym is) l.opens
holds hosts l w (stepped u n x b e now landed ps reached found up heard those is) =
    let (g, f) = l.steps u n x b e now landed reached found up heard (holds hosts l u reached) in
    subst l.Good (sym is) (posted hosts l n ps (counts u n x b e now landed) g (all_fine (l.Fine (counts u n x b e now landed) g n) (step b e now landed).outs ps f those))
holds hosts l w (fell u n x b reached found up is) = subst l.Good (sym is) (l.falls u n x b reached found up (holds hosts l u reached))
holds hosts l w (rose u n x stop reached found down small is) = subst l.Good (sym is) (l.rises u n x stop reached found down small (holds hosts l u reached))
holds hosts l w (waited u n x clock reached found is) = subst l.Good (sym is) (l.waits u n x clock reached found (holds hosts l u reached))
