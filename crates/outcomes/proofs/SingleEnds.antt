-- Nothing ends twice, and nothing happens where there is no node.
use Rattle.std.specs.Prelude.{ℕ, List, [], ◌∷◌, Option, Some, None, Bool, true, false, if◌then◌else◌, nat_eq, ◌&&◌, length, filter, suc, ◌≡◌, ◌≤◌, refl}
use Rattle.std.specs.List.{AllByRecursion}
use Rattle.std.proofs.lemmas.Bool.{eqb-true}
use Rattle.std.proofs.Common.{arith, sym, subst, ap, ◌∙◌}
use Rattle.at_base.specs.declared.outs.Effect.{Effect}
use Rattle.at_model.specs.World.{Happened, Node, Who, World, WorldEvent, nth, run_of, Hosts}
use Rattle.model_laws.specs.Agreement.{ends_as, is_end_of}
use Rattle.model_laws.proofs.ReachedWorlds.{run_reached}
use Rattle.agreement.specs.Lives.{ends, happened_on}
use Rattle.agreement.proofs.Lives.{lives_agree}
use Rattle.votes.proofs.EffectNodes.{HasNode, IsThere, all_there}

-- counted in the world, or at the node
pub ends_same : (x : Who) (hs : List Happened) → length (filter (is_end_of x) hs) ≡ length (ends x.id (happened_on x.node hs))
ends_same x [] = refl
ends_same x (h ∷ hs) = by_node (nat_eq h.node x.node) (ends_same x hs)
  where
    by_end : (b : Bool) → length (filter (is_end_of x) hs) ≡ length (ends x.id (happened_on x.node hs))
        → length (if b then h ∷ filter (is_end_of x) hs else filter (is_end_of x) hs) ≡ length (if b then h.what ∷ ends x.id (happened_on x.node hs) else ends x.id (happened_on x.node hs))
    by_end true e = ap suc e
    by_end false e = e

    by_node : (a : Bool) → length (filter (is_end_of x) hs) ≡ length (ends x.id (happened_on x.node hs))
        → length (if a && ends_as x.id h.what then h ∷ filter (is_end_of x) hs else filter (is_end_of x) hs)
        ≡ length (ends x.id (if a then h.what ∷ happened_on x.node hs else happened_on x.node hs))
    by_node true e = by_end (ends_as x.id h.what) e
    by_node false e = e

-- none of what happened at other nodes
unmet : (n : ℕ) (P : ℕ → Type 0) → (P n → ⊥) → (hs : List Happened) → AllByRecursion (λ (h : Happened). P h.node) hs → happened_on n hs ≡ []
unmet n P never [] h = refl
unmet n P never (e ∷ hs) (h, k) = by_node (unmet n P never hs k) (nat_eq e.node n) refl
  where
    by_node : happened_on n hs ≡ [] → (b : Bool) → nat_eq e.node n ≡ b → (if b then e.what ∷ happened_on n hs else happened_on n hs) ≡ []
    by_node rest true f = absurd (never (subst P (eqb-true e.node n f) h))
    by_node rest false f = rest

at_most : (w : World) (x : Who) → AllByRecursion (IsThere w) w.happened → ((y : Node) → nth x.node w.nodes ≡ Some y → length (ends x.id (happened_on x.node w.happened)) ≤ 1)
    → length (ends x.id (happened_on x.node w.happened)) ≤ 1
at_most w x there here = by_found (nth x.node w.nodes) refl
  where
    no_node : nth x.node w.nodes ≡ None → HasNode w x.node → ⊥
    no_node e (y, found) = let f : None ≡ Some y = sym e ∙ found in cc

    by_found : (o : Option Node) → nth x.node w.nodes ≡ o → length (ends x.id (happened_on x.node w.happened)) ≤ 1
    by_found (Some y) e = here y e
    by_found None e =
        subst (λ (es : List Effect). length (ends x.id es) ≤ 1) (sym (unmet x.node (HasNode w) (no_node e) w.happened there)) (omega arith)

pub once : (hosts : Hosts) (es : List WorldEvent) (x : Who) → length (filter (is_end_of x) (run_of hosts es).happened) ≤ 1
once hosts es x =
    subst (λ n. n ≤ 1) (sym (ends_same x (run_of hosts es).happened))
    (at_most (run_of hosts es) x (all_there hosts (run_of hosts es) (run_reached hosts es)) (λ y found. lives_agree.once hosts es x.node y found x.id))
