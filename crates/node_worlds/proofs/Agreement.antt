-- Agreement in every world that is reached.
use Rattle.std.specs.Prelude.{ℕ, List, [], ◌∷◌, Option, Some, None, Bool, true, false, if◌then◌else◌, nat_eq, length, filter, ◌≡◌, ◌≤◌}
use Rattle.std.specs.List.{AllByRecursion}
use Rattle.std.proofs.Common.{arith, sym, subst, refl, ◌∙◌}
use Rattle.std.proofs.lemmas.Bool.{eqb-true}
use Rattle.at_base.specs.declared.outs.Effect.{Effect}
use Rattle.at_base.specs.declared.outs.Effect.TheVariants as effects
use Rattle.at_base.specs.declared.outs.Told.TheVariants as tellings
use Rattle.at_model.specs.Step.{leaf_at, transaction_at}
use Rattle.at_model.specs.World.{Happened, Node, Who, World, happened_at, nth, Hosts, HaveOwnAddresses}
use Rattle.model_laws.specs.Agreement.{IsIn, IsToldTruly, is_end_of}
use Rattle.model_laws.specs.ReachedWorlds.{Reached}
use Rattle.agreement.specs.Lives.{book_of, ends, happened_on}
use Rattle.agreement.proofs.SeatedEntries.{one_of}
use Rattle.votes.proofs.ItemEnds.{life_once}
use Rattle.votes.proofs.EffectNodes.{HasNode, IsThere, all_there}
use Rattle.outcomes.specs.Foundations.{AreFounded, IsFounded}
use Rattle.outcomes.proofs.Agreement.{bound, layers, outcomes_are_founded}
use Rattle.outcomes.proofs.Depth.{behind_answers, whole}
use Rattle.outcomes.proofs.Layers.{world_premises}
use Rattle.outcomes.proofs.SingleEnds.{ends_same}
use Rattle.site_model.specs.Told.{Told}
use Rattle.node_worlds.specs.Agreement.{AgreesWherever, NetsAgree}
use Rattle.node_worlds.specs.Nets.{NetsAreWorlds, shown_world}

-- none of what happened at other nodes
unmet : (n : ℕ) (P : ℕ → Type 0) → (P n → ⊥) → (hs : List Happened) → AllByRecursion (λ (h : Happened). P h.node) hs → happened_on n hs ≡ []
unmet n P never [] h = refl
unmet n P never (e ∷ hs) (h, k) = by_node (unmet n P never hs k) (nat_eq e.node n) refl
  where
    by_node : happened_on n hs ≡ [] → (b : Bool) → nat_eq e.node n ≡ b → (if b then e.what ∷ happened_on n hs else happened_on n hs) ≡ []
    by_node rest true f = absurd (never (subst P (eqb-true e.node n f) h))
    by_node rest false f = rest

at_most : (w : World) (x : Who) → AllByRecursion (IsThere w) w.happened → ((y : Node) → nth x.node w.nodes ≡ Some y → length (ends x.id (happened_on x.node w.happened)) ≤ 1)
    → length (ends x.id (happened_on x.node w.happened)) ≤ 1
at_most w x there here = by_found (nth x.node w.nodes) refl
  where
    no_node : nth x.node w.nodes ≡ None → HasNode w x.node → ⊥
    no_node e (y, found) = let f : None ≡ Some y = sym e ∙ found in cc

    by_found : (o : Option Node) → nth x.node w.nodes ≡ o → length (ends x.id (happened_on x.node w.happened)) ≤ 1
    by_found (Some y) e = here y e
    by_found None e =
        subst (λ (es : List Effect). length (ends x.id es) ≤ 1) (sym (unmet x.node (HasNode w) (no_node e) w.happened there)) (omega arith)

once : (hosts : Hosts) (w : World) → HaveOwnAddresses hosts → Reached hosts w → (x : Who) → length (filter (is_end_of x) w.happened) ≤ 1
once hosts w distinct reached x =
    subst (λ n. n ≤ 1) (sym (ends_same x w.happened))
    (at_most w x (all_there hosts w reached) (λ y found.
    life_once y.journal (happened_on x.node w.happened) x.id (transaction_at (book_of y) x.id) (leaf_at (book_of y) x.id)
    ((world_premises layers hosts w distinct reached).laws.lives x.node y found x.id)))

founded : (w : World) → AreFounded w → (n : ℕ) (f : Effect) → IsIn (happened_at n f) w.happened → IsFounded w n f
founded w h n f i = one_of (λ (g : Happened). IsFounded w g.node g.what) w.happened (happened_at n f) h i

told_truly : (w : World) → AreFounded w → IsToldTruly w
told_truly w h = record {
  committed = λ a i. founded w h a.node (effects.Told a.id tellings.Committed) i;
  aborted = λ a i. founded w h a.node (effects.Told a.id tellings.Aborted) i;
}

pub agrees_wherever : AgreesWherever
agrees_wherever hosts w few reached = record {
  agreed = record { whole = whole w (bound hosts w few reached); once = once hosts w few reached };
  behind = behind_answers w (bound hosts w few reached);
  told = told_truly w (outcomes_are_founded.founded hosts w few reached);
}

pub nets_agree : {S : Type 0} (told : S → Told) → NetsAreWorlds told → NetsAgree told
nets_agree told worlds hosts net few run =
    let (reached, shown) = worlds hosts net run in
    record { reached = reached; shown = shown; outcome = agrees_wherever hosts (shown_world hosts net) few reached }
