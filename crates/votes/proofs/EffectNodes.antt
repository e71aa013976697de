-- What happened, happened at a node that is there.
use Rattle.std.specs.Prelude.{ℕ, List, [], ◌∷◌, ◌++◌, Some, None, ◌+◌, map, filter, ◌≡◌, refl}
use Rattle.std.specs.List.{AllByRecursion}
use Rattle.std.proofs.Common.{inl, inr, sym, subst, ap}
use Rattle.at_base.specs.declared.outs.Effect.{Effect}
use Rattle.at_base.specs.declared.outs.Ending.{Ending}
use Rattle.at_base.specs.declared.outs.Post.{Post}
use Rattle.at_model.specs.Book.{Book}
use Rattle.at_model.specs.Recovery.{last_incarnation}
use Rattle.at_model.specs.Step.{leaf_at, step, transaction_at}
use Rattle.at_model.specs.World.{Happened, Node, Who, World, goes_down, happened_at, is_lost_leaf, is_lost_root, is_lost_subordinate, leaf_lost, lost_in, nth, put_book, put_nth, started, transaction_lost, up_after, Hosts}
use Rattle.model_laws.specs.Agreement.{HasAborted, HasCommitted, HasEnded, IsIn}
use Rattle.model_laws.specs.Growth.{Grows}
use Rattle.model_laws.specs.ReachedWorlds.{Reached, counts, fell, opened, post_all, rose, stepped, waited}
use Rattle.model_laws.proofs.DecisionLaws.{all_join, all_more}
use Rattle.model_laws.proofs.Growth.{grows_counts, grows_falls, grows_posts, grows_rises, grows_then, grows_waits}
use Rattle.agreement.specs.Lives.{book_of, happened_on}
use Rattle.agreement.proofs.SeatedEntries.{one_of}
use Rattle.votes.proofs.ItemEnds.{life_once, not_both}
use Rattle.votes.proofs.Premises.{WorldLaws}

-- there is such a node
abbrev pub HasNode : World → ℕ → Type 0
HasNode w n = (x : Node) × (nth n w.nodes ≡ Some x)

abbrev pub IsThere : World → Happened → Type 0
IsThere w h = HasNode w h.node

there_on : (u w : World) → Grows u w → (hs : List Happened) → AllByRecursion (IsThere u) hs → AllByRecursion (IsThere w) hs
there_on u w g hs h = all_more (IsThere u) (IsThere w) hs (λ e (x, found). ((g.nodes e.node x found).node, (g.nodes e.node x found).found)) h

effects_there : (w : World) (n : ℕ) (es : List Effect) → HasNode w n → AllByRecursion (IsThere w) (map (happened_at n) es)
effects_there w n [] h = tt
effects_there w n (e ∷ es) h = (h, effects_there w n es h)

of_node : {A : Type 0} (w : World) (n : ℕ) (f : A → Happened) → ((x : A) → (f x).node ≡ n) → HasNode w n → (xs : List A) → AllByRecursion (IsThere w) (map f xs)
of_node w n f same h [] = tt
of_node w n f same h (x ∷ xs) = (subst (HasNode w) (sym (same x)) h, of_node w n f same h xs)

lost_there : (w : World) (n : ℕ) (b : Book) → HasNode w n → AllByRecursion (IsThere w) (lost_in n b)
lost_there w n b h =
    all_join (IsThere w) (map (transaction_lost n) (filter is_lost_root b.transactions)) _ (of_node w n (transaction_lost n) (λ t. refl) h (filter is_lost_root b.transactions))
    (all_join (IsThere w) (map (transaction_lost n) (filter is_lost_subordinate b.transactions)) _
    (of_node w n (transaction_lost n) (λ t. refl) h (filter is_lost_subordinate b.transactions)) (of_node w n (leaf_lost n) (λ l. refl) h (filter is_lost_leaf b.leaves)))

node_on : (u w : World) (n : ℕ) (x : Node) → Grows u w → nth n u.nodes ≡ Some x → HasNode w n
node_on u w n x g found = ((g.nodes n x found).node, (g.nodes n x found).found)

posted_happened : (n : ℕ) (ps : List Post) (w : World) → (post_all n ps w).happened ≡ w.happened
posted_happened n [] w = refl
posted_happened n (p ∷ ps) w = posted_happened n ps _

pub all_there : (hosts : Hosts) (w : World) → Reached hosts w → AllByRecursion (IsThere w) w.happened
all_there hosts w (opened is) = subst (λ (v : World). AllByRecursion (IsThere v) v.happened) (sym is) tt
all_there hosts w (stepped u n x b e now landed ps reached found up heard those is) =
    subst (λ (v : World). AllByRecursion (IsThere v) v.happened) (sym is)
    (subst (AllByRecursion (IsThere after)) (sym (posted_happened n ps (counts u n x b e now landed)))
    (all_join (IsThere after) u.happened _ (there_on u after grown u.happened (all_there hosts u reached))
    (effects_there after n (step b e now landed).effects (node_on u after n x grown found))))
  where
    after : World
    after = post_all n ps (counts u n x b e now landed)

    grown : Grows u after
    grown = grows_then u (counts u n x b e now landed) after (grows_counts u n x b e now landed found) (grows_posts n ps (counts u n x b e now landed))
all_there hosts w (fell u n x b reached found up is) =
    let g : Grows u (goes_down n b u) = grows_falls u n x b found in
    subst (λ (v : World). AllByRecursion (IsThere v) v.happened) (sym is)
    (subst (AllByRecursion (IsThere (goes_down n b u))) (sym (ap (λ (v : World). v.happened) (ap (put_book n None (record u { happened = u.happened ++ lost_in n b })) found)))
    (all_join (IsThere (goes_down n b u)) u.happened _ (there_on u (goes_down n b u) g u.happened (all_there hosts u reached))
    (lost_there (goes_down n b u) n b (node_on u (goes_down n b u) n x g found))))
all_there hosts w (rose u n x stop reached found down small is) =
    subst (λ (v : World). AllByRecursion (IsThere v) v.happened) (sym is)
    (there_on u (record u { nodes = put_nth n (up_after (started (last_incarnation x.journal + 1) x) stop) u.nodes }) (grows_rises u n x stop found) u.happened (all_there hosts u reached))
all_there hosts w (waited u n x clock reached found is) =
    subst (λ (v : World). AllByRecursion (IsThere v) v.happened) (sym is)
    (there_on u (record u { nodes = put_nth n (record x { clock = clock }) u.nodes }) (grows_waits u n x clock found) u.happened (all_there hosts u reached))

-- so what ended is at a node
ended_there : (w : World) → AllByRecursion (IsThere w) w.happened → (x : Who) → (e : Effect) → IsIn (happened_at x.node e) w.happened → HasNode w x.node
ended_there w h x e i = one_of (IsThere w) w.happened (happened_at x.node e) h i

pub what_ended : (hosts : Hosts) (w : World) → WorldLaws hosts w → (x : Who) (what : Ending) → HasEnded w x what → HasNode w x.node
what_ended hosts w h x what (inl i) = ended_there w (all_there hosts w h.reached) x _ i
what_ended hosts w h x what (inr (inl i)) = ended_there w (all_there hosts w h.reached) x _ i
what_ended hosts w h x what (inr (inr i)) = ended_there w (all_there hosts w h.reached) x _ i

-- nothing both commits and aborts
pub one_end : (hosts : Hosts) (w : World) → WorldLaws hosts w → (x : Who) → HasCommitted w x → HasAborted w x → ⊥
one_end hosts w h x c a =
    let (y, found) = what_ended hosts w h x _ c in
    not_both w x.node x.id (life_once y.journal (happened_on x.node w.happened) x.id (transaction_at (book_of y) x.id) (leaf_at (book_of y) x.id) (h.lives x.node y found x.id)) c a
