-- In every reached world, and not in those of whole runs alone, a node's book, its journal and what happened at it agree.
use Rattle.std.specs.Prelude.{ℕ, List, [], ◌∷◌, ◌++◌, Option, Some, None, Bool, true, false, if◌then◌else◌, ◌+◌, nat_eq, map, filter, ◌≡◌, refl}
use Rattle.std.specs.List.{AllByRecursion}
use Rattle.std.proofs.Common.{arith, sym, subst, ap, ◌∙◌}
use Rattle.std.proofs.lemmas.Bool.{eq-eqb, eqb-true}
use Rattle.std.proofs.lemmas.List.{append-nil}
use Rattle.at_base.specs.Numbers.{Numbers}
use Rattle.at_base.specs.declared.record.Record.{Record}
use Rattle.at_base.specs.declared.event.Event.{Event}
use Rattle.at_base.specs.declared.outs.Effect.{Effect}
use Rattle.at_base.specs.declared.outs.Ending.TheVariants as endings
use Rattle.at_base.specs.declared.outs.Out.{Out}
use Rattle.at_base.specs.declared.outs.Out.TheVariants as outs
use Rattle.at_model.specs.Book.{Book}
use Rattle.at_model.specs.Leaves.{leaf_ended}
use Rattle.at_model.specs.Recovery.{last_incarnation}
use Rattle.at_model.specs.Seats.{ending}
use Rattle.at_model.specs.Step.{leaf_at, plan, step, transaction_at}
use Rattle.at_model.specs.World.{Happened, Node, World, goes_down, happened_at, is_lost_leaf, is_lost_root, is_lost_subordinate, lost_in, nth, put_book, put_nth, started, up_after, Hosts, HaveOwnAddresses}
use Rattle.model_laws.specs.DrawnIds.{restarted, with_entry}
use Rattle.model_laws.specs.ReachedWorlds.{Reached, counts}
use Rattle.model_laws.proofs.DecisionLaws.{all_join}
use Rattle.model_laws.proofs.Registrations.{one_superior, world_good}
use Rattle.model_laws.proofs.WorldInvariants.{Law, OutFine, holds}
use Rattle.model_laws.proofs.Nodes.{each_put}
use Rattle.model_laws.proofs.RecoveryLaws.{incarnations_rise}
use Rattle.model_laws.proofs.NodeLives.{opening_node}
use Rattle.agreement.specs.FinishedTransactions.{NamesRising}
use Rattle.agreement.specs.Lives.{Life, PromisesNothing, happened_on, is_gone, standing}
use Rattle.agreement.proofs.Crashes.{lost, rises_as, start_same}
use Rattle.agreement.proofs.Lives.{IsDown, IsUp, falls, goes_on, lost_there, rises}
use Rattle.agreement.proofs.LifeSteps.{IsFresh}
use Rattle.agreement.proofs.SeatRegistrations.{world_seated}
use Rattle.agreement.proofs.Sorts.{world_sorted}
use Rattle.agreement.proofs.OtherIds.{Same}
use Rattle.votes.proofs.Premises.{WorldLaws}

abbrev AsItIs : List Record → Option Book → List Effect → Type 0
AsItIs rs None fx = IsDown rs fx
AsItIs rs (Some b) fx = IsUp b rs fx

abbrev NodeIs : List Happened → ℕ → Node → Type 0
NodeIs hs n x = AsItIs x.journal x.book (happened_on n hs)

-- what happened at a node
pub on_join : (n : ℕ) (xs ys : List Happened) → happened_on n (xs ++ ys) ≡ happened_on n xs ++ happened_on n ys
on_join n [] ys = refl
on_join n (x ∷ xs) ys = by_case (nat_eq x.node n) (on_join n xs ys)
  where
    by_case : (b : Bool) → happened_on n (xs ++ ys) ≡ happened_on n xs ++ happened_on n ys
        → (if b then x.what ∷ happened_on n (xs ++ ys) else happened_on n (xs ++ ys)) ≡ (if b then x.what ∷ happened_on n xs else happened_on n xs) ++ happened_on n ys
    by_case true h = ap (λ zs. x.what ∷ zs) h
    by_case false h = h

on_here : {A : Type 0} (n : ℕ) (f : A → Effect) (xs : List A) → happened_on n (map (λ x. happened_at n (f x)) xs) ≡ map f xs
on_here n f [] = refl
on_here n f (x ∷ xs) =
    ap (λ b. if b then f x ∷ happened_on n (map (λ y. happened_at n (f y)) xs) else happened_on n (map (λ y. happened_at n (f y)) xs)) (eq-eqb n n refl)
    ∙ ap (λ es. f x ∷ es) (on_here n f xs)

apart : (m n : ℕ) → (m ≡ n → ⊥) → (b : Bool) → nat_eq n m ≡ b → b ≡ false
apart m n differ true e = absurd (differ (sym (eqb-true n m e)))
apart m n differ false e = refl

on_there : (m n : ℕ) → (m ≡ n → ⊥) → (es : List Effect) → happened_on m (map (happened_at n) es) ≡ []
on_there m n differ [] = refl
on_there m n differ (e ∷ es) =
    ap (λ b. if b then e ∷ happened_on m (map (happened_at n) es) else happened_on m (map (happened_at n) es)) (apart m n differ (nat_eq n m) refl) ∙ on_there m n differ es

same_effects : (es : List Effect) → map (λ x. x) es ≡ es
same_effects [] = refl
same_effects (e ∷ es) = ap (λ zs. e ∷ zs) (same_effects es)

pub step_here : (n : ℕ) (hs : List Happened) (es : List Effect) → happened_on n (hs ++ map (happened_at n) es) ≡ happened_on n hs ++ es
step_here n hs es = on_join n hs (map (happened_at n) es) ∙ ap (λ zs. happened_on n hs ++ zs) (on_here n (λ x. x) es ∙ same_effects es)

pub step_there : (m n : ℕ) (hs : List Happened) (es : List Effect) → (m ≡ n → ⊥) → happened_on m (hs ++ map (happened_at n) es) ≡ happened_on m hs
step_there m n hs es differ = on_join m hs (map (happened_at n) es) ∙ ap (λ zs. happened_on m hs ++ zs) (on_there m n differ es) ∙ append-nil (happened_on m hs)

pub lost_here : (n : ℕ) (b : Book) → happened_on n (lost_in n b) ≡ lost b
lost_here n b =
    on_join n (map (λ t. happened_at n (ending t endings.Lost)) (filter is_lost_root b.transactions)) _
    ∙ (λ i. on_here n (λ t. ending t endings.Lost) (filter is_lost_root b.transactions) i
    ++ on_join n (map (λ t. happened_at n (ending t endings.Lost)) (filter is_lost_subordinate b.transactions)) (map (λ l. happened_at n (leaf_ended l endings.Lost)) (filter is_lost_leaf b.leaves)) i)
    ∙ (λ i. map (λ t. ending t endings.Lost) (filter is_lost_root b.transactions)
    ++ (on_here n (λ t. ending t endings.Lost) (filter is_lost_subordinate b.transactions) i ++ on_here n (λ l. leaf_ended l endings.Lost) (filter is_lost_leaf b.leaves) i))

-- a node that falls
pub gone_down : (n : ℕ) (b : Book) (u : World) (x : Node) → nth n u.nodes ≡ Some x
    → goes_down n b u ≡ record u { nodes = put_nth n (record x { book = None }) u.nodes; happened = u.happened ++ lost_in n b }
gone_down n b u x found = ap (put_book n None (record u { happened = u.happened ++ lost_in n b })) found

-- the law
unpromised : (id : Numbers) → PromisesNothing id []
unpromised id r h p = h

new_down : IsDown [] []
new_down = record {
  names = tt;
  fresh = λ id later. (unpromised id, refl);
  lives = λ base id. is_gone refl refl (unpromised id) (λ r h p e. h) (omega arith);
}

abbrev AreAsTheyAre : World → Type 0
AreAsTheyAre w = (n : ℕ) (x : Node) → nth n w.nodes ≡ Some x → NodeIs w.happened n x

still_fresh : (id : Numbers) (rs after : List Record) (fx : List Effect) → Same id rs after fx fx → IsFresh id rs fx → IsFresh id after fx
still_fresh id rs after fx s (nothing, k) = ((λ r h p. nothing r (s.written r p h) p), k)

stopped : (rs : List Record) (fx : List Effect) → IsDown rs fx → IsDown (restarted rs) fx
stopped rs fx h = record {
  names = all_join NamesRising rs _ h.names (tt, tt);
  fresh = λ id later. still_fresh id rs (restarted rs) fx (start_same rs fx id) (h.fresh id (omega (arith, later, (incarnations_rise rs).0)));
  lives = λ base id. rises_as base rs fx id (h.lives base id);
}

starts : (x : Node) (fx : List Effect) (stop : Bool) → IsDown x.journal fx → AsItIs (restarted x.journal) (up_after (started (last_incarnation x.journal + 1) x) stop).book fx
starts x fx true h = stopped x.journal fx h
starts x fx false h = rises x.base x.journal fx h

step_lives : (u : World) (n : ℕ) (x : Node) (b : Book) (e : Event) (now : ℕ) (landed : Bool) → nth n u.nodes ≡ Some x → x.book ≡ Some b → AreAsTheyAre u → AreAsTheyAre (counts u n x b e now landed)
step_lives u n x b e now landed found up h m y f =
    each_put (NodeIs (u.happened ++ map (happened_at n) (step b e now landed).effects)) u.nodes n x
    (record x { book = Some (step b e now landed).book; journal = with_entry (plan b e now).entry landed x.journal }) found
    (subst (IsUp (step b e now landed).book (with_entry (plan b e now).entry landed x.journal)) (sym (step_here n u.happened (step b e now landed).effects))
    (goes_on x.journal (happened_on n u.happened) b e now landed (subst (λ o. AsItIs x.journal o (happened_on n u.happened)) up (h n x found))))
    (λ k z differ r. subst (AsItIs z.journal z.book) (sym (step_there k n u.happened (step b e now landed).effects differ)) (h k z r)) m y f

fall_lives : (u : World) (n : ℕ) (x : Node) (b : Book) → nth n u.nodes ≡ Some x → x.book ≡ Some b → AreAsTheyAre u → AreAsTheyAre (goes_down n b u)
fall_lives u n x b found up h =
    subst AreAsTheyAre (sym (gone_down n b u x found))
    (λ m y f. each_put (NodeIs (u.happened ++ lost_in n b)) u.nodes n x (record x { book = None }) found
    (subst (IsDown x.journal) (sym (on_join n u.happened (lost_in n b) ∙ ap (λ zs. happened_on n u.happened ++ zs) (lost_here n b)))
    (falls x.journal (happened_on n u.happened) b (subst (λ o. AsItIs x.journal o (happened_on n u.happened)) up (h n x found))))
    (λ k z differ r. subst (AsItIs z.journal z.book)
    (sym (on_join k u.happened (lost_in n b) ∙ ap (λ zs. happened_on k u.happened ++ zs) (lost_there k n b differ) ∙ append-nil (happened_on k u.happened))) (h k z r)) m y f)

put_lives : (u : World) (n : ℕ) (x z : Node) → nth n u.nodes ≡ Some x → NodeIs u.happened n z → AreAsTheyAre u → AreAsTheyAre (record u { nodes = put_nth n z u.nodes })
put_lives u n x z found k h m y f = each_put (NodeIs u.happened) u.nodes n x z found k (λ i v differ r. h i v r) m y f

nothing_asked : (os : List Out) → AllByRecursion (OutFine (λ p. Unit {0})) os
nothing_asked [] = tt
nothing_asked (outs.Post p ∷ os) = (tt, nothing_asked os)
nothing_asked (outs.Answer status reply ∷ os) = (tt, nothing_asked os)

lives_law : (hosts : Hosts) → Law hosts
lives_law hosts = record {
  Good = AreAsTheyAre;
  Fine = λ w g n p. Unit {0};
  opens = λ n x found. subst (NodeIs [] n) (sym (opening_node hosts n x found)) new_down;
  steps = λ u n x b e now landed reached found up heard h. (step_lives u n x b e now landed found up h, nothing_asked (step b e now landed).outs);
  posts = λ w h n p f. h;
  still_fine = λ w g n p q f k. tt;
  falls = λ u n x b reached found up h. fall_lives u n x b found up h;
  rises = λ u n x stop reached found down little h.
      put_lives u n x (up_after (started (last_incarnation x.journal + 1) x) stop) found
      (starts x (happened_on n u.happened) stop (subst (λ o. AsItIs x.journal o (happened_on n u.happened)) down (h n x found))) h;
  waits = λ u n x clock reached found h. put_lives u n x (record x { clock = clock }) found (h n x found) h;
}

as_they_are : (hosts : Hosts) (w : World) → Reached hosts w → AreAsTheyAre w
unfolding lives_law
as_they_are hosts w reached = holds hosts (lives_law hosts) w reached

stands : (base : List ℕ) (rs : List Record) (o : Option Book) (fx : List Effect) → AsItIs rs o fx → (id : Numbers)
    → Life rs fx id (transaction_at (standing base rs o) id) (leaf_at (standing base rs o) id)
stands base rs None fx h id = h.lives base id
stands base rs (Some b) fx h id = h.good.lives id

-- all that is known of a reached world
pub world_laws : (hosts : Hosts) (w : World) → HaveOwnAddresses hosts → Reached hosts w → WorldLaws hosts w
world_laws hosts w distinct reached = record {
  distinct = distinct;
  reached = reached;
  bases = (world_good hosts w distinct reached).world.bases;
  lives = λ m y found id. stands y.base y.journal y.book (happened_on m w.happened) (as_they_are hosts w reached m y found) id;
  sorted = world_sorted hosts w distinct reached;
  seated = world_seated hosts w distinct reached;
  one = one_superior hosts w distinct reached;
}
