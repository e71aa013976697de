-- Over each step, fall and start, what aborts behind its vote Prepared does so under a transaction that has aborted.
use Rattle.std.specs.Prelude.{ℕ, List, [], ◌∷◌, ◌++◌, Some, None, Bool, true, false, map, filter, is_none, is_some, ◌||◌, if◌then◌else◌, ◌≡◌, ◌⊎◌, refl}
use Rattle.std.proofs.Common.{inl, inr, sym, subst, ap, ◌∙◌}
use Rattle.at_base.specs.Numbers.{Numbers}
use Rattle.at_base.specs.declared.outs.Effect.{Effect}
use Rattle.at_base.specs.declared.outs.Ending.{Ending}
use Rattle.at_base.specs.declared.outs.Ending.TheVariants as endings
use Rattle.at_base.specs.declared.record.Record.{Record}
use Rattle.at_tables.specs.declared.cells.State.{State}
use Rattle.at_tables.specs.declared.cells.State.TheVariants as states
use Rattle.at_tables.specs.Names.{is_state}
use Rattle.at_model.specs.Book.{Book, Leaf, Transaction, leaf_id, transaction_id}
use Rattle.at_model.specs.Due.{may_expire}
use Rattle.at_model.specs.Leaves.{leaf_ended}
use Rattle.at_model.specs.Seats.{ending}
use Rattle.at_model.specs.Step.{leaf_at, plan, step, transaction_at}
use Rattle.at_model.specs.World.{Node, Who, World, goes_down, happened_at, is_lost_leaf, is_lost_root, is_lost_subordinate, lost_in, nth, put_book, put_nth, Hosts}
use Rattle.model_laws.specs.Agreement.{HasAborted, HasEnded, IsIn, Stands}
use Rattle.model_laws.specs.ReachedWorlds.{counts}
use Rattle.model_laws.proofs.DecisionLaws.{second_true}
use Rattle.model_laws.proofs.Growth.{grows_falls}
use Rattle.agreement.specs.StepDeeds.{standing}
use Rattle.agreement.specs.Lives.{Life, PromisesNothing, ends, happened_on}
use Rattle.agreement.proofs.Crashes.{lost}
use Rattle.agreement.proofs.LeafLives.{leaf_alone}
use Rattle.agreement.proofs.SeatedEntries.{in_either}
use Rattle.enlistments.specs.Moves.{IsReady}
use Rattle.votes.specs.ToldOutcomes.{AbortsWereTold, IsUnderAborted}
use Rattle.votes.specs.DurableVotes.{HasVoted, is_vote}
use Rattle.votes.proofs.Aborts.{IsBad, ending_is, leaf_end_is, leaf_unpromised, unpromised_vote}
use Rattle.votes.proofs.AbortSteps.{Unended, abort_now, vote_now}
use Rattle.votes.proofs.ItemEnds.{is_open, life_of, not_ended}
use Rattle.votes.proofs.Growth.{under_aborted_on}
use Rattle.votes.proofs.StepItems.{grown, here}
use Rattle.votes.proofs.NewVotes.{EndsNow, IsEnd, RecordsVote, found_each, mapped_from, new_end, new_vote, stood}
use Rattle.votes.proofs.Premises.{FallKeeps, StepKeeps, WorldPremises}

-- an abort that is old, or one of these
pub record AbortsNow (n : ℕ) (es : List Effect) (y : Who) : Type 0 where
  pub what : Ending
  pub bad : IsBad what
  pub ends_now : EndsNow n es y what

pub new_abort : (u : World) (n : ℕ) (es : List Effect) (w : World) → w.happened ≡ u.happened ++ map (happened_at n) es → (y : Who) → HasAborted w y → HasAborted u y ⊎ AbortsNow n es y
new_abort u n es w is y (inl a) = by_case (new_end u n es w is y endings.Aborted a)
  where
    by_case : HasEnded u y endings.Aborted ⊎ EndsNow n es y endings.Aborted → HasAborted u y ⊎ AbortsNow n es y
    by_case (inl h) = inl (inl h)
    by_case (inr h) = inr (record { what = endings.Aborted; bad = inl refl; ends_now = h })
new_abort u n es w is y (inr a) = by_case (new_end u n es w is y endings.Lost a)
  where
    by_case : HasEnded u y endings.Lost ⊎ EndsNow n es y endings.Lost → HasAborted u y ⊎ AbortsNow n es y
    by_case (inl h) = inl (inr h)
    by_case (inr h) = inr (record { what = endings.Lost; bad = inr refl; ends_now = h })

at_here : (n : ℕ) (y : Who) → y.node ≡ n → ◌≡◌ {A = Who} (record { node = n; id = y.id }) y
at_here n y e = λ i. record { node = sym e i; id = y.id }

not_aborted : (u : World) (n : ℕ) (id : Numbers) → ends id (happened_on n u.happened) ≡ [] → HasAborted u (record { node = n; id = id }) → ⊥
not_aborted u n id none (inl a) = not_ended u n id none endings.Aborted a
not_aborted u n id none (inr a) = not_ended u n id none endings.Lost a

-- a step
pub aborts_step : StepKeeps (λ hosts w. AbortsWereTold w)
aborts_step hosts u n x b e now landed p j y voted aborted =
    by_case (new_vote u n x b e now landed p.found y voted) (new_abort u n (step b e now landed).effects (counts u n x b e now landed) refl y aborted)
  where
    told_before : IsUnderAborted u y → IsUnderAborted (counts u n x b e now landed) y
    told_before h = under_aborted_on u (counts u n x b e now landed) (grown hosts u n x b e now landed p) y h

    told_now : HasVoted u y → AbortsNow n (step b e now landed).effects y → IsUnderAborted u y
    told_now v h =
        let same : ◌≡◌ {A = Who} (record { node = n; id = y.id }) y = at_here n y h.ends_now.here in
        subst (IsUnderAborted u) same
        (abort_now hosts u n x b e now (standing landed (plan b e now).entry) (step b e now landed) p j (p.world.moves.moved b e now landed p.ready) y.id h.what h.ends_now.effect h.bad h.ends_now.among
        h.ends_now.its (subst (HasVoted u) (sym same) v))

    unended : RecordsVote n (standing landed (plan b e now).entry) y → Unended u n (step b e now landed).effects y.id
    unended v = vote_now hosts u n x b e now (standing landed (plan b e now).entry) (step b e now landed) p (p.world.moves.moved b e now landed p.ready) y.id v.vote v.entered v.its

    by_case : HasVoted u y ⊎ RecordsVote n (standing landed (plan b e now).entry) y → HasAborted u y ⊎ AbortsNow n (step b e now landed).effects y → IsUnderAborted (counts u n x b e now landed) y
    by_case (inl v) (inl a) = told_before (j.aborts y v a)
    by_case (inl v) (inr h) = told_before (told_now v h)
    by_case (inr v) (inl a) = absurd (not_aborted u n y.id (unended v).before (subst (HasAborted u) (sym (at_here n y v.here)) a))
    by_case (inr v) (inr h) = absurd ((unended v).now h.what h.ends_now.effect h.bad h.ends_now.among h.ends_now.its)

-- a node where nothing is recorded
vote_before : (u w : World) (n : ℕ) (x z : Node) → nth n u.nodes ≡ Some x → w.nodes ≡ put_nth n z u.nodes → ((r : Record) → IsIn r z.journal → IsIn r x.journal ⊎ ((id : Numbers) → is_vote id r ≡ false))
    → (y : Who) → HasVoted w y → HasVoted u y
vote_before u w n x z found is only y (r, (v, there, i), vote) = by_place (stood u w.nodes n x z (λ q. (id : Numbers) → is_vote id q ≡ false) found is only y.node v there r i)
  where
    by_place : Stands u y.node r ⊎ ((y.node ≡ n) × ((id : Numbers) → is_vote id r ≡ false)) → HasVoted u y
    by_place (inl s) = (r, s, vote)
    by_place (inr (at, none)) = let f : false ≡ true = sym (none y.id) ∙ vote in absurd cc

-- a fall
fallen : (n : ℕ) (b : Book) (u : World) (x : Node) → nth n u.nodes ≡ Some x
    → goes_down n b u ≡ record u { nodes = put_nth n (record x { book = None }) u.nodes; happened = u.happened ++ lost_in n b }
fallen n b u x found = ap (put_book n None (record u { happened = u.happened ++ lost_in n b })) found

pub filtered_from : {A : Type 0} (q : A → Bool) (y : A) (xs : List A) → IsIn y (filter q xs) → IsIn y xs × (q y ≡ true)
filtered_from q y [] i = absurd i
filtered_from {A = A} q y (x ∷ xs) i = by_test (q x) refl (filtered_from q y xs) i
  where
    by_test : (c : Bool) → q x ≡ c → (IsIn y (filter q xs) → IsIn y xs × (q y ≡ true)) → IsIn y (if c then x ∷ filter q xs else filter q xs) → IsIn y (x ∷ xs) × (q y ≡ true)
    by_test true f rest (inl e) = (inl e, ap q e ∙ f)
    by_test true f rest (inr k) = let (l, g) = rest k in (inr l, g)
    by_test false f rest k = let (l, g) = rest k in (inr l, g)

-- what is lost: an undecided transaction, or a leaf that hasn't voted
pub record LosesTransaction (b : Book) (f : Effect) : Type 0 where
  pub one : Transaction
  among : IsIn one b.transactions
  undecided : may_expire one.phase ≡ true
  pub is : f ≡ ending one endings.Lost

pub record LosesLeaf (b : Book) (f : Effect) : Type 0 where
  pub one : Leaf
  among : IsIn one b.leaves
  open_still : is_lost_leaf one ≡ true
  pub is : f ≡ leaf_ended one endings.Lost

pub in_lost : (b : Book) (f : Effect) → IsIn f (lost b) → LosesTransaction b f ⊎ LosesLeaf b f
in_lost b f i = first (in_either f (map (λ t. ending t endings.Lost) (filter is_lost_root b.transactions)) _ i)
  where
    transaction : (q : Transaction → Bool) → ((t : Transaction) → q t ≡ true → may_expire t.phase ≡ true) → IsIn f (map (λ t. ending t endings.Lost) (filter q b.transactions)) → LosesTransaction b f
    transaction q only k =
        let (t, l, e) = mapped_from (λ t. ending t endings.Lost) f (filter q b.transactions) k in
        let (among, passes) = filtered_from q t b.transactions l in
        record { one = t; among = among; undecided = only t passes; is = e }

    leaf : IsIn f (map (λ l. leaf_ended l endings.Lost) (filter is_lost_leaf b.leaves)) → LosesLeaf b f
    leaf k =
        let (l, among, e) = mapped_from (λ l. leaf_ended l endings.Lost) f (filter is_lost_leaf b.leaves) k in
        let (there, passes) = filtered_from is_lost_leaf l b.leaves among in
        record { one = l; among = there; open_still = passes; is = e }

    rest : IsIn f (map (λ t. ending t endings.Lost) (filter is_lost_subordinate b.transactions)) ⊎ IsIn f (map (λ l. leaf_ended l endings.Lost) (filter is_lost_leaf b.leaves))
        → LosesTransaction b f ⊎ LosesLeaf b f
    rest (inl k) = inl (transaction is_lost_subordinate (λ t e. second_true (is_some t.superior) (may_expire t.phase) e) k)
    rest (inr k) = inr (leaf k)

    first : IsIn f (map (λ t. ending t endings.Lost) (filter is_lost_root b.transactions))
        ⊎ IsIn f (map (λ t. ending t endings.Lost) (filter is_lost_subordinate b.transactions) ++ map (λ l. leaf_ended l endings.Lost) (filter is_lost_leaf b.leaves)) → LosesTransaction b f ⊎ LosesLeaf b f
    first (inl k) = inl (transaction is_lost_root (λ t e. second_true (is_none t.superior) (may_expire t.phase) e) k)
    first (inr k) = rest (in_either f (map (λ t. ending t endings.Lost) (filter is_lost_subordinate b.transactions)) _ k)

map_join : {A B : Type 0} (f : A → B) (xs ys : List A) → map f (xs ++ ys) ≡ map f xs ++ map f ys
map_join f [] ys = refl
map_join f (x ∷ xs) ys = ap (λ zs. f x ∷ zs) (map_join f xs ys)

map_twice : {A B C : Type 0} (f : A → B) (g : B → C) (xs : List A) → map g (map f xs) ≡ map (λ x. g (f x)) xs
map_twice f g [] = refl
map_twice f g (x ∷ xs) = ap (λ zs. g (f x) ∷ zs) (map_twice f g xs)

pub lost_maps : (n : ℕ) (b : Book) → lost_in n b ≡ map (happened_at n) (lost b)
lost_maps n b =
    sym (map_join (happened_at n) (map (λ t. ending t endings.Lost) (filter is_lost_root b.transactions)) _
    ∙ (λ i. map_twice (λ (t : Transaction). ending t endings.Lost) (happened_at n) (filter is_lost_root b.transactions) i
    ++ map_join (happened_at n) (map (λ t. ending t endings.Lost) (filter is_lost_subordinate b.transactions)) (map (λ l. leaf_ended l endings.Lost) (filter is_lost_leaf b.leaves)) i)
    ∙ (λ i. map (λ t. happened_at n (ending t endings.Lost)) (filter is_lost_root b.transactions)
    ++ (map_twice (λ (t : Transaction). ending t endings.Lost) (happened_at n) (filter is_lost_subordinate b.transactions) i
    ++ map_twice (λ (l : Leaf). leaf_ended l endings.Lost) (happened_at n) (filter is_lost_leaf b.leaves) i)))

either_state : (s : State) → (is_state s states.Registering || is_state s states.Active) ≡ true → (s ≡ states.Registering) ⊎ (s ≡ states.Active)
either_state states.Registering e = inl refl
either_state states.Active e = inr refl
either_state other e = absurd cc

-- what is lost had promised nothing
lost_unpromised : (hosts : Hosts) (u : World) (n : ℕ) (x : Node) (b : Book) → WorldPremises hosts u → nth n u.nodes ≡ Some x → x.book ≡ Some b → (id : Numbers) (what : Ending) (f : Effect)
    → IsIn f (lost b) → IsEnd id what f → PromisesNothing id x.journal
lost_unpromised hosts u n x b w found up id what f i its = by_case (in_lost b f i)
  where
    ready : IsReady b
    ready = w.moves.ready hosts u w.laws.reached n x b found up

    life : (k : Numbers) → Life x.journal (happened_on n u.happened) k (transaction_at b k) (leaf_at b k)
    life k = subst (λ c. Life x.journal (happened_on n u.happened) k (transaction_at c k) (leaf_at c k)) (here x b up) (w.laws.lives n x found k)

    by_case : LosesTransaction b f ⊎ LosesLeaf b f → PromisesNothing id x.journal
    by_case (inl h) =
        let (same, own) = ending_is h.one.superior h.one.id id endings.Lost what (subst (IsEnd id what) h.is its) in
        subst (λ k. PromisesNothing k x.journal) own
        (is_open x.journal (happened_on n u.happened) h.one.id h.one
        (life_of x.journal (happened_on n u.happened) h.one.id (transaction_at b h.one.id) (leaf_at b h.one.id) h.one (life h.one.id)
        (found_each transaction_id b.transactions h.one ready.order.rising.transactions h.among)) h.undecided).nothing
    by_case (inr h) =
        let (same, own, durable) = leaf_end_is h.one id endings.Lost what (subst (IsEnd id what) h.is its) in
        let there : leaf_at b h.one.id ≡ Some h.one = found_each leaf_id b.leaves h.one ready.order.rising.leaves h.among in
        subst (λ k. PromisesNothing k x.journal) own
        (leaf_unpromised x.journal (happened_on n u.happened) h.one.id h.one
        (leaf_alone x.journal (happened_on n u.happened) h.one.id (transaction_at b h.one.id) h.one
        (subst (λ o. Life x.journal (happened_on n u.happened) h.one.id (transaction_at b h.one.id) o) there (life h.one.id))).life (either_state h.one.state h.open_still))

pub aborts_falls : FallKeeps (λ hosts w. AbortsWereTold w)
aborts_falls hosts u n x b p found up j y voted aborted =
    by_case (new_abort u n (lost b) (goes_down n b u) (ap (λ (w : World). w.happened) (fallen n b u x found) ∙ ap (λ hs. u.happened ++ hs) (lost_maps n b)) y aborted)
  where
    before : HasVoted u y
    before = vote_before u (goes_down n b u) n x (record x { book = None }) found (ap (λ (w : World). w.nodes) (fallen n b u x found)) (λ r i. inl i) y voted

    by_case : HasAborted u y ⊎ AbortsNow n (lost b) y → IsUnderAborted (goes_down n b u) y
    by_case (inl a) = under_aborted_on u (goes_down n b u) (grows_falls u n x b found) y (j.aborts y before a)
    by_case (inr h) =
        absurd (unpromised_vote u n x y.id found (lost_unpromised hosts u n x b p found up y.id h.what h.ends_now.effect h.ends_now.among h.ends_now.its)
        (subst (HasVoted u) (sym (at_here n y h.ends_now.here)) before))
