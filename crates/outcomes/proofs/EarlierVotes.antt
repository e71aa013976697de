-- A participant that commits in a step had voted before it.
use Rattle.std.specs.Prelude.{ℕ, List, [], ◌∷◌, ◌++◌, Option, Some, None, Bool, map, ◌≡◌, ◌⊎◌, refl}
use Rattle.std.proofs.Common.{inl, inr, sym, subst, ap, ◌∙◌}
use Rattle.at_base.specs.Numbers.{Numbers}
use Rattle.at_base.specs.declared.event.Event.{Event}
use Rattle.at_base.specs.declared.event.Moment.{Moment}
use Rattle.at_base.specs.declared.notice.Kind.TheVariants as kinds
use Rattle.at_base.specs.declared.outs.Effect.{Effect}
use Rattle.at_base.specs.declared.outs.Effect.TheVariants as effects
use Rattle.at_base.specs.declared.outs.Ending.{Ending}
use Rattle.at_base.specs.declared.outs.Ending.TheVariants as endings
use Rattle.at_base.specs.declared.outs.Told.{Told}
use Rattle.at_base.specs.declared.record.Record.{Record}
use Rattle.at_model.specs.Book.{Activity, Book, Leaf, Transaction}
use Rattle.at_model.specs.Leaves.{leaf_ended}
use Rattle.at_model.specs.Moves.{Change}
use Rattle.at_model.specs.Seats.{ending, ending_of}
use Rattle.at_model.specs.Step.{Outcome, moment_of, plan, step}
use Rattle.at_model.specs.World.{Happened, Node, Who, World, goes_down, happened_at, lost_in, nth, put_book, Hosts}
use Rattle.model_laws.specs.Agreement.{IsIn}
use Rattle.model_laws.specs.ReachedWorlds.{counts}
use Rattle.agreement.specs.ActivityDeeds.{ActivityDeed, idles as goes_on, tells}
use Rattle.agreement.specs.Deeds.{How, IsHeard, StoodFor, happens}
use Rattle.agreement.specs.StepDeeds.{standing}
use Rattle.agreement.specs.LeafDeeds.{LeafDeed, aborts, commits, dropped, idles, leaves, prepares, rolls_back}
use Rattle.agreement.proofs.Crashes.{lost}
use Rattle.agreement.proofs.SeatedEntries.{in_either}
use Rattle.enlistments.specs.Moves.{Moved, activity_did, activity_made, answered, leaf_did, leaf_made, registered, rested, transaction_did, transaction_made}
use Rattle.votes.specs.VotesAndOutcomes.{IsOutcome}
use Rattle.votes.specs.DurableVotes.{HasVoted}
use Rattle.votes.proofs.Aborts.{ending_is, leaf_end_is, none_in, only_one}
use Rattle.votes.proofs.ToldAborts.{LosesLeaf, LosesTransaction, in_lost, lost_maps}
use Rattle.votes.proofs.Committeds.{commit_came}
use Rattle.votes.proofs.NewVotes.{IsEnd, happened_of}
use Rattle.votes.proofs.Premises.{StepPremises}
use Rattle.outcomes.specs.Bonds.{CommittedBelow}

-- it committed as a participant
abbrev pub IsCommitBelow : Numbers → Effect → Type 0
IsCommitBelow id f = (f ≡ effects.Sub id endings.Committed) ⊎ (f ≡ effects.Leaf id kinds.Durable endings.Committed)

as_end : (id : Numbers) (f : Effect) → IsCommitBelow id f → IsEnd id endings.Committed f
as_end id f h = inr h

no_root_below : (id i : Numbers) (what : Ending) → IsCommitBelow id (effects.Root i what) → ⊥
no_root_below id i what (inl e) = cc
no_root_below id i what (inr e) = cc

-- a deed commits a subordinate on its superior's Commit
record CommitsBy (how : How) (t : Transaction) (id : Numbers) : Type 0 where
  by : how ≡ How.Commits
  own : t.id ≡ id

root_apart : (t : Transaction) (id : Numbers) (f : Effect) → t.superior ≡ None → IsIn f (ending t endings.Committed ∷ []) → IsCommitBelow id f → ⊥
root_apart t id f root i h =
    no_root_below id t.id endings.Committed (subst (IsCommitBelow id) (only_one f (ending t endings.Committed) i ∙ (λ k. ending_of (root k) t.id endings.Committed)) h)

abort_apart : (t : Transaction) (id : Numbers) (f : Effect) → IsIn f (ending t endings.Aborted ∷ []) → IsCommitBelow id f → ⊥
abort_apart t id f i h =
    let e : endings.Aborted ≡ endings.Committed =
    (ending_is t.superior t.id id endings.Aborted endings.Committed (subst (IsEnd id endings.Committed) (only_one f (ending t endings.Aborted) i) (as_end id f h))).0 in
    cc

commits_by : (how : How) (t : Transaction) (id : Numbers) (f : Effect) → StoodFor how t → IsIn f (happens how t) → IsCommitBelow id f → CommitsBy how t id
commits_by How.Aborts t id f stood i h = absurd (abort_apart t id f i h)
commits_by How.RollsBack t id f stood i h = absurd (abort_apart t id f i h)
commits_by How.Decides t id f stood i h = absurd (root_apart t id f stood.1 i h)
commits_by How.DecidesAlone t id f stood i h = absurd (root_apart t id f stood.1 i h)
commits_by How.Commits t id f stood i h = record {
  by = refl;
  own = (ending_is t.superior t.id id endings.Committed endings.Committed (subst (IsEnd id endings.Committed) (only_one f (ending t endings.Committed) i) (as_end id f h))).1;
}
commits_by other t id f stood i h = absurd i

transaction_voted : (hosts : Hosts) (u : World) (n : ℕ) (x : Node) (b : Book) (e : Event) → StepPremises hosts u n x b e → IsOutcome hosts u → (t : Transaction) (how : How) → IsHeard how e t
    → how ≡ How.Commits → HasVoted u (record { node = n; id = t.id })
transaction_voted hosts u n x b e p j t how heard is = voted (subst (λ h. IsHeard h e t) is heard)
  where
    voted : IsHeard How.Commits e t → HasVoted u (record { node = n; id = t.id })
    voted said = (commit_came hosts u n x b e p j said.message said.came t.id kinds.Durable said.target said.says refl).0

-- a leaf commits on its coordinator's
leaf_voted : (hosts : Hosts) (u : World) (n : ℕ) (x : Node) (b : Book) (e : Event) → StepPremises hosts u n x b e → IsOutcome hosts u → (m : Moment) (l : Leaf) (entry : Option Record) (c : Change Leaf)
    → LeafDeed m e l entry c → (id : Numbers) (f : Effect) → IsIn f c.effects → IsCommitBelow id f → HasVoted u (record { node = n; id = id })
leaf_voted hosts u n x b e p j m l entry c (idles left is none on none_happened) id f i h = absurd (none_in f c.effects [] none_happened refl i)
leaf_voted hosts u n x b e p j m l entry c (aborts state why none gone happened) id f i h =
    let k : endings.Aborted ≡ endings.Committed =
    (leaf_end_is l id endings.Aborted endings.Committed (subst (IsEnd id endings.Committed) (only_one f (leaf_ended l endings.Aborted) (subst (IsIn f) happened i)) (as_end id f h))).0 in
    absurd cc
leaf_voted hosts u n x b e p j m l entry c (prepares to came state vote known is on none_happened posted) id f i h = absurd (none_in f c.effects [] none_happened refl i)
leaf_voted hosts u n x b e p j m l entry c (leaves to came state vote known none gone none_happened posted) id f i h = absurd (none_in f c.effects [] none_happened refl i)
leaf_voted hosts u n x b e p j m l entry c (dropped came kind none gone none_happened posted) id f i h = absurd (none_in f c.effects [] none_happened refl i)
leaf_voted hosts u n x b e p j m l entry c (commits to came state known is gone happened posted) id f i h =
    let (same, own, durable) =
    leaf_end_is l id endings.Committed endings.Committed (subst (IsEnd id endings.Committed) (only_one f (leaf_ended l endings.Committed) (subst (IsIn f) happened i)) (as_end id f h)) in
    subst (λ k. HasVoted u (record { node = n; id = k })) own (commit_came hosts u n x b e p j came.arrived came.event l.id l.kind came.target came.message durable).0
leaf_voted hosts u n x b e p j m l entry c (rolls_back to came state known is gone happened posted) id f i h =
    let k : endings.Aborted ≡ endings.Committed =
    (leaf_end_is l id endings.Aborted endings.Committed (subst (IsEnd id endings.Committed) (only_one f (leaf_ended l endings.Aborted) (subst (IsIn f) happened i)) (as_end id f h))).0 in
    absurd cc

told_apart : (id i : Numbers) (t : Told) → IsCommitBelow id (effects.Told i t) → ⊥
told_apart id i t (inl e) = cc
told_apart id i t (inr e) = cc

activity_apart : (m : Moment) (e : Event) (a : Activity) (entry : Option Record) (c : Change Activity) → ActivityDeed m e a entry c → (id : Numbers) (f : Effect) → IsIn f c.effects → IsCommitBelow id f → ⊥
activity_apart m e a entry c (goes_on left is none on none_happened) id f i h = none_in f c.effects [] none_happened refl i
activity_apart m e a entry c (tells told why none gone happened posted) id f i h =
    told_apart id a.id told (subst (IsCommitBelow id) (only_one f (effects.Told a.id told) (subst (IsIn f) happened i)) h)

commit_now : (hosts : Hosts) (u : World) (n : ℕ) (x : Node) (b : Book) (e : Event) (now : ℕ) (entry : Option Record) (o : Outcome) → StepPremises hosts u n x b e → IsOutcome hosts u → Moved b e now entry o
    → (id : Numbers) (f : Effect) → IsIn f o.effects → IsCommitBelow id f → HasVoted u (record { node = n; id = id })
commit_now hosts u n x b e now entry o p j (transaction_did d) id f i h =
    let k : CommitsBy d.deed.how d.old id = commits_by d.deed.how d.old id f d.deed.stood (subst (IsIn f) (d.effects_are ∙ d.deed.happened) i) h in
    subst (λ l. HasVoted u (record { node = n; id = l })) k.own (transaction_voted hosts u n x b e p j d.old d.deed.how d.deed.heard k.by)
commit_now hosts u n x b e now entry o p j (leaf_did d) id f i h = leaf_voted hosts u n x b e p j (moment_of b now) d.old entry d.change d.deed id f (subst (IsIn f) d.effects_are i) h
commit_now hosts u n x b e now entry o p j (activity_did d) id f i h = absurd (activity_apart (moment_of b now) e d.old entry d.change d.deed id f (subst (IsIn f) d.effects_are i) h)
commit_now hosts u n x b e now entry o p j (registered d) id f i h = absurd (none_in f o.effects [] (ap (λ (q : Outcome). q.effects) d.is) refl i)
commit_now hosts u n x b e now entry o p j (transaction_made d) id f i h = absurd (none_in f o.effects [] (ap (λ (q : Outcome). q.effects) d.is) refl i)
commit_now hosts u n x b e now entry o p j (leaf_made d) id f i h = absurd (none_in f o.effects [] (ap (λ (q : Outcome). q.effects) d.is) refl i)
commit_now hosts u n x b e now entry o p j (activity_made d) id f i h = absurd (none_in f o.effects [] (ap (λ (q : Outcome). q.effects) d.is) refl i)
commit_now hosts u n x b e now entry o p j (answered d) id f i h = absurd (none_in f o.effects [] (ap (λ (q : Outcome). q.effects) d.is) refl i)
commit_now hosts u n x b e now entry o p j (rested d) id f i h = absurd (none_in f o.effects [] d.effects_are refl i)

at_here : (n : ℕ) (y : Who) → y.node ≡ n → ◌≡◌ {A = Who} (record { node = n; id = y.id }) y
at_here n y e = λ i. record { node = sym e i; id = y.id }

-- what a fall loses hasn't committed
pub lost_apart : (b : Book) (id : Numbers) (f : Effect) → IsIn f (lost b) → IsEnd id endings.Committed f → ⊥
lost_apart b id f i h = by_loss (in_lost b f i)
  where
    by_loss : LosesTransaction b f ⊎ LosesLeaf b f → ⊥
    by_loss (inl k) =
        let e : endings.Lost ≡ endings.Committed = (ending_is k.one.superior k.one.id id endings.Lost endings.Committed (subst (IsEnd id endings.Committed) k.is h)).0 in
        cc
    by_loss (inr k) =
        let e : endings.Lost ≡ endings.Committed = (leaf_end_is k.one id endings.Lost endings.Committed (subst (IsEnd id endings.Committed) k.is h)).0 in
        cc

-- what happened, and what happens now at this node
pub one_now : (n : ℕ) (old : List Happened) (es : List Effect) (y : ℕ) (f : Effect) → IsIn (happened_at y f) (old ++ map (happened_at n) es) → IsIn (happened_at y f) old ⊎ ((y ≡ n) × IsIn f es)
one_now n old es y f i = by_place (in_either (happened_at y f) old (map (happened_at n) es) i)
  where
    by_place : IsIn (happened_at y f) old ⊎ IsIn (happened_at y f) (map (happened_at n) es) → IsIn (happened_at y f) old ⊎ ((y ≡ n) × IsIn f es)
    by_place (inl k) = inl k
    by_place (inr k) = inr (happened_of n es y f k)

pub falls_apart : (u : World) (n : ℕ) (x : Node) (b : Book) → nth n u.nodes ≡ Some x → (y : Who) (f : Effect) → IsEnd y.id endings.Committed f → IsIn (happened_at y.node f) (goes_down n b u).happened
    → IsIn (happened_at y.node f) u.happened
falls_apart u n x b found y f k i = by_place (one_now n u.happened (lost b) y.node f (subst (IsIn (happened_at y.node f)) is i))
  where
    is : (goes_down n b u).happened ≡ u.happened ++ map (happened_at n) (lost b)
    is = ap (λ (w : World). w.happened) (ap (put_book n None (record u { happened = u.happened ++ lost_in n b })) found) ∙ ap (λ hs. u.happened ++ hs) (lost_maps n b)

    by_place : IsIn (happened_at y.node f) u.happened ⊎ ((y.node ≡ n) × IsIn f (lost b)) → IsIn (happened_at y.node f) u.happened
    by_place (inl l) = l
    by_place (inr (here, l)) = absurd (lost_apart b y.id f l k)

-- so behind a step
pub votes_first : (hosts : Hosts) (u : World) (n : ℕ) (x : Node) (b : Book) (e : Event) (now : ℕ) (landed : Bool) → StepPremises hosts u n x b e → IsOutcome hosts u → (y : Who)
    → CommittedBelow (counts u n x b e now landed) y → CommittedBelow u y ⊎ HasVoted u y
votes_first hosts u n x b e now landed p j y h = by_effect h
  where
    now_voted : (f : Effect) → IsCommitBelow y.id f → (y.node ≡ n) × IsIn f (step b e now landed).effects → HasVoted u y
    now_voted f k (here, i) =
        subst (HasVoted u) (at_here n y here)
        (commit_now hosts u n x b e now (standing landed (plan b e now).entry) (step b e now landed) p j (p.world.moves.moved b e now landed p.ready) y.id f i k)

    lift : (f : Effect) → IsCommitBelow y.id f → (IsIn (happened_at y.node f) u.happened → CommittedBelow u y)
        → IsIn (happened_at y.node f) u.happened ⊎ ((y.node ≡ n) × IsIn f (step b e now landed).effects) → CommittedBelow u y ⊎ HasVoted u y
    lift f k old (inl i) = inl (old i)
    lift f k old (inr i) = inr (now_voted f k i)

    by_effect : CommittedBelow (counts u n x b e now landed) y → CommittedBelow u y ⊎ HasVoted u y
    by_effect (inl i) = lift (effects.Sub y.id endings.Committed) (inl refl) (λ k. inl k) (one_now n u.happened (step b e now landed).effects y.node (effects.Sub y.id endings.Committed) i)
    by_effect (inr i) = lift (effects.Leaf y.id kinds.Durable endings.Committed) (inr refl) (λ k. inr k) (one_now n u.happened (step b e now landed).effects y.node (effects.Leaf y.id kinds.Durable endings.Committed) i)
