-- What the records of an outcome say happened, and no vote of a transaction stands behind its commit.
use Rattle.std.specs.Prelude.{ℕ, List, [], ◌∷◌, ◌++◌, Option, Some, None, Bool, true, false, ◌||◌, ◌+◌, if◌then◌else◌, option_map, ◌≡◌, ◌⊎◌, refl}
use Rattle.std.specs.List.{list_any, AllByRecursion}
use Rattle.std.proofs.Common.{inl, inr, sym, subst, ap, ◌∙◌}
use Rattle.at_base.specs.Numbers.{Numbers}
use Rattle.at_base.specs.declared.epr.Epr.{Epr}
use Rattle.at_base.specs.declared.event.Event.{Event}
use Rattle.at_base.specs.declared.event.Moment.{Moment}
use Rattle.at_base.specs.declared.notice.Kind.{Kind}
use Rattle.at_base.specs.declared.notice.Kind.TheVariants as kinds
use Rattle.at_base.specs.declared.outs.Effect.{Effect}
use Rattle.at_base.specs.declared.outs.Effect.TheVariants as effects
use Rattle.at_base.specs.declared.outs.Ending.{Ending}
use Rattle.at_base.specs.declared.outs.Ending.TheVariants as endings
use Rattle.at_base.specs.declared.record.Record.{Record}
use Rattle.at_base.specs.declared.record.Record.TheVariants as records
use Rattle.at_base.specs.declared.record.Seated.{Seated}
use Rattle.at_model.specs.Book.{Book, Enlistment, Leaf, Phase, Transaction}
use Rattle.at_model.specs.Leaves.{leaf_ended}
use Rattle.at_model.specs.Moves.{Change}
use Rattle.at_model.specs.Recovery.{ends_leaf, ends_transaction, is_decided, is_leaf_prepared, is_sub_committed, is_voted, kept, last_incarnation, live, no_seats, with_commit}
use Rattle.at_model.specs.Seats.{prepared}
use Rattle.at_model.specs.Step.{moment_of, plan, step}
use Rattle.at_model.specs.World.{HaveOwnAddresses, Hosts, Node, World, lost_in, nth, opening, put_nth, started, up_after, with_post}
use Rattle.model_laws.specs.Agreement.{HasAborted, HasCommitted, HasEnded, IsIn}
use Rattle.model_laws.specs.DrawnIds.{with_entry}
use Rattle.model_laws.specs.Growth.{Grows}
use Rattle.model_laws.specs.ReachedWorlds.{Reached, counts}
use Rattle.model_laws.proofs.DecisionLaws.{IfThere, all_join, all_more}
use Rattle.model_laws.proofs.DrawnIds.{all_live}
use Rattle.model_laws.proofs.Growth.{grows_counts, grows_falls, grows_posts, grows_rises, grows_waits, takes_nothing_back}
use Rattle.model_laws.proofs.NodeLives.{opening_node}
use Rattle.model_laws.proofs.Nodes.{each_put}
use Rattle.model_laws.proofs.RecoveryLaws.{same_id, self_id}
use Rattle.model_laws.proofs.WorldInvariants.{Law, holds}
use Rattle.agreement.specs.Deeds.{How, IsAbort, IsCommit, StoodFor, recorded, superior_at}
use Rattle.agreement.specs.LeafDeeds.{LeafDeed, aborts, commits, dropped, for_durable, idles, leaves, prepares, rolls_back}
use Rattle.agreement.specs.Lives.{happened_on}
use Rattle.agreement.specs.StepDeeds.{standing}
use Rattle.agreement.proofs.SeatedEntries.{all_of, in_either, one_of}
use Rattle.agreement.proofs.TransactionLives.{TransactionLife, aborted, committed, decided, undecided, voted}
use Rattle.enlistments.specs.Moves.{Moved, TransactionDid}
use Rattle.enlistments.proofs.Arrivals.{out_unit}
use Rattle.enlistments.proofs.StepItems.{entry_of, records_after}
use Rattle.votes.specs.DurableVotes.{is_vote}
use Rattle.votes.proofs.Aborts.{VotesBy, votes_by}
use Rattle.votes.proofs.Growth.{aborted_on, committed_on}
use Rattle.votes.proofs.ItemEnds.{in_phase, is_open, not_committed_open, two_phases}
use Rattle.votes.proofs.Lives.{gone_down}
use Rattle.votes.proofs.Premises.{StepPremises}
use Rattle.votes.proofs.StepItems.{aborts_now, commits_now, effect_there, stands_as}
use Rattle.outcomes.proofs.Agreement.{layers}
use Rattle.outcomes.proofs.Layers.{step_premises}
use Rattle.recorded_runs.specs.JournalRecords.{CommitStands, IsBefore, IsOrdered, JournalSays, RecordSays}

commit_on : (u w : World) → Grows u w → (n : ℕ) (id : Numbers) → CommitStands u n id → CommitStands w n id
commit_on u w g n id (inl s) = inl (takes_nothing_back.stands u w g n (records.SubCommitted id) s)
commit_on u w g n id (inr (seats, s)) = inr (seats, takes_nothing_back.stands u w g n (records.Decided id seats) s)

ended_on : (u w : World) → Grows u w → (n : ℕ) (id : Numbers) → HasAborted u (record { node = n; id = id }) ⊎ CommitStands u n id → HasAborted w (record { node = n; id = id }) ⊎ CommitStands w n id
ended_on u w g n id (inl h) = inl (aborted_on u w g (record { node = n; id = id }) h)
ended_on u w g n id (inr h) = inr (commit_on u w g n id h)

says_on : (u w : World) → Grows u w → (n : ℕ) (r : Record) → RecordSays u n r → RecordSays w n r
says_on u w g n (records.LeafCommitted id) h = committed_on u w g (record { node = n; id = id }) h
says_on u w g n (records.LeafAborted id) h = aborted_on u w g (record { node = n; id = id }) h
says_on u w g n (records.SubCommitted id) h = committed_on u w g (record { node = n; id = id }) h
says_on u w g n (records.Ended id) h = ended_on u w g n id h
says_on u w g n (records.Start incarnation) h = tt
says_on u w g n (records.LeafPrepared id coordinator key value) h = tt
says_on u w g n (records.Voted id superior seats) h = tt
says_on u w g n (records.Decided id seats) h = tt
says_on u w g n (records.Done id) h = tt

-- a record may come behind others
abbrev MayFollow : List Record → Record → Type 0
MayFollow rs r = (id : Numbers) → IsIn (records.SubCommitted id) rs → is_voted id r ≡ true → ⊥

still_before : (s : Record) (rs : List Record) (r : Record) → IsBefore s rs → MayFollow (s ∷ []) r → IsBefore s (rs ++ r ∷ [])
still_before (records.SubCommitted id) rs r h k = λ q i e. by_place q e (in_either q rs (r ∷ []) i)
  where
    by_place : (q : Record) → is_voted id q ≡ true → IsIn q rs ⊎ IsIn q (r ∷ []) → ⊥
    by_place q e (inl j) = h q j e
    by_place q e (inr (inl f)) = k id (inl refl) (sym (ap (is_voted id) f) ∙ e)
    by_place q e (inr (inr j)) = j
still_before (records.Start incarnation) rs r h k = tt
still_before (records.LeafPrepared id coordinator key value) rs r h k = tt
still_before (records.LeafCommitted id) rs r h k = tt
still_before (records.LeafAborted id) rs r h k = tt
still_before (records.Voted id superior seats) rs r h k = tt
still_before (records.Decided id seats) rs r h k = tt
still_before (records.Ended id) rs r h k = tt
still_before (records.Done id) rs r h k = tt

of_head : (s : Record) (rs : List Record) (r : Record) → MayFollow (s ∷ rs) r → MayFollow (s ∷ []) r
of_head s rs r k id (inl e) f = k id (inl e) f
of_head s rs r k id (inr i) f = absurd i

ordered_push : (rs : List Record) (r : Record) → IsOrdered rs → MayFollow rs r → IsOrdered (rs ++ r ∷ [])
ordered_push [] r h k = (alone r, tt)
  where
    alone : (s : Record) → IsBefore s []
    alone (records.SubCommitted id) = λ q i e. i
    alone (records.Start incarnation) = tt
    alone (records.LeafPrepared id coordinator key value) = tt
    alone (records.LeafCommitted id) = tt
    alone (records.LeafAborted id) = tt
    alone (records.Voted id superior seats) = tt
    alone (records.Decided id seats) = tt
    alone (records.Ended id) = tt
    alone (records.Done id) = tt
ordered_push (s ∷ rs) r (h, hs) k = (still_before s rs r h (of_head s rs r k), ordered_push rs r hs (λ id i. k id (inr i)))

ordered_after : (entry : Option Record) (landed : Bool) (rs : List Record) → IsOrdered rs → IfThere (MayFollow rs) (standing landed entry) → IsOrdered (with_entry entry landed rs)
ordered_after None landed rs h k = h
ordered_after (Some r) true rs h k = ordered_push rs r h k
ordered_after (Some r) false rs h k = h

-- behind a vote stands its commit
pub behind_vote : (front : List Record) (vote : Record) (rest : List Record) (id : Numbers) → IsOrdered (front ++ vote ∷ rest) → is_voted id vote ≡ true
    → IsIn (records.SubCommitted id) (front ++ vote ∷ rest) → IsIn (records.SubCommitted id) rest
behind_vote [] vote rest id h e (inl f) = let g : is_voted id (records.SubCommitted id) ≡ true = ap (is_voted id) f ∙ e in absurd cc
behind_vote [] vote rest id h e (inr i) = i
behind_vote (r ∷ front) vote rest id (h, hs) e (inr i) = behind_vote front vote rest id hs e i
behind_vote (r ∷ front) vote rest id (h, hs) e (inl f) = absurd (subst (λ s. IsBefore s (front ++ vote ∷ rest)) (sym f) h vote (among front) e)
  where
    among : (xs : List Record) → IsIn vote (xs ++ vote ∷ rest)
    among [] = inl refl
    among (x ∷ xs) = inr (among xs)

-- what is live stands in the journal
pub in_any : (p : Record → Bool) (rs : List Record) → list_any p rs ≡ true → (r : Record) × IsIn r rs × (p r ≡ true)
in_any p [] e = absurd cc
in_any p (r ∷ rs) e = by_test (p r) refl (in_any p rs) e
  where
    by_test : (c : Bool) → p r ≡ c → (list_any p rs ≡ true → (s : Record) × IsIn s rs × (p s ≡ true)) → (c || list_any p rs) ≡ true → (s : Record) × IsIn s (r ∷ rs) × (p s ≡ true)
    by_test true f rest g = (r, inl refl, f)
    by_test false f rest g = let (s, i, k) = rest g in (s, inr i, k)

pub its_commit : (id : Numbers) (r : Record) → is_sub_committed id r ≡ true → r ≡ records.SubCommitted id
its_commit id (records.SubCommitted i) e = ap records.SubCommitted (same_id i id e)
its_commit id other e = absurd cc

live_commit : (rs : List Record) (id : Numbers) → IsIn (records.SubCommitted id) (live rs) → IsIn (records.SubCommitted id) rs
live_commit [] id i = i
live_commit (r ∷ rs) id i = by_place (live_commit rs id) (in_either (records.SubCommitted id) (kept r rs) (live rs) i)
  where
    maybe : (c : Bool) (xs : List Record) → IsIn (records.SubCommitted id) (if c then [] else xs) → IsIn (records.SubCommitted id) xs
    maybe true xs h = absurd h
    maybe false xs h = h

    commit_of : (j : Numbers) (c : Bool) → list_any (is_sub_committed j) rs ≡ c → IsIn (records.SubCommitted id) (if c then records.SubCommitted j ∷ [] else []) → IsIn (records.SubCommitted id) rs
    commit_of j true e (inl f) =
        let (s, k, is) = in_any (is_sub_committed j) rs e in
        subst (λ q. IsIn q rs) (its_commit j s is ∙ sym f) k
    commit_of j true e (inr h) = absurd h
    commit_of j false e h = absurd h

    of_vote : (j : Numbers) (superior : Epr) (seats : List Seated) → IsIn (records.SubCommitted id) (records.Voted j superior seats ∷ with_commit j rs) → IsIn (records.SubCommitted id) rs
    of_vote j superior seats (inl f) = absurd cc
    of_vote j superior seats (inr h) = commit_of j (list_any (is_sub_committed j) rs) refl h

    of_kept : (s : Record) → IsIn (records.SubCommitted id) (kept s rs) → IsIn (records.SubCommitted id) rs
    of_kept (records.LeafPrepared j coordinator key value) h = other (maybe (list_any (ends_leaf j) rs) (records.LeafPrepared j coordinator key value ∷ []) h)
      where
        other : IsIn (records.SubCommitted id) (records.LeafPrepared j coordinator key value ∷ []) → IsIn (records.SubCommitted id) rs
        other (inl f) = absurd cc
        other (inr k) = absurd k
    of_kept (records.Voted j superior seats) h = of_vote j superior seats (maybe (list_any (ends_transaction j) rs) (records.Voted j superior seats ∷ with_commit j rs) h)
    of_kept (records.Decided j seats) h = other (maybe (no_seats seats || list_any (ends_transaction j) rs) (records.Decided j seats ∷ []) h)
      where
        other : IsIn (records.SubCommitted id) (records.Decided j seats ∷ []) → IsIn (records.SubCommitted id) rs
        other (inl f) = absurd cc
        other (inr k) = absurd k
    of_kept (records.Start incarnation) h = absurd h
    of_kept (records.LeafCommitted j) h = absurd h
    of_kept (records.LeafAborted j) h = absurd h
    of_kept (records.SubCommitted j) h = absurd h
    of_kept (records.Ended j) h = absurd h
    of_kept (records.Done j) h = absurd h

    by_place : (IsIn (records.SubCommitted id) (live rs) → IsIn (records.SubCommitted id) rs) → IsIn (records.SubCommitted id) (kept r rs) ⊎ IsIn (records.SubCommitted id) (live rs)
        → IsIn (records.SubCommitted id) (r ∷ rs)
    by_place rest (inl h) = inr (of_kept r h)
    by_place rest (inr h) = inr (rest h)

live_decision : (rs : List Record) (id : Numbers) (r : Record) → IsIn r (live rs) → is_decided id r ≡ true → IsIn r rs
live_decision rs id r i e =
    one_of (λ x. is_decided id x ≡ true → IsIn x rs) (live rs) r
    (all_live (λ x. is_decided id x ≡ true → IsIn x rs) rs (λ j superior seats h f. absurd (never j f)) (all_of (λ x. is_decided id x ≡ true → IsIn x rs) rs (λ x k f. k))) i e
  where
    never : (j : Numbers) → is_decided id (records.SubCommitted j) ≡ true → ⊥
    never j f = cc

-- a transaction that commits has its commit recorded
commit_recorded : (rs : List Record) (fx : List Effect) (id : Numbers) (t : Transaction) → TransactionLife rs fx id t → t.phase ≡ Phase.Committing
    → IsIn (records.SubCommitted id) rs ⊎ ((seats : List Seated) × IsIn (records.Decided id seats) rs)
commit_recorded rs fx id t (undecided o nothing k) e = absurd (in_phase t Phase.Committing e refl o)
commit_recorded rs fx id t (voted superior seats p r h out k) e = let f : Phase.Voted ≡ Phase.Committing = two_phases t.phase Phase.Voted Phase.Committing p e in absurd cc
commit_recorded rs fx id t (decided seats p r h k) e = inr (seats, live_decision rs id (records.Decided id seats) h (self_id id))
commit_recorded rs fx id t (committed superior seats p r h i k) e = inl (live_commit rs id i)
commit_recorded rs fx id t (aborted p dead k) e = let f : Phase.Aborting ≡ Phase.Committing = two_phases t.phase Phase.Aborting Phase.Committing p e in absurd cc

-- the record of a step
vote_says : (w : World) (n : ℕ) (id : Numbers) (named : List Seated) (o : Option Epr) → IfThere (RecordSays w n) (option_map (λ superior. records.Voted id superior named) o)
vote_says w n id named None = tt
vote_says w n id named (Some superior) = tt

deed_says : (w : World) (n : ℕ) (how : How) (t : Transaction) (at : List Enlistment) → (IsCommit how → HasCommitted w (record { node = n; id = t.id }))
    → (IsAbort how → HasEnded w (record { node = n; id = t.id }) endings.Aborted) → (how ≡ How.Ends → CommitStands w n t.id) → IfThere (RecordSays w n) (recorded how t at)
deed_says w n How.Votes t at c a e = vote_says w n t.id (prepared at) (superior_at t.superior)
deed_says w n How.Decides t at c a e = tt
deed_says w n How.DecidesAlone t at c a e = tt
deed_says w n How.Commits t at c a e = c tt
deed_says w n How.RollsBack t at c a e = inl (inl (a tt))
deed_says w n How.Ends t at c a e = inr (e refl)
deed_says w n How.Idles t at c a e = tt
deed_says w n How.Aborts t at c a e = tt
deed_says w n How.Leaves t at c a e = tt
deed_says w n How.Forgets t at c a e = tt

transaction_says : (hosts : Hosts) (u : World) (n : ℕ) (x : Node) (b : Book) (e : Event) (now : ℕ) (landed : Bool) → StepPremises hosts u n x b e
    → (d : TransactionDid b e now (standing landed (plan b e now).entry) (step b e now landed)) → IfThere (RecordSays (counts u n x b e now landed) n) (standing landed (plan b e now).entry)
transaction_says hosts u n x b e now landed p d =
    subst (IfThere (RecordSays w n)) (sym d.deed.records)
    (deed_says w n d.deed.how d.old d.deed.at (λ c. commits_now u n x b e now landed (standing landed (plan b e now).entry) d c) (λ a. aborts_now u n x b e now landed (standing landed (plan b e now).entry) d a)
    (λ is. lasts (commit_recorded x.journal (happened_on n u.happened) d.old.id d.old (stands_as hosts u n x b e p d.old d.found) (subst (λ h. StoodFor h d.old) is d.deed.stood))))
  where
    w : World
    w = counts u n x b e now landed

    lasts : IsIn (records.SubCommitted d.old.id) x.journal ⊎ ((seats : List Seated) × IsIn (records.Decided d.old.id seats) x.journal) → CommitStands w n d.old.id
    lasts (inl i) = inl (takes_nothing_back.stands u w (grows_counts u n x b e now landed p.found) n (records.SubCommitted d.old.id) (x, p.found, i))
    lasts (inr (seats, i)) = inr (seats, takes_nothing_back.stands u w (grows_counts u n x b e now landed p.found) n (records.Decided d.old.id seats) (x, p.found, i))

leaf_ends : (u : World) (n : ℕ) (x : Node) (b : Book) (e : Event) (now : ℕ) (landed : Bool) (l : Leaf) (what : Ending) → (step b e now landed).effects ≡ leaf_ended l what ∷ [] → l.kind ≡ kinds.Durable
    → HasEnded (counts u n x b e now landed) (record { node = n; id = l.id }) what
leaf_ends u n x b e now landed l what is durable =
    inr (inr (effect_there u n x b e now landed (effects.Leaf l.id kinds.Durable what) (subst (IsIn (effects.Leaf l.id kinds.Durable what)) (sym is) (inl (ap (λ k. effects.Leaf l.id k what) (sym durable))))))

pub no_entry : (P : Record → Type 0) (entry : Option Record) → entry ≡ None → IfThere P entry
no_entry P entry e = subst (IfThere P) (sym e) tt

pub durable_entry : (P : Record → Type 0) (kind : Kind) (r : Record) (entry : Option Record) → entry ≡ for_durable kind r → (kind ≡ kinds.Durable → P r) → IfThere P entry
durable_entry P kinds.Durable r entry e h = subst (IfThere P) (sym e) (h refl)
durable_entry P kinds.Volatile r entry e h = subst (IfThere P) (sym e) tt

leaf_deed_says : (u : World) (n : ℕ) (x : Node) (b : Book) (e : Event) (now : ℕ) (landed : Bool) (m : Moment) (l : Leaf) (entry : Option Record) (c : Change Leaf)
    → (step b e now landed).effects ≡ c.effects → LeafDeed m e l entry c → IfThere (RecordSays (counts u n x b e now landed) n) entry
leaf_deed_says u n x b e now landed m l entry c is (idles left why none item happened) = no_entry (RecordSays (counts u n x b e now landed) n) entry none
leaf_deed_says u n x b e now landed m l entry c is (aborts state why none item happened) = no_entry (RecordSays (counts u n x b e now landed) n) entry none
leaf_deed_says u n x b e now landed m l entry c is (prepares to came state vote knows records_are item happened sent) =
    durable_entry (RecordSays (counts u n x b e now landed) n) l.kind (records.LeafPrepared l.id to l.key l.value) entry records_are (λ durable. tt)
leaf_deed_says u n x b e now landed m l entry c is (leaves to came state vote knows none item happened sent) = no_entry (RecordSays (counts u n x b e now landed) n) entry none
leaf_deed_says u n x b e now landed m l entry c is (dropped came kind none item happened sent) = no_entry (RecordSays (counts u n x b e now landed) n) entry none
leaf_deed_says u n x b e now landed m l entry c is (commits to came state knows records_are item happened sent) =
    durable_entry (RecordSays (counts u n x b e now landed) n) l.kind (records.LeafCommitted l.id) entry records_are
    (λ durable. leaf_ends u n x b e now landed l endings.Committed (is ∙ happened) durable)
leaf_deed_says u n x b e now landed m l entry c is (rolls_back to came state knows records_are item happened sent) =
    durable_entry (RecordSays (counts u n x b e now landed) n) l.kind (records.LeafAborted l.id) entry records_are
    (λ durable. inl (leaf_ends u n x b e now landed l endings.Aborted (is ∙ happened) durable))

-- a vote follows no commit of its transaction
pub if_each : (P : Record → Type 0) (o : Option Record) → ((r : Record) → o ≡ Some r → P r) → IfThere P o
if_each P None h = tt
if_each P (Some r) h = h r refl

pub as_vote : (id : Numbers) (r : Record) → is_voted id r ≡ true → is_vote id r ≡ true
as_vote id r e = either (is_leaf_prepared id r) (is_voted id r) e
  where
    either : (a b : Bool) → b ≡ true → (a || b) ≡ true
    either true b e = refl
    either false b e = e

transaction_follows : (hosts : Hosts) (u : World) (n : ℕ) (x : Node) (b : Book) (e : Event) (now : ℕ) (landed : Bool) → StepPremises hosts u n x b e → AllByRecursion (RecordSays u n) x.journal
    → (d : TransactionDid b e now (standing landed (plan b e now).entry) (step b e now landed)) → IfThere (MayFollow x.journal) (standing landed (plan b e now).entry)
transaction_follows hosts u n x b e now landed p said d =
    if_each (MayFollow x.journal) (standing landed (plan b e now).entry) (λ r entered id i vote. follows r entered id i (votes_by d.deed.how d.old d.deed.at r id (sym d.deed.records ∙ entered) (as_vote id r vote)))
  where
    follows : (r : Record) → standing landed (plan b e now).entry ≡ Some r → (id : Numbers) → IsIn (records.SubCommitted id) x.journal → VotesBy d.deed.how d.old id → ⊥
    follows r entered id i v =
        not_committed_open u n x.journal d.old.id
        (is_open x.journal (happened_on n u.happened) d.old.id d.old (stands_as hosts u n x b e p d.old d.found) (subst (λ h. StoodFor h d.old) v.by d.deed.stood).0)
        (subst (λ k. HasCommitted u (record { node = n; id = k })) (sym v.own) (one_of (RecordSays u n) x.journal (records.SubCommitted id) said i))

leaf_follows : (rs : List Record) (m : Moment) (e : Event) (l : Leaf) (entry : Option Record) (c : Change Leaf) → LeafDeed m e l entry c → IfThere (MayFollow rs) entry
leaf_follows rs m e l entry c (idles left why none item happened) = no_entry (MayFollow rs) entry none
leaf_follows rs m e l entry c (aborts state why none item happened) = no_entry (MayFollow rs) entry none
leaf_follows rs m e l entry c (prepares to came state vote knows is item happened sent) =
    durable_entry (MayFollow rs) l.kind (records.LeafPrepared l.id to l.key l.value) entry is (λ durable id i f. cc)
leaf_follows rs m e l entry c (leaves to came state vote knows none item happened sent) = no_entry (MayFollow rs) entry none
leaf_follows rs m e l entry c (dropped came kind none item happened sent) = no_entry (MayFollow rs) entry none
leaf_follows rs m e l entry c (commits to came state knows is item happened sent) = durable_entry (MayFollow rs) l.kind (records.LeafCommitted l.id) entry is (λ durable id i f. cc)
leaf_follows rs m e l entry c (rolls_back to came state knows is item happened sent) = durable_entry (MayFollow rs) l.kind (records.LeafAborted l.id) entry is (λ durable id i f. cc)

-- in every world that is reached
abbrev AllSay : World → Type 0
AllSay w = (n : ℕ) (x : Node) → nth n w.nodes ≡ Some x → JournalSays w n x.journal

journal_on : (u w : World) → Grows u w → (n : ℕ) (rs : List Record) → JournalSays u n rs → JournalSays w n rs
journal_on u w g n rs h = record { says = all_more (RecordSays u n) (RecordSays w n) rs (says_on u w g n) h.says; ordered = h.ordered }

put_says : (u w : World) (n : ℕ) (x y : Node) → nth n u.nodes ≡ Some x → w.nodes ≡ put_nth n y u.nodes → Grows u w → JournalSays w n y.journal → AllSay u → AllSay w
put_says u w n x y found nodes g k h m z f =
    each_put (λ i v. JournalSays w i v.journal) u.nodes n x y found k (λ i v other r. journal_on u w g i v.journal (h i v r)) m z (sym (ap (nth m) nodes) ∙ f)

step_says : (hosts : Hosts) (u : World) (n : ℕ) (x : Node) (b : Book) (e : Event) (now : ℕ) (landed : Bool) → StepPremises hosts u n x b e → JournalSays u n x.journal
    → JournalSays (counts u n x b e now landed) n (with_entry (plan b e now).entry landed x.journal)
step_says hosts u n x b e now landed p h = record {
  says = records_after (RecordSays w n) (plan b e now).entry landed x.journal (all_more (RecordSays u n) (RecordSays w n) x.journal (says_on u w (grows_counts u n x b e now landed p.found) n) h.says)
      (entry_of (RecordSays w n) b e now (standing landed (plan b e now).entry) (step b e now landed) moved (transaction_says hosts u n x b e now landed p)
      (λ d. leaf_deed_says u n x b e now landed (moment_of b now) d.old (standing landed (plan b e now).entry) d.change d.effects_are d.deed));
  ordered = ordered_after (plan b e now).entry landed x.journal h.ordered
      (entry_of (MayFollow x.journal) b e now (standing landed (plan b e now).entry) (step b e now landed) moved (transaction_follows hosts u n x b e now landed p h.says)
      (λ d. leaf_follows x.journal (moment_of b now) e d.old (standing landed (plan b e now).entry) d.change d.deed));
}
  where
    w : World
    w = counts u n x b e now landed

    moved : Moved b e now (standing landed (plan b e now).entry) (step b e now landed)
    moved = p.world.moves.moved b e now landed p.ready

start_says : (w : World) (n incarnation : ℕ) (rs : List Record) → JournalSays w n rs → JournalSays w n (rs ++ records.Start incarnation ∷ [])
start_says w n incarnation rs h = record {
  says = all_join (RecordSays w n) rs (records.Start incarnation ∷ []) h.says (tt, tt);
  ordered = ordered_push rs (records.Start incarnation) h.ordered (λ id i e. cc);
}

saying : (hosts : Hosts) → HaveOwnAddresses hosts → Law hosts
saying hosts distinct = record {
  Good = AllSay;
  Fine = λ w g n p. Unit {0};
  opens = λ n x found. subst (λ (y : Node). JournalSays (opening hosts) n y.journal) (sym (opening_node hosts n x found)) (record { says = tt; ordered = tt });
  steps = λ u n x b e now landed reached found up heard h. (
    put_says u (counts u n x b e now landed) n x (record x { book = Some (step b e now landed).book; journal = with_entry (plan b e now).entry landed x.journal }) found refl
        (grows_counts u n x b e now landed found) (step_says hosts u n x b e now landed (step_premises layers hosts u n x b e distinct reached found up heard) (h n x found)) h,
    out_unit (step b e now landed).outs,
  );
  posts = λ w h n p f m z g. journal_on w (with_post n p w) (grows_posts n (p ∷ []) w) m z.journal (h m z g);
  still_fine = λ w g n p q f h. tt;
  falls = λ u n x b reached found up h.
      subst AllSay (sym (gone_down n b u x found))
      (put_says u (record u { nodes = put_nth n (record x { book = None }) u.nodes; happened = u.happened ++ lost_in n b }) n x (record x { book = None }) found refl
      (subst (Grows u) (gone_down n b u x found) (grows_falls u n x b found))
      (journal_on u (record u { nodes = put_nth n (record x { book = None }) u.nodes; happened = u.happened ++ lost_in n b }) (subst (Grows u) (gone_down n b u x found) (grows_falls u n x b found)) n x.journal (h n x found)) h);
  rises = λ u n x stop reached found down little h.
      put_says u (record u { nodes = put_nth n (up_after (started (last_incarnation x.journal + 1) x) stop) u.nodes }) n x (up_after (started (last_incarnation x.journal + 1) x) stop) found refl
      (grows_rises u n x stop found)
      (start_says (record u { nodes = put_nth n (up_after (started (last_incarnation x.journal + 1) x) stop) u.nodes }) n (last_incarnation x.journal + 1) x.journal
      (journal_on u (record u { nodes = put_nth n (up_after (started (last_incarnation x.journal + 1) x) stop) u.nodes }) (grows_rises u n x stop found) n x.journal (h n x found))) h;
  waits = λ u n x clock reached found h.
      put_says u (record u { nodes = put_nth n (record x { clock = clock }) u.nodes }) n x (record x { clock = clock }) found refl (grows_waits u n x clock found)
      (journal_on u (record u { nodes = put_nth n (record x { clock = clock }) u.nodes }) (grows_waits u n x clock found) n x.journal (h n x found)) h;
}

pub journals_say : (hosts : Hosts) (w : World) → HaveOwnAddresses hosts → Reached hosts w → (n : ℕ) (x : Node) → nth n w.nodes ≡ Some x → JournalSays w n x.journal
unfolding saying
journals_say hosts w distinct reached = holds hosts (saying hosts distinct) w reached
