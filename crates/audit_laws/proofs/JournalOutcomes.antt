-- The outcomes that journals record are those of a world, each under its root.
use Rattle.std.specs.Prelude.{ℕ, List, [], ◌∷◌, ◌++◌, Some, Bool, true, false, not, ◌&&◌, ◌||◌, if◌then◌else◌, length, ◌≡◌, ◌⊎◌, refl}
use Rattle.std.specs.List.{list_any}
use Rattle.std.proofs.Common.{inl, inr, sym, subst, ap, ◌∙◌}
use Rattle.std.proofs.lemmas.List.{append_assoc}
use Rattle.at_base.specs.Numbers.{Numbers}
use Rattle.at_base.specs.declared.epr.Epr.{Epr}
use Rattle.at_base.specs.declared.record.Record.{Record}
use Rattle.at_base.specs.declared.record.Record.TheVariants as records
use Rattle.at_base.specs.declared.record.Seated.{Seated}
use Rattle.at_model.specs.Recovery.{is_ended, is_leaf_prepared, is_sub_committed, is_voted}
use Rattle.at_model.specs.World.{Hosts, Node, Who, World, nth}
use Rattle.model_laws.specs.Agreement.{HasAborted, HasCommitted, IsIn, below, itself}
use Rattle.model_laws.proofs.RecoveryLaws.{same_id, self_id}
use Rattle.agreement.specs.Sorts.{FitsRecord, Sort}
use Rattle.agreement.proofs.SeatedEntries.{in_either, one_of}
use Rattle.votes.proofs.Lives.{world_laws}
use Rattle.votes.proofs.SingleVotes.{same_node}
use Rattle.outcomes.proofs.Decisions.{IsCarriedOut, carried_out}
use Rattle.recorded_runs.specs.JournalRecords.{CommitStands, IsOrdered, JournalSays, RecordSays}
use Rattle.recorded_runs.proofs.RecordedEnds.{behind_vote, in_any, its_commit, journals_say}
use Rattle.audit_at.specs.Outcomes.{ended, is_leaf_aborted, is_leaf_committed, is_root_committed, leaf_outcomes, leaf_top, outcomes_at, outcomes_in, outcomes_under, root_outcomes, vote_outcomes}
use Rattle.audit_at.specs.Superiors.{Log, item_at, named, subordinates, top_of}
use Rattle.audit_at.specs.declared.item.Item.{Item}
use Rattle.audit_at.specs.declared.outcome.Outcome.{Outcome}
use Rattle.audit_at.specs.declared.subordinate.Subordinate.{Subordinate}
use Rattle.audit_laws.proofs.JournalItems.{Audits, Coordinates, HasTop, climbs, leaf_coordinates, own_item}

-- what an outcome says of an item
abbrev pub Ended : World → Who → Bool → Type 0
Ended w x true = HasCommitted w x
Ended w x false = HasAborted w x

pub record HasOutcome (hosts : Hosts) (w : World) (o : Outcome) : Type 0 where
  pub who : Who
  pub top : HasTop hosts w who o.top
  pub so : Ended w who o.committed

-- what is in a list that may be empty
unless : {A : Type 0} (x : A) (c : Bool) (xs : List A) → IsIn x (if c then [] else xs) → IsIn x xs
unless x true xs i = absurd i
unless x false xs i = i

only_if : {A : Type 0} (x y : A) (c : Bool) → IsIn x (if c then y ∷ [] else []) → (c ≡ true) × (x ≡ y)
only_if x y true (inl e) = (refl, e)
only_if x y true (inr i) = absurd i
only_if x y false i = absurd i

ended_in : (hosts : Hosts) (w : World) (o : Outcome) (top : Item) (committed aborted : Bool) (x : Who) → HasTop hosts w x top → (committed ≡ true → HasCommitted w x) → (aborted ≡ true → HasAborted w x)
    → IsIn o (ended top committed aborted) → HasOutcome hosts w o
ended_in hosts w o top committed aborted x t c a i =
    by_place (in_either o (if committed then record { top = top; committed = true } ∷ [] else []) (if aborted then record { top = top; committed = false } ∷ [] else []) i)
  where
    as_said : (p : Outcome) → o ≡ p → HasOutcome hosts w p → HasOutcome hosts w o
    as_said p e h = subst (HasOutcome hosts w) (sym e) h

    by_place : IsIn o (if committed then record { top = top; committed = true } ∷ [] else []) ⊎ IsIn o (if aborted then record { top = top; committed = false } ∷ [] else []) → HasOutcome hosts w o
    by_place (inl k) =
        let (e, is) = only_if o (record { top = top; committed = true }) committed k in
        as_said (record { top = top; committed = true }) is (record { who = x; top = t; so = c e })
    by_place (inr k) =
        let (e, is) = only_if o (record { top = top; committed = false }) aborted k in
        as_said (record { top = top; committed = false }) is (record { who = x; top = t; so = a e })

-- records that tests find
its_leaf_commit : (id : Numbers) (r : Record) → is_leaf_committed id r ≡ true → r ≡ records.LeafCommitted id
its_leaf_commit id (records.LeafCommitted i) e = ap (λ j. records.LeafCommitted j) (same_id i id e)
its_leaf_commit id other e = absurd cc

its_leaf_abort : (id : Numbers) (r : Record) → is_leaf_aborted id r ≡ true → r ≡ records.LeafAborted id
its_leaf_abort id (records.LeafAborted i) e = ap (λ j. records.LeafAborted j) (same_id i id e)
its_leaf_abort id other e = absurd cc

its_end : (id : Numbers) (r : Record) → is_ended id r ≡ true → r ≡ records.Ended id
its_end id (records.Ended i) e = ap (λ j. records.Ended j) (same_id i id e)
its_end id other e = absurd cc

there : (p : Record → Bool) (r : Record) (rs : List Record) → ((s : Record) → p s ≡ true → s ≡ r) → list_any p rs ≡ true → IsIn r rs
there p r rs f e = let (s, i, k) = in_any p rs e in subst (λ q. IsIn q rs) (f s k) i

any_of : (p : Record → Bool) (r : Record) (rs : List Record) → IsIn r rs → p r ≡ true → list_any p rs ≡ true
any_of p r [] i e = absurd i
any_of p r (s ∷ rs) (inl f) e = ap (λ c. c || list_any p rs) (sym (ap p f) ∙ e)
any_of p r (s ∷ rs) (inr i) e = either (p s) (any_of p r rs i e)
  where
    either : (c : Bool) → list_any p rs ≡ true → (c || list_any p rs) ≡ true
    either true k = refl
    either false k = k

-- a node's journal, of which these come last
record AtNode (hosts : Hosts) (w : World) (logs : List Log) (n : ℕ) (x : Node) : Type 0 where
  audits : Audits hosts w logs
  found : nth n w.nodes ≡ Some x

record LastOf (x : Node) (r : Record) (rest : List Record) : Type 0 where
  front : List Record
  is : x.journal ≡ front ++ r ∷ rest

in_rest : (x : Node) (r : Record) (rest : List Record) (s : Record) → LastOf x r rest → IsIn s rest → IsIn s x.journal
in_rest x r rest s l i = subst (IsIn s) (sym l.is) (behind l.front)
  where
    behind : (front : List Record) → IsIn s (front ++ r ∷ rest)
    behind [] = inr i
    behind (q ∷ front) = inr (behind front)

itself_in : (x : Node) (r : Record) (rest : List Record) → LastOf x r rest → IsIn r x.journal
itself_in x r rest l = subst (IsIn r) (sym l.is) (behind l.front)
  where
    behind : (front : List Record) → IsIn r (front ++ r ∷ rest)
    behind [] = inl refl
    behind (q ∷ front) = inr (behind front)

says_of : (hosts : Hosts) (w : World) (logs : List Log) (n : ℕ) (x : Node) (r : Record) → AtNode hosts w logs n x → IsIn r x.journal → RecordSays w n r
says_of hosts w logs n x r h i = one_of (RecordSays w n) x.journal r (journals_say hosts w h.audits.distinct h.audits.reached n x h.found).says i

-- a leaf
leaf_has : (hosts : Hosts) (w : World) (logs : List Log) (n : ℕ) (x : Node) (id : Numbers) (c : Epr) (key value : List ℕ) (rest : List Record) (o : Outcome) → AtNode hosts w logs n x
    → LastOf x (records.LeafPrepared id c key value) rest → IsIn o (leaf_outcomes (subordinates logs) (item_at x.base id) c rest) → HasOutcome hosts w o
leaf_has hosts w logs n x id c key value rest o h l i =
    ended_in hosts w o (leaf_top (subordinates logs) (item_at x.base id) (named c.address)) (list_any (is_leaf_committed id) rest) (list_any (is_leaf_aborted id) rest) (record { node = n; id = id }) top
    (λ e. says_of hosts w logs n x (records.LeafCommitted id) h
    (in_rest x (records.LeafPrepared id c key value) rest (records.LeafCommitted id) l (there (is_leaf_committed id) (records.LeafCommitted id) rest (its_leaf_commit id) e)))
    (λ e. says_of hosts w logs n x (records.LeafAborted id) h
    (in_rest x (records.LeafPrepared id c key value) rest (records.LeafAborted id) l (there (is_leaf_aborted id) (records.LeafAborted id) rest (its_leaf_abort id) e)))
    (unless o (list_any (is_leaf_prepared id) rest) _ i)
  where
    k : Coordinates hosts w c (record { node = n; id = id })
    k = leaf_coordinates hosts w h.audits.distinct h.audits.reached n x h.found id c key value (itself_in x (records.LeafPrepared id c key value) rest l)

    top : HasTop hosts w (record { node = n; id = id }) (leaf_top (subordinates logs) (item_at x.base id) (named c.address))
    top =
        subst (λ it. HasTop hosts w (record { node = n; id = id }) (leaf_top (subordinates logs) (item_at x.base id) it)) (sym k.names)
        (climbs hosts w logs h.audits (length (subordinates logs)) k.item (record { node = n; id = id }) k.by k.is (below k.by k.under.0 k.under.1 (itself refl)))

-- a subordinate
both_bools : (a b : Bool) → (not a && b) ≡ true → (a ≡ false) × (b ≡ true)
both_bools true b e = absurd cc
both_bools false b e = (refl, e)

sort_of : (hosts : Hosts) (w : World) (logs : List Log) (n : ℕ) (x : Node) (r : Record) → (h : AtNode hosts w logs n x) → IsIn r x.journal
    → FitsRecord ((world_laws hosts w h.audits.distinct h.audits.reached).sorted.sort n) r
sort_of hosts w logs n x r h i =
    one_of (FitsRecord ((world_laws hosts w h.audits.distinct h.audits.reached).sorted.sort n)) x.journal r ((world_laws hosts w h.audits.distinct h.audits.reached).sorted.nodes n x h.found).journal i

two_sorts : (S : Sort) → S ≡ Sort.Subordinate → S ≡ Sort.Root → ⊥
two_sorts S e f = let g : Sort.Subordinate ≡ Sort.Root = sym e ∙ f in cc

vote_aborts : (hosts : Hosts) (w : World) (logs : List Log) (n : ℕ) (x : Node) (id : Numbers) (c : Epr) (seats : List Seated) (rest : List Record) → AtNode hosts w logs n x
    → LastOf x (records.Voted id c seats) rest → list_any (is_sub_committed id) rest ≡ false → list_any (is_ended id) rest ≡ true → HasAborted w (record { node = n; id = id })
vote_aborts hosts w logs n x id c seats rest h l none over =
    by_end (says_of hosts w logs n x (records.Ended id) h (in_rest x (records.Voted id c seats) rest (records.Ended id) l (there (is_ended id) (records.Ended id) rest (its_end id) over)))
  where
    said : JournalSays w n x.journal
    said = journals_say hosts w h.audits.distinct h.audits.reached n x h.found

    differ : (b : Bool) → b ≡ false → b ≡ true → ⊥
    differ b e f = let g : false ≡ true = sym e ∙ f in cc

    by_end : HasAborted w (record { node = n; id = id }) ⊎ CommitStands w n id → HasAborted w (record { node = n; id = id })
    by_end (inl a) = a
    by_end (inr (inl (y, found, i))) =
        let here : IsIn (records.SubCommitted id) (l.front ++ records.Voted id c seats ∷ rest) =
        subst (IsIn (records.SubCommitted id)) (ap (λ (z : Node). z.journal) (same_node y x (nth n w.nodes) found h.found) ∙ l.is) i in
        let k : IsIn (records.SubCommitted id) rest = behind_vote l.front (records.Voted id c seats) rest id (subst IsOrdered l.is said.ordered) (self_id id) here in
        absurd (differ (list_any (is_sub_committed id) rest) none (any_of (is_sub_committed id) (records.SubCommitted id) rest k (self_id id)))
    by_end (inr (inr (named_seats, (y, found, i)))) =
        absurd (two_sorts ((world_laws hosts w h.audits.distinct h.audits.reached).sorted.sort n id)
        (sort_of hosts w logs n x (records.Voted id c seats) h (itself_in x (records.Voted id c seats) rest l))
        (sort_of hosts w logs n x (records.Decided id named_seats) h (subst (λ (z : Node). IsIn (records.Decided id named_seats) z.journal) (same_node y x (nth n w.nodes) found h.found) i)))

vote_has : (hosts : Hosts) (w : World) (logs : List Log) (n : ℕ) (x : Node) (id : Numbers) (c : Epr) (seats : List Seated) (rest : List Record) (o : Outcome) → AtNode hosts w logs n x
    → LastOf x (records.Voted id c seats) rest → IsIn o (vote_outcomes (subordinates logs) (item_at x.base id) rest) → HasOutcome hosts w o
vote_has hosts w logs n x id c seats rest o h l i =
    ended_in hosts w o (top_of (subordinates logs) (item_at x.base id)) (list_any (is_sub_committed id) rest) (not (list_any (is_sub_committed id) rest) && list_any (is_ended id) rest) (record { node = n; id = id })
    (climbs hosts w logs h.audits (length (subordinates logs)) (item_at x.base id) (record { node = n; id = id }) (record { node = n; id = id })
    (own_item hosts w h.audits.distinct h.audits.reached n x id h.found) (itself refl))
    (λ e. says_of hosts w logs n x (records.SubCommitted id) h
    (in_rest x (records.Voted id c seats) rest (records.SubCommitted id) l (there (is_sub_committed id) (records.SubCommitted id) rest (its_commit id) e)))
    (λ e. let (none, over) = both_bools (list_any (is_sub_committed id) rest) (list_any (is_ended id) rest) e in vote_aborts hosts w logs n x id c seats rest h l none over)
    (unless o (list_any (is_voted id) rest) _ i)

-- a root
root_has : (hosts : Hosts) (w : World) (logs : List Log) (n : ℕ) (x : Node) (id : Numbers) (rest : List Record) (o : Outcome) → AtNode hosts w logs n x → HasCommitted w (record { node = n; id = id })
    → IsIn o (root_outcomes (subordinates logs) (item_at x.base id) rest) → HasOutcome hosts w o
root_has hosts w logs n x id rest o h c i =
    ended_in hosts w o (top_of (subordinates logs) (item_at x.base id)) true false (record { node = n; id = id })
    (climbs hosts w logs h.audits (length (subordinates logs)) (item_at x.base id) (record { node = n; id = id }) (record { node = n; id = id })
    (own_item hosts w h.audits.distinct h.audits.reached n x id h.found) (itself refl))
    (λ e. c) (λ e. absurd cc) (unless o (list_any (is_root_committed id) rest) _ i)

carried : (hosts : Hosts) (w : World) (logs : List Log) (n : ℕ) (x : Node) (r : Record) → AtNode hosts w logs n x → IsIn r x.journal → IsCarriedOut w n r
carried hosts w logs n x r h i = carried_out hosts w h.audits.distinct h.audits.reached n x h.found r i

one_has : (hosts : Hosts) (w : World) (logs : List Log) (n : ℕ) (x : Node) (r : Record) (rest : List Record) (o : Outcome) → AtNode hosts w logs n x → LastOf x r rest
    → IsIn o (outcomes_at (subordinates logs) x.base r rest) → HasOutcome hosts w o
one_has hosts w logs n x (records.LeafPrepared id c key value) rest o h l i = leaf_has hosts w logs n x id c key value rest o h l i
one_has hosts w logs n x (records.Voted id c seats) rest o h l i = vote_has hosts w logs n x id c seats rest o h l i
one_has hosts w logs n x (records.Decided id seats) rest o h l i =
    root_has hosts w logs n x id rest o h (inl (carried hosts w logs n x (records.Decided id seats) h (itself_in x (records.Decided id seats) rest l))) i
one_has hosts w logs n x (records.Done id) rest o h l i = root_has hosts w logs n x id rest o h (inl (carried hosts w logs n x (records.Done id) h (itself_in x (records.Done id) rest l))) i
one_has hosts w logs n x (records.Start incarnation) rest o h l i = absurd i
one_has hosts w logs n x (records.LeafCommitted id) rest o h l i = absurd i
one_has hosts w logs n x (records.LeafAborted id) rest o h l i = absurd i
one_has hosts w logs n x (records.SubCommitted id) rest o h l i = absurd i
one_has hosts w logs n x (records.Ended id) rest o h l i = absurd i

-- all of a journal
journal_has : (hosts : Hosts) (w : World) (logs : List Log) (n : ℕ) (x : Node) (front rs : List Record) (o : Outcome) → AtNode hosts w logs n x → x.journal ≡ front ++ rs
    → IsIn o (outcomes_in (subordinates logs) x.base rs) → HasOutcome hosts w o
journal_has hosts w logs n x front [] o h is i = absurd i
journal_has hosts w logs n x front (r ∷ rest) o h is i = by_place (journal_has hosts w logs n x (front ++ r ∷ []) rest o h (is ∙ sym (append_assoc front (r ∷ []) rest))) (in_either o (outcomes_at (subordinates logs) x.base r rest) (outcomes_in (subordinates logs) x.base rest) i)
  where
    by_place : (IsIn o (outcomes_in (subordinates logs) x.base rest) → HasOutcome hosts w o) → IsIn o (outcomes_at (subordinates logs) x.base r rest) ⊎ IsIn o (outcomes_in (subordinates logs) x.base rest)
        → HasOutcome hosts w o
    by_place later (inl k) = one_has hosts w logs n x r rest o h (record { front = front; is = is }) k
    by_place later (inr k) = later k

-- of all journals
record FoundIn (subs : List Subordinate) (logs : List Log) (o : Outcome) : Type 0 where
  log : Log
  among : IsIn log logs
  there : IsIn o (outcomes_in subs log.base log.records)

found_in : (subs : List Subordinate) (logs : List Log) (o : Outcome) → IsIn o (outcomes_under subs logs) → FoundIn subs logs o
found_in subs [] o i = absurd i
found_in subs (log ∷ logs) o i = by_place (found_in subs logs o) (in_either o (outcomes_in subs log.base log.records) (outcomes_under subs logs) i)
  where
    by_place : (IsIn o (outcomes_under subs logs) → FoundIn subs logs o) → IsIn o (outcomes_in subs log.base log.records) ⊎ IsIn o (outcomes_under subs logs) → FoundIn subs (log ∷ logs) o
    by_place later (inl k) = record { log = log; among = inl refl; there = k }
    by_place later (inr k) = let f : FoundIn subs logs o = later k in record { log = f.log; among = inr f.among; there = f.there }

pub has_outcome : (hosts : Hosts) (w : World) (logs : List Log) (o : Outcome) → Audits hosts w logs → IsIn o (outcomes_under (subordinates logs) logs) → HasOutcome hosts w o
has_outcome hosts w logs o a i =
    let f : FoundIn (subordinates logs) logs o = found_in (subordinates logs) logs o i in
    let (n, x, found, is) = a.journals f.log f.among in
    journal_has hosts w logs n x [] x.journal o (record { audits = a; found = found }) refl (subst (λ (l : Log). IsIn o (outcomes_in (subordinates logs) l.base l.records)) is f.there)
