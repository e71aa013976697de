-- The decisions that are live, one record after the other.
use Rattle.std.proofs.Common.{List, [], ◌∷◌, ◌≡◌, ◌++◌, ◌||◌, Bool, true, false, not, refl, sym, ◌∙◌, ap, if◌then◌else◌}
use Rattle.std.specs.List.{filter, list_any}
use Rattle.std.proofs.lemmas.List.{append-nil}
use Rattle.at_base.specs.Numbers.{Numbers}
use Rattle.at_base.specs.declared.epr.Epr.{Epr}
use Rattle.at_base.specs.declared.record.Seated.{Seated}
use Rattle.at_base.specs.declared.record.Record.{Record}
use Rattle.at_base.specs.declared.record.Record.TheVariants as records
use Rattle.at_model.specs.Recovery.{ends_leaf, ends_transaction, is_sub_committed, kept, live, no_seats}
use Rattle.decision_log.specs.KeptRecords.{decided_in}
use Rattle.decision_log.specs.Folds.{decided_after, newly_decided, still_decided}
use Rattle.decision_log.proofs.FurtherRecords.{IsNoCommit, any_push, left, live_push}

decided_join : (xs ys : List Record) → decided_in (xs ++ ys) ≡ decided_in xs ++ decided_in ys
decided_join [] ys = refl
decided_join (records.Start n ∷ xs) ys = decided_join xs ys
decided_join (records.LeafPrepared i c key value ∷ xs) ys = decided_join xs ys
decided_join (records.LeafCommitted i ∷ xs) ys = decided_join xs ys
decided_join (records.LeafAborted i ∷ xs) ys = decided_join xs ys
decided_join (records.Voted i s ss ∷ xs) ys = decided_join xs ys
decided_join (records.Decided i ss ∷ xs) ys = ap (λ z. i ∷ z) (decided_join xs ys)
decided_join (records.SubCommitted i ∷ xs) ys = decided_join xs ys
decided_join (records.Ended i ∷ xs) ys = decided_join xs ys
decided_join (records.Done i ∷ xs) ys = decided_join xs ys

-- one that is no decision, there or not
unheard : (b : Bool) (x : Record) (xs : List Record) (ids : List Numbers) → decided_in (x ∷ xs) ≡ decided_in xs → decided_in xs ≡ ids → decided_in (if b then x ∷ xs else xs) ≡ ids
unheard true x xs ids e h = e ∙ h
unheard false x xs ids e h = h

decided_left : (r : Record) (xs : List Record) → decided_in (filter (left r) xs) ≡ still_decided r (decided_in xs)
decided_left r [] = refl
decided_left r (records.Start n ∷ xs) = unheard (left r (records.Start n)) (records.Start n) (filter (left r) xs) _ refl (decided_left r xs)
decided_left r (records.LeafPrepared i c key value ∷ xs) = unheard (left r (records.LeafPrepared i c key value)) (records.LeafPrepared i c key value) (filter (left r) xs) _ refl (decided_left r xs)
decided_left r (records.LeafCommitted i ∷ xs) = unheard (left r (records.LeafCommitted i)) (records.LeafCommitted i) (filter (left r) xs) _ refl (decided_left r xs)
decided_left r (records.LeafAborted i ∷ xs) = unheard (left r (records.LeafAborted i)) (records.LeafAborted i) (filter (left r) xs) _ refl (decided_left r xs)
decided_left r (records.Voted i s ss ∷ xs) = unheard (left r (records.Voted i s ss)) (records.Voted i s ss) (filter (left r) xs) _ refl (decided_left r xs)
decided_left r (records.Decided i ss ∷ xs) = by_case (not (ends_transaction i r)) (decided_left r xs) where
  by_case : (b : Bool) → decided_in (filter (left r) xs) ≡ still_decided r (decided_in xs)
      → decided_in (if b then records.Decided i ss ∷ filter (left r) xs else filter (left r) xs) ≡ (if b then i ∷ still_decided r (decided_in xs) else still_decided r (decided_in xs))
  by_case true h = ap (λ z. i ∷ z) h
  by_case false h = h
decided_left r (records.SubCommitted i ∷ xs) = unheard (left r (records.SubCommitted i)) (records.SubCommitted i) (filter (left r) xs) _ refl (decided_left r xs)
decided_left r (records.Ended i ∷ xs) = unheard (left r (records.Ended i)) (records.Ended i) (filter (left r) xs) _ refl (decided_left r xs)
decided_left r (records.Done i ∷ xs) = unheard (left r (records.Done i)) (records.Done i) (filter (left r) xs) _ refl (decided_left r xs)

decided_kept : (r : Record) → decided_in (kept r []) ≡ newly_decided r
decided_kept (records.Start n) = refl
decided_kept (records.LeafPrepared i c key value) = refl
decided_kept (records.LeafCommitted i) = refl
decided_kept (records.LeafAborted i) = refl
decided_kept (records.Voted i s ss) = refl
decided_kept (records.Decided i []) = refl
decided_kept (records.Decided i (s ∷ ss)) = refl
decided_kept (records.SubCommitted i) = refl
decided_kept (records.Ended i) = refl
decided_kept (records.Done i) = refl

decided_other : (rs : List Record) (r : Record) → IsNoCommit r → decided_in (live (rs ++ r ∷ [])) ≡ decided_after r (decided_in (live rs))
decided_other rs r n =
    ap decided_in (live_push rs r n) ∙ decided_join (filter (left r) (live rs)) (kept r []) ∙ (λ i. decided_left r (live rs) i ++ decided_kept r i)

-- a SubCommitted decides nothing and ends nothing
leaf_unheard : (b c : Bool) (x : Record) (xs ys : List Record) → ((zs : List Record) → decided_in (x ∷ zs) ≡ decided_in zs) → decided_in xs ≡ decided_in ys
    → decided_in ((if b then [] else x ∷ []) ++ xs) ≡ decided_in ((if c then [] else x ∷ []) ++ ys)
leaf_unheard true true x xs ys f h = h
leaf_unheard true false x xs ys f h = h ∙ sym (f ys)
leaf_unheard false true x xs ys f h = f xs ∙ h
leaf_unheard false false x xs ys f h = f xs ∙ h ∙ sym (f ys)

vote_unheard : (a b : Bool) (i : Numbers) (s : Epr) (ss : List Seated) (xs ids : List Record) → decided_in xs ≡ decided_in ids
    → decided_in ((if a then [] else records.Voted i s ss ∷ (if b then records.SubCommitted i ∷ [] else [])) ++ xs) ≡ decided_in ids
vote_unheard true b i s ss xs ids h = h
vote_unheard false true i s ss xs ids h = h
vote_unheard false false i s ss xs ids h = h

or_none : (b : Bool) → (b || false) ≡ b
or_none true = refl
or_none false = refl

decision_same : (b : Bool) (i : Numbers) (ss : List Seated) (xs ys : List Record) → decided_in xs ≡ decided_in ys
    → decided_in ((if b then [] else records.Decided i ss ∷ []) ++ xs) ≡ decided_in ((if b then [] else records.Decided i ss ∷ []) ++ ys)
decision_same true i ss xs ys h = h
decision_same false i ss xs ys h = ap (λ z. i ∷ z) h

commit_unheard : (id : Numbers) (rs : List Record) → decided_in (live (rs ++ records.SubCommitted id ∷ [])) ≡ decided_in (live rs)
commit_unheard id [] = refl
commit_unheard id (records.Start n ∷ rs) = commit_unheard id rs
commit_unheard id (records.LeafPrepared i c key value ∷ rs) =
    leaf_unheard (list_any (ends_leaf i) (rs ++ records.SubCommitted id ∷ [])) (list_any (ends_leaf i) rs) (records.LeafPrepared i c key value) _ _ (λ zs. refl) (commit_unheard id rs)
commit_unheard id (records.LeafCommitted i ∷ rs) = commit_unheard id rs
commit_unheard id (records.LeafAborted i ∷ rs) = commit_unheard id rs
commit_unheard id (records.Voted i s ss ∷ rs) =
    vote_unheard (list_any (ends_transaction i) (rs ++ records.SubCommitted id ∷ [])) (list_any (is_sub_committed i) (rs ++ records.SubCommitted id ∷ [])) i s ss
    (live (rs ++ records.SubCommitted id ∷ [])) (live rs) (commit_unheard id rs)
    ∙ sym (vote_unheard (list_any (ends_transaction i) rs) (list_any (is_sub_committed i) rs) i s ss (live rs) (live rs) refl)
commit_unheard id (records.Decided i ss ∷ rs) =
    ap (λ b. decided_in ((if no_seats ss || b then [] else records.Decided i ss ∷ []) ++ live (rs ++ records.SubCommitted id ∷ [])))
    (any_push (ends_transaction i) rs (records.SubCommitted id) ∙ or_none (list_any (ends_transaction i) rs))
    ∙ decision_same (no_seats ss || list_any (ends_transaction i) rs) i ss (live (rs ++ records.SubCommitted id ∷ [])) (live rs) (commit_unheard id rs)
commit_unheard id (records.SubCommitted i ∷ rs) = commit_unheard id rs
commit_unheard id (records.Ended i ∷ rs) = commit_unheard id rs
commit_unheard id (records.Done i ∷ rs) = commit_unheard id rs

none_ended : (id : Numbers) (ids : List Numbers) → still_decided (records.SubCommitted id) ids ≡ ids
none_ended id [] = refl
none_ended id (i ∷ ids) = ap (λ z. i ∷ z) (none_ended id ids)

pub decided_push : (rs : List Record) (r : Record) → decided_in (live (rs ++ r ∷ [])) ≡ decided_after r (decided_in (live rs))
decided_push rs (records.Start n) = decided_other rs (records.Start n) (λ id. refl)
decided_push rs (records.LeafPrepared i c key value) = decided_other rs (records.LeafPrepared i c key value) (λ id. refl)
decided_push rs (records.LeafCommitted i) = decided_other rs (records.LeafCommitted i) (λ id. refl)
decided_push rs (records.LeafAborted i) = decided_other rs (records.LeafAborted i) (λ id. refl)
decided_push rs (records.Voted i s ss) = decided_other rs (records.Voted i s ss) (λ id. refl)
decided_push rs (records.Decided i ss) = decided_other rs (records.Decided i ss) (λ id. refl)
decided_push rs (records.SubCommitted id) = commit_unheard id rs ∙ sym (append-nil (still_decided (records.SubCommitted id) (decided_in (live rs))) ∙ none_ended id (decided_in (live rs)))
decided_push rs (records.Ended i) = decided_other rs (records.Ended i) (λ id. refl)
decided_push rs (records.Done i) = decided_other rs (records.Done i) (λ id. refl)
