-- What all records make of a Kept is what each makes of it in turn.
use Rattle.std.proofs.Common.{List, [], ◌∷◌, ◌≡◌, ◌++◌, ◌||◌, ◌&&◌, Bool, true, false, not, refl, sym, ◌∙◌, ap, if◌then◌else◌, map}
use Rattle.std.specs.List.{AllByRecursion, filter, list_any}
use Rattle.std.proofs.lemmas.List.{append-nil}
use Rattle.at_base.specs.Numbers.{Numbers}
use Rattle.at_base.specs.declared.record.Record.{Record}
use Rattle.at_base.specs.declared.record.Record.TheVariants as records
use Rattle.at_model.specs.Recovery.{ends_leaf, ends_transaction, in_order, is_sub_committed, kept, live, no_seats}
use Rattle.model_laws.specs.Compactions.{record_id}
use Rattle.decision_log.specs.Tokens.{Token, about, token_of}
use Rattle.decision_log.specs.KeptRecords.{GrowsByOne, freed, insert_last, is_commit_of, is_vote_of, live_after, tokens_of}
use Rattle.decision_log.proofs.Order.{any_in_order, in_order_left, in_order_push, order_agrees}
use Rattle.decision_log.proofs.FurtherRecords.{IsNoCommit, last_push, left, live_push, outcomes_push}
use Rattle.decision_log.proofs.SubCommits.{commit_push}

-- no live record is a Start
agree_if : (b : Bool) (x : Record) (xs : List Record) → record_id x ≡ about x → AllByRecursion (λ y. record_id y ≡ about y) xs → AllByRecursion (λ y. record_id y ≡ about y) ((if b then [] else x ∷ []) ++ xs)
agree_if true x xs h k = k
agree_if false x xs h k = (h, k)

pub keys_agree : (rs : List Record) → AllByRecursion (λ x. record_id x ≡ about x) (live rs)
keys_agree [] = tt
keys_agree (records.Start n ∷ rest) = keys_agree rest
keys_agree (records.LeafPrepared i c key value ∷ rest) = agree_if (list_any (ends_leaf i) rest) (records.LeafPrepared i c key value) (live rest) refl (keys_agree rest)
keys_agree (records.LeafCommitted i ∷ rest) = keys_agree rest
keys_agree (records.LeafAborted i ∷ rest) = keys_agree rest
keys_agree (records.Voted i s ss ∷ rest) = both (list_any (ends_transaction i) rest) (list_any (is_sub_committed i) rest) (keys_agree rest) where
  both : (b c : Bool) → AllByRecursion (λ y. record_id y ≡ about y) (live rest) → AllByRecursion (λ y. record_id y ≡ about y) ((if b then [] else records.Voted i s ss ∷ (if c then records.SubCommitted i ∷ [] else [])) ++ live rest)
  both true c h = h
  both false true h = (refl, (refl, h))
  both false false h = (refl, h)
keys_agree (records.Decided i ss ∷ rest) = agree_if (no_seats ss || list_any (ends_transaction i) rest) (records.Decided i ss) (live rest) refl (keys_agree rest)
keys_agree (records.SubCommitted i ∷ rest) = keys_agree rest
keys_agree (records.Ended i ∷ rest) = keys_agree rest
keys_agree (records.Done i ∷ rest) = keys_agree rest

pub one_order : (rs : List Record) → in_order record_id (live rs) ≡ in_order about (live rs)
one_order rs = order_agrees record_id about (live rs) (keys_agree rs)

any_map : (p : Token → Bool) (xs : List Record) → list_any p (map token_of xs) ≡ list_any (λ x. p (token_of x)) xs
any_map p [] = refl
any_map p (x ∷ xs) = ap (λ b. p (token_of x) || b) (any_map p xs)

any_token : (p : Token → Bool) (xs : List Record) → list_any p (tokens_of (in_order about xs)) ≡ list_any (λ x. p (token_of x)) xs
any_token p xs = any_map p (in_order about xs) ∙ any_in_order about (λ x. p (token_of x)) xs

-- a SubCommitted ends nothing
commit_frees : (id : Numbers) (x : Record) → left (records.SubCommitted id) x ≡ true
commit_frees id (records.Start n) = refl
commit_frees id (records.LeafPrepared i c key value) = refl
commit_frees id (records.LeafCommitted i) = refl
commit_frees id (records.LeafAborted i) = refl
commit_frees id (records.Voted i s ss) = refl
commit_frees id (records.Decided i ss) = refl
commit_frees id (records.SubCommitted i) = refl
commit_frees id (records.Ended i) = refl
commit_frees id (records.Done i) = refl

commit_leaves : (id : Numbers) (xs : List Record) → freed (records.SubCommitted id) xs ≡ xs
commit_leaves id [] = refl
commit_leaves id (x ∷ xs) = λ i. if commit_frees id x i then x ∷ commit_leaves id xs i else commit_leaves id xs i

-- a record that is kept, where nothing follows it
promised : (rs : List Record) (r : Record) → IsNoCommit r → kept r [] ≡ r ∷ [] → insert_last about r (freed r (in_order about (live rs))) ≡ in_order about (live (rs ++ r ∷ []))
promised rs r n k =
    ap (insert_last about r) (sym (in_order_left about (left r) (live rs)))
    ∙ sym (in_order_push about (filter (left r) (live rs)) r)
    ∙ ap (λ z. in_order about (filter (left r) (live rs) ++ z)) (sym k)
    ∙ ap (in_order about) (sym (live_push rs r n))

unpromised : (rs : List Record) (r : Record) → IsNoCommit r → kept r [] ≡ [] → freed r (in_order about (live rs)) ≡ in_order about (live (rs ++ r ∷ []))
unpromised rs r n k =
    sym (in_order_left about (left r) (live rs))
    ∙ ap (in_order about) (sym (append-nil (filter (left r) (live rs))))
    ∙ ap (λ z. in_order about (filter (left r) (live rs) ++ z)) (sym k)
    ∙ ap (in_order about) (sym (live_push rs r n))

live_one : (rs : List Record) (r : Record) → live_after r (in_order about (live rs)) ≡ in_order about (live (rs ++ r ∷ []))
live_one rs (records.Start n) = unpromised rs (records.Start n) (λ id. refl) refl
live_one rs (records.LeafPrepared i c key value) = promised rs (records.LeafPrepared i c key value) (λ id. refl) refl
live_one rs (records.LeafCommitted i) = unpromised rs (records.LeafCommitted i) (λ id. refl) refl
live_one rs (records.LeafAborted i) = unpromised rs (records.LeafAborted i) (λ id. refl) refl
live_one rs (records.Voted i s ss) = promised rs (records.Voted i s ss) (λ id. refl) refl
live_one rs (records.Decided i []) = unpromised rs (records.Decided i []) (λ id. refl) refl
live_one rs (records.Decided i (s ∷ ss)) = promised rs (records.Decided i (s ∷ ss)) (λ id. refl) refl
live_one rs (records.SubCommitted id) =
    let l = in_order about (live rs) in
    (λ i. if any_token (is_vote_of id) (live rs) i && not (any_token (is_commit_of id) (live rs) i)
    then insert_last about (records.SubCommitted id) (commit_leaves id (in_order about (live rs)) i) else commit_leaves id (in_order about (live rs)) i)
    ∙ sym (commit_push id rs)
live_one rs (records.Ended i) = unpromised rs (records.Ended i) (λ id. refl) refl
live_one rs (records.Done i) = unpromised rs (records.Done i) (λ id. refl) refl

pub live_grows : (rs : List Record) (r : Record) → live_after r (in_order record_id (live rs)) ≡ in_order record_id (live (rs ++ r ∷ []))
live_grows rs r = ap (live_after r) (one_order rs) ∙ live_one rs r ∙ sym (one_order (rs ++ r ∷ []))

pub grows_by_one : GrowsByOne
grows_by_one rs r = λ i. record {
  live = live_grows rs r i;
  start = sym (last_push rs r) i;
  done = sym (outcomes_push [] rs r) i;
}
