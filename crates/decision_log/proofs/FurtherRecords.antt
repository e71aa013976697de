-- One record more: what it ends goes, and what it promises stands behind the others.
use Rattle.std.proofs.Common.{List, [], ◌∷◌, ◌≡◌, ◌++◌, ◌||◌, Bool, true, false, not, refl, sym, ◌∙◌, ap, if◌then◌else◌, max, arith}
use Rattle.std.specs.List.{filter, list_any}
use Rattle.std.proofs.lemmas.List.{append_assoc, append-nil}
use Rattle.std.proofs.lemmas.List.Folds.{list_any-append}
use Rattle.at_base.specs.Numbers.{Numbers}
use Rattle.at_base.specs.declared.epr.Epr.{Epr}
use Rattle.at_base.specs.declared.record.Seated.{Seated}
use Rattle.at_base.specs.declared.record.Record.{Record}
use Rattle.at_base.specs.declared.record.Record.TheVariants as records
use Rattle.at_model.specs.Outcomes.{outcomes_after, with_outcome}
use Rattle.at_model.specs.Recovery.{ends_leaf, ends_transaction, incarnation_of, is_sub_committed, kept, last_incarnation, live, no_seats}
use Rattle.decision_log.specs.Tokens.{token_of}
use Rattle.decision_log.specs.KeptRecords.{frees}

-- what is left of records beside one more
abbrev pub left : Record → Record → Bool
left r x = not (frees r (token_of x))

pub any_push : (p : Record → Bool) (rs : List Record) (r : Record) → list_any p (rs ++ r ∷ []) ≡ (list_any p rs || p r)
any_push p rs r = list_any-append p rs (r ∷ []) ∙ ap (λ b. list_any p rs || b) (or_none (p r)) where
  or_none : (b : Bool) → (b || false) ≡ b
  or_none true = refl
  or_none false = refl

pub filter_join : (p : Record → Bool) (xs ys : List Record) → filter p (xs ++ ys) ≡ filter p xs ++ filter p ys
filter_join p [] ys = refl
filter_join p (x ∷ xs) ys = by_case (p x) (filter_join p xs ys) where
  by_case : (b : Bool) → filter p (xs ++ ys) ≡ filter p xs ++ filter p ys → (if b then x ∷ filter p (xs ++ ys) else filter p (xs ++ ys)) ≡ (if b then x ∷ filter p xs else filter p xs) ++ filter p ys
  by_case true ih = ap (λ z. x ∷ z) ih
  by_case false ih = ih

-- a record that is no SubCommitted
abbrev pub IsNoCommit : Record → Type 0
IsNoCommit r = (id : Numbers) → is_sub_committed id r ≡ false

kept_promise : (a b : Bool) (x : Record) → (if a || b then [] else x ∷ []) ≡ (if not b then (if a then [] else x ∷ []) else (if a then [] else []))
kept_promise true true x = refl
kept_promise true false x = refl
kept_promise false true x = refl
kept_promise false false x = refl

one_left : (r x : Record) (a b : Bool) → frees r (token_of x) ≡ b → (if a || b then [] else x ∷ []) ≡ filter (left r) (if a then [] else x ∷ [])
one_left r x true b e = refl
one_left r x false true e = ap (λ z. if not z then x ∷ [] else []) (sym e)
one_left r x false false e = ap (λ z. if not z then x ∷ [] else []) (sym e)

vote_left : (r : Record) (id : Numbers) (s : Epr) (ss : List Seated) (a b c : Bool) → ends_transaction id r ≡ b
    → (if a || b then [] else records.Voted id s ss ∷ (if c || false then records.SubCommitted id ∷ [] else []))
    ≡ filter (left r) (if a then [] else records.Voted id s ss ∷ (if c then records.SubCommitted id ∷ [] else []))
vote_left r id s ss true b c e = refl
vote_left r id s ss false b true e = by_case b e where
  by_case : (b : Bool) → ends_transaction id r ≡ b → (if b then [] else records.Voted id s ss ∷ records.SubCommitted id ∷ []) ≡ filter (left r) (records.Voted id s ss ∷ records.SubCommitted id ∷ [])
  by_case true e = λ i. if not (sym e i) then records.Voted id s ss ∷ (if not (sym e i) then records.SubCommitted id ∷ [] else []) else (if not (sym e i) then records.SubCommitted id ∷ [] else [])
  by_case false e = λ i. if not (sym e i) then records.Voted id s ss ∷ (if not (sym e i) then records.SubCommitted id ∷ [] else []) else (if not (sym e i) then records.SubCommitted id ∷ [] else [])
vote_left r id s ss false true false e = ap (λ z. if not z then records.Voted id s ss ∷ [] else []) (sym e)
vote_left r id s ss false false false e = ap (λ z. if not z then records.Voted id s ss ∷ [] else []) (sym e)

decision_left : (r : Record) (id : Numbers) (ss : List Seated) (n a b : Bool) → ends_transaction id r ≡ b
    → (if n || (a || b) then [] else records.Decided id ss ∷ []) ≡ filter (left r) (if n || a then [] else records.Decided id ss ∷ [])
decision_left r id ss true a b e = refl
decision_left r id ss false a b e = one_left r (records.Decided id ss) a b e

kept_left : (x : Record) (rest : List Record) (r : Record) → IsNoCommit r → kept x (rest ++ r ∷ []) ≡ filter (left r) (kept x rest)
kept_left (records.Start n) rest r h = refl
kept_left (records.LeafPrepared id c key value) rest r h =
    ap (λ b. if b then [] else records.LeafPrepared id c key value ∷ []) (any_push (ends_leaf id) rest r)
    ∙ one_left r (records.LeafPrepared id c key value) (list_any (ends_leaf id) rest) (ends_leaf id r) refl
kept_left (records.LeafCommitted id) rest r h = refl
kept_left (records.LeafAborted id) rest r h = refl
kept_left (records.Voted id s ss) rest r h =
    (λ i. if any_push (ends_transaction id) rest r i then [] else records.Voted id s ss ∷ (if (any_push (is_sub_committed id) rest r ∙ ap (λ b. list_any (is_sub_committed id) rest || b) (h id)) i then records.SubCommitted id ∷ [] else []))
    ∙ vote_left r id s ss (list_any (ends_transaction id) rest) (ends_transaction id r) (list_any (is_sub_committed id) rest) refl
kept_left (records.Decided id ss) rest r h =
    ap (λ b. if no_seats ss || b then [] else records.Decided id ss ∷ []) (any_push (ends_transaction id) rest r)
    ∙ decision_left r id ss (no_seats ss) (list_any (ends_transaction id) rest) (ends_transaction id r) refl
kept_left (records.SubCommitted id) rest r h = refl
kept_left (records.Ended id) rest r h = refl
kept_left (records.Done id) rest r h = refl

pub live_push : (rs : List Record) (r : Record) → IsNoCommit r → live (rs ++ r ∷ []) ≡ filter (left r) (live rs) ++ kept r []
live_push [] r h = append-nil (kept r [])
live_push (x ∷ rs) r h =
    (λ i. kept_left x rs r h i ++ live_push rs r h i)
    ∙ sym (append_assoc (filter (left r) (kept x rs)) (filter (left r) (live rs)) (kept r []))
    ∙ ap (λ z. z ++ kept r []) (sym (filter_join (left r) (kept x rs) (live rs)))

-- the counts
pub last_push : (rs : List Record) (r : Record) → last_incarnation (rs ++ r ∷ []) ≡ max (incarnation_of r) (last_incarnation rs)
last_push [] r = refl
last_push (x ∷ rs) r = let ih = last_push rs r in omega (arith, ih)

pub outcomes_push : (ids : List Numbers) (rs : List Record) (r : Record) → outcomes_after ids (rs ++ r ∷ []) ≡ with_outcome r (outcomes_after ids rs)
outcomes_push ids [] r = refl
outcomes_push ids (x ∷ rs) r = outcomes_push (with_outcome x ids) rs r
