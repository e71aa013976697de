-- Each deed of a transaction keeps what its phase, its records and its effects say of it.
use Rattle.std.specs.Prelude.{List, [], ◌∷◌, ◌++◌, Option, Some, None, Bool, true, false, if◌then◌else◌, ◌||◌, length, map, filter, is_none, option_map, ◌≡◌, ◌⊎◌, ◌≤◌, refl}
use Rattle.std.specs.List.{list_any}
use Rattle.std.proofs.Common.{arith, inl, inr, sym, subst, ap, ◌∙◌}
use Rattle.std.proofs.lemmas.List.{append-nil}
use Rattle.at_base.specs.Numbers.{Numbers}
use Rattle.at_base.specs.declared.epr.Epr.{Epr}
use Rattle.at_base.specs.declared.record.Seated.{Seated}
use Rattle.at_base.specs.declared.record.Record.{Record}
use Rattle.at_base.specs.declared.record.Record.TheVariants as records
use Rattle.at_base.specs.declared.outs.Ending.{Ending}
use Rattle.at_base.specs.declared.outs.Ending.TheVariants as endings
use Rattle.at_base.specs.declared.outs.Effect.{Effect}
use Rattle.at_base.specs.declared.outs.Effect.TheVariants as effects
use Rattle.at_model.specs.Book.{Enlistment, Leaf, Phase, Superior, Transaction}
use Rattle.at_model.specs.Due.{may_expire}
use Rattle.at_model.specs.Recovery.{is_promise, is_voted, kept, live, no_seats}
use Rattle.at_model.specs.Seats.{ending, ending_of, is_prepared_durable, prepared, seated}
use Rattle.model_laws.specs.Agreement.{IsIn, ends_as}
use Rattle.model_laws.proofs.RecoveryLaws.{self_id}
use Rattle.agreement.specs.Branches.{recorded as written}
use Rattle.agreement.specs.Deeds.{Becomes, How, IsSame, IsSameIfLeft, KeepsOn, StandsOn, StoodFor, happens, recorded, superior_at}
use Rattle.agreement.specs.Journals.{Confirms, IsNoSubCommit, drops}
use Rattle.agreement.specs.Lives.{Life, PromisesNothing, ends, has_aborted, has_committed, has_decided, has_voted, is_gone, is_undecided, waits, works}
use Rattle.agreement.proofs.Journals.{both_ways, in_either, journals_live}
use Rattle.agreement.proofs.Recoveries.{recovers_each}
use Rattle.agreement.proofs.OtherIds.{any_in, ending_as, ends_first, none_any, nothing_live, promised_nothing}

-- the same of a transaction that is there, and of an item that is forgotten
pub data TransactionLife (rs : List Record) (fx : List Effect) (id : Numbers) (t : Transaction) : Type 0 where
  undecided : may_expire t.phase ≡ true → PromisesNothing id rs → ends id fx ≡ [] → TransactionLife rs fx id t
  voted : (superior : Epr) (seats : List Seated) → t.phase ≡ Phase.Voted → is_none t.superior ≡ false → IsIn (records.Voted id superior seats) (live rs)
      → (IsIn (records.SubCommitted id) (live rs) → ⊥) → ends id fx ≡ [] → TransactionLife rs fx id t
  decided : (seats : List Seated) → t.phase ≡ Phase.Committing → t.superior ≡ None → IsIn (records.Decided id seats) (live rs)
      → ends id fx ≡ effects.Root id endings.Committed ∷ [] → TransactionLife rs fx id t
  committed : (superior : Epr) (seats : List Seated) → t.phase ≡ Phase.Committing → is_none t.superior ≡ false → IsIn (records.Voted id superior seats) (live rs)
      → IsIn (records.SubCommitted id) (live rs) → ends id fx ≡ effects.Sub id endings.Committed ∷ [] → TransactionLife rs fx id t
  aborted : t.phase ≡ Phase.Aborting → PromisesNothing id (live rs) → ends id fx ≡ ending t endings.Aborted ∷ [] → TransactionLife rs fx id t

pub record IsGone (rs : List Record) (fx : List Effect) (id : Numbers) : Type 0 where
  pub dead : PromisesNothing id (live rs)
  pub over : (r : Record) → IsIn r rs → is_promise id r ≡ true → ends id fx ≡ [] → ⊥
  pub once : length (ends id fx) ≤ 1

abbrev pub TransactionLeft : List Record → List Effect → Numbers → Option Transaction → Type 0
TransactionLeft rs fx id None = IsGone rs fx id
TransactionLeft rs fx id (Some t) = TransactionLife rs fx id t

-- no leaf has its id
pub record Alone (rs : List Record) (fx : List Effect) (id : Numbers) (t : Transaction) (l : Option Leaf) : Type 0 where
  pub life : TransactionLife rs fx id t
  pub leaf : l ≡ None

pub alone : (rs : List Record) (fx : List Effect) (id : Numbers) (t : Transaction) (l : Option Leaf) → Life rs fx id (Some t) l → Alone rs fx id t l
alone rs fx id t l (is_gone e f dead over once) = absurd cc
alone rs fx id t l (is_undecided x e f o nothing k) = let same : x ≡ t = cc in subst (λ y. Alone rs fx id y l) same (record { life = undecided o nothing k; leaf = f })
alone rs fx id t l (has_voted x superior seats e f o u h out k) =
    let same : x ≡ t = cc in subst (λ y. Alone rs fx id y l) same (record { life = voted superior seats o u h out k; leaf = f })
alone rs fx id t l (has_decided x seats e f o u h k) = let same : x ≡ t = cc in subst (λ y. Alone rs fx id y l) same (record { life = decided seats o u h k; leaf = f })
alone rs fx id t l (has_committed x superior seats e f o u h i k) =
    let same : x ≡ t = cc in subst (λ y. Alone rs fx id y l) same (record { life = committed superior seats o u h i k; leaf = f })
alone rs fx id t l (has_aborted x e f o dead k) = let same : x ≡ t = cc in subst (λ y. Alone rs fx id y l) same (record { life = aborted o dead k; leaf = f })
alone rs fx id t l (works x e f o nothing k) = absurd cc
alone rs fx id t l (waits x coordinator key value e f d o h k) = absurd cc

pub left_life : (rs : List Record) (fx : List Effect) (id : Numbers) (t : Option Transaction) (l : Option Leaf) → TransactionLeft rs fx id t → l ≡ None → Life rs fx id t l
left_life rs fx id None l h e = is_gone refl e h.dead h.over h.once
left_life rs fx id (Some t) l (undecided o nothing k) e = is_undecided t refl e o nothing k
left_life rs fx id (Some t) l (voted superior seats o u h out k) e = has_voted t superior seats refl e o u h out k
left_life rs fx id (Some t) l (decided seats o u h k) e = has_decided t seats refl e o u h k
left_life rs fx id (Some t) l (committed superior seats o u h i k) e = has_committed t superior seats refl e o u h i k
left_life rs fx id (Some t) l (aborted o dead k) e = has_aborted t refl e o dead k

-- what each phase gives
closed : (p q : Phase) → p ≡ q → may_expire q ≡ false → may_expire p ≡ true → ⊥
closed p q e f o = both_ways (may_expire q) (sym (ap may_expire e) ∙ o) f

opened : (rs : List Record) (fx : List Effect) (id : Numbers) (t : Transaction) → may_expire t.phase ≡ true → TransactionLife rs fx id t → PromisesNothing id rs × (ends id fx ≡ [])
opened rs fx id t o (undecided p nothing k) = (nothing, k)
opened rs fx id t o (voted superior seats p u h out k) = absurd (closed t.phase Phase.Voted p refl o)
opened rs fx id t o (decided seats p u h k) = absurd (closed t.phase Phase.Committing p refl o)
opened rs fx id t o (committed superior seats p u h i k) = absurd (closed t.phase Phase.Committing p refl o)
opened rs fx id t o (aborted p dead k) = absurd (closed t.phase Phase.Aborting p refl o)

record InDoubt (rs : List Record) (fx : List Effect) (id : Numbers) : Type 0 where
  superior : Epr
  seats : List Seated
  vote : IsIn (records.Voted id superior seats) (live rs)
  ended : ends id fx ≡ []

other_phase : (p q r : Phase) → p ≡ q → p ≡ r → q ≡ r
other_phase p q r e f = sym e ∙ f

in_doubt : (rs : List Record) (fx : List Effect) (id : Numbers) (t : Transaction) → t.phase ≡ Phase.Voted → TransactionLife rs fx id t → InDoubt rs fx id
in_doubt rs fx id t o (undecided p nothing k) = absurd (closed t.phase Phase.Voted o refl p)
in_doubt rs fx id t o (voted superior seats p u h out k) = record { superior = superior; seats = seats; vote = h; ended = k }
in_doubt rs fx id t o (decided seats p u h k) = let e : Phase.Committing ≡ Phase.Voted = other_phase t.phase Phase.Committing Phase.Voted p o in absurd cc
in_doubt rs fx id t o (committed superior seats p u h i k) = let e : Phase.Committing ≡ Phase.Voted = other_phase t.phase Phase.Committing Phase.Voted p o in absurd cc
in_doubt rs fx id t o (aborted p dead k) = let e : Phase.Aborting ≡ Phase.Voted = other_phase t.phase Phase.Aborting Phase.Voted p o in absurd cc

record Carried (rs : List Record) (fx : List Effect) (id : Numbers) : Type 0 where
  promise : Record
  lives : IsIn promise (live rs)
  is : is_promise id promise ≡ true
  dropped : drops (records.Ended id) promise ≡ true
  how : Effect
  ended : ends id fx ≡ how ∷ []

is_vote : (id : Numbers) (superior : Epr) (seats : List Seated) → is_promise id (records.Voted id superior seats) ≡ true
is_vote id superior seats = ap (λ b. b || false) (self_id id)

ends_vote : (id : Numbers) (superior : Epr) (seats : List Seated) → drops (records.Ended id) (records.Voted id superior seats) ≡ true
ends_vote id superior seats = ap (λ b. b || false) (self_id id)

ends_decision : (id : Numbers) (seats : List Seated) → drops (records.Ended id) (records.Decided id seats) ≡ true
ends_decision id seats = ap (λ b. b || false) (self_id id)

carried : (rs : List Record) (fx : List Effect) (id : Numbers) (t : Transaction) → t.phase ≡ Phase.Committing → TransactionLife rs fx id t → Carried rs fx id
carried rs fx id t o (undecided p nothing k) = absurd (closed t.phase Phase.Committing o refl p)
carried rs fx id t o (voted superior seats p u h out k) = let e : Phase.Voted ≡ Phase.Committing = other_phase t.phase Phase.Voted Phase.Committing p o in absurd cc
carried rs fx id t o (decided seats p u h k) =
    record { promise = records.Decided id seats; lives = h; is = self_id id; dropped = ends_decision id seats; how = effects.Root id endings.Committed; ended = k }
carried rs fx id t o (committed superior seats p u h i k) = record {
  promise = records.Voted id superior seats;
  lives = h;
  is = is_vote id superior seats;
  dropped = ends_vote id superior seats;
  how = effects.Sub id endings.Committed;
  ended = k;
}
carried rs fx id t o (aborted p dead k) = let e : Phase.Aborting ≡ Phase.Committing = other_phase t.phase Phase.Aborting Phase.Committing p o in absurd cc

aborting : (rs : List Record) (fx : List Effect) (id : Numbers) (t : Transaction) → t.phase ≡ Phase.Aborting → TransactionLife rs fx id t
    → PromisesNothing id (live rs) × (ends id fx ≡ ending t endings.Aborted ∷ [])
aborting rs fx id t o (undecided p nothing k) = absurd (closed t.phase Phase.Aborting o refl p)
aborting rs fx id t o (voted superior seats p u h out k) = let e : Phase.Voted ≡ Phase.Aborting = other_phase t.phase Phase.Voted Phase.Aborting p o in absurd cc
aborting rs fx id t o (decided seats p u h k) = let e : Phase.Committing ≡ Phase.Aborting = other_phase t.phase Phase.Committing Phase.Aborting p o in absurd cc
aborting rs fx id t o (committed superior seats p u h i k) = let e : Phase.Committing ≡ Phase.Aborting = other_phase t.phase Phase.Committing Phase.Aborting p o in absurd cc
aborting rs fx id t o (aborted p dead k) = (dead, k)

-- what is gone
pub gone_unended : (rs : List Record) (fx : List Effect) (id : Numbers) → PromisesNothing id rs → ends id fx ≡ [] → IsGone rs fx id
gone_unended rs fx id nothing k =
    record { dead = nothing_live id rs nothing; over = λ r h p e. nothing r h p; once = subst (λ (es : List Effect). length es ≤ 1) (sym k) (omega arith) }

no_end : (e : Effect) (es : List Effect) → es ≡ e ∷ [] → es ≡ [] → ⊥
no_end e es f g = let h : e ∷ [] ≡ [] = sym f ∙ g in cc

pub gone_ended : (rs : List Record) (fx : List Effect) (id : Numbers) (e : Effect) → PromisesNothing id (live rs) → ends id fx ≡ e ∷ [] → IsGone rs fx id
gone_ended rs fx id e dead k =
    record { dead = dead; over = λ r h p n. no_end e (ends id fx) k n; once = subst (λ (es : List Effect). length es ≤ 1) (sym k) (omega arith) }

-- the one promise of an id that is ended
pub ended_by : (rs : List Record) (id : Numbers) (r x : Record) → IsNoSubCommit r → kept r [] ≡ [] → IsIn x (live rs) → is_promise id x ≡ true → drops r x ≡ true
    → PromisesNothing id (live (rs ++ r ∷ []))
ended_by rs id r x plain none lives is dropped y h p = from (journals_live.was rs r y h)
  where
    from : (IsIn y (live rs) × (drops r y ≡ false)) ⊎ (IsIn y (kept r []) ⊎ Confirms rs r y) → ⊥
    from (inl (k, d)) = both_ways (drops r y) (ap (drops r) (recovers_each.single rs id y x k lives p is) ∙ dropped) d
    from (inr (inl k)) = subst (IsIn y) none k
    from (inr (inr c)) = subst IsNoSubCommit c.further plain

-- records that are new
pub in_last : (x : Record) (xs : List Record) → IsIn x (xs ++ x ∷ [])
in_last x [] = inl refl
in_last x (y ∷ ys) = inr (in_last x ys)

promise_lives : (rs : List Record) (id : Numbers) (r : Record) → PromisesNothing id rs → is_promise id r ≡ true → kept r [] ≡ r ∷ [] → live (rs ++ r ∷ []) ≡ live rs ++ r ∷ []
promise_lives rs id r nothing is only = journals_live.promised rs id r is (promised_nothing id rs nothing) ∙ ap (λ ys. live rs ++ ys) only

pub promise_is_live : (rs : List Record) (id : Numbers) (r : Record) → PromisesNothing id rs → is_promise id r ≡ true → kept r [] ≡ r ∷ [] → IsIn r (live (rs ++ r ∷ []))
promise_is_live rs id r nothing is only = subst (IsIn r) (sym (promise_lives rs id r nothing is only)) (in_last r (live rs))

vote_promises : (id : Numbers) (r : Record) → is_voted id r ≡ true → is_promise id r ≡ true
vote_promises id (records.Voted i superior seats) e = ap (λ b. b || false) e
vote_promises id other e = absurd cc

no_commit_yet : (rs : List Record) (id : Numbers) → PromisesNothing id rs → IsIn (records.SubCommitted id) (live rs) → ⊥
no_commit_yet rs id nothing h =
    both_ways (list_any (is_voted id) (live rs)) (recovers_each.with_vote rs id h) (none_any (is_voted id) (live rs) (λ r k e. nothing_live id rs nothing r k (vote_promises id r e)))

no_commit_with_vote : (rs : List Record) (id : Numbers) (superior : Epr) (seats : List Seated) → PromisesNothing id rs
    → IsIn (records.SubCommitted id) (live (rs ++ records.Voted id superior seats ∷ [])) → ⊥
no_commit_with_vote rs id superior seats nothing h =
    from (in_either (records.SubCommitted id) (live rs) _ (subst (IsIn (records.SubCommitted id)) (promise_lives rs id (records.Voted id superior seats) nothing (is_vote id superior seats) refl) h))
  where
    from : IsIn (records.SubCommitted id) (live rs) ⊎ IsIn (records.SubCommitted id) (records.Voted id superior seats ∷ []) → ⊥
    from (inl k) = no_commit_yet rs id nothing k
    from (inr (inl e)) = let f : records.SubCommitted id ≡ records.Voted id superior seats = e in cc
    from (inr (inr k)) = k

-- a decision with seats, and one without
some_prepared : (at : List Enlistment) → list_any is_prepared_durable at ≡ true → no_seats (prepared at) ≡ false
some_prepared [] e = absurd cc
some_prepared (s ∷ ss) e = by_case (is_prepared_durable s) (some_prepared ss) e
  where
    by_case : (b : Bool) → (list_any is_prepared_durable ss ≡ true → no_seats (prepared ss) ≡ false) → (b || list_any is_prepared_durable ss) ≡ true
        → no_seats (map seated (if b then s ∷ filter is_prepared_durable ss else filter is_prepared_durable ss)) ≡ false
    by_case true h f = refl
    by_case false h f = h f

none_prepared : (at : List Enlistment) → list_any is_prepared_durable at ≡ false → no_seats (prepared at) ≡ true
none_prepared [] e = refl
none_prepared (s ∷ ss) e = by_case (is_prepared_durable s) (none_prepared ss) e
  where
    by_case : (b : Bool) → (list_any is_prepared_durable ss ≡ false → no_seats (prepared ss) ≡ true) → (b || list_any is_prepared_durable ss) ≡ false
        → no_seats (map seated (if b then s ∷ filter is_prepared_durable ss else filter is_prepared_durable ss)) ≡ true
    by_case true h f = absurd cc
    by_case false h f = h f

decision_kept : (id : Numbers) (seats : List Seated) → no_seats seats ≡ false → kept (records.Decided id seats) [] ≡ records.Decided id seats ∷ []
decision_kept id seats e = ap (λ b. if b || false then [] else records.Decided id seats ∷ []) e

decision_dropped : (id : Numbers) (seats : List Seated) → no_seats seats ≡ true → kept (records.Decided id seats) [] ≡ []
decision_dropped id seats e = ap (λ b. if b || false then [] else records.Decided id seats ∷ []) e

decided_alone : (rs : List Record) (id : Numbers) (seats : List Seated) → PromisesNothing id rs → no_seats seats ≡ true → PromisesNothing id (live (rs ++ records.Decided id seats ∷ []))
decided_alone rs id seats nothing none =
    subst (PromisesNothing id)
    (sym (journals_live.promised rs id (records.Decided id seats) (self_id id) (promised_nothing id rs nothing) ∙ ap (λ ys. live rs ++ ys) (decision_dropped id seats none) ∙ append-nil (live rs)))
    (nothing_live id rs nothing)

-- how it ends
ended_so : (t : Transaction) (what : Ending) → ends_as t.id (ending t what) ≡ true
ended_so t what = ending_as t.id t.id t.superior what ∙ self_id t.id

end_first : (fx : List Effect) (t : Transaction) (what : Ending) → ends t.id fx ≡ [] → ends t.id (fx ++ ending t what ∷ []) ≡ ending t what ∷ []
end_first fx t what none = ends_first t.id fx (ending t what) (ended_so t what) none

like_superiors : (id : Numbers) (what : Ending) (old new : Option Superior) → is_none new ≡ is_none old → ending_of old id what ≡ ending_of new id what
like_superiors id what None None e = refl
like_superiors id what None (Some s) e = absurd cc
like_superiors id what (Some s) None e = absurd cc
like_superiors id what (Some s) (Some r) e = refl

same_ending : (old new : Transaction) (what : Ending) → IsSame old new → ending old what ≡ ending new what
same_ending old new what s = like_superiors old.id what old.superior new.superior s.root ∙ ap (λ i. ending_of new.superior i what) (sym s.id)

sub_ending : (id : Numbers) (what : Ending) (s : Option Superior) → is_none s ≡ false → ending_of s id what ≡ effects.Sub id what
sub_ending id what None e = absurd cc
sub_ending id what (Some s) e = refl

is_root : (s : Option Superior) → is_none s ≡ true → s ≡ None
is_root None e = refl
is_root (Some s) e = absurd cc

-- with no record and no effect
at_rest : (rs : List Record) (fx : List Effect) (id : Numbers) (t : Option Transaction) → TransactionLeft rs fx id t → TransactionLeft (rs ++ []) (fx ++ []) id t
at_rest rs fx id t h = subst (λ ys. TransactionLeft ys (fx ++ []) id t) (sym (append-nil rs)) (subst (λ ys. TransactionLeft rs ys id t) (sym (append-nil fx)) h)

unrecorded : (rs : List Record) (fx : List Effect) (id : Numbers) (t : Option Transaction) → TransactionLeft rs fx id t → TransactionLeft (rs ++ []) fx id t
unrecorded rs fx id t h = subst (λ ys. TransactionLeft ys fx id t) (sym (append-nil rs)) h

stays_as : (rs : List Record) (fx : List Effect) (t new : Transaction) → IsSame t new → KeepsOn t.phase new.phase → TransactionLife rs fx t.id t → TransactionLife rs fx t.id new
stays_as rs fx t new s (inl (o, p)) h = let (nothing, k) = opened rs fx t.id t o h in undecided p nothing k
stays_as rs fx t new s (inr e) (undecided o nothing k) = undecided (ap may_expire e ∙ o) nothing k
stays_as rs fx t new s (inr e) (voted superior seats p u h out k) = voted superior seats (e ∙ p) (s.root ∙ u) h out k
stays_as rs fx t new s (inr e) (decided seats p u h k) = decided seats (e ∙ p) (is_root new.superior (s.root ∙ ap (λ x. is_none x) u)) h k
stays_as rs fx t new s (inr e) (committed superior seats p u h i k) = committed superior seats (e ∙ p) (s.root ∙ u) h i k
stays_as rs fx t new s (inr e) (aborted p dead k) = aborted (e ∙ p) dead (k ∙ ap (λ x. x ∷ []) (same_ending t new endings.Aborted s))

-- each deed
Kept : How → List Record → List Effect → Transaction → List Enlistment → Option Transaction → Type 0
Kept how rs fx t at left = TransactionLeft (rs ++ written (recorded how t at)) (fx ++ happens how t) t.id left

rolls : (rs : List Record) (fx : List Effect) (t : Transaction) (seats : List Enlistment) (left : Option Transaction) → PromisesNothing t.id (live rs)
    → ends t.id fx ≡ ending t endings.Aborted ∷ [] → Becomes How.Aborts t seats left → IsSameIfLeft t left → TransactionLeft rs fx t.id left
rolls rs fx t seats None dead k b s = gone_ended rs fx t.id (ending t endings.Aborted) dead k
rolls rs fx t seats (Some new) dead k (p, b, some) s = aborted p dead (k ∙ ap (λ x. x ∷ []) (same_ending t new endings.Aborted s))

idles : (rs : List Record) (fx : List Effect) (t : Transaction) (at : List Enlistment) (left : Option Transaction) → TransactionLife rs fx t.id t → Becomes How.Idles t at left
    → IsSameIfLeft t left → Kept How.Idles rs fx t at left
unfolding Kept
idles rs fx t at None h b s = absurd b
idles rs fx t at (Some new) h (keeps, b) s = at_rest rs fx t.id (Some new) (stays_as rs fx t new s keeps h)

aborts : (rs : List Record) (fx : List Effect) (t : Transaction) (at : List Enlistment) (left : Option Transaction) → may_expire t.phase ≡ true → TransactionLife rs fx t.id t
    → Becomes How.Aborts t at left → IsSameIfLeft t left → Kept How.Aborts rs fx t at left
unfolding Kept
aborts rs fx t at left o h b s =
    let (nothing, k) = opened rs fx t.id t o h in
    unrecorded rs (fx ++ ending t endings.Aborted ∷ []) t.id left
    (rolls rs (fx ++ ending t endings.Aborted ∷ []) t at left (nothing_live t.id rs nothing) (end_first fx t endings.Aborted k) b s)

votes_to : (rs : List Record) (fx : List Effect) (t new : Transaction) (at : List Enlistment) (superior : Option Epr) → is_none superior ≡ false → PromisesNothing t.id rs → ends t.id fx ≡ []
    → new.phase ≡ Phase.Voted → is_none new.superior ≡ false
    → TransactionLife (rs ++ written (option_map (λ to. records.Voted t.id to (prepared at)) superior)) (fx ++ []) t.id new
votes_to rs fx t new at None e nothing k p u = absurd cc
votes_to rs fx t new at (Some to) e nothing k p u =
    voted to (prepared at) p u (promise_is_live rs t.id (records.Voted t.id to (prepared at)) nothing (is_vote t.id to (prepared at)) refl)
    (no_commit_with_vote rs t.id to (prepared at) nothing) (ap (ends t.id) (append-nil fx) ∙ k)

is_under : (s : Option Superior) → is_none (superior_at s) ≡ false → is_none s ≡ false
is_under None e = e
is_under (Some s) e = refl

votes : (rs : List Record) (fx : List Effect) (t : Transaction) (at : List Enlistment) (left : Option Transaction) → may_expire t.phase ≡ true → is_none (superior_at t.superior) ≡ false
    → TransactionLife rs fx t.id t → Becomes How.Votes t at left → IsSameIfLeft t left → Kept How.Votes rs fx t at left
unfolding Kept
votes rs fx t at None o u h b s = absurd b
votes rs fx t at (Some new) o u h (p, b) s =
    let (nothing, k) = opened rs fx t.id t o h in
    votes_to rs fx t new at (superior_at t.superior) u nothing k p (s.root ∙ is_under t.superior u)

decides : (rs : List Record) (fx : List Effect) (t : Transaction) (at : List Enlistment) (left : Option Transaction) → may_expire t.phase ≡ true → t.superior ≡ None
    → list_any is_prepared_durable at ≡ true → TransactionLife rs fx t.id t → Becomes How.Decides t at left → IsSameIfLeft t left → Kept How.Decides rs fx t at left
unfolding Kept
decides rs fx t at None o u some h b s = absurd b
decides rs fx t at (Some new) o u some h (p, b) s =
    let (nothing, k) = opened rs fx t.id t o h in
    decided (prepared at) p (is_root new.superior (s.root ∙ ap (λ x. is_none x) u))
    (promise_is_live rs t.id (records.Decided t.id (prepared at)) nothing (self_id t.id) (decision_kept t.id (prepared at) (some_prepared at some)))
    (end_first fx t endings.Committed k ∙ ap (λ x. ending_of x t.id endings.Committed ∷ []) u)

decides_alone : (rs : List Record) (fx : List Effect) (t : Transaction) (at : List Enlistment) (left : Option Transaction) → may_expire t.phase ≡ true
    → list_any is_prepared_durable at ≡ false → TransactionLife rs fx t.id t → left ≡ None → Kept How.DecidesAlone rs fx t at left
unfolding Kept
decides_alone rs fx t at left o none h b =
    let (nothing, k) = opened rs fx t.id t o h in
    subst (TransactionLeft (rs ++ records.Decided t.id (prepared at) ∷ []) (fx ++ ending t endings.Committed ∷ []) t.id) (sym b)
    (gone_ended (rs ++ records.Decided t.id (prepared at) ∷ []) (fx ++ ending t endings.Committed ∷ []) t.id (ending t endings.Committed)
    (decided_alone rs t.id (prepared at) nothing (none_prepared at none)) (end_first fx t endings.Committed k))

leaves : (rs : List Record) (fx : List Effect) (t : Transaction) (at : List Enlistment) (left : Option Transaction) → may_expire t.phase ≡ true → TransactionLife rs fx t.id t
    → left ≡ None → Kept How.Leaves rs fx t at left
unfolding Kept
leaves rs fx t at left o h b =
    let (nothing, k) = opened rs fx t.id t o h in
    subst (TransactionLeft (rs ++ []) (fx ++ []) t.id) (sym b) (at_rest rs fx t.id None (gone_unended rs fx t.id nothing k))

commits : (rs : List Record) (fx : List Effect) (t : Transaction) (at : List Enlistment) (left : Option Transaction) → t.phase ≡ Phase.Voted → is_none t.superior ≡ false
    → TransactionLife rs fx t.id t → Becomes How.Commits t at left → IsSameIfLeft t left → Kept How.Commits rs fx t at left
unfolding Kept
commits rs fx t at None o u h b s = absurd b
commits rs fx t at (Some new) o u h (p, b) s =
    let d : InDoubt rs fx t.id = in_doubt rs fx t.id t o h in
    committed d.superior d.seats p (s.root ∙ u) (journals_live.stays rs (records.SubCommitted t.id) (records.Voted t.id d.superior d.seats) d.vote refl)
    (journals_live.confirmed rs t.id (any_in (is_voted t.id) (records.Voted t.id d.superior d.seats) (live rs) d.vote (self_id t.id)))
    (end_first fx t endings.Committed d.ended ∙ ap (λ x. x ∷ []) (sub_ending t.id endings.Committed t.superior u))

rolls_back : (rs : List Record) (fx : List Effect) (t : Transaction) (at : List Enlistment) (left : Option Transaction) → t.phase ≡ Phase.Voted
    → TransactionLife rs fx t.id t → Becomes How.RollsBack t at left → IsSameIfLeft t left → Kept How.RollsBack rs fx t at left
unfolding Kept
rolls_back rs fx t at left o h b s =
    let d : InDoubt rs fx t.id = in_doubt rs fx t.id t o h in
    rolls (rs ++ records.Ended t.id ∷ []) (fx ++ ending t endings.Aborted ∷ []) t at left
    (ended_by rs t.id (records.Ended t.id) (records.Voted t.id d.superior d.seats) tt refl d.vote (is_vote t.id d.superior d.seats) (ends_vote t.id d.superior d.seats))
    (end_first fx t endings.Aborted d.ended) b s

over : (rs : List Record) (fx : List Effect) (t : Transaction) (at : List Enlistment) (left : Option Transaction) → t.phase ≡ Phase.Committing
    → TransactionLife rs fx t.id t → left ≡ None → Kept How.Ends rs fx t at left
unfolding Kept
over rs fx t at left o h b =
    let d : Carried rs fx t.id = carried rs fx t.id t o h in
    subst (TransactionLeft (rs ++ records.Ended t.id ∷ []) (fx ++ []) t.id) (sym b)
    (gone_ended (rs ++ records.Ended t.id ∷ []) (fx ++ []) t.id d.how (ended_by rs t.id (records.Ended t.id) d.promise tt refl d.lives d.is d.dropped)
    (ap (ends t.id) (append-nil fx) ∙ d.ended))

forgets : (rs : List Record) (fx : List Effect) (t : Transaction) (at : List Enlistment) (left : Option Transaction) → t.phase ≡ Phase.Aborting
    → TransactionLife rs fx t.id t → left ≡ None → Kept How.Forgets rs fx t at left
unfolding Kept
forgets rs fx t at left o h b =
    let (dead, k) = aborting rs fx t.id t o h in
    subst (TransactionLeft (rs ++ []) (fx ++ []) t.id) (sym b) (at_rest rs fx t.id None (gone_ended rs fx t.id (ending t endings.Aborted) dead k))

pub by_how : (how : How) (rs : List Record) (fx : List Effect) (t : Transaction) (at : List Enlistment) (left : Option Transaction) → StoodFor how t → StandsOn how at → Becomes how t at left
    → IsSameIfLeft t left → TransactionLife rs fx t.id t → TransactionLeft (rs ++ written (recorded how t at)) (fx ++ happens how t) t.id left
unfolding Kept
by_how How.Idles rs fx t at left stood on b s h = idles rs fx t at left h b s
by_how How.Aborts rs fx t at left stood on b s h = aborts rs fx t at left stood h b s
by_how How.Votes rs fx t at left (o, u) on b s h = votes rs fx t at left o u h b s
by_how How.Decides rs fx t at left (o, u) (on, some) b s h = decides rs fx t at left o u some h b s
by_how How.DecidesAlone rs fx t at left (o, u) (on, none) b s h = decides_alone rs fx t at left o none h b
by_how How.Leaves rs fx t at left (o, u) on b s h = leaves rs fx t at left o h b
by_how How.Commits rs fx t at left (o, u) on b s h = commits rs fx t at left o u h b s
by_how How.RollsBack rs fx t at left (o, u) on b s h = rolls_back rs fx t at left o h b s
by_how How.Ends rs fx t at left stood on b s h = over rs fx t at left stood h b
by_how How.Forgets rs fx t at left stood on b s h = forgets rs fx t at left stood h b
