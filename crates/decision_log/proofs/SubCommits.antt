-- A SubCommitted stands behind its vote, where that is live.
use Rattle.std.proofs.Common.{List, [], ◌∷◌, ◌≡◌, ◌++◌, ◌||◌, ◌&&◌, Bool, true, false, not, refl, sym, ◌∙◌, ap, subst, if◌then◌else◌, true≢false}
use Rattle.std.specs.List.{AllByRecursion, list_any}
use Rattle.at_base.specs.Numbers.{Numbers}
use Rattle.at_base.specs.declared.epr.Epr.{Epr}
use Rattle.at_base.specs.declared.record.Seated.{Seated}
use Rattle.at_base.specs.declared.record.Record.{Record}
use Rattle.at_base.specs.declared.record.Record.TheVariants as records
use Rattle.at_model.specs.Book.{is_id}
use Rattle.at_model.specs.Recovery.{ends_leaf, ends_transaction, in_order, insert_by, is_sub_committed, kept, live, no_seats}
use Rattle.model_laws.proofs.RecoveryLaws.{or_false, same_id, self_id}
use Rattle.decision_log.specs.Tokens.{about, token_of}
use Rattle.decision_log.specs.KeptRecords.{insert_last, is_commit_of, is_kind_commit, is_kind_vote, is_vote_of}
use Rattle.decision_log.proofs.Order.{all_in_order, same_place, swaps}
use Rattle.decision_log.proofs.FurtherRecords.{any_push}

abbrev votes : Numbers → Record → Bool
votes id x = is_vote_of id (token_of x)

abbrev commits : Numbers → Record → Bool
commits id x = is_commit_of id (token_of x)

-- whether a vote of this id waits for its SubCommitted
abbrev pub waits : Numbers → List Record → Bool
waits id xs = list_any (votes id) xs && not (list_any (commits id) xs)

-- none of these is about that id
abbrev pub AreNotAbout : Numbers → List Record → Type 0
AreNotAbout id xs = AllByRecursion (λ x. about x ≡ id → ⊥) xs

differs : (i id : Numbers) → is_id i id ≡ false → i ≡ id → ⊥
differs i id e f = true≢false (sym (self_id id) ∙ ap (λ j. is_id j id) (sym f) ∙ e)

one_if : (b : Bool) (id : Numbers) (x : Record) (xs : List Record) → (about x ≡ id → ⊥) → AreNotAbout id xs → AreNotAbout id ((if b then [] else x ∷ []) ++ xs)
one_if true id x xs h k = k
one_if false id x xs h k = (h, k)

two_if : (b c : Bool) (id i : Numbers) (s : Epr) (ss : List Seated) (xs : List Record) → (i ≡ id → ⊥) → AreNotAbout id xs
    → AreNotAbout id ((if b then [] else records.Voted i s ss ∷ (if c then records.SubCommitted i ∷ [] else [])) ++ xs)
two_if true c id i s ss xs h k = k
two_if false true id i s ss xs h k = (h, (h, k))
two_if false false id i s ss xs h k = (h, k)

pub none_about : (id : Numbers) (rs : List Record) → list_any (ends_transaction id) rs ≡ false → AreNotAbout id (live rs)
none_about id [] e = tt
none_about id (x ∷ rest) e =
    let (here, behind) = or_false (ends_transaction id x) (list_any (ends_transaction id) rest) e in
    one x here (none_about id rest behind)
  where
    one : (x : Record) → ends_transaction id x ≡ false → AreNotAbout id (live rest) → AreNotAbout id (kept x rest ++ live rest)
    one (records.Start n) h k = k
    one (records.LeafPrepared i c key value) h k = one_if (list_any (ends_leaf i) rest) id (records.LeafPrepared i c key value) (live rest) (differs i id (or_false (is_id i id) false h).0) k
    one (records.LeafCommitted i) h k = k
    one (records.LeafAborted i) h k = k
    one (records.Voted i s ss) h k = two_if (list_any (ends_transaction i) rest) (list_any (is_sub_committed i) rest) id i s ss (live rest) (differs i id (or_false (is_id i id) false h).0) k
    one (records.Decided i ss) h k = one_if (no_seats ss || list_any (ends_transaction i) rest) id (records.Decided i ss) (live rest) (differs i id h) k
    one (records.SubCommitted i) h k = k
    one (records.Ended i) h k = k
    one (records.Done i) h k = k

other : (i id : Numbers) → (i ≡ id → ⊥) → is_id i id ≡ false
other i id h = by_case (is_id i id) refl where
  by_case : (b : Bool) → is_id i id ≡ b → b ≡ false
  by_case true e = absurd (h (same_id i id e))
  by_case false e = refl

second_false : (a b : Bool) → b ≡ false → (a && b) ≡ false
second_false true b e = e
second_false false b e = refl

none_voted : (id : Numbers) (xs : List Record) → AreNotAbout id xs → list_any (votes id) xs ≡ false
none_voted id [] h = refl
none_voted id (x ∷ xs) (h, k) = λ i. second_false (is_kind_vote (token_of x).what) (is_id (about x) id) (other (about x) id h) i || none_voted id xs k i

none_committed : (id : Numbers) (xs : List Record) → AreNotAbout id xs → list_any (commits id) xs ≡ false
none_committed id [] h = refl
none_committed id (x ∷ xs) (h, k) = λ i. second_false (is_kind_commit (token_of x).what) (is_id (about x) id) (other (about x) id h) i || none_committed id xs k i

-- where one more stands in front
beside : (x r : Record) (b : Bool) (xs : List Record) → insert_by about x (if b then insert_last about r xs else xs) ≡ (if b then insert_last about r (insert_by about x xs) else insert_by about x xs)
beside x r true xs = swaps about x r xs
beside x r false xs = refl

or_none : (b : Bool) → (b || false) ≡ b
or_none true = refl
or_none false = refl

abbrev Puts : Numbers → List Record → List Record → Type 0
Puts id new old =
    in_order about new ≡ (if waits id old then insert_last about (records.SubCommitted id) (in_order about old) else in_order about old)

-- a record that is neither vote nor SubCommitted of the id, or none
puts_one : (a : Bool) (id : Numbers) (x : Record) (new old : List Record) → votes id x ≡ false → commits id x ≡ false → Puts id new old
    → Puts id ((if a then [] else x ∷ []) ++ new) ((if a then [] else x ∷ []) ++ old)
puts_one true id x new old v c h = h
puts_one false id x new old v c h =
    ap (insert_by about x) h ∙ beside x (records.SubCommitted id) (waits id old) (in_order about old)
    ∙ (λ i. if (sym v i || list_any (votes id) old) && not (sym c i || list_any (commits id) old) then insert_last about (records.SubCommitted id) (insert_by about x (in_order about old)) else insert_by about x (in_order about old))

-- a vote of another id
puts_vote : (a m : Bool) (id i : Numbers) (s : Epr) (ss : List Seated) (new old : List Record) → is_id i id ≡ false → Puts id new old
    → Puts id ((if a then [] else records.Voted i s ss ∷ (if m then records.SubCommitted i ∷ [] else [])) ++ new)
    ((if a then [] else records.Voted i s ss ∷ (if m then records.SubCommitted i ∷ [] else [])) ++ old)
puts_vote true m id i s ss new old e h = h
puts_vote false true id i s ss new old e h =
    puts_one false id (records.Voted i s ss) (records.SubCommitted i ∷ new) (records.SubCommitted i ∷ old) e refl (puts_one false id (records.SubCommitted i) new old refl e h)
puts_vote false false id i s ss new old e h = puts_one false id (records.Voted i s ss) new old e refl h

-- the vote itself
puts_own : (m : Bool) (id : Numbers) (s : Epr) (ss : List Seated) (new old : List Record) → AreNotAbout id old → Puts id new old
    → Puts id (records.Voted id s ss ∷ records.SubCommitted id ∷ new) (records.Voted id s ss ∷ ((if m then records.SubCommitted id ∷ [] else []) ++ old))
puts_own m id s ss new old n h = by_case m where
  v : Record
  v = records.Voted id s ss

  plain : in_order about new ≡ in_order about old
  plain = h ∙ ap (λ b. if b && not (list_any (commits id) old) then insert_last about (records.SubCommitted id) (in_order about old) else in_order about old) (none_voted id old n)

  by_case : (m : Bool) → Puts id (records.Voted id s ss ∷ records.SubCommitted id ∷ new) (records.Voted id s ss ∷ ((if m then records.SubCommitted id ∷ [] else []) ++ old))
  by_case true =
      ap (λ z. insert_by about (records.Voted id s ss) (insert_by about (records.SubCommitted id) z)) plain
      ∙ (λ i. if (sym (self_id id) i || list_any (votes id) old) && not (sym (self_id id) i || list_any (commits id) old)
      then insert_last about (records.SubCommitted id) (insert_by about (records.Voted id s ss) (insert_by about (records.SubCommitted id) (in_order about old)))
      else insert_by about (records.Voted id s ss) (insert_by about (records.SubCommitted id) (in_order about old)))
  by_case false =
      ap (λ z. insert_by about (records.Voted id s ss) (insert_by about (records.SubCommitted id) z)) plain
      ∙ ap (insert_by about (records.Voted id s ss)) (same_place about (records.SubCommitted id) (in_order about old) (all_in_order (λ y. about y ≡ id → ⊥) about old n))
      ∙ swaps about (records.Voted id s ss) (records.SubCommitted id) (in_order about old)
      ∙ (λ i. if (sym (self_id id) i || list_any (votes id) old) && not (sym (none_committed id old n) i)
      then insert_last about (records.SubCommitted id) (insert_by about (records.Voted id s ss) (in_order about old))
      else insert_by about (records.Voted id s ss) (in_order about old))

turned : (i id : Numbers) → is_id id i ≡ false → is_id i id ≡ false
turned i id e = other i id (λ f. differs id i e (sym f))

pub commit_push : (id : Numbers) (rs : List Record) → Puts id (live (rs ++ records.SubCommitted id ∷ [])) (live rs)
commit_push id [] = refl
commit_push id (records.Start n ∷ rest) = commit_push id rest
commit_push id (records.LeafPrepared i c key value ∷ rest) =
    let a = any_push (ends_leaf i) rest (records.SubCommitted id) ∙ or_none (list_any (ends_leaf i) rest) in
    ap (λ b. in_order about ((if b then [] else records.LeafPrepared i c key value ∷ []) ++ live (rest ++ records.SubCommitted id ∷ []))) a
    ∙ puts_one (list_any (ends_leaf i) rest) id (records.LeafPrepared i c key value) (live (rest ++ records.SubCommitted id ∷ [])) (live rest) refl refl (commit_push id rest)
commit_push id (records.LeafCommitted i ∷ rest) = commit_push id rest
commit_push id (records.LeafAborted i ∷ rest) = commit_push id rest
commit_push id (records.Voted i s ss ∷ rest) = by_case (list_any (ends_transaction i) rest) (is_id id i) refl refl (commit_push id rest) where
  new : List Record
  new = live (rest ++ records.SubCommitted id ∷ [])

  m : Numbers → Bool
  m j = list_any (is_sub_committed j) rest

  by_case : (a e : Bool) → list_any (ends_transaction i) rest ≡ a → is_id id i ≡ e → Puts id (live (rest ++ records.SubCommitted id ∷ [])) (live rest)
      → Puts id (kept (records.Voted i s ss) (rest ++ records.SubCommitted id ∷ []) ++ live (rest ++ records.SubCommitted id ∷ [])) (kept (records.Voted i s ss) rest ++ live rest)
  by_case a false ea ee ih =
      (λ k. in_order about ((if (any_push (ends_transaction i) rest (records.SubCommitted id) ∙ or_none (list_any (ends_transaction i) rest)) k then []
      else records.Voted i s ss ∷ (if (any_push (is_sub_committed i) rest (records.SubCommitted id) ∙ ap (λ b. list_any (is_sub_committed i) rest || b) ee ∙ or_none (list_any (is_sub_committed i) rest)) k
      then records.SubCommitted i ∷ [] else [])) ++ live (rest ++ records.SubCommitted id ∷ [])))
      ∙ puts_vote (list_any (ends_transaction i) rest) (list_any (is_sub_committed i) rest) id i s ss (live (rest ++ records.SubCommitted id ∷ [])) (live rest) (turned i id ee) ih
  by_case true true ea ee ih =
      ap (λ b. in_order about ((if b then [] else records.Voted i s ss ∷ (if list_any (is_sub_committed i) (rest ++ records.SubCommitted id ∷ []) then records.SubCommitted i ∷ [] else [])) ++ live (rest ++ records.SubCommitted id ∷ [])))
      (any_push (ends_transaction i) rest (records.SubCommitted id) ∙ or_none (list_any (ends_transaction i) rest) ∙ ea)
      ∙ ih
      ∙ (λ k. let old = (if sym ea k then [] else records.Voted i s ss ∷ (if list_any (is_sub_committed i) rest then records.SubCommitted i ∷ [] else [])) ++ live rest in
      if waits id old then insert_last about (records.SubCommitted id) (in_order about old) else in_order about old)
  by_case false true ea ee ih =
      subst (λ j. list_any (ends_transaction j) rest ≡ false → Puts id (kept (records.Voted j s ss) (rest ++ records.SubCommitted id ∷ []) ++ live (rest ++ records.SubCommitted id ∷ [])) (kept (records.Voted j s ss) rest ++ live rest))
      (same_id id i ee) own ea
    where
      or_true : (b : Bool) → (b || true) ≡ true
      or_true true = refl
      or_true false = refl

      own : list_any (ends_transaction id) rest ≡ false → Puts id (kept (records.Voted id s ss) (rest ++ records.SubCommitted id ∷ []) ++ live (rest ++ records.SubCommitted id ∷ [])) (kept (records.Voted id s ss) rest ++ live rest)
      own f =
          (λ k. in_order about ((if (any_push (ends_transaction id) rest (records.SubCommitted id) ∙ or_none (list_any (ends_transaction id) rest) ∙ f) k then []
          else records.Voted id s ss ∷ (if (any_push (is_sub_committed id) rest (records.SubCommitted id) ∙ ap (λ b. list_any (is_sub_committed id) rest || b) (self_id id) ∙ or_true (list_any (is_sub_committed id) rest)) k
          then records.SubCommitted id ∷ [] else [])) ++ live (rest ++ records.SubCommitted id ∷ [])))
          ∙ puts_own (list_any (is_sub_committed id) rest) id s ss (live (rest ++ records.SubCommitted id ∷ [])) (live rest) (none_about id rest f) ih
          ∙ (λ k. let old = (if sym f k then [] else records.Voted id s ss ∷ (if list_any (is_sub_committed id) rest then records.SubCommitted id ∷ [] else [])) ++ live rest in
          if waits id old then insert_last about (records.SubCommitted id) (in_order about old) else in_order about old)
commit_push id (records.Decided i ss ∷ rest) =
    let a = any_push (ends_transaction i) rest (records.SubCommitted id) ∙ or_none (list_any (ends_transaction i) rest) in
    ap (λ b. in_order about ((if no_seats ss || b then [] else records.Decided i ss ∷ []) ++ live (rest ++ records.SubCommitted id ∷ []))) a
    ∙ puts_one (no_seats ss || list_any (ends_transaction i) rest) id (records.Decided i ss) (live (rest ++ records.SubCommitted id ∷ [])) (live rest) refl refl (commit_push id rest)
commit_push id (records.SubCommitted i ∷ rest) = commit_push id rest
commit_push id (records.Ended i ∷ rest) = commit_push id rest
commit_push id (records.Done i ∷ rest) = commit_push id rest
