-- The promises of a recovered book are live.
use Rattle.std.proofs.Common.{ℕ, List, [], ◌∷◌, ◌≡◌, ◌≤◌, inl, inr, Bool, true, false, Option, Some, None, refl, sym, ◌∙◌, ap, subst, map, length, ◌||◌, if◌then◌else◌, arith}
use Rattle.std.specs.List.{AllByRecursion, list_any}
use Rattle.at_base.specs.Numbers.{Numbers}
use Rattle.at_base.specs.WellFormed.{IsWellFormed}
use Rattle.at_base.specs.declared.epr.Epr.{Epr}
use Rattle.at_base.specs.declared.record.Record.{Record}
use Rattle.at_base.specs.declared.record.Record.TheVariants as records
use Rattle.at_base.specs.declared.record.Seated.{Seated}
use Rattle.at_model.specs.Book.{Leaf, Transaction, is_id, leaf_id, transaction_id}
use Rattle.at_model.specs.Recovery.{in_order, insert_by, is_before, is_promise, is_sub_committed, live, no_seats, recover, recovered_decided, recovered_leaf, recovered_voted}
use Rattle.model_laws.specs.Agreement.{IsIn}
use Rattle.model_laws.specs.PhaseAnswers.{DecidesBehindEveryAnswer}
use Rattle.model_laws.specs.Compactions.{record_id}
use Rattle.model_laws.specs.Links.{AreLinked}
use Rattle.model_laws.specs.Laws.{MakesUnderTheNextId}
use Rattle.model_laws.specs.Order.{IdsRise, IsInOrder}
use Rattle.model_laws.specs.Shapes.{StepsTouchOne}
use Rattle.agreement.specs.ActivityDeeds.{ActivityStates}
use Rattle.agreement.specs.FinishedTransactions.{FinishesAll, NamesRising}
use Rattle.agreement.specs.LeafDeeds.{LeafStates}
use Rattle.agreement.specs.Recoveries.{RecoversEach, StandsFor, StandsForLeaf, leaf_from, transaction_from}
use Rattle.enlistments.specs.Moves.{StepsMove}
use Rattle.owed.specs.Shape.{BooksAreShaped, IsShaped, NamesSomebody}
use Rattle.decision_log.specs.KeptState.{IsAmong}
use Rattle.decision_log.specs.KeptRecords.{kept_of, tokens_of}
use Rattle.decision_log.specs.Tokens.{Token, token_of}
use Rattle.journal_at.specs.declared.version.Version.TheVariants.{Two}
use Rattle.node_at.specs.PromiseLaws.{PromisesStay}
use Rattle.node_at.specs.Promises.{IsLeafPromised, IsPromised, PromisesStand}
use Rattle.node_at.proofs.LivePromises.{Holds, all_three, promised_of, steps_stay}
use Rattle.node_at.proofs.IdFacts.{all_in, all_more, same_id, self_id}

-- a record is among those in order
itself_in : {A : Type 0} (key : A → Numbers) (x : A) (xs : List A) → IsIn x (insert_by key x xs)
itself_in key x [] = inl refl
itself_in {A} key x (y ∷ ys) = by (is_before (key y) (key x)) (itself_in key x ys) where
  by : (b : Bool) → IsIn x (insert_by key x ys) → IsIn x (if b then y ∷ insert_by key x ys else x ∷ (y ∷ ys))
  by true h = inr h
  by false h = inl refl

other_in : {A : Type 0} (key : A → Numbers) (x z : A) (xs : List A) → IsIn z xs → IsIn z (insert_by key x xs)
other_in key x z [] h = absurd h
other_in {A} key x z (y ∷ ys) h = by (is_before (key y) (key x)) h (other_in key x z ys) where
  by : (b : Bool) → IsIn z (y ∷ ys) → (IsIn z ys → IsIn z (insert_by key x ys)) → IsIn z (if b then y ∷ insert_by key x ys else x ∷ (y ∷ ys))
  by true (inl e) more = inl e
  by true (inr k) more = inr (more k)
  by false k more = inr k

ordered_in : {A : Type 0} (key : A → Numbers) (z : A) (xs : List A) → IsIn z xs → IsIn z (in_order key xs)
ordered_in key z [] h = absurd h
ordered_in key z (x ∷ xs) (inl e) = subst (λ y. IsIn z (insert_by key y (in_order key xs))) e (itself_in key z (in_order key xs))
ordered_in key z (x ∷ xs) (inr h) = other_in key x z (in_order key xs) (ordered_in key z xs h)

token_among : (r : Record) (xs : List Record) → IsIn r xs → IsAmong (token_of r) (tokens_of xs)
token_among r [] h = absurd h
token_among r (x ∷ xs) (inl e) = inl (ap token_of (sym e))
token_among r (x ∷ xs) (inr h) = inr (token_among r xs h)

-- what is formed names somebody, by rising numbers
formed_rising : (r : Record) → IsWellFormed r → NamesRising r
formed_rising (records.Voted id superior seats) h = h.3.rise
formed_rising (records.Decided id seats) h = h.1.rise
formed_rising (records.Start incarnation) h = tt
formed_rising (records.LeafPrepared id coordinator key value) h = tt
formed_rising (records.LeafCommitted id) h = tt
formed_rising (records.LeafAborted id) h = tt
formed_rising (records.SubCommitted id) h = tt
formed_rising (records.Ended id) h = tt
formed_rising (records.Done id) h = tt

some_seats : (seats : List Seated) → 1 ≤ length seats → no_seats seats ≡ false
some_seats [] h = let never : ⊥ = omega (arith, h) in absurd never
some_seats (s ∷ ss) h = refl

formed_somebody : (r : Record) → IsWellFormed r → NamesSomebody r
formed_somebody (records.Voted id superior seats) h = some_seats seats h.2
formed_somebody (records.Decided id seats) h = tt
formed_somebody (records.Start incarnation) h = tt
formed_somebody (records.LeafPrepared id coordinator key value) h = tt
formed_somebody (records.LeafCommitted id) h = tt
formed_somebody (records.LeafAborted id) h = tt
formed_somebody (records.SubCommitted id) h = tt
formed_somebody (records.Ended id) h = tt
formed_somebody (records.Done id) h = tt

-- the commit of a vote
commit_in : (id : Numbers) (rs : List Record) → list_any (is_sub_committed id) rs ≡ true → IsIn (records.SubCommitted id) rs
commit_in id [] e = absurd cc
commit_in id (r ∷ rs) e = by (is_sub_committed id r) refl e (commit_in id rs) where
  is_that : (r : Record) → is_sub_committed id r ≡ true → records.SubCommitted id ≡ r
  is_that (records.SubCommitted i) f = ap records.SubCommitted (sym (same_id i id f))
  is_that (records.Start incarnation) f = absurd cc
  is_that other f = absurd cc

  by : (b : Bool) → is_sub_committed id r ≡ b → (b || list_any (is_sub_committed id) rs) ≡ true → (list_any (is_sub_committed id) rs ≡ true → IsIn (records.SubCommitted id) rs)
      → IsIn (records.SubCommitted id) (r ∷ rs)
  by true g f more = inl (is_that r g)
  by false g f more = inr (more f)

abbrev the : {A : Type 0} → A → Option A → A
the d None = d
the d (Some x) = x

abbrev IsSome : {A : Type 0} → Option A → Type 0
IsSome None = ⊥
IsSome (Some x) = Unit {0}

some_of : {A : Type 0} {o : Option A} {x : A} → o ≡ Some x → IsSome o
some_of e = subst IsSome (sym e) tt

module _ (base : List ℕ) (rs : List Record) where
  abbrev ts : List Token
  ts = tokens_of (kept_of Two rs).live

  stands : (r : Record) → IsIn r (live rs) → IsAmong (token_of r) ts
  stands r h = token_among r (in_order record_id (live rs)) (ordered_in record_id r (live rs) h)

  voted_holds : (id : Numbers) (superior : Epr) (seats : List Seated) → IsIn (records.Voted id superior seats) (live rs) → (c : Bool) → list_any (is_sub_committed id) (live rs) ≡ c
      → Holds ts (recovered_voted id superior seats c)
  voted_holds id superior seats h true e = ((λ f. absurd cc), (λ f. inr (refl, stands (records.SubCommitted id) (commit_in id (live rs) e))))
  voted_holds id superior seats h false e = ((λ f. stands (records.Voted id superior seats) h), (λ f. absurd cc))

  behind_holds : (r : Record) (t : Transaction) → IsIn r (live rs) → transaction_from base (live rs) r ≡ Some t → Holds ts t
  behind_holds (records.Voted id superior seats) t h e =
      let x : Transaction = recovered_voted id superior seats (list_any (is_sub_committed id) (live rs)) in
      subst (Holds ts) (ap (the x) e) (voted_holds id superior seats h (list_any (is_sub_committed id) (live rs)) refl)
  behind_holds (records.Decided id seats) t h e =
      let x : Transaction = recovered_decided base id seats in
      subst (Holds ts) (ap (the x) e) ((λ f. absurd cc), (λ f. inl (stands (records.Decided id seats) h)))
  behind_holds (records.Start incarnation) t h e = absurd (some_of e)
  behind_holds (records.LeafPrepared id coordinator key value) t h e = absurd (some_of e)
  behind_holds (records.LeafCommitted id) t h e = absurd (some_of e)
  behind_holds (records.LeafAborted id) t h e = absurd (some_of e)
  behind_holds (records.SubCommitted id) t h e = absurd (some_of e)
  behind_holds (records.Ended id) t h e = absurd (some_of e)
  behind_holds (records.Done id) t h e = absurd (some_of e)

  behind_promised : (r : Record) (l : Leaf) → IsIn r (live rs) → leaf_from r ≡ Some l → IsLeafPromised ts l
  behind_promised (records.LeafPrepared id coordinator key value) l h e =
      let x : Leaf = recovered_leaf id coordinator key value in
      subst (IsLeafPromised ts) (ap (the x) e) (record { prepared = λ durable waits. stands (records.LeafPrepared id coordinator key value) h })
  behind_promised (records.Voted id superior seats) l h e = absurd (some_of e)
  behind_promised (records.Decided id seats) l h e = absurd (some_of e)
  behind_promised (records.Start incarnation) l h e = absurd (some_of e)
  behind_promised (records.LeafCommitted id) l h e = absurd (some_of e)
  behind_promised (records.LeafAborted id) l h e = absurd (some_of e)
  behind_promised (records.SubCommitted id) l h e = absurd (some_of e)
  behind_promised (records.Ended id) l h e = absurd (some_of e)
  behind_promised (records.Done id) l h e = absurd (some_of e)

  -- one record promises one item
  voted_own : (id : Numbers) (superior : Epr) (seats : List Seated) (c : Bool) → (recovered_voted id superior seats c).id ≡ id
  voted_own id superior seats true = refl
  voted_own id superior seats false = refl

  own_promise : (r : Record) (t : Transaction) (l : Leaf) → t.id ≡ l.id → transaction_from base (live rs) r ≡ Some t → is_promise l.id r ≡ true
  own_promise (records.Voted id superior seats) t l same e =
      let x : Transaction = recovered_voted id superior seats (list_any (is_sub_committed id) (live rs)) in
      let own : id ≡ l.id = sym (voted_own id superior seats (list_any (is_sub_committed id) (live rs))) ∙ ap (λ (z : Transaction). z.id) (ap (the x) e) ∙ same in
      ap (λ z. z || false) ((λ i. is_id (own i) l.id) ∙ self_id l.id)
  own_promise (records.Decided id seats) t l same e =
      let x : Transaction = recovered_decided base id seats in
      let own : id ≡ l.id = ap (λ (z : Transaction). z.id) (ap (the x) e) ∙ same in
      (λ i. is_id (own i) l.id) ∙ self_id l.id
  own_promise (records.Start incarnation) t l same e = absurd (some_of e)
  own_promise (records.LeafPrepared id coordinator key value) t l same e = absurd (some_of e)
  own_promise (records.LeafCommitted id) t l same e = absurd (some_of e)
  own_promise (records.LeafAborted id) t l same e = absurd (some_of e)
  own_promise (records.SubCommitted id) t l same e = absurd (some_of e)
  own_promise (records.Ended id) t l same e = absurd (some_of e)
  own_promise (records.Done id) t l same e = absurd (some_of e)

  leaf_promise : (r : Record) (l : Leaf) → leaf_from r ≡ Some l → is_promise l.id r ≡ true
  leaf_promise (records.LeafPrepared id coordinator key value) l e =
      let own : id ≡ l.id = ap (λ (z : Leaf). z.id) (ap (the (recovered_leaf id coordinator key value)) e) in
      ap (λ z. z || (false || false)) ((λ i. is_id (own i) l.id) ∙ self_id l.id)
  leaf_promise (records.Voted id superior seats) l e = absurd (some_of e)
  leaf_promise (records.Decided id seats) l e = absurd (some_of e)
  leaf_promise (records.Start incarnation) l e = absurd (some_of e)
  leaf_promise (records.LeafCommitted id) l e = absurd (some_of e)
  leaf_promise (records.LeafAborted id) l e = absurd (some_of e)
  leaf_promise (records.SubCommitted id) l e = absurd (some_of e)
  leaf_promise (records.Ended id) l e = absurd (some_of e)
  leaf_promise (records.Done id) l e = absurd (some_of e)

  not_both : (r : Record) (t : Transaction) (l : Leaf) → transaction_from base (live rs) r ≡ Some t → leaf_from r ≡ Some l → ⊥
  not_both (records.LeafPrepared id coordinator key value) t l e f = absurd (some_of e)
  not_both (records.Voted id superior seats) t l e f = absurd (some_of f)
  not_both (records.Decided id seats) t l e f = absurd (some_of f)
  not_both (records.Start incarnation) t l e f = absurd (some_of f)
  not_both (records.LeafCommitted id) t l e f = absurd (some_of f)
  not_both (records.LeafAborted id) t l e f = absurd (some_of f)
  not_both (records.SubCommitted id) t l e f = absurd (some_of f)
  not_both (records.Ended id) t l e f = absurd (some_of f)
  not_both (records.Done id) t l e f = absurd (some_of f)

  never_meet : RecoversEach → (t : Transaction) (l : Leaf) → t.id ≡ l.id → StandsFor base (live rs) t → StandsForLeaf (live rs) l → ⊥
  never_meet each t l same x y =
      let one : x.behind ≡ y.behind = each.single rs l.id x.behind y.behind x.live y.live (own_promise x.behind t l same x.is) (leaf_promise y.behind l y.is) in
      not_both y.behind t l (subst (λ r. transaction_from base (live rs) r ≡ Some t) one x.is) y.is

pub record IsOf {A : Type 0} (key : A → Numbers) (xs : List A) (i : Numbers) : Type 0 where
  pub item : A
  pub there : IsIn item xs
  pub own : i ≡ key item

of_ids : {A : Type 0} (key : A → Numbers) (xs : List A) (i : Numbers) → IsIn i (map key xs) → IsOf key xs i
of_ids key [] i h = absurd h
of_ids key (x ∷ xs) i (inl e) = record { item = x; there = inl refl; own = e }
of_ids key (x ∷ xs) i (inr h) = let o = of_ids key xs i h in record { item = o.item; there = inr o.there; own = o.own }

pub recovered_stand : RecoversEach → DecidesBehindEveryAnswer → FinishesAll → LeafStates → ActivityStates → BooksAreShaped
    → (base : List ℕ) (rs : List Record) → AllByRecursion IsWellFormed rs → IsInOrder (recover base rs) → PromisesStand (recover base rs) (kept_of Two rs)
recovered_stand each decides finishes leaf_states activity_states shapes base rs formed order =
    let shaped = shapes.recovered base rs (all_more IsWellFormed NamesSomebody rs formed_somebody formed) in
    let tokens = tokens_of (kept_of Two rs).live in
    let phases = decides.recovered base rs in
    record {
      ready = record {
        order = order;
        phases = phases;
        finished = finishes.recovered base rs (all_more IsWellFormed NamesRising rs formed_rising formed);
        leaves = leaf_states.recovered base rs;
        activities = activity_states.recovered base rs;
      };
      shaped = shaped;
      apart = λ i h k.
          let t = of_ids transaction_id (recover base rs).transactions i h in
          let l = of_ids leaf_id (recover base rs).leaves i k in
          never_meet base rs each t.item l.item (sym t.own ∙ l.own) (each.transactions base rs t.item t.there) (each.leaves base rs l.item l.there);
      promised = record {
        transactions = all_three (Holds tokens) IsShaped (λ t. AreLinked t.phase t.superior t.completion) (IsPromised tokens) (recover base rs).transactions (promised_of tokens)
            (all_in (Holds tokens) (recover base rs).transactions (λ t there. let s = each.transactions base rs t there in behind_holds base rs s.behind t s.live s.is)) shaped phases.links;
        leaves = all_in (IsLeafPromised tokens) (recover base rs).leaves (λ l there. let s = each.leaves base rs l there in behind_promised base rs s.behind l s.live s.is);
        outcomes = refl;
      };
    }

pub stay : StepsMove → MakesUnderTheNextId → StepsTouchOne → IdsRise → RecoversEach → DecidesBehindEveryAnswer → FinishesAll → LeafStates → ActivityStates → BooksAreShaped → PromisesStay
stay moves makes touch rise each decides finishes leaf_states activity_states shapes = record {
  steps = steps_stay moves makes touch rise decides finishes leaf_states activity_states shapes;
  recovered = recovered_stand each decides finishes leaf_states activity_states shapes;
}
