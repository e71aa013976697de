-- Where outcomes agree, none under one top differ.
use Rattle.std.proofs.Common.{ℕ, List, [], ◌∷◌, ◌≡◌, ◌∙◌, ◌⊎◌, inl, inr, Bool, true, false, not, ◌||◌, Option, Some, None, sym, ap, refl, cond, eq-eqb}
use Rattle.std.specs.Prelude.{filter, map}
use Rattle.std.proofs.lemmas.Slice.Eq.{bytes_eq-Decides}
use Rattle.model_laws.specs.Agreement.{IsIn}
use Rattle.audit_at.specs.declared.item.Item.{Item}
use Rattle.audit_at.specs.declared.outcome.Outcome.{Outcome}
use Rattle.audit_at.specs.declared.verdict.Verdict.TheVariants as verdicts
use Rattle.audit_at.specs.Outcomes.{outcomes}
use Rattle.audit_at.specs.Superiors.{is_item, subordinates}
use Rattle.audit_at.specs.Verdicts.{AgreedIsWhole, aborted_tops, committed_tops, is_among, least, least_from, lesser, cycle_or, cycles, splits, split_or_agreed}

kept : (x : Item) (xs : List Item) → least_from (Some x) xs ≡ None → ⊥
kept x [] e = absurd cc
kept x (y ∷ ys) e = kept (lesser (Some x) y) ys e

none_least : (xs : List Item) → least xs ≡ None → xs ≡ []
none_least [] e = refl
none_least (x ∷ xs) e = absurd (kept (lesser None x) xs e)

no_split : (os : List Outcome) (split : Option Item) (committed aborted : ℕ) → split_or_agreed os split ≡ verdicts.Agreed committed aborted → split ≡ None
no_split os None committed aborted e = refl
no_split os (Some top) committed aborted e = absurd cc

no_cycle : (os : List Outcome) (cycle : Option Item) (committed aborted : ℕ) → cycle_or os cycle ≡ verdicts.Agreed committed aborted → splits os ≡ []
no_cycle os None committed aborted e = none_least (splits os) (no_split os (least (splits os)) committed aborted e)
no_cycle os (Some item) committed aborted e = absurd cc

same_item : (item : Item) → is_item item item ≡ true
same_item item =
    rw ((bytes_eq-Decides item.base item.base).1 refl, eq-eqb item.id.incarnation item.id.incarnation refl, eq-eqb item.id.counter item.id.counter refl) refl

among : (top : Item) (tops : List Item) → IsIn top tops → is_among tops top ≡ true
among top [] h = absurd h
among top (x ∷ tops) (inl e) = ap (λ y. is_item y top || is_among tops top) (sym e) ∙ ap (λ b. b || is_among tops top) (same_item top)
among top (x ∷ tops) (inr h) = either (is_item x top) (among top tops h)
  where
    either : (b : Bool) → is_among tops top ≡ true → (b || is_among tops top) ≡ true
    either true e = refl
    either false e = e

differ : false ≡ true → ⊥
differ e = absurd cc

top_by : (test : Outcome → Bool) (o x : Outcome) (os : List Outcome) (b : Bool) → (IsIn o os → IsIn o.top (map (λ o. o.top) (filter test os)))
    → test o ≡ true → test x ≡ b → (o ≡ x) ⊎ IsIn o os → IsIn o.top (map (λ o. o.top) (cond b (x ∷ filter test os) (filter test os)))
top_by test o x os true h t f (inl e) = inl (ap (λ o. o.top) e)
top_by test o x os true h t f (inr k) = inr (h k)
top_by test o x os false h t f (inl e) = absurd (differ (sym f ∙ (ap test (sym e) ∙ t)))
top_by test o x os false h t f (inr k) = h k

top_in : (test : Outcome → Bool) (o : Outcome) (os : List Outcome) → IsIn o os → test o ≡ true → IsIn o.top (map (λ o. o.top) (filter test os))
top_in test o [] h t = absurd h
top_in test o (x ∷ os) h t = top_by test o x os (test x) (λ k. top_in test o os k t) t refl h

left_by : (test : Item → Bool) (top x : Item) (tops : List Item) (b : Bool) → (IsIn top tops → filter test tops ≡ [] → ⊥)
    → test top ≡ true → test x ≡ b → (top ≡ x) ⊎ IsIn top tops → cond b (x ∷ filter test tops) (filter test tops) ≡ [] → ⊥
left_by test top x tops true h t f k e = absurd cc
left_by test top x tops false h t f (inl g) e = absurd (differ (sym f ∙ (ap test (sym g) ∙ t)))
left_by test top x tops false h t f (inr k) e = h k e

left : (test : Item → Bool) (top : Item) (tops : List Item) → IsIn top tops → test top ≡ true → filter test tops ≡ [] → ⊥
left test top [] h t e = h
left test top (x ∷ tops) h t e = left_by test top x tops (test x) (λ k f. left test top tops k t f) t refl h e

unsplit : (os : List Outcome) (one other : Outcome) → splits os ≡ [] → IsIn one os → IsIn other os → one.top ≡ other.top → one.committed ≡ true → other.committed ≡ false → ⊥
unsplit os one other e h k t c a =
    left (λ top. is_among (aborted_tops os) top) one.top (committed_tops os) (top_in (λ o. o.committed) one os h c)
    (ap (is_among (aborted_tops os)) t ∙ among other.top (aborted_tops os) (top_in (λ o. not o.committed) other os k (ap not a))) e

pub agreed_is_whole : AgreedIsWhole
agreed_is_whole logs committed aborted one other e h k t = by_case one.committed other.committed refl refl
  where
    none : splits (outcomes logs) ≡ []
    none = no_cycle (outcomes logs) (least (cycles (subordinates logs))) committed aborted e

    by_case : (b c : Bool) → one.committed ≡ b → other.committed ≡ c → one.committed ≡ other.committed
    by_case true true f g = f ∙ sym g
    by_case false false f g = f ∙ sym g
    by_case true false f g = absurd (unsplit (outcomes logs) one other none h k t f g)
    by_case false true f g = absurd (unsplit (outcomes logs) other one none k h (sym t) g f)
