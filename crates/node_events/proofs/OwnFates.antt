-- The fates of a step's record, and how many calls and records stand before a stop.
use Rattle.std.specs.Prelude.{ℕ, List, [], ◌∷◌, ◌+◌, ◌-◌, ◌≡◌, ◌≤◌, ◌⊎◌, Bool, true, false, None, Some, length, nat_lt, replicate, zero, suc, refl}
use Rattle.std.proofs.Common.{inl, inr, ap, arith, ◌∙◌}
use Rattle.std.proofs.lemmas.Bool.{lt-ltb}
use Rattle.std.proofs.lemmas.List.{length-append, length-replicate}
use Rattle.at_base.specs.declared.record.Record.{Record}
use Rattle.fated_walks.specs.Fated.{Fated, StartsWith, record_fates, stands_by}
use Rattle.node_at.specs.Steps.{if_landed}
use Rattle.node_at.specs.TurnText.{TurnStep}
use Rattle.node_events.specs.NodeEvents.{records_if, struck}
use Rattle.node_events.proofs.CutRows.{HasYes}
use Rattle.node_events.proofs.PlannedSteps.{counts_as}
use Rattle.node_worlds.specs.SentPosts.{records_by}

pub starts_itself : (fates : List Bool) → StartsWith fates fates
starts_itself [] = tt
starts_itself (f ∷ fs) = (refl, starts_itself fs)

pub not_absent : (landed : Bool) → landed ≡ true → landed ≡ false → ⊥
not_absent landed e f = cc

-- a step of which its record alone had a fate
module _ (s : TurnStep) (entry : Record) (e : s.entry ≡ Some entry) (landed : s.landed ≡ true) where
  pub stands_counted : counts_as s.entry s.landed ≡ true
  stands_counted = λ j. counts_as (e j) (landed j)

  pub own_fate : record_fates s.entry (counts_as s.entry s.landed) ≡ true ∷ []
  own_fate = λ j. record_fates (e j) (stands_counted j)

-- How many fates the record of a step has, where it stands.
pub record OwnFates (s : TurnStep) (f : Fated) (n : ℕ) : Type 0 where
  pub yes : HasYes f n
  pub count : length (records_by (if_landed s.landed s.entry)) ≡ n

pub no_own : (s : TurnStep) (f : Fated) → s.entry ≡ None → f.entry ≡ s.entry → OwnFates s f 0
no_own s f e same = record {
  yes = ap (λ o. record_fates o f.landed) (same ∙ e);
  count = ap (λ o. length (records_by (if_landed s.landed o))) e ∙ by_landed s.landed;
}
  where
    by_landed : (landed : Bool) → length (records_by (if_landed landed None)) ≡ 0
    by_landed true = refl
    by_landed false = refl

pub one_own : (s : TurnStep) (f : Fated) (r : Record) → s.entry ≡ Some r → f.entry ≡ s.entry → f.landed ≡ true → s.landed ≡ true → OwnFates s f 1
one_own s f r e same stands landed = record {
  yes = λ j. record_fates ((same ∙ e) j) (stands j);
  count = λ j. length (records_by (if_landed (landed j) (e j)));
}

pub stands_landed : (r : Record) (landed : Bool) → stands_by (Some r) true ≡ records_by (if_landed landed (Some r)) → landed ≡ true
stands_landed r true e = refl
stands_landed r false e = absurd cc

-- the records are all there, where a step with one comes before the stop
pub all_records : (rs : List Record) (b : Bool) → (length rs ≡ 0) ⊎ (b ≡ true) → rs ≡ records_if b rs
all_records rs true h = refl
all_records [] false h = refl
all_records (r ∷ rs) false (inl e) = absurd (omega (arith, e))
all_records (r ∷ rs) false (inr e) = absurd cc

pub comes_before : (n m : ℕ) → n ≤ m → (n ≡ 0) ⊎ (nat_lt 0 m ≡ true)
comes_before zero m h = inl refl
comes_before (suc n) m h = inr (lt-ltb 0 m (omega (arith, h)))

pub counted : (n k e m l : ℕ) → m ≡ n + k → l ≡ n → k + e ≡ m + e - l
counted n k e m l f g = omega (arith, f, g)

pub struck_length : (k : ℕ) (last : Bool) → length (struck k last) ≡ k + 1
struck_length k last = length-append (replicate k true) (last ∷ []) ∙ ap (λ m. m + 1) (length-replicate k true)
