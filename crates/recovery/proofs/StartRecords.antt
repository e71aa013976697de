-- A Start behind the records ends nothing.
use Rattle.std.proofs.Common.{ℕ, List, [], ◌∷◌, ◌≡◌, ◌++◌, ◌<◌, true, not, refl, sym, ◌∙◌, ap, subst, if◌then◌else◌, max, arith}
use Rattle.at_base.specs.Numbers.{Numbers}
use Rattle.at_base.specs.declared.record.Record.{Record}
use Rattle.at_base.specs.declared.record.Record.TheVariants as records
use Rattle.journal_at.specs.declared.version.Version.TheVariants.{Two}
use Rattle.interposition.specs.Recoveries.{StandFor}
use Rattle.decision_log.specs.KeptRecords.{GrowsByOne, Known, frees, freed, kept_of}
use Rattle.decision_log.specs.Tokens.{token_of}

none_freed : (n : ℕ) (x : Record) → not (frees (records.Start n) (token_of x)) ≡ true
none_freed n (records.Start m) = refl
none_freed n (records.LeafPrepared i c key value) = refl
none_freed n (records.LeafCommitted i) = refl
none_freed n (records.LeafAborted i) = refl
none_freed n (records.Voted i s ss) = refl
none_freed n (records.Decided i ss) = refl
none_freed n (records.SubCommitted i) = refl
none_freed n (records.Ended i) = refl
none_freed n (records.Done i) = refl

all_stay : (n : ℕ) (xs : List Record) → freed (records.Start n) xs ≡ xs
all_stay n [] = refl
all_stay n (x ∷ xs) = λ i. if none_freed n x i then x ∷ all_stay n xs i else all_stay n xs i

pub stand_for : GrowsByOne → (k : Known) (rs : List Record) (n : ℕ) (left : List Record) (ids : List Numbers) → left ≡ k.live → ids ≡ k.done → k ≡ kept_of Two rs → k.start < n
    → StandFor (rs ++ records.Start n ∷ []) left ids n
stand_for law k rs n left ids l d e s =
    let grown = law rs (records.Start n) in
    let start : (kept_of Two rs).start < n = subst (λ (x : Known). x.start < n) e s in
    let last : max n (kept_of Two rs).start ≡ n = omega (arith, start) in
    record {
      live = l ∙ ap (λ (x : Known). x.live) e ∙ sym (all_stay n (kept_of Two rs).live) ∙ ap (λ (x : Known). x.live) grown;
      done = d ∙ ap (λ (x : Known). x.done) e ∙ ap (λ (x : Known). x.done) grown;
      incarnation = sym last ∙ ap (λ (x : Known). x.start) grown;
    }
