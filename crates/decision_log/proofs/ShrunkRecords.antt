-- Shrunk records make the same Kept.
use Rattle.std.proofs.Common.{ℕ, zero, suc, List, [], ◌∷◌, ◌≡◌, ◌++◌, refl, sym, ◌∙◌, ap, max, map, arith}
use Rattle.std.proofs.lemmas.List.{append_assoc, append-nil}
use Rattle.at_base.specs.declared.record.Record.{Record}
use Rattle.at_base.specs.declared.record.Record.TheVariants as records
use Rattle.at_model.specs.Outcomes.{outcomes_after}
use Rattle.at_model.specs.Recovery.{in_order, last_incarnation, live}
use Rattle.model_laws.specs.Compactions.{RecoversTheCompacted, compacted, record_id}
use Rattle.journal_at.specs.declared.version.Version.TheVariants.{One, Two}
use Rattle.decision_log.specs.KeptRecords.{Known, after, kept_of}
use Rattle.decision_log.specs.ShrunkJournals.{ShrinksTheSame, shrunk, start_of}
use Rattle.decision_log.proofs.RecordFolds.{grows_by_one}
use Rattle.decision_log.proofs.Migrations.{moved, moves}
use Rattle.decision_log.proofs.Order.{in_order_sorted, sorted_again}

-- one record after the other
abbrev run : Known → List Record → Known
run k [] = k
run k (r ∷ rs) = run (after r k) rs

runs : (rs more : List Record) → run (kept_of Two rs) more ≡ kept_of Two (rs ++ more)
runs rs [] = ap (kept_of Two) (sym (append-nil rs))
runs rs (r ∷ more) = ap (λ k. run k more) (grows_by_one rs r) ∙ runs (rs ++ r ∷ []) more ∙ ap (kept_of Two) (append_assoc rs (r ∷ []) more)

pub followed : (rs others more : List Record) → kept_of Two rs ≡ kept_of Two others → kept_of Two (rs ++ more) ≡ kept_of Two (others ++ more)
followed rs others more e = sym (runs rs more) ∙ ap (λ k. run k more) e ∙ runs others more

-- a Start of no incarnation says nothing
started : (n : ℕ) (rs : List Record) → kept_of Two (start_of n ++ rs) ≡ kept_of Two (records.Start n ∷ rs)
started zero rs =
    let none : last_incarnation rs ≡ max 0 (last_incarnation rs) = omega arith in
    λ i. record { live = in_order record_id (live rs); start = none i; done = outcomes_after [] rs }
started (suc n) rs = refl

sorted_once : (rs : List Record) → in_order record_id (in_order record_id (live rs)) ≡ in_order record_id (live rs)
sorted_once rs = sorted_again record_id (in_order record_id (live rs)) (in_order_sorted record_id (live rs))

compacted_same : RecoversTheCompacted → (rs : List Record) → kept_of Two (compacted rs) ≡ kept_of Two rs
compacted_same law rs =
    let book = law.book [] rs in
    λ i. record {
      live = (ap (in_order record_id) (law.live rs) ∙ sorted_once rs) i;
      start = (book i).incarnation;
      done = (book i).outcomes;
    }

pub same : RecoversTheCompacted → (rs : List Record) → kept_of Two (shrunk (kept_of Two rs)) ≡ kept_of Two rs
same law rs = started (last_incarnation rs) (in_order record_id (live rs) ++ map records.Done (outcomes_after [] rs)) ∙ compacted_same law rs

migrated : RecoversTheCompacted → (rs : List Record) → kept_of Two (shrunk (kept_of One rs)) ≡ kept_of One rs
migrated law rs = ap (λ k. kept_of Two (shrunk k)) (sym (moves rs)) ∙ same law (moved rs) ∙ moves rs

pub shrinks_the_same : RecoversTheCompacted → ShrinksTheSame
shrinks_the_same law = record {
  same = same law;
  followed = λ rs more. followed (shrunk (kept_of Two rs)) rs more (same law rs);
  migrated = migrated law;
}
