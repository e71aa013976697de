-- What was read and printed, and the status.
use Rattle.std.proofs.Common.{◌≡◌, ℕ, List, [], ◌∷◌, ◌⊎◌, inl, inr, Bool, true, false, Option, Some, None, IsTrue, IfSome, Result, Ok, Err, length, take, nat_eq, ◌≤◌, ◌||◌, refl, sym, subst, ◌∙◌}
use Rattle.std.proofs.lemmas.Bool.{eqb-true}
use Rattle.std.specs.List.{list_any}
use Rattle.std.specs.Io.KnownBytes.{Appends}
use Rattle.site_model.specs.Counts.{RisesBy}
use Rattle.site_model.specs.Source.{IsWhole}
use Rattle.schedules.specs.declared.line.BadLine.{BadLine}
use Rattle.audit_at.specs.Verdicts.{verdict_of}
use Rattle.audit_at.specs.declared.verdict.Verdict.{Verdict}
use Rattle.audit_at.specs.declared.verdict.Verdict.TheVariants as verdicts
use Rattle.audit_cmd.specs.Audits.{IsAudited, IsAuditedInPart}
use Rattle.audit_cmd.specs.JournalLines.{JournalLine, journals_of}
use Rattle.audit_cmd.specs.JournalReports.{Audited, Audits, IsAuditOf, verdict_printed}

-- statuses
abbrev OneOf : ℕ → List ℕ → Type 0
OneOf s [] = ⊥
OneOf s (x ∷ xs) = (s ≡ x) ⊎ OneOf s xs

one_of : (s : ℕ) (xs : List ℕ) → IsTrue (list_any (nat_eq s) xs) → OneOf s xs
one_of s [] h = let no_more : IsTrue false = h in absurd cc
one_of s (x ∷ xs) h = by_test (nat_eq s x) refl (one_of s xs) h
  where
    by_test : (c : Bool) → nat_eq s x ≡ c → (IsTrue (list_any (nat_eq s) xs) → OneOf s xs) → IsTrue (c || list_any (nat_eq s) xs) → OneOf s (x ∷ xs)
    by_test true e rest k = inl (eqb-true s x e)
    by_test false e rest k = inr (rest k)

abbrev ends : List ℕ
ends = 0 ∷ 3 ∷ 7 ∷ 13 ∷ 14 ∷ []

pub not_five : (s : ℕ) → IsTrue (list_any (nat_eq s) (0 ∷ 3 ∷ 7 ∷ 13 ∷ 14 ∷ [])) → s ≡ 5 → ⊥
not_five s h e = let no_more : IsTrue false = subst (λ n. IsTrue (list_any (nat_eq n) (0 ∷ 3 ∷ 7 ∷ 13 ∷ 14 ∷ []))) e h in absurd cc

pub with_five : (s : ℕ) → IsTrue (list_any (nat_eq s) (0 ∷ 3 ∷ 7 ∷ 13 ∷ 14 ∷ [])) → IsTrue (list_any (nat_eq s) (0 ∷ 3 ∷ 5 ∷ 7 ∷ 13 ∷ 14 ∷ []))
with_five s h = by_one (one_of s ends h)
  where
    as_known : (n : ℕ) → IsTrue (list_any (nat_eq n) (0 ∷ 3 ∷ 5 ∷ 7 ∷ 13 ∷ 14 ∷ [])) → s ≡ n → IsTrue (list_any (nat_eq s) (0 ∷ 3 ∷ 5 ∷ 7 ∷ 13 ∷ 14 ∷ []))
    as_known n k e = subst (λ m. IsTrue (list_any (nat_eq m) (0 ∷ 3 ∷ 5 ∷ 7 ∷ 13 ∷ 14 ∷ []))) (sym e) k

    by_one : OneOf s (0 ∷ 3 ∷ 7 ∷ 13 ∷ 14 ∷ []) → IsTrue (list_any (nat_eq s) (0 ∷ 3 ∷ 5 ∷ 7 ∷ 13 ∷ 14 ∷ []))
    by_one (inl e) = as_known 0 refl e
    by_one (inr (inl e)) = as_known 3 refl e
    by_one (inr (inr (inl e))) = as_known 7 refl e
    by_one (inr (inr (inr (inl e)))) = as_known 13 refl e
    by_one (inr (inr (inr (inr (inl e))))) = as_known 14 refl e
    by_one (inr (inr (inr (inr (inr h))))) = absurd h

pub with_reads : (s : ℕ) → IsTrue (list_any (nat_eq s) (0 ∷ 3 ∷ 5 ∷ 7 ∷ 13 ∷ 14 ∷ [])) → IsTrue (list_any (nat_eq s) (0 ∷ 3 ∷ 4 ∷ 5 ∷ 7 ∷ 9 ∷ 10 ∷ 13 ∷ 14 ∷ []))
with_reads s h = by_one (one_of s (0 ∷ 3 ∷ 5 ∷ 7 ∷ 13 ∷ 14 ∷ []) h)
  where
    as_known : (n : ℕ) → IsTrue (list_any (nat_eq n) (0 ∷ 3 ∷ 4 ∷ 5 ∷ 7 ∷ 9 ∷ 10 ∷ 13 ∷ 14 ∷ [])) → s ≡ n → IsTrue (list_any (nat_eq s) (0 ∷ 3 ∷ 4 ∷ 5 ∷ 7 ∷ 9 ∷ 10 ∷ 13 ∷ 14 ∷ []))
    as_known n k e = subst (λ m. IsTrue (list_any (nat_eq m) (0 ∷ 3 ∷ 4 ∷ 5 ∷ 7 ∷ 9 ∷ 10 ∷ 13 ∷ 14 ∷ []))) (sym e) k

    by_one : OneOf s (0 ∷ 3 ∷ 5 ∷ 7 ∷ 13 ∷ 14 ∷ []) → IsTrue (list_any (nat_eq s) (0 ∷ 3 ∷ 4 ∷ 5 ∷ 7 ∷ 9 ∷ 10 ∷ 13 ∷ 14 ∷ []))
    by_one (inl e) = as_known 0 refl e
    by_one (inr (inl e)) = as_known 3 refl e
    by_one (inr (inr (inl e))) = as_known 5 refl e
    by_one (inr (inr (inr (inl e)))) = as_known 7 refl e
    by_one (inr (inr (inr (inr (inl e))))) = as_known 13 refl e
    by_one (inr (inr (inr (inr (inr (inl e)))))) = as_known 14 refl e
    by_one (inr (inr (inr (inr (inr (inr h)))))) = absurd h

-- the status of an audit
abbrev HasEnd : Audited → Type 0
HasEnd audited = IsTrue (list_any (nat_eq audited.status) (0 ∷ 3 ∷ 7 ∷ 13 ∷ 14 ∷ []))

of_verdict : (v : Verdict) → HasEnd (verdict_printed v)
of_verdict (verdicts.Agreed committed aborted) = refl
of_verdict (verdicts.Split base id) = refl
of_verdict (verdicts.Cycle base id) = refl

of_audit : (r : Result (List JournalLine) BadLine) (audited : Audited) → Audits r audited → HasEnd audited
of_audit (Ok lines) audited (inl v) = subst HasEnd (sym v.is) (of_verdict (verdict_of v.logs))
of_audit (Ok lines) audited (inr b) = subst HasEnd (sym b.printed) refl
of_audit (Err bad) audited e = subst HasEnd (sym e) refl

pub status_of : (input : List ℕ) (audited : Audited) → IsAuditOf input audited → IsTrue (list_any (nat_eq audited.status) (0 ∷ 3 ∷ 7 ∷ 13 ∷ 14 ∷ []))
status_of input audited h = of_audit (journals_of input) audited h

-- what was read is what was audited
on_some : {P Q : List ℕ → Type 0} (left : Option (List ℕ)) → ((input : List ℕ) → P input → Q input) → IfSome left P → IfSome left Q
on_some None f h = tt
on_some (Some input) f h = f input h

pub all_given : (left : Option (List ℕ)) (before now : ℕ) (bytes : List ℕ) → IsWhole left before now bytes → IfSome left (λ input. RisesBy (length input) before now)
all_given left before now bytes h =
    on_some {P = λ input. bytes ≡ input} {Q = λ input. RisesBy (length input) before now} left (λ input e. subst (λ x. RisesBy (length x) before now) e h.given) h.all

pub all_printed : (left : Option (List ℕ)) (before now : ℕ) (bytes told : List ℕ) (old new : Option (List ℕ)) (status : ℕ) (audited : Audited) → IsWhole left before now bytes → told ≡ bytes
    → IsAuditOf told audited → ((status ≡ 5 → ⊥) → (status ≡ audited.status) × Appends old new audited.text) → IsTrue (list_any (nat_eq status) (0 ∷ 3 ∷ 7 ∷ 13 ∷ 14 ∷ []))
    → IfSome left (λ input. IsAudited input old new status)
all_printed left before now bytes told old new status audited whole t is all done =
    let (e, printed) = all (not_five status done) in
    on_some {P = λ input. bytes ≡ input} {Q = λ input. IsAudited input old new status} left
    (λ input f. record { audited = audited; is = subst (λ x. IsAuditOf x audited) (t ∙ f) is; printed = printed; ended = e }) whole.all

pub part_printed : (left : Option (List ℕ)) (before now : ℕ) (bytes told : List ℕ) (old new : Option (List ℕ)) (audited : Audited) → IsWhole left before now bytes → told ≡ bytes → IsAuditOf told audited
    → (n : ℕ) × ((n ≤ length audited.text) × Appends old new (take n audited.text)) → IfSome left (λ input. IsAuditedInPart input old new)
part_printed left before now bytes told old new audited whole t is (n, (within, part)) =
    on_some {P = λ input. bytes ≡ input} {Q = λ input. IsAuditedInPart input old new} left
    (λ input f. record { audited = audited; is = subst (λ x. IsAuditOf x audited) (t ∙ f) is; count = n; within = within; printed = part }) whole.all
