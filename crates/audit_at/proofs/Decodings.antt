-- Bodies that are read as records.
use Rattle.std.proofs.Common.{ℕ, zero, suc, List, [], ◌∷◌, ◌≡◌, ◌++◌, ◌+◌, ◌<◌, ◌≤◌, sym, ◌∙◌, ap, subst, take, length, get_or, arith, refl}
use Rattle.std.proofs.lemmas.List.{map-append, take_all, take_more}
use Rattle.at_base.specs.declared.record.Record.{Record}
use Rattle.journal_at.specs.declared.read.Placed.{Placed}
use Rattle.journal_at.specs.declared.records.Records.{Records}
use Rattle.journal_at.specs.declared.version.Version.{Version}
use Rattle.journal_at.specs.Frames.{bodies_of, body_of}
use Rattle.journal_at.specs.Scans.{records_in}
use Rattle.record_bytes.specs.Versions.{AreApart, IsRecord}
use Rattle.decision_log.specs.Folds.{AreRecords}
use Rattle.audit_at.specs.declared.verdict.Verdict.{Verdict}
use Rattle.audit_at.specs.Audits.{AreLogsOf, IsLogOf}
use Rattle.audit_at.specs.Superiors.{Log}
use Rattle.audit_at.specs.Verdicts.{verdict_of}

records_push : (version : Version) (rs : List Record) (bodies : List (List ℕ)) (r : Record) (body : List ℕ) → AreRecords version rs bodies → IsRecord version r body → AreRecords version (rs ++ r ∷ []) (bodies ++ body ∷ [])
records_push version [] [] r body h k = (k, tt)
records_push version [] (b ∷ bodies) r body h k = absurd h
records_push version (x ∷ rs) [] r body h k = absurd h
records_push version (x ∷ rs) (b ∷ bodies) r body (h, l) k = (h, records_push version rs bodies r body l k)

bodies_more : (placed : List Placed) (i : ℕ) (d p : Placed) → i < length placed → p ≡ get_or placed i d → bodies_of (take (i + 1) placed) ≡ bodies_of (take i placed) ++ body_of p ∷ []
bodies_more placed i d p l e =
    ap bodies_of (take_more placed i d l) ∙ map-append body_of (take i placed) (get_or placed i d ∷ []) ∙ ap (λ x. bodies_of (take i placed) ++ body_of x ∷ []) (sym e)

pub one_more : (version : Version) (placed : List Placed) (i : ℕ) (d p : Placed) (rs ss : List Record) (r : Record) → i < length placed → p ≡ get_or placed i d
    → IsRecord version r (body_of p) → ss ≡ rs ++ r ∷ [] → AreRecords version rs (bodies_of (take i placed)) → AreRecords version ss (bodies_of (take (i + 1) placed))
one_more version placed i d p rs ss r l e k f h =
    subst (λ xs. AreRecords version xs (bodies_of (take (i + 1) placed))) (sym f)
    (subst (AreRecords version (rs ++ r ∷ [])) (sym (bodies_more placed i d p l e)) (records_push version rs (bodies_of (take i placed)) r (body_of p) h k))

pub all_read : (version : Version) (placed : List Placed) (i : ℕ) (rs : List Record) → length placed ≤ i → AreRecords version rs (bodies_of (take i placed)) → AreRecords version rs (bodies_of placed)
all_read version placed i rs l h = subst (λ ps. AreRecords version rs (bodies_of ps)) (take_all i placed l) h

pub no_other : (version : Version) (rs : List Record) (placed : List Placed) (i : ℕ) (d p : Placed) → i < length placed → p ≡ get_or placed i d → AreRecords version rs (bodies_of placed) → ((r : Record) → IsRecord version r (body_of p) → ⊥) → ⊥
no_other version rs [] i d p l e h none = absurd (omega (arith, l))
no_other version [] (x ∷ placed) i d p l e h none = h
no_other version (r ∷ rs) (x ∷ placed) zero d p l e (h, k) none = none r (subst (λ y. IsRecord version r (body_of y)) (sym e) h)
no_other version (r ∷ rs) (x ∷ placed) (suc i) d p l e (h, k) none = no_other version rs placed i d p (omega (arith, l)) e k none

same_records : AreApart → (version : Version) (rs ss : List Record) (bodies : List (List ℕ)) → AreRecords version rs bodies → AreRecords version ss bodies → rs ≡ ss
same_records apart version [] [] [] h k = refl
same_records apart version [] [] (b ∷ bodies) h k = absurd h
same_records apart version (r ∷ rs) ss [] h k = absurd h
same_records apart version [] (s ∷ ss) [] h k = absurd k
same_records apart version [] (s ∷ ss) (b ∷ bodies) h k = absurd h
same_records apart version (r ∷ rs) [] (b ∷ bodies) h k = absurd k
same_records apart version (r ∷ rs) (s ∷ ss) (b ∷ bodies) (h, l) (k, m) = λ i. apart version version r s b h k i ∷ same_records apart version rs ss bodies l m i

same_log : AreApart → (journal : List ℕ × Records) (one other : Log) → IsLogOf journal one → IsLogOf journal other → one ≡ other
same_log apart journal one other (e, h) (f, k) =
    let base : one.base ≡ other.base = e ∙ sym f in
    let all : one.records ≡ other.records = same_records apart journal.1.version one.records other.records (records_in journal.1) h k in
    λ i. record { base = base i; records = all i }

same_logs : AreApart → (journals : List (List ℕ × Records)) (logs others : List Log) → AreLogsOf journals logs → AreLogsOf journals others → logs ≡ others
same_logs apart [] [] [] h k = refl
same_logs apart [] [] (o ∷ others) h k = absurd k
same_logs apart [] (log ∷ logs) others h k = absurd h
same_logs apart (j ∷ journals) [] others h k = absurd h
same_logs apart (j ∷ journals) (log ∷ logs) [] h k = absurd k
same_logs apart (j ∷ journals) (log ∷ logs) (o ∷ others) (h, l) (k, m) = λ i. same_log apart j log o h k i ∷ same_logs apart journals logs others l m i

pub only_verdict : AreApart → (journals : List (List ℕ × Records)) (logs others : List Log) (verdict : Verdict) → AreLogsOf journals logs → verdict ≡ verdict_of logs → AreLogsOf journals others → verdict ≡ verdict_of others
only_verdict apart journals logs others verdict h e k = e ∙ ap verdict_of (same_logs apart journals logs others h k)

logs_push : (journals : List (List ℕ × Records)) (logs : List Log) (journal : List ℕ × Records) (log : Log) → AreLogsOf journals logs → IsLogOf journal log → AreLogsOf (journals ++ journal ∷ []) (logs ++ log ∷ [])
logs_push [] [] journal log h k = (k, tt)
logs_push [] (o ∷ logs) journal log h k = absurd h
logs_push (j ∷ journals) [] journal log h k = absurd h
logs_push (j ∷ journals) (o ∷ logs) journal log (h, l) k = (h, logs_push journals logs journal log l k)

pub one_log_more : (journals : List (List ℕ × Records)) (i : ℕ) (d journal : List ℕ × Records) (logs more : List Log) (log : Log) → i < length journals → journal ≡ get_or journals i d
    → IsLogOf journal log → more ≡ logs ++ log ∷ [] → AreLogsOf (take i journals) logs → AreLogsOf (take (i + 1) journals) more
one_log_more journals i d journal logs more log l e k f h =
    subst (AreLogsOf (take (i + 1) journals)) (sym f)
    (subst (λ js. AreLogsOf js (logs ++ log ∷ [])) (sym (take_more journals i d l ∙ ap (λ j. take i journals ++ j ∷ []) (sym e))) (logs_push (take i journals) logs journal log h k))

pub all_logs : (journals : List (List ℕ × Records)) (i : ℕ) (logs : List Log) → length journals ≤ i → AreLogsOf (take i journals) logs → AreLogsOf journals logs
all_logs journals i logs l h = subst (λ js. AreLogsOf js logs) (take_all i journals l) h

-- each journal of those has its records
pub may_go_on : (journals : List (List ℕ × Records)) (logs : List Log) (i : ℕ) (d journal : List ℕ × Records) → i < length journals → journal ≡ get_or journals i d → AreLogsOf journals logs → (log : Log) × IsLogOf journal log
may_go_on [] logs i d journal l e h = absurd (omega (arith, l))
may_go_on (j ∷ journals) [] i d journal l e h = absurd h
may_go_on (j ∷ journals) (log ∷ logs) zero d journal l e (h, k) = (log, subst (λ j. IsLogOf j log) (sym e) h)
may_go_on (j ∷ journals) (log ∷ logs) (suc i) d journal l e (h, k) = may_go_on journals logs i d journal (omega (arith, l)) e k
