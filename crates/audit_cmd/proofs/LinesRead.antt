-- Lines whose files are read one by one.
use Rattle.std.proofs.Common.{ℕ, List, [], ◌∷◌, ◌++◌, ◌≡◌, ◌+◌, ◌<◌, ◌≤◌, ◌⊎◌, Err, inl, inr, sym, ◌∙◌, ap, subst, take, drop, length, get_or, refl, arith}
use Rattle.std.proofs.lemmas.List.{append_assoc, length-take-le, take-append-drop, take_all, take_more}
use Rattle.journal_at.specs.declared.records.Records.{Records}
use Rattle.journal_at.specs.Scans.{records_in}
use Rattle.audit_at.specs.declared.verdict.Verdict.{Verdict}
use Rattle.audit_at.specs.Audits.{AreLogsOf}
use Rattle.audit_cmd.specs.JournalLines.{JournalLine}
use Rattle.audit_cmd.specs.JournalReports.{AreStanding, Audited, IsBadJournal, IsBadJournalOf, IsVerdictOf, JournalOf, Stands, bad_journal, verdict_printed}
use Rattle.audit_cmd.specs.Readings.{AreRead, IsUnread, IsWhy, unread_at}
use Rattle.audit_cmd.specs.declared.journals.JournalFault.{JournalFault}
use Rattle.audit_cmd.specs.declared.journals.JournalFault.TheVariants as faults
use Rattle.audit_cmd.specs.declared.report.Unread.{Unread}
use Rattle.audit_at.specs.Superiors.{Log}
use Rattle.audit_at.specs.Verdicts.{verdict_of}

read_push : (lines : List JournalLine) (journals : List (List ℕ × Records)) (line : JournalLine) (records : Records) → AreRead lines journals → Stands line.files records
    → AreRead (lines ++ line ∷ []) (journals ++ (line.base, records) ∷ [])
read_push [] [] line records h k = (refl, k, tt)
read_push [] (j ∷ journals) line records h k = absurd h
read_push (x ∷ lines) [] line records h k = absurd h
read_push (x ∷ lines) (j ∷ journals) line records (b, s, h) k = (b, s, read_push lines journals line records h k)

pub one_read : (lines : List JournalLine) (i : ℕ) (d line : JournalLine) (journals more : List (List ℕ × Records)) (records : Records) → i < length lines → line ≡ get_or lines i d
    → Stands line.files records → more ≡ journals ++ (line.base, records) ∷ [] → AreRead (take i lines) journals → AreRead (take (i + 1) lines) more
one_read lines i d line journals more records l e k f h =
    subst (AreRead (take (i + 1) lines)) (sym f)
    (subst (λ ls. AreRead ls (journals ++ (line.base, records) ∷ [])) (sym (take_more lines i d l ∙ ap (λ x. take i lines ++ x ∷ []) (sym e))) (read_push (take i lines) journals line records h k))

pub all_read : (lines : List JournalLine) (i : ℕ) (journals : List (List ℕ × Records)) → length lines ≤ i → AreRead (take i lines) journals → AreRead lines journals
all_read lines i journals l h = subst (λ ls. AreRead ls journals) (take_all i lines l) h

bad_line_at : (lines : List JournalLine) (i number file place : ℕ) (d line : JournalLine) (journals : List (List ℕ × Records)) → i < length lines → line ≡ get_or lines i d
    → IsBadJournal file place line.files → number ≡ i + 1 → AreRead (take i lines) journals → IsUnread number file place lines
bad_line_at lines i number file place d line journals l e k n h = record {
  front = take i lines;
  line = line;
  rest = drop (i + 1) lines;
  is = sym (take-append-drop (i + 1) lines) ∙ ap (λ z. z ++ drop (i + 1) lines) (take_more lines i d l ∙ ap (λ x. take i lines ++ x ∷ []) (sym e)) ∙ append_assoc (take i lines) (line ∷ []) (drop (i + 1) lines);
  journals = journals;
  read = h;
  numbered = n ∙ ap (λ k. k + 1) (sym (length-take-le i lines (omega (arith, l))));
  bad = k;
}

pub one_unread : (lines : List JournalLine) (i number : ℕ) (fault : JournalFault) (why : Unread) (d line : JournalLine) (journals : List (List ℕ × Records)) → i < length lines → line ≡ get_or lines i d
    → JournalOf (Err fault) line.files → number ≡ i + 1 → why ≡ unread_at number fault → AreRead (take i lines) journals → IsWhy why lines
one_unread lines i number faults.NoMemory why d line journals l e k n f h = subst (λ y. IsWhy y lines) (sym f) tt
one_unread lines i number (faults.Bad file place) why d line journals l e k n f h = subst (λ y. IsWhy y lines) (sym f) (bad_line_at lines i number file place d line journals l e k n h)

-- what lines stand for, and what is audited of them
pub both_logs : (lines : List JournalLine) (journals : List (List ℕ × Records)) → AreRead lines journals → (logs : List Log) × AreLogsOf journals logs × AreStanding lines logs
both_logs [] [] h = ([], tt, tt)
both_logs [] (j ∷ journals) h = absurd h
both_logs (line ∷ lines) [] h = absurd h
both_logs (line ∷ lines) (j ∷ journals) (b, s, h) =
    let (logs, are, stand) = both_logs lines journals h in
    let log : Log = record { base = j.0; records = s.all } in
    (log ∷ logs, ((refl, s.are), are), (record { base = b; version = j.1.version; bodies = records_in j.1; files = s.is; are = s.are }, stand))

pub may_be_audited : (lines : List JournalLine) (journals : List (List ℕ × Records)) → AreRead lines journals → (logs : List Log) × AreLogsOf journals logs
may_be_audited lines journals h = let (logs, are, stand) = both_logs lines journals h in (logs, are)

pub judged : (lines : List JournalLine) (journals told : List (List ℕ × Records)) (verdict : Verdict) (audited : Audited) → AreRead lines journals → told ≡ journals
    → ((logs : List Log) → AreLogsOf told logs → verdict ≡ verdict_of logs) → audited ≡ verdict_printed verdict → IsVerdictOf lines audited ⊎ IsBadJournalOf lines audited
judged lines journals told verdict audited h t k e =
    let (logs, are, stand) = both_logs lines journals h in
    inl (record { logs = logs; stand = stand; is = e ∙ ap verdict_printed (k logs (subst (λ js. AreLogsOf js logs) (sym t) are)) })

pub unread : (lines : List JournalLine) (number file place : ℕ) (audited : Audited) → IsUnread number file place lines
    → audited ≡ record { text = bad_journal number file place; status = 7 } → IsVerdictOf lines audited ⊎ IsBadJournalOf lines audited
unread lines number file place audited h e =
    let (logs, are, stand) = both_logs h.front h.journals h.read in
    inr (record {
      front = h.front;
      line = h.line;
      rest = h.rest;
      is = h.is;
      logs = logs;
      stand = stand;
      file = file;
      place = place;
      bad = h.bad;
      printed = e ∙ (λ i. record { text = bad_journal (h.numbered i) file place; status = 7 });
    })
