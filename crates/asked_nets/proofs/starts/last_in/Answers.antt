use Rattle.std.specs.Prelude.{ℕ, List, Ok, Err, Result, IfOk, ◌≡◌}
use Rattle.std.proofs.Common.{subst}
use Rattle.at_base.specs.declared.record.Record.{Record}
use Rattle.at_model.specs.Recovery.{last_incarnation}
use Rattle.decision_log.specs.Folds.{AreRecords}
use Rattle.journal_at.specs.Loads.{IsCause, Opens}
use Rattle.journal_at.specs.Scans.{records_in}
use Rattle.journal_at.specs.declared.journal.Journal.{Journal}
use Rattle.journal_at.specs.declared.records.Records.{Records}
use Rattle.site_memory.specs.Devices.{calls_in, opening_in}
use Rattle.site_memory.specs.Sites.{told_of}
use Rattle.site_memory.specs.Tells.{reads}
use Rattle.site_memory.specs.declared.machine.MemSite.{MemSite}
use Rattle.site_model.specs.Told.{Told}
use Rattle.asked_nets.specs.declared.fault.Undone.{Undone}
use Rattle.mirrored_nets.specs.TookStart.{HasLast}
use Rattle.mirrored_nets.proofs.ReadRecords.{not_foreign, not_judged, records_read}
use Rattle.asked_nets.proofs.starts.last_in.Goals as goal

-- the machine's files read as those of the copy
last_read : (r : Result ℕ Undone) (j : Journal) (found : Records) (copy s : MemSite) (new : Told) → Opens j found (told_of copy) new
    → (told_of copy).files ≡ (told_of s).files
    → IfOk r (λ last. (rs : List Record) × AreRecords found.version rs (records_in found) × (last ≡ last_incarnation rs))
    → IfOk r (λ last. HasLast last s)
last_read (Ok last) j found copy s new h same (rs, are, is) = record {
  version = found.version;
  records = rs;
  stand = record {
    texts = records_in found;
    is = h.is (reads (opening_in s.device) (calls_in s.device)) same;
    are = are;
  };
  last_is = is;
}
last_read (Err e) j found copy s new h same is = tt

pub returns-in-Ok-clause-last : goal.returns-in-Ok-clause-last
returns-in-Ok-clause-last c =
    last_read c.last_of.result _ c.in-Ok.found c.in_ok-copy.copy c.args.site.now _ c.in-Ok.ensures.0 c.in_ok-copy.ensures.files c.last_of.ensures.last

pub returns-in-Ok-clause-stands : goal.returns-in-Ok-clause-stands
returns-in-Ok-clause-stands c = λ standing.
    c.last_of.ensures.records standing.records
    (records_read (reads (opening_in c.args.site.now.device) (calls_in c.args.site.now.device)) standing.version c.in-Ok.found.version standing.records (records_in c.in-Ok.found) standing.stand
    (c.in-Ok.ensures.0.is (reads (opening_in c.args.site.now.device) (calls_in c.args.site.now.device)) c.in_ok-copy.ensures.files))

pub returns-in-Err-Bad-clause-stands : goal.returns-in-Err-Bad-clause-stands
returns-in-Err-Bad-clause-stands c = λ standing.
    let files = reads (opening_in c.args.site.now.device) (calls_in c.args.site.now.device) in
    let cause = subst (λ e. IsCause e (told_of c.in_ok-copy.copy) (told_of c.load.new.site)) c.in-Err-Bad.field-0-is c.in-Err-Bad.ensures.cause in
    absurd (not_judged files standing.version standing.stand.texts c.in-Err-Bad.field-0-0 c.in-Err-Bad.field-0-1 standing.stand.is (cause files c.in_ok-copy.ensures.files))

pub returns-clause-stands : goal.returns-clause-stands
returns-clause-stands c = λ standing.
    let files = reads (opening_in c.args.site.now.device) (calls_in c.args.site.now.device) in
    let cause = subst (λ e. IsCause e (told_of c.in_ok-copy.copy) (told_of c.load.new.site)) c.in-Err-NoJournal.field-0-is c.in-Err-NoJournal.ensures.cause in
    absurd (not_foreign files standing.version standing.stand.texts standing.stand.is (cause files c.in_ok-copy.ensures.files))
