use Rattle.std.proofs.Common.{◌≡◌, ◌++◌, map, drop}
use Rattle.site_model.specs.Told.{sent_by}
use Rattle.site_memory.specs.Entries.{mades}
use Rattle.memory_net.specs.Mails.{mail_of, mails_in}
use Rattle.memory_net.proofs.letter.gather.Given as goal

abbrev pub invariant-loop-entry : goal.invariant-loop-entry
invariant-loop-entry l =
    map mail_of l.letters.items ++ mails_in l.sender l.count (sent_by (mades (drop l.entry-index l.calls)))
    ≡ map mail_of l.fn.letters.items ++ mails_in l.sender l.count (sent_by (mades l.calls))
