use Rattle.journal_cmd.proofs.AddedFiles.{is_added}
use Rattle.journal_cmd.proofs.memory_files.MemoryFiles.put.Goals as goal

pub returns-clause-done : goal.returns-clause-done
returns-clause-done c =
    is_added c.push.result c.args.name.now c.args.bytes.now c.args.self.now.files.items c.push.new.files.items c.in_ok-file.file c.in_ok-file.ensures.0 c.in_ok-file.ensures.1 c.push.ensures
