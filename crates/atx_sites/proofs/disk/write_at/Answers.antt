use Rattle.std.proofs.Common.{ap, rules}
use Rattle.atx_sites.proofs.Tellings.{write_of_first, write_of_second, tells}
use Rattle.atx_sites.proofs.disk.write_at.Goals as goal
use Rattle.atx_sites.proofs.disk.write_at.Goals.{in-0, in_default}

pub returns-clause-told : goal.returns-clause-told
returns-clause-told g c =
    tells _ _ _ _ c.match-file.answer c.noted.result _ c.noted.ensures.as_was c.noted.ensures.ok c.noted.ensures.noted
    (elim c.match-file.branch [
      | in-0 w ↦ write_of_first g.S.File.AsRawFd.raw_fd c.args.disk.now _ _ _ _ w.answer-is (ap g.S.System.calls w.system-is) c.args.file w.in-0.is w.write-answer.ensures.fault
      | in_default w ↦ write_of_second g.S.File.AsRawFd.raw_fd c.args.disk.now _ _ _ _ w.answer-is (ap g.S.System.calls w.system-is) c.args.file (search rules) w.write-answer-in_default.ensures.fault
    ])
