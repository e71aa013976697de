use Rattle.std.proofs.Common.{refl}
use Rattle.atx_sites.proofs.Afterwards.{answers_later}
use Rattle.atx_sites.proofs.Comings.{as_late}
use Rattle.atx_sites.proofs.DepartureTimes.{timed_answered}
use Rattle.atx_sites.proofs.Endings.{ended_cut, ended_on}
use Rattle.atx_sites.proofs.connection.end.Goals as goal

pub returns : goal.returns
returns g c = record {
  later = answers_later _ _ _ _ _ _ _ _ _ c.answer.ensures.answers.1;
  within = c.answer.ensures.within;
  timed = λ h. timed_answered g.S.Stream.AsRawFd.raw_fd _ _ _ _ _ _ _ _ c.answer.ensures.answers.1 h;
  names = c.answer.ensures.names;
  answers = ended_on g.S.Stream.AsRawFd.raw_fd c.args.served _ _ _ _ _ _ _ c.if-is_cut.false c.answer.ensures.answers;
}

pub returns-then-is_cut : goal.returns-then-is_cut
returns-then-is_cut g c = record {
  later = as_late _;
  within = λ h. h;
  timed = λ h. h;
  names = refl;
  answers = ended_cut g.S.Stream.AsRawFd.raw_fd c.args.served _ _ _ _ _ c.if-is_cut.true c.count_one.ensures;
}
