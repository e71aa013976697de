use Rattle.std.proofs.Common.{refl}
use Rattle.atx_sites.proofs.Afterwards.{answers_later}
use Rattle.atx_sites.proofs.Comings.{as_late}
use Rattle.atx_sites.proofs.DepartureTimes.{on_time_answered, timed_answered}
use Rattle.atx_sites.proofs.connection.refuse.Goals as goal

pub returns-in-Ok : goal.returns-in-Ok
returns-in-Ok g c = record {
  later = answers_later _ _ _ _ _ _ _ _ _ c.answer.ensures.answers.1;
  within = c.answer.ensures.within;
  timed = λ h. timed_answered g.S.Stream.AsRawFd.raw_fd _ _ _ _ _ _ _ _ c.answer.ensures.answers.1 h;
  names = c.answer.ensures.names;
  pace = λ start l h. on_time_answered g.S.Stream.AsRawFd.raw_fd start _ _ _ _ _ _ _ _ c.answer.ensures.answers.1 l h;
}

pub returns : goal.returns
returns g c = record {
  later = as_late _;
  within = λ h. h;
  timed = λ h. h;
  names = refl;
  pace = λ start l h. h;
}
