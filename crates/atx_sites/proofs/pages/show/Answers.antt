use Rattle.atx_sites.proofs.Afterwards.{answers_later}
use Rattle.atx_sites.proofs.DepartureTimes.{timed_answered}
use Rattle.atx_sites.proofs.pages.show.Goals as goal

pub returns-in-Ok-clause-later : goal.returns-in-Ok-clause-later
returns-in-Ok-clause-later g c = answers_later _ _ _ _ _ _ _ _ _ c.answer.ensures.answers.1

pub returns-in-Ok-clause-timed : goal.returns-in-Ok-clause-timed
returns-in-Ok-clause-timed g c = λ h. timed_answered g.S.Stream.AsRawFd.raw_fd _ _ _ _ _ _ _ _ c.answer.ensures.answers.1 h
