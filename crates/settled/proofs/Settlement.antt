-- What is owed is kept, and every world settles.
use Rattle.std.specs.Prelude.{◌≤◌}
use Rattle.model_laws.specs.Settlement.{Settles}
use Rattle.settled.specs.OwedLaws.{OwedIsKept, QuietWorldsRest, TicksAskForAll}
use Rattle.settled.proofs.DurablePrepares.{prepares_are_behind}
use Rattle.settled.proofs.SeatRegistrations.{none_registers}
use Rattle.settled.proofs.Commits.{commits_kept}
use Rattle.settled.proofs.Outcomes.{outcomes_kept}
use Rattle.settled.proofs.Registers.{none_routed_kept, registrations_kept}
use Rattle.settled.proofs.QuietWorlds.{rests}
use Rattle.settled.proofs.Rounds.{settles_if}
use Rattle.settled.proofs.Ticks.{commits_asked, outcomes_asked, registrations_asked, votes_asked}
use Rattle.settled.proofs.KeptVotes.{votes_kept}

pub ticks_ask_for_all : TicksAskForAll
ticks_ask_for_all = record { votes = votes_asked; commits = commits_asked; outcomes = outcomes_asked; registrations = registrations_asked }

pub owed_is_kept : OwedIsKept
owed_is_kept = record {
  votes = λ hosts most u v before after g routes.
      votes_kept hosts (λ n. n ≤ most) u v before after g (prepares_are_behind hosts u g.distinct g.reached) (none_registers hosts u g.distinct g.reached routes);
  commits = λ hosts most. commits_kept hosts (λ n. n ≤ most);
  outcomes = λ hosts most. outcomes_kept hosts (λ n. n ≤ most);
  registrations = λ hosts most. registrations_kept hosts (λ n. n ≤ most);
  routed = none_routed_kept;
}

pub quiet_worlds_rest : QuietWorldsRest
quiet_worlds_rest = record { rests = rests }

pub settles : Settles
settles =
    settles_if (λ hosts small. record {
      behind = λ w reached. prepares_are_behind hosts w small reached;
      registered = λ w reached routes. none_registers hosts w small reached routes;
    })
