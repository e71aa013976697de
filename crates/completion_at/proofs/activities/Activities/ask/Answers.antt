use Rattle.std.proofs.Common.{rules}
use Rattle.completion_at.proofs.RequestPlans.{asks}
use Rattle.completion_at.proofs.activities.Activities.ask.Goals as goal

pub returns-in_ok-plan-in-Some : goal.returns-in_ok-plan-in-Some
returns-in_ok-plan-in-Some c b now holds =
    asks b now c.args.self.now c.args.moment.now c.args.activity c.args.url.now c.args.kind c.args.vote c.args.key.now c.args.value.now
    c.in-Some.found.now c.in_ok-turn-in-Some.turn c.in_ok-plan-in-Some.plan holds (search rules) (search rules) (search rules) c.in_ok-turn-in-Some.ensures c.in_ok-plan-in-Some.ensures
