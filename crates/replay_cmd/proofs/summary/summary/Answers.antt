use Rattle.replay_cmd.proofs.summary.summary.Goals as goal

pub returns-clause-safe : goal.returns-clause-safe
returns-clause-safe c = c.made_worlds_are_safe.ensures c.args.seed c.args.steps
