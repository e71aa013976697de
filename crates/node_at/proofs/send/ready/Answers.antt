use Rattle.std.proofs.Common.{sym, ◌∙◌, subst, is_some, option_copied}
use Rattle.decision_log.specs.KeptState.{known}
use Rattle.node_at.specs.Sends.{given}
use Rattle.node_at.specs.StandingTokens.{IsStanding}
use Rattle.node_at.proofs.StandingTokens.{backed, told_or_not}
use Rattle.node_at.proofs.send.ready.Goals as goal

pub returns-in-Some-clause-rule : goal.returns-in-Some-clause-rule
returns-in-Some-clause-rule c =
    let ts = given (option_copied c.args.fresh) (known c.args.kept.now) in
    backed c.args.out c.in-Record.id c.in-Record.one c.in-Record.other c.in-Some.token.now ts (known c.args.kept.now).done (sym c.leave_of.ensures ∙ c.in-Record.is)
    (subst (λ z. IsStanding (option_copied z) c.in-Record.id c.in-Record.one c.in-Record.other ts) c.in-Some.is c.standing.ensures)

pub returns-in-None-clause-rule : goal.returns-in-None-clause-rule
returns-in-None-clause-rule c =
    let ts = given (option_copied c.args.fresh) (known c.args.kept.now) in
    told_or_not (is_some c.told.result) c.args.out c.in-Record.id c.in-Record.one c.in-Record.other ts (known c.args.kept.now).done (sym c.leave_of.ensures ∙ c.in-Record.is)
    (subst (λ z. IsStanding (option_copied z) c.in-Record.id c.in-Record.one c.in-Record.other ts) c.in-None.is c.standing.ensures) c.told.ensures.rule
