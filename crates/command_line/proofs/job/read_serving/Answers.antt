use Rattle.std.proofs.Common.{sym}
use Rattle.command_line.proofs.Servings.{allowed}
use Rattle.command_line.proofs.job.read_serving.Goals as goal

pub returns-clause-found : goal.returns-clause-found
returns-clause-found c =
    let may = allowed _ _ _ c.if-not-branch.false c.in_ok-may_serve.ensures in
    (c.in-Some.ensures.found, sym c.in-Some-text_at.ensures, may.0, sym c.text_at-base.ensures, may.1, sym c.in-Some-text_at-2.ensures, c.in-Some-read_turns.ensures.found)
