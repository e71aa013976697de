use Rattle.std.proofs.Common.{◌≡◌, IfOk, arith}
use Rattle.std.proofs.lemmas.Grind.{common_steps}
use Rattle.context.specs.BodyTrees.{create_tree}
use Rattle.context.proofs.BodyRoundtrip.{create_returns, from_tree}
use Rattle.context.proofs.writer.write_create.Goals as goal

pub returns-clause-reads : goal.returns-clause-reads
returns-clause-reads c =
    let t : IfOk c.body_of.result (λ t. t ≡ create_tree c.args.body) = grind (arith, common_steps) in
    from_tree _ _ _ t (create_returns c.args.body c.push_expires.ensures.narrow c.in_ok-push_current.ensures.reads)
