use Rattle.std.proofs.Common.{◌≡◌, IfOk, arith}
use Rattle.std.proofs.lemmas.Grind.{common_steps}
use Rattle.context.specs.declared.parameter.Parameter.TheVariants.{ParticipantProtocolService}
use Rattle.context.specs.BodyTrees.{register_tree}
use Rattle.context.proofs.BodyRoundtrip.{endpoint_returns, from_tree, register_returns}
use Rattle.context.proofs.writer.write_register.Goals as goal

pub returns-clause-reads : goal.returns-clause-reads
returns-clause-reads c =
    let t : IfOk c.body_of.result (λ t. t ≡ register_tree c.args.body) = grind (arith, common_steps) in
    from_tree _ _ _ t
    (register_returns c.args.body (endpoint_returns ParticipantProtocolService c.args.body.participant _ c.in_ok-write_endpoint.ensures.tree c.in_ok-write_endpoint.ensures.reads))
