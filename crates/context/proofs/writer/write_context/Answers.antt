use Rattle.std.proofs.Common.{◌≡◌, ap, ◌∙◌, arith}
use Rattle.std.proofs.lemmas.Grind.{common_steps}
use Rattle.context.specs.declared.parameter.Parameter.TheVariants.{RegistrationService}
use Rattle.context.specs.Bodies.{context_of}
use Rattle.context.specs.BodyTrees.{context_tree}
use Rattle.context.proofs.BodyRoundtrip.{context_returns, endpoint_returns}
use Rattle.context.proofs.writer.write_context.Goals as goal

pub returns-clause-reads : goal.returns-clause-reads
returns-clause-reads c = λ h.
    let t : c.element.result ≡ context_tree c.args.context c.args.name = grind (arith, common_steps) in
    ap context_of t
    ∙ context_returns c.args.context c.args.name
    (endpoint_returns RegistrationService c.args.context.registration _ c.in_ok-write_endpoint.ensures.tree c.in_ok-write_endpoint.ensures.reads)
    c.push_expires.ensures.narrow h
