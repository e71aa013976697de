use Rattle.addressing.proofs.EndpointParts.{from_parts}
use Rattle.addressing.proofs.endpoint.read_epr.Goals as goal

pub returns : goal.returns
returns c =
    from_parts c.joined.result c.args.tree.now _ _ _ c.child-address.ensures c.child-params.ensures c.child-metadata.ensures c.joined.ensures
