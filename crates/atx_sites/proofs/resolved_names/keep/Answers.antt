use Rattle.atx_sites.proofs.Pushes.{kept_push}
use Rattle.atx_sites.proofs.resolved_names.keep.Goals as goal

pub returns : goal.returns
returns c = λ calls h k. kept_push c.push.result calls _ _ c.args.name c.push.ensures.items (c.make_room.ensures calls h) k
