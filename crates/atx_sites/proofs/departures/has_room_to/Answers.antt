use Rattle.atx_sites.proofs.DepartureBounds.{share_part}
use Rattle.atx_sites.proofs.DepartureLists.{whole}
use Rattle.atx_sites.proofs.departures.has_room_to.Goals as goal

pub returns-clause-share : goal.returns-clause-share
returns-clause-share g c = λ is test only. share_part c.args.host _ _ (c.has_room.ensures.part _ (whole _)) (c.has_share.ensures.room c.if-not-has_share.false) test only
