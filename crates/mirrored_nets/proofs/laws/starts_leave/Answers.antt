use Rattle.mirrored_nets.proofs.LeftStarts.{starts_leave}
use Rattle.mirrored_nets.proofs.laws.starts_leave.Goals as goal

pub returns : goal.returns
returns c = starts_leave c.are_apart.ensures c.are_bodies.ensures c.chosen_are_images.ensures
