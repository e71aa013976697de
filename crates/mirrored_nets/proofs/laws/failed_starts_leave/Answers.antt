use Rattle.mirrored_nets.proofs.BrokenStarts.{failed_starts_leave}
use Rattle.mirrored_nets.proofs.laws.failed_starts_leave.Goals as goal

pub returns : goal.returns
returns c = failed_starts_leave c.calls_fail_as_told.ensures c.links_hold.ensures c.are_apart.ensures c.are_bodies.ensures c.chosen_are_images.ensures
