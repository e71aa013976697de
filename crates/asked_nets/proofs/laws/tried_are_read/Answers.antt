use Rattle.asked_nets.proofs.StartedFiles.{tried_are_read}
use Rattle.asked_nets.proofs.laws.tried_are_read.Goals as goal

pub returns : goal.returns
returns c =
    tried_are_read c.calls_fail_as_told.ensures c.links_hold.ensures c.are_apart.ensures c.chosen_are_images.ensures c.starts_leave.ensures c.failed_starts_leave.ensures
