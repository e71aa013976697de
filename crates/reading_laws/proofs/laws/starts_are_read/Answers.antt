use Rattle.reading_laws.proofs.ReadStarts.{starts_are_read}
use Rattle.reading_laws.proofs.laws.starts_are_read.Goals as goal

pub returns : goal.returns
returns c =
    starts_are_read c.calls_fail_as_told.ensures c.links_hold.ensures c.are_apart.ensures c.chosen_are_images.ensures c.starts_leave.ensures c.failed_starts_leave.ensures c.starts_fail_for_want.ensures
