use Rattle.std.proofs.Common.{◌≡◌, arith, length}
use Rattle.std.proofs.lemmas.Grind.{common_steps}
use Rattle.site_memory.specs.Entries.{mades}
use Rattle.mirrored_nets.proofs.FirstCalls.{behind_first_disk, disk_of_first, first_disk}
use Rattle.mirrored_nets.proofs.calls.disk_calls.Goals as goal

pub returns-then-not-is_disk-clause-disk : goal.returns-then-not-is_disk-clause-disk
returns-then-not-is_disk-clause-disk c =
    let count : c.loop-place.place ≡ first_disk (mades c.args.calls.now) = grind (arith, common_steps) in
    disk_of_first c.loop-place.place c.args.calls.now count

pub returns-then-not-is_disk-clause-behind : goal.returns-then-not-is_disk-clause-behind
returns-then-not-is_disk-clause-behind c =
    let count : c.loop-place.place ≡ first_disk (mades c.args.calls.now) = grind (arith, common_steps) in
    behind_first_disk c.loop-place.place c.args.calls.now count

pub returns-clause-disk : goal.returns-clause-disk
returns-clause-disk c =
    let count : length c.args.calls.now ≡ first_disk (mades c.args.calls.now) = grind (arith, common_steps) in
    disk_of_first (length c.args.calls.now) c.args.calls.now count

pub returns-clause-behind : goal.returns-clause-behind
returns-clause-behind c =
    let count : length c.args.calls.now ≡ first_disk (mades c.args.calls.now) = grind (arith, common_steps) in
    behind_first_disk (length c.args.calls.now) c.args.calls.now count
