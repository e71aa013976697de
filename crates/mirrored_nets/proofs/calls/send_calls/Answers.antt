use Rattle.std.proofs.Common.{◌≡◌, arith, length}
use Rattle.std.proofs.lemmas.Grind.{common_steps}
use Rattle.site_memory.specs.Entries.{mades}
use Rattle.mirrored_nets.proofs.FirstCalls.{behind_first_sent, sent_of_first, first_sent}
use Rattle.mirrored_nets.proofs.calls.send_calls.Goals as goal

pub returns-then-is_disk-clause-sent : goal.returns-then-is_disk-clause-sent
returns-then-is_disk-clause-sent c =
    let count : c.loop-place.place ≡ first_sent (mades c.args.calls.now) = grind (arith, common_steps) in
    sent_of_first c.loop-place.place c.args.calls.now count

pub returns-then-is_disk-clause-behind : goal.returns-then-is_disk-clause-behind
returns-then-is_disk-clause-behind c =
    let count : c.loop-place.place ≡ first_sent (mades c.args.calls.now) = grind (arith, common_steps) in
    behind_first_sent c.loop-place.place c.args.calls.now count

pub returns-clause-sent : goal.returns-clause-sent
returns-clause-sent c =
    let count : length c.args.calls.now ≡ first_sent (mades c.args.calls.now) = grind (arith, common_steps) in
    sent_of_first (length c.args.calls.now) c.args.calls.now count

pub returns-clause-behind : goal.returns-clause-behind
returns-clause-behind c =
    let count : length c.args.calls.now ≡ first_sent (mades c.args.calls.now) = grind (arith, common_steps) in
    behind_first_sent (length c.args.calls.now) c.args.calls.now count
