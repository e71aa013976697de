use Rattle.std.proofs.Common.{length, refl, sym, ◌∙◌}
use Rattle.site_memory.specs.Entries.{mades}
use Rattle.call_readings.specs.Reads.{ReadsTurn}
use Rattle.asked_nets.proofs.NetReads.{still_isnt}
use Rattle.asked_nets.proofs.ReadHosts.{did_turn, turn_ends, turn_reads}
use Rattle.asked_nets.proofs.host.take.Goals as goal

pub returns-clause-did : goal.returns-clause-did
returns-clause-did c =
    did_turn c.args.number c.args.count c.args.lines _ (length c.in_ok-calls.calls.now) c.args.bytes.now c.args.node _ c.args.site _ c.in_ok-host.host _ _ c.in-Ok.turned c.came_to-came.result c.read-reading.result.became c.in_ok-calls.calls.now
    c.kept_of.result.now c.requires.room c.in-Ok.ensures c.counts_of-before.ensures.calls (c.in_ok-calls.ensures.adds c.args.site c.counts_of-before.ensures) c.in_ok-ends.ensures.ends c.came_to-came.ensures
    c.in_ok-host.ensures.left (c.kept_of.ensures, c.in-Ok-gather.ensures) c.in_ok-calls.ensures.spoke.0 c.in_ok-calls.ensures.shrank refl

pub returns-clause-read : goal.returns-clause-read
returns-clause-read c = λ here.
    record {
      did = did_turn c.args.number c.args.count c.args.lines _ (length c.in_ok-calls.calls.now) c.args.bytes.now c.args.node _ c.args.site _ c.in_ok-host.host _ _ c.in-Ok.turned c.came_to-came.result c.read-reading.result.became c.in_ok-calls.calls.now c.kept_of.result.now c.requires.room c.in-Ok.ensures c.counts_of-before.ensures.calls (c.in_ok-calls.ensures.adds c.args.site c.counts_of-before.ensures) c.in_ok-ends.ensures.ends c.came_to-came.ensures c.in_ok-host.ensures.left (c.kept_of.ensures, c.in-Ok-gather.ensures) c.in_ok-calls.ensures.spoke.0 c.in_ok-calls.ensures.shrank refl;
      reads =
          turn_reads c.args.armed c.args.lines (mades c.in_ok-calls.calls.now) c.in-Ok.turned c.read-reading.result (λ b fates until r h. c.read-reading.ensures b fates until r (h ∙ sym c.halts.ensures))
          (c.turns_are_read.ensures c.args.number c.args.count c.args.lines c.args.bytes.now c.args.node c.turn.new.node c.args.site c.turn.new.site c.args.armed c.in-Ok.turned (mades c.in_ok-calls.calls.now) here
          c.requires.room c.in-Ok.ensures (c.in_ok-calls.ensures.adds c.args.site c.counts_of-before.ensures) c.in_ok-calls.ensures.room c.in_ok-calls.ensures.spoke.0);
    }

pub returns-in_err-ends-clause-there : goal.returns-in_err-ends-clause-there
returns-in_err-ends-clause-there c = λ here.
    let R : ReadsTurn c.args.armed c.args.lines (mades c.in_ok-calls.calls.now) c.in-Ok.turned =
    c.turns_are_read.ensures c.args.number c.args.count c.args.lines c.args.bytes.now c.args.node c.turn.new.node c.args.site c.turn.new.site c.args.armed c.in-Ok.turned (mades c.in_ok-calls.calls.now) here
    c.requires.room c.in-Ok.ensures (c.in_ok-calls.ensures.adds c.args.site c.counts_of-before.ensures) c.in_ok-calls.ensures.room c.in_ok-calls.ensures.spoke.0 in
    still_isnt c.in_err-ends.field-0.0 c.from_residual-in_err-ends.result c.from_residual-in_err-ends.ensures.1
    (c.in_err-ends.ensures.whole
    (turn_ends c.args.armed c.args.lines (mades c.in_ok-calls.calls.now) c.in-Ok.turned c.read-reading.result (λ b fates until r h. c.read-reading.ensures b fates until r (h ∙ sym c.halts.ensures)) R
    c.came_to-came.result c.came_to-came.ensures))
