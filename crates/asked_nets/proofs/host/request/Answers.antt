use Rattle.std.proofs.Common.{length, refl, sym, ◌∙◌}
use Rattle.site_memory.specs.Entries.{mades}
use Rattle.call_readings.specs.Reads.{ReadsRequest}
use Rattle.asked_nets.proofs.NetReads.{still_isnt}
use Rattle.asked_nets.proofs.ReadHosts.{did_request, request_ends, request_reads, request_steps}
use Rattle.asked_nets.proofs.host.request.Goals as goal

pub returns-clause-did : goal.returns-clause-did
returns-clause-did c =
    did_request c.args.number c.args.count _ (length c.in_ok-calls.calls.now) c.args.local.now c.args.node _ c.args.site _ c.in_ok-host.host _ _ c.ask-locally.result c.came_to-came.result c.read-reading.result.became c.in_ok-calls.calls.now
    c.kept_of.result.now c.requires.room c.ask-locally.ensures c.counts_of-before.ensures.calls (c.in_ok-calls.ensures.adds c.args.site c.counts_of-before.ensures) c.in_ok-answers.ensures.answers c.came_to-came.ensures
    c.in_ok-host.ensures.left (c.kept_of.ensures, c.in-Ok.ensures) refl

pub returns-clause-read : goal.returns-clause-read
returns-clause-read c = λ here.
    let R : ReadsRequest c.args.armed (mades c.in_ok-calls.calls.now) c.ask-locally.result =
    c.requests_are_read.ensures c.args.number c.args.count c.args.local.now c.args.node c.ask-locally.new.node c.args.site c.ask-locally.new.site c.args.armed c.ask-locally.result (mades c.in_ok-calls.calls.now) here
    c.requires.room c.ask-locally.ensures (c.in_ok-calls.ensures.adds c.args.site c.counts_of-before.ensures) c.in_ok-had_room.ensures.room in
    record {
      did = did_request c.args.number c.args.count _ (length c.in_ok-calls.calls.now) c.args.local.now c.args.node _ c.args.site _ c.in_ok-host.host _ _ c.ask-locally.result c.came_to-came.result c.read-reading.result.became c.in_ok-calls.calls.now c.kept_of.result.now c.requires.room c.ask-locally.ensures c.counts_of-before.ensures.calls (c.in_ok-calls.ensures.adds c.args.site c.counts_of-before.ensures) c.in_ok-answers.ensures.answers c.came_to-came.ensures c.in_ok-host.ensures.left (c.kept_of.ensures, c.in-Ok.ensures) refl;
      reads =
          request_reads c.args.armed (mades c.in_ok-calls.calls.now) c.ask-locally.result c.read-reading.result (λ b fates until r h. c.read-reading.ensures b fates until r (h ∙ sym c.halts_locally.ensures)) R;
      of_steps =
          request_steps c.args.armed (mades c.in_ok-calls.calls.now) c.ask-locally.result c.read-reading.result (λ b fates until r h. c.read-reading.ensures b fates until r (h ∙ sym c.halts_locally.ensures)) R;
    }

pub returns-in_err-answers-clause-there : goal.returns-in_err-answers-clause-there
returns-in_err-answers-clause-there c = λ here.
    let R : ReadsRequest c.args.armed (mades c.in_ok-calls.calls.now) c.ask-locally.result =
    c.requests_are_read.ensures c.args.number c.args.count c.args.local.now c.args.node c.ask-locally.new.node c.args.site c.ask-locally.new.site c.args.armed c.ask-locally.result (mades c.in_ok-calls.calls.now) here
    c.requires.room c.ask-locally.ensures (c.in_ok-calls.ensures.adds c.args.site c.counts_of-before.ensures) c.in_ok-had_room.ensures.room in
    still_isnt c.in_err-answers.field-0.0 c.from_residual-in_err-answers.result c.from_residual-in_err-answers.ensures.1
    (c.in_err-answers.ensures.whole
    (request_ends c.args.armed (mades c.in_ok-calls.calls.now) c.ask-locally.result c.read-reading.result (λ b fates until r h. c.read-reading.ensures b fates until r (h ∙ sym c.halts_locally.ensures)) R c.came_to-came.result
    c.came_to-came.ensures))
