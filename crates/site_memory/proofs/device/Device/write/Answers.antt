use Rattle.std.proofs.Common.{◌∙◌, true, false}
use Rattle.site_memory.specs.declared.range.Which.TheVariants.{First, Second}
use Rattle.site_memory.proofs.ArmedCalls.{noted_so}
use Rattle.site_memory.proofs.FurtherCalls.{goes_along, wrote_there, is_done, is_failed}
use Rattle.site_memory.proofs.device.Device.write.Goals as goal

pub invariant_of-self-in-Done : goal.invariant_of-self-in-Done
invariant_of-self-in-Done c =
    record {
      first_is = goes_along First _ _ _ c.note-noted.result _ _ _ _ _ _ _ _ c.note-noted.ensures c.args.self.now.first_is (c.write_in.ensures.opening ∙ c.room_in.ensures.opening) (wrote_there First _ _ c.args.file c.args.at _ c.args.bytes.now true c.note-noted.result _ _ _ c.in-Ok.ensures c.of-which.ensures c.in-Ok-room_in.ensures.ok.0 c.room_in.ensures.same.0 c.write_in.ensures.first (is_done First c.note-noted.result c.in-Done.is));
      second_is = goes_along Second _ _ _ c.note-noted.result _ _ _ _ _ _ _ _ c.note-noted.ensures c.args.self.now.second_is (c.write_in.ensures.opening ∙ c.room_in.ensures.opening) (wrote_there Second _ _ c.args.file c.args.at _ c.args.bytes.now true c.note-noted.result _ _ _ c.in-Ok.ensures c.of-which.ensures c.in-Ok-room_in.ensures.ok.0 c.room_in.ensures.same.1 c.write_in.ensures.second (is_done Second c.note-noted.result c.in-Done.is));
      as_armed = noted_so _ _ c.note-noted.result _ _ _ _ _ _ c.args.self.now.as_armed c.note-noted.ensures;
    }

pub invariant_of-self-in-Failed : goal.invariant_of-self-in-Failed
invariant_of-self-in-Failed c =
    record {
      first_is = goes_along First _ _ _ c.note-noted.result _ _ _ _ _ _ _ _ c.note-noted.ensures c.args.self.now.first_is (c.write_in-in-Failed.ensures.opening ∙ c.room_in.ensures.opening) (wrote_there First _ _ c.args.file c.args.at _ c.args.bytes.now false c.note-noted.result _ _ _ c.in-Ok.ensures c.of-which.ensures c.in-Ok-room_in.ensures.ok.0 c.room_in.ensures.same.0 c.write_in-in-Failed.ensures.first (is_failed First c.note-noted.result c.in-Failed.is));
      second_is = goes_along Second _ _ _ c.note-noted.result _ _ _ _ _ _ _ _ c.note-noted.ensures c.args.self.now.second_is (c.write_in-in-Failed.ensures.opening ∙ c.room_in.ensures.opening) (wrote_there Second _ _ c.args.file c.args.at _ c.args.bytes.now false c.note-noted.result _ _ _ c.in-Ok.ensures c.of-which.ensures c.in-Ok-room_in.ensures.ok.0 c.room_in.ensures.same.1 c.write_in-in-Failed.ensures.second (is_failed Second c.note-noted.result c.in-Failed.is));
      as_armed = noted_so _ _ c.note-noted.result _ _ _ _ _ _ c.args.self.now.as_armed c.note-noted.ensures;
    }
