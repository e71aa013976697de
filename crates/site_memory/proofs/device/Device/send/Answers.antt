use Rattle.std.proofs.Common.{refl}
use Rattle.site_memory.specs.declared.range.Which.TheVariants.{First, Second}
use Rattle.site_memory.specs.HeldFiles.{opening_of}
use Rattle.site_memory.proofs.ArmedCalls.{noted_so}
use Rattle.site_memory.proofs.FurtherCalls.{goes_along, sent_nothing}
use Rattle.site_memory.proofs.device.Device.send.Goals as goal

pub invariant_of-self-2 : goal.invariant_of-self-2
invariant_of-self-2 c =
    record {
      first_is = goes_along First (opening_of c.args.self.now.first c.args.self.now.second) (opening_of c.args.self.now.first c.args.self.now.second) _ c.note.result _ _ _ _ _ _ _ _ c.note.ensures c.args.self.now.first_is refl (sent_nothing First _ c.note.result c.args.bytes.now _ c.in-Ok.ensures);
      second_is = goes_along Second (opening_of c.args.self.now.first c.args.self.now.second) (opening_of c.args.self.now.first c.args.self.now.second) _ c.note.result _ _ _ _ _ _ _ _ c.note.ensures c.args.self.now.second_is refl (sent_nothing Second _ c.note.result c.args.bytes.now _ c.in-Ok.ensures);
      as_armed = noted_so _ _ c.note.result _ _ _ _ _ _ c.args.self.now.as_armed c.note.ensures;
    }
