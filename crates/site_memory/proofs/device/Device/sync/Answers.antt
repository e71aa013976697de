use Rattle.std.proofs.Common.{refl, sym, ◌∙◌}
use Rattle.site_memory.specs.declared.range.Which.TheVariants.{First, Second}
use Rattle.site_model.specs.Told.Call.{Sync}
use Rattle.site_memory.specs.HeldFiles.{disk_of, opening_of}
use Rattle.site_memory.proofs.ArmedCalls.{noted_so}
use Rattle.site_memory.proofs.FurtherCalls.{goes_along, synced_there, settled_nothing, is_failed}
use Rattle.site_memory.proofs.device.Device.sync.Goals as goal

pub invariant_of-self : goal.invariant_of-self
invariant_of-self c =
    record {
      first_is = goes_along First (opening_of c.args.self.now.first c.args.self.now.second) _ _ c.note-noted.result _ _ _ _ _ _ _ _ c.note-noted.ensures c.args.self.now.first_is c.sync_in.ensures.opening (synced_there First _ c.args.file c.note-noted.result _ _ c.in-Done.is c.of.ensures c.sync_in.ensures.first);
      second_is = goes_along Second (opening_of c.args.self.now.first c.args.self.now.second) _ _ c.note-noted.result _ _ _ _ _ _ _ _ c.note-noted.ensures c.args.self.now.second_is c.sync_in.ensures.opening (synced_there Second _ c.args.file c.note-noted.result _ _ c.in-Done.is c.of.ensures c.sync_in.ensures.second);
      as_armed = noted_so _ _ c.note-noted.result _ _ _ _ _ _ c.args.self.now.as_armed c.note-noted.ensures;
    }

pub invariant_of-self-in-Failed : goal.invariant_of-self-in-Failed
invariant_of-self-in-Failed c =
    record {
      first_is = goes_along First (opening_of c.args.self.now.first c.args.self.now.second) (opening_of c.args.self.now.first c.args.self.now.second) _ c.note-noted.result _ _ _ _ _ _ _ _ c.note-noted.ensures c.args.self.now.first_is refl (settled_nothing c.args.file First (disk_of c.args.self.now.first) ∙ sym (is_failed First c.note-noted.result c.in-Failed.is (Sync c.args.file) (disk_of c.args.self.now.first)));
      second_is = goes_along Second (opening_of c.args.self.now.first c.args.self.now.second) (opening_of c.args.self.now.first c.args.self.now.second) _ c.note-noted.result _ _ _ _ _ _ _ _ c.note-noted.ensures c.args.self.now.second_is refl (settled_nothing c.args.file Second (disk_of c.args.self.now.second) ∙ sym (is_failed Second c.note-noted.result c.in-Failed.is (Sync c.args.file) (disk_of c.args.self.now.second)));
      as_armed = noted_so _ _ c.note-noted.result _ _ _ _ _ _ c.args.self.now.as_armed c.note-noted.ensures;
    }
