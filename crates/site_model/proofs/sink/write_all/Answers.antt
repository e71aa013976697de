use Rattle.std.proofs.Common.{arith}
use Rattle.std.proofs.lemmas.List.{length-drop, length-take}
use Rattle.site_model.proofs.KnownBytes.{written_on}
use Rattle.site_model.proofs.sink.write_all.Goals as goal

pub loop-at-preserved : goal.loop-at-preserved
loop-at-preserved g c =
    record {
      within = grind (arith, length-take, length-drop, c.in_ok-n.ensures.bound, c.loop-at.invariant.within);
      later = omega (arith, c.loop-at.invariant.later, c.write.ensures.cause.later);
      written = written_on _ _ _ c.args.bytes.now c.loop-at.at c.in_ok-n.n c.loop-at.invariant.written c.in_ok-n.ensures.bytes;
    }
