use Rattle.site_memory.proofs.WrittenBytes.{still_same}
use Rattle.site_memory.proofs.held_file.Held.write.Goals as goal

pub invariant_of-self-then-done-clause-same : goal.invariant_of-self-then-done-clause-same
invariant_of-self-then-done-clause-same c =
    still_same _ _ _ _ _ c.args.at c.args.bytes.now c.min-self.ensures c.put.ensures.items c.args.self.now.same
