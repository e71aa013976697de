use Rattle.std.proofs.Common.{drop, map, string_bytes, subst, sym}
use Rattle.std.specs.Vec.Iter.{into_iter_items}
use Rattle.entry_point.specs.Asking.{heard}
use Rattle.entry_point.specs.Calls.{CalledOrNot}
use Rattle.entry_point.proofs.program.with_words.Goals as goal

pub returns-in-Ok-clause-called : goal.returns-in-Ok-clause-called
returns-in-Ok-clause-called g c =
    rw c.in-Ok.is (subst (λ status. CalledOrNot g.F.FnOnce (map string_bytes) c.args.job c.args.alloc (heard (map string_bytes (drop 1 (into_iter_items c.in-Ok.words)))) status c.args.source.now c.status_of.new.source c.args.sink.now c.status_of.new.sink c.args.errors.now c.status_of.new.errors c.args.files.now c.status_of.new.files c.args.site.now c.status_of.new.site) (sym c.from.ensures) c.status_of.ensures)
