use Rattle.std.proofs.Common.{◌∙◌, ◌&&◌, ◌<◌, ap, nat_eq, slice_index_or, subst, sym}
use Rattle.address_seals.proofs.Ends.{same_by_next}
use Rattle.address_seals.proofs.seal.is_same.Goals as goal

pub loop-place-preserved : goal.loop-place-preserved
loop-place-preserved c =
    ap (λ same. same && nat_eq (slice_index_or c.args.a.now c.loop-place.place 0) (slice_index_or c.args.b.now c.loop-place.place 0)) c.loop-place.invariant
    ∙ sym (same_by_next c.loop-place.place c.args.a.now c.args.b.now c.loop-place-test.true (subst (λ n. c.loop-place.place < n) c.if-a-b.false c.loop-place-test.true))
