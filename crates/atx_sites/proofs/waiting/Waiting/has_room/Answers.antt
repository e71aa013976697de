use Rattle.std.proofs.Common.{List, ◌<◌, ◌≡◌, length, slice_index_or, subst, sym, false, rules}
use Rattle.atx_sites.specs.Arrivals.{Bounded, is_ready}
use Rattle.atx_sites.specs.declared.arriving.Arriving.{Arriving}
use Rattle.atx_sites.proofs.Bounds.{bounded_removed}
use Rattle.atx_sites.proofs.Changing.{made_room}
use Rattle.atx_sites.proofs.waiting.Waiting.has_room.Goals as goal

pub returns-in-Some-clause-bounded : goal.returns-in-Some-clause-bounded
returns-in-Some-clause-bounded g c = λ h. subst Bounded (sym c.remove.ensures.items) (bounded_removed _ c.in-Some.place c.remove.result (subst (λ (l : List (Arriving g.row.C.Denot)). c.in-Some.place < length l) c.as_slice.ensures.value c.in-Some.ensures.0) h)

pub returns-in-Some-clause-changes : goal.returns-in-Some-clause-changes
returns-in-Some-clause-changes g c = λ first start calls clock h.
    made_room first start _ _ calls c.args.now c.in-Some.place c.remove.result clock (search rules) c.remove.ensures.value
    (subst (λ (a : Arriving g.row.C.Denot). is_ready c.args.now a ≡ false) (sym c.remove.ensures.value)
    (subst (λ (l : List (Arriving g.row.C.Denot)). is_ready c.args.now (slice_index_or l c.in-Some.place c.remove.result) ≡ false) c.as_slice.ensures.value (c.in-Some.ensures.1 c.remove.result)))
    c.remove.ensures.items h
