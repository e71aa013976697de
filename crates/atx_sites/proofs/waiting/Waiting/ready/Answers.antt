use Rattle.std.proofs.Common.{List, ◌<◌, ◌≡◌, length, slice_index_or, subst, sym, true}
use Rattle.atx_sites.specs.Arrivals.{Bounded, HaveCome, is_ready}
use Rattle.atx_sites.specs.declared.arriving.Arriving.{Arriving}
use Rattle.atx_sites.proofs.Bounds.{bounded_removed}
use Rattle.atx_sites.proofs.Changing.{all_removed, bounded_kept, have_kept, none_silent, silent_closed, turned}
use Rattle.atx_sites.proofs.Comings.{have_removed, has_taken}
use Rattle.atx_sites.proofs.waiting.Waiting.ready.Goals as goal
use Rattle.std.specs.Prelude.{All, false}
use Rattle.atx_sites.specs.Arrivals.{is_silent}

pub returns-in-Some-clause-came : goal.returns-in-Some-clause-came
returns-in-Some-clause-came g c = λ number listener calls h.
    subst (HaveCome number listener calls) (sym c.remove.ensures.items)
    (have_removed number listener calls _ c.in-Some.place (subst (HaveCome number listener calls) (sym c.close_silent.ensures) (have_kept number listener calls _ _ h)))

pub returns-in-Some-clause-taken : goal.returns-in-Some-clause-taken
returns-in-Some-clause-taken g c = λ number listener calls h.
    has_taken number listener calls _ c.in-Some.place c.remove.result (subst (HaveCome number listener calls) (sym c.close_silent.ensures) (have_kept number listener calls _ _ h))
    (subst (λ (l : List (Arriving g.row.C.Denot)). c.in-Some.place < length l) c.as_slice.ensures.value c.in-Some.ensures.0) c.remove.ensures.value

pub returns-in-Some-clause-bounded : goal.returns-in-Some-clause-bounded
returns-in-Some-clause-bounded g c = λ h.
    subst Bounded (sym c.remove.ensures.items)
    (bounded_removed _ c.in-Some.place c.remove.result (subst (λ (l : List (Arriving g.row.C.Denot)). c.in-Some.place < length l) c.as_slice.ensures.value c.in-Some.ensures.0)
    (subst Bounded (sym c.close_silent.ensures) (bounded_kept _ _ h)))

pub returns-in-Some-clause-ready : goal.returns-in-Some-clause-ready
returns-in-Some-clause-ready g c =
    subst (λ (a : Arriving g.row.C.Denot). is_ready c.args.now a ≡ true) (sym c.remove.ensures.value)
    (subst (λ (l : List (Arriving g.row.C.Denot)). is_ready c.args.now (slice_index_or l c.in-Some.place c.remove.result) ≡ true) c.as_slice.ensures.value (c.in-Some.ensures.1 c.remove.result))

pub returns-in-Some-clause-changes : goal.returns-in-Some-clause-changes
returns-in-Some-clause-changes g c = λ first start calls clock h.
    turned first start _ _ calls c.args.now c.in-Some.place c.remove.result clock c.remove.ensures.value
    (subst (λ (a : Arriving g.row.C.Denot). is_ready c.args.now a ≡ true) (sym c.remove.ensures.value)
    (subst (λ (l : List (Arriving g.row.C.Denot)). is_ready c.args.now (slice_index_or l c.in-Some.place c.remove.result) ≡ true) c.as_slice.ensures.value (c.in-Some.ensures.1 c.remove.result)))
    c.remove.ensures.items (silent_closed first start _ _ calls c.args.now clock c.close_silent.ensures h)

pub returns-in-Some-clause-silent : goal.returns-in-Some-clause-silent
returns-in-Some-clause-silent g c =
    subst (λ (l : List (Arriving g.row.C.Denot)). All (λ a. is_silent c.args.now a ≡ false) l) (sym c.remove.ensures.items)
    (all_removed (λ a. is_silent c.args.now a ≡ false) _ c.in-Some.place
    (subst (λ (l : List (Arriving g.row.C.Denot)). All (λ a. is_silent c.args.now a ≡ false) l) (sym c.close_silent.ensures) (none_silent c.args.now c.args.self.now.arriving.items)))

pub returns-in-None-clause-came : goal.returns-in-None-clause-came
returns-in-None-clause-came g c = λ number listener calls h. subst (HaveCome number listener calls) (sym c.close_silent.ensures) (have_kept number listener calls _ _ h)

pub returns-in-None-clause-bounded : goal.returns-in-None-clause-bounded
returns-in-None-clause-bounded g c = λ h. subst Bounded (sym c.close_silent.ensures) (bounded_kept _ _ h)

pub returns-in-None-clause-changes : goal.returns-in-None-clause-changes
returns-in-None-clause-changes g c = λ first start calls clock h. silent_closed first start _ _ calls c.args.now clock c.close_silent.ensures h

pub returns-in-None-clause-silent : goal.returns-in-None-clause-silent
returns-in-None-clause-silent g c =
    subst (λ (l : List (Arriving g.row.C.Denot)). All (λ a. is_silent c.args.now a ≡ false) l) (sym c.close_silent.ensures) (none_silent c.args.now c.args.self.now.arriving.items)
