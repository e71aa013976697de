use Rattle.std.proofs.Common.{List, ◌∙◌, ◌<◌, length, slice_index_or, subst, sym, ◌≡◌}
use Rattle.atx_sites.specs.Names.{IsFor}
use Rattle.atx_sites.specs.declared.resolved_names.Name.{Name}
use Rattle.atx_sites.proofs.Comings.{late_by}
use Rattle.atx_sites.proofs.NamesKept.{reaches_kept, reaches_since, still_kept}
use Rattle.atx_sites.proofs.resolved_names.addresses_of_name.Goals as goal

pub returns-in-Err-clause-kept : goal.returns-in-Err-clause-kept
returns-in-Err-clause-kept g c = λ h. still_kept _ _ _ h (late_by _ _ _ c.clock.ensures.reads)

pub returns-in_err-copied-in-Some-clause-kept : goal.returns-in_err-copied-in-Some-clause-kept
returns-in_err-copied-in-Some-clause-kept g c = λ h. still_kept _ _ _ h (late_by _ _ _ c.clock.ensures.reads)

pub returns-in_ok-copied-in-Some-clause-kept : goal.returns-in_ok-copied-in-Some-clause-kept
returns-in_ok-copied-in-Some-clause-kept g c = λ h. still_kept _ _ _ h (late_by _ _ _ c.clock.ensures.reads)

pub returns-in_ok-copied-in-Some-clause-found : goal.returns-in_ok-copied-in-Some-clause-found
returns-in_ok-copied-in-Some-clause-found g c = λ h.
    let names = c.args.names.now.names.items in
    let there : c.in-Some.at < length names = subst (λ (l : List Name). c.in-Some.at < length l) c.deref.ensures.value c.in-Some.ensures.0 in
    let at : c.index.result.now ≡ slice_index_or names c.in-Some.at c.index.result.now = c.index.ensures in
    let is : IsFor c.args.host.now c.args.port c.in-Ok.now (slice_index_or names c.in-Some.at c.index.result.now) =
    subst (λ (l : List Name). IsFor c.args.host.now c.args.port c.in-Ok.now (slice_index_or l c.in-Some.at c.index.result.now)) c.deref.ensures.value (c.in-Some.ensures.1 c.index.result.now) in
    reaches_kept c.args.host.now c.args.port _ _ _ c.in-Ok.now names c.in-Some.at c.index.result.now h there at
    (c.in_ok-copied-in-Some.ensures ∙ c.as_slice.ensures.value) (subst (IsFor c.args.host.now c.args.port c.in-Ok.now) (sym at) is) c.in-Ok.ensures.reads

pub returns-in-None-clause-kept : goal.returns-in-None-clause-kept
returns-in-None-clause-kept g c = λ h. c.look_up_and_keep.ensures.kept (still_kept _ _ _ h (late_by _ _ _ c.clock.ensures.reads))

pub returns-in-None-clause-found : goal.returns-in-None-clause-found
returns-in-None-clause-found g c = λ h.
    reaches_since c.args.host.now c.args.port _ _ _ c.look_up_and_keep.result (late_by _ _ _ c.clock.ensures.reads) c.look_up_and_keep.ensures.found
