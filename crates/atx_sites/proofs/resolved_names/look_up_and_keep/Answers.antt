use Rattle.std.proofs.Common.{subst, sym}
use Rattle.atx_sites.specs.Names.{LookedUp}
use Rattle.atx_sites.proofs.DepartureLists.{unlooked}
use Rattle.atx_sites.proofs.NamesKept.{reaches_looked_up, resolving_later, still_kept}
use Rattle.atx_sites.proofs.resolved_names.look_up_and_keep.Goals as goal

pub returns-in_err-addresses-clause-kept : goal.returns-in_err-addresses-clause-kept
returns-in_err-addresses-clause-kept g c = λ h. still_kept _ _ _ h (resolving_later _ _ _ _ (c.look_up.ensures.looks _ (unlooked _ _ _)))

pub returns-in_err-at-clause-kept : goal.returns-in_err-at-clause-kept
returns-in_err-at-clause-kept g c = λ h. still_kept _ _ _ h (resolving_later _ _ _ _ (c.clock.ensures.looks _ _ _ (c.look_up.ensures.looks _ (unlooked _ _ _))))

pub returns-clause-kept : goal.returns-clause-kept
returns-clause-kept g c = λ h.
    c.keep_answer.ensures (g.S.System.calls c.args.system.now) (g.S.System.calls c.look_up.new.system) _
    (subst (λ l. LookedUp c.args.host.now c.args.port l (g.S.System.calls c.args.system.now) (g.S.System.calls c.look_up.new.system)) (sym c.as_slice.ensures.value) c.in_ok-addresses.ensures.found)
    c.in_ok-at.ensures.reads (still_kept _ _ _ h (resolving_later _ _ _ _ (c.clock.ensures.looks _ _ _ (c.look_up.ensures.looks _ (unlooked _ _ _)))))

pub returns-clause-found : goal.returns-clause-found
returns-clause-found g c = reaches_looked_up c.args.host.now c.args.port c.in_ok-addresses.addresses.items _ _ _ c.in_ok-at.at c.in_ok-addresses.ensures.found c.in_ok-at.ensures.reads
