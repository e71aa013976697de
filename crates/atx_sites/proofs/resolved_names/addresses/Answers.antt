use Rattle.atx_sites.proofs.resolved_names.addresses.Goals as goal

pub returns-in-Err-clause-found : goal.returns-in-Err-clause-found
returns-in-Err-clause-found g c = let e = c.addresses_of.ensures.found in (e.0, e.1, e.2, λ h. tt)

pub returns-then-is_empty-clause-found : goal.returns-then-is_empty-clause-found
returns-then-is_empty-clause-found g c = let e = c.addresses_of.ensures.found in (e.0, e.1, e.2, λ h. tt)

pub returns-clause-found : goal.returns-clause-found
returns-clause-found g c = c.in-Ok.ensures.found
