use Rattle.atx_sites.proofs.DepartureLists.{unlooked}
use Rattle.atx_sites.proofs.resolved_names.addresses_of.Goals as goal

pub returns-in-Ok-clause-found : goal.returns-in-Ok-clause-found
returns-in-Ok-clause-found g c = (_, c.bare-host.ensures, unlooked _ _ _, λ h. c.address_of.ensures _ _ _ c.in-Ok.ensures.value)

pub returns-in-Err-clause-found : goal.returns-in-Err-clause-found
returns-in-Err-clause-found g c = (_, c.bare-host.ensures, c.addresses_of_name.ensures.looks _ (unlooked _ _ _), c.addresses_of_name.ensures.found)
