use Rattle.atx_sites.proofs.Receipts.{if_failed, received}
use Rattle.atx_sites.proofs.file_site.FileSiteSite.receive.Goals as goal

pub returns-clause-call : goal.returns-clause-call
returns-clause-call g c = received c.args.self.now.disk _ _ _ _ _ _ _ _ (if_failed _ _ c.refused.ensures.fails) c.refused.ensures.cause c.refused.ensures.exact
