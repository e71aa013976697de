use Rattle.node_at.specs.ConnectionRequests.{meaning_of}
use Rattle.node_at.specs.Turns.{is_heard}
use Rattle.node_at.proofs.HeardRequests.{came_so, fault_heard, line_fault, line_request}
use Rattle.node_at.proofs.connection_request.read.Goals as goal

pub returns-clause-hears : goal.returns-clause-hears
returns-clause-hears g c =
    fault_heard c.args.role (g.S.Site.told c.args.site.now).link c.in-Err.refusal (meaning_of c.without_request.result) c.without_request.ensures c.in-Err.ensures.err
    (λ f. came_so (g.S.Site.told c.args.site.now) (c.in-Err.ensures.came f))

pub returns-clause-line : goal.returns-clause-line
returns-clause-line g c =
    let (made, (heard, says)) = c.take_request.ensures.hears in (
      made,
      (
        heard,
        line_fault c.take_request.result c.in-Err.refusal (g.S.Site.told c.args.site.now) (g.S.Site.told c.take_request.new.site) made (meaning_of c.without_request.result) c.in-Err.is c.without_request.ensures says,
      ),
    )

pub returns-in-Ok-said-clause-line : goal.returns-in-Ok-said-clause-line
returns-in-Ok-said-clause-line g c =
    let (made, (heard, says)) = c.take_request.ensures.hears in (
      made,
      (
        heard,
        line_request c.take_request.result c.in-Ok.request (g.S.Site.told c.args.site.now) (g.S.Site.told c.take_request.new.site) made (is_heard (meaning_of c.in-Ok-said.asked)) c.in-Ok.is says,
      ),
    )
