use Rattle.net_plays.proofs.PlayedEvents.{behind_opening, opens}
use Rattle.net_plays.proofs.play.Play.opening.Goals as goal

pub invariant_of-result : goal.invariant_of-result
invariant_of-result c = behind_opening c.in_ok-new.field-0 c.args.count c.in_ok-opening.field-0 c.in_ok-new.ensures c.requires.1 c.in_ok-opening.ensures.mirrors

pub returns : goal.returns
returns c =
    opens c.args.count c.in_ok-new.field-0 c.in_ok-opening.field-0 c.new-2.result c.in_ok-new-2.field-0 c.new-4.result c.in_ok-new.ensures c.in_ok-opening.ensures.unstarted
    c.new-2.ensures c.in_ok-new-2.ensures c.new-4.ensures
