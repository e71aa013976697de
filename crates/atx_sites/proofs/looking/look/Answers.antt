use Rattle.atx_sites.proofs.Pausing.{looks_again, looks_once, looks_paused, looks_with}
use Rattle.atx_sites.proofs.looking.look.Goals as goal

pub returns-then-polls : goal.returns-then-polls
returns-then-polls g c = looks_with _ _ _ _ _ c.ranges.millis (looks_once _ _ c.polls.new.asks c.polls.result _ _ c.if-polls.true c.polls.ensures)

pub returns-then-not-polls : goal.returns-then-not-polls
returns-then-not-polls g c =
    looks_with _ _ _ _ _ c.ranges.millis
    (looks_paused _ c.polls.new.asks c.polls-2.new.asks _ c.polls.result c.polls-2.result _ (g.S.System.calls c.polls.new.system) (g.S.System.calls c.polls-2.new.system) _ c.if-polls.false c.polls.ensures c.if-not-polls.true c.polls-2.ensures c.pause.ensures)

pub returns-else-not-polls : goal.returns-else-not-polls
returns-else-not-polls g c =
    looks_with _ _ _ _ _ c.ranges.millis
    (looks_again _ c.polls.new.asks c.polls-2.new.asks _ c.polls.result c.polls-2.result _ (g.S.System.calls c.polls.new.system) _ c.if-polls.false c.polls.ensures c.if-not-polls.false c.polls-2.ensures)
