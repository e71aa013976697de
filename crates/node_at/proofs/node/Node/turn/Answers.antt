use Rattle.node_at.specs.State.{seen}
use Rattle.node_at.proofs.TurnAnswers.{turn_lost, turn_received}
use Rattle.node_at.proofs.node.Node.turn.Goals as goal

pub returns-clause-turn : goal.returns-clause-turn
returns-clause-turn g c = record {
  first = c.take_turn-turned.result;
  node = seen c.take_turn-turned.new.self;
  behind = c.take_turn-turned.new.site;
  steps = c.take_turn-turned.ensures.turns;
  ends = c.end_turn.ensures.ends;
}

pub returns-clause-unanswered : goal.returns-clause-unanswered
returns-clause-unanswered g c e =
    turn_lost g.S.Site.told c.take_turn-turned.result c.end_turn.result c.args.self.now.role c.end_turn.new.self.shrunk (seen c.args.self.now) (seen c.take_turn-turned.new.self) (seen c.end_turn.new.self) c.args.site.now
    c.take_turn-turned.new.site c.end_turn.new.site c.steps_reply.ensures c.take_turn-turned.ensures.turns c.end_turn.ensures.ends c.end_turn.ensures.counted e

pub returns-clause-answered : goal.returns-clause-answered
returns-clause-answered g c answered =
    turn_received g.S.Site.told c.take_turn-turned.result c.end_turn.result c.args.self.now.role c.end_turn.new.self.shrunk (seen c.args.self.now) (seen c.take_turn-turned.new.self) (seen c.end_turn.new.self)
    c.args.site.now c.take_turn-turned.new.site c.end_turn.new.site c.take_turn-turned.ensures.turns c.end_turn.ensures.ends c.end_turn.ensures.counted answered
