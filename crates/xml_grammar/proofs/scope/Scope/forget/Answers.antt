use Rattle.xml_grammar.proofs.PlaceLaws.{popped, last_there, popped_found, popped_hides}
use Rattle.xml_grammar.proofs.scope.Scope.forget.Goals as goal

pub restore-requires : goal.restore-requires
restore-requires c =
    let s = c.args.self.now in
    last_there s.latest s.held.items c.pop.new.self.items c.in-Some.last (popped s.held.items c.pop.new.self.items c.pop.result c.in-Some.last c.pop.ensures.items c.in-Some.is) s.found

pub invariant_of-self : goal.invariant_of-self
invariant_of-self c =
    let s = c.args.self.now in
    let hs = c.pop.new.self.items in
    let e = popped s.held.items hs c.pop.result c.in-Some.last c.pop.ensures.items c.in-Some.is in
    record {
      found = popped_found s.latest c.restore.new.latest s.held.items hs c.in-Some.last e s.found s.hides c.restore.ensures;
      hides = popped_hides s.held.items hs c.in-Some.last e s.hides;
      named = s.named;
    }
