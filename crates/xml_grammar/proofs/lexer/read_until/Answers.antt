use Rattle.std.proofs.Common.{sym, ◌∙◌, arith}
use Rattle.xml_grammar.proofs.UntilLaws.{until_here, until_further, there}
use Rattle.xml_grammar.proofs.lexer.read_until.Goals as goal

pub returns-in-Some : goal.returns-in-Some
returns-in-Some c = sym (until_here c.args.word.now c.args.cs.now c.loop-n.n c.in-Some.rest.now c.loop-n-test.true (there c.args.word.now c.args.cs.now c.loop-n.n (sym c.in-Some.ensures))) ∙ c.loop-n.invariant.1

pub loop-n-preserved : goal.loop-n-preserved
loop-n-preserved c = (omega arith, until_further c.args.word.now c.args.cs.now c.loop-n.n c.loop-n-test.true (there c.args.word.now c.args.cs.now c.loop-n.n (sym c.in_default.ensures)) ∙ c.loop-n.invariant.1)
