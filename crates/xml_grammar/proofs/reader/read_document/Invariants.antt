use Rattle.std.proofs.Common.{length}
use Rattle.xml_grammar.specs.Code.Open.{reading_of}
use Rattle.xml_grammar.proofs.ReaderLaws.{Reaches}
use Rattle.xml_grammar.proofs.reader.read_document.Given as goal

abbrev pub invariant-loop-rest : goal.invariant-loop-rest
invariant-loop-rest l = Reaches l.cs (reading_of l.machine) l.rest

abbrev pub decreases-loop-rest : goal.decreases-loop-rest
decreases-loop-rest l = length l.rest
