use Rattle.std.proofs.Common.{◌≡◌, subst, IfOk, IfErr}
use Rattle.xml_grammar.specs.Refusals.{Reads, Refuses}
use Rattle.xml_grammar.proofs.ReaderLaws.{answers}
use Rattle.xml_grammar.proofs.reader.read_tree.Goals as goal

pub returns-in-Ok-clause-every : goal.returns-in-Ok-clause-every
returns-in-Ok-clause-every c =
    let e : c.in-Ok.text.now ≡ c.args.bytes.now = c.in-Ok.ensures.cases.0 in
    answers c.args.bytes.now c.read_text.result (subst (λ v. IfOk c.read_text.result (Reads v)) e c.read_text.ensures.ok) (subst (λ v. IfErr c.read_text.result (Refuses v)) e c.read_text.ensures.err)
