use Rattle.std.proofs.Common.{sym, ap, ◌∙◌, Some, None, option_map}
use Rattle.xml_grammar.specs.Code.Views.{ending_of}
use Rattle.xml_grammar.proofs.StartLaws.{start_gives}
use Rattle.xml_grammar.proofs.markup.read_start.Goals as goal

pub returns-in_default-2 : goal.returns-in_default-2
returns-in_default-2 c = sym (start_gives c.args.cs.now c.in-Some.inside.now c.in-Some-read_name.name.now c.in-Some-read_name.rest.now None (sym c.in-Some.ensures) (sym c.in-Some-read_name.ensures)
    (sym c.in_ok-ending.ensures ∙ ap (option_map ending_of) c.in_default-2.is))

pub returns : goal.returns
returns c = sym (start_gives c.args.cs.now c.in-Some.inside.now c.in-Some-read_name.name.now c.in-Some-read_name.rest.now (Some (ending_of c.in-Some-2.ending)) (sym c.in-Some.ensures) (sym c.in-Some-read_name.ensures)
    (sym c.in_ok-ending.ensures ∙ ap (option_map ending_of) c.in-Some-2.is))
