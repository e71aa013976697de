use Rattle.std.proofs.Common.{sym, ap, ◌∙◌, subst}
use Rattle.std.specs.List.{list_all}
use Rattle.at_base.specs.Chars.{is_xml_char}
use Rattle.xml_grammar.specs.Spells.{body, line_ends}
use Rattle.xml_grammar.specs.Code.Found.{Finds}
use Rattle.xml_grammar.proofs.ReaderLaws.{text_ok, text_err, finds_found}
use Rattle.xml_grammar.proofs.reader.read_text.Goals as goal

pub returns-in-Some-clause-ok : goal.returns-in-Some-clause-ok
returns-in-Some-clause-ok c =
    let cs = c.as_slice.ensures.value ∙ c.in_ok-cs.ensures in
    let e = ap (list_all is_xml_char) (sym cs) ∙ (sym c.are_xml_chars.ensures ∙ c.if-not-are_xml_chars.false) in
    let lines = c.as_slice-3.ensures.value ∙ (c.in_ok-lines.ensures ∙ ap line_ends (c.as_slice-2.ensures.value ∙ c.in_ok-cs.ensures)) in
    let at = subst (λ v. Finds v c.in_ok-found.field-0) c.read_body.ensures c.in_ok-found.ensures in
    text_ok c.args.text.now c.as_slice-3.result.now c.in-Some.found c.within.result c.requires.short c.requires.utf8 e lines (finds_found (body c.as_slice-3.result.now) c.in_ok-found.field-0 c.in-Some.found at c.in-Some.is) c.within.ensures

pub returns-in-Some-clause-err : goal.returns-in-Some-clause-err
returns-in-Some-clause-err c =
    let cs = c.as_slice.ensures.value ∙ c.in_ok-cs.ensures in
    let e = ap (list_all is_xml_char) (sym cs) ∙ (sym c.are_xml_chars.ensures ∙ c.if-not-are_xml_chars.false) in
    let lines = c.as_slice-3.ensures.value ∙ (c.in_ok-lines.ensures ∙ ap line_ends (c.as_slice-2.ensures.value ∙ c.in_ok-cs.ensures)) in
    let at = subst (λ v. Finds v c.in_ok-found.field-0) c.read_body.ensures c.in_ok-found.ensures in
    text_err c.args.text.now c.as_slice-3.result.now c.in-Some.found c.within.result c.requires.short c.requires.utf8 e lines (finds_found (body c.as_slice-3.result.now) c.in_ok-found.field-0 c.in-Some.found at c.in-Some.is) c.within.ensures
