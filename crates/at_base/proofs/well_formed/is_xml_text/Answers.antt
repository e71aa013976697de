use Rattle.std.proofs.Common.{rules, ◌≡◌, IsTrue, subst, sym, tests, ◌∙◌}
use Rattle.std.specs.List.{list_all}
use Rattle.std.specs.Str.{chars, IsUtf8}
use Rattle.std.proofs.lemmas.Iterator.{YieldsList-from_chars}
use Rattle.std.proofs.lemmas.Iterator.Search.{all_from_yields_List}
use Rattle.at_base.specs.Chars.{is_xml_char}
use Rattle.at_base.proofs.well_formed.is_xml_text.Goals as goal

pub returns : goal.returns
returns c =
    let utf8 : IsUtf8 c.args.text.now = subst IsUtf8 c.as_str.ensures c.as_str.utf8 in
    let same : c.all.result ≡ list_all is_xml_char (chars c.args.text.now) =
    all_from_yields_List is_xml_char _ _ _ c.all.ensures.ran (YieldsList-from_chars c.args.text.now utf8 (c.chars.ensures.rest ∙ c.as_str.ensures)) (λ x b q k. search (rules, tests)) in
    (λ t. subst IsTrue same t, λ t. subst IsTrue (sym same) t)
