use Rattle.std.proofs.Common.{rules, ap, sym, tests, ◌∙◌, ◌&&◌}
use Rattle.std.specs.List.{list_all}
use Rattle.std.specs.Str.{chars}
use Rattle.std.proofs.lemmas.Iterator.{YieldsList-from_chars}
use Rattle.std.proofs.lemmas.Iterator.Search.{all_from_yields_List}
use Rattle.std.proofs.lemmas.Str.{is_utf8-from_IsUtf8}
use Rattle.at_base.specs.Chars.{is_xml_char}
use Rattle.xml_profile.proofs.spellable_trees.is_text.Goals as goal

pub returns : goal.returns
returns c =
    all_from_yields_List is_xml_char _ _ _ c.all.ensures.ran (YieldsList-from_chars c.args.text.now c.utf8.text c.chars.ensures.rest) (λ x b q k. search (rules, tests))
    ∙ ap (λ b. b && list_all is_xml_char (chars c.args.text.now)) (sym (is_utf8-from_IsUtf8 c.args.text.now c.utf8.text))
