use Rattle.std.proofs.Common.{rules, ap, sym, tests, ◌∙◌, ◌&&◌}
use Rattle.std.specs.List.{list_all}
use Rattle.std.specs.Str.{chars}
use Rattle.std.proofs.lemmas.Iterator.{YieldsList-from_chars}
use Rattle.std.proofs.lemmas.Iterator.Search.{all_from_yields_List}
use Rattle.std.proofs.lemmas.Str.{is_utf8-from_IsUtf8}
use Rattle.xml_profile.specs.SpellableTrees.{is_part_char}
use Rattle.xml_profile.proofs.spellable_trees.has_part_chars.Goals as goal

pub returns : goal.returns
returns c =
    all_from_yields_List is_part_char _ _ _ c.all.ensures.ran (YieldsList-from_chars c.args.part.now c.utf8.part c.chars.ensures.rest) (λ x b q k. search (rules, tests))
    ∙ ap (λ b. b && list_all is_part_char (chars c.args.part.now)) (sym (is_utf8-from_IsUtf8 c.args.part.now c.utf8.part))
