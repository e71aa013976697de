-- The worked examples, by computation.
use Rattle.std.proofs.Common.{inr, arith, refl, ◌≡◌, ℕ, List, [], ◌∷◌, Some, None, length, replicate}
use Rattle.std.specs.Prelude.{codes}
use Rattle.std.specs.List.{AllByRecursion}
use Rattle.std.specs.Str.{chars, is_utf8}
use Rattle.std.proofs.lemmas.List.{length-replicate}
use Rattle.xml_grammar.specs.Code.Reading.{pair_at, start_at, markup_at}
use Rattle.xml_grammar.specs.Code.Whole.{read_text}
use Rattle.xml_grammar.specs.Examples.{AreNotSpelled, AreSpelled, AtLimits, Example, fronts, lines, markup, no_characters, no_fronts, no_markup, no_prefixes, prefixes, values}
use Rattle.xml_grammar.specs.Namespaces.{means}
use Rattle.xml_grammar.specs.Refusals.{Reads, Refuses}
use Rattle.xml_grammar.specs.Samples.{deep, deep_text, wide, wide_text}
use Rattle.xml_grammar.specs.Spells.{body, declaration_at}
use Rattle.xml_grammar.specs.declared.reader.TreeRefusal.TheVariants.{TooDeep, TooMany}
use Rattle.xml_grammar.proofs.Rows.{row_reads, row_refused}
use Rattle.xml_grammar.proofs.SpellLaws.{meaning, spelled, unspelled}

abbrev AreRead : List Example → Type 0
AreRead examples = AllByRecursion (λ example. meaning example.text ≡ Some example.tree) examples

abbrev AreNotRead : List (List ℕ) → Type 0
AreNotRead texts = AllByRecursion (λ text. meaning text ≡ None) texts

are_spelled : (examples : List Example) → AreRead examples → AreSpelled examples
are_spelled [] h = tt
are_spelled (example ∷ more) h = (spelled example.text example.tree h.0, are_spelled more h.1)

are_not_spelled : (texts : List (List ℕ)) → AreNotRead texts → AreNotSpelled texts
are_not_spelled [] h = tt
are_not_spelled (text ∷ more) h = (unspelled text h.0, are_not_spelled more h.1)

pub markup_spelled : AreSpelled markup
unfolding read_text means start_at pair_at markup_at body declaration_at chars is_utf8 lib.Utf8.encode
markup_spelled = are_spelled markup (refl, (refl, (refl, (refl, tt))))

pub fronts_spelled : AreSpelled fronts
unfolding read_text means start_at pair_at markup_at body declaration_at chars is_utf8 lib.Utf8.encode
fronts_spelled = are_spelled fronts (refl, (refl, (refl, tt)))

pub lines_spelled : AreSpelled lines
unfolding read_text means start_at pair_at markup_at body declaration_at chars is_utf8 lib.Utf8.encode
lines_spelled = are_spelled lines (refl, (refl, (refl, (refl, tt))))

pub values_spelled : AreSpelled values
unfolding read_text means start_at pair_at markup_at body declaration_at chars is_utf8 lib.Utf8.encode
values_spelled = are_spelled values (refl, (refl, (refl, tt)))

pub prefixes_spelled : AreSpelled prefixes
unfolding read_text means start_at pair_at markup_at body declaration_at chars is_utf8 lib.Utf8.encode
prefixes_spelled = are_spelled prefixes (refl, (refl, (refl, (refl, (refl, tt)))))

pub no_markup_spelled : AreNotSpelled no_markup
unfolding read_text means start_at pair_at markup_at body declaration_at chars is_utf8 lib.Utf8.encode
no_markup_spelled = are_not_spelled no_markup (refl, (refl, (refl, (refl, (refl, (refl, tt))))))

pub no_fronts_spelled : AreNotSpelled no_fronts
unfolding read_text means start_at pair_at markup_at body declaration_at chars is_utf8 lib.Utf8.encode
no_fronts_spelled = are_not_spelled no_fronts (refl, (refl, (refl, tt)))

pub no_prefixes_spelled : AreNotSpelled no_prefixes
unfolding read_text means start_at pair_at markup_at body declaration_at chars is_utf8 lib.Utf8.encode
no_prefixes_spelled = are_not_spelled no_prefixes (refl, (refl, (refl, (refl, (refl, (refl, (refl, (refl, (refl, (refl, tt))))))))))

pub no_characters_spelled : AreNotSpelled no_characters
unfolding read_text means start_at pair_at markup_at body declaration_at chars is_utf8 lib.Utf8.encode
no_characters_spelled = are_not_spelled no_characters (refl, (refl, tt))

deepest : Reads (deep_text 31) (deep 31)
unfolding read_text means start_at pair_at markup_at body declaration_at chars is_utf8 lib.Utf8.encode
deepest =
    record { short = omega arith; spells = spelled (deep_text 31) (deep 31) refl; within = record { levels = omega arith; elements = omega arith; attributes = omega arith } }

too_deep : Refuses (deep_text 32) TooDeep
unfolding read_text means start_at pair_at markup_at body declaration_at chars is_utf8 lib.Utf8.encode
too_deep = record { short = omega arith; tree = deep 32; spells = spelled (deep_text 32) (deep 32) refl; deep = omega arith }

abbrev thirty_two : List ℕ
thirty_two = codes "abcdefghijklmnopqrstuvwxyzABCDEF"

abbrev thirty_three : List ℕ
thirty_three = codes "abcdefghijklmnopqrstuvwxyzABCDEFG"

widest : Reads (wide_text thirty_two) (wide thirty_two)
unfolding read_text means start_at pair_at markup_at body declaration_at chars is_utf8 lib.Utf8.encode
widest =
    record {
      short = omega arith;
      spells = spelled (wide_text thirty_two) (wide thirty_two) refl;
      within = record { levels = omega arith; elements = omega arith; attributes = omega arith };
    }

too_wide : Refuses (wide_text thirty_three) TooMany
unfolding read_text means start_at pair_at markup_at body declaration_at chars is_utf8 lib.Utf8.encode
too_wide =
    record {
      short = omega arith;
      tree = wide thirty_three;
      spells = spelled (wide_text thirty_three) (wide thirty_three) refl;
      shallow = omega arith;
      many = inr (omega arith);
    }

pub at_limits : AtLimits
at_limits =
    let most : length {A = ℕ} (replicate 65536 32) ≡ 65536 = length-replicate {A = ℕ} 65536 32 in
    let more : length {A = ℕ} (replicate 65537 32) ≡ 65537 = length-replicate {A = ℕ} 65537 32 in
    record {
      bytes = omega (arith, most);
      too_long = omega (arith, more);
      levels = deepest;
      too_deep = too_deep;
      attributes = widest;
      too_wide = too_wide;
      elements = row_reads 4095 (omega arith);
      too_many = row_refused 4096 (omega arith) (omega arith);
    }
