-- What the reader's values are to the grammar.
use Rattle.std.specs.Prelude.{List, map, ◌++◌, Option, Some, None}
use Rattle.xml_grammar.specs.Characters.{Parts}
use Rattle.xml_grammar.specs.Tokens.{Pair, Tag, Token}
use Rattle.xml_grammar.specs.Tokens.Token.{Plain, Meant, Comment, Start, End}
use Rattle.xml_grammar.specs.Code.Reading.{Ending}
use Rattle.xml_grammar.specs.declared.lexer.Parts.{Parts as Spelled}
use Rattle.xml_grammar.specs.declared.markup.Pair.{Pair as PairRead}
use Rattle.xml_grammar.specs.declared.markup.Tag.{Tag as TagRead}
use Rattle.xml_grammar.specs.declared.markup.Ending.{Ending as EndingRead}
use Rattle.xml_grammar.specs.declared.markup.Token.{Token as TokenRead}
use Rattle.xml_grammar.specs.declared.markup.Token.TheVariants as read

abbrev pub parts_of : Spelled → Parts
parts_of p = record { prefix = p.prefix.now; local = p.local.now }

abbrev pub pair_of : PairRead → Pair
pair_of p = record { name = p.name.now; value = p.value }

abbrev pub tag_of : TagRead → Tag
tag_of t = record { name = t.name.now; pairs = map pair_of t.pairs.items; is_empty = t.is_empty }

abbrev pub token_of : TokenRead → Token
token_of (read.Plain c) = Plain c
token_of (read.Meant text) = Meant text
token_of read.Comment = Comment
token_of (read.Start tag) = Start (tag_of tag)
token_of (read.End name) = End name.now

-- pairs in front of those that an ending has
abbrev pub with_pairs : List Pair → Option Ending → Option Ending
with_pairs ps None = None
with_pairs ps (Some e) = Some (record { pairs = ps ++ e.pairs; is_empty = e.is_empty; rest = e.rest })

abbrev pub ending_of : EndingRead → Ending
ending_of e = record { pairs = map pair_of e.pairs.items; is_empty = e.is_empty; rest = e.rest.now }
