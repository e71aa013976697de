-- Texts and the trees that they spell, texts that spell none, and texts at each limit and past it.
use Rattle.std.specs.Prelude.{ℕ, List, [], ◌∷◌, ◌++◌, Some, codes, replicate}
use Rattle.std.specs.List.{AllByRecursion}
use Rattle.xml_grammar.specs.Refusals.{IsShort, Reads, Refuses}
use Rattle.xml_grammar.specs.Samples.{deep, deep_text, element, plain, row, row_text, wide, wide_text}
use Rattle.xml_grammar.specs.Spells.{Spells}
use Rattle.xml_grammar.specs.declared.reader.TreeRefusal.TheVariants.{TooLong, TooDeep, TooMany}
use Rattle.xml_profile.specs.Forest.Forest.{End, Text_then}
use Rattle.xml_profile.specs.declared.name.QName.{QName}
use Rattle.xml_profile.specs.declared.tree.Tree.{Tree}

abbrev pub within : List ℕ → List ℕ → QName
within space local = record { space = Some space; local = local }

-- a text, and the tree that it spells
pub record Example : Type 0 where
  pub text : List ℕ
  pub tree : Tree

abbrev pub AreSpelled : List Example → Type 0
AreSpelled examples = AllByRecursion (λ example. Spells example.text example.tree) examples

abbrev pub AreNotSpelled : List (List ℕ) → Type 0
AreNotSpelled texts = AllByRecursion (λ text. (t : Tree) → ¬ (Spells text t)) texts

-- tags, comments, CDATA sections, references and values (XML 1.0, sections 2 to 4)
abbrev pub markup : List Example
markup =
    record { text = codes "<a/>"; tree = element (plain (codes "a")) [] End }
    ∷ record { text = codes "<!-- c --><a>x<!--y-->z</a>"; tree = element (plain (codes "a")) [] (Text_then (codes "xz") End) }
    ∷ record { text = codes "<a><![CDATA[<&]]>&#x41;&#0066;&lt;</a>"; tree = element (plain (codes "a")) [] (Text_then (codes "<&AB<") End) }
    ∷ record { text = codes "<a b = 'c'></a >"; tree = element (plain (codes "a")) (record { name = plain (codes "b"); value = codes "c" } ∷ []) End }
    ∷ []

-- a byte order mark and an XML declaration in front (sections 4.3.3 and 2.8)
abbrev pub fronts : List Example
fronts =
    record { text = 0xEF ∷ 0xBB ∷ 0xBF ∷ codes "<a/>"; tree = element (plain (codes "a")) [] End }
    ∷ record { text = codes "<?xml version='1.0' encoding=\"utf-8\" standalone='no'?><a/>"; tree = element (plain (codes "a")) [] End }
    ∷ record { text = 0xEF ∷ 0xBB ∷ 0xBF ∷ codes "<?xml version='1.0'?><a/>"; tree = element (plain (codes "a")) [] End }
    ∷ []

-- a CR with or without a LF is a LF, and one by reference stays (section 2.11)
abbrev pub lines : List Example
lines =
    record { text = codes "<a>x" ++ 13 ∷ 10 ∷ codes "y</a>"; tree = element (plain (codes "a")) [] (Text_then (codes "x" ++ 10 ∷ codes "y") End) }
    ∷ record { text = codes "<a>x" ++ 13 ∷ codes "y</a>"; tree = element (plain (codes "a")) [] (Text_then (codes "x" ++ 10 ∷ codes "y") End) }
    ∷ record { text = codes "<a>&#13;</a>"; tree = element (plain (codes "a")) [] (Text_then (13 ∷ []) End) }
    ∷ record { text = codes "<a>" ++ 9 ∷ codes "</a>"; tree = element (plain (codes "a")) [] (Text_then (9 ∷ []) End) }
    ∷ []

-- a TAB, a CR or a LF in a value is a space, and one by reference stays (section 3.3.3)
abbrev pub values : List Example
values =
    record { text = codes "<a b='x" ++ 9 ∷ codes "y'/>"; tree = element (plain (codes "a")) (record { name = plain (codes "b"); value = codes "x y" } ∷ []) End }
    ∷ record { text = codes "<a b='x" ++ 13 ∷ 10 ∷ codes "y'/>"; tree = element (plain (codes "a")) (record { name = plain (codes "b"); value = codes "x y" } ∷ []) End }
    ∷ record { text = codes "<a b='x&#9;y'/>"; tree = element (plain (codes "a")) (record { name = plain (codes "b"); value = codes "x" ++ 9 ∷ codes "y" } ∷ []) End }
    ∷ []

-- prefixes, the default namespace, and the prefix xml (Namespaces in XML 1.0, sections 3 and 6)
abbrev pub prefixes : List Example
prefixes =
    record { text = codes "<p:a xmlns:p='u' p:b=''/>"; tree = element (record { space = Some (codes "u"); local = codes "a" }) (record { name = record { space = Some (codes "u"); local = codes "b" }; value = [] } ∷ []) End }
    ∷ record { text = codes "<a xmlns='u' b=''/>"; tree = element (record { space = Some (codes "u"); local = codes "a" }) (record { name = plain (codes "b"); value = [] } ∷ []) End }
    ∷ record { text = codes "<a xml:lang='en'/>"; tree = element (plain (codes "a")) (record { name = within (codes "http://www.w3.org/XML/1998/namespace") (codes "lang"); value = codes "en" } ∷ []) End }
    ∷ record { text = codes "<a xmlns:xml='http://www.w3.org/XML/1998/namespace'/>"; tree = element (plain (codes "a")) [] End }
    ∷ record { text = codes "<a xmlns=''/>"; tree = element (plain (codes "a")) [] End }
    ∷ []

-- the end of a section in a text, dashes in a comment, a number past the last character, values without white space between, two roots
abbrev pub no_markup : List (List ℕ)
no_markup =
    codes "<a>]]></a>"
    ∷ codes "<a><!-- -- --></a>"
    ∷ codes "<a><!-- ---></a>"
    ∷ codes "<a>&#x110000;</a>"
    ∷ codes "<a b='c'd='e'/>"
    ∷ codes "<a/><b/>"
    ∷ []

-- a declaration or a mark that doesn't stand at the very front, and another encoding
abbrev pub no_fronts : List (List ℕ)
no_fronts =
    codes " <?xml version='1.0'?><a/>"
    ∷ (32 ∷ 0xEF ∷ 0xBB ∷ 0xBF ∷ codes "<a/>")
    ∷ codes "<?xml version='1.0' encoding='latin-1'?><a/>"
    ∷ []

-- prefixes that aren't bound or bound otherwise at the end, equal expanded names, `xmlns:p=""`, and the prefixes xml and xmlns and their names
abbrev pub no_prefixes : List (List ℕ)
no_prefixes =
    codes "<p:a/>"
    ∷ codes "<a><b xmlns:p='u'/><p:c/></a>"
    ∷ codes "<p:a xmlns:p='u' xmlns:q='u'></q:a>"
    ∷ codes "<a xmlns:p='u' xmlns:q='u' p:b='' q:b=''/>"
    ∷ codes "<a xmlns:p=''/>"
    ∷ codes "<a xmlns:xml='u'/>"
    ∷ codes "<a xmlns:p='http://www.w3.org/XML/1998/namespace'/>"
    ∷ codes "<a xmlns:xmlns='u'/>"
    ∷ codes "<a xmlns:p='http://www.w3.org/2000/xmlns/'/>"
    ∷ codes "<xmlns:a/>"
    ∷ []

-- what is no character of XML (XML 1.0, section 2.2), and what is no UTF-8
abbrev pub no_characters : List (List ℕ)
no_characters =
    (codes "<a>" ++ 1 ∷ codes "</a>")
    ∷ (codes "<a>" ++ 0xFF ∷ codes "</a>")
    ∷ []

-- the limits: 65,536 bytes, 32 levels, 32 attributes and 4,096 elements
pub record AtLimits : Type 0 where
  pub bytes : IsShort (replicate 65536 32)
  pub too_long : Refuses (replicate 65537 32) TooLong
  pub levels : Reads (deep_text 31) (deep 31)
  pub too_deep : Refuses (deep_text 32) TooDeep
  pub attributes : Reads (wide_text (codes "abcdefghijklmnopqrstuvwxyzABCDEF")) (wide (codes "abcdefghijklmnopqrstuvwxyzABCDEF"))
  pub too_wide : Refuses (wide_text (codes "abcdefghijklmnopqrstuvwxyzABCDEFG")) TooMany
  pub elements : Reads (row_text 4095) (row 4095)
  pub too_many : Refuses (row_text 4096) TooMany
