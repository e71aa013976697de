-- The lines of a report: a name, a space and a word, ended by LF.
use Rattle.std.specs.Prelude.{ℕ, List, [], ◌++◌, Option, Some, None, codes}
use Rattle.xml_profile.specs.CanonicalText.{value_text}
use Rattle.at_base.specs.declared.epr.Epr.{Epr}

unfoldable pub line : List ℕ → List ℕ → List ℕ
line name word = name ++ (codes " " ++ (word ++ codes "\n"))

-- a text of the message, escaped as an attribute's value is, so that it holds no LF (XML 1.0, section 3.3.3)
unfoldable pub text_line : List ℕ → List ℕ → List ℕ
text_line name text = line name (value_text text)

-- an endpoint, by its address
abbrev pub address_line : List ℕ → Epr → List ℕ
address_line name epr = text_line name epr.address

-- a line where there is something to print
abbrev pub where_some : {A : Type 0} → (A → List ℕ) → Option A → List ℕ
where_some printed None = []
where_some printed (Some x) = printed x
