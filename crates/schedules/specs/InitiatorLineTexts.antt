-- How the lines of an initiator are written, and which lists of lines are an initiator's.
use Rattle.std.specs.Prelude.{ℕ, List, [], ◌∷◌, ◌++◌, ◌≡◌, ◌≤◌, Bool, true, false, ◌&&◌, nat_le, codes, decimal, flat_map}
use Rattle.std.specs.List.{join_with_byte, list_all}
use Rattle.schedules.specs.declared.initiator_line.InitiatorLine.{InitiatorLine}
use Rattle.schedules.specs.declared.initiator_line.InitiatorLine.TheVariants as lines
use Rattle.schedules.specs.InitiatorLines.{is_base, is_content, made_by}
use Rattle.schedules.specs.Values.{largest}
use Rattle.at_base.specs.Names.{kind_letter, vote_name}

abbrev pub words_in : InitiatorLine → List (List ℕ)
words_in (lines.Begin url ms) = codes "begin" ∷ url ∷ decimal ms ∷ []
words_in (lines.Interpose a url) = codes "interpose" ∷ decimal a ∷ url ∷ []
words_in (lines.Work a url kind vote key value) =
    codes "work" ∷ decimal a ∷ url ∷ kind_letter kind ∷ vote_name vote ∷ key ∷ value ∷ []
words_in (lines.Commit a false) = codes "commit" ∷ decimal a ∷ []
words_in (lines.Commit a true) = codes "commit" ∷ decimal a ∷ codes "anyway" ∷ []
words_in (lines.Rollback a) = codes "rollback" ∷ decimal a ∷ []
words_in lines.Wait = codes "wait" ∷ []

-- the words, separated by one space
abbrev pub line_text : InitiatorLine → List ℕ
line_text line = join_with_byte 32 (words_in line)

-- each line ends in LF
abbrev pub written : List InitiatorLine → List ℕ
written all = flat_map (λ line. line_text line ++ 10 ∷ []) all

-- a byte of a word: printable and no space
abbrev pub is_visible : ℕ → Bool
is_visible b = nat_le 33 b && nat_le b 126

abbrev pub are_visible : List ℕ → Bool
are_visible word = list_all is_visible word

abbrev pub IsBase : List ℕ → Type 0
IsBase url = (are_visible url ≡ true) × (is_base url ≡ true)

abbrev pub IsContent : List ℕ → Type 0
IsContent word = (are_visible word ≡ true) × (is_content word ≡ true)

abbrev pub IsMade : ℕ → ℕ → Type 0
IsMade made a = (1 ≤ a) × (a ≤ made)

-- a line behind others that make so many activities
abbrev pub IsAsked : ℕ → InitiatorLine → Type 0
IsAsked made (lines.Begin url ms) = IsBase url × (ms ≤ largest)
IsAsked made (lines.Interpose a url) = IsMade made a × IsBase url
IsAsked made (lines.Work a url kind vote key value) = IsMade made a × IsBase url × IsContent key × IsContent value
IsAsked made (lines.Commit a anyway) = IsMade made a
IsAsked made (lines.Rollback a) = IsMade made a
IsAsked made lines.Wait = Unit {0}

abbrev pub AreAsked : ℕ → List InitiatorLine → Type 0
AreAsked made [] = Unit {0}
AreAsked made (line ∷ more) = IsAsked made line × AreAsked (made_by made line) more
