-- What a node that serves prints. Each line ends in LF.
use Rattle.std.specs.Prelude.{ℕ, List, [], ◌∷◌, ◌++◌, zero, suc, codes, decimal}
use Rattle.at_base.specs.IdText.{id_text}
use Rattle.at_base.specs.Numbers.{Numbers}
use Rattle.at_base.specs.declared.notice.Kind.{Kind}
use Rattle.at_base.specs.declared.outs.Effect.{Effect}
use Rattle.at_base.specs.declared.outs.Effect.TheVariants as effects
use Rattle.at_base.specs.declared.outs.Ending.{Ending}
use Rattle.at_base.specs.Names.{kind_letter}
use Rattle.effect_words.specs.Words.{ending_word, told_word}
use Rattle.node_at.specs.declared.fault.StartFault.{StartFault}
use Rattle.node_at.specs.declared.fault.StartFault.TheVariants as faults

-- the node is up, in this incarnation
unfoldable pub up_line : ℕ → List ℕ
up_line incarnation = codes "up " ++ (decimal incarnation ++ codes "\n")

-- an item, by its id, and what became of it
unfoldable pub item_line : List ℕ → Numbers → List ℕ → List ℕ
item_line item id word = item ++ (codes " " ++ (id_text id ++ (codes " " ++ (word ++ codes "\n"))))

-- a leaf's kind stands before how it ended
unfoldable pub leaf_words : Kind → Ending → List ℕ
leaf_words kind what = kind_letter kind ++ (codes " " ++ ending_word what)

abbrev pub effect_line : Effect → List ℕ
effect_line (effects.Root id what) = item_line (codes "root") id (ending_word what)
effect_line (effects.Sub id what) = item_line (codes "sub") id (ending_word what)
effect_line (effects.Leaf id kind what) = item_line (codes "leaf") id (leaf_words kind what)
effect_line (effects.Told id what) = item_line (codes "told") id (told_word what)

abbrev pub effect_lines : List Effect → List ℕ
effect_lines [] = []
effect_lines (e ∷ es) = effect_line e ++ effect_lines es

-- a request of the program's own was refused
unfoldable pub refused_line : List ℕ → List ℕ
refused_line word = codes "refused " ++ (word ++ codes "\n")

-- the journal stands for no list of records: the place of a gate, in its first file or in its second
unfoldable pub bad_line : ℕ → ℕ → List ℕ
bad_line zero place = codes "bad journal at " ++ (decimal place ++ codes "\n")
bad_line (suc n) place = codes "bad journal file 1 at " ++ (decimal place ++ codes "\n")

-- the files are no journal
unfoldable pub no_journal_line : List ℕ
no_journal_line = codes "no journal\n"

-- what is printed where a node wasn't started
abbrev pub fault_text : StartFault → List ℕ
fault_text (faults.Bad file place) = bad_line file place
fault_text faults.NoJournal = no_journal_line
fault_text other = []
