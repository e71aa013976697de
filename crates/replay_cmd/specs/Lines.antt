-- The lines of a report. Each ends in LF.
use Rattle.std.specs.Prelude.{ℕ, List, ◌++◌, Option, Some, None, codes, decimal}
use Rattle.at_base.specs.IdText.{id_text}
use Rattle.at_base.specs.Numbers.{Numbers}
use Rattle.at_base.specs.declared.notice.Kind.{Kind}
use Rattle.at_base.specs.declared.outs.Effect.{Effect}
use Rattle.at_base.specs.declared.outs.Effect.TheVariants as effects
use Rattle.at_base.specs.declared.outs.Ending.{Ending}
use Rattle.at_base.specs.Names.{kind_letter}
use Rattle.at_model.specs.Views.{Line}
use Rattle.effect_words.specs.Words.{ending_word, told_word}
use Rattle.hex.specs.Hex.{encode_lower}
use Rattle.replay_cmd.specs.declared.lines.Outcome.{Outcome}
use Rattle.replay_cmd.specs.declared.lines.Outcome.TheVariants as outcomes
use Rattle.replay_cmd.specs.declared.lines.Started.{Started}
use Rattle.replay_cmd.specs.declared.lines.Started.TheVariants as starts

-- a node came up in this incarnation, or not at all
abbrev pub start_word : Started → List ℕ
start_word (starts.Up incarnation) = decimal incarnation
start_word starts.Stopped = codes "stopped"
start_word starts.Failed = codes "failed"

-- the HTTP status that a turn answered, or how it ended before
abbrev pub outcome_word : Outcome → List ℕ
outcome_word (outcomes.Answered status) = decimal status
outcome_word outcomes.Stopped = codes "stopped"
outcome_word outcomes.Halted = codes "halted"
outcome_word outcomes.Down = codes "down"

unfoldable pub up_line : ℕ → Started → List ℕ
up_line node started = codes "up " ++ (decimal node ++ (codes " " ++ (start_word started ++ codes "\n")))

-- it was up, and stayed so
unfoldable pub up_already_line : ℕ → List ℕ
up_already_line node = codes "up " ++ (decimal node ++ codes " already\n")

-- a node that was up in this incarnation goes down; one that was down stays so
abbrev pub down_word : Option ℕ → List ℕ
down_word None = codes " already\n"
down_word (Some incarnation) = codes "\n"

unfoldable pub down_line : ℕ → Option ℕ → List ℕ
down_line node before = codes "down " ++ (decimal node ++ down_word before)

unfoldable pub deliver_line : ℕ → ℕ → Outcome → List ℕ
deliver_line number node outcome =
    codes "deliver "
    ++ (decimal number ++ (codes " " ++ (decimal node ++ (codes " " ++ (outcome_word outcome ++ codes "\n")))))

-- there is no such message, or no node has its address
unfoldable pub no_message_line : ℕ → List ℕ
no_message_line number = codes "deliver " ++ (decimal number ++ codes " none\n")

unfoldable pub tick_line : ℕ → ℕ → Outcome → List ℕ
tick_line node clock outcome =
    codes "tick "
    ++ (decimal node ++ (codes " " ++ (decimal clock ++ (codes " " ++ (outcome_word outcome ++ codes "\n")))))

-- raw bytes came to a node, whose turn came out so
unfoldable pub inject_line : ℕ → Outcome → List ℕ
inject_line node outcome =
    codes "inject " ++ (decimal node ++ (codes " " ++ (outcome_word outcome ++ codes "\n")))

-- bytes that are a message, or ask for what is due, aren't handed to a node
unfoldable pub forged_line : ℕ → List ℕ
forged_line node = codes "inject " ++ (decimal node ++ codes " forged\n")

unfoldable pub refused_line : List ℕ → List ℕ
refused_line word = codes "refused " ++ (word ++ codes "\n")

-- an item of a node, by its id, and what became of it
unfoldable pub item_line : List ℕ → ℕ → Numbers → List ℕ → List ℕ
item_line item node id word =
    item ++ (codes " " ++ (decimal node ++ (codes " " ++ (id_text id ++ (codes " " ++ (word ++ codes "\n"))))))

-- a leaf's kind stands before how it ended
unfoldable pub leaf_words : Kind → Ending → List ℕ
leaf_words kind what = kind_letter kind ++ (codes " " ++ ending_word what)

abbrev pub effect_line : ℕ → Effect → List ℕ
effect_line node (effects.Root id what) = item_line (codes "root") node id (ending_word what)
effect_line node (effects.Sub id what) = item_line (codes "sub") node id (ending_word what)
effect_line node (effects.Leaf id kind what) =
    item_line (codes "leaf") node id (leaf_words kind what)
effect_line node (effects.Told id what) = item_line (codes "told") node id (told_word what)

-- a message by its number; the receiver is 0 where no node has its address
unfoldable pub message_start : ℕ → ℕ → ℕ → List ℕ → List ℕ
message_start number sender receiver name =
    codes "msg "
    ++ (decimal number
    ++ (codes " " ++ (decimal sender ++ (codes ">" ++ (decimal receiver ++ (codes " " ++ (name ++ codes " ")))))))

abbrev pub message_line : ℕ → Line → List ℕ
message_line number m = message_start number m.sender m.receiver m.name ++ (m.path ++ codes "\n")

-- the line of a message's bytes, in hexadecimal
unfoldable pub bytes_line : List ℕ → List ℕ
bytes_line bytes = codes "bytes " ++ (encode_lower bytes ++ codes "\n")

-- how many messages there are, and how many subordinates and durable leaves ended in each way
unfoldable pub end_line : ℕ → ℕ → ℕ → ℕ → List ℕ
end_line messages committed aborted lost =
    codes "end messages "
    ++ (decimal messages
    ++ (codes " committed "
    ++ (decimal committed
    ++ (codes " aborted " ++ (decimal aborted ++ (codes " lost " ++ (decimal lost ++ codes "\n")))))))

-- the same behind so many lines that were made of a seed
unfoldable pub summary_line : ℕ → ℕ → ℕ → ℕ → ℕ → List ℕ
summary_line steps messages committed aborted lost =
    codes "steps "
    ++ (decimal steps
    ++ (codes " messages "
    ++ (decimal messages
    ++ (codes " committed "
    ++ (decimal committed
    ++ (codes " aborted " ++ (decimal aborted ++ (codes " lost " ++ (decimal lost ++ codes "\n")))))))))
