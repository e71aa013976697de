use Rattle.std.proofs.Common.{◌≡◌, ◌++◌, drop}
use Rattle.journal_page.specs.Words.{word_text}
use Rattle.journal_page.proofs.words.push_word.Given as goal

abbrev pub invariant-loop-byte : goal.invariant-loop-byte
invariant-loop-byte l = l.out.items ++ word_text (drop l.byte-index l.byte-items) ≡ l.fn.out.items ++ word_text l.text
