use Rattle.std.proofs.Common.{take}
use Rattle.journal_at.proofs.Texts.{IsBuilt}
use Rattle.journal_at.proofs.compact.build_text.Given as goal

abbrev pub invariant-loop-body : goal.invariant-loop-body
invariant-loop-body l = IsBuilt l.generation (take l.body-index l.bodies) l.text.items
