-- The words by which it is printed how transactions and participants ended, what initiators are told, and why their requests
-- are refused.
use Rattle.std.specs.Prelude.{ℕ, List, codes}
use Rattle.at_base.specs.declared.outs.Ending.{Ending}
use Rattle.at_base.specs.declared.outs.Ending.TheVariants as endings
use Rattle.at_base.specs.declared.outs.Told.{Told}
use Rattle.at_base.specs.declared.outs.Told.TheVariants as tellings
use Rattle.at_model.specs.Activities.{Refusal, Full, Stale, Spent}

-- how a transaction or leaf ended
abbrev pub ending_word : Ending → List ℕ
ending_word endings.Committed = codes "committed"
ending_word endings.Aborted = codes "aborted"
ending_word endings.Lost = codes "lost"

-- what an initiator was told of its activity
abbrev pub told_word : Told → List ℕ
told_word tellings.Committed = codes "committed"
told_word tellings.Aborted = codes "aborted"
told_word tellings.Unknown = codes "unknown"
told_word tellings.Refused = codes "refused"

-- why a local request is refused
abbrev pub refusal_word : Refusal → List ℕ
refusal_word Full = codes "full"
refusal_word Stale = codes "state"
refusal_word Spent = codes "spent"
