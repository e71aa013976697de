-- The line of each refusal.
use Rattle.std.specs.Prelude.{ℕ, List, Option, Some, None, codes}
use Rattle.wire_msgs.specs.declared.refusal.Refusal.{Refusal}
use Rattle.wire_msgs.specs.declared.refusal.Refusal.TheVariants.{TooLong, NotUtf8, NotSpelled, TooDeep, TooMany, VersionMismatch, NotEnvelope, MustUnderstand, MissingHeader, InvalidHeader, NoTarget, Action, Parameters, NoMemory}

-- want of memory says nothing of the envelope and has none
abbrev pub refusal_line : Refusal → Option (List ℕ)
refusal_line TooLong = Some (codes "refused 1 TooLong\n")
refusal_line (NotUtf8 place) = Some (codes "refused 2 NotUtf8\n")
refusal_line NotSpelled = Some (codes "refused 3 NotSpelled\n")
refusal_line TooDeep = Some (codes "refused 4 TooDeep\n")
refusal_line TooMany = Some (codes "refused 5 TooMany\n")
refusal_line VersionMismatch = Some (codes "refused 6 VersionMismatch\n")
refusal_line NotEnvelope = Some (codes "refused 7 NotEnvelope\n")
refusal_line (MustUnderstand name) = Some (codes "refused 8 MustUnderstand\n")
refusal_line (MissingHeader name) = Some (codes "refused 9 MissingHeader\n")
refusal_line (InvalidHeader name) = Some (codes "refused 10 InvalidHeader\n")
refusal_line NoTarget = Some (codes "refused 11 NoTarget\n")
refusal_line Action = Some (codes "refused 12 Action\n")
refusal_line (Parameters name) = Some (codes "refused 13 Parameters\n")
refusal_line NoMemory = None
