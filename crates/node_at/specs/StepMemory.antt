-- The memory of a step.
use Rattle.std.specs.Prelude.{◌≡◌, true, false, Some, None}
use Rattle.decision_log.specs.KeptState.{HasRoom}
use Rattle.decision_log.specs.declared.kept.Kept.{Kept}
use Rattle.interposition.specs.declared.plan.Plan.{Plan}
use Rattle.interposition.specs.PlanResults.{recorded, sent}
use Rattle.node_at.specs.declared.step.Texts.{Texts}
use Rattle.node_at.specs.declared.step.Texts.TheVariants.{Plain, Recorded}
use Rattle.node_at.specs.Texts.{AreLeaving}

-- what leaves in each branch, with its bytes
abbrev pub AreTexts : Plan → Texts → Type 0
AreTexts p (Plain outs) = (recorded p ≡ None) × AreLeaving (sent p true).outs outs.items
AreTexts p (Recorded entry landed absent) =
    (recorded p ≡ Some entry.entry) × AreLeaving (sent p true).outs landed.items × AreLeaving (sent p false).outs absent.items

-- a record can be taken over
abbrev pub HasRoomFor : Texts → Kept → Type 0
HasRoomFor (Plain outs) kept = Unit {0}
HasRoomFor (Recorded entry landed absent) kept = HasRoom kept
