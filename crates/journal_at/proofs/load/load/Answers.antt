use Rattle.std.proofs.Common.{sym, ◌∙◌}
use Rattle.journal_at.proofs.Openings.{opens_bare, opens_plain, fails_bare, fails_foreign}
use Rattle.journal_at.proofs.load.load.Goals as goal

pub returns-then-is_foreign : goal.returns-then-is_foreign
returns-then-is_foreign g c = let s = c.in-Ok.ensures in fails_foreign _ _ c.in-Ok.both s.0 s.1 s.2 c.if-is_foreign.ensures

pub returns-then-not-bare : goal.returns-then-not-bare
returns-then-not-bare g c = let s = c.in-Ok.ensures in opens_plain _ _ c.in-Ok.both s.0 s.1 s.2 c.if-is_foreign.ensures c.in-Ok-pick.pair.0 c.in-Ok-pick.pair.1 c.args.limit (sym c.is_bare-bare.ensures ∙ c.if-not-bare.true) c.in-Ok-pick.ensures

pub returns-in-Ok-stage : goal.returns-in-Ok-stage
returns-in-Ok-stage g c = let s = c.in-Ok.ensures in opens_bare _ _ _ c.in-Ok.both s.0 s.1 s.2 c.if-is_foreign.ensures c.stage.result _ c.in-Ok-pick.pair.0 c.in-Ok-pick.pair.1 c.args.limit c.in-Ok-stage.is c.stage.ensures (sym c.is_bare-bare.ensures ∙ c.if-not-bare.false) c.in-Ok-pick.ensures

pub returns-in-Err-stage : goal.returns-in-Err-stage
returns-in-Err-stage g c = let s = c.in-Ok.ensures in fails_bare _ _ _ c.in-Ok.both s.0 s.1 s.2 c.if-is_foreign.ensures c.stage.result _ c.in-Err-stage.is c.stage.ensures (sym c.is_bare-bare.ensures ∙ c.if-not-bare.false)
