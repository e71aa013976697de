use Rattle.std.proofs.Common.{sym, ◌∙◌}
use Rattle.schedules.proofs.Lines.{plain_read}
use Rattle.schedules.proofs.words.plain_line.Goals as goal

pub returns : goal.returns
returns c = plain_read c.args.line.now c.ok.result c.from_utf8.result _ c.from_utf8.ensures.cases (λ e h. h.0) c.ok.ensures.value
    (sym c.is_plain.ensures ∙ c.if-not-is_plain.false)
