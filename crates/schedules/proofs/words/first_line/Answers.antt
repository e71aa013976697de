use Rattle.std.proofs.Common.{sym, ◌∙◌}
use Rattle.schedules.proofs.Lines.{first_cut, last_cut, some_byte}
use Rattle.schedules.proofs.words.first_line.Goals as goal

pub returns-then-n-text : goal.returns-then-n-text
returns-then-n-text c = first_cut c.args.text.now c.line_len-n.result c.line_len-n.ensures.value c.if-n-text.true

pub returns : goal.returns
returns c = last_cut c.args.text.now c.line_len-n.result c.line_len-n.ensures.value c.if-n-text.false c.line_len-n.ensures.within
    (some_byte c.args.text.now (sym c.is_empty.ensures ∙ c.if-is_empty.false))
