use Rattle.std.proofs.Common.{inr, sym, ◌∙◌}
use Rattle.http_post.proofs.ChunkLines.{not_yet}
use Rattle.http_post.proofs.chunks.last_line.Goals as goal

-- src/chunks.rt:68:1
pub returns-in-More-clause-fault : goal.returns-in-More-clause-fault
returns-in-More-clause-fault c = inr (sym c.is_cut.ensures ∙ c.if-not-is_cut.false, not_yet _ _ c.in-More.ensures)
