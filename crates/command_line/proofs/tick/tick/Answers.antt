use Rattle.std.proofs.Common.{◌∙◌}
use Rattle.command_line.proofs.Ticks.{has_ticked}
use Rattle.command_line.proofs.tick.tick.Goals as goal

pub returns-in-Ok-post-clause-ticked : goal.returns-in-Ok-post-clause-ticked
returns-in-Ok-post-clause-ticked g c = λ e. has_ticked c.args.to.now _ _ _ _ _ c.as_str.ensures (c.as_slice.ensures.value ∙ c.in-Ok.ensures) c.post.ensures c.in-Ok-post.is
