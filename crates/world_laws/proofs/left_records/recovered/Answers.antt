use Rattle.std.proofs.Common.{◌∙◌}
use Rattle.world_laws.proofs.left_records.recovered.Goals as goal

pub returns : goal.returns
returns c = c.recover.ensures c.args.journal.now (record {
  live = c.as_slice.ensures.value ∙ c.in_ok-live.ensures;
  done = c.as_slice-2.ensures ∙ c.in_ok-outcomes.ensures;
  incarnation = c.last_incarnation.ensures;
})
