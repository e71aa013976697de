use Rattle.std.proofs.Common.{sym, ◌∙◌}
use Rattle.atx_sites.proofs.Pushes.{tallied_err, tallied_ok}
use Rattle.atx_sites.proofs.departures.answer.Goals as goal

pub returns-then-is_err : goal.returns-then-is_err
returns-then-is_err g c = record {
  answers = (c.hand_over.result, c.hand_over.ensures.answers, tallied_err c.hand_over.result _ _ _ (sym c.is_err.ensures.value ∙ c.if-is_err.true) c.hand_over.ensures.same.0 c.count_one.ensures);
  within = c.hand_over.ensures.within;
  names = c.hand_over.ensures.same.1;
}

pub returns-else-is_err : goal.returns-else-is_err
returns-else-is_err g c = record {
  answers = (c.hand_over.result, c.hand_over.ensures.answers, tallied_ok c.hand_over.result _ _ (sym c.is_err.ensures.value ∙ c.if-is_err.false) c.hand_over.ensures.same.0);
  within = c.hand_over.ensures.within;
  names = c.hand_over.ensures.same.1;
}
