use Rattle.std.proofs.Common.{sym, ◌∙◌}
use Rattle.std.proofs.lemmas.Slice.Eq.{bytes_eq-Decides}
use Rattle.mirrored_nets.proofs.ShortFields.{is_key, is_value, no_key}
use Rattle.mirrored_nets.proofs.asks.are_short.Goals as goal

pub returns-then-ne-clause-exact : goal.returns-then-ne-clause-exact
returns-then-ne-clause-exact c = λ key value. absurd (no_key c.args.key.now c.ne.result c.ne.ensures c.if-ne.true key)

pub returns : goal.returns
returns c = record {
  key = λ h. is_key c.args.key.now c.ne.result c.ne.ensures c.if-ne.false;
  value = λ h. is_value c.args.value.now (sym c.eq.ensures ∙ h);
  exact = λ key value. c.eq.ensures ∙ (bytes_eq-Decides c.args.value.now _).1 value;
}
