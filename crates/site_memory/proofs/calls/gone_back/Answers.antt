use Rattle.std.proofs.Common.{ap, sym, refl, ◌∙◌}
use Rattle.std.proofs.lemmas.List.{take-map}
use Rattle.site_memory.specs.Entries.{made_of, mades}
use Rattle.site_memory.proofs.calls.gone_back.Goals as goal

pub returns : goal.returns
returns c = record {
  calls_are = ap mades c.truncate.ensures.items ∙ sym (take-map made_of c.args.calls c.args.device.log.items);
  opening = c.run_all.ensures.opening ∙ (λ i. record { first = c.rewind.ensures.opening i; second = c.rewind-2.ensures.opening i });
  arm = refl;
  wanted = refl;
}
