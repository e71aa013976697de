use Rattle.std.proofs.Common.{ap, ◌∙◌}
use Rattle.std.specs.Prelude.{string_bytes}
use Rattle.atx_sites.proofs.NamesKept.{name_looked_up}
use Rattle.atx_sites.proofs.resolved_names.keep_answer.Goals as goal

pub returns : goal.returns
returns c = λ old mid new looked told h.
    c.keep.ensures new h
    (name_looked_up c.args.host.now c.args.port c.args.addresses.now old mid new c.args.at c.new.result looked told
    (ap (λ v. v.items) c.new.ensures.2 ∙ c.in-Ok.ensures.items) (ap string_bytes c.new.ensures.0 ∙ c.in-Ok-from_str.ensures.ok) c.new.ensures.1 c.new.ensures.3)
