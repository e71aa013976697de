use Rattle.std.specs.Prelude.{List, ℕ, None, ◌++◌}
use Rattle.std.proofs.Common.{ap, sym, ◌∙◌}
use Rattle.url.specs.Parser.{parse_url}
use Rattle.command_line.proofs.Bases.{based, if_true}
use Rattle.command_line.proofs.job.is_address.Goals as goal

pub returns-in-Ok-clause-based : goal.returns-in-Ok-clause-based
returns-in-Ok-clause-based c =
    if_true _ _ _ c.is_authority.ensures.is
    (based c.heads_are_bases.ensures.every _ c.args.listen.now c.is_authority.ensures.valid
    (ap (parse_url None) (sym (c.as_str.ensures.value ∙ c.in_ok-push_str.ensures.bytes ∙ ap (λ (bytes : List ℕ). bytes ++ c.args.listen.now) c.in_ok-base.ensures.ok)) ∙ c.in-Ok.ensures))
