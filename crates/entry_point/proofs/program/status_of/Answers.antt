use Rattle.std.proofs.Common.{inl, refl, ap, map, ◌∙◌}
use Rattle.std.specs.Prelude.{string_bytes}
use Rattle.entry_point.specs.Asking.{heard}
use Rattle.entry_point.proofs.program.status_of.Goals as goal

pub returns : goal.returns
returns g c = inl (record {
  lent_words = _;
  lent_source = _;
  lent_sink = _;
  lent_errors = _;
  lent_files = _;
  lent_site = _;
  left_source = _;
  left_sink = _;
  left_errors = _;
  left_files = _;
  left_site = _;
  ensured = c.job.ensures;
  of_words = ap (map string_bytes) c.as_slice.ensures.value ∙ (c.in-Ok-heard.ensures ∙ ap (λ v. heard (map string_bytes v)) c.in-Ok.ensures);
  of_source = refl;
  of_sink = refl;
  of_errors = refl;
  of_files = refl;
  of_site = refl;
  leaves_source = refl;
  leaves_sink = refl;
  leaves_errors = refl;
  leaves_files = refl;
  leaves_site = refl;
})
