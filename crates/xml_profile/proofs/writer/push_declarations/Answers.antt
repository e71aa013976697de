use Rattle.std.proofs.Common.{rules, refl, map}
use Rattle.std.specs.List.{flat_map}
use Rattle.xml_profile.specs.CanonicalText.{declaration_text}
use Rattle.xml_profile.proofs.Utf8.{through, written}
use Rattle.xml_profile.proofs.writer.push_declarations.Goals as goal

pub loop-space-preserved : goal.loop-space-preserved
loop-space-preserved c = record {
  rest = written (λ spaces. flat_map (declaration_text c.args.numbered.now) (map (λ s. s.now) spaces)) (λ s. declaration_text c.args.numbered.now s.now) (λ x r. refl) c.args.declared.now c.loop-space.space-index
      _ _ _ _ _ (search rules) refl c.in_ok-push_declaration.ensures.done c.loop-space.invariant.rest;
  kept = through _ _ _ c.loop-space.invariant.kept c.push_declaration.ensures.kept;
}
