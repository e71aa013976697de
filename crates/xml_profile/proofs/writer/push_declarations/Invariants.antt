use Rattle.std.proofs.Common.{◌≡◌, ◌++◌, drop, map}
use Rattle.std.specs.List.{flat_map}
use Rattle.xml_profile.specs.Extensions.{AddsText}
use Rattle.xml_profile.specs.CanonicalText.{declaration_text}
use Rattle.xml_profile.proofs.writer.push_declarations.Given as goal

abbrev pub invariant-loop-space : goal.invariant-loop-space
invariant-loop-space l = record {
  rest : l.out.items ++ flat_map (declaration_text l.numbered) (map (λ s. s.now) (drop l.space-index l.declared)) ≡ l.fn.out.items ++ flat_map (declaration_text l.numbered) (map (λ s. s.now) l.declared);
  kept : AddsText l.fn.out.items l.out.items;
}
