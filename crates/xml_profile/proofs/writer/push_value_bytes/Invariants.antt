use Rattle.std.proofs.Common.{◌≡◌, ◌++◌, drop}
use Rattle.xml_profile.specs.Extensions.{Extends}
use Rattle.xml_profile.specs.CanonicalText.{value_text}
use Rattle.xml_profile.proofs.writer.push_value_bytes.Given as goal

abbrev pub invariant-loop-byte : goal.invariant-loop-byte
invariant-loop-byte l = record {
  rest : l.out.items ++ value_text (drop l.byte-index l.bytes) ≡ l.fn.out.items ++ value_text l.bytes;
  kept : Extends l.fn.out.items l.out.items;
}
