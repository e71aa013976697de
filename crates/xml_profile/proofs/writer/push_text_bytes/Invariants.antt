use Rattle.std.proofs.Common.{◌≡◌, ◌++◌, drop}
use Rattle.xml_profile.specs.Extensions.{Extends}
use Rattle.xml_profile.specs.CanonicalText.{text_text}
use Rattle.xml_profile.proofs.writer.push_text_bytes.Given as goal

abbrev pub invariant-loop-byte : goal.invariant-loop-byte
invariant-loop-byte l = record {
  rest : l.out.items ++ text_text (drop l.byte-index l.bytes) ≡ l.fn.out.items ++ text_text l.bytes;
  kept : Extends l.fn.out.items l.out.items;
}
