use Rattle.std.proofs.Common.{◌≡◌, ◌++◌, drop}
use Rattle.xml_profile.specs.CanonicalText.{value_text}
use Rattle.envelope_cmd.proofs.lines.push_value.Given as goal

abbrev pub invariant-loop-byte : goal.invariant-loop-byte
invariant-loop-byte l = l.out.items ++ value_text (drop l.byte-index l.byte-items) ≡ l.fn.out.items ++ value_text l.text
