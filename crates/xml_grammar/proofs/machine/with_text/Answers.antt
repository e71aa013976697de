use Rattle.std.proofs.Common.{◌∙◌, sym, string_bytes}
use Rattle.xml_grammar.specs.Code.Open.{frame_of}
use Rattle.xml_grammar.proofs.FrameLaws.{no_text_pushed}
use Rattle.xml_grammar.proofs.Turns.{no_items}
use Rattle.xml_grammar.proofs.machine.with_text.Goals as goal

pub returns-then-is_empty : goal.returns-then-is_empty
returns-then-is_empty c = no_text_pushed (frame_of c.args.frame) (string_bytes c.args.text) (sym c.as_str.ensures.value ∙ no_items c.as_str.result.now (sym c.is_empty.ensures ∙ c.if-is_empty.true))
