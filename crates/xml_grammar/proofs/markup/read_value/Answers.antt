use Rattle.std.proofs.Common.{◌≡◌, sym, ap, ◌∙◌, subst, Some, ◌-◌, ◌+◌, length, option_map, encode_utf8, string_bytes}
use Rattle.xml_grammar.specs.Code.Reading.{with_front, piece_at, value_at}
use Rattle.xml_grammar.proofs.ValueLaws.{value_goes}
use Rattle.xml_grammar.proofs.markup.read_value.Goals as goal

pub loop-left-preserved : goal.loop-left-preserved
loop-left-preserved c =
    let e : piece_at c.args.quote c.loop-left.rest.now ≡ Some (Some (encode_utf8 c.in-Some-piece.c), c.in-Some.more.now) =
    sym c.in-Some.ensures ∙ ap (λ p. Some (option_map encode_utf8 p, c.in-Some.more.now)) c.in-Some-piece.is in
    subst (λ v. with_front v (value_at (c.loop-left.left - 1) c.args.quote c.in-Some.more.now) ≡ value_at (length c.args.cs.now + 1) c.args.quote c.args.cs.now)
    (sym c.in_ok-push-in-Some-piece.ensures.bytes)
    (value_goes c.loop-left.left c.args.quote (string_bytes c.loop-left.out) (encode_utf8 c.in-Some-piece.c) c.loop-left.rest.now c.in-Some.more.now c.loop-left-test.true e ∙ c.loop-left.invariant)
