use Rattle.std.proofs.Common.{◌≡◌, sym, ap, ◌∙◌, subst, Some, None, ◌-◌, ◌+◌, length, option_map, map, codes, true}
use Rattle.xml_grammar.specs.Characters.{strip_at, behind_white, begins_white}
use Rattle.xml_grammar.specs.Code.Reading.{pair_at, pairs_at}
use Rattle.xml_grammar.specs.Code.Views.{with_pairs, pair_of}
use Rattle.xml_grammar.proofs.PairLaws.{pairs_go, map_push}
use Rattle.xml_grammar.proofs.markup.read_pairs.Goals as goal

pub loop-left-preserved : goal.loop-left-preserved
loop-left-preserved c =
    let rest = c.loop-left.rest.now in
    let b = c.skip_white-behind.ensures in
    let d : strip_at (codes ">") (behind_white c.loop-left.rest.now) ≡ None = subst (λ v. strip_at (codes ">") v ≡ None) b (sym c.in_default.ensures) in
    let e : strip_at (codes "/>") (behind_white c.loop-left.rest.now) ≡ None = subst (λ v. strip_at (codes "/>") v ≡ None) b (sym c.in_default-strip.ensures) in
    let w : begins_white c.loop-left.rest.now ≡ true = sym c.begins_white.ensures ∙ c.if-not-begins_white.false in
    let f : pair_at (behind_white c.loop-left.rest.now) ≡ Some (pair_of c.in-Some-2.pair, c.in-Some-2.more.now) =
    subst (λ v. pair_at v ≡ Some (pair_of c.in-Some-2.pair, c.in-Some-2.more.now)) b (sym c.in_ok-pair.ensures ∙ ap (option_map (λ p. (pair_of p.0, p.1.now))) c.in-Some-2.is) in
    subst (λ v. with_pairs v (pairs_at (c.loop-left.left - 1) c.in-Some-2.more.now) ≡ pairs_at (length c.args.cs.now + 1) c.args.cs.now)
    (sym (ap (map pair_of) c.in_ok-push.ensures.items ∙ map_push c.loop-left.pairs.items c.in-Some-2.pair))
    (pairs_go c.loop-left.left (map pair_of c.loop-left.pairs.items) c.loop-left.rest.now c.loop-left-test.true (pair_of c.in-Some-2.pair) c.in-Some-2.more.now d e w f ∙ c.loop-left.invariant)
