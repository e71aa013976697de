use Rattle.std.proofs.Common.{◌≡◌, sym, ap, ◌∙◌, true, false, drop, arith, ◌-◌}
use Rattle.xml_grammar.specs.Namespaces.{are_apart, names}
use Rattle.xml_grammar.specs.Code.Keys.{name_of}
use Rattle.xml_grammar.proofs.Turns.{one_more_behind, was_in, was_out}
use Rattle.xml_grammar.proofs.KeyLaws.{has_name, name_added, apart_added, not_apart, not_apart_behind}
use Rattle.xml_profile.specs.declared.name.Attribute.{Attribute}
use Rattle.xml_grammar.proofs.meaning.are_apart.Goals as goal

pub returns-then-not-branch : goal.returns-then-not-branch
returns-then-not-branch c =
    let xs = c.args.attributes.now in
    let n = c.loop-left.left in
    let a = c.index-attributes-left.result in
    let at = one_more_behind xs n a (omega arith) c.loop-left.invariant.within c.index-attributes-left.is in
    let k = c.key.result in
    let named : name_of k ≡ a.name = c.key.ensures ∙ ap (λ (x : Attribute). x.name) (sym c.index-attributes-left.is) in
    let there : names a.name (drop n xs) ≡ true =
    ap (λ m. names m (drop n xs)) (sym named) ∙ (sym (c.loop-left.invariant.seen k) ∙ was_in c.in_ok-insert.field-0 (has_name c.loop-left.behind k) c.in_ok-insert.ensures.added c.if-not-branch.true) in
    sym (not_apart_behind xs (n - 1) (ap are_apart at ∙ not_apart a (drop n xs) there))

pub loop-left-preserved : goal.loop-left-preserved
loop-left-preserved c =
    let xs = c.args.attributes.now in
    let n = c.loop-left.left in
    let a = c.index-attributes-left.result in
    let at = one_more_behind xs n a (omega arith) c.loop-left.invariant.within c.index-attributes-left.is in
    let k = c.key.result in
    let named : name_of k ≡ a.name = c.key.ensures ∙ ap (λ (x : Attribute). x.name) (sym c.index-attributes-left.is) in
    let other : names a.name (drop n xs) ≡ false =
    ap (λ m. names m (drop n xs)) (sym named) ∙ (sym (c.loop-left.invariant.seen k) ∙ was_out c.in_ok-insert.field-0 (has_name c.loop-left.behind k) c.in_ok-insert.ensures.added c.if-not-branch.false) in
    record {
      within = omega arith;
      apart = ap are_apart at ∙ apart_added a (drop n xs) other c.loop-left.invariant.apart;
      seen = λ q. name_added c.loop-left.behind c.insert.new.self k a (drop n xs) named c.loop-left.invariant.seen c.in_ok-insert.ensures.updates q ∙ ap (names (name_of q)) (sym at);
    }
