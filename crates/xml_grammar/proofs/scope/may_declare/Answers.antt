use Rattle.std.proofs.Common.{◌≡◌, refl, sym, ap, ◌∙◌, true, false, map, drop, arith, ◌-◌}
use Rattle.xml_grammar.specs.Namespaces.{declares, may_declare}
use Rattle.xml_grammar.specs.Code.Places.{binding_of}
use Rattle.xml_grammar.proofs.Turns.{one_more_behind, was_in, was_out}
use Rattle.xml_grammar.proofs.KeyLaws.{has_prefix, prefix_added, may_add, declared_twice, may_not_bind, may_not_behind}
use Rattle.xml_grammar.proofs.scope.may_declare.Goals as goal

pub returns-then-not-may_bind : goal.returns-then-not-may_bind
returns-then-not-may_bind c =
    let xs = c.args.bindings.now in
    let n = c.loop-left.left in
    let b = c.index-bindings-left.result in
    let at = one_more_behind xs n b (omega arith) c.loop-left.invariant.within c.index-bindings-left.is in
    sym (may_not_behind xs (n - 1) (ap (λ v. may_declare (map binding_of v)) at ∙ may_not_bind (binding_of b) (map binding_of (drop n xs)) (sym c.may_bind.ensures ∙ c.if-not-may_bind.true)))

pub returns-then-not-branch : goal.returns-then-not-branch
returns-then-not-branch c =
    let xs = c.args.bindings.now in
    let n = c.loop-left.left in
    let b = c.index-bindings-left.result in
    let at = one_more_behind xs n b (omega arith) c.loop-left.invariant.within c.index-bindings-left.is in
    let there : declares b.prefix.now (map binding_of (drop n xs)) ≡ true =
    sym (c.loop-left.invariant.seen b.prefix) ∙ was_in c.in_ok-insert.field-0 (has_prefix c.loop-left.behind b.prefix) c.in_ok-insert.ensures.added c.if-not-branch.true in
    sym (may_not_behind xs (n - 1) (ap (λ v. may_declare (map binding_of v)) at ∙ declared_twice (binding_of b) (map binding_of (drop n xs)) there))

pub loop-left-preserved : goal.loop-left-preserved
loop-left-preserved c =
    let xs = c.args.bindings.now in
    let n = c.loop-left.left in
    let b = c.index-bindings-left.result in
    let at = one_more_behind xs n b (omega arith) c.loop-left.invariant.within c.index-bindings-left.is in
    let rest = map binding_of (drop n xs) in
    let other : declares b.prefix.now rest ≡ false =
    sym (c.loop-left.invariant.seen b.prefix) ∙ was_out c.in_ok-insert.field-0 (has_prefix c.loop-left.behind b.prefix) c.in_ok-insert.ensures.added c.if-not-branch.false in
    record {
      within = omega arith;
      allowed = ap (λ v. may_declare (map binding_of v)) at ∙ may_add (binding_of b) rest (sym c.may_bind.ensures ∙ c.if-not-may_bind.false) other c.loop-left.invariant.allowed;
      seen = λ q. prefix_added c.loop-left.behind c.insert.new.self b.prefix (binding_of b) rest refl c.loop-left.invariant.seen c.in_ok-insert.ensures.updates q ∙ ap (λ v. declares q.now (map binding_of v)) (sym at);
    }
