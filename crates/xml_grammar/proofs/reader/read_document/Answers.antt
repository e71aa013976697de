use Rattle.std.proofs.Common.{◌≡◌, sym, ap, ◌∙◌, subst, [], option_map}
use Rattle.xml_grammar.specs.Code.Shallow.{read_with}
use Rattle.xml_grammar.specs.Code.Views.{token_of}
use Rattle.xml_grammar.specs.Code.Open.{reading_of}
use Rattle.xml_grammar.specs.Code.Found.{Finds}
use Rattle.xml_grammar.proofs.ReaderLaws.{Reaches, reaches_first, reaches_next, reaches_not, reaches_none, reaches_end, next_shorter, stops, goes_on}
use Rattle.xml_grammar.proofs.Turns.{no_items, some_items}
use Rattle.xml_grammar.proofs.reader.read_document.Goals as goal

pub loop-rest-init : goal.loop-rest-init
loop-rest-init c = reaches_first c.args.cs.now (reading_of c.in_ok-machine.machine) c.in_ok-machine.ensures

pub returns-in_default : goal.returns-in_default
returns-in_default c =
    reaches_none c.args.cs.now c.loop-rest.rest.now (reading_of c.loop-rest.machine) (some_items c.loop-rest.rest.now (sym c.is_empty.ensures ∙ c.loop-rest-test.true))
    (sym c.in_ok-token.ensures ∙ ap (option_map (λ p. (token_of p.0, p.1.now))) c.in_default.is) c.loop-rest.invariant

pub returns-then-not-branch : goal.returns-then-not-branch
returns-then-not-branch c =
    reaches_not c.args.cs.now c.loop-rest.rest.now (reading_of c.loop-rest.machine) (reading_of c.step.new.self) (token_of c.in-Some.token) c.in-Some.more.now
    (sym c.in_ok-token.ensures ∙ ap (option_map (λ p. (token_of p.0, p.1.now))) c.in-Some.is) c.loop-rest.invariant
    (stops c.in_ok-step.field-0 (reading_of c.step.new.self) (read_with (reading_of c.loop-rest.machine) (token_of c.in-Some.token)) c.in_ok-step.ensures c.if-not-branch.true)

pub loop-rest-smaller : goal.loop-rest-smaller
loop-rest-smaller c =
    next_shorter c.args.cs.now c.loop-rest.rest.now (reading_of c.loop-rest.machine) (reading_of c.step.new.self) (token_of c.in-Some.token) c.in-Some.more.now
    (sym c.in_ok-token.ensures ∙ ap (option_map (λ p. (token_of p.0, p.1.now))) c.in-Some.is) c.loop-rest.invariant

pub loop-rest-preserved : goal.loop-rest-preserved
loop-rest-preserved c =
    reaches_next c.args.cs.now c.loop-rest.rest.now (reading_of c.loop-rest.machine) (reading_of c.step.new.self) (token_of c.in-Some.token) c.in-Some.more.now
    (sym c.in_ok-token.ensures ∙ ap (option_map (λ p. (token_of p.0, p.1.now))) c.in-Some.is) c.loop-rest.invariant
    (goes_on c.in_ok-step.field-0 (reading_of c.step.new.self) (read_with (reading_of c.loop-rest.machine) (token_of c.in-Some.token)) c.in_ok-step.ensures c.if-not-branch.false)

pub returns : goal.returns
returns c =
    let e : c.loop-rest.rest.now ≡ [] = no_items c.loop-rest.rest.now (sym c.is_empty.ensures ∙ c.loop-rest-test.false) in
    subst (Finds c.args.cs.now) (sym c.finish.ensures) (reaches_end c.args.cs.now (reading_of c.loop-rest.machine) (subst (Reaches c.args.cs.now (reading_of c.loop-rest.machine)) e c.loop-rest.invariant))
