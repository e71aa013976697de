use Rattle.std.proofs.Common.{◌∙◌, ap, subst}
use Rattle.std.specs.Vec.Iter.{into_iter_items, into_iter_steps}
use Rattle.std.proofs.IntoIterSteps.{All-taken}
use Rattle.entry_point.proofs.IteratorRest.{all_but_one}
use Rattle.entry_point.proofs.words.behind_name.Goals as goal

pub returns : goal.returns
returns c =
    c.loop-word.invariant
    ∙ (All-taken _ c.loop-word.yielded (c.next.new.self, (c.loop-word.word-iterator, c.loop-word.yielded_by, subst (λ r. into_iter_steps c.loop-word.word-iterator r c.next.new.self) c.in-None.is c.next.ensures.steps))
    ∙ (ap into_iter_items c.into_iter-word-iterator.ensures.into_iter_gives ∙ all_but_one c.args.words c.next-name.result c.next-name.new.self c.next-name.ensures.cases))
