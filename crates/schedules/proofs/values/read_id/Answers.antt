use Rattle.std.proofs.Common.{sym, subst}
use Rattle.at_base.specs.IdText.{SpellsId}
use Rattle.schedules.proofs.Ids.{id_there, none_there, unsaid}
use Rattle.schedules.proofs.values.read_id.Goals as goal

pub returns-in-Some : goal.returns-in-Some
returns-in-Some c =
    sym (id_there c.args.word.now c.in-Some.id (subst (λ bs. SpellsId bs c.in-Some.id) c.as_bytes.ensures.value c.in-Some.ensures.spelled))

pub returns-in-None : goal.returns-in-None
returns-in-None c =
    sym (none_there c.args.word.now (λ id s. unsaid id (c.in-None.ensures.every id (subst (λ bs. SpellsId bs id) (sym c.as_bytes.ensures.value) s))))
