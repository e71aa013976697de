use Rattle.std.proofs.Common.{refl, subst, sym}
use Rattle.std.specs.Fn.{CalledAt}
use denote.Param.Always.{mut_next}
use Rattle.by_id.specs.Places.{told_at}
use Rattle.by_id.proofs.list.fn.ById.retain.retain.Goals as goal

pub returns-in-Live : goal.returns-in-Live
returns-in-Live g c = record {
  told = subst (λ p. told_at (CalledAt g.F.FnMut) c.captures.keeps p c.keeps.result c.keeps.new.self) (sym c.in-Live.is) (record { shown = _; shows = refl; called = c.keeps.ensures });
  callable = mut_next g.F.FnMut _ _ _ _ _ c.keeps.ensures refl c.requires;
}
