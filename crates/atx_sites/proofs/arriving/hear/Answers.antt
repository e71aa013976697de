use Rattle.std.proofs.Common.{◌∙◌, inl, inr, refl, sym}
use Rattle.atx_sites.proofs.Comings.{later_by}
use Rattle.atx_sites.proofs.Hearings.{came_said, stays_both}
use Rattle.atx_sites.proofs.arriving.hear.Goals as goal

pub returns-then-is_due-clause-came : goal.returns-then-is_due-clause-came
returns-then-is_due-clause-came g c =
    λ listener h. came_said g.S.Stream.AsRawFd.raw_fd listener c.read_aside.new.arriving c.say.new.arriving _ _ c.say.ensures.says c.say.ensures.same (c.read_aside.ensures.came listener h)

pub returns-then-is_due-clause-later : goal.returns-then-is_due-clause-later
returns-then-is_due-clause-later g c = later_by _ _ _ _ c.read_aside.ensures.later c.say.ensures.says.1

pub returns-then-is_due-clause-stays : goal.returns-then-is_due-clause-stays
returns-then-is_due-clause-stays g c = stays_both c.args.arriving.now c.read_aside.new.arriving c.say.new.arriving c.read_aside.ensures.stays.0 c.say.ensures.same.1

pub returns-then-is_due-clause-calls : goal.returns-then-is_due-clause-calls
returns-then-is_due-clause-calls g c = (
  c.read_aside.new.arriving,
  _,
  c.read_aside.ensures.hears,
  c.read_aside.ensures.stays.1,
  c.read_aside.ensures.stays.0.0,
  inr (sym c.is_due.ensures ∙ c.if-is_due.true, c.say.ensures.says),
)

pub returns-else-is_due-clause-calls : goal.returns-else-is_due-clause-calls
returns-else-is_due-clause-calls g c = (
  c.read_aside.new.arriving,
  _,
  c.read_aside.ensures.hears,
  c.read_aside.ensures.stays.1,
  c.read_aside.ensures.stays.0.0,
  inl (sym c.is_due.ensures ∙ c.if-is_due.false, refl, refl),
)
