use Rattle.std.proofs.Common.{sym, subst}
use Rattle.journal_at.specs.Compactions.{texts_in}
use Rattle.journal_at.specs.Format.{AreBodies, AreUnmarked}
use Rattle.journal_at.specs.declared.version.Version.TheVariants.{Two}
use Rattle.decision_log.specs.Folds.{AreRecords}
use Rattle.decision_log.specs.KeptState.{known}
use Rattle.decision_log.specs.ShrunkJournals.{shrunk}
use Rattle.decision_log.proofs.Bodies.{bodies_sized, bodies_unmarked, live_formed, on_ok, texts_are, texts_compacted}
use Rattle.decision_log.proofs.shrink.shrink.Goals as goal

pub bodies_of-requires : goal.bodies_of-requires
bodies_of-requires g c = live_formed (known c.args.kept.now) c.requires.kept

pub compact-requires-clause-bodies : goal.compact-requires-clause-bodies
compact-requires-clause-bodies g c =
    subst (λ bs. AreBodies (texts_in bs)) (sym c.deref.ensures.value) (bodies_sized c.are_bodies.ensures (shrunk (known c.args.kept.now)) (texts_in c.in_ok-bodies.bodies.items) c.in_ok-bodies.ensures)

pub compact-requires-clause-unmarked : goal.compact-requires-clause-unmarked
compact-requires-clause-unmarked g c =
    subst (λ bs. AreUnmarked (texts_in bs)) (sym c.deref.ensures.value) (bodies_unmarked c.are_bodies.ensures (shrunk (known c.args.kept.now)) (texts_in c.in_ok-bodies.bodies.items) c.in_ok-bodies.ensures)

pub returns-clause-records : goal.returns-clause-records
returns-clause-records g c =
    on_ok c.compact.result _ (subst (AreRecords Two (shrunk (known c.args.kept.now))) (texts_are (shrunk (known c.args.kept.now)) c.in_ok-bodies.bodies.items c.in_ok-bodies.ensures) c.in_ok-bodies.ensures)

pub returns-clause-compacted : goal.returns-clause-compacted
returns-clause-compacted g c =
    texts_compacted (shrunk (known c.args.kept.now)) c.in_ok-bodies.bodies.items c.deref.result.now c.compact.result _ _ _ _ c.deref.ensures.value c.in_ok-bodies.ensures c.compact.ensures.compacted
