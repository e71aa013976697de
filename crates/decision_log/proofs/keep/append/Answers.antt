use Rattle.journal_at.specs.declared.version.Version.TheVariants.{Two}
use Rattle.decision_log.proofs.NextRecords.{may_follow}
use Rattle.decision_log.proofs.keep.append.Goals as goal

pub append-requires : goal.append-requires
append-requires g c = (c.are_bodies.ensures Two c.args.entry.now c.args.body.now c.requires).0

pub returns-clause-appended : goal.returns-clause-appended
returns-clause-appended g c = record {
  is = c.requires;
  appended = λ bodies sure keeps least.
      c.append.ensures.appended bodies sure keeps (may_follow bodies c.args.body.now c.args.journal.now.end keeps.stands.listed keeps.end least (c.are_bodies.ensures Two c.args.entry.now c.args.body.now c.requires));
  calls = c.append.ensures.calls;
  reason = c.append.ensures.reason;
  full = c.append.ensures.full;
  unsure = c.append.ensures.unsure;
  stuck = λ e. (c.append.ensures.nothing e).0;
  same = c.append.ensures.same;
}
