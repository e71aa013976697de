use Rattle.std.proofs.Common.{sym, subst, ◌∙◌}
use Rattle.journal_at.specs.Frames.{IsRead}
use Rattle.journal_at.proofs.Bodies.{before, ended, one_more, why_misplaced}
use Rattle.journal_at.proofs.read.read_bodies.Goals as goal

pub returns-in-End-clause-ok : goal.returns-in-End-clause-ok
returns-in-End-clause-ok c = ended c.args.bytes.now _ c.loop-bodies.rest.now c.loop-bodies.invariant.read c.in-End.ensures

pub loop-bodies-preserved : goal.loop-bodies-preserved
loop-bodies-preserved c =
    record {
      long = c.loop-bodies.invariant.long;
      gates = c.in-Ok.ensures.placed c.loop-bodies.invariant.gates (c.saturating_sub-gate.ensures ∙ before c.args.bytes.now _ c.loop-bodies.rest.now c.loop-bodies.invariant.read);
      read = subst (λ z. IsRead c.args.bytes.now z c.in-Body.after.now) (sym c.in-Ok.ensures.done.0) (one_more c.args.bytes.now _ c.loop-bodies.rest.now c.in-Body.body.now c.in-Body.after.now c.loop-bodies.invariant.read c.in-Body.ensures c.in-Ok.ensures.done.1);
    }

pub returns-in-Err-clause-why : goal.returns-in-Err-clause-why
returns-in-Err-clause-why c = why_misplaced c.in-Err.fault c.args.bytes.now _ c.loop-bodies.rest.now c.in-Body.body.now c.in-Body.after.now _ c.loop-bodies.invariant.long c.loop-bodies.invariant.read c.saturating_sub-gate.ensures c.in-Body.ensures c.in-Err.ensures.bad
