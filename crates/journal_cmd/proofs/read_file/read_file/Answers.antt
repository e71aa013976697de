use Rattle.std.proofs.Common.{◌∙◌, Err, arith, refl}
use Rattle.journal_cmd.proofs.FilePieces.{gone, taken, whole}
use Rattle.journal_cmd.proofs.read_file.read_file.Goals as goal

pub loop-bytes-preserved : goal.loop-bytes-preserved
loop-bytes-preserved g c = record {
  so_far = λ held is.
      taken c.in-Ok-true.field-0 (held c.args.name.now) c.read_piece.new.bytes.items c.in-Ok-true.field-0-test
      (c.in-Ok-true.ensures.is held (c.loop-bytes.invariant.kept ∙ is) (c.loop-bytes.invariant.so_far held is));
  kept = c.in-Ok-true.ensures.kept ∙ c.loop-bytes.invariant.kept;
  later = omega (arith, c.loop-bytes.invariant.later, c.in-Ok-true.ensures.cause.later);
}

pub returns-in-Ok-false-clause-is : goal.returns-in-Ok-false-clause-is
returns-in-Ok-false-clause-is g c = λ held is.
    whole c.in-Ok-false.field-0 (held c.args.name.now) c.read_piece.new.bytes.items c.in-Ok-false.field-0-test
    (c.in-Ok-false.ensures.is held (c.loop-bytes.invariant.kept ∙ is) (c.loop-bytes.invariant.so_far held is))

pub returns-in-Err-clause-missing : goal.returns-in-Err-clause-missing
returns-in-Err-clause-missing g c = λ held is missing.
    gone (Err c.in-Err.fault) c.in-Err.fault (held c.args.name.now) c.read_piece.new.bytes.items refl missing
    (c.in-Err.ensures.is held (c.loop-bytes.invariant.kept ∙ is) (c.loop-bytes.invariant.so_far held is))
