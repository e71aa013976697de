use Rattle.journal_cmd.proofs.FilePieces.{missing}
use Rattle.journal_cmd.proofs.read_file.read_piece.Goals as goal

pub returns-in-Err-Missing-clause-is : goal.returns-in-Err-Missing-clause-is
returns-in-Err-Missing-clause-is g c = λ held is begun.
    missing (held c.args.name.now) c.args.bytes.now.items c.read.new.buf c.len.result (rw c.in-Err-Missing.field-0-is at (c.in-Err-Missing.ensures.is held is))
