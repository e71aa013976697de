use Rattle.std.proofs.Common.{◌∙◌, arith}
use Rattle.site_model.specs.Told.{file_of}
use Rattle.journal_at.proofs.FileReads.{quiet_then, read_more}
use Rattle.journal_at.proofs.load.fetch.Goals as goal

pub loop-buf-preserved : goal.loop-buf-preserved
loop-buf-preserved g c =
    record {
      size = c.loop-buf.invariant.size;
      bytes = λ f is. read_more (file_of c.args.file f) c.loop-buf.bytes.items _ _ _ c.in_ok-n.n (c.loop-buf.invariant.bytes f is) (grind (arith, c.len-in-loop-buf.ensures, c.loop-buf.bytes.ok)) c.in_ok-extend_from_slice.ensures.items c.in_ok-n.ensures.bound (c.in_ok-n.ensures.is f (c.loop-buf.invariant.quiet.still.files ∙ is));
      quiet = quiet_then c.read.result _ _ _ c.loop-buf.invariant.quiet c.read.ensures.call;
    }
