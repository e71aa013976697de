use Rattle.http_post.proofs.Counts.{one_digit_more}
use Rattle.http_post.proofs.lengths.number.Goals as goal

-- src/lengths.rt:33:5
pub loop-digit-preserved : goal.loop-digit-preserved
loop-digit-preserved c =
    one_digit_more c.args.digits.now c.loop-digit.digit-index c.loop-digit.value c.min-value.result c.requires c.loop-digit-test.true c.loop-digit.invariant c.min-value.ensures
