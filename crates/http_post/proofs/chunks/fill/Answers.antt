use Rattle.std.proofs.Common.{◌∙◌, arith, ap, length, ◌<◌, min}
use Rattle.http_post.proofs.RawBytes.{fill_fault}
use Rattle.http_post.proofs.chunks.fill.Goals as goal

-- src/chunks.rt:22:13
pub returns-in-Err-clause-fault : goal.returns-in-Err-clause-fault
returns-in-Err-clause-fault g c =
    let few : min (length c.loop-site.bytes.items) 131072 < c.args.upto = omega (arith, c.loop-site-test.true, c.counting.ensures, ap length c.as_slice.ensures.value) in
    fill_fault _ _ _ _ _ _ c.loop-site.invariant.0 few c.in-Err.ensures.fault

pub loop-site-preserved : goal.loop-site-preserved
loop-site-preserved g c = (
  (λ raw k. c.in_default.ensures.kept raw (c.loop-site.invariant.0 raw k)),
  (c.in_default.ensures.cause.quiet ∙ c.loop-site.invariant.1.0, (λ first h. c.more.ensures.leaves first (c.loop-site.invariant.1.1 first h))),
)
