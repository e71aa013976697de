use Rattle.std.proofs.Common.{subst}
use Rattle.httparse.specs.Spans.{RequestOverflows}
use Rattle.http_post.proofs.Overflow.{too_long}
use Rattle.http_post.proofs.places.try_bytes.Goals as goal

-- src/places.rt:64:1
pub returns-in-Err-clause-step : goal.returns-in-Err-clause-step
returns-in-Err-clause-step c =
    too_long c.args.bytes.now (subst (λ n. RequestOverflows n c.args.bytes.now) c.requires c.in-Err.ensures.no_room)
