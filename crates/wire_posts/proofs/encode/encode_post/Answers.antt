use Rattle.std.proofs.Common.{rules}
use Rattle.wire_posts.specs.Envelopes.{IsTextOf}
use Rattle.wire_posts.proofs.Uniqueness.{text_one}
use Rattle.wire_posts.proofs.encode.encode_post.Goals as goal

pub returns-clause-only : goal.returns-clause-only
returns-clause-only c =
    let own : IsTextOf c.args.post.now c.in_ok-bytes.bytes.items = search rules in
    λ text h. text_one c.args.post.now text c.in_ok-bytes.bytes.items h own
