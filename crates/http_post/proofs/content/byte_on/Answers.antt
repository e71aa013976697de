use Rattle.std.proofs.Common.{◌∷◌, ◌+◌, drop, ap, sym, ◌∙◌, arith}
use Rattle.http_post.specs.RawBytes.{seen}
use Rattle.http_post.proofs.TrailerLaws.{byte_at, seen_at}
use Rattle.http_post.proofs.content.byte_on.Goals as goal

-- src/content.rt:13:1
pub returns-in-Ok-clause-byte : goal.returns-in-Ok-clause-byte
returns-in-Ok-clause-byte g c raw k =
    seen_at _ c.fill.new.bytes.items raw c.args.place (c.in-Ok.ensures.kept raw k) c.in-Ok.ensures.full
    ∙ ap (λ b. b ∷ drop (c.args.place + 1) (seen raw)) (sym (byte_at c.fill.new.bytes.items c.args.place c.index.result.now (omega (arith, c.in-Ok.ensures.full)) c.index.ensures))
