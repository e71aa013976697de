use Rattle.std.proofs.Common.{◌∷◌, ◌≡◌, sym, ap, ◌∙◌, codes}
use Rattle.http_header.specs.HeaderMap.{get_all}
use Rattle.http_post.specs.Heads.{framed_by}
use Rattle.http_post.proofs.Firsts.{first_is}
use Rattle.http_post.proofs.framing.framed_by.Goals as goal

-- src/framing.rt:73:1
pub returns-in-Some : goal.returns-in-Some
returns-in-Some c =
    let f = first_is (get_all c.args.fields.now (codes "content-length")) c.in-Some.first.now c.in-Some.ensures.value in
    let first : c.as_bytes.result.now ≡ c.in-Some.first.now.bytes = c.as_bytes.ensures.value in
    let e = f.1 ∙ ap (λ z. z ∷ f.0) (sym first) in
    c.framed_as.ensures f.0 e ∙ ap framed_by (sym e)
