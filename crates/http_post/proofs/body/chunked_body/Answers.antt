use Rattle.http_post.proofs.ChunkLaws.{chunked_fault, in_chunks}
use Rattle.http_post.proofs.body.chunked_body.Goals as goal

pub returns-in-Ok-clause-content : goal.returns-in-Ok-clause-content
returns-in-Ok-clause-content g c raw k = in_chunks _ raw (c.in-Ok.ensures.content raw k)

pub returns-in-Err-clause-fault : goal.returns-in-Err-clause-fault
returns-in-Err-clause-fault g c = chunked_fault _ _ _ c.in-Err.ensures.fault
