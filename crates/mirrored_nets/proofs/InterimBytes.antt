-- The bytes of the interim line.
use Rattle.std.specs.Prelude.{ℕ, List, codes, ◌≡◌, refl}
use Rattle.std.proofs.Common.{◌∙◌, sym}
use Rattle.http_post.specs.Conversations.{interim}

pub interim_is : interim ≡ codes "HTTP/1.1 100 Continue\r\n\r\n"
unfolding interim
interim_is = refl

pub is_interim : (bytes : List ℕ) → bytes ≡ codes "HTTP/1.1 100 Continue\r\n\r\n" → bytes ≡ interim
is_interim bytes e = e ∙ sym interim_is
