-- What bytes ask is determined by them, and what is written of a post asks for it.
use Rattle.std.specs.Prelude.{ℕ, List, Bool, Result, Ok, ◌≡◌}
use Rattle.addressing.specs.declared.post_to.PostTo.{PostTo}
use Rattle.http_post.specs.declared.refusal.HttpRefusal.{HttpRefusal}
use Rattle.http_post.specs.Conversations.{Waits}
use Rattle.http_post.specs.ReadablePosts.{CanBeRead}
use Rattle.http_post.specs.Requests.{Asked, Asks, without_query}
use Rattle.http_post.specs.OutBytes.{authority, post_of}

abbrev pub AskOneThing : Type 0
AskOneThing = (input : List ℕ) (a b : Result Asked HttpRefusal) → Asks input a → Asks input b → a ≡ b

abbrev pub WaitOrNot : Type 0
WaitOrNot = (input : List ℕ) (a b : Bool) → Waits input a → Waits input b → a ≡ b

-- the path without its query, and the body
abbrev pub PostsAreReadBack : Type 0
PostsAreReadBack =
    (to : PostTo) (action body : List ℕ) → CanBeRead to.path (authority to) action body (post_of to action body)
    → Asks (post_of to action body) (Ok (record { path = without_query to.path; body = body }))
