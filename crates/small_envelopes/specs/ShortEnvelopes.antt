-- Messages of brief texts are short: so are their envelopes.
use Rattle.std.specs.Prelude.{ℕ, List, [], length, ◌≡◌, ◌≤◌}
use Rattle.at_base.specs.declared.epr.Epr.{Epr}
use Rattle.at_base.specs.declared.message.Context.{Context}
use Rattle.at_base.specs.declared.outs.Post.{Post}
use Rattle.context.specs.BodyTrees.{IsNarrow}
use Rattle.provenance.specs.Forms.{Forms, IsPost}
use Rattle.wire_posts.specs.Envelopes.{IsTextOf}

abbrev pub IsBrief : List ℕ → Type 0
IsBrief text = length text ≤ 256

-- an endpoint of a brief address, without reference parameters
pub record IsBriefEndpoint (endpoint : Epr) : Type 0 where
  pub address : IsBrief endpoint.address
  pub bare : endpoint.params ≡ []

pub record IsBriefContext (context : Context) : Type 0 where
  pub identifier : IsBrief context.identifier
  pub expires : IsNarrow context.expires
  pub coordination : IsBrief context.coordination
  pub registration : IsBriefEndpoint context.registration

-- all texts are brief, and no endpoint has reference parameters
abbrev pub brief : Forms
brief = record {
  endpoint = IsBriefEndpoint;
  context = IsBriefContext;
  identifier = IsBrief;
  span = IsNarrow;
  id = IsBrief;
  uri = IsBrief;
  field = IsBrief;
}

abbrev pub BriefAreShort : Type 0
BriefAreShort = (post : Post) (text : List ℕ) → IsPost brief post → IsTextOf post text → length text ≤ 40000
