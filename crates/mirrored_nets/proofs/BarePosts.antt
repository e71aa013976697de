-- Posts among nodes of the examples have no reference parameters.
use Rattle.std.specs.Prelude.{[], ◌≡◌}
use Rattle.std.proofs.Common.{ap}
use Rattle.at_base.specs.declared.epr.Epr.{Epr}
use Rattle.at_base.specs.declared.outs.Post.{Post}
use Rattle.provenance.specs.Forms.{IsPost}
use Rattle.memory_net.specs.Closed.{IsExample, closed}
use Rattle.small_envelopes.specs.SmallEnvelopes.{bare}
use Rattle.small_envelopes.proofs.WeakerForms.{AsksMore, weaker_post}

bare_endpoint : (e : Epr) → IsExample e → e.params ≡ []
bare_endpoint e is = ap (λ (x : Epr). x.params) is.same

more_than_bare : AsksMore closed bare
more_than_bare = record {
  endpoint = bare_endpoint;
  context = λ c h. bare_endpoint c.registration h.registration;
  span = λ o h. tt;
  id = λ text h. tt;
  uri = λ text h. tt;
  field = λ text h. tt;
}

pub bare_post : (p : Post) → IsPost closed p → IsPost bare p
bare_post = weaker_post closed bare more_than_bare
