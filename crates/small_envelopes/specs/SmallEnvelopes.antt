-- Messages without reference parameters are small: their envelopes are within the limits of what is read.
use Rattle.std.specs.Prelude.{[], ◌≡◌}
use Rattle.at_base.specs.declared.outs.Post.{Post}
use Rattle.provenance.specs.Forms.{Forms, IsPost}
use Rattle.wire_posts.specs.Returns.{IsInLimits}

-- no endpoint has reference parameters
abbrev pub bare : Forms
bare = record {
  endpoint = λ e. e.params ≡ [];
  context = λ c. c.registration.params ≡ [];
  identifier = λ text. Unit {0};
  span = λ time. Unit {0};
  id = λ text. Unit {0};
  uri = λ text. Unit {0};
  field = λ text. Unit {0};
}

abbrev pub BareAreInLimits : Type 0
BareAreInLimits = (post : Post) → IsPost bare post → IsInLimits post
