-- Letters of nodes of the examples are short.
use Rattle.std.specs.Prelude.{List, [], ◌∷◌, ◌+◌, ◌≡◌, ◌≤◌, IfSome, Option, Some, None, length}
use Rattle.std.specs.List.{AllByRecursion}
use Rattle.std.proofs.Common.{ap, sym, subst, arith, length-append, leb-true, ◌∙◌}
use Rattle.std.proofs.lemmas.Fmt.{length-decimal-le}
use Rattle.addressing.specs.PostAddresses.{post_to_of}
use Rattle.addressing.specs.declared.post_to.PostTo.{PostTo}
use Rattle.at_base.specs.declared.epr.Epr.{Epr}
use Rattle.at_model.specs.World.{Hosts, Posted, example_base, example_hosts}
use Rattle.deliverables.proofs.HeadTexts.{authority_short}
use Rattle.deliverables.proofs.OwnAddresses.{only_there}
use Rattle.deliverables.proofs.OwnPaths.{path_short}
use Rattle.deliverables.proofs.PostHeads.{post_length}
use Rattle.deliverables.specs.Bases.{ExamplesAreNodeBases}
use Rattle.deliveries.specs.DeliverableNets.{IsPostedOf}
use Rattle.endpoints.specs.Addresses.{PathsNameTargets, path_of}
use Rattle.http_post.specs.OutBytes.{authority}
use Rattle.node_at.specs.Texts.{goes_to}
use Rattle.provenance.specs.Forms.{IsPost}
use Rattle.site_memory.specs.Sites.{told_of}
use Rattle.small_envelopes.specs.ShortEnvelopes.{BriefAreShort, IsBriefEndpoint, brief}
use Rattle.small_envelopes.proofs.ShortHeaders.{action_brief}
use Rattle.small_envelopes.proofs.WeakerForms.{AsksMore, weaker_post}
use Rattle.wire_posts.specs.Envelopes.{action_in}
use Rattle.memory_net.specs.Closed.{IsExample, StaysClosed, closed}
use Rattle.memory_net.specs.Mails.{Mail}
use Rattle.memory_net.specs.ShortLetters.{LettersAreShort}
use Rattle.memory_net.specs.Stands.{AreMailsOf, IsMailOf}
use Rattle.memory_net.proofs.ClosedNodes.{base_brief}

brief_endpoint : (e : Epr) → IsExample e → IsBriefEndpoint e
brief_endpoint e is = record {
  address = omega (arith, ap (λ (x : Epr). length x.address) is.same, length-append (example_base is.number) (path_of is.target), base_brief is.number is.small, path_short is.target is.written);
  bare = ap (λ (x : Epr). x.params) is.same;
}

more_than_brief : AsksMore closed brief
more_than_brief = record {
  endpoint = brief_endpoint;
  context = λ c h. record { identifier = h.identifier; expires = h.expires; coordination = h.coordination; registration = brief_endpoint c.registration h.registration };
  span = λ o h. h;
  id = λ text h. h;
  uri = λ text h. h;
  field = λ text h. h;
}

module _ (bases : ExamplesAreNodeBases) (paths : PathsNameTargets) (short : BriefAreShort) where
  -- where a post to such an endpoint goes
  head_short : (e : Epr) (to : PostTo) → IsExample e → post_to_of e.address ≡ Some to → length to.path + length (authority to) ≤ 1094
  head_short e to is goes =
      let base = bases is.number is.small in
      subst (λ (t : PostTo). length t.path + length (authority t) ≤ 1094)
      (only_there (example_base is.number) base.url (path_of is.target) is.target to base.valid base.http base.is (paths.named is.target is.written) (ap (λ (x : Epr). post_to_of x.address) (sym is.same) ∙ goes))
      (omega (arith, path_short is.target is.written, authority_short base.url base.valid (path_of is.target), ap length base.is, base.short))

  goes_short : (o : Option Epr) (to : PostTo) → IfSome o IsExample → goes_to o ≡ Some to → length to.path + length (authority to) ≤ 1094
  goes_short None to h goes = absurd cc
  goes_short (Some e) to h goes = head_short e to h goes

  mail_short : (p : Posted) (m : Mail) → IsPost closed p.content → IsMailOf p m → length m.bytes ≤ 65536
  mail_short p m is mail =
      let text : length mail.text ≤ 40000 = short p.content mail.text (weaker_post closed brief more_than_brief p.content is) mail.of in
      omega (
        arith,
        ap length mail.is,
        post_length mail.to (action_in p.content.message) mail.text,
        goes_short p.content.to mail.to is.to mail.goes,
        leb-true (length (action_in p.content.message)) 256 (action_brief p.content.message),
        length-decimal-le 5 (length mail.text) (omega arith) (omega (arith, text)) (omega (arith, text)),
        text,
      )

  mails_short : (hosts : Hosts) (ps : List Posted) (ms : List Mail) → AllByRecursion (IsPostedOf closed hosts) ps → AreMailsOf ps ms → AllByRecursion (λ (m : Mail). length m.bytes ≤ 65536) ms
  mails_short hosts [] [] h k = tt
  mails_short hosts [] (m ∷ ms) h k = absurd k
  mails_short hosts (p ∷ ps) [] h k = absurd k
  mails_short hosts (p ∷ ps) (m ∷ ms) (h, more) (k, rest) = (mail_short p m h.content k, mails_short hosts ps ms more rest)

  pub letters_short : StaysClosed told_of → LettersAreShort
  letters_short closes count hosts mails few stands =
      mails_short (example_hosts count) stands.net.posted mails (closes count stands.net stands.sites few stands.serves stands.asks).posted stands.letters
