use Rattle.std.proofs.Common.{◌≡◌, ◌∙◌, ap, sym, Some}
use Rattle.xml_profile.specs.CanonicalText.{canonical_text}
use Rattle.wire_posts.specs.Faults.{answer_text, refusal_fault}
use Rattle.wire_posts.proofs.encode.refusal_body.Goals as goal

pub returns-in_ok-bytes-in-Some : goal.returns-in_ok-bytes-in-Some
returns-in_ok-bytes-in-Some c =
    let found : Some c.in-Some.fault ≡ refusal_fault c.args.refusal.now = sym c.in-Some.is ∙ c.of_refusal.ensures in
    ap Some (c.in_ok-bytes-in-Some.ensures ∙ ap canonical_text c.in_ok-tree-in-Some.ensures) ∙ ap answer_text found
