-- The bytes of a post to a node's own endpoint can be read as a request.
use Rattle.std.proofs.Common.{◌≡◌, ℕ, ◌+◌, ◌≤◌, true, List, ◌++◌, length, Some, refl, sym, ap, subst, ◌∙◌, arith}
use Rattle.std.specs.Prelude.{IsUtf8, chars, nat_le}
use Rattle.std.specs.List.{list_all}
use Rattle.std.specs.Str.{is_utf8}
use Rattle.std.proofs.lemmas.Bool.{and_parts, leb-true}
use Rattle.std.proofs.lemmas.Fmt.{length-decimal-le}
use Rattle.std.proofs.lemmas.Option.{option_and_then_some}
use Rattle.std.proofs.lemmas.Str.{IsUtf8-from_is_utf8}
use Rattle.httparse.specs.Grammar.{is_uri_byte, is_value_byte}
use Rattle.addressing.specs.PostAddresses.{post_to_of}
use Rattle.addressing.specs.declared.post_to.PostTo.{PostTo}
use Rattle.at_base.specs.Chars.{is_xml_char}
use Rattle.at_base.specs.declared.message.Message.{Message}
use Rattle.at_base.specs.declared.target.Target.{Target}
use Rattle.endpoints.specs.Addresses.{IsWritten, after_prefix, path_of, target_at, target_of}
use Rattle.endpoints.proofs.Inverses.{behind_prefix, paths_name_targets}
use Rattle.http_post.specs.OutBytes.{authority, post_of}
use Rattle.http_post.specs.ReadablePosts.{CanBeRead}
use Rattle.wire_posts.specs.Envelopes.{action_in}
use Rattle.xml_grammar.specs.Refusals.{IsShort}
use Rattle.deliverables.specs.Bases.{IsNodeBase}
use Rattle.deliverables.specs.Deliverables.{PostsCanBeRead}
use Rattle.deliverables.proofs.HeadTexts.{authority_short, authority_visible}
use Rattle.deliverables.proofs.OwnAddresses.{only_there, to_of}
use Rattle.deliverables.proofs.OwnPaths.{path_begins, path_short, path_visible}
use Rattle.deliverables.proofs.PostHeads.{action_fine, post_length}
use Rattle.deliverables.proofs.VisibleTexts.{all_pass, visible_clean}

-- an address of a target is that of its path, behind the base
at_path : (base address : List ℕ) (own : Target) → target_at base address ≡ Some own → IsWritten own × (address ≡ base ++ path_of own)
at_path base address own e =
    option_and_then_some target_of (after_prefix base address) own e (λ rest found named.
    let (written, same) = paths_name_targets.alone rest own named in
    (written, behind_prefix base address rest found ∙ ap (λ (path : List ℕ). base ++ path) same))

module _ (base : List ℕ) (h : IsNodeBase base) (own : Target) (w : IsWritten own) where
  utf8 : IsUtf8 (path_of own)
  utf8 = IsUtf8-from_is_utf8 (path_of own) (and_parts (is_utf8 (path_of own)) (list_all is_xml_char (chars (path_of own))) (visible_clean (path_of own) (path_visible own w)).spelled).0

  readable : (message : Message) (text : List ℕ) → IsShort text
      → CanBeRead (path_of own) (authority (to_of h.url (path_of own))) (action_in message) text (post_of (to_of h.url (path_of own)) (action_in message) text)
  readable message text short = record {
    slash = path_begins own;
    target = all_pass is_uri_byte refl (path_of own) (path_visible own w);
    text = utf8;
    name = all_pass is_value_byte refl (authority (to_of h.url (path_of own))) (authority_visible h.url h.valid (path_of own));
    value = fine.0;
    fits = fits;
    most = short;
  }
    where
      fine : (list_all is_value_byte (action_in message) ≡ true) × (nat_le (length (action_in message)) 128 ≡ true)
      fine = and_parts (list_all is_value_byte (action_in message)) (nat_le (length (action_in message)) 128) (action_fine message)

      brief : length (authority (to_of h.url (path_of own))) ≤ 1030
      brief = omega (arith, authority_short h.url h.valid (path_of own), ap length h.is, h.short)

      fits : length (post_of (to_of h.url (path_of own)) (action_in message) text) ≤ 8192 + length text
      fits =
          omega (
            arith,
            post_length (to_of h.url (path_of own)) (action_in message) text,
            path_short own w,
            brief,
            leb-true (length (action_in message)) 128 fine.1,
            length-decimal-le 5 (length text) (omega arith) (omega (arith, short)) (omega (arith, short)),
          )

pub posts_can_be_read : PostsCanBeRead
posts_can_be_read base own post endpoint to text h named there short =
    let (written, whole) = at_path base endpoint.address own named in
    let same : to_of h.url (path_of own) ≡ to =
    only_there base h.url (path_of own) own to h.valid h.http h.is (paths_name_targets.named own written) (sym (ap post_to_of whole) ∙ there) in
    subst (λ (t : PostTo). CanBeRead t.path (authority t) (action_in post.message) text (post_of t (action_in post.message) text)) same
    (readable base h own written post.message text short)
