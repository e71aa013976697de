-- The message id of a name (WS-Addressing 1.0 Core, section 3.1): a URN (RFC 9562, section 4) of the name's version 5
-- identifier in the namespace of URLs (RFC 9562, sections 5.5 and 6.6).
use Rattle.std.specs.Prelude.{ℕ, List, ◌++◌, take}
use Rattle.sha1.specs.Sha1.{sha1}
use Rattle.uuid.specs.Parts.{with_version, with_variant}
use Rattle.uuid.specs.Text.{urn_text, lower}
use Rattle.uuid.specs.Uuid.{namespace_url}
use Rattle.uuid.specs.declared.Variant.TheVariants as variants
use Rattle.uuid.specs.declared.Version.TheVariants as versions

-- the first sixteen bytes of the hash of the namespace and the name, with the version and the variant put in
abbrev pub version_5 : List ℕ → List ℕ → List ℕ
version_5 namespace name =
    with_version (with_variant (take 16 (sha1 (namespace ++ name))) variants.RFC4122) versions.Sha1

abbrev pub message_id_of : List ℕ → List ℕ
message_id_of name = urn_text lower (version_5 namespace_url name)
