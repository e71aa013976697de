-- Header blocks, and what they say.
use Rattle.std.specs.Prelude.{ℕ, List, [], ◌∷◌, ◌≡◌, refl, Ok, Err, Some, None, codes}
use Rattle.xml_profile.specs.declared.tree.Tree.{Tree}
use Rattle.xml_profile.specs.Prefixes.{addressing}
use Rattle.soap_profile.specs.BuiltElements.{element, qualified, text_children, unqualified}
use Rattle.addressing.specs.declared.headers.AddressingRefusal.TheVariants.{MissingHeader, InvalidHeader}
use Rattle.addressing.specs.declared.headers.Header.TheVariants.{Action, ReplyTo}
use Rattle.addressing.specs.Headers.{headers_of, relates_of, source_of}
use Rattle.addressing.specs.OutgoingHeaders.{marked}

abbrev block : List ℕ → List ℕ → Tree
block local text = element (qualified addressing local) (text_children text)

abbrev typed : List ℕ → List ℕ → Tree
typed type text =
    record {
      name = qualified addressing (codes "RelatesTo");
      attributes = record { name = unqualified (codes "RelationshipType"); value = type } ∷ [];
      children = text_children text;
    }

abbrev action : Tree
action = block (codes "Action") (codes " urn:a ")

pub no_action : headers_of [] ≡ Err (MissingHeader Action)
no_action = refl

pub empty_action : headers_of (block (codes "Action") (codes " ") ∷ []) ≡ Err (InvalidHeader Action)
empty_action = refl

-- a repeated header goes before a missing one, and the earlier in the order goes first
pub repeated : headers_of (block (codes "FaultTo") [] ∷ block (codes "FaultTo") [] ∷ block (codes "ReplyTo") [] ∷ block (codes "ReplyTo") [] ∷ [])
    ≡ Err (InvalidHeader ReplyTo)
repeated = refl

-- a reference parameter is no header
pub marked_action : headers_of (marked action ∷ []) ≡ Err (MissingHeader Action)
marked_action = refl

-- a source that is nowhere is absent
pub from_nowhere : source_of (Some (record { address = codes "http://www.w3.org/2005/08/addressing/none"; params = [] })) ≡ None
from_nowhere = refl

pub action_alone : headers_of (action ∷ [])
    ≡ Ok (record {
      to = None;
      action = codes "urn:a";
      id = None;
      relates = None;
      from = None;
      reply = None;
      fault = None;
      context = None;
    })
action_alone = refl

-- the first relationship of a reply counts
pub first_reply : relates_of (typed (codes "urn:other") (codes "1")
    ∷ typed (codes "http://www.w3.org/2005/08/addressing/reply") (codes "2")
    ∷ block (codes "RelatesTo") (codes "3") ∷ [])
    ≡ Some (codes "2")
first_reply = refl
