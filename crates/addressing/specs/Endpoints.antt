-- What endpoint an element spells (WS-Addressing 1.0 Core, section 2).
use Rattle.std.specs.Prelude.{ℕ, List, [], ◌+◌, Bool, ◌&&◌, nat_le, not, Option, Some, None, if◌then◌else◌, codes, length}
use Rattle.std.specs.Str.{bytes_eq}
use Rattle.xml_profile.specs.declared.tree.Tree.{Tree}
use Rattle.xml_profile.specs.CanonicalText.{canonical_text}
use Rattle.xml_profile.specs.Prefixes.{addressing}
use Rattle.soap_profile.specs.Children.{child_of}
use Rattle.soap_profile.specs.Values.{is_empty, text_value}
use Rattle.at_base.specs.declared.limits.TheConstants.{MOST_ENDPOINT}
use Rattle.at_base.specs.declared.epr.Epr.{Epr}
use Rattle.at_base.specs.declared.epr.Reply.{Reply}
use Rattle.at_base.specs.declared.epr.Reply.TheVariants.{Anonymous, Nobody, At}

abbrev pub part_of : Tree → List ℕ → Option (Option Tree)
part_of t local = child_of t (Some addressing) local

-- the canonical text of the reference parameters, empty where there are none
abbrev pub params_of : Option Tree → List ℕ
params_of None = []
params_of (Some t) = canonical_text t

-- an address isn't empty, and address and parameters have at most 2,048 bytes together
abbrev pub is_within : List ℕ → List ℕ → Bool
is_within address params = not (is_empty address) && nat_le (length address + length params) MOST_ENDPOINT

abbrev pub bounded : List ℕ → List ℕ → Option Epr
bounded address params = if is_within address params then Some (record { address = address; params = params }) else None

-- each part stands at most once, the address exactly once; other parts are skipped
abbrev pub joined : Option (Option Tree) → Option (Option Tree) → Option (Option Tree) → Option Epr
joined None params metadata = None
joined (Some None) params metadata = None
joined (Some (Some address)) None metadata = None
joined (Some (Some address)) (Some params) None = None
joined (Some (Some address)) (Some params) (Some metadata) = bounded (text_value address) (params_of params)

-- the endpoint that an element spells, where it is readable
abbrev pub epr_of : Tree → Option Epr
epr_of t = joined (part_of t (codes "Address")) (part_of t (codes "ReferenceParameters")) (part_of t (codes "Metadata"))

-- the predefined addresses (WS-Addressing 1.0 Core, section 2.1)
abbrev pub anonymous : List ℕ
anonymous = codes "http://www.w3.org/2005/08/addressing/anonymous"

abbrev pub nobody : List ℕ
nobody = codes "http://www.w3.org/2005/08/addressing/none"

abbrev pub is_anonymous : Epr → Bool
is_anonymous epr = bytes_eq epr.address anonymous

abbrev pub is_nobody : Epr → Bool
is_nobody epr = bytes_eq epr.address nobody

-- where an answer to an endpoint goes, and where it goes if none is named (WS-Addressing 1.0 Core, section 3.4)
abbrev pub reply_at : Epr → Reply
reply_at epr = if is_anonymous epr then Anonymous else if is_nobody epr then Nobody else At epr

abbrev pub reply_or : Option Epr → Reply → Reply
reply_or None otherwise = otherwise
reply_or (Some epr) otherwise = reply_at epr

-- of ReplyTo
abbrev pub reply_of : Option Epr → Reply
reply_of reply = reply_or reply Anonymous

-- of FaultTo and ReplyTo
abbrev pub fault_of : Option Epr → Option Epr → Reply
fault_of fault reply = reply_or fault (reply_of reply)
