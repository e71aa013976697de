-- What is looked up among the blocks that are written.
use Rattle.std.proofs.Common.{◌≡◌, ℕ, List, [], ◌∷◌, ◌++◌, Bool, true, false, ◌&&◌, Option, Some, None, cond, refl, ap, ◌∙◌}
use Rattle.std.specs.Prelude.{codes, IfSome}
use Rattle.std.specs.List.{find}
use Rattle.std.specs.Str.{bytes_eq}
use Rattle.std.proofs.lemmas.List.{append-nil}
use Rattle.xml_profile.specs.declared.name.QName.{QName}
use Rattle.xml_profile.specs.declared.tree.Tree.{Tree}
use Rattle.xml_profile.specs.Prefixes.{addressing, coordination}
use Rattle.soap_profile.specs.BuiltElements.{qualified}
use Rattle.soap_profile.specs.Children.{named}
use Rattle.soap_profile.specs.Envelopes.{first_of}
use Rattle.soap_profile.specs.Values.{is_named, unqualified_attribute}
use Rattle.addressing.specs.declared.writer.Endpoint.{Endpoint}
use Rattle.addressing.specs.declared.writer.OutgoingHeaders.{OutgoingHeaders}
use Rattle.addressing.specs.Endpoints.{anonymous}
use Rattle.addressing.specs.Headers.{is_reply, is_reply_type}
use Rattle.addressing.specs.OutgoingHeaders.{IsContext, context_blocks, endpoint_blocks, text_blocks, text_element, to_blocks}
use Rattle.addressing.proofs.Marks.{heads}

-- the look-up of a name, and the first that has it
found_at : (fits : Bool) (t : Tree) (rest : Option Tree) (ts : List Tree) → rest ≡ first_of ts → cond fits (Some t) rest ≡ first_of (cond fits (t ∷ ts) ts)
found_at true t rest ts e = refl
found_at false t rest ts e = e

pub found : (ts : List Tree) (space local : List ℕ) → find (λ t. is_named t.name space local) ts ≡ first_of (named ts space local)
found [] space local = refl
found (t ∷ ts) space local =
    found_at (is_named t.name space local) t (find (λ u. is_named u.name space local) ts) (named ts space local) (found ts space local)

reply_at : (fits typed : Bool) (t : Tree) (rest : Option Tree) (ts : List Tree) → is_reply t ≡ (fits && typed) → rest ≡ find is_reply ts
    → cond (fits && typed) (Some t) rest ≡ find is_reply (cond fits (t ∷ ts) ts)
reply_at true true t rest ts e h = rw e refl
reply_at true false t rest ts e h = rw e h
reply_at false typed t rest ts e h = h

pub reply_found : (ts : List Tree) → find is_reply ts ≡ find is_reply (named ts addressing (codes "RelatesTo"))
reply_found [] = refl
reply_found (t ∷ ts) =
    reply_at (is_named t.name addressing (codes "RelatesTo")) (is_reply_type (unqualified_attribute t.attributes (codes "RelationshipType"))) t
    (find is_reply ts) (named ts addressing (codes "RelatesTo")) refl (reply_found ts)

named_first : (fits : Bool) (t : Tree) (all front back : List Tree) → all ≡ front ++ back
    → cond fits (t ∷ all) all ≡ cond fits (t ∷ front) front ++ back
named_first true t all front back e = ap (λ (ts : List Tree). t ∷ ts) e
named_first false t all front back e = e

named_append : (ts us : List Tree) (space local : List ℕ) → named (ts ++ us) space local ≡ named ts space local ++ named us space local
named_append [] us space local = refl
named_append (t ∷ ts) us space local =
    named_first (is_named t.name space local) t (named (ts ++ us) space local) (named ts space local) (named us space local) (named_append ts us space local)

named_parts : (a b c d e f g h : List Tree) (space local : List ℕ)
    → named (a ++ b ++ c ++ d ++ e ++ f ++ g ++ h) space local
    ≡ named a space local ++ named b space local ++ named c space local ++ named d space local
    ++ named e space local ++ named f space local ++ named g space local ++ named h space local
named_parts a b c d e f g h space local = simp named_append

-- elements of one name are all looked up, or none is
abbrev Share : QName → List Tree → Type 0
Share name [] = Unit {0}
Share name (t ∷ ts) = (t.name ≡ name) × Share name ts

abbrev chosen : QName → List ℕ → List ℕ → List Tree → List Tree
chosen name space local ts = cond (is_named name space local) ts []

shared_at : (fits : Bool) (t : Tree) (rest ts : List Tree) → rest ≡ cond fits ts [] → cond fits (t ∷ rest) rest ≡ cond fits (t ∷ ts) []
shared_at true t rest ts e = ap (λ (us : List Tree). t ∷ us) e
shared_at false t rest ts e = e

none_shared : (fits : Bool) (ts : List Tree) → ts ≡ cond fits ts ts
none_shared true ts = refl
none_shared false ts = refl

shared : (name : QName) (space local : List ℕ) (ts : List Tree) → Share name ts → named ts space local ≡ chosen name space local ts
shared name space local [] h = none_shared (is_named name space local) []
shared name space local (t ∷ ts) h =
    ap (λ (n : QName). cond (is_named n space local) (t ∷ named ts space local) (named ts space local)) h.0
    ∙ shared_at (is_named name space local) t (named ts space local) ts (shared name space local ts h.1)

texts : (local : List ℕ) (text : Option (List ℕ)) → Share (qualified addressing local) (text_blocks local text)
texts local None = tt
texts local (Some text) = (refl, tt)

nowheres : (nowhere : Bool) (address : List ℕ) → Share (qualified addressing (codes "To")) (cond nowhere [] (text_element (codes "To") address ∷ []))
nowheres true address = tt
nowheres false address = (refl, tt)

tos : (to : Option Endpoint) → Share (qualified addressing (codes "To")) (to_blocks to)
tos None = tt
tos (Some endpoint) = nowheres (bytes_eq endpoint.address anonymous) endpoint.address

endpoints : (local : List ℕ) (endpoint : Option Endpoint) → Share (qualified addressing local) (endpoint_blocks local endpoint)
endpoints local None = tt
endpoints local (Some endpoint) = (refl, tt)

contexts : (context : Option Tree) → IfSome context IsContext → Share (qualified coordination (codes "CoordinationContext")) (context_blocks context)
contexts None h = tt
contexts (Some t) h = (h, tt)

abbrev picked : OutgoingHeaders → List ℕ → List ℕ → List Tree
picked out space local =
    chosen (qualified addressing (codes "To")) space local (to_blocks out.to)
    ++ chosen (qualified addressing (codes "Action")) space local (text_element (codes "Action") out.action ∷ [])
    ++ chosen (qualified addressing (codes "MessageID")) space local (text_blocks (codes "MessageID") out.id)
    ++ chosen (qualified addressing (codes "RelatesTo")) space local (text_blocks (codes "RelatesTo") out.relates)
    ++ chosen (qualified addressing (codes "From")) space local (endpoint_blocks (codes "From") out.from)
    ++ chosen (qualified addressing (codes "ReplyTo")) space local (endpoint_blocks (codes "ReplyTo") out.reply)
    ++ []
    ++ chosen (qualified coordination (codes "CoordinationContext")) space local (context_blocks out.context)

named_heads : (out : OutgoingHeaders) (space local : List ℕ) → IfSome out.context IsContext → named (heads out) space local ≡ picked out space local
named_heads out space local h =
    let action : List Tree = text_element (codes "Action") out.action ∷ [] in
    named_parts (to_blocks out.to) action (text_blocks (codes "MessageID") out.id) (text_blocks (codes "RelatesTo") out.relates)
    (endpoint_blocks (codes "From") out.from) (endpoint_blocks (codes "ReplyTo") out.reply) [] (context_blocks out.context) space local
    ∙ (λ i. shared (qualified addressing (codes "To")) space local (to_blocks out.to) (tos out.to) i
    ++ shared (qualified addressing (codes "Action")) space local action (refl, tt) i
    ++ shared (qualified addressing (codes "MessageID")) space local (text_blocks (codes "MessageID") out.id) (texts (codes "MessageID") out.id) i
    ++ shared (qualified addressing (codes "RelatesTo")) space local (text_blocks (codes "RelatesTo") out.relates) (texts (codes "RelatesTo") out.relates) i
    ++ shared (qualified addressing (codes "From")) space local (endpoint_blocks (codes "From") out.from) (endpoints (codes "From") out.from) i
    ++ shared (qualified addressing (codes "ReplyTo")) space local (endpoint_blocks (codes "ReplyTo") out.reply) (endpoints (codes "ReplyTo") out.reply) i
    ++ []
    ++ shared (qualified coordination (codes "CoordinationContext")) space local (context_blocks out.context) (contexts out.context h) i)

pub to_named : (out : OutgoingHeaders) → IfSome out.context IsContext → named (heads out) addressing (codes "To") ≡ to_blocks out.to
to_named out h = named_heads out addressing (codes "To") h ∙ simp append-nil

pub action_named : (out : OutgoingHeaders) → IfSome out.context IsContext
    → named (heads out) addressing (codes "Action") ≡ text_element (codes "Action") out.action ∷ []
action_named out h = named_heads out addressing (codes "Action") h

pub id_named : (out : OutgoingHeaders) → IfSome out.context IsContext → named (heads out) addressing (codes "MessageID") ≡ text_blocks (codes "MessageID") out.id
id_named out h = named_heads out addressing (codes "MessageID") h ∙ simp append-nil

pub relates_named : (out : OutgoingHeaders) → IfSome out.context IsContext
    → named (heads out) addressing (codes "RelatesTo") ≡ text_blocks (codes "RelatesTo") out.relates
relates_named out h = named_heads out addressing (codes "RelatesTo") h ∙ simp append-nil

pub from_named : (out : OutgoingHeaders) → IfSome out.context IsContext → named (heads out) addressing (codes "From") ≡ endpoint_blocks (codes "From") out.from
from_named out h = named_heads out addressing (codes "From") h ∙ simp append-nil

pub reply_named : (out : OutgoingHeaders) → IfSome out.context IsContext
    → named (heads out) addressing (codes "ReplyTo") ≡ endpoint_blocks (codes "ReplyTo") out.reply
reply_named out h = named_heads out addressing (codes "ReplyTo") h ∙ simp append-nil

pub fault_named : (out : OutgoingHeaders) → IfSome out.context IsContext → named (heads out) addressing (codes "FaultTo") ≡ []
fault_named out h = named_heads out addressing (codes "FaultTo") h

pub context_named : (out : OutgoingHeaders) → IfSome out.context IsContext
    → named (heads out) coordination (codes "CoordinationContext") ≡ context_blocks out.context
context_named out h = named_heads out coordination (codes "CoordinationContext") h
