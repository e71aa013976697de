-- What is looked up, as it is used.
use Rattle.std.proofs.Common.{◌≡◌, Bool, true, false, not, List, Bor, Option, Some, None, Ok, ap, sym, subst}
use Rattle.std.specs.Prelude.{is_some}
use Rattle.std.specs.List.{find}
use Rattle.std.specs.Option.{option_copied, option_map}
use Rattle.xml_profile.specs.declared.tree.Tree.{Tree}
use Rattle.addressing.specs.Message.{Headers}
use Rattle.addressing.specs.Headers.{◌>>=◌, context_of, headers_of, is_many, is_repeated, own_blocks, said_once, singles, unless_repeated, with_context}

-- a name that stands more than once is looked up in vain
pub repeated_so : (found : Option (Option (Bor Tree))) (repeated : Bool) (one : Option (Option Tree)) → option_map option_copied found ≡ one
    → is_some found ≡ not repeated → repeated ≡ is_many one
repeated_so None true one e f = ap is_many e
repeated_so None false one e f = absurd cc
repeated_so (Some block) true one e f = absurd cc
repeated_so (Some block) false one e f = ap is_many e

-- the headers, and then the context
pub headers_so : (blocks own : List Tree) (headers : Headers) (context : Option Tree) → own ≡ own_blocks blocks
    → unless_repeated (find (is_repeated own) singles) (said_once own) ≡ Ok headers → context ≡ context_of own
    → headers_of blocks ≡ Ok (with_context context headers)
headers_so blocks own headers context e f g =
    subst (λ (bs : List Tree). (unless_repeated (find (is_repeated bs) singles) (said_once bs) >>= λ h. Ok (with_context (context_of bs) h)) ≡ Ok (with_context context headers)) e
    (λ i. f i >>= λ h. Ok (with_context (sym g i) h))
