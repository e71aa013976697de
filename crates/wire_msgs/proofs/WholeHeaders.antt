-- What headers of blocks that fit say is whole.
use Rattle.std.proofs.Common.{◌≡◌, refl, ℕ, List, Bool, true, false, cond, ◌||◌, IfOk, IfSome, Option, Some, None, Result, Ok, Err}
use Rattle.std.specs.List.{find}
use Rattle.std.specs.Option.{option_map}
use Rattle.std.specs.Str.{bytes_eq}
use Rattle.url.specs.Parser.{parse_url}
use Rattle.xml_profile.specs.declared.tree.Tree.{Tree}
use Rattle.soap_profile.specs.Values.{text_value}
use Rattle.at_base.specs.declared.epr.Epr.{Epr}
use Rattle.addressing.specs.declared.headers.AddressingRefusal.{AddressingRefusal}
use Rattle.addressing.specs.declared.headers.AddressingRefusal.TheVariants.{InvalidHeader}
use Rattle.addressing.specs.declared.headers.Header.{Header}
use Rattle.addressing.specs.declared.headers.Header.TheVariants.{To, Action, MessageId, From, ReplyTo, FaultTo}
use Rattle.addressing.specs.Message.{Headers}
use Rattle.addressing.specs.Endpoints.{anonymous, epr_of, is_anonymous, is_nobody}
use Rattle.addressing.specs.Headers.{◌>>=◌, action_of, context_of, destination, endpoint_of, header_in, headers_of, is_context, is_parsed, is_repeated, is_reply, own_blocks, readable, said_once, singles, source_of, to_of, unless_repeated, with_context}
use Rattle.wire_msgs.specs.WholeMessages.{IsClean, IsSource, IsWholeEndpoint}
use Rattle.wire_msgs.proofs.FittingTrees.{AllFit, Fit, find_fit, own_fit, value_clean}
use Rattle.wire_msgs.proofs.WholeBodies.{endpoint_whole}

pub record AreWhole (h : Headers) : Type 0 where
  pub to : IfSome h.to IsClean
  pub id : IfSome h.id IsClean
  pub relates : IfSome h.relates IsClean
  pub from : IfSome h.from IsSource
  pub reply : IfSome h.reply IsWholeEndpoint
  pub fault : IfSome h.fault IsWholeEndpoint
  pub context : IfSome h.context Fit

chain : {A B : Type 0} (P : A → Type 0) (Q : B → Type 0) (first : Result A AddressingRefusal) (next : A → Result B AddressingRefusal)
    → IfOk first P → ((x : A) → P x → IfOk (next x) Q) → IfOk (first >>= next) Q
chain P Q (Ok x) next h k = k x h
chain P Q (Err f) next h k = tt

-- of a step of which nothing is asked
any : {A B : Type 0} (Q : B → Type 0) (first : Result A AddressingRefusal) (next : A → Result B AddressingRefusal)
    → ((x : A) → IfOk (next x) Q) → IfOk (first >>= next) Q
any Q (Ok x) next k = k x
any Q (Err f) next k = tt

header_fit : (blocks : List Tree) (header : Header) → AllFit blocks → IfSome (header_in blocks header) Fit
header_fit blocks header h = find_fit _ blocks h

value_kept : (t : Option Tree) → IfSome t Fit → IfSome (option_map text_value t) IsClean
value_kept None h = tt
value_kept (Some t) h = value_clean t h

destination_clean : (text : List ℕ) → IsClean text → IfOk (destination text) (λ o. IfSome o IsClean)
destination_clean text c = by_tests (bytes_eq text anonymous) (is_parsed (parse_url None text))
  where
    by_tests : (a b : Bool) → IfOk {E = AddressingRefusal} (cond a (Ok None) (cond b (Ok (Some text)) (Err (InvalidHeader To)))) (λ o. IfSome o IsClean)
    by_tests true b = tt
    by_tests false true = c
    by_tests false false = tt

to_clean : (t : Option Tree) → IfSome t Fit → IfOk (to_of t) (λ o. IfSome o IsClean)
to_clean None h = tt
to_clean (Some t) h = destination_clean (text_value t) (value_clean t h)

readable_whole : (header : Header) (epr : Option Epr) → IfSome epr IsWholeEndpoint → IfOk (readable header epr) (λ o. IfSome o IsWholeEndpoint)
readable_whole header None h = tt
readable_whole header (Some epr) h = h

endpoint_kept : (header : Header) (t : Option Tree) → IfSome t Fit → IfOk (endpoint_of header t) (λ o. IfSome o IsWholeEndpoint)
endpoint_kept header None h = tt
endpoint_kept header (Some t) h = readable_whole header (epr_of t) (endpoint_whole t h)

source_kept : (epr : Option Epr) → IfSome epr IsWholeEndpoint → IfSome (source_of epr) IsSource
source_kept None h = tt
source_kept (Some epr) h = by_place (is_anonymous epr || is_nobody epr) refl
  where
    by_place : (b : Bool) → (is_anonymous epr || is_nobody epr) ≡ b → IfSome (cond b None (Some epr)) IsSource
    by_place true e = tt
    by_place false e = record { whole = h; somewhere = e }

once_whole : (blocks : List Tree) → AllFit blocks → IfOk (said_once blocks) (λ h. (context : Option Tree) → IfSome context Fit → AreWhole (with_context context h))
once_whole blocks f =
    any _ (action_of (header_in blocks Action)) _
    (λ action. chain (λ o. IfSome o IsClean) _ (to_of (header_in blocks To)) _ (to_clean (header_in blocks To) (header_fit blocks To f))
    (λ to a. chain (λ o. IfSome o IsWholeEndpoint) _ (endpoint_of From (header_in blocks From)) _ (endpoint_kept From (header_in blocks From) (header_fit blocks From f))
    (λ from b. chain (λ o. IfSome o IsWholeEndpoint) _ (endpoint_of ReplyTo (header_in blocks ReplyTo)) _ (endpoint_kept ReplyTo (header_in blocks ReplyTo) (header_fit blocks ReplyTo f))
    (λ reply c. chain (λ o. IfSome o IsWholeEndpoint) _ (endpoint_of FaultTo (header_in blocks FaultTo)) _ (endpoint_kept FaultTo (header_in blocks FaultTo) (header_fit blocks FaultTo f))
    (λ fault d. λ context h. record {
      to = a;
      id = value_kept (header_in blocks MessageId) (header_fit blocks MessageId f);
      relates = value_kept (find is_reply blocks) (find_fit is_reply blocks f);
      from = source_kept from b;
      reply = c;
      fault = d;
      context = h;
    })))))

unless_keeps : (P : Headers → Type 0) (repeated : Option Header) (said : Result Headers AddressingRefusal) → IfOk said P → IfOk (unless_repeated repeated said) P
unless_keeps P None said h = h
unless_keeps P (Some header) said h = tt

pub headers_whole : (blocks : List Tree) → AllFit blocks → IfOk (headers_of blocks) AreWhole
headers_whole blocks f =
    let own = own_blocks blocks in
    let fit : AllFit own = own_fit blocks f in
    chain (λ h. (context : Option Tree) → IfSome context Fit → AreWhole (with_context context h)) AreWhole
    (unless_repeated (find (is_repeated own) singles) (said_once own)) (λ headers. Ok (with_context (context_of own) headers))
    (unless_keeps _ (find (is_repeated own) singles) (said_once own) (once_whole own fit))
    (λ headers h. h (context_of own) (find_fit is_context own fit))
