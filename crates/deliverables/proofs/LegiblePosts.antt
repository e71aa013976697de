-- The headers of a post that can arrive at a target can be read.
use Rattle.std.specs.Prelude.{ℕ, List, Option, Some, None, IfSome, Bool, true, false, cond, ◌||◌, ◌≡◌, Ok, Err}
use Rattle.std.specs.Option.{option_and_then}
use Rattle.std.specs.Str.{bytes_eq, chars, is_utf8}
use Rattle.std.proofs.Common.{refl, ap, sym, subst, ◌∙◌, inl}
use Rattle.addressing.specs.Endpoints.{anonymous}
use Rattle.addressing.specs.Headers.{is_parsed}
use Rattle.addressing.specs.OutgoingHeaders.{AreLegible, IsContext, IsDestination, IsLegible, IsTrimmed, destination_in}
use Rattle.addressing.specs.PostAddresses.{path_in}
use Rattle.addressing.specs.StoredEndpoints.{IsEndpointOf}
use Rattle.addressing.specs.declared.writer.Endpoint.{Endpoint}
use Rattle.addressing.specs.declared.writer.OutgoingHeaders.{OutgoingHeaders}
use Rattle.arrivals.specs.Worlds.{CanArrive, IsWritten}
use Rattle.at_base.specs.declared.epr.Epr.{Epr}
use Rattle.at_base.specs.declared.epr.Reply.{Reply}
use Rattle.at_base.specs.declared.epr.Reply.TheVariants as replies
use Rattle.at_base.specs.declared.fault.Fault.TheVariants as faults
use Rattle.at_base.specs.declared.message.Context.{Context}
use Rattle.at_base.specs.declared.message.Message.{Message}
use Rattle.at_base.specs.declared.message.Message.TheVariants as messages
use Rattle.at_base.specs.declared.notice.Notice.TheVariants as notices
use Rattle.at_base.specs.declared.outs.Post.{Post}
use Rattle.at_base.specs.declared.target.Target.{Target}
use Rattle.endpoints.specs.Addresses.{target_of}
use Rattle.endpoints.specs.declared.form.Form.{Form}
use Rattle.endpoints.specs.declared.form.Form.TheVariants as forms
use Rattle.soap_profile.specs.Values.{is_empty}
use Rattle.url.specs.Parser.{Parsed, parse_url}
use Rattle.url.specs.Parts.{Parts}
use Rattle.wire_msgs.specs.Forms.{action_of}
use Rattle.wire_msgs.specs.Targets.{target_at}
use Rattle.wire_msgs.specs.WholeMessages.{IsClean, IsSource}
use Rattle.wire_posts.specs.Envelopes.{AreBoth, AreHeadersOf, IsReplyOf, IsWorkContext, action_in, context_in, reply_epr}
use Rattle.wire_posts.specs.Faults.{fault_action, written_named}
use Rattle.wire_posts.specs.Returns.{IsWholeReply, written_to}
use Rattle.wire_posts.specs.declared.fault.WrittenFault.{WrittenFault}
use Rattle.wire_posts.specs.declared.fault.WrittenFault.TheVariants.{NotProfileDocument, VersionMismatch, NotEnvelope, MustUnderstand, HeaderRequired, InvalidHeader, ActionNotSupported, Protocol, Other}
use Rattle.wire_posts.proofs.Ends.{IsRead, is_read, is_spelled}
use Rattle.xml_profile.specs.declared.tree.Tree.{Tree}

if_some : {A : Type 0} (P Q : A → Type 0) → ((x : A) → P x → Q x) → (o : Option A) → IfSome o P → IfSome o Q
if_some P Q f None h = tt
if_some P Q f (Some x) h = f x h

abbrev written_if : Bool → List ℕ → Option (List ℕ)
written_if b address = cond b None (Some address)

pub to_same : (to : Option Epr) (out : Option Endpoint) → AreBoth IsEndpointOf to out → destination_in out ≡ written_to to
to_same None None h = refl
to_same None (Some out) h = absurd h
to_same (Some epr) None h = absurd h
to_same (Some epr) (Some out) h = ap (λ a. written_if (bytes_eq a anonymous) a) (is_spelled epr out h).address

reply_read : (reply : Reply) (out : Endpoint) → IsReplyOf reply out → IsWholeReply reply → IsRead (reply_epr reply) out
unfolding chars is_utf8 lib.Utf8.encode
reply_read replies.Anonymous out h w = is_read (reply_epr replies.Anonymous) out (record { trimmed = refl; within = refl; params = inl refl }) h
reply_read replies.Nobody out h w = is_read (reply_epr replies.Nobody) out (record { trimmed = refl; within = refl; params = inl refl }) h
reply_read (replies.At epr) out h w = is_read epr out w.kept h

path_parsed : (r : Parsed Parts) (target : Target) → option_and_then target_of (path_in r) ≡ Some target → is_parsed r ≡ true
path_parsed (Ok url) target h = refl
path_parsed (Err fault) target h = absurd cc

is_destination : (address path : List ℕ) (target : Target) (b : Bool) → target_at (written_if b address) path ≡ Some target
    → (b || is_parsed (parse_url None address)) ≡ true
is_destination address path target true h = refl
is_destination address path target false h = path_parsed (parse_url None address) target h

to_legible : (to : Option Epr) (out : Option Endpoint) (path : List ℕ) (target : Target) → AreBoth IsEndpointOf to out
    → IfSome to IsWritten → target_at (written_to to) path ≡ Some target → IfSome out IsDestination
to_legible None None path target h w n = tt
to_legible None (Some out) path target h w n = absurd h
to_legible (Some epr) None path target h w n = absurd h
to_legible (Some epr) (Some out) path target h w n =
    let same : out.address ≡ epr.address = (is_spelled epr out h).address in
    record {
      trimmed = subst IsTrimmed (sym same) w.clean.trimmed;
      named =
          subst (λ a. (bytes_eq a anonymous || is_parsed (parse_url None a)) ≡ true) (sym same)
          (is_destination epr.address path target (bytes_eq epr.address anonymous) n);
    }

form_trimmed : (form : Form) → IsTrimmed (action_of form) × (is_empty (action_of form) ≡ false)
form_trimmed forms.Create = (refl, refl)
form_trimmed forms.CreateResponse = (refl, refl)
form_trimmed forms.Register = (refl, refl)
form_trimmed forms.RegisterResponse = (refl, refl)
form_trimmed (forms.Notice notices.Prepare) = (refl, refl)
form_trimmed (forms.Notice notices.Commit) = (refl, refl)
form_trimmed (forms.Notice notices.Rollback) = (refl, refl)
form_trimmed (forms.Notice notices.Prepared) = (refl, refl)
form_trimmed (forms.Notice notices.ReadOnly) = (refl, refl)
form_trimmed (forms.Notice notices.Aborted) = (refl, refl)
form_trimmed (forms.Notice notices.Committed) = (refl, refl)
form_trimmed forms.Work = (refl, refl)
form_trimmed forms.WorkDone = (refl, refl)
form_trimmed forms.WorkRefused = (refl, refl)

fault_trimmed : (fault : WrittenFault) → IsTrimmed (fault_action fault) × (is_empty (fault_action fault) ≡ false)
fault_trimmed NotProfileDocument = (refl, refl)
fault_trimmed VersionMismatch = (refl, refl)
fault_trimmed NotEnvelope = (refl, refl)
fault_trimmed MustUnderstand = (refl, refl)
fault_trimmed HeaderRequired = (refl, refl)
fault_trimmed InvalidHeader = (refl, refl)
fault_trimmed ActionNotSupported = (refl, refl)
fault_trimmed (Protocol faults.InvalidState) = (refl, refl)
fault_trimmed (Protocol faults.InvalidProtocol) = (refl, refl)
fault_trimmed (Protocol faults.InvalidParameters) = (refl, refl)
fault_trimmed (Protocol faults.CannotCreateContext) = (refl, refl)
fault_trimmed (Protocol faults.CannotRegisterParticipant) = (refl, refl)
fault_trimmed (Protocol faults.UnknownTransaction) = (refl, refl)
fault_trimmed Other = (refl, refl)

action_trimmed : (message : Message) → IsTrimmed (action_in message) × (is_empty (action_in message) ≡ false)
action_trimmed (messages.Create body) = form_trimmed forms.Create
action_trimmed (messages.CreateResponse context) = form_trimmed forms.CreateResponse
action_trimmed (messages.Register body) = form_trimmed forms.Register
action_trimmed (messages.RegisterResponse coordinator) = form_trimmed forms.RegisterResponse
action_trimmed (messages.Notice notice) = form_trimmed (forms.Notice notice)
action_trimmed (messages.Work body) = form_trimmed forms.Work
action_trimmed messages.WorkDone = form_trimmed forms.WorkDone
action_trimmed messages.WorkRefused = form_trimmed forms.WorkRefused
action_trimmed (messages.Fault name) = fault_trimmed (written_named name)

from_legible : (from : Option Epr) (out : Option Endpoint) → AreBoth IsEndpointOf from out → IfSome from IsSource → IfSome out IsLegible
from_legible None None h w = tt
from_legible None (Some out) h w = absurd h
from_legible (Some epr) None h w = absurd h
from_legible (Some epr) (Some out) h w = (is_read epr out w.whole.kept h).legible

reply_legible : (reply : Option Reply) (out : Option Endpoint) → AreBoth IsReplyOf reply out → IfSome reply IsWholeReply → IfSome out IsLegible
reply_legible None None h w = tt
reply_legible None (Some out) h w = absurd h
reply_legible (Some reply) None h w = absurd h
reply_legible (Some reply) (Some out) h w = (reply_read reply out h w).legible

pub context_named : (context : Option Context) (out : Option Tree) → AreBoth IsWorkContext context out → IfSome out IsContext
context_named None None h = tt
context_named None (Some t) h = absurd h
context_named (Some context) None h = absurd h
context_named (Some context) (Some t) h = ap (λ (u : Tree). u.name) h.whole

trimmed_all : (text : Option (List ℕ)) → IfSome text IsClean → IfSome text IsTrimmed
trimmed_all text h = if_some IsClean IsTrimmed (λ t c. c.trimmed) text h

pub legible : (post : Post) (path : List ℕ) (target : Target) (out : OutgoingHeaders) → AreHeadersOf post out → CanArrive post
    → target_at (written_to post.to) path ≡ Some target → AreLegible out
legible post path target out h c n = record {
  to = to_legible post.to out.to path target h.to c.to n;
  action = subst IsTrimmed (sym h.action) (action_trimmed post.message).0;
  said = ap is_empty h.action ∙ (action_trimmed post.message).1;
  id = subst (λ o. IfSome o IsTrimmed) (sym h.id) (trimmed_all post.id c.id);
  relates = subst (λ o. IfSome o IsTrimmed) (sym h.relates) (trimmed_all post.relates c.relates);
  from = from_legible post.from out.from h.from c.from;
  reply = reply_legible post.reply out.reply h.reply c.reply;
  context = context_named (context_in post.message) out.context h.context;
}
