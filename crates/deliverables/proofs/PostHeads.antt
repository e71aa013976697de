-- How long a post is, and what its action is made of.
use Rattle.std.proofs.Common.{◌≡◌, ℕ, ◌+◌, Bool, true, ◌&&◌, List, ◌++◌, length, Option, Some, None, refl, arith, length-append}
use Rattle.std.specs.Prelude.{codes, decimal, nat_le}
use Rattle.std.specs.List.{list_all}
use Rattle.httparse.specs.Grammar.{is_value_byte}
use Rattle.addressing.specs.declared.post_to.PostTo.{PostTo}
use Rattle.at_base.specs.Names.{fault_named}
use Rattle.at_base.specs.declared.fault.Fault.{Fault}
use Rattle.at_base.specs.declared.fault.Fault.TheVariants as faults
use Rattle.at_base.specs.declared.message.Message.{Message}
use Rattle.at_base.specs.declared.message.Message.TheVariants as messages
use Rattle.at_base.specs.declared.notice.Notice.TheVariants as notices
use Rattle.http_post.specs.OutBytes.{action_field, authority, field, head_end, line, post_of, request_line, type_field}
use Rattle.wire_posts.specs.Envelopes.{action_in}
use Rattle.wire_posts.specs.Faults.{fault_action, protocol_or}

-- its bytes can stand in a field, and they are few
abbrev pub is_fine : List ℕ → Bool
is_fine action = list_all is_value_byte action && nat_le (length action) 128

fault_fine : (fault : Option Fault) → is_fine (fault_action (protocol_or fault)) ≡ true
fault_fine None = refl
fault_fine (Some faults.InvalidState) = refl
fault_fine (Some faults.InvalidProtocol) = refl
fault_fine (Some faults.InvalidParameters) = refl
fault_fine (Some faults.CannotCreateContext) = refl
fault_fine (Some faults.CannotRegisterParticipant) = refl
fault_fine (Some faults.UnknownTransaction) = refl

pub action_fine : (message : Message) → is_fine (action_in message) ≡ true
action_fine (messages.Create body) = refl
action_fine (messages.CreateResponse context) = refl
action_fine (messages.Register body) = refl
action_fine (messages.RegisterResponse coordinator) = refl
action_fine (messages.Notice notices.Prepare) = refl
action_fine (messages.Notice notices.Commit) = refl
action_fine (messages.Notice notices.Rollback) = refl
action_fine (messages.Notice notices.Prepared) = refl
action_fine (messages.Notice notices.ReadOnly) = refl
action_fine (messages.Notice notices.Aborted) = refl
action_fine (messages.Notice notices.Committed) = refl
action_fine (messages.Work body) = refl
action_fine messages.WorkDone = refl
action_fine messages.WorkRefused = refl
action_fine (messages.Fault name) = fault_fine (fault_named name)

-- lengths

field_length : (name value : List ℕ) → length (field name value) ≡ length name + length value + 4
unfolding line field
field_length name value =
    omega (arith, length-append (name ++ codes ": " ++ value) (codes "\r\n"), length-append (name ++ codes ": ") value, length-append name (codes ": "))

request_length : (path : List ℕ) → length (request_line path) ≡ length path + 16
unfolding line request_line
request_length path =
    omega (arith, length-append (codes "POST " ++ path ++ codes " HTTP/1.1") (codes "\r\n"), length-append (codes "POST " ++ path) (codes " HTTP/1.1"), length-append (codes "POST ") path)

type_length : length type_field ≡ 39
unfolding line field type_field
type_length = refl

action_length : (action : List ℕ) → length (action_field action) ≡ length action + 16
unfolding action_field
action_length action =
    omega (arith, field_length (codes "SOAPAction") (codes "\"" ++ action ++ codes "\""), length-append (codes "\"" ++ action) (codes "\""))

end_length : (count : ℕ) → length (head_end count) ≡ length (decimal count) + 39
unfolding line head_end
end_length count =
    omega (arith, length-append (field (codes "Content-Length") (decimal count) ++ field (codes "Connection") (codes "close")) (codes "\r\n"), length-append (field (codes "Content-Length") (decimal count)) (field (codes "Connection") (codes "close")), field_length (codes "Content-Length") (decimal count), field_length (codes "Connection") (codes "close"))

parts : (a b c d e body : List ℕ) → length (a ++ b ++ c ++ d ++ e ++ body) ≡ length a + length b + length c + length d + length e + length body
parts a b c d e body =
    omega (arith, length-append (a ++ b ++ c ++ d ++ e) body, length-append (a ++ b ++ c ++ d) e, length-append (a ++ b ++ c) d, length-append (a ++ b) c, length-append a b)

pub post_length : (to : PostTo) (action body : List ℕ)
    → length (post_of to action body) ≡ length to.path + length (authority to) + length action + length (decimal (length body)) + 118 + length body
post_length to action body =
    omega (
      arith,
      parts (request_line to.path) (field (codes "Host") (authority to)) type_field (action_field action) (head_end (length body)) body,
      request_length to.path,
      field_length (codes "Host") (authority to),
      type_length,
      action_length action,
      end_length (length body),
    )
