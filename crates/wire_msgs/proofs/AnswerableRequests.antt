-- A request that is let through can be answered.
use Rattle.std.proofs.Common.{◌≡◌, refl, ap, ◌∙◌, ℕ, List, Bool, true, false, cond, ◌&&◌, ◌||◌, not, Result, Ok}
use Rattle.std.specs.Prelude.{codes, is_some}
use Rattle.std.specs.Str.{bytes_eq}
use Rattle.xml_profile.specs.declared.name.QName.{QName}
use Rattle.xml_profile.specs.Prefixes.{soap}
use Rattle.soap_profile.specs.Values.{is_named}
use Rattle.addressing.specs.declared.headers.AddressingRefusal.{AddressingRefusal}
use Rattle.addressing.specs.declared.headers.Header.TheVariants.{MessageId, ReplyTo, FaultTo, CoordinationContext}
use Rattle.addressing.specs.Message.{Headers}
use Rattle.addressing.specs.Requests.{answerable_of, create_action, is_answerable, register_action, request_of, required, valid, work_action}
use Rattle.endpoints.specs.declared.form.Form.{Form}
use Rattle.endpoints.specs.declared.form.Form.TheVariants as forms
use Rattle.wire_msgs.specs.Forms.{action_of}
use Rattle.addressing.specs.Headers.{◌>>=◌}

pub record Answerable (headers : Headers) : Type 0 where
  pub id : is_some headers.id ≡ true
  pub reply : is_answerable headers.reply ≡ true
  pub fault : is_answerable headers.fault ≡ true

abbrev steps : Bool → Bool → Bool → Bool → Result (Unit {0}) AddressingRefusal
steps a b c d = do
  id ← required MessageId a
  reply ← valid ReplyTo b
  fault ← valid FaultTo c
  required CoordinationContext d

step_id : (a b c d : Bool) → steps a b c d ≡ Ok tt → a ≡ true
step_id true b c d e = refl
step_id false b c d e = absurd cc

step_reply : (a b c d : Bool) → steps a b c d ≡ Ok tt → b ≡ true
step_reply true true c d e = refl
step_reply true false c d e = absurd cc
step_reply false b c d e = absurd cc

step_fault : (a b c d : Bool) → steps a b c d ≡ Ok tt → c ≡ true
step_fault true true true d e = refl
step_fault true true false d e = absurd cc
step_fault true false c d e = absurd cc
step_fault false b c d e = absurd cc

answerable : (headers : Headers) → answerable_of headers ≡ Ok tt → Answerable headers
answerable headers e =
    let d : Bool = not (bytes_eq headers.action work_action) || is_some headers.context in
    record {
      id = step_id (is_some headers.id) (is_answerable headers.reply) (is_answerable headers.fault) d e;
      reply = step_reply (is_some headers.id) (is_answerable headers.reply) (is_answerable headers.fault) d e;
      fault = step_fault (is_some headers.id) (is_answerable headers.reply) (is_answerable headers.fault) d e;
    }

abbrev asks : List ℕ → Bool
asks action = bytes_eq action create_action || (bytes_eq action register_action || bytes_eq action work_action)

let_through : (fault asking : Bool) (answer : Result (Unit {0}) AddressingRefusal) → fault ≡ false → asking ≡ true
    → cond (not fault && asking) answer (Ok tt) ≡ Ok tt → answer ≡ Ok tt
let_through true asking answer f a e = absurd cc
let_through false true answer f a e = e
let_through false false answer f a e = absurd cc

-- the forms that ask
abbrev pub IsAsking : Form → Type 0
IsAsking form = asks (action_of form) ≡ true

pub asked_well : (headers : Headers) (body : QName) (form : Form) → IsAsking form → headers.action ≡ action_of form → is_named body soap (codes "Fault") ≡ false
    → request_of headers body ≡ Ok tt → Answerable headers
asked_well headers body form asking e f r =
    answerable headers (let_through (is_named body soap (codes "Fault")) (asks headers.action) (answerable_of headers) f (ap asks e ∙ asking) r)

pub create_asks : IsAsking forms.Create
create_asks = refl

pub register_asks : IsAsking forms.Register
register_asks = refl

pub work_asks : IsAsking forms.Work
work_asks = refl
