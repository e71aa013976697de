-- The names and the action of each message (WS-Coordination 1.2, section 3; WS-AtomicTransaction 1.2, section 3).
use Rattle.std.specs.Prelude.{ℕ, List, [], ◌∷◌, ◌++◌, Option, Some, None, codes, ◌≡◌, refl}
use Rattle.std.specs.List.{find}
use Rattle.std.specs.Str.{bytes_eq}
use Rattle.xml_profile.specs.Prefixes.{coordination, transaction, work}
use Rattle.at_base.specs.Names.{notice_name}
use Rattle.at_base.specs.declared.notice.Notice.TheVariants as notices
use Rattle.endpoints.specs.Addresses.{slash}
use Rattle.endpoints.specs.declared.form.Form.{Form}
use Rattle.endpoints.specs.declared.form.Form.TheVariants as forms

-- the namespace of the element in the body
abbrev pub space_of : Form → List ℕ
space_of forms.Create = coordination
space_of forms.CreateResponse = coordination
space_of forms.Register = coordination
space_of forms.RegisterResponse = coordination
space_of (forms.Notice notice) = transaction
space_of forms.Work = work
space_of forms.WorkDone = work
space_of forms.WorkRefused = work

-- its local name
abbrev pub local_of : Form → List ℕ
local_of forms.Create = codes "CreateCoordinationContext"
local_of forms.CreateResponse = codes "CreateCoordinationContextResponse"
local_of forms.Register = codes "Register"
local_of forms.RegisterResponse = codes "RegisterResponse"
local_of (forms.Notice notice) = notice_name notice
local_of forms.Work = codes "Work"
local_of forms.WorkDone = codes "WorkDone"
local_of forms.WorkRefused = codes "WorkRefused"

-- the action: the namespace, `/`, and the local name (WS-Coordination 1.2 and WS-AtomicTransaction 1.2, section 1.3)
abbrev pub action_of : Form → List ℕ
action_of form = space_of form ++ slash ∷ local_of form

abbrev pub every_notice : List Form
every_notice =
    forms.Notice notices.Prepare ∷ forms.Notice notices.Commit ∷ forms.Notice notices.Rollback ∷ forms.Notice notices.Prepared
    ∷ forms.Notice notices.ReadOnly ∷ forms.Notice notices.Aborted ∷ forms.Notice notices.Committed ∷ []

abbrev pub every_form : List Form
every_form =
    forms.Create ∷ forms.CreateResponse ∷ forms.Register ∷ forms.RegisterResponse ∷ forms.Work ∷ forms.WorkDone
    ∷ forms.WorkRefused ∷ every_notice

-- the first of these that has the action
abbrev pub first_at : List ℕ → List Form → Option Form
first_at action these = find (λ form. bytes_eq action (action_of form)) these

-- the message that an action names
abbrev pub form_at : List ℕ → Option Form
form_at action = first_at action every_form

-- no two messages have one action
abbrev pub ActionsDiffer : Type 0
ActionsDiffer = (form : Form) → form_at (action_of form) ≡ Some form

pub of_prepare : form_at (codes "http://docs.oasis-open.org/ws-tx/wsat/2006/06/Prepare") ≡ Some (forms.Notice notices.Prepare)
of_prepare = refl

pub of_register : form_at (codes "http://docs.oasis-open.org/ws-tx/wscoor/2006/06/Register") ≡ Some forms.Register
of_register = refl

pub in_another_namespace : form_at (codes "http://docs.oasis-open.org/ws-tx/wsat/2006/06/Register") ≡ None
in_another_namespace = refl
