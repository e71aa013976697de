-- Actions, case by case.
use Rattle.std.proofs.Common.{◌≡◌, ℕ, List, [], ◌∷◌, Bool, true, false, Option, Some, None, IfSome, cond, refl, ap, ◌∙◌, subst, sym}
use Rattle.std.specs.Prelude.{◌≢◌}
use Rattle.std.specs.List.{find}
use Rattle.std.specs.Str.{bytes_eq}
use Rattle.std.proofs.lemmas.Slice.Eq.{bytes_eq-Decides}
use Rattle.at_base.specs.declared.notice.Notice.TheVariants as notices
use Rattle.endpoints.specs.declared.form.Form.{Form}
use Rattle.endpoints.specs.declared.form.Form.TheVariants as forms
use Rattle.wire_msgs.specs.Forms.{action_of, every_form, form_at}

pub actions_differ : (form : Form) → form_at (action_of form) ≡ Some form
actions_differ forms.Create = refl
actions_differ (forms.Notice notices.Prepare) = refl
actions_differ form = refl

first_is : (p : Form → Bool) (form : Form) (b : Bool) (rest : Option Form) → p form ≡ b → IfSome rest (λ found. p found ≡ true)
    → IfSome (cond b (Some form) rest) (λ found. p found ≡ true)
first_is p form true rest e h = e
first_is p form false rest e h = h

found_fits : (p : Form → Bool) (these : List Form) → IfSome (find p these) (λ found. p found ≡ true)
found_fits p [] = tt
found_fits p (form ∷ these) = first_is p form (p form) (find p these) refl (found_fits p these)

named_by : (action : List ℕ) (found : Option Form) → IfSome found (λ form. bytes_eq action (action_of form) ≡ true)
    → IfSome found (λ form. action ≡ action_of form)
named_by action None h = tt
named_by action (Some form) h = (bytes_eq-Decides action (action_of form)).0 h

pub is_named : (action : List ℕ) (r : Option Form) → r ≡ form_at action → IfSome r (λ form. action ≡ action_of form)
is_named action r e =
    named_by action r (subst (λ o. IfSome o (λ form. bytes_eq action (action_of form) ≡ true)) (sym e)
    (found_fits (λ form. bytes_eq action (action_of form)) every_form))

pub is_found : (action : List ℕ) (r : Option Form) (form : Form) → r ≡ form_at action → action ≡ action_of form → r ≡ Some form
is_found action r form e f = e ∙ ap form_at f ∙ actions_differ form

passed : (action : List ℕ) (form : Form) (b : Bool) (r rest : Option Form) → bytes_eq action (action_of form) ≡ b
    → action ≢ action_of form → r ≡ rest → r ≡ cond b (Some form) rest
passed action form true r rest e n h = absurd (n ((bytes_eq-Decides action (action_of form)).0 e))
passed action form false r rest e n h = h

-- an action that isn't the first one's is looked up among the others
pub passes : (action : List ℕ) (form : Form) (r others : Option Form) → action ≢ action_of form → r ≡ others
    → r ≡ cond (bytes_eq action (action_of form)) (Some form) others
passes action form r others n h = passed action form (bytes_eq action (action_of form)) r others refl n h
