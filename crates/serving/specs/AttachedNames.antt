-- By which names the machine of a node that serves is attached.
use Rattle.std.specs.Prelude.{List, ℕ, [], ◌∷◌, ◌++◌, ◌≡◌, ◌⊎◌, Option, Some}
use Rattle.serving.specs.declared.service_end.Ended.{Ended}
use Rattle.serving.specs.Runs.{Course, Serviced, attach_ended}
use Rattle.site_model.specs.Attachments.{Names}
use Rattle.site_model.specs.Told.{Told}
use Rattle.site_model.specs.declared.site.AttachFailed.{AttachFailed}

abbrev pub names_of : Serviced → Names
names_of v = record { journal = v.journal; listen = v.listen }

-- by these names and no others, once; or not, where files or listener couldn't be opened
abbrev pub AttachesItsNames : {S : Type 0} → (S → Told) → Type 0
AttachesItsNames {S} told =
    (v : Serviced) (old new : S) (text : List ℕ) (ended : Option Ended) → Course told v old new text ended
    → ((why : AttachFailed) × (ended ≡ Some (attach_ended why)) × ((told new).counts.attached ≡ (told old).counts.attached))
    ⊎ ((told new).counts.attached ≡ (told old).counts.attached ++ names_of v ∷ [])
