-- The model's names of what the code keeps of an activity.
use Rattle.at_model.specs.Book.{Progress}
use Rattle.at_model.specs.Activities.{Refusal, Stale, Full, Spent}
use Rattle.completion_at.specs.declared.activity.Progress.{Progress as Kept}
use Rattle.completion_at.specs.declared.activity.Progress.TheVariants as progresses
use Rattle.completion_at.specs.declared.requests.Refusal.{Refusal as Given}
use Rattle.completion_at.specs.declared.requests.Refusal.TheVariants as refusals

-- how far an activity has come
abbrev pub progress_of : Kept → Progress
progress_of progresses.Creating = Progress.Creating
progress_of progresses.Registering = Progress.Registering
progress_of progresses.Active = Progress.Active
progress_of (progresses.Completing n) = Progress.Completing n

-- why a request is refused
abbrev pub refusal_of : Given → Refusal
refusal_of refusals.Stale = Stale
refusal_of refusals.Full = Full
refusal_of refusals.Spent = Spent
