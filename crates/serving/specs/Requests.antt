-- What a line of an initiator asks, and what is printed of the answer.
use Rattle.std.specs.Prelude.{ℕ, List, ◌&&◌, Bool, true, false, not, if◌then◌else◌, Option, Some, None, codes}
use Rattle.at_base.specs.Numbers.{Numbers}
use Rattle.at_base.specs.declared.event.Local.{Local}
use Rattle.at_base.specs.declared.event.Local.TheVariants as locals
use Rattle.at_base.specs.declared.outs.Effect.{Effect}
use Rattle.at_model.specs.World.{nth}
use Rattle.completion_at.specs.Names.{refusal_of}
use Rattle.effect_words.specs.Words.{refusal_word}
use Rattle.node_at.specs.declared.local.Locally.TheVariants as locally
use Rattle.node_at.specs.declared.turn.Turned.TheVariants as turneds
use Rattle.schedules.specs.declared.initiator_line.InitiatorLine.{InitiatorLine}
use Rattle.schedules.specs.declared.initiator_line.InitiatorLine.TheVariants as lines
use Rattle.serving.specs.declared.request.Request.{Request}
use Rattle.serving.specs.declared.request.Request.TheVariants as requests
use Rattle.serving.specs.declared.answer.Answer.{Answer}
use Rattle.serving.specs.declared.answer.Answer.TheVariants as answers
use Rattle.serving.specs.declared.service_end.Ended.{Ended}
use Rattle.serving.specs.declared.service_end.Ended.TheVariants as endings
use Rattle.serving.specs.Lines.{effect_lines, refused_line}
use Rattle.serving.specs.Notes.{Item, Notes, is_unmet}

abbrev pub joined : Option (Option Numbers) → Option Numbers
joined None = None
joined (Some id) = id

-- Of the lines that make an activity each has a number, from 1 on; what it made has an id, unless it was refused.
abbrev pub activity_at : ℕ → List (Option Numbers) → Option Numbers
activity_at number made = joined (nth number made)

-- a request on an activity, or none where its own line was refused
abbrev pub of_activity : (Numbers → Local) → Option Numbers → Request
of_activity ask None = requests.Stale
of_activity ask (Some id) = requests.Local (ask id)

-- the commit of an activity of which a work was refused is refused, unless it is asked for anyway
abbrev pub commit_of : Bool → List (Option Numbers) → List ℕ → ℕ → Request
commit_of anyway made unmet activity = if not anyway && is_unmet activity unmet then requests.Stale else of_activity (λ id. locals.Commit id) (activity_at activity made)

abbrev pub line_request : List (Option Numbers) → List ℕ → InitiatorLine → Request
line_request made unmet (lines.Begin coordinator ms) = requests.Local (locals.Begin coordinator ms)
line_request made unmet (lines.Interpose activity coordinator) = of_activity (λ id. locals.Interpose id coordinator) (activity_at activity made)
line_request made unmet (lines.Work activity service kind vote key value) = of_activity (λ id. locals.Work id service kind vote key value) (activity_at activity made)
line_request made unmet (lines.Commit activity anyway) = commit_of anyway made unmet activity
line_request made unmet (lines.Rollback activity) = of_activity (λ id. locals.Rollback id) (activity_at activity made)
line_request made unmet lines.Wait = requests.Wait

-- a turn is asked for as a `wait` asks for one
abbrev pub item_request : List (Option Numbers) → List ℕ → Item → Request
item_request made unmet (Some line) = line_request made unmet line
item_request made unmet None = requests.Wait

abbrev pub request_of : Notes → Item → Request
request_of notes item = item_request notes.made notes.unmet item

-- What is printed: why a request was refused, or what it or a turn brought about.
abbrev pub printed : Answer → List Effect → List ℕ
printed (answers.Local (locally.Refused why)) es = refused_line (refusal_word (refusal_of why))
printed (answers.Local (locally.Done id)) es = effect_lines es
printed (answers.Local locally.NoRoom) es = effect_lines es
printed (answers.Local locally.Halted) es = effect_lines es
printed answers.Stale es = refused_line (codes "state")
printed (answers.Turn turned) es = effect_lines es

-- how it ends where all was done: whether no line was refused, and each activity that ended was committed
abbrev pub done_by : Bool → Ended
done_by true = endings.Done
done_by false = endings.Unmet

-- Whether serving ends behind that, and how. For a step of a turn there may be no memory: then its peer asks again.
abbrev pub ended_by : Bool → Answer → Option Ended
ended_by met (answers.Local (locally.Done id)) = None
ended_by met (answers.Local (locally.Refused why)) = None
ended_by met (answers.Local locally.NoRoom) = Some endings.NoMemory
ended_by met (answers.Local locally.Halted) = Some endings.Halted
ended_by met answers.Stale = None
ended_by met (answers.Turn (turneds.Served status)) = None
ended_by met (answers.Turn turneds.Ticked) = None
ended_by met (answers.Turn turneds.NoRoom) = None
ended_by met (answers.Turn turneds.Closed) = Some (done_by met)
ended_by met (answers.Turn turneds.Halted) = Some endings.Halted
ended_by met (answers.Turn turneds.LinkDown) = Some endings.ListenerFailed
