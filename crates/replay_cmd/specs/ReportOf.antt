-- What is printed of the events of a schedule, and of how its world ended.
use Rattle.std.specs.Prelude.{ℕ, List, [], ◌∷◌, ◌++◌, Option, Some, None, Bool, true, false, ◌&&◌, ◌+◌, ◌-◌, length, min, take, drop, filter, option_and_then, replicate, slice_get, codes}
use Rattle.at_base.specs.declared.event.Local.{Local}
use Rattle.at_base.specs.declared.notice.Kind.TheVariants as kinds
use Rattle.at_base.specs.declared.outs.Effect.{Effect}
use Rattle.at_base.specs.declared.outs.Effect.TheVariants as effects
use Rattle.at_base.specs.declared.outs.Ending.{Ending}
use Rattle.at_base.specs.declared.outs.Ending.TheVariants as endings
use Rattle.at_base.specs.Names.{is_kind}
use Rattle.at_model.specs.Activities.{Refusal}
use Rattle.at_model.specs.Book.{Book}
use Rattle.at_model.specs.Step.{refuses}
use Rattle.at_model.specs.Views.{line_of}
use Rattle.at_model.specs.World.{World, WorldEvent, Posted, Happened, Turn, Ask, Crash, Up, Deliver, Tick, Raw}
use Rattle.schedules.specs.declared.line.Line.{Line}
use Rattle.schedules.specs.declared.line.Line.TheVariants as lines
use Rattle.world_laws.specs.Runs.{clock_at, book_at, incarnation_at}
use Rattle.fated_walks.specs.Statuses.{status_in}
use Rattle.world_laws.specs.declared.posts.Counted.{Counted}
use Rattle.replay_cmd.specs.declared.event_lines.Behind.{Behind}
use Rattle.replay_cmd.specs.declared.event_lines.Behind.TheVariants as behinds
use Rattle.armed_calls.specs.declared.fault.Armed.{Armed}
use Rattle.armed_calls.specs.declared.fault.Fault.{Fault}
use Rattle.armed_calls.specs.declared.fault.Fault.TheVariants as faults
use Rattle.replay_cmd.specs.declared.lines.Outcome.{Outcome}
use Rattle.replay_cmd.specs.declared.lines.Outcome.TheVariants as outcomes
use Rattle.replay_cmd.specs.declared.lines.Started.{Started}
use Rattle.replay_cmd.specs.declared.lines.Started.TheVariants as starts
use Rattle.effect_words.specs.Words.{refusal_word}
use Rattle.replay_cmd.specs.Lines.{up_line, up_already_line, down_line, deliver_line, tick_line, inject_line, refused_line, effect_line, message_line, end_line, summary_line}

-- How a turn ended that a fault took down.
abbrev pub cut_by : Option Fault → Outcome
cut_by None = outcomes.Down
cut_by (Some faults.Fail) = outcomes.Halted
cut_by (Some (faults.Stop left)) = outcomes.Stopped

-- How a turn that answers this came out at a node that was up in this incarnation before, and is up in that one behind it; a
-- node that is down takes no turn.
abbrev pub outcome_of : Option Fault → Option ℕ → Option ℕ → ℕ → Outcome
outcome_of f None behind status = outcomes.Down
outcome_of f (Some was) None status = cut_by f
outcome_of f (Some was) (Some is) status = outcomes.Answered status

-- How a start ended at which a fault came.
abbrev pub start_cut_by : Option Fault → Started
start_cut_by None = starts.Failed
start_cut_by (Some faults.Fail) = starts.Failed
start_cut_by (Some (faults.Stop left)) = starts.Stopped

-- How a start came out at which a fault came or none.
abbrev pub started_by : Option Fault → Bool → Option ℕ → Started
started_by f true behind = start_cut_by f
started_by f false None = starts.Failed
started_by f false (Some incarnation) = starts.Up incarnation

abbrev pub or_zero : Option ℕ → ℕ
or_zero None = 0
or_zero (Some n) = n

-- Nothing is printed of a request that is taken, beside its effects and posts.
abbrev pub unless_taken : Option Refusal → List ℕ
unless_taken None = []
unless_taken (Some refusal) = refused_line (refusal_word refusal)

abbrev pub request_result : Local → Option Book → List ℕ
request_result l None = refused_line (codes "down")
request_result l (Some b) = unless_taken (refuses b l)

-- A node that is up stays as it is; any other comes up in a new incarnation, or doesn't.
abbrev pub start_result : Started → ℕ → Option ℕ → List ℕ
start_result started n None = up_line n started
start_result started n (Some before) = up_already_line n

abbrev pub up_result : Option Fault → Bool → ℕ → Option ℕ → Option ℕ → List ℕ
up_result f cut n before behind = start_result (started_by f cut behind) n before

-- The line of an event's result, from the world before it and the one behind it, from the fault that it may have met, and from
-- the status that raw bytes draw, of which the world knows nothing.
abbrev pub result_line : Option Fault → ℕ → WorldEvent → World → World → List Counted → List ℕ
result_line f s (Up n landed stop) before behind steps = up_result f stop n (incarnation_at before n) (incarnation_at behind n)
result_line f s (Crash n) before behind steps = down_line n (incarnation_at before n)
result_line f s (Turn n (Deliver k) fates until) before behind steps =
    deliver_line k n (outcome_of f (incarnation_at before n) (incarnation_at behind n) (status_in steps))
result_line f s (Turn n (Tick ms) fates until) before behind steps =
    tick_line n (or_zero (clock_at behind n)) (outcome_of f (incarnation_at before n) (incarnation_at behind n) (status_in steps))
result_line f s (Turn n Raw fates until) before behind steps =
    inject_line n (outcome_of f (incarnation_at before n) (incarnation_at behind n) s)
result_line f s (Ask n l fates until) before behind steps = request_result l (book_at before n)

-- The same in two parts: what is seen before the event, and what is seen behind it.
abbrev pub line_before : WorldEvent → World → List ℕ
line_before (Ask n l fates until) before = request_result l (book_at before n)
line_before (Crash n) before = down_line n (incarnation_at before n)
line_before other before = []

abbrev pub behind_of : World → WorldEvent → Behind
behind_of before (Up n landed stop) = behinds.Up (incarnation_at before n) stop
behind_of before (Turn n (Tick ms) fates until) = behinds.Tick (incarnation_at before n)
behind_of before (Turn n (Deliver k) fates until) = behinds.Deliver k (incarnation_at before n)
behind_of before (Turn n Raw fates until) = behinds.Inject (incarnation_at before n)
behind_of before other = behinds.Nothing

abbrev pub line_behind : Option Fault → ℕ → ℕ → Behind → World → List Counted → List ℕ
line_behind f s n (behinds.Up was stop) behind steps = up_result f stop n was (incarnation_at behind n)
line_behind f s n (behinds.Tick was) behind steps =
    tick_line n (or_zero (clock_at behind n)) (outcome_of f was (incarnation_at behind n) (status_in steps))
line_behind f s n (behinds.Deliver k was) behind steps =
    deliver_line k n (outcome_of f was (incarnation_at behind n) (status_in steps))
line_behind f s n (behinds.Inject was) behind steps = inject_line n (outcome_of f was (incarnation_at behind n) s)
line_behind f s n behinds.Nothing behind steps = []

-- The lines of a step's effects.
abbrev pub effect_lines : ℕ → List Effect → List ℕ
effect_lines n [] = []
effect_lines n (e ∷ es) = effect_line n e ++ effect_lines n es

-- The lines of these messages, numbered from this one on.
abbrev pub message_lines : ℕ → List Posted → List ℕ
message_lines k [] = []
message_lines k (p ∷ rest) = message_line k (line_of p) ++ message_lines (k + 1) rest

-- how many of these messages a step posted
abbrev pub own_count : Counted → List Posted → ℕ
own_count o messages = min o.posts (length messages)

-- Of each step its effects, and then its posts, which are the next of these messages.
abbrev pub step_lines : ℕ → ℕ → List Posted → List Counted → List ℕ
step_lines n k messages [] = []
step_lines n k messages (o ∷ rest) =
    effect_lines n o.effects
    ++ (message_lines k (take (own_count o messages) messages)
    ++ step_lines n (k + own_count o messages) (drop (own_count o messages) messages) rest)

-- there are at most 8 nodes
abbrev pub nobody_armed : List (Option Armed)
nobody_armed = replicate 8 None

abbrev pub armed_at : ℕ → List (Option Armed) → Option Armed
armed_at n armed = option_and_then (λ a. a) (slice_get armed (n - 1))

abbrev pub receiver_in : Posted → Option ℕ
receiver_in p = p.receiver

abbrev pub is_ending : Ending → Ending → Bool
is_ending endings.Committed endings.Committed = true
is_ending endings.Aborted endings.Aborted = true
is_ending endings.Lost endings.Lost = true
is_ending a b = false

-- a subordinate or a durable leaf ended so
abbrev pub ends_so : Ending → Effect → Bool
ends_so how (effects.Sub id what) = is_ending how what
ends_so how (effects.Leaf id kind what) = is_kind kind kinds.Durable && is_ending how what
ends_so how other = false

abbrev pub ended_so : Ending → List Happened → ℕ
ended_so how all = length (filter (λ h. ends_so how h.what) all)

abbrev pub ended : World → List ℕ
ended w =
    end_line (length w.posted)
    (ended_so endings.Committed w.happened)
    (ended_so endings.Aborted w.happened)
    (ended_so endings.Lost w.happened)

-- the same of a world of so many lines that were made of a seed
abbrev pub summed : ℕ → World → List ℕ
summed steps w =
    summary_line steps (length w.posted)
    (ended_so endings.Committed w.happened)
    (ended_so endings.Aborted w.happened)
    (ended_so endings.Lost w.happened)

-- how many nodes the first line names
abbrev pub nodes_of : List Line → ℕ
nodes_of [] = 0
nodes_of (lines.Nodes count ∷ rest) = count
nodes_of (line ∷ rest) = 0
