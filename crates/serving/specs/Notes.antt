-- What a session notes of the lines that it did, and what becomes of a line that isn't through.
use Rattle.std.specs.Prelude.{ℕ, List, [], ◌∷◌, ◌++◌, ◌+◌, ◌-◌, ◌^◌, ◌==◌, ◌&&◌, ◌||◌, Bool, true, false, not, nat_eq, nat_le, if◌then◌else◌, Option, Some, None}
use Rattle.std.specs.List.{list_all, list_any}
use Rattle.at_base.specs.Numbers.{Numbers}
use Rattle.at_base.specs.declared.outs.Effect.{Effect}
use Rattle.at_base.specs.declared.outs.Effect.TheVariants as effects
use Rattle.at_base.specs.declared.outs.Told.{Told}
use Rattle.at_base.specs.declared.outs.Told.TheVariants as tellings
use Rattle.node_at.specs.declared.local.Locally.TheVariants as locally
use Rattle.node_at.specs.declared.turn.Turned.TheVariants as turneds
use Rattle.schedules.specs.declared.initiator_line.InitiatorLine.{InitiatorLine}
use Rattle.schedules.specs.declared.initiator_line.InitiatorLine.TheVariants as lines
use Rattle.serving.specs.declared.answer.Answer.{Answer}
use Rattle.serving.specs.declared.answer.Answer.TheVariants as answers

-- a line, or a turn where there is none
abbrev pub Item : Type 0
Item = Option InitiatorLine

pub record Notes : Type 0 where
  -- of each line that makes an activity its id, unless the line was refused
  pub made : List (Option Numbers)
  -- the activities of which a work was refused, by their numbers
  pub unmet : List ℕ
  -- whether no line was refused, and each activity that ended was committed
  pub met : Bool
  -- how many connections the `wait` that isn't through has served
  pub waited : ℕ

abbrev pub no_notes : Notes
no_notes = record { made = []; unmet = []; met = true; waited = 0 }

-- the id of the activity that was made
abbrev pub made_by : Answer → Option Numbers
made_by (answers.Local (locally.Done id)) = Some id
made_by other = None

-- what a line adds to the activities
abbrev pub adds : Item → Answer → List (Option Numbers)
adds (Some (lines.Begin coordinator ms)) answer = made_by answer ∷ []
adds (Some (lines.Interpose activity coordinator)) answer = made_by answer ∷ []
adds other answer = []

abbrev pub is_refused : Answer → Bool
is_refused (answers.Local (locally.Refused why)) = true
is_refused answers.Stale = true
is_refused other = false

-- what it adds to those of which a work was refused
abbrev pub lacking : ℕ → Answer → List ℕ
lacking activity answer = if is_refused answer then activity ∷ [] else []

abbrev pub lacks : Item → Answer → List ℕ
lacks (Some (lines.Work activity service kind vote key value)) answer = lacking activity answer
lacks other answer = []

-- whether a work of this activity was refused
abbrev pub is_unmet : ℕ → List ℕ → Bool
is_unmet activity unmet = list_any (nat_eq activity) unmet

abbrev pub is_committed : Told → Bool
is_committed tellings.Committed = true
is_committed other = false

-- an activity that ended was committed
abbrev pub is_met : Effect → Bool
is_met (effects.Told id what) = is_committed what
is_met other = true

abbrev pub meets : Answer → List Effect → Bool
meets answer es = not (is_refused answer) && list_all is_met es

-- The turn took a message: its answer is 202 Accepted (SOAP 1.1, section 6.2; RFC 9110, section 15.3.3), and it was no tick.
abbrev pub brings : Answer → Bool
brings (answers.Turn (turneds.Served status)) = status == 202
brings other = false

-- A `wait` that has served so many connections is through: one more brought a message, or there were 2^64 - 1.
abbrev pub is_through : ℕ → Answer → Bool
is_through waited answer = brings answer || nat_le (2 ^ 64 - 1) (waited + 1)

-- how many connections a `wait` has served that isn't through
abbrev pub waited_behind : ℕ → Item → Answer → ℕ
waited_behind waited (Some lines.Wait) answer = if is_through waited answer then 0 else waited + 1
waited_behind waited other answer = 0

abbrev pub noted : Notes → Item → Answer → List Effect → Notes
noted notes item answer es = record {
  made = notes.made ++ adds item answer;
  unmet = notes.unmet ++ lacks item answer;
  met = notes.met && meets answer es;
  waited = waited_behind notes.waited item answer;
}

-- what is left where the first item was begun: all of it while that isn't through
abbrev pub left : Notes → Item → List Item → List Item
left notes item rest = if notes.waited == 0 then rest else item ∷ rest
