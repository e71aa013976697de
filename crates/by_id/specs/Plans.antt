-- What is done to a list: what becomes of one item, or one item more; and what is sent and happened.
use Rattle.std.specs.Prelude.{List, [], ◌++◌, Option, Some, None, Bool, true, false, not, if◌then◌else◌, map}
use Rattle.at_base.specs.Numbers.{Numbers}
use Rattle.at_base.specs.declared.record.Record.{Record}
use Rattle.at_base.specs.declared.outs.Out.{Out}
use Rattle.at_base.specs.declared.outs.Out.TheVariants as outs
use Rattle.by_id.specs.Lists.{is_addition}
use Rattle.by_id.specs.declared.fates.Choice.{Choice}
use Rattle.by_id.specs.declared.fates.Choice.TheVariants as choices
use Rattle.by_id.specs.declared.fates.Fate.{Fate}
use Rattle.by_id.specs.declared.fates.Fate.TheVariants as fates
use Rattle.by_id.specs.declared.fates.Turn.{Turn}
use Rattle.by_id.specs.declared.list.Alteration.{Alteration}
use Rattle.by_id.specs.declared.list.Alteration.TheVariants as alterations
use Rattle.by_id.specs.declared.plan.Branch.{Branch}
use Rattle.by_id.specs.declared.plan.Plan.{Plan}
use Rattle.by_id.specs.declared.plan.Plan.TheVariants as plans

abbrev pub entry_of : {A M : Type 0} → Plan A M → Option Record
entry_of (plans.Plain branch) = None
entry_of (plans.Recorded entry landed absent undone) = Some entry

abbrev pub branch_of : {A M : Type 0} → Plan A M → Bool → Branch A M
branch_of (plans.Plain branch) landed = branch
branch_of (plans.Recorded entry stands absent undone) landed = if landed then stands else absent

-- A step notes the time, but for one that is undone.
abbrev pub notes_time : {A M : Type 0} → Plan A M → Bool → Bool
notes_time (plans.Plain branch) landed = true
notes_time (plans.Recorded entry stands absent undone) landed = if landed then true else not undone

-- an item that is made draws an id
abbrev pub draws : {A M : Type 0} → Plan A M → Bool → Bool
draws p landed = is_addition (branch_of p landed).change

-- this answer is sent, and nothing else is done
abbrev pub unchanged : {A M : Type 0} → List Out → Branch A M
unchanged answer = record { change = alterations.Keep; outs = record { outs = answer; effects = [] } }

-- one item more
abbrev pub added : {A M : Type 0} → A → List Out → Branch A M
added item answer = record { change = alterations.Add item; outs = record { outs = answer; effects = [] } }

-- only this is sent
abbrev pub still : {A M : Type 0} → List Out → Plan A M
still answer = plans.Plain (unchanged answer)

-- an item is made, and this is sent
abbrev pub making : {A M : Type 0} → A → List Out → Plan A M
making item answer = plans.Plain (added item answer)

-- What is made, or nothing, and what is sent.
abbrev pub made : {A M : Type 0} → Option A → List Out → Plan A M
made None answer = still answer
made (Some item) answer = making item answer

-- What becomes of the list: an item that is kept changes nothing.
abbrev pub alteration_of : {A M : Type 0} → Numbers → Fate A M → Alteration A M
alteration_of id fates.Keep = alterations.Keep
alteration_of id fates.Forget = alterations.Put id None
alteration_of id (fates.Put item) = alterations.Put id (Some item)
alteration_of id (fates.Move by) = alterations.Move id by

-- What is done to the item of this id, behind this answer.
abbrev pub turned : {A M : Type 0} → List Out → Numbers → Turn A M → Branch A M
turned answer id t = record {
  change = alteration_of id t.fate;
  outs = record { outs = answer ++ map outs.Post t.posts; effects = t.effects };
}

abbrev pub chosen : {A M : Type 0} → List Out → Numbers → Choice A M → Plan A M
chosen answer id (choices.Goes t) = plans.Plain (turned answer id t)
chosen answer id (choices.Records entry stands (Some absent)) = plans.Recorded entry (turned answer id stands) (turned answer id absent) false
chosen answer id (choices.Records entry stands None) = plans.Recorded entry (turned answer id stands) (unchanged answer) true
