-- How a node goes through an event: its book, the records of its journal, the fates of its site's calls, and what each
-- step that counted gave.
use Rattle.std.specs.Prelude.{ℕ, List, [], ◌∷◌, ◌++◌, Option, Some, None, Bool, true, false, if◌then◌else◌}
use Rattle.at_base.specs.declared.record.Record.{Record}
use Rattle.at_base.specs.declared.outs.Out.{Out}
use Rattle.at_base.specs.declared.outs.Out.TheVariants as outs
use Rattle.at_base.specs.declared.outs.Outs.{Outs}
use Rattle.at_model.specs.Book.{Book}
use Rattle.at_model.specs.Step.{Outcome, Plan, items_of}
use Rattle.at_model.specs.World.{fate, fates_left, one_nearer, stops}
use Rattle.interposition.specs.PlanResults.{done, sent}
use Rattle.interposition.specs.Due.{due_outcomes}
use Rattle.interposition.specs.declared.plan.Plan.{Plan as Planned}
use Rattle.world_laws.specs.declared.step_outs.Answer.{Answer}
use Rattle.world_laws.specs.declared.step_outs.Taken.{Taken}

-- the fates that are left, and how many stand before the stop
pub record Luck : Type 0 where
  pub fates : List Bool
  pub until : Option ℕ

abbrev pub is_over : Luck → Bool
is_over l = stops l.until

-- one fate is used up
abbrev pub used : Luck → Luck
used l = record { fates = fates_left l.fates; until = one_nearer l.until }

-- What a step gives: at most one answer, which counts whether its call is done or fails, and the posts that were sent.
abbrev pub first_answer : Option Answer → Answer → Option Answer
first_answer None a = Some a
first_answer (Some first) a = Some first

abbrev pub with_out : Out → Taken → Taken
with_out (outs.Post p) t = record t { posts = t.posts ++ p ∷ [] }
with_out (outs.Answer status reply) t = record t { answer = first_answer t.answer (record { status = status; reply = reply }) }

abbrev pub with_fate : Bool → Out → Taken → Taken
with_fate true out t = with_out out t
with_fate false (outs.Post p) t = t
with_fate false (outs.Answer status reply) t = with_out (outs.Answer status reply) t

pub record Sending : Type 0 where
  pub luck : Luck
  pub taken : Taken

abbrev pub sending_at : Luck → Taken → Sending
sending_at l t = record { luck = l; taken = t }

-- Each out has a fate; behind the stop nothing is sent.
abbrev pub sent_one : Out → Sending → Sending
sent_one out s = if is_over s.luck then s else record { luck = used s.luck; taken = with_fate (fate s.luck.fates) out s.taken }

abbrev pub sent_each : List Out → Sending → Sending
sent_each [] s = s
sent_each (out ∷ rest) s = sent_each rest (sent_one out s)

abbrev pub sending : Outs → Luck → Sending
sending o l = record { luck = l; taken = record { effects = o.effects; answer = None; posts = [] } }

pub record Walk : Type 0 where
  pub book : Book
  pub journal : List Record
  pub luck : Luck
  pub taken : List Taken

-- A step that counts: its book and its effects, and its outs, each by its fate.
unfoldable pub sends : Outs → Luck → Sending
sends o l = sent_each o.outs (sending o l)

abbrev pub given : Book → Outs → Walk → Walk
given b o w = record w { book = b; luck = (sends o w.luck).luck; taken = w.taken ++ (sends o w.luck).taken ∷ [] }

-- What a step gives, beside the book.
abbrev pub outs_of : Outcome → Outs
outs_of o = record { outs = o.outs; effects = o.effects }

abbrev pub counted : Outcome → Walk → Walk
counted o w = given o.book (outs_of o) w

-- The record of a step has a fate: it stands in the journal, or it is certainly absent.
abbrev pub recorded : Option Record → Walk → Walk
recorded None w = w
recorded (Some entry) w = record w { luck = used w.luck; journal = if fate w.luck.fates then w.journal ++ entry ∷ [] else w.journal }

-- Whether the step counts as one whose record stands, or as one whose record is absent; where the stop is at the fate of
-- a record that is absent, the step is undone.
abbrev pub branch : Option Record → Luck → Option Bool
branch None l = Some true
branch (Some entry) l = if fate l.fates then Some true else (if is_over (used l) then None else Some false)

abbrev pub counted_by : Option Bool → Plan → Walk → Walk
counted_by None p w = w
counted_by (Some true) p w = counted p.landed w
counted_by (Some false) p w = counted p.absent w

-- One step of a turn; behind the stop there is none.
abbrev pub stepped : Plan → Walk → Walk
stepped p w = if is_over w.luck then w else counted_by (branch p.entry w.luck) p (recorded p.entry w)

-- The same of what a book planned.
abbrev pub done_by : Option Bool → Planned → Walk → Walk
done_by None p w = w
done_by (Some landed) p w = given (done p landed w.book) (sent p landed) w

-- steps without a record
abbrev pub counted_one : Outcome → Walk → Walk
counted_one o w = if is_over w.luck then w else counted o w

abbrev pub counted_all : List Outcome → Walk → Walk
counted_all [] w = w
counted_all (o ∷ os) w = counted_all os (counted_one o w)

-- then one step for each item that is due (which has no record), each asked when its place comes
abbrev pub asked : ℕ → Walk → Walk
asked now w = counted_all (due_outcomes now (items_of w.book) w.book) w

-- A turn: the step of its input, then the due steps.
abbrev pub turned : ℕ → Plan → Walk → Walk
turned now p w = asked now (stepped p w)

abbrev pub begin : Book → List Record → Luck → Walk
begin b journal l = record { book = b; journal = journal; luck = l; taken = [] }
