-- What the calls of a node do in a row, step by step, and what stands of it at each moment.
use Rattle.std.specs.Prelude.{ℕ, List, [], ◌∷◌, ◌++◌, ◌-◌, ◌≡◌, ◌≤◌, Some, false, length, map, option_map, take}
use Rattle.std.proofs.Common.{inl, inr}
use Rattle.at_base.specs.declared.event.Event.TheVariants as events
use Rattle.at_base.specs.declared.event.Local.{Local}
use Rattle.at_base.specs.declared.record.Record.{Record}
use Rattle.at_model.specs.Step.{plan}
use Rattle.decision_log.specs.KeptRecords.{kept_of}
use Rattle.journal_at.specs.declared.version.Version.TheVariants.{Two}
use Rattle.site_model.specs.Told.{Told, Made, Call, Files, Between, Elapses, IsPrefix, sent_by}
use Rattle.node_at.specs.Doings.{Doing}
use Rattle.node_at.specs.Locals.{Asked}
use Rattle.node_at.specs.ShrunkJournals.{AreSame, StandForSame}
use Rattle.node_at.specs.Starts.{IsOpen}
use Rattle.node_at.specs.State.{State}
use Rattle.node_at.specs.Steps.{if_landed}
use Rattle.node_at.specs.Texts.{call_by}
use Rattle.node_at.specs.TurnText.{TurnStep}
use Rattle.node_at.specs.Turns.{Turns, busy}
use Rattle.node_at.specs.declared.local.Locally.{Locally}
use Rattle.node_at.specs.declared.local.Locally.TheVariants as answers
use Rattle.node_at.specs.declared.role.Role.{Role}
use Rattle.node_at.specs.declared.turn.Turned.{Turned}
use Rattle.node_at.specs.declared.turn.Turned.TheVariants as turneds
use Rattle.node_worlds.specs.SentPosts.{records_by}

-- what a step recorded, and the answers and posts that it sent
pub record Act : Type 0 where
  pub records : List Record
  pub sent : List Call

abbrev pub records_in : List Act → List Record
records_in [] = []
records_in (a ∷ acts) = a.records ++ records_in acts

abbrev pub sent_in : List Act → List Call
sent_in [] = []
sent_in (a ∷ acts) = a.sent ++ sent_in acts

-- what was said of a connection before the first step
abbrev pub spoken : List Made → Act
spoken made = record { records = []; sent = sent_by made }

abbrev pub acted : TurnStep → List Call → Act
acted s sent = record { records = records_by (if_landed s.landed s.entry); sent = sent }

-- of each step, what became of it
abbrev pub acts_of : List TurnStep → List Doing → List Act
acts_of [] ds = []
acts_of (s ∷ ss) [] = []
acts_of (s ∷ ss) (d ∷ ds) = acted s (sent_by d.made) ∷ acts_of ss ds

-- The acts of a turn. A step in which the node halts counts as one whose record stands and whose outs are still to be sent.
abbrev pub acts_in : (r : Turned) (role : Role) (n m : State) (old new : Told) → Turns r role n m old new → List Act
acts_in (turneds.Served status) role n m old new t = spoken t.serves.made ∷ acts_of t.serves.works.0.steps t.serves.works.0.doings
acts_in turneds.Ticked role n m old new t = spoken t.serves.made ∷ acts_of t.serves.works.0.steps t.serves.works.0.doings
acts_in turneds.NoRoom role n m old new t = spoken t.serves.made ∷ acts_of (t.serves.works.steps ++ busy n.book t.serves.works.steps) t.serves.works.doings
acts_in turneds.Halted role n m old new (inl t) = []
acts_in turneds.Halted role n m old new (inr t) =
    spoken t.1.serves.made ∷ acted t.1.serves.works.step (map call_by t.1.serves.works.step.leaving) ∷ []
acts_in turneds.Closed role n m old new t = []
acts_in turneds.LinkDown role n m old new t = []

-- those of a request
abbrev pub acts_for : (answer : Locally) (n m : State) (l : Local) (old new : Told) → Asked answer n m l old new → List Act
acts_for (answers.Done id) n m l old new a =
    record { records = records_by (if_landed a.3.3.landed (plan n.book (events.Local l) a.3.0).entry); sent = sent_by a.3.3.went.made } ∷ []
acts_for (answers.Refused why) n m l old new a = []
acts_for answers.NoRoom n m l old new a = []
acts_for answers.Halted n m l old new (inl a) = []
acts_for answers.Halted n m l old new (inr a) = record { records = a.2.2.entry ∷ []; sent = map call_by a.2.2.leaving } ∷ []

-- Of these acts the first k were done, behind the records and the sendings before them: the files stand for their records, and
-- what was sent is all that those before the k-th sent, and a beginning of what it did.
pub record IsSoFar (rs : List Record) (start : List Call) (acts : List Act) (sent : List Call) (c : Files) : Type 0 where
  pub k : ℕ
  pub within : k ≤ length acts
  pub stands : StandForSame (rs ++ records_in (take k acts)) c
  pub least : IsPrefix (start ++ sent_in (take (k - 1) acts)) sent
  pub most : IsPrefix sent (start ++ sent_in (take k acts))

-- at a moment between, whatever a crash then leaves
abbrev pub IsPrefixDone : List Record → List Act → Told → Told → List Made → Files → Type 0
IsPrefixDone rs acts old new l c =
    Between old new l × ((before : List Made) × (old.calls ≡ Some before) × IsSoFar rs (sent_by before) acts (sent_by l) c)

-- The node goes on: its journal holds what stands for these records, whatever follows, and so does what it keeps.
pub record IsUp (rs : List Record) (n : State) (s : Told) : Type 0 where
  pub runs : n.halted ≡ false
  pub records : List Record
  pub holds : IsOpen Two records n.journal s
  pub same : AreSame records rs
  pub kept : n.kept ≡ kept_of Two rs

-- What calls in a row did: these were their acts, at each moment a prefix of them was done, and behind them all of them, unless
-- the node halted in the last.
pub record Did (rs : List Record) (acts : List Act) (m : State) (old new : Told) : Type 0 where
  pub made : List Made
  pub calls : new.calls ≡ option_map (λ l. l ++ made) old.calls
  pub sent : m.halted ≡ false → sent_by made ≡ sent_in acts
  pub time : Elapses old new (IsPrefixDone rs acts old new)
  pub up : m.halted ≡ false → IsUp (rs ++ records_in acts) m new
