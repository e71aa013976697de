-- One step of a node: its record, its outs with their bytes, and what became of them.
use Rattle.std.specs.Prelude.{ℕ, List, [], ◌∷◌, ◌++◌, ◌+◌, ◌≡◌, ◌≤◌, ◌<◌, ◌⊎◌, Bool, true, false, Option, Some, None, IfSome, map, option_map, length}
use Rattle.at_base.specs.declared.event.Event.{Event}
use Rattle.at_base.specs.declared.outs.Effect.{Effect}
use Rattle.at_base.specs.declared.outs.Out.{Out}
use Rattle.at_base.specs.declared.outs.Out.TheVariants as outs
use Rattle.at_base.specs.declared.record.Record.{Record}
use Rattle.at_model.specs.Book.{Book}
use Rattle.at_model.specs.Step.{plan, step}
use Rattle.interposition.specs.declared.plan.Plan.{Plan}
use Rattle.interposition.specs.PlanResults.{done, sent}
use Rattle.decision_log.specs.KeptRecords.{Known, after}
use Rattle.decision_log.specs.Tokens.{token_of}
use Rattle.journal_at.specs.declared.journal.Journal.{Journal}
use Rattle.journal_at.specs.declared.journal.Append.TheVariants as appends
use Rattle.journal_at.specs.StandingBodies.{Keeps, Makes}
use Rattle.journal_at.specs.declared.version.Version.TheVariants.{Two}
use Rattle.record_bytes.specs.Bytes.{bytes_of}
use Rattle.record_bytes.specs.Versions.{IsRecord}
use Rattle.site_model.specs.Counts.{Rose}
use Rattle.site_model.specs.Told.{Told, Made, Apart, sent_by}
use Rattle.node_at.specs.State.{State}
use Rattle.node_at.specs.declared.step.Stepped.{Stepped}
use Rattle.node_at.specs.declared.step.Stepped.TheVariants as ends
use Rattle.node_at.specs.Moments.{Moments}
use Rattle.node_at.specs.Sends.{Counts, Tried, given}
use Rattle.node_at.specs.Texts.{AreLeaving, Leaving, call_by}

-- the record, where it landed
abbrev pub if_landed : Bool → Option Record → Option Record
if_landed true entry = entry
if_landed false entry = None

abbrev pub bodies_by : Option Record → List (List ℕ)
bodies_by None = []
bodies_by (Some r) = bytes_of r ∷ []

abbrev pub kept_by : Option Record → Known → Known
kept_by None k = k
kept_by (Some r) k = after r k

-- the status of the first answer, 0 where there is none
abbrev pub status_in : List Out → ℕ
status_in [] = 0
status_in (outs.Answer status reply ∷ os) = status
status_in (outs.Post post ∷ os) = status_in os

-- A step's record is absent exactly where the journal refused it, or where it would pass the journal's limit. A step without
-- a record counts as one whose record landed.
abbrev pub IsFate : Bool → Option Record → Journal → List Made → Told → Told → Type 0
IsFate landed None journal first old new = (first ≡ []) × (landed ≡ true)
IsFate true (Some r) journal first old new =
    Makes appends.Done journal.live journal.end (bytes_of r) first × (journal.end + 6 + length (bytes_of r) ≤ journal.limit)
IsFate false (Some r) journal first old new =
    (Makes appends.Refused journal.live journal.end (bytes_of r) first × (journal.end + 6 + length (bytes_of r) ≤ journal.limit) × Rose old.counts.disk new.counts.disk)
    ⊎ (Makes appends.Full journal.live journal.end (bytes_of r) first × (journal.limit < journal.end + 6 + length (bytes_of r)))

-- the counts don't fall, nothing but disk, gates and link is counted, and listener, connections and clock aren't touched
pub record Keeping (old new : Told) : Type 0 where
  pub disk : old.counts.disk ≤ new.counts.disk
  pub gate : old.counts.gate ≤ new.counts.gate
  pub link : old.counts.link ≤ new.counts.link
  pub others : new.counts ≡ record old.counts { disk = new.counts.disk; gate = new.counts.gate; link = new.counts.link }
  pub apart : Apart old new

-- what it leaves in the journal
abbrev pub landed_by : Bool → Option Record → List (List ℕ)
landed_by landed entry = bodies_by (if_landed landed entry)

-- A step that was done. Behind it stands this book, and these effects came; its record is one of version 2, and stands unless
-- it was refused; its calls are those of the append, and then one for each out, which was sent unless that failed; and at each moment journal,
-- answers and posts were those of a prefix of the step.
pub record Went (entry : Option Record) (landed : Bool) (behind : Book) (came : List Effect) (leaving : List Leaving) (n m : State) (old new : Told) : Type 0 where
  pub book : m.book ≡ behind
  pub effects : m.effects ≡ n.effects ++ came
  pub kept : m.kept ≡ kept_by (if_landed landed entry) n.kept
  pub formed : IfSome entry (λ r. IsRecord Two r (bytes_of r))
  pub first : List Made
  pub fate : IsFate landed entry n.journal first old new
  pub made : List Made
  pub lost : ℕ
  pub tried : Tried (given (option_map token_of (if_landed landed entry)) n.kept) n.kept.done leaving made lost
  pub counted : Counts lost old.counts.link new.counts.link
  pub calls : new.calls ≡ option_map (λ l. l ++ (first ++ made)) old.calls
  pub live : m.journal.live ≡ n.journal.live
  pub limit : m.journal.limit ≡ n.journal.limit
  pub generation : m.journal.generation ≡ n.journal.generation
  pub unshut : m.journal.unshut ≡ n.journal.unshut
  pub sure : m.journal.unsure ≡ false
  pub runs : m.halted ≡ false
  pub stands : (bodies : List (List ℕ)) → Keeps n.journal bodies old → Keeps m.journal (bodies ++ landed_by landed entry) new
  pub moments : (bodies : List (List ℕ)) → Keeps n.journal bodies old
      → Moments n.journal.live bodies (record { landed = landed_by landed entry; sent = sent_by made } ∷ []) old new

-- A step whose record may stand or not: nothing was sent. It counts as one whose record landed and whose outs are still to
-- be sent.
pub record Stopped (entry : Record) (leaving : List Leaving) (n m : State) (old new : Told) : Type 0 where
  pub same : m ≡ record n { journal = m.journal; halted = true }
  pub unsure : m.journal.unsure ≡ true
  pub formed : IsRecord Two entry (bytes_of entry)
  pub first : List Made
  pub makes : Makes appends.Unsure n.journal.live n.journal.end (bytes_of entry) first
  pub calls : new.calls ≡ option_map (λ l. l ++ first) old.calls
  pub rose : Rose old.counts.gate new.counts.gate
  pub moments : (bodies : List (List ℕ)) → Keeps n.journal bodies old
      → Moments n.journal.live bodies (record { landed = bytes_of entry ∷ []; sent = map call_by leaving } ∷ []) old new

-- The steps of the model, with their bytes.
pub record IsDone (status : ℕ) (n m : State) (e : Event) (now : ℕ) (old new : Told) : Type 0 where
  pub landed : Bool
  pub leaving : List Leaving
  pub are : AreLeaving (step n.book e now landed).outs leaving
  pub went : Went (plan n.book e now).entry landed (step n.book e now landed).book (step n.book e now landed).effects leaving n m old new
  pub answers : status ≡ status_in (step n.book e now landed).outs

pub record IsStopped (n m : State) (e : Event) (now : ℕ) (old new : Told) : Type 0 where
  pub entry : Record
  pub is : (plan n.book e now).entry ≡ Some entry
  pub leaving : List Leaving
  pub are : AreLeaving (step n.book e now true).outs leaving
  pub stopped : Stopped entry leaving n m old new

abbrev pub Steps : Stepped → State → State → Event → ℕ → Told → Told → Type 0
Steps (ends.Done status) n m e now old new = IsDone status n m e now old new
Steps ends.NoRoom n m e now old new = m ≡ n
Steps ends.Halted n m e now old new = IsStopped n m e now old new

-- the same in the words of a plan with a record
abbrev pub Acts : Stepped → Plan → Record → List Leaving → List Leaving → State → State → Told → Told → Type 0
Acts (ends.Done status) p r landed absent n m old new =
    (Went (Some r) true (done p true n.book) (sent p true).effects landed n m old new × (status ≡ status_in (sent p true).outs))
    ⊎ (Went (Some r) false (done p false n.book) (sent p false).effects absent n m old new × (status ≡ status_in (sent p false).outs))
Acts ends.NoRoom p r landed absent n m old new = m ≡ n
Acts ends.Halted p r landed absent n m old new = Stopped r landed n m old new
