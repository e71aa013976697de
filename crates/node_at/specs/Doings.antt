-- What became of a row of steps: their records, their outs, and the calls of disk and network for them.
use Rattle.std.specs.Prelude.{ℕ, List, [], ◌∷◌, ◌++◌, ◌+◌, ◌≡◌, ◌≤◌, ◌<◌, ◌⊎◌, Bool, true, false, Option, Some, None, IfSome, map, option_map, length}
use Rattle.at_base.specs.declared.outs.Effect.{Effect}
use Rattle.at_base.specs.declared.record.Record.{Record}
use Rattle.at_model.specs.Book.{Book}
use Rattle.decision_log.specs.KeptRecords.{Known}
use Rattle.decision_log.specs.Tokens.{token_of}
use Rattle.journal_at.specs.declared.journal.Append.TheVariants as appends
use Rattle.journal_at.specs.declared.journal.Journal.{Journal}
use Rattle.journal_at.specs.Format.{frames}
use Rattle.journal_at.specs.StandingBodies.{Keeps, Makes}
use Rattle.journal_at.specs.declared.version.Version.TheVariants.{Two}
use Rattle.record_bytes.specs.Bytes.{bytes_of}
use Rattle.record_bytes.specs.Versions.{IsRecord}
use Rattle.site_model.specs.Counts.{capped}
use Rattle.site_model.specs.Site.{Counts as Numbers}
use Rattle.site_model.specs.Told.{Told, Made, sent_by}
use Rattle.node_at.specs.Moments.{Deed, Moments, landed_of, sent_of}
use Rattle.node_at.specs.Sends.{Counts, Tried, given}
use Rattle.node_at.specs.State.{State}
use Rattle.node_at.specs.Steps.{if_landed, kept_by, landed_by}
use Rattle.node_at.specs.TurnText.{TurnStep}

-- What one step left in the journal, its calls of the disk, those of its outs, how many of its outs were lost, and how many
-- records were refused.
pub record Doing : Type 0 where
  pub landed : List (List ℕ)
  pub first : List Made
  pub made : List Made
  pub lost : ℕ
  pub refused : ℕ

abbrev pub deed_of : Doing → Deed
deed_of d = record { landed = d.landed; sent = sent_by d.made }

abbrev pub deeds_of : List Doing → List Deed
deeds_of ds = map deed_of ds

abbrev pub calls_of : List Doing → List Made
calls_of [] = []
calls_of (d ∷ ds) = (d.first ++ d.made) ++ calls_of ds

abbrev pub lost_of : List Doing → ℕ
lost_of [] = 0
lost_of (d ∷ ds) = d.lost + lost_of ds

abbrev pub refused_of : List Doing → ℕ
refused_of [] = 0
refused_of (d ∷ ds) = d.refused + refused_of ds

-- These were the calls, and what was sent; the records stand behind those that stood; and so it was at each moment.
pub record Does (doings : List Doing) (j k : Journal) (old new : Told) : Type 0 where
  pub calls : new.calls ≡ option_map (λ l. l ++ calls_of doings) old.calls
  pub sent : sent_by (calls_of doings) ≡ sent_of (deeds_of doings)
  pub live : k.live ≡ j.live
  pub limit : k.limit ≡ j.limit
  pub generation : k.generation ≡ j.generation
  pub unshut : k.unshut ≡ j.unshut
  pub stands : (bodies : List (List ℕ)) → Keeps j bodies old → Keeps k (bodies ++ landed_of (deeds_of doings)) new
  pub moments : (bodies : List (List ℕ)) → Keeps j bodies old → Moments j.live bodies (deeds_of doings) old new

-- the outs were tried one after the other, behind the record, which is one of version 2
pub record IsDoing (kept : Known) (s : TurnStep) (d : Doing) : Type 0 where
  pub formed : IfSome s.entry (λ r. IsRecord Two r (bytes_of r))
  pub landed : d.landed ≡ landed_by s.landed s.entry
  pub tried : Tried (given (option_map token_of (if_landed s.landed s.entry)) kept) kept.done s.leaving d.made d.lost

abbrev pub AreDoings : Known → List TurnStep → List Doing → Type 0
AreDoings kept [] [] = Unit {0}
AreDoings kept [] (d ∷ ds) = ⊥
AreDoings kept (s ∷ ss) [] = ⊥
AreDoings kept (s ∷ ss) (d ∷ ds) = IsDoing kept s d × AreDoings (kept_by (if_landed s.landed s.entry) kept) ss ds

-- A record is absent exactly where the journal refused it, or where it would pass the journal's limit.
abbrev pub IsFateAt : Bool → Option Record → ℕ → ℕ → ℕ → List Made → ℕ → Type 0
IsFateAt landed None live limit end first refused = (first ≡ []) × (refused ≡ 0)
IsFateAt true (Some r) live limit end first refused =
    Makes appends.Done live end (bytes_of r) first × (end + 6 + length (bytes_of r) ≤ limit) × (refused ≡ 0)
IsFateAt false (Some r) live limit end first refused =
    (Makes appends.Refused live end (bytes_of r) first × (end + 6 + length (bytes_of r) ≤ limit) × (refused ≡ 1))
    ⊎ (Makes appends.Full live end (bytes_of r) first × (limit < end + 6 + length (bytes_of r)) × (refused ≡ 0))

-- each behind the records that stand before it
abbrev pub AreFates : ℕ → ℕ → List (List ℕ) → List TurnStep → List Doing → Type 0
AreFates live limit bodies [] [] = Unit {0}
AreFates live limit bodies [] (d ∷ ds) = ⊥
AreFates live limit bodies (s ∷ ss) [] = ⊥
AreFates live limit bodies (s ∷ ss) (d ∷ ds) =
    IsFateAt s.landed s.entry live limit (length (frames bodies)) d.first d.refused × AreFates live limit (bodies ++ d.landed) ss ds

abbrev pub book_behind : Book → List TurnStep → Book
book_behind b [] = b
book_behind b (s ∷ ss) = book_behind s.behind ss

abbrev pub came_of : List TurnStep → List Effect
came_of [] = []
came_of (s ∷ ss) = s.came ++ came_of ss

abbrev pub kept_behind : Known → List TurnStep → Known
kept_behind k [] = k
kept_behind k (s ∷ ss) = kept_behind (kept_by (if_landed s.landed s.entry) k) ss

-- no count falls; those of connections are counted as far as 2^64 - 1; and what the machine was told stays, and the names by which it
-- was attached
pub record NoLess (old new : Numbers) : Type 0 where
  pub arming : new.arming ≡ old.arming
  pub disk : old.disk ≤ new.disk
  pub gate : old.gate ≤ new.gate
  pub accept : old.accept ≤ new.accept
  pub receive : old.receive ≤ new.receive
  pub link : old.link ≤ new.link
  pub taken : capped old.taken ≤ new.taken
  pub closings : capped old.closings ≤ new.closings
  pub attached : new.attached ≡ old.attached

-- Steps that were done one after the other, behind what was sent before the first. Behind them stands their book, and
-- their effects came.
pub record Ran (lines : List Doing) (steps : List TurnStep) (doings : List Doing) (n m : State) (old new : Told) : Type 0 where
  pub silent : landed_of (deeds_of lines) ≡ []
  pub does : Does (lines ++ doings) n.journal m.journal old new
  pub are : AreDoings n.kept steps doings
  pub fates : (bodies : List (List ℕ)) → Keeps n.journal bodies old → AreFates n.journal.live n.journal.limit bodies steps doings
  pub lost : Counts (lost_of doings) old.counts.link new.counts.link
  pub refused : Counts (refused_of doings) old.counts.disk new.counts.disk
  pub later : NoLess old.counts new.counts
  pub book : m.book ≡ book_behind n.book steps
  pub effects : m.effects ≡ n.effects ++ came_of steps
  pub kept : m.kept ≡ kept_behind n.kept steps
  pub sure : m.journal.unsure ≡ n.journal.unsure
  pub runs : m.halted ≡ n.halted
