-- What a node keeps of its journal's records: those that are live, the last incarnation, and the outcomes.
use Rattle.std.specs.Prelude.{ℕ, List, [], ◌∷◌, ◌++◌, ◌≡◌, Bool, true, false, not, ◌&&◌, if◌then◌else◌, filter, map, max}
use Rattle.std.specs.List.{AllByRecursion, list_any}
use Rattle.at_base.specs.WellFormed.{IsWellFormed}
use Rattle.at_base.specs.Numbers.{Numbers}
use Rattle.at_base.specs.declared.record.Record.{Record}
use Rattle.at_base.specs.declared.record.Record.TheVariants as records
use Rattle.at_model.specs.Book.{is_id}
use Rattle.at_model.specs.Outcomes.{newest, outcomes_after, with_outcome}
use Rattle.at_model.specs.Recovery.{ends_leaf, ends_transaction, in_order, incarnation_of, is_before, last_incarnation, live, no_seats}
use Rattle.model_laws.specs.Compactions.{record_id}
use Rattle.journal_at.specs.declared.version.Version.{Version}
use Rattle.journal_at.specs.declared.version.Version.TheVariants.{One, Two}
use Rattle.decision_log.specs.declared.token.What.{What}
use Rattle.decision_log.specs.declared.token.What.TheVariants as whats
use Rattle.decision_log.specs.Tokens.{Token, about, token_of}

pub record Known : Type 0 where
  pub live : List Record
  pub start : ℕ
  pub done : List Numbers

-- the roots that these records decide to commit
abbrev pub decided_in : List Record → List Numbers
decided_in [] = []
decided_in (records.Decided id seats ∷ rest) = id ∷ decided_in rest
decided_in (records.Start incarnation ∷ rest) = decided_in rest
decided_in (records.LeafPrepared id coordinator key value ∷ rest) = decided_in rest
decided_in (records.LeafCommitted id ∷ rest) = decided_in rest
decided_in (records.LeafAborted id ∷ rest) = decided_in rest
decided_in (records.Voted id superior seats ∷ rest) = decided_in rest
decided_in (records.SubCommitted id ∷ rest) = decided_in rest
decided_in (records.Ended id ∷ rest) = decided_in rest
decided_in (records.Done id ∷ rest) = decided_in rest

-- Version 1 keeps no outcomes: those of its live decisions, in the order of the journal, stand for them.
abbrev pub done_of : Version → List Record → List Numbers
done_of Two rs = outcomes_after [] rs
done_of One rs = newest (decided_in (live rs))

-- The live records by rising id, a SubCommitted behind its Voted; the greatest incarnation of a Start or of an id, or 0;
-- the outcomes.
abbrev pub kept_of : Version → List Record → Known
kept_of version rs = record { live = in_order record_id (live rs); start = last_incarnation rs; done = done_of version rs }

-- What one record more makes of it.

-- whether a record ends one of that id and kind
abbrev pub ends_kind : What → Numbers → Record → Bool
ends_kind whats.LeafPrepared id r = ends_leaf id r
ends_kind whats.Voted id r = ends_transaction id r
ends_kind whats.Decided id r = ends_transaction id r
ends_kind whats.SubCommitted id r = ends_transaction id r
ends_kind whats.Start id r = false
ends_kind whats.LeafCommitted id r = false
ends_kind whats.LeafAborted id r = false
ends_kind whats.Ended id r = false
ends_kind whats.Done id r = false

abbrev pub frees : Record → Token → Bool
frees r t = ends_kind t.what t.id r

abbrev pub is_kind_vote : What → Bool
is_kind_vote whats.Voted = true
is_kind_vote other = false

abbrev pub is_kind_commit : What → Bool
is_kind_commit whats.SubCommitted = true
is_kind_commit other = false

abbrev pub is_vote_of : Numbers → Token → Bool
is_vote_of id t = is_kind_vote t.what && is_id t.id id

abbrev pub is_commit_of : Numbers → Token → Bool
is_commit_of id t = is_kind_commit t.what && is_id t.id id

-- whether a record is live beside these: a promise is, and the first SubCommitted of a vote that is live
abbrev pub stays : Record → List Token → Bool
stays (records.LeafPrepared id coordinator key value) ts = true
stays (records.Voted id superior seats) ts = true
stays (records.Decided id seats) ts = not (no_seats seats)
stays (records.SubCommitted id) ts = list_any (is_vote_of id) ts && not (list_any (is_commit_of id) ts)
stays (records.Start incarnation) ts = false
stays (records.LeafCommitted id) ts = false
stays (records.LeafAborted id) ts = false
stays (records.Ended id) ts = false
stays (records.Done id) ts = false

-- behind all that aren't greater
abbrev pub insert_last : {A : Type 0} → (A → Numbers) → A → List A → List A
insert_last key x [] = x ∷ []
insert_last key x (y ∷ ys) = if is_before (key x) (key y) then x ∷ (y ∷ ys) else y ∷ insert_last key x ys

abbrev pub tokens_of : List Record → List Token
tokens_of rs = map token_of rs

abbrev pub freed : Record → List Record → List Record
freed r xs = filter (λ x. not (frees r (token_of x))) xs

abbrev pub live_after : Record → List Record → List Record
live_after r xs = if stays r (tokens_of xs) then insert_last about r (freed r xs) else freed r xs

abbrev pub after : Record → Known → Known
after r k = record {
  live = live_after r k.live;
  start = max (incarnation_of r) k.start;
  done = with_outcome r k.done;
}

-- nothing was recorded
abbrev pub unknown : Known
unknown = record { live = []; start = 0; done = [] }

-- one record after the other is what all of them make of it
abbrev pub GrowsByOne : Type 0
GrowsByOne = (rs : List Record) (r : Record) → after r (kept_of Two rs) ≡ kept_of Two (rs ++ r ∷ [])

-- What is kept of well-formed records. What is kept of a list of version 1 is also kept of one of version 2.
pub record IsKept (k : Known) : Type 0 where
  pub all : List Record
  pub formed : AllByRecursion IsWellFormed all
  pub is : k ≡ kept_of Two all

-- one record more is kept too
abbrev pub KeepsOn : Type 0
KeepsOn = (k : Known) (r : Record) → IsKept k → IsWellFormed r → IsKept (after r k)
