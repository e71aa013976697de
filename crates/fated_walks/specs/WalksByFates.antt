-- A walk comes to what its fates say.
use Rattle.std.specs.Prelude.{ℕ, List, [], ◌∷◌, ◌++◌, Option, Some, None, Bool, false, ◌≡◌, drop, length, map}
use Rattle.at_base.specs.declared.record.Record.{Record}
use Rattle.at_model.specs.Book.{Book}
use Rattle.at_model.specs.Step.{Outcome, Plan}
use Rattle.at_model.specs.World.{fate}
use Rattle.world_laws.specs.Moves.{luck_of}
use Rattle.world_laws.specs.Walks.{Walk, begin, stepped, turned}
use Rattle.fated_walks.specs.Fated.{AreCut, AreFirstDue, AreWhole, Fated, IsBeyond, IsPlanned, IsWhole, StartsWith, all_fates, book_of, fates_of, left_before, records_of, taken_of}

-- behind these steps, where so much is left of the stop
abbrev pub behind : Book → List Record → List Bool → Option ℕ → List Fated → Walk
behind b journal all until fs = record {
  book = book_of b fs;
  journal = journal ++ records_of fs;
  luck = luck_of (drop (length (all_fates fs)) all) until;
  taken = map taken_of fs;
}

-- so many fates stand before the stop
abbrev pub stops_behind : List Fated → Option ℕ
stops_behind fs = Some (length (all_fates fs))

pub record WalksByFates : Type 0 where
  -- a turn that goes to its end
  pub whole : (now : ℕ) (p : Plan) (b : Book) (journal : List Record) (first : Fated) (rest : List Fated) (all : List Bool) (until : Option ℕ) → IsPlanned p first
      → AreFirstDue now first.outcome.book [] rest → AreWhole (first ∷ rest) → StartsWith (all_fates (first ∷ rest)) all → IsBeyond until (length (all_fates (first ∷ rest)))
      → turned now p (begin b journal (luck_of all until)) ≡ behind b journal all (left_before until (length (all_fates (first ∷ rest)))) (first ∷ rest)
  -- a turn that stops within a step, at an answer or a post, or behind its record
  pub cut : (now : ℕ) (p : Plan) (b : Book) (journal : List Record) (first : Fated) (rest : List Fated) (left : List Outcome) (all : List Bool) → IsPlanned p first → AreFirstDue now first.outcome.book left rest
      → AreCut (first ∷ rest) → StartsWith (all_fates (first ∷ rest)) all
      → ((first.entry ≡ None → ⊥) × (first.landed ≡ false) × (first.ways ≡ []) × (rest ≡ []) → ⊥)
      → turned now p (begin b journal (luck_of all (stops_behind (first ∷ rest)))) ≡ behind b journal all (Some 0) (first ∷ rest)
  -- one that stops at a record, which is absent: the step is undone
  pub undone : (now : ℕ) (p : Plan) (b : Book) (journal : List Record) (entry : Record) (all : List Bool) → p.entry ≡ Some entry → fate all ≡ false
      → turned now p (begin b journal (luck_of all (Some 1))) ≡ record { book = b; journal = journal; luck = luck_of (drop 1 all) (Some 0); taken = [] }
  -- one that stops before its first step
  pub unbegun : (now : ℕ) (p : Plan) (b : Book) (journal : List Record) (all : List Bool)
      → turned now p (begin b journal (luck_of all (Some 0))) ≡ begin b journal (luck_of all (Some 0))
  -- the same of the one step of a request
  pub whole_step : (p : Plan) (b : Book) (journal : List Record) (f : Fated) (all : List Bool) (until : Option ℕ) → IsPlanned p f → IsWhole f → StartsWith (fates_of f) all
      → IsBeyond until (length (fates_of f)) → stepped p (begin b journal (luck_of all until)) ≡ behind b journal all (left_before until (length (fates_of f))) (f ∷ [])
  pub cut_step : (p : Plan) (b : Book) (journal : List Record) (f : Fated) (all : List Bool) → IsPlanned p f → AreCut (f ∷ []) → StartsWith (fates_of f) all
      → ((f.entry ≡ None → ⊥) × (f.landed ≡ false) × (f.ways ≡ []) → ⊥)
      → stepped p (begin b journal (luck_of all (stops_behind (f ∷ [])))) ≡ behind b journal all (Some 0) (f ∷ [])
  pub undone_step : (p : Plan) (b : Book) (journal : List Record) (entry : Record) (all : List Bool) → p.entry ≡ Some entry → fate all ≡ false
      → stepped p (begin b journal (luck_of all (Some 1))) ≡ record { book = b; journal = journal; luck = luck_of (drop 1 all) (Some 0); taken = [] }
