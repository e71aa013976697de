-- Whether a call comes in a turn or a request that is to fail, or at which its node is to stop, behind so many others: by what is left of the fates
-- that say so.
use Rattle.std.specs.Prelude.{ℕ, List, [], ◌∷◌, ◌+◌, ◌≡◌, ◌≤◌, ◌<◌, ◌⊎◌, Bool, Option, Some, None, length}
use Rattle.at_base.specs.declared.record.Record.{Record}
use Rattle.at_model.specs.Book.{Book}
use Rattle.at_model.specs.Step.{Plan}
use Rattle.world_laws.specs.Fates.{behind_done}
use Rattle.world_laws.specs.Moves.{luck_of}
use Rattle.world_laws.specs.Walks.{Walk, begin, stepped, turned}
use Rattle.fated_walks.specs.Fated.{AllLeft, AreFirstDue, AreWhole, Fated, IsPlanned, IsWhole, all_fates, fates_of}

-- no stop comes, or one behind so many fates and one more
abbrev pub IsUntil : ℕ → Option ℕ → Type 0
IsUntil before until = (until ≡ None) ⊎ (until ≡ Some (before + 1))

-- a turn with so many fates that are yes, and then this one; the same of the one step of a request
abbrev pub turn_so : (now : ℕ) → Plan → Book → List Record → (before : ℕ) → (last : Bool) → Option ℕ → Walk
turn_so now p b journal before last until = turned now p (begin b journal (luck_of (behind_done before (last ∷ [])) until))

abbrev pub step_so : Plan → Book → List Record → (before : ℕ) → (last : Bool) → Option ℕ → Walk
step_so p b journal before last until = stepped p (begin b journal (luck_of (behind_done before (last ∷ [])) until))

-- How many calls there are is known by the steps all of whose calls are done.
pub record CallsComing : Type 0 where
  -- where one is left, the calls are no more than those before it
  pub missed : (now : ℕ) (p : Plan) (b : Book) (journal : List Record) (first : Fated) (rest : List Fated) (before : ℕ) (last : Bool) (until : Option ℕ) → IsPlanned p first
      → AreFirstDue now first.outcome.book [] rest → AreWhole (first ∷ rest) → AllLeft (first ∷ rest) → IsUntil before until
      → 1 ≤ length (turn_so now p b journal before last until).luck.fates → length (all_fates (first ∷ rest)) ≤ before
  -- where none is, there are more
  pub comes : (now : ℕ) (p : Plan) (b : Book) (journal : List Record) (first : Fated) (rest : List Fated) (before : ℕ) (last : Bool) (until : Option ℕ) → IsPlanned p first
      → AreFirstDue now first.outcome.book [] rest → AreWhole (first ∷ rest) → AllLeft (first ∷ rest) → IsUntil before until
      → (turn_so now p b journal before last until).luck.fates ≡ [] → before < length (all_fates (first ∷ rest))
  -- the same of a request
  pub missed_step : (p : Plan) (b : Book) (journal : List Record) (f : Fated) (before : ℕ) (last : Bool) (until : Option ℕ) → IsPlanned p f → IsWhole f → AllLeft (f ∷ [])
      → IsUntil before until → 1 ≤ length (step_so p b journal before last until).luck.fates → length (fates_of f) ≤ before
  pub comes_step : (p : Plan) (b : Book) (journal : List Record) (f : Fated) (before : ℕ) (last : Bool) (until : Option ℕ) → IsPlanned p f → IsWhole f → AllLeft (f ∷ [])
      → IsUntil before until → (step_so p b journal before last until).luck.fates ≡ [] → before < length (fates_of f)
