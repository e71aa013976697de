-- The endpoints alone: each is the node's own, or one of those that were known.
use Rattle.std.specs.Prelude.{ℕ, List, Bool, IfSome, ◌≡◌, ◌⊎◌, ◌≤◌}
use Rattle.std.specs.List.{AllByRecursion}
use Rattle.at_base.specs.declared.epr.Epr.{Epr}
use Rattle.at_base.specs.declared.event.Event.{Event}
use Rattle.at_base.specs.declared.record.Record.{Record}
use Rattle.at_base.specs.declared.target.Target.{Target}
use Rattle.endpoints.specs.Addresses.{IsWritten, endpoint_of}
use Rattle.at_model.specs.Book.{Book, last_counter}
use Rattle.at_model.specs.Recovery.{last_incarnation, recover}
use Rattle.at_model.specs.Step.{plan, step}
use Rattle.model_laws.specs.Agreement.{IsIn}
use Rattle.provenance.specs.Forms.{AreOuts, Forms, IsBook, IsEvent, IsRecord}

-- the endpoint of one of the node's targets
pub record IsOwn (base : List ℕ) (endpoint : Epr) : Type 0 where
  pub target : Target
  pub written : IsWritten target
  pub same : endpoint ≡ endpoint_of base target

abbrev pub IsKnown : List ℕ → List Epr → Epr → Type 0
IsKnown base known endpoint = IsOwn base endpoint ⊎ IsIn endpoint known

-- a context has the endpoint where one registers under it; nothing is asked of all else
abbrev pub from_known : List ℕ → List Epr → Forms
from_known base known = record {
  endpoint = IsKnown base known;
  context = λ c. IsKnown base known c.registration;
  identifier = λ text. Unit {0};
  span = λ time. Unit {0};
  id = λ text. Unit {0};
  uri = λ text. Unit {0};
  field = λ text. Unit {0};
}

-- Where those of a book and of an event are known, so are those of the book behind the step, of what it posts and of what it records;
-- and those of a book that is recovered from records where they are.
pub record EndpointsAreKnown : Type 0 where
  pub book : (base : List ℕ) (known : List Epr) (b : Book) (e : Event) (now : ℕ) (landed : Bool) → b.base ≡ base → IsBook (from_known base known) b → IsEvent (from_known base known) e
      → IsBook (from_known base known) (step b e now landed).book
  pub posts : (base : List ℕ) (known : List Epr) (b : Book) (e : Event) (now : ℕ) (landed : Bool) → b.base ≡ base → IsBook (from_known base known) b → IsEvent (from_known base known) e
      → AreOuts (from_known base known) (step b e now landed).outs
  pub entry : (base : List ℕ) (known : List Epr) (b : Book) (e : Event) (now : ℕ) → b.base ≡ base → IsBook (from_known base known) b → IsEvent (from_known base known) e
      → IfSome (plan b e now).entry (IsRecord (from_known base known))
  pub recovered : (base : List ℕ) (known : List Epr) (rs : List Record) → AllByRecursion (IsRecord (from_known base known)) rs → 1 ≤ last_incarnation rs → last_incarnation rs ≤ last_counter
      → IsBook (from_known base known) (recover base rs)
