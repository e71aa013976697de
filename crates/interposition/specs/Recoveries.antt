-- What is left of a journal's records where a node starts, and the book that is made of it.
use Rattle.std.specs.Prelude.{ℕ, List, [], ◌≡◌}
use Rattle.at_base.specs.Numbers.{Numbers}
use Rattle.at_base.specs.declared.record.Record.{Record}
use Rattle.at_model.specs.Book.{Book}
use Rattle.at_model.specs.Outcomes.{newest, outcomes_after}
use Rattle.at_model.specs.Recovery.{in_order, last_incarnation, leaves_of, live, recover}
use Rattle.model_laws.specs.Compactions.{record_id}
use Rattle.coordinator_at.specs.Recoveries.{transactions_in}

-- These are the live ones of the records, by rising id, the kept outcomes, the newest last, and the last incarnation.
pub record StandFor (records left : List Record) (ids : List Numbers) (last : ℕ) : Type 0 where
  pub live : left ≡ in_order record_id (live records)
  pub done : ids ≡ outcomes_after [] records
  pub incarnation : last ≡ last_incarnation records

abbrev pub recovered : List ℕ → List Record → List Numbers → ℕ → Book
recovered base live done incarnation = record {
  base = base;
  incarnation = incarnation;
  counter = 0;
  seen = 0;
  outcomes = newest done;
  transactions = transactions_in base live;
  leaves = leaves_of live;
  activities = [];
}

-- What is left of records makes the same book as they do.
abbrev pub RecoversAsTheModel : Type 0
RecoversAsTheModel = (base : List ℕ) (records live : List Record) (done : List Numbers) (incarnation : ℕ)
    → StandFor records live done incarnation → recovered base live done incarnation ≡ recover base records
