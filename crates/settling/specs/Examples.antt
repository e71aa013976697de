-- Loads of small books, computed.
use Rattle.std.specs.Prelude.{[], ◌∷◌, Some, None, codes, ◌≡◌, refl}
use Rattle.at_base.specs.Numbers.{Numbers}
use Rattle.at_base.specs.declared.epr.Epr.{Epr}
use Rattle.at_base.specs.declared.notice.Kind.TheVariants as kinds
use Rattle.at_tables.specs.declared.cells.State.{State}
use Rattle.at_tables.specs.declared.cells.State.TheVariants as states
use Rattle.at_model.specs.Book.{Book, Enlistment, Phase, Transaction}
use Rattle.settling.specs.Load.{Prices, load}

abbrev someone : Epr
someone = record { address = codes "http://n1.example/p/d/1-2"; params = [] }

abbrev first_id : Numbers
first_id = record { incarnation = 1; counter = 1 }

abbrev seat_in : State → Enlistment
seat_in state = record { number = 1; kind = kinds.Durable; participant = someone; state = state }

-- a root with one durable participant and an initiator
abbrev root_in : Phase → State → State → Transaction
root_in phase seat initiator = record {
  id = first_id;
  identifier = [];
  superior = None;
  phase = phase;
  deadline = None;
  sent = Some 1000;
  aborted = None;
  seats = seat_in seat ∷ [];
  completion = Some (record { initiator = someone; state = initiator });
}

abbrev book_of : Transaction → Book
book_of t = record { base = codes "http://n1.example"; incarnation = 1; counter = 1; seen = 1000; outcomes = []; transactions = t ∷ []; leaves = []; activities = [] }

abbrev free : Prices
free = record { seat = 0; other = 0; making = 1 }

-- It may still ask its participant, hear its vote and tell it the outcome, and tell its initiator: 8, and 4.
pub weighs_before_it_asks : load free 1000 (book_of (root_in Phase.Active states.Active states.Active)) ≡ 12
weighs_before_it_asks = refl

-- Once it has asked, 5 went with its Prepare.
pub weighs_once_it_asked : load free 1000 (book_of (root_in Phase.Durable states.Preparing states.Completing)) ≡ 7
weighs_once_it_asked = refl

-- 5,000 ms later it may ask again.
pub weighs_once_it_is_quiet : load free 6000 (book_of (root_in Phase.Durable states.Preparing states.Completing)) ≡ 12
weighs_once_it_is_quiet = refl

-- Once it has decided, and told so, nothing is left but what it repeats.
pub weighs_once_it_decided : load free 1000 (book_of (root_in Phase.Committing states.Committing states.Done)) ≡ 2
weighs_once_it_decided = refl
