-- The live transactions of a node, and the book that holds them.
use Rattle.std.specs.Prelude.{ℕ, List, ◌++◌, ◌≡◌, filter, map}
use Rattle.at_base.specs.declared.event.Moment.{Moment}
use Rattle.at_base.specs.declared.outs.Effect.{Effect}
use Rattle.at_base.specs.declared.outs.Ending.TheVariants as endings
use Rattle.at_model.specs.Book.{Book, Transaction, transaction_id}
use Rattle.at_model.specs.Create.{Creation}
use Rattle.at_model.specs.Seats.{ending}
use Rattle.at_model.specs.Step.{Plan, moment_of}
use Rattle.at_model.specs.World.{is_lost_root, is_lost_subordinate}
use Rattle.by_id.specs.Lists.{altered}
use Rattle.by_id.specs.Plans.{made}
use Rattle.by_id.specs.Wholes.{whole_by}
use Rattle.by_id.specs.declared.list.Alteration.{Alteration}
use Rattle.by_id.specs.declared.plan.Plan.{Plan as Planned}
use Rattle.transaction_at.specs.Moves.{moved}
use Rattle.transaction_at.specs.declared.moves.Move.{Move}

-- a book that holds these transactions, at this moment
abbrev pub Holds : Book → ℕ → List Transaction → Moment → Type 0
Holds b now ts m = (b.transactions ≡ ts) × (m ≡ moment_of b now)

-- the book with what becomes of its transactions
abbrev pub with_transactions : Alteration Transaction Move → Book → Book
with_transactions change b = record b { transactions = altered transaction_id moved change b.transactions }

-- The plan of the transactions, as a plan of the book that holds them.
abbrev pub whole : Book → ℕ → Planned Transaction Move → Plan
whole = whole_by with_transactions

-- What a CreateCoordinationContext does to the list of transactions.
abbrev pub created : Creation → Planned Transaction Move
created c = made c.transaction c.outs

-- What going down loses: the undecided roots, and then the subordinates that haven't voted.
abbrev pub transaction_lost : Transaction → Effect
transaction_lost t = ending t endings.Lost

abbrev pub roots_lost : List Transaction → List Effect
roots_lost ts = map transaction_lost (filter is_lost_root ts)

abbrev pub subordinates_lost : List Transaction → List Effect
subordinates_lost ts = map transaction_lost (filter is_lost_subordinate ts)

abbrev pub transactions_lost : List Transaction → List Effect
transactions_lost ts = roots_lost ts ++ subordinates_lost ts
