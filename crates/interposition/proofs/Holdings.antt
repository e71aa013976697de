-- What a book holds is what its lists hold.
use Rattle.std.proofs.Common.{ℕ, ◌+◌, ◌-◌, ◌*◌, ◌^◌, ◌≤◌, ◌≡◌, List, [], ◌∷◌, refl, arith}
use Rattle.std.specs.Prelude.{Option, Some, None, length, min, sum_by}
use Rattle.std.specs.List.{AllByRecursion}
use Rattle.std.proofs.lemmas.List.Sums.{sum_by-cons}
use Rattle.at_model.specs.Book.{Book, Completion, Superior, Transaction}
use Rattle.model_laws.specs.Settlement.{seats_held, superior_links}
use Rattle.model_laws.specs.Settlement.{completions_held as completions, links_held as links}
use Rattle.coordinator_at.specs.Holdings.{completions_held, links_held, transaction_held, transactions_held}
use Rattle.interposition.specs.Holdings.{HasFewSeats, HoldsFew, held}

same_completions : (c : Option Completion) → completions_held c ≡ completions c
same_completions None = refl
same_completions (Some c) = refl

same_links : (s : Option Superior) → links_held s ≡ links s
same_links None = refl
same_links (Some s) = refl

-- the seats of transactions and their links are counted together
both_sums : (ts : List Transaction) → transactions_held ts ≡ sum_by seats_held ts + sum_by superior_links ts
both_sums [] = refl
both_sums (t ∷ ts) =
    omega (
      arith,
      sum_by-cons transaction_held t ts,
      sum_by-cons seats_held t ts,
      sum_by-cons superior_links t ts,
      both_sums ts,
      same_completions t.completion,
      same_links t.superior,
    )

few_completions : (c : Option Completion) → completions_held c ≤ 1
few_completions None = omega arith
few_completions (Some c) = omega arith

few_links : (s : Option Superior) → links_held s ≤ 2
few_links None = omega arith
few_links (Some s) = omega arith

few_held : (ts : List Transaction) → AllByRecursion HasFewSeats ts → transactions_held ts ≤ length ts * 515
few_held [] h = omega arith
few_held (t ∷ ts) h =
    omega (arith, sum_by-cons transaction_held t ts, few_completions t.completion, few_links t.superior, h.0, few_held ts h.1)

-- the sum of what the three lists hold, as far as numbers go
pub all_held :
    (b : Book) (transactions leaves activities sum : ℕ) → transactions ≡ min (transactions_held b.transactions) (2 ^ 64 - 1) → leaves ≡ length b.leaves
    → activities ≡ length b.activities → sum ≡ min (min (transactions + leaves) (2 ^ 64 - 1) + activities) (2 ^ 64 - 1)
    → sum ≡ min (held b) (2 ^ 64 - 1)
all_held b transactions leaves activities sum e f g h = omega (arith, both_sums b.transactions, e, f, g, h)

pub exactly_held : (b : Book) (sum : ℕ) → HoldsFew b → sum ≡ min (held b) (2 ^ 64 - 1) → sum ≡ held b
exactly_held b sum few e =
    omega (arith, both_sums b.transactions, few_held b.transactions few.seats, few.transactions, few.leaves, few.activities, e)
