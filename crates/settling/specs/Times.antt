-- Times: no item has sent later than its book has seen, and no book has seen a time that its node's clock hasn't shown.
use Rattle.std.specs.Prelude.{ℕ, List, Option, Some, None, ◌≡◌, ◌≤◌}
use Rattle.std.specs.List.{AllByRecursion}
use Rattle.at_model.specs.Book.{Book}
use Rattle.at_model.specs.World.{Node, WorldEvent, nth, run_of, Hosts}

abbrev pub IsBy : ℕ → Option ℕ → Type 0
IsBy now None = Unit {0}
IsBy now (Some time) = time ≤ now

-- when a book's transactions and leaves sent last
pub record SentBy (now : ℕ) (b : Book) : Type 0 where
  pub transactions : AllByRecursion (λ t. IsBy now t.sent) b.transactions
  pub leaves : AllByRecursion (λ l. IsBy now l.sent) b.leaves

-- So it is in every run.
pub record TimesPass : Type 0 where
  pub sent : (hosts : Hosts) (es : List WorldEvent) (n : ℕ) (x : Node) (b : Book) → nth n (run_of hosts es).nodes ≡ Some x → x.book ≡ Some b → SentBy b.seen b
  pub seen : (hosts : Hosts) (es : List WorldEvent) (n : ℕ) (x : Node) (b : Book) → nth n (run_of hosts es).nodes ≡ Some x → x.book ≡ Some b → b.seen ≤ x.clock
