-- What becomes of a text that is printed.
use Rattle.std.specs.Prelude.{ℕ, List, Option, Result, Ok, Err}
use Rattle.std.specs.Io.KnownBytes.{Appends}
use Rattle.serving.specs.Sessions.{Cut, Short}
use Rattle.serving.specs.declared.lines.Unprinted.{Unprinted}
use Rattle.serving.specs.declared.lines.Unprinted.TheVariants as unprinted

-- it was printed, or a beginning of it: where memory was wanted, not all of it
abbrev pub Printing : Result (Unit {0}) Unprinted → List ℕ → Option (List ℕ) → Option (List ℕ) → Type 0
Printing (Ok u) text before after = Appends before after text
Printing (Err unprinted.NoMemory) text before after = Short text before after
Printing (Err unprinted.SinkFailed) text before after = Cut text before after
