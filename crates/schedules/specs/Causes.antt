-- The numbers of the causes, as they are printed.
use Rattle.std.specs.Prelude.{ℕ}
use Rattle.schedules.specs.declared.line.Cause.{Cause}
use Rattle.schedules.specs.declared.line.Cause.TheVariants as causes

abbrev pub number_of_cause : Cause → ℕ
number_of_cause causes.UnknownWord = 1
number_of_cause causes.WordCount = 2
number_of_cause causes.Number = 3
number_of_cause causes.Identifier = 4
number_of_cause causes.Keyword = 5
number_of_cause causes.Hexadecimal = 6
number_of_cause causes.Nodes = 7
number_of_cause causes.TooManyLines = 8
number_of_cause causes.Unprintable = 9
