-- What clap answers for the commands of the program.
use Rattle.std.proofs.Common.{◌≡◌, List, [], true, Result, Ok, Err, IfOk, IfErr, ◌∙◌, refl, ap, subst}
use Rattle.clap.specs.Faults.{fault_of, is_simple_and_free}
use Rattle.clap.specs.Kinds.{FailsBy, HasKind}
use Rattle.clap.specs.Simple.{App, HasMatchesOf, is_simple, subcommand_of, subcommand_rows_of}
use Rattle.clap.specs.Walk.{Text}
use Rattle.clap.specs.declared.error.Error.{Error}
use Rattle.clap.specs.declared.parser.matches.ArgMatches.{ArgMatches}
use Rattle.clap.proofs.OnLiterals.{clap_on_literals}
use Rattle.command_line.specs.Commands.{whole}

is_stated : is_simple_and_free whole ≡ true
unfolding clap_on_literals
is_stated = refl

is_plain : is_simple whole ≡ true
unfolding clap_on_literals
is_plain = refl

pub found : (app : App) (words : List Text) (r : Result ArgMatches Error) → app ≡ whole → IfOk r (HasMatchesOf app words)
    → (is_simple_and_free app ≡ true → FailsBy (fault_of app words) r)
    → IfOk r (λ m. (fault_of whole words ≡ []) × (subcommand_rows_of m ≡ subcommand_of whole words))
found app words (Ok m) e h k =
    (subst (λ a. fault_of a words ≡ []) e (k (ap is_simple_and_free e ∙ is_stated)), (subst (λ a. HasMatchesOf a words m) e h is_plain).1)
found app words (Err x) e h k = tt

pub refused : (app : App) (words : List Text) (r : Result ArgMatches Error) → app ≡ whole
    → (is_simple_and_free app ≡ true → FailsBy (fault_of app words) r) → IfErr r (HasKind (fault_of whole words))
refused app words (Ok m) e k = tt
refused app words (Err x) e k = subst (λ a. HasKind (fault_of a words) x) e (k (ap is_simple_and_free e ∙ is_stated))
