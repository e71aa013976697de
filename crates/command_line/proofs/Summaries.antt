-- The numbers of which a schedule is made, and what is printed of it.
use Rattle.std.proofs.Common.{◌≡◌, ◌≤◌, ℕ, List, Bool, true, false, Option, None, Some, Ok, Err, cond, nat_le, length, take, zero, ◌&&◌, ap, arith, refl, subst}
use Rattle.std.specs.Prelude.{IsSomeAnd, codes}
use Rattle.std.specs.Io.KnownBytes.{Appends}
use Rattle.std.proofs.lemmas.Bool.{leb-true}
use Rattle.clap.specs.Simple.{subcommand_of}
use Rattle.clap.specs.Walk.{Row, Text, first_of}
use Rattle.net_plays.specs.MadePlays.{MadeArePlayed}
use Rattle.replay_cmd.specs.Laws.{IsSafe}
use Rattle.replay_cmd.specs.MadeCourses.{summary_of, world_made}
use Rattle.schedules.specs.Values.{decimal_of, within}
use Rattle.schedules.specs.declared.line.Cause.TheVariants.{Number}
use Rattle.command_line.specs.Commands.{whole}
use Rattle.command_line.specs.Jobs.{IsJobOf, Job, Means, MeansMade}
use Rattle.command_line.specs.Jobs.Job.{Make}
use Rattle.command_line.specs.Summaries.{IsSummed, IsSummedInPart}

within_most : (most n : ℕ) (o : Option ℕ) → within 0 most o ≡ Ok n → n ≤ most
within_most most n None e = absurd cc
within_most most n (Some m) e = by_case (nat_le 0 m) (nat_le m most) refl e
  where
    by_case : (a b : Bool) → nat_le m most ≡ b → cond (a && b) (Ok m) (Err Number) ≡ Ok n → n ≤ most
    by_case true true f e = let same : m ≡ n = cc in omega (arith, same, leb-true m most f)
    by_case true false f e = absurd cc
    by_case false b f e = absurd cc

few_rows : (seed steps : ℕ) (rows : List Row) → MeansMade rows seed steps → steps ≤ 9999
few_rows seed steps rows h = by_word (first_of (codes "steps") rows) h.1
  where
    by_word : (o : Option Text) → IsSomeAnd o (λ word. within 0 9999 (decimal_of word) ≡ Ok steps) → steps ≤ 9999
    by_word None k = absurd k
    by_word (Some word) k = within_most 9999 steps (decimal_of word) k

pub few_steps : (words : List Text) (seed steps : ℕ) → IsJobOf words (Make seed steps) → steps ≤ 9999
few_steps words seed steps h = by_found (subcommand_of whole words) h.1
  where
    by_found : (o : Option (Text × List Row)) → IsSomeAnd o (λ found. Means found.0 found.1 (Make seed steps)) → steps ≤ 9999
    by_found None k = absurd k
    by_found (Some found) k = few_rows seed steps found.1 k.1

-- what was written is the line that was made

pub is_summed : (seed steps : ℕ) (bytes : List ℕ) (old new : Option (List ℕ)) → bytes ≡ summary_of seed steps → IsSafe 4 (world_made seed steps) → MadeArePlayed → Appends old new bytes
    → IsSummed seed steps old new
is_summed seed steps bytes old new e safe played told = record { printed = subst (Appends old new) e told; safe = safe; played = played seed steps }

pub is_summed_in_part : (seed steps : ℕ) (bytes : List ℕ) (old new : Option (List ℕ)) → bytes ≡ summary_of seed steps
    → (n : ℕ) × ((n ≤ length bytes) × Appends old new (take n bytes)) → IsSummedInPart seed steps old new
is_summed_in_part seed steps bytes old new e (n, (within, told)) =
    record { count = n; within = subst (λ t. n ≤ length t) e within; printed = subst (λ t. Appends old new (take n t)) e told }

-- the words name one pair of numbers

seed_in : Job → ℕ
seed_in (Make seed steps) = seed
seed_in other = zero

steps_in : Job → ℕ
steps_in (Make seed steps) = steps
steps_in other = zero

pub summed_as : (s n seed steps : ℕ) (old new : Option (List ℕ)) → Make s n ≡ Make seed steps → IsSummed s n old new → IsSummed seed steps old new
unfolding seed_in steps_in
summed_as s n seed steps old new e h = subst (λ m. IsSummed seed m old new) (ap steps_in e) (subst (λ m. IsSummed m n old new) (ap seed_in e) h)
