-- Reports of plays.
use Rattle.std.proofs.Common.{ℕ, ◌≡◌, ◌<◌, ◌^◌, ◌++◌, List, length, map, refl, subst, sym, arith}
use Rattle.std.specs.Prelude.{Bool}
use Rattle.std.proofs.lemmas.List.{length-map}
use Rattle.asked_nets.specs.Happened.{MirrorsAt}
use Rattle.memory_net.specs.Closed.{StaysClosed}
use Rattle.memory_net.specs.Mails.{mail_of}
use Rattle.memory_net.specs.declared.letter.Letter.{Letter}
use Rattle.model_laws.specs.Agreement.{Agrees}
use Rattle.model_laws.specs.MadeIds.{MakesNoIdTwice}
use Rattle.model_laws.specs.ReachedWorlds.{ExamplesAreApart}
use Rattle.model_laws.specs.Registrations.{EnlistsUnderOne}
use Rattle.model_laws.specs.Settlement.{Settles}
use Rattle.printed_agreement.specs.RegisterAnswers.{EventsBring}
use Rattle.replay_cmd.specs.Laws.{IsReplayable}
use Rattle.replay_cmd.specs.ReportOf.{ended, nodes_of}
use Rattle.replay_cmd.specs.declared.options.Options.{Options}
use Rattle.reported_effects.specs.EffectLines.{Tells}
use Rattle.schedules.specs.declared.line.Line.{Line}
use Rattle.site_memory.specs.Sites.{told_of}
use Rattle.world_laws.specs.Moves.{ChangesByMoves}
use Rattle.net_plays.specs.MessageBytes.{shown}
use Rattle.net_plays.specs.NetReports.{IsNetReport, IsPlayOf}
use Rattle.net_plays.specs.PlayedLines.{TakesAll}
use Rattle.net_plays.specs.Plays.{IsBegun, IsPlayed, Play, Rests}
use Rattle.net_plays.proofs.AgreeingReports.{agreed_in_print}
use Rattle.net_plays.proofs.PlayedRuns.{IsOfRun, comes_to_rest, is_safe, lines_run, play_run}
use Rattle.net_plays.proofs.TellingReports.{on_one_line, shown_tells}
use Rattle.net_plays.proofs.ToldPlays.{play_tells}

pub is_play : (settles : Bool) (all : List Line) (count : ℕ) (first last play : Play) → count ≡ nodes_of all → IsBegun count first → TakesAll all first last → Rests settles last play → IsPlayOf settles all play
is_play settles all count first last play many begun taken rests = record { first = first; begun = subst (λ n. IsBegun n first) many begun; last = last; lines = taken; rests = rests }

pub few_mails : (ls : List Letter) → length ls < 2 ^ 64 → length (map mail_of ls) < 2 ^ 64
few_mails ls few = subst (λ n. n < 2 ^ 64) (sym (length-map ls mail_of)) few

-- what the laws say of runs and of what is printed
pub record Laws : Type 0 where
  pub moves : ChangesByMoves
  pub closes : StaysClosed told_of
  pub bring : EventsBring
  pub apart : ExamplesAreApart
  pub agrees : Agrees
  pub superior : EnlistsUnderOne
  pub made : MakesNoIdTwice
  pub settles : Settles

pub is_report : Laws → (options : Options) (all : List Line) (text : List ℕ) (play : Play) → IsReplayable all → IsPlayOf options.settle all play → IsPlayed play
    → text ≡ shown options.bytes (map mail_of play.net.letters) (play.text ++ ended play.world) → length (map mail_of play.net.letters) < 2 ^ 64 → IsNetReport options all text play.net
is_report laws options all text play can of played is short =
    let count : ℕ = nodes_of all in
    let few : count < 2 ^ 64 = omega (arith, can.most) in
    let r : IsOfRun count play = play_run count options.settle all of.first of.last play of.begun of.lines of.rests in
    let before : IsOfRun count of.last = lines_run count all of.first of.last of.begun of.lines in
    let mirrors : MirrorsAt count play.net play.world = subst (λ n. MirrorsAt n play.net play.world) r.many played.mirrors in
    let own = laws.apart count (omega (arith, can.most)) in
    let safe = is_safe count play r own laws.agrees laws.superior laws.made in
    let tells : Tells text play.world.happened =
    subst (λ t. Tells t play.world.happened) (sym is)
    (shown_tells options.bytes (map mail_of play.net.letters) (play.text ++ ended play.world) play.world.happened
    (play_tells laws.moves count options.settle all of.first of.last play of.begun of.lines of.rests (on_one_line laws.closes count play.net play.world few mirrors))) in
    record {
      play = play;
      of = of;
      net_is = refl;
      is = is;
      run = r.run;
      mirrors = mirrors;
      tells = tells;
      agrees = agreed_in_print laws.bring laws.closes options.settle options.bytes all count of.first of.last play text few of.begun of.lines of.rests is short mirrors tells safe.agreed;
      safe = safe;
      settled = comes_to_rest count options.settle of.last play before of.rests own laws.settles;
    }
