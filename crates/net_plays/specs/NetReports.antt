-- The report of a schedule that was played over nodes on machines in memory.
use Rattle.std.specs.Prelude.{ℕ, List, Bool, true, ◌++◌, ◌≡◌, map}
use Rattle.std.specs.List.{AllByRecursion}
use Rattle.asked_nets.specs.Happened.{MirrorsAt}
use Rattle.at_model.specs.World.{example_hosts, run_of}
use Rattle.memory_net.specs.Mails.{mail_of}
use Rattle.mirrored_nets.specs.Seen.{Seen}
use Rattle.model_laws.specs.Settlement.{MayStart, is_settled}
use Rattle.printed_agreement.specs.PrintedAgreement.{AgreesInPrint}
use Rattle.replay_cmd.specs.Laws.{IsSafe}
use Rattle.replay_cmd.specs.ReportOf.{ended, nodes_of}
use Rattle.replay_cmd.specs.declared.options.Options.{Options}
use Rattle.reported_effects.specs.EffectLines.{Tells}
use Rattle.schedules.specs.Words.{lines_of}
use Rattle.schedules.specs.declared.line.Line.{Line}
use Rattle.net_plays.specs.MessageBytes.{shown}
use Rattle.net_plays.specs.PlayedLines.{TakesAll}
use Rattle.net_plays.specs.Plays.{IsBegun, Play, Rests}

-- Nodes each of which had come up before took the lines one after another, and then what brings their world to rest, where that is asked.
pub record IsPlayOf (settles : Bool) (all : List Line) (play : Play) : Type 0 where
  pub first : Play
  pub begun : IsBegun (nodes_of all) first
  pub last : Play
  pub lines : TakesAll all first last
  pub rests : Rests settles last play

-- The text is what was printed of such a play, with the bytes of the letters where they are asked for; and the nodes are those at its end. Its world is
-- that of the run of its events, and the nodes mirror it. The lines that tell how something ended are, in order, those of what happened in it. No two
-- of one transaction end differently, in that world and as one reads it off the printed lines alone; and all else holds of it that holds of every run.
-- It is at rest where that was asked, and no node has spent its incarnations.
pub record IsNetReport (options : Options) (all : List Line) (text : List ℕ) (net : Seen) : Type 0 where
  pub play : Play
  pub of : IsPlayOf options.settle all play
  pub net_is : net ≡ play.net
  pub is : text ≡ shown options.bytes (map mail_of net.letters) (play.text ++ ended play.world)
  pub run : play.world ≡ run_of (example_hosts (nodes_of all)) play.events
  pub mirrors : MirrorsAt (nodes_of all) net play.world
  pub tells : Tells text play.world.happened
  pub agrees : AgreesInPrint (lines_of text)
  pub safe : IsSafe (nodes_of all) play.world
  pub settled : options.settle ≡ true → AllByRecursion MayStart of.last.world.nodes → is_settled play.world ≡ true
