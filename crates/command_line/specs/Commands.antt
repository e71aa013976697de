-- The command line, as clap reads it.
use Rattle.std.specs.Prelude.{◌≡◌, [], ◌∷◌, Some, true, false, codes}
use Rattle.clap.specs.Simple.{App, app_of, new_app, new_rule, on_top, with_rule, with_subcommand}
use Rattle.clap.specs.Walk.{Rule, Text}
use Rattle.clap.specs.declared.builder.action.ArgAction.TheVariants.{Set, SetTrue}
use Rattle.clap.specs.declared.builder.command.Command.{Command}
use Rattle.clap.specs.declared.builder.command.Command.TheViews.{out-Command}

-- an option that takes one value
abbrev pub valued : Text → Rule
valued name = record (new_rule name) { long = Some name; action = Some Set; value_names = 1 }

-- one that must be given
abbrev pub wanted : Text → Rule
wanted name = record (valued name) { required = true }

-- one that has this value where it isn't given
abbrev pub preset : Text → Text → Rule
preset name value = record (valued name) { defaults = value ∷ [] }

-- a flag, which is true where it is given, and else false
abbrev pub flag : Text → Rule
flag name = record (new_rule name) { long = Some name; action = Some SetTrue }

-- a word that stands by itself
abbrev pub standing : Text → Rule
standing name = record (new_rule name) { index = Some 1; action = Some Set; value_names = 1; required = true }

-- `cell --state S`
abbrev pub cell : App
cell = with_rule (new_app (codes "cell")) (wanted (codes "state"))

-- `check [--path P]`; the path is `/` where none is given
abbrev pub check : App
check = with_rule (new_app (codes "check")) (preset (codes "path") (codes "/"))

-- `replay [--settle] [--bytes]`
abbrev pub replay : App
replay = with_rule (with_rule (new_app (codes "replay")) (flag (codes "settle"))) (flag (codes "bytes"))

-- `audit`
abbrev pub audit : App
audit = new_app (codes "audit")

-- `make --seed S --steps N`
abbrev pub make : App
make = with_rule (with_rule (new_app (codes "make")) (wanted (codes "seed"))) (wanted (codes "steps"))

-- `tick --to U`
abbrev pub tick : App
tick = with_rule (new_app (codes "tick")) (wanted (codes "to"))

-- the words begin behind the program's name, a command is wanted, and `--version` answers; `help` is no command
abbrev pub top : App
top = on_top (λ s. record s { no_binary_name = true; disable_help_subcommand = true; has_version = true; subcommand_required = true })
    (new_app (codes "atx"))

-- with the commands that read their input
abbrev pub filters : App
filters = with_subcommand (with_subcommand (with_subcommand top cell.top) check.top) replay.top

-- with the one that reads journals
abbrev pub auditing : App
auditing = with_subcommand filters audit.top

-- `journal [--hex BASE] FILE`
abbrev pub journal : App
journal = with_rule (with_rule (new_app (codes "journal")) (valued (codes "hex"))) (standing (codes "file"))

-- with the one that shows a journal
abbrev pub showing : App
showing = with_subcommand auditing journal.top

-- with the one that makes its schedule itself
abbrev pub printing : App
printing = with_subcommand showing make.top

-- `NAME --listen ADDR [--base URL] --journal F [--turns N]`
abbrev pub silent : Text → App
silent name =
    with_rule (with_rule (with_rule (with_rule (new_app name) (wanted (codes "listen"))) (valued (codes "base"))) (wanted (codes "journal"))) (valued (codes "turns"))

-- `NAME --listen ADDR [--base URL] --journal F [--turns N] [--log] [--status] [--tick-from-anywhere]`
abbrev pub serving : Text → App
serving name = with_rule (with_rule (with_rule (silent name) (flag (codes "log"))) (flag (codes "status"))) (flag (codes "tick-from-anywhere"))

-- with the command that posts
abbrev pub posting : App
posting = with_subcommand printing tick.top

-- with one that serves
abbrev pub coordinating : App
coordinating = with_subcommand posting (serving (codes "coordinator")).top

abbrev pub participating : App
participating = with_subcommand coordinating (serving (codes "participant")).top

abbrev pub whole : App
whole = with_subcommand participating (serving (codes "initiator")).top

-- clap's command is this one
pub record IsCommand (app : App) (command : Command) : Type 0 where
  pub is : app_of command ≡ app
  pub local : (out-Command command).has_globals ≡ false
