-- What bytes draw, and the report of a schedule, are determined by them.
use Rattle.std.specs.Prelude.{ℕ, List, ◌≡◌}
use Rattle.mirrored_nets.specs.Seen.{Seen}
use Rattle.net_plays.specs.NetReports.{IsNetReport}
use Rattle.raw_requests.specs.Draws.{Draws}
use Rattle.raw_requests.specs.declared.Drawn.{Drawn}
use Rattle.replay_cmd.specs.Laws.{IsReplayable}
use Rattle.replay_cmd.specs.declared.options.Options.{Options}
use Rattle.schedules.specs.declared.line.Line.{Line}
use Rattle.report_laws.specs.AlikeNets.{IsSameNet}

abbrev pub DrawOneThing : Type 0
DrawOneThing = (bytes : List ℕ) (a b : Drawn) → Draws bytes a → Draws bytes b → a ≡ b

-- Two reports of a schedule are the same text, whatever calls are armed in it, and with the bytes of its messages or without; and the nodes that they
-- come with are alike.
abbrev pub HaveOneReport : Type 0
HaveOneReport =
    (options : Options) (lines : List Line) (text other : List ℕ) (net one : Seen) → IsReplayable lines → IsNetReport options lines text net → IsNetReport options lines other one
    → (text ≡ other) × IsSameNet net one
