-- Two plays of a schedule are alike, and so it has one report.
use Rattle.std.proofs.Common.{ℕ, ◌≡◌, ◌++◌, List, map, ap, subst, sym, ◌∙◌}
use Rattle.std.specs.Prelude.{Bool}
use Rattle.memory_net.specs.Mails.{mail_of}
use Rattle.mirrored_nets.specs.Goings.{NetsMirror}
use Rattle.mirrored_nets.specs.Seen.{Seen}
use Rattle.net_plays.specs.MessageBytes.{shown}
use Rattle.net_plays.specs.NetReports.{IsNetReport, IsPlayOf}
use Rattle.net_plays.specs.Plays.{Play}
use Rattle.replay_cmd.specs.Laws.{IsReplayable}
use Rattle.replay_cmd.specs.ReportOf.{ended, nodes_of}
use Rattle.replay_cmd.specs.declared.options.Options.{Options}
use Rattle.schedules.specs.declared.line.Line.{Line}
use Rattle.report_laws.specs.AlikeNets.{IsSameNet}
use Rattle.report_laws.specs.Laws.{HaveOneReport}
use Rattle.report_laws.proofs.AlikeLines.{lines_alike, rests_alike}
use Rattle.report_laws.proofs.AlikePlays.{AreAlike, WorldLaws}
use Rattle.report_laws.proofs.Beginnings.{begin_alike}
use Rattle.report_laws.proofs.NodeLaws.{NodeLaws}

plays_alike : NodeLaws → WorldLaws → NetsMirror → (settles : Bool) (all : List Line) (p q : Play) → IsReplayable all → IsPlayOf settles all p → IsPlayOf settles all q → AreAlike p q
plays_alike L W mirror settles all p q may h k =
    (rests_alike L W settles h.last p k.last q
    (lines_alike L W all h.first h.last k.first k.last (begin_alike L W (nodes_of all) mirror may.least may.most h.first k.first h.begun k.begun) h.lines k.lines)
    h.rests k.rests).alike

pub one_report : NodeLaws → WorldLaws → NetsMirror → HaveOneReport
one_report L W mirror options all text other net one may h k =
    let A = plays_alike L W mirror options.settle all h.play k.play may h.of k.of in
    let nets : IsSameNet net one = subst (λ z. IsSameNet z one) (sym h.net_is) (subst (IsSameNet h.play.net) (sym k.net_is) A.net) in
    (h.is ∙ ((λ j. shown options.bytes (nets.letters j) (A.text j ++ ended (A.world j))) ∙ sym k.is), nets)
