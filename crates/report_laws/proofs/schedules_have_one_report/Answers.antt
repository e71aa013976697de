use Rattle.report_laws.proofs.Reports.{one_report}
use Rattle.report_laws.proofs.schedules_have_one_report.Goals as goal

pub returns : goal.returns
returns c =
    one_report
    (record {
      draw = c.bytes_draw_one_thing.ensures;
      apart = c.are_apart.ensures;
      turns = c.turns_are_determined.ensures;
      requests = c.requests_are_determined.ensures;
      starts = c.starts_are_determined.ensures;
      falls = c.falls_are_determined.ensures;
      stay = c.hosts_stay_alike.ensures;
      readings = c.events_have_one_reading.ensures;
      nodes = c.net_nodes_can_go.ensures;
    })
    (record { marked = c.down_are_marked.ensures; back = c.takes_nothing_back.ensures; grow = c.runs_grow.ensures }) c.nets_mirror.ensures
