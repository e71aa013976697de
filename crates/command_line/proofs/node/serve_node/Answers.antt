use Rattle.std.proofs.Common.{refl, rules}
use Rattle.command_line.proofs.Servings.{no_initiator, no_more_given}
use Rattle.command_line.proofs.node.serve_node.Goals as goal

pub returns-in-Coordinator : goal.returns-in-Coordinator
returns-in-Coordinator g c = record {
  served = λ other. c.attend.ensures.served;
  initiated = λ is. absurd (no_initiator c.args.serving.now.role c.in-Coordinator.is is);
  unread = λ other. refl;
  source_failed = search rules;
  sink_failed = c.attend.ensures.cause;
  too_long = search rules;
  not_longer = λ more. absurd (no_more_given _ more);
  longer = search rules;
  statuses = search rules;
}
