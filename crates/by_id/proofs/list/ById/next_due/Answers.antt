use Rattle.std.proofs.Common.{ap, rules, ◌∙◌}
use Rattle.std.proofs.lemmas.List.{take_rest}
use Rattle.by_id.specs.Lists.{next_due}
use Rattle.by_id.specs.Places.{left}
use Rattle.by_id.proofs.Rising.{next_from}
use Rattle.by_id.proofs.list.ById.next_due.Goals as goal
use Rattle.by_id.proofs.list.ById.next_due.Goals.{in-Some, in_default-2, in_default}

pub returns : goal.returns
returns g c =
    let key = g.T.Identified.id_of in
    let due = g.T.Identified.is_due_at c.args.moment.now in
    let walked = c.first_due.ensures ∙ ap (λ ps. next_due key due c.match-after.after (left ps)) (take_rest c.as_slice-places.result.now c.match-after.start) in
    elim c.match-after.branch [
      | in-Some w ↦
          let from = next_from key due w.in-Some.last c.as_slice-places.result.now w.place_before-start.result w.place_before-start.ensures.before in
          search rules
      | in_default-2 w ↦ search rules
      | in_default w ↦ search rules
    ]
