use Rattle.std.proofs.Common.{◌≡◌, OnOk, subst}
use Rattle.at_base.specs.declared.record.Record.TheVariants as records
use Rattle.audit_at.proofs.Adds.{votes_again, votes_last}
use Rattle.audit_at.proofs.superiors.add_one.Goals as goal

pub returns-then-any_voted : goal.returns-then-any_voted
returns-then-any_voted c =
    let is : c.args.entry.now ≡ records.Voted c.in-Voted.id c.in-Voted.superior c.in-Voted.seats = cc (c.in-Voted.is) in
    votes_again c.args.subs.now.items c.args.base.now c.args.entry.now c.in-Voted.id c.in-Voted.superior c.in-Voted.seats c.args.rest.now is (cc (c.any_voted.ensures, c.if-any_voted.true))

pub returns-in_ok-superior-in-Voted : goal.returns-in_ok-superior-in-Voted
returns-in_ok-superior-in-Voted c =
    let is : c.args.entry.now ≡ records.Voted c.in-Voted.id c.in-Voted.superior c.in-Voted.seats = cc (c.in-Voted.is) in
    subst (λ xs. OnOk c.push.result (c.push.new.subs.items ≡ xs))
    (votes_last c.args.subs.now.items c.args.base.now c.args.entry.now c.in-Voted.id c.in-Voted.superior c.in-Voted.seats c.args.rest.now c.in_ok-superior-in-Voted.superior is
    (cc (c.any_voted.ensures, c.if-any_voted.false)) (cc (c.in_ok-superior-in-Voted.ensures, c.as_str.ensures))) c.push.ensures
