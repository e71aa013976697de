use Rattle.std.proofs.Common.{◌≡◌, ◌++◌, OnOk, subst}
use Rattle.at_base.specs.declared.record.Record.TheVariants as records
use Rattle.audit_at.proofs.Adds.{leaf_adds, vote_adds}
use Rattle.audit_at.proofs.outcomes.add_one.Goals as goal

pub returns-in_ok-leaf-in-LeafPrepared : goal.returns-in_ok-leaf-in-LeafPrepared
returns-in_ok-leaf-in-LeafPrepared c =
    let is : c.args.entry.now ≡ records.LeafPrepared c.in-LeafPrepared.id c.in-LeafPrepared.coordinator c.in-LeafPrepared.key c.in-LeafPrepared.value = cc (c.in-LeafPrepared.is) in
    subst (λ xs. OnOk c.add_leaf.result (c.add_leaf.new.outcomes.items ≡ c.args.outcomes.now.items ++ xs))
    (leaf_adds c.args.subs.now c.args.base.now c.args.entry.now c.in-LeafPrepared.id c.in-LeafPrepared.coordinator c.in-LeafPrepared.key c.in-LeafPrepared.value c.args.rest.now
    c.in_ok-leaf-in-LeafPrepared.leaf is c.in_ok-leaf-in-LeafPrepared.ensures) c.add_leaf.ensures

pub returns-in_ok-item-in-Voted : goal.returns-in_ok-item-in-Voted
returns-in_ok-item-in-Voted c =
    let is : c.args.entry.now ≡ records.Voted c.in-Voted.id c.in-Voted.superior c.in-Voted.seats = cc (c.in-Voted.is) in
    subst (λ xs. OnOk c.add_subordinate.result (c.add_subordinate.new.outcomes.items ≡ c.args.outcomes.now.items ++ xs))
    (vote_adds c.args.subs.now c.args.base.now c.args.entry.now c.in-Voted.id c.in-Voted.superior c.in-Voted.seats c.args.rest.now c.in_ok-item-in-Voted.item is c.in_ok-item-in-Voted.ensures)
    c.add_subordinate.ensures
