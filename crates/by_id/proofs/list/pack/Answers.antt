use Rattle.std.proofs.Common.{rules, ap, length, ◌∙◌}
use Rattle.std.proofs.lemmas.Fn.{filter_same}
use Rattle.by_id.specs.Places.{is_live, left}
use Rattle.by_id.proofs.Filed.{all_part}
use Rattle.by_id.proofs.Places.{left_packed, length_packed}
use Rattle.by_id.proofs.list.pack.Goals as goal

pub returns-then-len-live-clause-left : goal.returns-then-len-live-clause-left
returns-then-len-live-clause-left g c = ap left (filter_same _ is_live _ (λ x b f' k. search rules) _ _ c.retain.ensures.filtered) ∙ left_packed c.args.places.now.items

pub returns-then-len-live-clause-few : goal.returns-then-len-live-clause-few
returns-then-len-live-clause-few g c =
    let many = ap length (filter_same _ is_live _ (λ x b f' k. search rules) _ _ c.retain.ensures.filtered) ∙ length_packed c.args.places.now.items in
    search rules

pub returns-then-len-live-clause-part : goal.returns-then-len-live-clause-part
returns-then-len-live-clause-part g c = let kept = c.retain.ensures.filtered in (kept.0, kept.4)

pub returns-else-len-live-clause-part : goal.returns-else-len-live-clause-part
returns-else-len-live-clause-part g c = all_part c.args.places.now.items
