use Rattle.std.proofs.Common.{rules, ap, length, map, subst, true, ◌≡◌, ◌∙◌}
use Rattle.by_id.specs.Lists.{IsRising}
use Rattle.by_id.specs.Places.{IsFiled, id_at, left}
use Rattle.by_id.proofs.Places.{left_all, length_all}
use Rattle.by_id.proofs.list.ById.from_vec.Goals as goal
use Rattle.by_id.proofs.list.ById.from_vec.Goals.{then-is_rising, else-is_rising}

pub invariant_of-result : goal.invariant_of-result
invariant_of-result g c =
    let key = g.T.Identified.id_of in
    let ps = c.in_ok-places.places.items in
    let all = ap left c.in_ok-places.ensures.items ∙ left_all c.args.items.items in
    let many = ap length c.in_ok-places.ensures.items ∙ length_all c.args.items.items in
    let files : c.if-is_rising.filed ≡ true → IsFiled key c.if-is_rising.ids ps = λ e. elim c.if-is_rising.branch [
      | then-is_rising w ↦
          let ids = w.file_all-filed.ensures (search rules) ∙ ap (map (id_at key)) w.as_slice-then-is_rising.ensures.value in
          (subst (IsRising (id_at key)) c.as_slice.ensures.value (c.is_rising.ensures w.if-is_rising.true), search rules)
      | else-is_rising w ↦ absurd (search rules)
    ] in
    ((search rules, search rules, files), search rules)

pub returns : goal.returns
returns g c = ap left c.in_ok-places.ensures.items ∙ left_all c.args.items.items
