use Rattle.std.proofs.Common.{ℕ, length, ◌≡◌, ◌-◌, sym, ap, ◌∙◌, arith, nat_eq, drop}
use Rattle.std.specs.List.{list_all}
use Rattle.std.proofs.lemmas.List.{length-drop}
use Rattle.std.proofs.lemmas.Bool.{true≢false}
use Rattle.std.proofs.lemmas.Slice.Eq.{bytes_eq-Decides}
use Rattle.http_post.proofs.Counts.{other_end, same_end}
use Rattle.http_post.proofs.lengths.is_longer_same.Goals as goal

-- src/lengths.rt:62:1
pub returns-then-eq : goal.returns-then-eq
returns-then-eq c =
    let k : ℕ = length c.args.long.now - length c.args.short.now in
    let len : length (drop k c.args.long.now) ≡ length c.args.short.now = omega (arith, length-drop k c.args.long.now, c.requires.order) in
    same_end c.args.long.now c.args.short.now k c.requires.long c.requires.short len
    c.all_zeros.result (c.all_zeros.ensures ∙ ap (list_all (nat_eq 48)) c.split_at.ensures.front)
    (sym c.split_at.ensures.back ∙ (bytes_eq-Decides c.split_at.result.1.now c.args.short.now).0 (sym c.if-eq.ensures))

-- src/lengths.rt:62:1
pub returns-else-eq : goal.returns-else-eq
returns-else-eq c =
    let k : ℕ = length c.args.long.now - length c.args.short.now in
    let len : length (drop k c.args.long.now) ≡ length c.args.short.now = omega (arith, length-drop k c.args.long.now, c.requires.order) in
    c.if-eq.false ∙ other_end c.args.long.now c.args.short.now k c.requires.long c.requires.short len
    (λ e. true≢false (sym ((bytes_eq-Decides c.split_at.result.1.now c.args.short.now).1 (c.split_at.ensures.back ∙ e)) ∙ sym c.if-eq.ensures))
