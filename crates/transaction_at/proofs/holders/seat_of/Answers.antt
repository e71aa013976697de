use Rattle.std.proofs.Common.{rules, sym, ◌∙◌}
use Rattle.transaction_at.specs.Holders.{Holder}
use Rattle.transaction_at.proofs.SeatHolders.{seat_absent, seat_found, seat_other}
use Rattle.transaction_at.proofs.holders.seat_of.Goals as goal

pub returns-then-at-index : goal.returns-then-at-index
returns-then-at-index c =
    let h : Holder = record { kind = c.args.kind; participant = c.args.participant.now } in
    sym (seat_absent h c.args.index.now c.args.seats.now _ c.requires c.first_from-at.ensures.place (λ l. absurd (search rules)))

pub returns-then-is_held : goal.returns-then-is_held
returns-then-is_held c =
    let h : Holder = record { kind = c.args.kind; participant = c.args.participant.now } in
    c.seat_at.ensures ∙ seat_found h c.args.index.now c.args.seats.now _ _ c.requires c.first_from-at.ensures.place (search rules) (search rules) (search rules)

pub returns-else-is_held : goal.returns-else-is_held
returns-else-is_held c =
    let h : Holder = record { kind = c.args.kind; participant = c.args.participant.now } in
    sym (seat_other h c.args.index.now c.args.seats.now _ _ c.requires c.first_from-at.ensures.place (sym c.is_held.ensures ∙ c.if-is_held.false) (search rules) (search rules))
