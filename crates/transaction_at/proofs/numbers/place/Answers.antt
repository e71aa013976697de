use Rattle.std.proofs.Common.{rules, true, false, ◌≡◌}
use Rattle.std.proofs.lemmas.List.Elements.{at_read}
use Rattle.at_model.specs.Book.{Enlistment}
use Rattle.transaction_at.specs.Numbers.{is_numbered}
use Rattle.transaction_at.proofs.SeatNumbers.{found_at, found_none}
use Rattle.transaction_at.proofs.numbers.place.Goals as goal

pub returns-then-place-seats : goal.returns-then-place-seats
returns-then-place-seats c =
    let none = found_none c.args.number c.args.seats.now _ c.requires c.first_from-place.ensures.place (λ l. absurd (search rules)) in
    search rules

pub returns-then-seat-number : goal.returns-then-seat-number
returns-then-seat-number c =
    found_at c.args.number c.args.seats.now _ c.first_from-place.ensures.place (search rules)
    (at_read c.args.seats.now (λ (s : Enlistment). is_numbered c.args.number s ≡ true) _ c.index-seats-place.result (search rules) (search rules) (search rules))

pub returns-else-seat-number : goal.returns-else-seat-number
returns-else-seat-number c =
    found_none c.args.number c.args.seats.now _ c.requires c.first_from-place.ensures.place
    (λ l. at_read c.args.seats.now (λ (s : Enlistment). is_numbered c.args.number s ≡ false) _ c.index-seats-place.result l (search rules) (search rules))
