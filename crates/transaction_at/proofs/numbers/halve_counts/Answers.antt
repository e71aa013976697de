use Rattle.std.proofs.Common.{rules, ◌≡◌, ◌<◌, ◌∙◌, sym, ap, length, get_or}
use Rattle.at_model.specs.Book.{Enlistment}
use Rattle.transaction_at.specs.Counts.{less, marks, more}
use Rattle.transaction_at.specs.Numbers.{place_of}
use Rattle.transaction_at.proofs.SeatNumbers.{counted_at}
use Rattle.transaction_at.proofs.numbers.halve_counts.Goals as goal

pub returns-then-place-seats : goal.returns-then-place-seats
returns-then-place-seats c =
    let s : Enlistment = c.index-seats-place.result in
    let within : place_of c.args.number c.args.seats.now < length c.args.seats.now = search rules in
    let here : s ≡ get_or c.args.seats.now (place_of c.args.number c.args.seats.now) s = search rules in
    let counts : c.moved.result ≡ less (more c.args.counts (marks s.kind c.args.state)) (marks s.kind s.state) = search rules in
    counts ∙ ap (λ k. less (more k (marks s.kind c.args.state)) (marks s.kind s.state)) c.requires.counts
    ∙ sym (counted_at c.args.number c.args.state s c.args.seats.now c.requires.rising within here)
