use Rattle.std.proofs.Common.{rules, sym, subst, ◌∙◌, ◌≡◌, ◌++◌, ◌∷◌, [], length, insert, true, false}
use Rattle.std.specs.Prelude.{slice_get}
use Rattle.transaction_at.specs.Filed.{IsFiled, passes, ties}
use Rattle.transaction_at.specs.Holders.{Holder, holders, rank}
use Rattle.transaction_at.proofs.SeatHolders.{Parts, index_noted, index_put}
use Rattle.transaction_at.proofs.holders.note.Goals as goal

pub returns-then-is_noted-clause-index : goal.returns-then-is_noted-clause-index
returns-then-is_noted-clause-index c =
    let h : Holder = record { kind = c.args.kind; participant = c.args.participant.now } in
    let noted = sym c.is_noted.ensures ∙ c.if-is_noted.true in
    index_noted h c.args.index.now.items c.args.seats.now c.first_from-at.result c.requires.index
    (subst (λ v. passes (ties rank h (holders c.args.seats.now)) (slice_get v c.first_from-at.result) ≡ true) c.as_slice-2.ensures.value noted)

pub returns-clause-index : goal.returns-clause-index
returns-clause-index c =
    let h : Holder = record { kind = c.args.kind; participant = c.args.participant.now } in
    let other = sym c.is_noted.ensures ∙ c.if-is_noted.false in
    let put : c.insert.new.self.items ≡ insert c.args.index.now.items c.first_from-at.result (length c.args.seats.now) = search rules in
    subst (λ v. IsFiled rank v (holders c.args.seats.now ++ h ∷ [])) (sym put)
    (index_put h c.args.index.now.items c.args.seats.now c.first_from-at.result c.requires.index (search rules)
    (subst (λ v. Parts h v c.args.seats.now c.first_from-at.result) c.as_slice.ensures.value c.first_from-at.ensures.place)
    (subst (λ v. passes (ties rank h (holders c.args.seats.now)) (slice_get v c.first_from-at.result) ≡ false) c.as_slice-2.ensures.value other))
