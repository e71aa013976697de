use Rattle.std.proofs.Common.{rules, ◌≤◌, length, ap, sym, subst, ◌∙◌, ◌++◌, ◌∷◌, []}
use Rattle.at_model.specs.Book.{Enlistment}
use Rattle.transaction_at.specs.Counts.{marks, more}
use Rattle.transaction_at.specs.Numbers.{IsRising}
use Rattle.transaction_at.proofs.Rooms.{kept_noted, kept_pushed}
use Rattle.transaction_at.proofs.transaction.Seats.enlist.Goals as goal
use Rattle.transaction_at.proofs.transaction.Seats.enlist.Goals.{then-self, else-self}

pub invariant_of-self-2 : goal.invariant_of-self-2
invariant_of-self-2 c =
    let grown = c.push_reserved.ensures.items ∙ ap (λ v. v ++ c.args.seat ∷ []) c.make_room.ensures.items in
    let wide = c.make_room.ensures.more (search rules) in
    let kept = kept_pushed c.self.inside.items.items _ c.args.seat c.self.inside.counts _ _ _ _ grown c.self.invariant.0
    (c.with-self-inside.ensures ∙ ap (λ (s : Enlistment). more c.self.inside.counts (marks s.kind s.state)) c.seat.view_is)
    (λ rises. elim c.if-self.branch [
      | then-self w ↦
          let same = w.as_slice.ensures.value ∙ c.make_room.ensures.items in
          let risen = w.is_next-self-inside.ensures (sym w.self-is ∙ rises) (subst IsRising (sym same) (c.self.invariant.1 w.if-self.true)) in
          subst (λ v. IsRising (v ++ c.args.seat ∷ [])) same risen
      | else-self w ↦ absurd (search rules)
    ])
    wide.1 c.push_reserved.ensures.capacity in
    let few = subst (λ v. length v ≤ length c.self.inside.items.items) (sym c.make_room.ensures.places) c.self.invariant.4 in
    let noted = kept_noted c.self.inside.items.items c.as_slice-2.result.now _ c.args.seat _ c.make_room.new.index.items c.note.new.index.items _ _ grown
    (c.as_slice-2.ensures.value ∙ c.make_room.ensures.items) c.seat.view_is c.note.ensures.index c.note.ensures.length few wide.3 c.note.ensures.room in
    (kept.0, kept.1, kept.2, noted.0, noted.1, noted.2)
