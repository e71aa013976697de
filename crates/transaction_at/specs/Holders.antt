-- Who holds a seat: its kind and its endpoint, in an order of these.
use Rattle.std.specs.Prelude.{ℕ, List, map}
use Rattle.std.specs.Cmp.Lexicographic.{slice_cmp}
use Rattle.std.specs.Ordering.{nat_cmp, ordering_then}
use Rattle.std.specs.declared.cmp.Ordering.{Ordering}
use Rattle.at_base.specs.Names.{kind_place}
use Rattle.at_base.specs.declared.epr.Epr.{Epr}
use Rattle.at_base.specs.declared.notice.Kind.{Kind}
use Rattle.at_model.specs.Book.{Enlistment}
use Rattle.transaction_at.specs.Filed.{IsFiled}

pub record Holder : Type 0 where
  pub kind : Kind
  pub participant : Epr

abbrev pub holder_of : Enlistment → Holder
holder_of s = record { kind = s.kind; participant = s.participant }

abbrev pub holders : List Enlistment → List Holder
holders seats = map holder_of seats

abbrev pub rank : Holder → Holder → Ordering
rank a b =
    ordering_then (nat_cmp (kind_place a.kind) (kind_place b.kind))
    (ordering_then (slice_cmp nat_cmp a.participant.address b.participant.address) (slice_cmp nat_cmp a.participant.params b.participant.params))

-- the places of these seats, by their holders
abbrev pub IsIndex : List ℕ → List Enlistment → Type 0
IsIndex places seats = IsFiled rank places (holders seats)
