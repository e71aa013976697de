-- How many connections are read aside, and how many bytes of them.
use Rattle.std.proofs.Common.{ℕ, List, [], ◌∷◌, suc, ◌++◌, ◌≡◌, ◌≤◌, ◌<◌, ◌+◌, ◌-◌, sym, ap, subst, slice_index_or, length, take, drop, length-append, arith}
use Rattle.std.specs.List.{remove, sum_by}
use lib.ListN.{set}
use Rattle.std.proofs.lemmas.List.{length-set}
use Rattle.std.proofs.lemmas.List.Edits.{length-remove}
use Rattle.std.proofs.lemmas.List.Elements.{All-append, All-drop, All-nil, All-push, All-set, All-take}
use Rattle.std.proofs.lemmas.List.Sums.{sum_by-append, sum_by-remove, sum_by-set}
use Rattle.atx_sites.specs.Arrivals.{Bounded, size_of}
use Rattle.atx_sites.specs.declared.arriving.Arriving.{Arriving}

module _ {C : Type 0} where
  pub bounded_none : Bounded {C = C} []
  bounded_none = (omega arith, omega arith, All-nil (λ a. size_of a ≤ 131_072))

  pub bounded_removed : (items : List (Arriving C)) (i : ℕ) (d : Arriving C) → i < length items → Bounded items → Bounded (remove items i)
  bounded_removed items i d h (count, bytes, each) = (
    omega (arith, count, length-remove items i h),
    omega (arith, bytes, sum_by-remove size_of items i d h),
    All-append (λ a. size_of a ≤ 131_072) (take i items) (drop (suc i) items) (All-take (λ a. size_of a ≤ 131_072) i items each) (All-drop (λ a. size_of a ≤ 131_072) (suc i) items each),
  )

  pub bounded_set : (items : List (Arriving C)) (i : ℕ) (old new : Arriving C) → i < length items → old ≡ slice_index_or items i old → (more : ℕ) → size_of new ≤ size_of old + more → more ≡ 67_108_864 - sum_by size_of items
      → (size_of old ≤ 131_072 → size_of new ≤ 131_072) → Bounded items → Bounded (set items i new)
  bounded_set items i old new h is more most room small (count, bytes, each) =
      let before : size_of (slice_index_or items i old) ≡ size_of old = ap size_of (sym is) in (
        omega (arith, count, length-set items i new),
        omega (arith, bytes, most, room, before, sum_by-set size_of items i new old h),
        All-set (λ a. size_of a ≤ 131_072) items i new (small (subst (λ a. size_of a ≤ 131_072) (sym is) (each i old h))) each,
      )

  pub bounded_left : (items : List (Arriving C)) (i : ℕ) (old new d : Arriving C) → i < length items → old ≡ slice_index_or items i old → (more : ℕ) → size_of new ≤ size_of old + more → more ≡ 67_108_864 - sum_by size_of items
      → (size_of old ≤ 131_072 → size_of new ≤ 131_072) → Bounded items → Bounded (remove (set items i new) i)
  bounded_left items i old new d h is more most room small b =
      let within : i < length (set items i new) = omega (arith, h, length-set items i new) in
      bounded_removed (set items i new) i d within (bounded_set items i old new h is more most room small b)

  pub bounded_pushed : (items : List (Arriving C)) (a : Arriving C) → length items < 1_024 → size_of a ≤ 67_108_864 - sum_by size_of items → size_of a ≤ 131_072 → Bounded items
      → Bounded (items ++ a ∷ [])
  bounded_pushed items a room fits small (count, bytes, each) = (
    omega (arith, room, length-append items (a ∷ [])),
    omega (arith, bytes, fits, sum_by-append size_of items (a ∷ [])),
    All-push (λ x. size_of x ≤ 131_072) items a each small,
  )
