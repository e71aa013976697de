-- What a test of items keeps of places is what it keeps of the items that are left.
use Rattle.std.proofs.Common.{List, [], ◌∷◌, Bool, true, false, ◌≡◌, ◌∙◌, refl, sym, ap, subst, ◌+◌, suc, length, arith}
use Rattle.std.specs.List.{items_where_true}
use Rattle.std.specs.List.Retain.{IsFiltered, ReturnsInTurn}
use Rattle.by_id.specs.Places.{left, told_at}
use Rattle.by_id.specs.declared.place.Place.{Place}
use Rattle.by_id.specs.declared.place.Place.TheVariants as places

-- `at` is the test of items behind one of places
module _ {A P Q : Type 0} (R : P → Place A → Bool → P → Type 0) (S : Q → A → Bool → Q → Type 0) (at : P → Q) where
  abbrev Tells : Type 0
  Tells = (p : P) (x : Place A) (b : Bool) (q : P) → R p x b q → told_at S (at p) x b (at q)

  -- what is kept at places by these answers, as it is kept of the items
  abbrev Keeps : P → List Bool → List (Place A) → P → Type 0
  Keeps p bs ps q = (cs : List Bool) × (length cs ≡ length (left ps)) × ReturnsInTurn S (at p) cs (left ps) (at q)
      × (left (items_where_true bs ps) ≡ items_where_true cs (left ps)) × (length (left (items_where_true bs ps)) + length ps ≡ length (left ps) + length (items_where_true bs ps))

  keeps : Tells → (bs : List Bool) (p q : P) (ps : List (Place A)) → length bs ≡ length ps → ReturnsInTurn R p bs ps q → Keeps p bs ps q
  keeps tells [] p q [] many told = ([], refl, ap at told, refl, refl)
  keeps tells [] p q (x ∷ ps) many told = absurd (omega arith)
  keeps tells (b ∷ bs) p q [] many told = absurd told
  keeps tells (true ∷ bs) p q (places.Live x ∷ ps) many told =
      let rest = keeps tells bs told.0 q ps (omega arith) told.2 in
      (true ∷ rest.0, ap suc rest.1, (at told.0, tells p (places.Live x) true told.0 told.1, rest.2), ap (λ xs. x ∷ xs) rest.3, omega (arith, rest.4))
  keeps tells (false ∷ bs) p q (places.Live x ∷ ps) many told =
      let rest = keeps tells bs told.0 q ps (omega arith) told.2 in
      (false ∷ rest.0, ap suc rest.1, (at told.0, tells p (places.Live x) false told.0 told.1, rest.2), rest.3, omega (arith, rest.4))
  keeps tells (true ∷ bs) p q (places.Gone id ∷ ps) many told =
      let rest = keeps tells bs told.0 q ps (omega arith) told.2 in
      (rest.0, rest.1, subst (λ s. ReturnsInTurn S s rest.0 (left ps) (at q)) (tells p (places.Gone id) true told.0 told.1).1 rest.2, rest.3, omega (arith, rest.4))
  keeps tells (false ∷ bs) p q (places.Gone id ∷ ps) many told = let yes = (tells p (places.Gone id) false told.0 told.1).0 in absurd cc

  pub left_kept : (p : P) (ps qs : List (Place A)) → IsFiltered R p ps qs → Tells → IsFiltered S (at p) (left ps) (left qs)
  left_kept p ps qs kept tells =
      let k = keeps tells kept.0 p kept.1 ps kept.2 kept.3 in
      (k.0, at kept.1, k.1, k.2, ap left kept.4 ∙ k.3)

  -- as many items go as places
  pub many_kept : (p : P) (ps qs : List (Place A)) → IsFiltered R p ps qs → Tells → length (left qs) + length ps ≡ length (left ps) + length qs
  many_kept p ps qs kept tells =
      let k = keeps tells kept.0 p kept.1 ps kept.2 kept.3 in
      subst (λ rs. length (left rs) + length ps ≡ length (left ps) + length rs) (sym kept.4) k.4
