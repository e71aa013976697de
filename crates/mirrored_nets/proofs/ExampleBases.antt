-- The bases of eight nodes.
use Rattle.std.specs.Prelude.{ℕ, List, ◌+◌, ◌≡◌, ◌≤◌, ◌<◌, Bool, true, false, bytes_eq, nat_lt}
use Rattle.std.proofs.Common.{ap, arith, refl, sym, ◌∙◌}
use Rattle.std.proofs.lemmas.Bool.{false≢true, ltb-false, ltb-true}
use Rattle.std.proofs.lemmas.Slice.Eq.{bytes_eq-Decides}
use Rattle.at_model.specs.World.{example_base}
use Rattle.memory_net.specs.Closed.{IsExampleBase}
use Rattle.mirrored_nets.specs.ExampleRequests.{IsBaseOfEight}

pub is_one : (number : ℕ) (base : List ℕ) → 1 ≤ number → number < 9 → bytes_eq base (example_base number) ≡ true → IsExampleBase base
is_one number base least most is = record { number = number; least = least; small = omega (arith, most); same = (bytes_eq-Decides base (example_base number)).0 is }

-- it is that of none of those before that one
abbrev pub IsNoneBefore : List ℕ → ℕ → Type 0
IsNoneBefore base number = (k : ℕ) → 1 ≤ k → k < number → bytes_eq base (example_base k) ≡ true → ⊥

pub none_more : (number : ℕ) (base : List ℕ) → IsNoneBefore base number → bytes_eq base (example_base number) ≡ false → IsNoneBefore base (number + 1)
none_more number base none differs k least within is = by (nat_lt k number) refl
  where
    by : (b : Bool) → nat_lt k number ≡ b → ⊥
    by true less = none k least (ltb-true k number less) is
    by false less =
        let most = ltb-false k number less in
        let same : number ≡ k = omega (arith, within, most) in
        false≢true (sym differs ∙ ap (λ j. bytes_eq base (example_base j)) same ∙ is)

pub none_of_eight : (base : List ℕ) → IsNoneBefore base 9 → IsBaseOfEight base → ⊥
none_of_eight base none of = let most = of.most in none of.number of.least (omega (arith, most)) ((bytes_eq-Decides base (example_base of.number)).1 of.same)
