-- Where an endpoint that a node writes leads anywhere, it leads home.
use Rattle.std.specs.Prelude.{◌++◌, ◌≡◌, Option, Bool, true, false, Some, None, nat_eq, option_and_then, refl}
use Rattle.std.proofs.Common.{ap, subst, ◌∙◌, arith}
use Rattle.std.proofs.lemmas.Bool.{eqb-true, eqb-false}
use Rattle.at_base.specs.declared.target.Target.{Target}
use Rattle.at_base.specs.declared.target.Target.TheVariants as targets
use Rattle.endpoints.specs.Addresses.{path_of, target_of, target_at, IsWritten}
use Rattle.model_laws.proofs.Addresses.{IsPlace, place_is, other_base}
use Rattle.endpoints.proofs.Inverses.{prefix_back, target_back}
use Rattle.agreement.specs.Places.{AddressesLeadHome, HasPath}

-- targets
written : (T : Target) → HasPath T → IsWritten T
written targets.Activation h = h
written targets.Work h = h
written (targets.Registration id) h = h
written (targets.Completion id) h = h
written (targets.Coordinator id seat) h = h
written (targets.Participant id kind) h = h
written (targets.Initiator id) h = h

pub addresses_lead_home : AddressesLeadHome
addresses_lead_home hosts n m T S apart number h e = by_number (nat_eq m n) refl
  where
    place : IsPlace hosts.base_of 1 hosts.count (hosts.base_of n ++ path_of T) (m, S)
    place = place_is hosts.base_of hosts.count 1 (hosts.base_of n ++ path_of T) (m, S) e

    some_none : {A : Type 0} (o : Option A) (x : A) → o ≡ Some x → o ≡ None → ⊥
    some_none o x f g = cc

    same_target : (o : Option Target) → o ≡ Some T → o ≡ Some S → S ≡ T
    same_target o f g = cc

    here : target_at (hosts.base_of n) (hosts.base_of n ++ path_of T) ≡ Some T
    here = ap (option_and_then target_of) (prefix_back (hosts.base_of n) (path_of T)) ∙ target_back T (written T h)

    by_number : (c : Bool) → nat_eq m n ≡ c → (m ≡ n) × (S ≡ T)
    by_number true c =
        let same : m ≡ n = eqb-true m n c in
        (same, same_target (target_at (hosts.base_of n) (hosts.base_of n ++ path_of T)) here (subst (λ k. target_at (hosts.base_of k) (hosts.base_of n ++ path_of T) ≡ Some S) same place.target))
    by_number false c =
        absurd (some_none (target_at (hosts.base_of m) (hosts.base_of n ++ path_of T)) S place.target
        (other_base hosts m n T apart (place.least, omega (arith, place.most)) number (eqb-false m n c) (written T h)))
