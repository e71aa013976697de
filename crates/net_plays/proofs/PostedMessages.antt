-- A message of a run that has a receiver can go to it.
use Rattle.std.proofs.Common.{ℕ, ◌-◌, ◌≤◌, ◌≡◌, refl, List, [], ◌∷◌, ◌∙◌, sym, arith, inl, inr, Bool, true, false}
use Rattle.std.specs.Prelude.{Option, Some, None, nat_eq, option_map, if◌then◌else◌}
use Rattle.at_base.specs.declared.epr.Epr.{Epr}
use Rattle.at_base.specs.declared.target.Target.{Target}
use Rattle.at_model.specs.Views.{deliver_to}
use Rattle.at_model.specs.World.{Posted, World, WorldEvent, example_base, example_hosts, new_nodes, nth, place_of, receiver_of, run_of}
use Rattle.model_laws.specs.Agreement.{IsIn}
use Rattle.model_laws.proofs.Addresses.{place_is}
use Rattle.replay_cmd.specs.ReportOf.{receiver_in}
use Rattle.settled.proofs.Routes.{routed}
use Rattle.settling.proofs.Runs.{IsOfRun, run_is}
use Rattle.net_plays.specs.Asks.{CanAsk}

posted_in : (k : ℕ) (p : Posted) (ps : List Posted) → nth k ps ≡ Some p → IsIn p ps
posted_in k p [] e = absurd cc
posted_in k p (q ∷ ps) e = by_number (λ f. posted_in (k - 1) p ps f) (nat_eq k 1) e
  where
    by_number : (nth (k - 1) ps ≡ Some p → IsIn p ps) → (c : Bool) → (if c then Some q else nth (k - 1) ps) ≡ Some p → IsIn p (q ∷ ps)
    by_number rest true f = inl cc
    by_number rest false f = inr (rest f)

-- an address leads to a node that is there
leads_there : (count : ℕ) (to : Option Epr) (n : ℕ) → receiver_of (new_nodes example_base count 1) to ≡ Some n → (1 ≤ n) × (n ≤ count)
leads_there count None n e = absurd cc
leads_there count (Some to) n e = by_place (place_of 1 (new_nodes example_base count 1) to.address) refl e
  where
    by_place : (o : Option (ℕ × Target)) → place_of 1 (new_nodes example_base count 1) to.address ≡ o → option_map (λ p. p.0) o ≡ Some n → (1 ≤ n) × (n ≤ count)
    by_place None f g = absurd cc
    by_place (Some p) f g =
        let same : p.0 ≡ n = cc in
        let place = place_is example_base count 1 to.address p f in
        (omega (arith, same, place.least), omega (arith, same, place.most))

pub posted_can : (count : ℕ) (w : World) → IsOfRun (example_hosts count) w → (k n : ℕ) (p : Posted) → nth k w.posted ≡ Some p → p.receiver ≡ Some n → CanAsk count w (deliver_to n k) []
posted_can count w run k n p at to =
    let there = leads_there count p.content.to n (sym (routed (example_hosts count) w (run_is (example_hosts count) w run) p (posted_in k p w.posted at)) ∙ to) in
    record { least = there.0; within = there.1; of = (p, at, to) }

pub delivery_can : (count : ℕ) (w : World) (es : List WorldEvent) → w ≡ run_of (example_hosts count) es → (k n : ℕ) → option_map receiver_in (nth k w.posted) ≡ Some (Some n) → CanAsk count w (deliver_to n k) []
delivery_can count w es run k n e = by (nth k w.posted) refl e
  where
    by : (o : Option Posted) → nth k w.posted ≡ o → option_map receiver_in o ≡ Some (Some n) → CanAsk count w (deliver_to n k) []
    by None at f = absurd cc
    by (Some p) at f = let to : p.receiver ≡ Some n = cc in posted_can count w (record { events = es; is = run }) k n p at to
