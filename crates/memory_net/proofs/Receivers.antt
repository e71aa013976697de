-- Which node receives a post to an endpoint of the examples.
use Rattle.std.specs.Prelude.{ℕ, List, [], ◌++◌, ◌-◌, ◌<◌, ◌≤◌, ◌^◌, ◌≡◌, ◌⊎◌, Option, Some, None, Bool, true, false, bytes_eq, codes, if◌then◌else◌, length, not, option_map, unwrap_or, zero, suc}
use Rattle.std.proofs.Common.{refl, sym, ap, arith, ◌∙◌, inl, inr}
use Rattle.std.proofs.lemmas.Bool.{cases_lt, ne_eqb}
use Rattle.url.specs.Host.{host_text}
use Rattle.url.specs.Parts.{has_host}
use Rattle.std.proofs.lemmas.Slice.Eq.{bytes_eq-Decides}
use Rattle.addressing.specs.PostAddresses.{post_to_of}
use Rattle.addressing.specs.declared.post_to.PostTo.{PostTo}
use Rattle.at_base.specs.declared.epr.Epr.{Epr}
use Rattle.at_base.specs.declared.target.Target.{Target}
use Rattle.at_base.specs.declared.target.Target.TheVariants as targets
use Rattle.at_model.specs.World.{example_base, example_hosts, new_nodes, place_of, receiver_of}
use Rattle.deliverables.proofs.ExampleBases.{head, text_of, url_of}
use Rattle.deliverables.proofs.OwnAddresses.{only_there, to_of}
use Rattle.endpoints.specs.Addresses.{IsWritten, PathsNameTargets, endpoint_of, path_of}
use Rattle.model_laws.specs.ReachedWorlds.{ExamplesAreApart}
use Rattle.model_laws.proofs.Addresses.{leads_home, other_base, place_is}
use Rattle.memory_net.specs.Closed.{HostsTellReceivers}
use Rattle.memory_net.specs.Mails.{example_host, number_at}

abbrev most : ℕ
most = 2 ^ 64 - 1

has : (n : ℕ) → has_host (url_of n) ≡ true
has n = ap not (ne_eqb (length (example_host n)) 0 (λ e. absurd cc))

host_at : (n : ℕ) (path : List ℕ) → (to_of (url_of n) path).host ≡ example_host n
host_at n path = ap (λ b. unwrap_or (option_map host_text (if b then (url_of n).host else None)) []) (has n)

module _ (apart : ExamplesAreApart) (paths : PathsNameTargets) where
  -- hosts are apart
  one_host : (m n : ℕ) → 1 ≤ m → 1 ≤ n → m < 2 ^ 64 → n < 2 ^ 64 → example_host m ≡ example_host n → m ≡ n
  one_host m n least low small few e =
      apart most (omega arith) m n (path_of targets.Work) (path_of targets.Work) targets.Work targets.Work (least, omega (arith, small)) (low, omega (arith, few)) (paths.named targets.Work tt) (paths.named targets.Work tt)
      (ap (λ (host : List ℕ). (codes "http://" ++ host) ++ path_of targets.Work) e)

  at_step : (k n : ℕ) (b : Bool) → bytes_eq (example_host n) (example_host (suc k)) ≡ b → (if b then suc k else number_at k (example_host n)) ≡ number_at (suc k) (example_host n)
  at_step k n b e = ap (λ c. if c then suc k else number_at k (example_host n)) (sym e)

  -- a node's number is found by its host
  number_found : (k n : ℕ) → 1 ≤ n → n ≤ k → k < 2 ^ 64 → number_at k (example_host n) ≡ n
  number_found zero n least within few = absurd (omega (arith, least, within))
  number_found (suc k) n least within few = by (λ w. number_found k n least w (omega (arith, few))) (bytes_eq (example_host n) (example_host (suc k))) refl
    where
      by : (n ≤ k → number_at k (example_host n) ≡ n) → (b : Bool) → bytes_eq (example_host n) (example_host (suc k)) ≡ b → number_at (suc k) (example_host n) ≡ n
      by later true e =
          let same : n ≡ suc k = one_host n (suc k) least (omega arith) (omega (arith, within, few)) few ((bytes_eq-Decides (example_host n) (example_host (suc k))).0 e) in
          sym (at_step k n true e) ∙ sym same
      by later false e = sym (at_step k n false e) ∙ later (omega (arith, within, other))
        where
          differ : true ≡ false → ⊥
          differ f = cc

          other : n ≡ suc k → ⊥
          other f = differ (sym ((bytes_eq-Decides (example_host n) (example_host (suc k))).1 (ap example_host f)) ∙ e)

  -- that of no other
  number_missed : (k n : ℕ) → 1 ≤ n → k < n → n < 2 ^ 64 → number_at k (example_host n) ≡ 0
  number_missed zero n least past few = refl
  number_missed (suc k) n least past few = by (number_missed k n least (omega (arith, past)) few) (bytes_eq (example_host n) (example_host (suc k))) refl
    where
      by : number_at k (example_host n) ≡ 0 → (b : Bool) → bytes_eq (example_host n) (example_host (suc k)) ≡ b → number_at (suc k) (example_host n) ≡ 0
      by later true e =
          let same : n ≡ suc k = one_host n (suc k) least (omega arith) few (omega (arith, past, few)) ((bytes_eq-Decides (example_host n) (example_host (suc k))).0 e) in
          absurd (omega (arith, same, past))
      by later false e = sym (at_step k n false e) ∙ later

  -- no node of the net
  leads_away : (count n : ℕ) (T : Target) → count < n → n < 2 ^ 64 → IsWritten T → place_of 1 (new_nodes example_base count 1) (example_base n ++ path_of T) ≡ None
  leads_away count n T past few written = by (place_of 1 (new_nodes example_base count 1) (example_base n ++ path_of T)) refl
    where
      differ : (T : Target) → None ≡ Some T → ⊥
      differ T e = cc

      by : (o : Option (ℕ × Target)) → place_of 1 (new_nodes example_base count 1) (example_base n ++ path_of T) ≡ o → o ≡ None
      by None e = refl
      by (Some p) e =
          let at = place_is example_base count 1 (example_base n ++ path_of T) p e in
          absurd (differ p.1 (sym (other_base (example_hosts most) p.0 n T (apart most (omega arith)) (at.least, omega (arith, at.most, past, few)) (omega (arith, past), omega (arith, few))
          (λ same. omega (arith, same, at.most, past)) written) ∙ at.target))

  goes_home : (n : ℕ) (T : Target) (to : PostTo) → n < 2 ^ 64 → IsWritten T → post_to_of (example_base n ++ path_of T) ≡ Some to → to.host ≡ example_host n
  goes_home n T to few written goes =
      ap (λ (z : PostTo). z.host) (sym (only_there (example_base n) (url_of n) (path_of T) T to (head n few) refl (text_of n) (paths.named T written) goes)) ∙ host_at n (path_of T)

  receives : (count n : ℕ) (T : Target) → 1 ≤ n → n < 2 ^ 64 → count < 2 ^ 64 → IsWritten T
      → unwrap_or (receiver_of (new_nodes example_base count 1) (Some (endpoint_of (example_base n) T))) 0 ≡ number_at count (example_host n)
  receives count n T least small few written = by (cases_lt count n)
    where
      by : (count < n) ⊎ (n ≤ count) → unwrap_or (receiver_of (new_nodes example_base count 1) (Some (endpoint_of (example_base n) T))) 0 ≡ number_at count (example_host n)
      by (inl past) = ap (λ o. unwrap_or (option_map (λ (p : ℕ × Target). p.0) o) 0) (leads_away count n T past small written) ∙ sym (number_missed count n least past small)
      by (inr within) = ap (λ o. unwrap_or (option_map (λ (p : ℕ × Target). p.0) o) 0) (leads_home (example_hosts count) n T (apart count few) least within written) ∙ sym (number_found count n least within few)

  pub tell : HostsTellReceivers
  tell count endpoint to few is goes =
      ap (λ e. unwrap_or (receiver_of (new_nodes example_base count 1) (Some e)) 0) is.same ∙ receives count is.number is.target is.least is.small few is.written
      ∙ ap (number_at count) (sym (goes_home is.number is.target to is.small is.written (ap (λ (e : Epr). post_to_of e.address) (sym is.same) ∙ goes)))
