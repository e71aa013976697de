-- How many connections leave, to whom, and with how many bytes.
use Rattle.std.proofs.Common.{ℕ, Bool, List, Option, Result, Some, true, false, zero, suc, cond, not, [], ◌∷◌, ◌++◌, ◌≡◌, ◌+◌, ◌<◌, ◌≤◌, ◌∙◌, refl, sym, ap, subst, inl, inr, length, arith}
use Rattle.std.specs.Prelude.{filter, slice_get}
use Rattle.std.specs.List.{remove, sum_by}
use Rattle.std.specs.declared.net.SocketAddr.{SocketAddr}
use Rattle.std.specs.declared.time.Duration.{Duration}
use Rattle.std.proofs.lemmas.List.{length-append}
use Rattle.std.proofs.lemmas.List.Sums.{count_by-le-length, length-filter, sum_by-append, sum_by-cons}
use Rattle.std.proofs.lemmas.List.Filters.{sum_by-filter_both}
use Rattle.system_calls.specs.Calls.{Calls, Number}
use Rattle.atx_sites.specs.Departures.{Advances, IsPart, Joins, Starts, Tests, Within, host_of, is_over, number_to, weight}
use Rattle.atx_sites.specs.Departures.Advances.{none as nothing, next as behind}
use Rattle.atx_sites.specs.Departures.IsPart.{none as all_there, less}
use Rattle.atx_sites.specs.declared.outgoing.Outgoing.{Outgoing}

module _ {X : Type 0} where
  len_less : (xs : List X) (i : ℕ) → length (remove xs i) ≤ length xs
  len_less [] zero = omega arith
  len_less [] (suc i) = omega arith
  len_less (x ∷ xs) zero = omega arith
  len_less (x ∷ xs) (suc i) = omega (arith, len_less xs i)

  sum_less : (f : X → ℕ) (xs : List X) (i : ℕ) → sum_by f (remove xs i) ≤ sum_by f xs
  sum_less f [] zero = omega arith
  sum_less f [] (suc i) = omega arith
  sum_less f (x ∷ xs) zero = omega (arith, sum_by-cons f x xs)
  sum_less f (x ∷ xs) (suc i) = omega (arith, sum_by-cons f x xs, sum_by-cons f x (remove xs i), sum_less f xs i)

  part_length : (all part : List X) → IsPart all part → length part ≤ length all
  part_length all part (all_there e) = subst (λ l. length l ≤ length all) (sym e) (omega arith)
  part_length all part (less {mid = mid} i h e) = subst (λ l. length l ≤ length all) (sym e) (omega (arith, len_less mid i, part_length all mid h))

  part_sum : (f : X → ℕ) (all part : List X) → IsPart all part → sum_by f part ≤ sum_by f all
  part_sum f all part (all_there e) = subst (λ l. sum_by f l ≤ sum_by f all) (sym e) (omega arith)
  part_sum f all part (less {mid = mid} i h e) = subst (λ l. sum_by f l ≤ sum_by f all) (sym e) (omega (arith, sum_less f mid i, part_sum f all mid h))

  pub sum_kept : (f : X → ℕ) (p : X → Bool) (xs : List X) → sum_by f (filter p xs) ≤ sum_by f xs
  sum_kept f p xs = omega (arith, sum_by-filter_both p (λ x. not (p x)) (λ x. refl) f xs)

  pub len_kept : (p : X → Bool) (xs : List X) → length (filter p xs) ≤ length xs
  len_kept p xs = omega (arith, length-filter p xs, count_by-le-length p xs)

pub within_none : (C : Type 0) → Within {C = C} []
within_none C = (omega arith, omega arith, λ host test only. omega arith)

-- of a host that a test passes there is one
abbrev one : Bool → ℕ
one b = cond b 1 0

module _ {C : Type 0} where
  abbrev to : (Option SocketAddr → Bool) → Outgoing C → ℕ
  to test o = one (test (host_of o))

  counted : (test : Option SocketAddr → Bool) (xs : List (Outgoing C)) → number_to test xs ≡ sum_by (to test) xs
  counted test xs = length-filter (λ (o : Outgoing C). test (host_of o)) xs

  pub within_part : (all part : List (Outgoing C)) → IsPart all part → Within all → Within part
  within_part all part h (count, bytes, each) = (
    omega (arith, count, part_length all part h),
    omega (arith, bytes, part_sum weight all part h),
    λ host test only. omega (arith, each host test only, counted test all, counted test part, part_sum (to test) all part h),
  )

  pub share_part : (host : Option SocketAddr) (all part : List (Outgoing C)) → IsPart all part → ((test : Option SocketAddr → Bool) → Tests host test → number_to test all < 64)
      → (test : Option SocketAddr → Bool) → Tests host test → number_to test part < 64
  share_part host all part h share test only = omega (arith, share test only, counted test all, counted test part, part_sum (to test) all part h)

  within_kept : (p : Outgoing C → Bool) (all : List (Outgoing C)) → Within all → Within (filter p all)
  within_kept p all (count, bytes, each) = (
    omega (arith, count, len_kept p all),
    omega (arith, bytes, sum_kept weight p all),
    λ host test only. omega (arith, each host test only, counted test all, counted test (filter p all), sum_kept (to test) p all),
  )

  -- bytes and addresses stay
  abbrev Stays : Outgoing C → Outgoing C → Type 0
  Stays before after = (after.bytes ≡ before.bytes) × (after.addresses ≡ before.addresses)

  weighs : (before after : Outgoing C) → Stays before after → weight after ≡ weight before
  weighs before after same = ap (λ b. length b.items) same.0

  goes_on : (test : Option SocketAddr → Bool) (before after : Outgoing C) → Stays before after → to test after ≡ to test before
  goes_on test before after same = ap (λ l. one (test (slice_get l.items 0))) same.1

  module _ (number : C → Number) where
    sum_advanced : (now : Duration) (f : Outgoing C → ℕ) → ((before after : Outgoing C) → Stays before after → f after ≡ f before) → (old : Calls) (xs ys : List (Outgoing C)) (new : Calls)
        → Advances number now old xs ys new → sum_by f ys ≡ sum_by f xs
    sum_advanced now f same old xs ys new (nothing e h i) = ap (sum_by f) h ∙ sym (ap (sum_by f) e)
    sum_advanced now f same old xs ys new (behind {front = front} {went = went} {mid = mid} before after past went_on e h) =
        omega (arith, ap (sum_by f) e, ap (sum_by f) h, sum_by-append f front (before ∷ []), sum_by-append f went (after ∷ []), sum_advanced now f same old front went mid past, same before after (went_on.1, went_on.2))

    len_advanced : (now : Duration) (old : Calls) (xs ys : List (Outgoing C)) (new : Calls) → Advances number now old xs ys new → length ys ≡ length xs
    len_advanced now old xs ys new (nothing e h i) = ap length h ∙ sym (ap length e)
    len_advanced now old xs ys new (behind {front = front} {went = went} {mid = mid} before after past went_on e h) =
        omega (arith, ap length e, ap length h, length-append front (before ∷ []), length-append went (after ∷ []), len_advanced now old front went mid past)

    -- those that are done are closed behind that
    pub within_advanced : (now : Duration) (old : Calls) (xs went ys : List (Outgoing C)) (new : Calls) → Advances number now old xs went new → ys ≡ filter (λ o. not (is_over o)) went → Within xs → Within ys
    within_advanced now old xs went ys new h e (count, bytes, each) =
        subst Within (sym e) (within_kept (λ o. not (is_over o)) went (
          omega (arith, count, len_advanced now old xs went new h),
          omega (arith, bytes, sum_advanced now weight weighs old xs went new h),
          λ host test only. omega (arith, each host test only, counted test xs, counted test went, sum_advanced now (to test) (goes_on test) old xs went new h),
        ))

  passed : (host : Option SocketAddr) (limit : ℕ) (test : Option SocketAddr → Bool) (o : Outgoing C) → Tests host test → (b : Bool) → b ≡ test (host_of o)
      → (host_of o ≡ host → limit < 64) → limit ≤ 64 → limit + one b ≤ 64
  passed host limit test o only true e room most = omega (arith, room (only (host_of o) (sym e)))
  passed host limit test o only false e room most = omega (arith, most)

  -- one more, where there is room and a share for it
  pub within_pushed : (xs : List (Outgoing C)) (o : Outgoing C) → length xs < 1_024 → sum_by weight xs + weight o ≤ 16_777_216
      → ((host : SocketAddr) (test : Option SocketAddr → Bool) → host_of o ≡ Some host → Tests (Some host) test → number_to test xs < 64) → Within xs → Within (xs ++ o ∷ [])
  within_pushed xs o count fits share (most, bytes, each) = (
    omega (arith, count, length-append xs (o ∷ [])),
    omega (arith, fits, sum_by-append weight xs (o ∷ [])),
    λ host test only.
        omega (
          arith,
          counted test xs,
          counted test (xs ++ o ∷ []),
          sum_by-append (to test) xs (o ∷ []),
          passed (Some host) (number_to test xs) test o only (test (host_of o)) refl (λ is. share host test is only) (each host test only),
        ),
  )

  pub within_joined : {E : Type 0} (result : Result (Unit {0}) E) (xs ys : List (Outgoing C)) (o : Outgoing C) → Joins result o xs ys → length xs < 1_024 → sum_by weight xs + weight o ≤ 16_777_216
      → ((host : SocketAddr) (test : Option SocketAddr → Bool) → host_of o ≡ Some host → Tests (Some host) test → number_to test xs < 64) → Within xs → Within ys
  within_joined result xs ys o (inl (ok, on, e)) count fits share h = subst Within (sym e) (within_pushed xs o count fits share h)
  within_joined result xs ys o (inr (e, closed)) count fits share h = subst Within (sym e) h

  -- and one that went on before that
  pub within_started : {E : Type 0} (number : C → Number) (now : Duration) (before : Outgoing C) (old : Calls) (result : Result (Unit {0}) E) (xs ys : List (Outgoing C)) (new : Calls)
      → Starts number now before old result xs ys new → length xs < 1_024 → sum_by weight xs + weight before ≤ 16_777_216
      → ((host : SocketAddr) (test : Option SocketAddr → Bool) → host_of before ≡ Some host → Tests (Some host) test → number_to test xs < 64) → Within xs → Within ys
  within_started number now before old result xs ys new (after, (leaves, bytes, addresses, time), joined) count fits share h =
      within_joined result xs ys after joined count (omega (arith, fits, weighs before after (bytes, addresses)))
      (λ host test is only. share host test (sym (ap (λ l. slice_get l.items 0) addresses) ∙ is) only) h

  -- an answer goes to no host
  pub no_host : {A : Type 0} (o : Outgoing C) (host : SocketAddr) → o.addresses.items ≡ [] → host_of o ≡ Some host → A
  no_host o host none is =
      let e : slice_get [] 0 ≡ Some host = subst (λ l. slice_get l 0 ≡ Some host) none is in
      cc
