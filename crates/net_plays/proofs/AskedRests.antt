-- The events that bring a world to rest can be asked where they come.
use Rattle.std.proofs.Common.{ℕ, zero, suc, ◌+◌, ◌≤◌, ◌≡◌, refl, List, [], ◌∷◌, ◌++◌, length, drop, ap, ◌∙◌, sym, subst, arith}
use Rattle.std.specs.Prelude.{Option, Some, None}
use Rattle.at_base.specs.declared.limits.TheConstants.{RESEND_AFTER}
use Rattle.at_model.specs.Book.{Book}
use Rattle.at_model.specs.Views.{deliver_to, tick_at, up}
use Rattle.at_model.specs.World.{Node, Posted, World, WorldEvent, example_hosts, nth, run_of, run_on, world_step}
use Rattle.model_laws.specs.Settlement.{Settling, all_also, all_up, also, deliver_next, deliveries_from, first_received, most_deliveries, settle, settle_from, settle_round, settle_rounds, settled, ticks, up_if, ups, waiting}
use Rattle.settled.proofs.CalmTurns.{FirstAt, first_at}
use Rattle.settling.proofs.Places.{nth_drop}
use Rattle.settling.proofs.Runs.{IsOfRun, further_run, run_length}
use Rattle.net_plays.specs.Asks.{CanAsk, CanAskAll}
use Rattle.net_plays.proofs.PlayedRuns.{run_append}
use Rattle.net_plays.proofs.PostedMessages.{posted_can}

-- the first message that has a receiver
record IsReceived (ps : List Posted) (k n : ℕ) : Type 0 where
  post : Posted
  at : nth k ps ≡ Some post
  receiver : post.receiver ≡ Some n

next_is : (passed : ℕ) (ps : List Posted) (k n : ℕ) → first_received (passed + 1) (drop passed ps) ≡ Some (k, n) → IsReceived ps k n
next_is passed ps k n e =
    let f : FirstAt (passed + 1) (drop passed ps) k n = first_at (passed + 1) (drop passed ps) k n e in
    let number : k ≡ passed + (f.behind + 1) = omega (arith, f.number) in
    record {
      post = f.post;
      at = ap (λ i. nth i ps) number ∙ (sym (nth_drop passed (f.behind + 1) ps (omega arith)) ∙ f.at);
      receiver = f.receiver;
    }

module _ (count : ℕ) where
  more_can : (v : World) (es : List WorldEvent) (e : WorldEvent) → CanAskAll count v es → CanAsk count (run_on v es) e [] → CanAskAll count v (es ++ e ∷ [])
  more_can v [] e all next = (next, tt)
  more_can v (x ∷ es) e all next = (all.0, more_can (world_step v x) es e all.1 next)

  -- those so far, from this world on
  record IsOn (w : World) (s : Settling) : Type 0 where
    run : IsOfRun (example_hosts count) s.world
    is : s.world ≡ run_on w s.events
    can : CanAskAll count w s.events

  module _ (w : World) where
    also_on : (e : WorldEvent) (s : Settling) → IsOn w s → CanAsk count s.world e [] → IsOn w (also e s)
    also_on e s h next = record {
      run = further_run (example_hosts count) s.world e h.run;
      is = ap (λ v. world_step v e) h.is ∙ sym (run_append w s.events e);
      can = more_can w s.events e h.can (subst (λ v. CanAsk count v e []) h.is next);
    }

    nodes_on : (s : Settling) → IsOn w s → length s.world.nodes ≡ count
    nodes_on s h = run_length (example_hosts count) s.world h.run

    ups_on : (n : ℕ) (xs : List Node) (s : Settling) → 1 ≤ n → n + length xs ≤ count + 1 → IsOn w s → IsOn w (all_also (ups n xs) s)
    ups_on n [] s least most h = h
    ups_on n (x ∷ xs) s least most h = by_book x.book (λ t k. ups_on (n + 1) xs t (omega arith) (omega (arith, most)) k)
      where
        by_book : (o : Option Book) → ((t : Settling) → IsOn w t → IsOn w (all_also (ups (n + 1) xs) t)) → IsOn w (all_also (up_if n o ++ ups (n + 1) xs) s)
        by_book None rest = rest (also (up n) s) (also_on (up n) s h (record { least = least; within = omega (arith, most); of = (refl, refl) }))
        by_book (Some b) rest = rest s h

    ticks_on : (n : ℕ) (xs : List Node) (s : Settling) → 1 ≤ n → n + length xs ≤ count + 1 → IsOn w s → IsOn w (all_also (ticks n xs) s)
    ticks_on n [] s least most h = h
    ticks_on n (x ∷ xs) s least most h =
        ticks_on (n + 1) xs (also (tick_at n RESEND_AFTER) s) (omega arith) (omega (arith, most))
        (also_on (tick_at n RESEND_AFTER) s h (record { least = least; within = omega (arith, most); of = tt }))

    deliveries_on : (most passed : ℕ) (s : Settling) → IsOn w s → IsOn w (deliveries_from most passed s)
    unfolding deliveries_from
    deliveries_on zero passed s h = h
    deliveries_on (suc most) passed s h =
        by_next (λ k t j. deliveries_on most k t j) (first_received (passed + 1) (drop passed s.world.posted)) refl
      where
        by_next : ((k : ℕ) (t : Settling) → IsOn w t → IsOn w (deliveries_from most k t)) → (o : Option (ℕ × ℕ)) → first_received (passed + 1) (drop passed s.world.posted) ≡ o
            → IsOn w (deliver_next o (deliveries_from most) s)
        by_next rest None e = h
        by_next rest (Some p) e =
            let f : IsReceived s.world.posted p.0 p.1 = next_is passed s.world.posted p.0 p.1 e in
            rest p.0 (also (deliver_to p.1 p.0) s) (also_on (deliver_to p.1 p.0) s h (posted_can count s.world h.run p.0 p.1 f.post f.at f.receiver))

    round_on : (most : ℕ) (s : Settling) → IsOn w s → IsOn w (settle_round most s)
    unfolding settle_round
    round_on most s h =
        deliveries_on most (length s.world.posted) (all_also (ticks 1 s.world.nodes) s)
        (ticks_on 1 s.world.nodes s (omega arith) (omega (arith, nodes_on s h)) h)

    rounds_on : (n most : ℕ) (s : Settling) → IsOn w s → IsOn w (settle_rounds n most s)
    unfolding settle_rounds
    rounds_on zero most s h = h
    rounds_on (suc n) most s h = rounds_on n most (settle_round most s) (round_on most s h)

    settled_on : IsOn w (record { world = w; events = [] }) → IsOn w (settled w)
    unfolding settled settle_from
    settled_on h =
        rounds_on 8 (most_deliveries (waiting (all_up w).world)) (all_up w)
        (ups_on 1 w.nodes (record { world = w; events = [] }) (omega arith) (omega (arith, nodes_on (record { world = w; events = [] }) h)) h)

  pub settle_can : (w : World) (es : List WorldEvent) → w ≡ run_of (example_hosts count) es → CanAskAll count w (settle w)
  unfolding settle
  settle_can w es run = (settled_on w (record { run = record { events = es; is = run }; is = refl; can = tt })).can
