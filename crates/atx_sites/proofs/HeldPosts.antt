-- Posts that are held back, and those that aren't.
use Rattle.std.proofs.Common.{ℕ, List, true, false, Result, ◌≡◌, ◌∙◌, refl, subst, inl, inr}
use Rattle.std.specs.Prelude.{is_err}
use Rattle.std.specs.declared.time.Duration.{Duration}
use Rattle.resend_delays.specs.declared.delays.Delays.{Delays}
use Rattle.system_calls.specs.Calls.{Answer, Calls, Number, then}
use Rattle.system_calls.specs.Calls.Call.{Monotonic}
use Rattle.atx_sites.specs.Departures.{Looks, Posts}
use Rattle.atx_sites.specs.Departures.Looks.{none, clock, resolves}
use Rattle.atx_sites.specs.LinkCalls.{Later}
use Rattle.atx_sites.specs.Resends.{IfHeld, PostsOrHolds}
use Rattle.atx_sites.proofs.Comings.{late_by}
use Rattle.atx_sites.proofs.NamesKept.{reaches_from, still_kept}
use Rattle.atx_sites.specs.declared.outgoing.Outgoing.{Outgoing}
use Rattle.atx_sites.specs.declared.resolved_names.Name.{Name}

-- the clock was read before
looks_before : (host : List ℕ) (port : ℕ) (old mid new : Calls) (got : Answer Duration) → mid ≡ then (Monotonic got) old → Looks host port mid new → Looks host port old new
looks_before host port old mid new got e (none f) = clock got (none refl) (f ∙ e)
looks_before host port old mid new got e (clock other h f) = clock other (looks_before host port old mid _ got e h) f
looks_before host port old mid new got e (resolves other h f) = resolves other (looks_before host port old mid _ got e h) f

module _ {C E : Type 0} (number : C → Number) (names : List Name) (host : List ℕ) (port : ℕ) (bytes : List ℕ) (delays : Delays) (before : List (Outgoing C)) (old : Calls) (result : Result (Unit {0}) E) where
  pub posted_later : (after : List (Outgoing C)) (mid new : Calls) → IfHeld false host port bytes delays old mid → Posts number names host port bytes before mid result after new
      → PostsOrHolds number names host port bytes delays before old result after new
  posted_later after mid new (inl e) h = inr (subst (λ z. Posts number names host port bytes before z result after new) e h)
  posted_later after mid new (inr (got, e)) (bare, is, addresses, looked, looks, may, posts) =
      let late : Later old mid = late_by old mid (Monotonic got) e in
      inr (bare, is, addresses, looked, looks_before bare port old mid looked got e looks, (λ h. reaches_from bare port addresses old mid looked late (may (still_kept old mid names h late))), posts)

  pub held : (new : Calls) → IfHeld true host port bytes delays old new → is_err result ≡ false → PostsOrHolds number names host port bytes delays before old result before new
  held new h ok = inl (ok, refl, h)
