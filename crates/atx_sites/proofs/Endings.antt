-- What becomes of the connection that was served.
use Rattle.std.proofs.Common.{ℕ, Bool, List, Option, Result, Some, None, true, false, ◌≡◌, ◌+◌, refl, subst, sym}
use Rattle.std.specs.declared.io.Error.{Error}
use Rattle.site_model.specs.Counts.{capped}
use Rattle.system_calls.specs.Calls.{Calls, Number}
use Rattle.atx_sites.specs.Departures.{Answers}
use Rattle.atx_sites.specs.Disks.{Tallied}
use Rattle.atx_sites.specs.Turns.{EndsBy, EndsTurn}
use Rattle.atx_sites.specs.declared.connection.Served.{Served}
use Rattle.atx_sites.specs.declared.outgoing.Outgoing.{Outgoing}

module _ {C : Type 0} (number : C → Number) (served : Served C) where
  pub ended_on : (before after : List (Outgoing C)) (lost lost_now : ℕ) (old new : Calls) (cut : Bool) → cut ≡ false
      → (result : Result (Unit {0}) Error) × Answers number served.arriving.stream served.unsent 0 before old result after new × Tallied lost lost_now result
      → EndsBy cut number served before lost old after lost_now new
  ended_on before after lost lost_now old new false e h = h
  ended_on before after lost lost_now old new true e h = cc

  pub ended_cut : (before : List (Outgoing C)) (lost lost_now : ℕ) (old : Calls) (cut : Bool) → cut ≡ true → lost_now ≡ capped (lost + 1) → EndsBy cut number served before lost old before lost_now old
  ended_cut before lost lost_now old true e h = (refl, h, refl)
  ended_cut before lost lost_now old false e h = cc

module _ {C : Type 0} (number : C → Number) (before after : List (Outgoing C)) (lost lost_now : ℕ) (old new : Calls) where
  pub ended_some : (held : Option (Served C)) (served : Served C) → held ≡ Some served → EndsBy served.is_cut number served before lost old after lost_now new
      → EndsTurn number held before lost old after lost_now new
  ended_some held served e h = subst (λ k. EndsTurn number k before lost old after lost_now new) (sym e) h

  pub ended_none : (held : Option (Served C)) → held ≡ None → (after ≡ before) × (lost_now ≡ lost) × (new ≡ old) → EndsTurn number held before lost old after lost_now new
  ended_none held e h = subst (λ k. EndsTurn number k before lost old after lost_now new) (sym e) h
