-- What becomes of the connection that was served, behind its turn.
use Rattle.std.specs.Prelude.{ℕ, Bool, List, Option, Result, Some, None, ◌≡◌, ◌+◌, true, false}
use Rattle.std.specs.declared.io.Error.{Error}
use Rattle.site_model.specs.Counts.{capped}
use Rattle.system_calls.specs.Calls.{Calls, Number}
use Rattle.atx_sites.specs.Departures.{Answers}
use Rattle.atx_sites.specs.Disks.{Tallied}
use Rattle.atx_sites.specs.declared.connection.Served.{Served}
use Rattle.atx_sites.specs.declared.outgoing.Outgoing.{Outgoing}

-- It is taken over with what was kept of its answer, none of which was taken; a failure of that is a loss. Where some of the answer was cut before,
-- it is closed, which is one.
abbrev pub EndsBy : {C : Type 0} → Bool → (C → Number) → Served C → List (Outgoing C) → ℕ → Calls → List (Outgoing C) → ℕ → Calls → Type 0
EndsBy false number served before lost old after lost_now new =
    (result : Result (Unit {0}) Error) × Answers number served.arriving.stream served.unsent 0 before old result after new × Tallied lost lost_now result
EndsBy true number served before lost old after lost_now new = (after ≡ before) × (lost_now ≡ capped (lost + 1)) × (new ≡ old)

abbrev pub EndsTurn : {C : Type 0} → (C → Number) → Option (Served C) → List (Outgoing C) → ℕ → Calls → List (Outgoing C) → ℕ → Calls → Type 0
EndsTurn number (Some served) before lost old after lost_now new = EndsBy served.is_cut number served before lost old after lost_now new
EndsTurn number None before lost old after lost_now new = (after ≡ before) × (lost_now ≡ lost) × (new ≡ old)
