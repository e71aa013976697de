-- Whether a record that an out waits for stands.
use Rattle.std.specs.Prelude.{List, ◌≡◌, ◌⊎◌, Bool, true, false, Option, Some, None}
use Rattle.at_base.specs.Numbers.{Numbers}
use Rattle.decision_log.specs.declared.token.What.{What}
use Rattle.decision_log.specs.KeptState.{IsAmong}
use Rattle.decision_log.specs.Tokens.{Token}

-- it holds, or it doesn't
abbrev pub Rules : Bool → Type 0 → Type 0
Rules true P = P
Rules false P = P → ⊥

abbrev pub IsStanding : Option Token → Numbers → What → What → List Token → Type 0
IsStanding (Some t) id one other ts = IsAmong t ts × ((t.id ≡ id) × ((t.what ≡ one) ⊎ (t.what ≡ other)))
IsStanding None id one other ts = (t : Token) → IsAmong t ts → t.id ≡ id → (t.what ≡ one) ⊎ (t.what ≡ other) → ⊥
