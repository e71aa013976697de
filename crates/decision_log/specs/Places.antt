-- Where one more stands.
use Rattle.std.specs.Prelude.{ℕ, List, [], ◌∷◌, ◌+◌, if◌then◌else◌}
use Rattle.at_base.specs.Numbers.{Numbers}
use Rattle.at_model.specs.Recovery.{is_before}
use Rattle.decision_log.specs.Tokens.{Token}

abbrev pub token_id : Token → Numbers
token_id t = t.id

-- how many stand before the first that is greater
abbrev pub place_last : Numbers → List Token → ℕ
place_last id [] = 0
place_last id (t ∷ ts) = if is_before id t.id then 0 else 1 + place_last id ts
