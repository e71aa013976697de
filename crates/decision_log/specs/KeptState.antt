-- A Kept as contracts see it.
use Rattle.std.specs.Prelude.{List, [], ◌∷◌, Option, Some, None, ◌≡◌, ◌<◌, ◌⊎◌, length, vec_capacity}
use Rattle.std.specs.List.{AllByRecursion}
use Rattle.at_base.specs.declared.record.Record.{Record}
use Rattle.decision_log.specs.declared.kept.Kept.{Kept}
use Rattle.decision_log.specs.KeptRecords.{Known, tokens_of}
use Rattle.decision_log.specs.Tokens.{Token}

abbrev pub known : Kept → Known
known k = record { live = k.live.items; start = k.start; done = k.done }

-- one more can be held without memory
pub record HasRoom (k : Kept) : Type 0 where
  pub live : length k.live.items < vec_capacity k.live
  pub tokens : length k.tokens.items < vec_capacity k.tokens

abbrev pub IsAmong : Token → List Token → Type 0
IsAmong t [] = ⊥
IsAmong t (u ∷ us) = (u ≡ t) ⊎ IsAmong t us

abbrev pub IsFound : Option Token → Token → List Token → Type 0
IsFound (Some d) t ts = (d ≡ t) × IsAmong t ts
IsFound None t ts = AllByRecursion (λ u. u ≡ t → ⊥) ts

-- the token of a live record, or none where no live record has it
abbrev pub IsLent : Option Token → Token → List Record → Type 0
IsLent d t rs = IsFound d t (tokens_of rs)
