-- An event of a world that is asked for.
use Rattle.std.specs.Prelude.{◌≡◌}
use Rattle.at_model.specs.World.{WorldEvent, Turn, Ask, Crash, Up}

-- What is asked for, with any fates and any stop.
abbrev pub IsOf : WorldEvent → WorldEvent → Type 0
IsOf (Turn n input _ _) (Turn i given fates until) = (i ≡ n) × (given ≡ input)
IsOf (Ask n request _ _) (Ask i asked fates until) = (i ≡ n) × (asked ≡ request)
IsOf (Crash n) (Crash i) = i ≡ n
IsOf (Up n _ _) (Up i landed stop) = i ≡ n
IsOf e other = ⊥
