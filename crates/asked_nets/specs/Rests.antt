-- Whether nothing is done at a node.
use Rattle.std.specs.Prelude.{◌≡◌, Bool, not}
use Rattle.at_model.specs.World.{WorldEvent, Turn, Ask, Crash, Up}

-- it is down, or up where it is to start
abbrev pub rests_at : WorldEvent → Bool → Bool
rests_at (Turn i input fates until) up = not up
rests_at (Ask i request fates until) up = not up
rests_at (Crash i) up = not up
rests_at (Up i landed stop) up = up

abbrev pub RestsBy : WorldEvent → Bool → Bool → Type 0
RestsBy e up rests = rests ≡ rests_at e up
