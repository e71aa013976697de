-- What is done to an item that was found, or to none, as the model's decision on it.
use Rattle.std.specs.Prelude.{Option, Some, None, option_map}
use Rattle.at_model.specs.Moves.{Change, Decision, Goes, Records}
use Rattle.by_id.specs.declared.fates.Choice.{Choice}
use Rattle.by_id.specs.declared.fates.Choice.TheVariants as choices
use Rattle.by_id.specs.declared.fates.Fate.{Fate}
use Rattle.by_id.specs.declared.fates.Fate.TheVariants as fates
use Rattle.by_id.specs.declared.fates.Turn.{Turn}

-- `moved` says what a move does to an item
module _ {A M : Type 0} (moved : M → A → A) where
  -- what becomes of it: an item, or none
  abbrev pub fate_of : Option A → Fate A M → Option A
  fate_of found fates.Keep = found
  fate_of found fates.Forget = None
  fate_of found (fates.Put item) = Some item
  fate_of found (fates.Move by) = option_map (moved by) found

  abbrev pub turn_of : Option A → Turn A M → Change A
  turn_of found t = record { item = fate_of found t.fate; posts = t.posts; effects = t.effects }

  abbrev pub absent_of : Option A → Option (Turn A M) → Option (Change A)
  absent_of found None = None
  absent_of found (Some t) = Some (turn_of found t)

  abbrev pub meant : Option A → Choice A M → Decision A
  meant found (choices.Goes t) = Goes (turn_of found t)
  meant found (choices.Records entry stands absent) = Records entry (turn_of found stands) (absent_of found absent)
