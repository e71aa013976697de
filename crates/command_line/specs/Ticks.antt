-- What a tick does to the machine.
use Rattle.std.specs.Prelude.{List, [], ◌∷◌, ◌++◌, ◌≡◌, Result, Ok, Err, Some}
use Rattle.addressing.specs.declared.post_to.PostTo.{PostTo}
use Rattle.http_post.specs.OutBytes.{tick_of}
use Rattle.site_model.specs.Calls.{Gave}
use Rattle.site_model.specs.Told.{Call, Made, Told, sent_by}
use Rattle.site_model.specs.Told.Call.{Post}
use Rattle.site_model.specs.declared.source.Failed.{Failed}

-- the post that asks a node for what is due
abbrev pub asking : PostTo → Call
asking to = Post to.host to.port (tick_of to)

abbrev pub Asks : PostTo → Result (Unit {0}) Failed → Told → Told → Type 0
Asks to result old new = Gave (asking to) result old new

-- what was sent grew by that post, and nothing else changed
pub record HasTicked (to : PostTo) (old new : Told) : Type 0 where
  pub call : Asks to (Ok tt) old new
  pub sent : (before : List Made) → old.calls ≡ Some before → (after : List Made) × (new.calls ≡ Some after) × (sent_by after ≡ sent_by before ++ asking to ∷ [])

-- the post failed, and nothing else was done
pub record FailedToTick (to : PostTo) (old new : Told) : Type 0 where
  pub why : Failed
  pub call : Asks to (Err why) old new
