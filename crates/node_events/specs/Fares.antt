-- How the outs of a node's steps fared, and the steps of the model with the fates that their calls had.
use Rattle.std.specs.Prelude.{ℕ, List, [], ◌∷◌, ◌+◌, ◌≡◌, true, false, None, map}
use Rattle.std.specs.List.{AllByRecursion}
use Rattle.at_base.specs.declared.outs.Out.{Out}
use Rattle.fated_walks.specs.Fated.{Fated, IsWhole, Way, stands_by}
use Rattle.node_at.specs.Doings.{Doing}
use Rattle.node_at.specs.Steps.{if_landed}
use Rattle.node_at.specs.Texts.{IsCallOf, call_by}
use Rattle.node_at.specs.TurnText.{TurnStep}
use Rattle.node_worlds.specs.SentPosts.{records_by}
use Rattle.site_model.specs.Told.{Call, Made, done, failed}

-- An answer or a post left by its call, or that failed; or it failed or wasn't made, and the machine doesn't tell it; or it has no call, as a
-- post to an endpoint without an http URL.
pub data Fare : Type 0 where
  Went : (out : Out) (call : Call) → Fare
  Failed : (out : Out) (call : Call) → Fare
  Untold : (out : Out) (call : Call) → Fare
  Stays : (out : Out) → Fare

abbrev pub way_of : Fare → Way
way_of (Fare.Went out call) = record { out = out; went = true }
way_of (Fare.Failed out call) = record { out = out; went = false }
way_of (Fare.Untold out call) = record { out = out; went = false }
way_of (Fare.Stays out) = record { out = out; went = false }

-- the calls that the outs have
abbrev pub calls_of : List Fare → List Call
calls_of [] = []
calls_of (Fare.Went out call ∷ fs) = call ∷ calls_of fs
calls_of (Fare.Failed out call ∷ fs) = call ∷ calls_of fs
calls_of (Fare.Untold out call ∷ fs) = call ∷ calls_of fs
calls_of (Fare.Stays out ∷ fs) = calls_of fs

-- those that the machine tells
abbrev pub mades_of : List Fare → List Made
mades_of [] = []
mades_of (Fare.Went out call ∷ fs) = done call ∷ mades_of fs
mades_of (Fare.Failed out call ∷ fs) = failed call ∷ mades_of fs
mades_of (Fare.Untold out call ∷ fs) = mades_of fs
mades_of (Fare.Stays out ∷ fs) = mades_of fs

-- how many failed
abbrev pub losses_of : List Fare → ℕ
losses_of [] = 0
losses_of (Fare.Went out call ∷ fs) = losses_of fs
losses_of (Fare.Failed out call ∷ fs) = losses_of fs + 1
losses_of (Fare.Untold out call ∷ fs) = losses_of fs + 1
losses_of (Fare.Stays out ∷ fs) = losses_of fs

-- an out stays exactly where it has no call
abbrev pub IsRightly : Fare → Type 0
IsRightly (Fare.Went out call) = Unit {0}
IsRightly (Fare.Failed out call) = Unit {0}
IsRightly (Fare.Untold out call) = Unit {0}
IsRightly (Fare.Stays out) = IsCallOf out None

-- This is the step of the model for what a node did: all its outs fared so.
pub record IsFared (s : TurnStep) (d : Doing) (f : Fated) : Type 0 where
  pub fares : List Fare
  pub ways : f.ways ≡ map way_of fares
  pub whole : IsWhole f
  pub calls : calls_of fares ≡ map call_by s.leaving
  pub made : mades_of fares ≡ d.made
  pub lost : losses_of fares ≡ d.lost
  pub rightly : AllByRecursion IsRightly fares
  pub entry : f.entry ≡ s.entry
  pub records : stands_by f.entry f.landed ≡ records_by (if_landed s.landed s.entry)
  pub behind : f.outcome.book ≡ s.behind
  pub came : f.outcome.effects ≡ s.came

abbrev pub AreFared : List TurnStep → List Doing → List Fated → Type 0
AreFared [] [] [] = Unit {0}
AreFared (s ∷ ss) (d ∷ ds) (f ∷ fs) = IsFared s d f × AreFared ss ds fs
AreFared ss ds fs = ⊥
