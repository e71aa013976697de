-- A node's journal, answers and posts are at each moment those of a prefix of its steps.
use Rattle.std.specs.Prelude.{ℕ, List, [], ◌∷◌, ◌++◌, ◌-◌, ◌≡◌, ◌≤◌, length, take, Some}
use Rattle.site_model.specs.Told.{Told, Made, Call, Files, Between, Elapses, IsPrefix, sent_by}
use Rattle.journal_at.specs.Pairs.{Holds}

-- what a step left in the journal, at most one body, and what it sent
pub record Deed : Type 0 where
  pub landed : List (List ℕ)
  pub sent : List Call

abbrev pub landed_of : List Deed → List (List ℕ)
landed_of [] = []
landed_of (d ∷ ds) = d.landed ++ landed_of ds

abbrev pub sent_of : List Deed → List Call
sent_of [] = []
sent_of (d ∷ ds) = d.sent ++ sent_of ds

-- The files hold the bodies of the first k deeds, and nothing more; what was sent is all that those before the k-th sent,
-- and a prefix of what it sent.
pub record AtMoment (live : ℕ) (bodies : List (List ℕ)) (start : List Call) (deeds : List Deed) (sent : List Call) (c : Files) : Type 0 where
  pub k : ℕ
  pub within : k ≤ length deeds
  pub image : Holds live (bodies ++ landed_of (take k deeds)) c
  pub least : IsPrefix (start ++ sent_of (take (k - 1) deeds)) sent
  pub most : IsPrefix sent (start ++ sent_of (take k deeds))

-- so it is at each moment that passes, whatever a crash then leaves
abbrev pub Moments : ℕ → List (List ℕ) → List Deed → Told → Told → Type 0
Moments live bodies deeds old new =
    Elapses old new (λ l c. Between old new l × ((before : List Made) × (old.calls ≡ Some before) × AtMoment live bodies (sent_by before) deeds (sent_by l) c))
