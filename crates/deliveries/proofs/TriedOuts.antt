-- Of outs that were tried, those that were sent.
use Rattle.std.specs.Prelude.{ℕ, List, [], ◌∷◌, ◌++◌}
use Rattle.std.proofs.Common.{refl}
use Rattle.at_base.specs.Numbers.{Numbers}
use Rattle.at_base.specs.declared.outs.Post.{Post}
use Rattle.decision_log.specs.KeptRecords.{Known}
use Rattle.decision_log.specs.Tokens.{Token}
use Rattle.node_at.specs.Doings.{AreDoings, Doing}
use Rattle.node_at.specs.Sends.{Tried}
use Rattle.node_at.specs.Steps.{if_landed, kept_by}
use Rattle.node_at.specs.Texts.{Leaving}
use Rattle.node_at.specs.TurnText.{TurnStep}
use Rattle.node_worlds.specs.SentPosts.{AreSent, Sent, posts_of}
use Rattle.node_worlds.proofs.Crashes.{tried_left}
use Rattle.site_model.specs.Told.{Made}

pub tried_sent : {ts : List Token} {ids : List Numbers} {xs : List Leaving} {made : List Made} {lost : ℕ} → Tried ts ids xs made lost → (ps : List Post) × Sent xs made ps
tried_sent t = let l = tried_left t in (posts_of l.outs, record { went = l.outs; some = l.some; calls = l.calls; posts = refl })

pub doings_sent : (kept : Known) (steps : List TurnStep) (doings : List Doing) → AreDoings kept steps doings → (ps : List Post) × AreSent steps doings ps
doings_sent kept [] [] h = ([], refl)
doings_sent kept [] (d ∷ ds) h = absurd h
doings_sent kept (s ∷ ss) [] h = absurd h
doings_sent kept (s ∷ ss) (d ∷ ds) (h, k) =
    let (qs, one) = tried_sent h.tried in
    let (rs, more) = doings_sent (kept_by (if_landed s.landed s.entry) kept) ss ds k in
    (qs ++ rs, (qs, rs, one, more, refl))
