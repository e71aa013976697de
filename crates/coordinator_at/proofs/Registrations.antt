-- A seat for which there is room is one seat more.
use Rattle.std.proofs.Common.{ℕ, Option, Some, None, Bool, true, false, ◌≡◌, ◌∙◌, refl, ◌∷◌, ◌++◌, [], ap}
use Rattle.std.specs.Prelude.{if◌then◌else◌}
use Rattle.at_base.specs.declared.event.Moment.{Moment}
use Rattle.at_model.specs.Book.{Enlistment, Transaction}
use Rattle.at_model.specs.Register.{is_late, with_seat}
use Rattle.transaction_at.specs.Moves.{enlisted, sent_or}
use Rattle.transaction_at.specs.Rooms.{has_room}

either : (late : Bool) (now : ℕ) (before : Option ℕ) → sent_or (if late then Some now else None) before ≡ (if late then Some now else before)
either true now before = refl
either false now before = refl

pub enlists : (m : Moment) (t : Transaction) (s : Enlistment) (sent : Option ℕ) (room : ℕ) → sent ≡ (if is_late t.phase s.kind then Some m.now else None) → has_room room t.seats ≡ true → enlisted s sent room t ≡ with_seat m t s
enlists m t s sent room e h =
    ap (λ b. if b then record t { seats = t.seats ++ s ∷ []; sent = sent_or sent t.sent } else t) h
    ∙ ap (λ o. record t { seats = t.seats ++ s ∷ []; sent = o }) (ap (λ o. sent_or o t.sent) e ∙ either (is_late t.phase s.kind) m.now t.sent)
