-- A tick that was posted.
use Rattle.std.proofs.Common.{◌≡◌, ℕ, List, [], ◌∷◌, ◌++◌, Some, Result, Ok, refl, sym, ap, subst, ◌∙◌}
use Rattle.std.specs.Prelude.{option_map}
use Rattle.std.proofs.lemmas.List.{append_assoc}
use Rattle.addressing.specs.declared.post_to.PostTo.{PostTo}
use Rattle.http_post.specs.OutBytes.{tick_of}
use Rattle.site_model.specs.Calls.{Gave}
use Rattle.site_model.specs.Told.{Made, Told, done, sent_by, sent_if}
use Rattle.site_model.specs.Told.Call.{Post}
use Rattle.site_model.specs.declared.source.Failed.{Failed}
use Rattle.command_line.specs.Ticks.{Asks, HasTicked, asking}

sent_more : (before made : List Made) → sent_by (before ++ made) ≡ sent_by before ++ sent_by made
sent_more [] made = refl
sent_more (m ∷ before) made = ap (λ x. sent_if m.done m.call ++ x) (sent_more before made) ∙ sym (append_assoc (sent_if m.done m.call) (sent_by before) (sent_by made))

exact : (to : PostTo) (host bytes : List ℕ) (result : Result (Unit {0}) Failed) (old new : Told) → host ≡ to.host → bytes ≡ tick_of to
    → Gave (Post host to.port bytes) result old new → Asks to result old new
exact to host bytes result old new a e h = subst (λ b. Gave (Post to.host to.port b) result old new) e (subst (λ x. Gave (Post x to.port bytes) result old new) a h)

pub has_ticked : (to : PostTo) (host bytes : List ℕ) (result : Result (Unit {0}) Failed) (old new : Told) → host ≡ to.host → bytes ≡ tick_of to
    → Gave (Post host to.port bytes) result old new → result ≡ Ok tt → HasTicked to old new
has_ticked to host bytes result old new a e h r = record { call = asked; sent = sent }
  where
    asked : Asks to (Ok tt) old new
    asked = subst (λ x. Asks to x old new) r (exact to host bytes result old new a e h)

    sent : (before : List Made) → old.calls ≡ Some before → (after : List Made) × (new.calls ≡ Some after) × (sent_by after ≡ sent_by before ++ asking to ∷ [])
    sent before p =
        let grown = asked.calls.grown ∙ ap (λ made. option_map (λ l. l ++ made) old.calls) asked.calls.outcome ∙ ap (option_map (λ l. l ++ done (asking to) ∷ [])) p in
        (before ++ done (asking to) ∷ [], grown, sent_more before (done (asking to) ∷ []))
