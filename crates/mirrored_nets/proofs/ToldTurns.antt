-- What the steps of a turn came to on a machine that was told which of its calls is to fail: their end, or the node halted in the first.
use Rattle.std.specs.Prelude.{ℕ, List, [], ◌∷◌, ◌≡◌, ◌⊎◌, Some}
use Rattle.std.proofs.Common.{ap, arith, inl, inr, refl, sym, true≢false, ◌∙◌}
use Rattle.at_base.specs.declared.event.Event.TheVariants as events
use Rattle.at_base.specs.declared.outs.Out.{Out}
use Rattle.at_base.specs.declared.outs.Out.TheVariants as outs
use Rattle.at_model.specs.Book.{Book}
use Rattle.http_post.specs.OutBytes.{has_reason}
use Rattle.node_at.specs.Meanings.{IsFit, Meaning}
use Rattle.node_at.specs.Meanings.Meaning.{Lost, Refused, Steps, Unread}
use Rattle.node_at.specs.Replies.{IsReply, StepsReply}
use Rattle.node_at.specs.State.{State}
use Rattle.node_at.specs.Steps.{status_in}
use Rattle.node_at.specs.TurnText.{IsFirst, Steppings, TurnStep}
use Rattle.node_at.specs.TurnText.Steppings.{asked, unasked}
use Rattle.node_at.specs.Turns.{Turns}
use Rattle.node_at.specs.declared.role.Role.TheVariants.{All}
use Rattle.node_at.specs.declared.turn.Turned.{Turned}
use Rattle.node_at.specs.declared.turn.Turned.TheVariants as turneds
use Rattle.site_memory.specs.Sites.{link_of, told_of}
use Rattle.site_memory.specs.ToldCalls.{LinksHold}
use Rattle.site_memory.specs.declared.machine.MemSite.{MemSite}
use Rattle.site_model.specs.Counts.{Rose}
use Rattle.site_model.specs.Site.{Arming}
use Rattle.site_model.specs.Told.{Link}
use Rattle.mirrored_nets.specs.Took.{IsWhole}
use Rattle.mirrored_nets.proofs.CalledFates.{replied}

reply_status : (os : List Out) → IsReply os → status_in os ≡ 0 → ⊥
reply_status [] h z = h
reply_status (outs.Post post ∷ os) h z = h
reply_status (outs.Answer status reply ∷ os) (h, more) z = true≢false (sym (replied status h) ∙ ap has_reason z)

-- a request is answered with a status
has_status : (reply : StepsReply) (b : Book) (now : ℕ) (meaning : Meaning) (s : TurnStep) (status : ℕ) → IsFit meaning → IsFirst b now meaning s status → status ≡ 0 → ⊥
has_status reply b now (Refused refusal text) s status fit (is, e) z = true≢false (sym fit ∙ ap has_reason (sym e ∙ z))
has_status reply b now (Steps (events.Arrived a)) s status fit (is, e) z = reply_status _ (reply.arrived b a now s.landed) (sym e ∙ z)
has_status reply b now (Steps events.Tick) s status fit (is, e) z = reply_status _ (reply.ticks b now s.landed) (sym e ∙ z)
has_status reply b now (Steps (events.Local l)) s status fit is z = fit.1
has_status reply b now (Steps (events.Due item)) s status fit is z = fit.1
has_status reply b now Lost s status fit is z = is
has_status reply b now Unread s status fit is z = is

is_lost : StepsReply → (b : Book) (now : ℕ) (meaning : Meaning) (steps : List TurnStep) (status : ℕ) → IsFit meaning → Steppings now b [] meaning steps status → status ≡ 0 → meaning ≡ Lost
is_lost reply b now meaning steps status fit (unasked due) z = refl
is_lost reply b now meaning steps status fit (asked first rest is due all) z = absurd (has_status reply b now meaning first status fit is z)

none_rose : (old new : ℕ) → Rose old new → new ≡ 0 → ⊥
none_rose old new rose none = omega (arith, rose, none)

module _ (hold : LinksHold) (reply : StepsReply) (told : Arming) (n node : State) (c behind : MemSite) (tells : (told_of c).counts.arming ≡ Some told) (bytes : List ℕ)
    (brings : link_of c.line ≡ record { open_bytes = []; waiting = bytes ∷ [] }) where
  pub steps_come : (first : Turned) → Turns first All n node (told_of c) (told_of behind) → (first ≡ turneds.NoRoom → ⊥) → IsWhole first ⊎ (first ≡ turneds.Halted)
  steps_come (turneds.Served status) steps room = inl (λ none.
      let s = steps.serves in
      none_rose (told_of c).counts.receive (told_of behind).counts.receive (s.lost (is_lost reply n.book s.now s.meaning s.works.0.steps status s.fit s.works.0.turns none)) (hold behind told (s.later.arming ∙ tells)).2)
  steps_come turneds.Ticked steps room = inl tt
  steps_come turneds.NoRoom steps room = absurd (room refl)
  steps_come turneds.Halted steps room = inr refl
  steps_come turneds.Closed steps room =
      let none = steps.3 (link_of c.line) refl in
      let one : [] ≡ bytes ∷ [] = sym none ∙ ap (λ (l : Link). l.waiting) brings in
      absurd cc
  steps_come turneds.LinkDown steps room = absurd (none_rose (told_of c).counts.accept (told_of behind).counts.accept steps.2 (hold behind told (steps.3 ∙ tells)).1)
