-- The outs of a turn's steps are called by their own calls.
use Rattle.std.specs.Prelude.{ℕ, List, [], ◌∷◌, ◌++◌, ◌≡◌, Bool, true, false, Option, Some, None}
use Rattle.std.proofs.Common.{inl, inr, refl, sym, subst}
use Rattle.addressing.specs.declared.post_to.PostTo.{PostTo}
use Rattle.at_base.specs.declared.outs.Out.{Out}
use Rattle.at_base.specs.declared.outs.Out.TheVariants as outs
use Rattle.at_base.specs.declared.outs.Post.{Post}
use Rattle.at_model.specs.Book.{Book}
use Rattle.at_model.specs.Step.{Outcome, step}
use Rattle.http_post.specs.OutBytes.{has_reason}
use Rattle.node_at.specs.Meanings.{Meaning}
use Rattle.node_at.specs.Meanings.Meaning.{Lost, Refused, Steps, Unread}
use Rattle.node_at.specs.State.{State}
use Rattle.node_at.specs.Texts.{AreLeaving, IsAnswerOf, IsCallOf, IsPostOf, Leaving, goes_to}
use Rattle.node_at.specs.Texts.AreLeaving.{leaves, none, stays}
use Rattle.node_at.specs.TurnText.{AreDue, IsFirst, Steppings, TurnStep}
use Rattle.node_at.specs.TurnText.Steppings.{asked, unasked}
use Rattle.node_at.specs.Turns.{Begun, Turns, busy}
use Rattle.node_at.specs.declared.role.Role.{Role}
use Rattle.node_at.specs.declared.turn.Turned.{Turned}
use Rattle.node_at.specs.declared.turn.Turned.TheVariants as turneds
use Rattle.node_worlds.specs.Crashes.{IsNoPost}
use Rattle.node_worlds.specs.Nets.{begun_in, steps_in}
use Rattle.site_model.specs.Told.{Call, Told}
use Rattle.deliveries.specs.Letters.{AllAreCalled, AreCalled, IsCalled, IsLetter}
use Rattle.deliveries.proofs.TurnForms.{all_join}

no_post : (b : Bool) (status : ℕ) (reply : Option Post) (c : Call) → IsAnswerOf b status reply (Some c) → IsNoPost c
no_post true status reply c h = subst IsNoPost (sym h.is) tt
no_post false status reply c h = absurd h

letter : (p : Post) (c : Call) (to : Option PostTo) → goes_to p.to ≡ to → IsPostOf to p (Some c) → IsLetter p c
letter p c (Some to) e h = record { to = to; goes = e; call = h }
letter p c None e h = absurd h

called : (o : Out) (c : Call) → IsCallOf o (Some c) → IsCalled o c
called (outs.Post p) c h = letter p c (goes_to p.to) refl h
called (outs.Answer status reply) c h = no_post (has_reason status) status reply c h

-- the outs of the model
pub leaving_called : (os : List Out) (xs : List Leaving) → AreLeaving os xs → AreCalled xs
leaving_called os xs none = tt
leaving_called os xs (leaves {os = front} {xs = before} x are call a m) =
    subst AreCalled (sym m) (all_join (λ (y : Leaving). IsCalled y.out y.call) before (x ∷ []) (leaving_called front before are) (called x.out x.call call, tt))
leaving_called os xs (stays {os = front} o are call a) = leaving_called front xs are

first_called : (b : Book) (now status : ℕ) (meaning : Meaning) (s : TurnStep) → IsFirst b now meaning s status → AreCalled s.leaving
first_called b now status (Refused st text) s (e, f) = subst (λ (z : TurnStep). AreCalled z.leaving) (sym e) (tt, tt)
first_called b now status (Steps e) s (is, f) = leaving_called (step b e now s.landed).outs s.leaving is.outcome.leaving
first_called b now status Lost s h = absurd h
first_called b now status Unread s h = absurd h

due_called : (os : List Outcome) (ss : List TurnStep) → AreDue os ss → AllAreCalled ss
due_called [] [] h = tt
due_called [] (s ∷ ss) h = absurd h
due_called (o ∷ os) [] h = absurd h
due_called (o ∷ os) (s ∷ ss) (e, f, g, h) = (leaving_called o.outs s.leaving g.leaving, due_called os ss h)

steppings_called : (now : ℕ) (b : Book) (left : List Outcome) (meaning : Meaning) (steps : List TurnStep) (status : ℕ) → Steppings now b left meaning steps status → AllAreCalled steps
steppings_called now b left meaning steps status (unasked due) = due_called due.done steps due.are
steppings_called now b left meaning steps status (asked first rest is due e) =
    subst AllAreCalled (sym e) (first_called b now status meaning first is, due_called due.done rest due.are)

begun_steps_called : (meaning : Meaning) (now : ℕ) (b : Book) (steps : List TurnStep) → Begun meaning now b steps → AllAreCalled steps
begun_steps_called meaning now b steps Begun.none = tt
begun_steps_called meaning now b steps (Begun.some status left is more) = steppings_called now b left meaning steps status is

busy_called : (b : Book) (steps : List TurnStep) → AllAreCalled steps → AllAreCalled (steps ++ busy b steps)
busy_called b [] h = ((tt, tt), tt)
busy_called b (s ∷ ss) h = all_join (λ (x : TurnStep). AreCalled x.leaving) (s ∷ ss) [] h tt

-- the steps that a turn began
pub begun_called : (first : Turned) (role : Role) (n m : State) (old new : Told) (t : Turns first role n m old new) → AllAreCalled (begun_in first role n m old new t)
begun_called (turneds.Served status) role n m old new t = let w = t.serves.works.0 in steppings_called t.serves.now n.book [] t.serves.meaning w.steps status w.turns
begun_called turneds.Ticked role n m old new t = let w = t.serves.works.0 in steppings_called t.serves.now n.book [] t.serves.meaning w.steps 202 w.turns
begun_called turneds.NoRoom role n m old new t = let w = t.serves.works in begun_steps_called t.serves.meaning t.serves.now n.book w.steps w.begun
begun_called turneds.Halted role n m old new (inl t) = tt
begun_called turneds.Halted role n m old new (inr t) =
    let w = t.1.serves.works in (first_called n.book t.1.serves.now w.status t.1.serves.meaning w.step w.is_first, tt)
begun_called turneds.Closed role n m old new t = tt
begun_called turneds.LinkDown role n m old new t = tt

-- those that it did
pub steps_called : (first : Turned) (role : Role) (n m : State) (old new : Told) (t : Turns first role n m old new) → AllAreCalled (steps_in first role n m old new t)
steps_called (turneds.Served status) role n m old new t = begun_called (turneds.Served status) role n m old new t
steps_called turneds.Ticked role n m old new t = begun_called turneds.Ticked role n m old new t
steps_called turneds.NoRoom role n m old new t = busy_called n.book t.serves.works.steps (begun_called turneds.NoRoom role n m old new t)
steps_called turneds.Halted role n m old new t = tt
steps_called turneds.Closed role n m old new t = tt
steps_called turneds.LinkDown role n m old new t = tt
